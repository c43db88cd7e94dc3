-- The state that a group was told last is its state by its members.
use Rattle.std.specs.Prelude.{fold, if◌then◌else◌}
use Rattle.std.specs.List.{list_any, flat_map}
use Rattle.std.proofs.Common.{◌≡◌, ◌<◌, ℕ, Bool, true, false, List, [], ◌∷◌, ◌++◌, length, refl, ap, sym, ◌∙◌, append-nil, append_assoc, arith}
use Rattle.mama_journal.specs.Journal.{puts_after}
use Rattle.mama_event.specs.declared.ids.SubId.{SubId}
use Rattle.mama_event.specs.declared.ids.ObjectId.{ObjectId}
use Rattle.mama_event.specs.declared.ids.ObjectId.TheVariants.{Sub, Timer, Inbox}
use Rattle.mama_event.specs.declared.order.Order.{Order}
use Rattle.mama_event.specs.declared.group.GroupNote.{GroupNote}
use Rattle.mama_event.specs.declared.group.GroupNote.TheVariants as note
use Rattle.mama_event.specs.declared.group.GroupState.{GroupState}
use Rattle.mama_event.specs.declared.group.GroupState.TheVariants as state
use Rattle.mama_event.specs.declared.to_queue.QueueNote.{QueueNote}
use Rattle.mama_event.specs.Object.{same_sub}
use Rattle.mama_event.specs.GroupStates.{same_group_state}
use Rattle.mama_event.specs.EqualityLaws.{same_group_state-Decides}
use Rattle.mama_rules_queue.specs.Queue.{Deed, handled, called, deeds, deeds_at}
use Rattle.mama_rules_queue.specs.Group.{heard_of, state_told, group_state, group_notes, group_notes_at}
use Rattle.mama_laws_callbacks.specs.Grouped.{state_now, last_state}

fold_states : (now : GroupState) (xs ys : List GroupNote) → fold state_now now (xs ++ ys) ≡ fold state_now (fold state_now now xs) ys
fold_states now [] ys = refl
fold_states now (x ∷ xs) ys = fold_states (state_now now x) xs ys

module _ (orders : ObjectId → ℕ → List Order) (members : List SubId) where
  abbrev by_members : List (ℕ × QueueNote) → GroupState
  by_members journal = group_state members (deeds orders journal)

  -- a callback tells no state
  no_state : (now : GroupState) (d : Deed) → fold state_now now (heard_of members d) ≡ now
  no_state now (called (Sub s) call os) = by (list_any (same_sub s) members)
    where
      by : (b : Bool) → fold state_now now (if b then note.Call s call ∷ [] else []) ≡ now
      by true = refl
      by false = refl
  no_state now (called (Timer t) call os) = refl
  no_state now (called (Inbox i) call os) = refl
  no_state now (handled sub msg) = refl

  no_states : (now : GroupState) (ds : List Deed) → fold state_now now (flat_map (heard_of members) ds) ≡ now
  no_states now [] = refl
  no_states now (d ∷ ds) =
      fold_states now (heard_of members d) (flat_map (heard_of members) ds)
      ∙ ap (λ (s : GroupState). fold state_now s (flat_map (heard_of members) ds)) (no_state now d) ∙ no_states now ds

  other_told : (a b : GroupState) → fold state_now a (state_told a b) ≡ b
  other_told a b = by (same_group_state a b) refl
    where
      by : (t : Bool) → same_group_state a b ≡ t → fold state_now a (if t then [] else note.State b ∷ []) ≡ b
      by true same = (same_group_state-Decides a b).0 same
      by false other = refl

  states_told : (now : GroupState) (before es : List (ℕ × QueueNote)) → now ≡ by_members before → fold state_now now (puts_after (group_notes_at orders members) before es) ≡ by_members (before ++ es)
  states_told now before [] is = is ∙ ap by_members (sym (append-nil before))
  states_told now before (e ∷ es) is =
      let later : List (ℕ × QueueNote) = before ++ e ∷ [] in
      let calls : List GroupNote = flat_map (heard_of members) (deeds_at orders before e) in
      let told : List GroupNote = state_told (by_members before) (by_members later) in
      let here : fold state_now now (calls ++ told) ≡ by_members later =
      fold_states now calls told ∙ ap (λ (s : GroupState). fold state_now s told) (no_states now (deeds_at orders before e) ∙ is) ∙ other_told (by_members before) (by_members later) in
      fold_states now (calls ++ told) (puts_after (group_notes_at orders members) later es)
      ∙ states_told (fold state_now now (calls ++ told)) later es here
      ∙ ap by_members (append_assoc before (e ∷ []) es)

-- a group with a member waits at first
waits_first : (orders : ObjectId → ℕ → List Order) (members : List SubId) → 0 < length members → state.Waiting ≡ by_members orders members []
waits_first orders [] any = absurd (omega (arith, any))
waits_first orders (s ∷ ss) any = refl

pub state_is_told : (orders : ObjectId → ℕ → List Order) (members : List SubId) (journal : List (ℕ × QueueNote)) → 0 < length members → last_state (group_notes orders members journal) ≡ group_state members (deeds orders journal)
state_is_told orders members journal any = states_told orders members state.Waiting [] journal (waits_first orders members any)
