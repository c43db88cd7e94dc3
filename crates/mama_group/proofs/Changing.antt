-- What a turn makes of a group, by the counts that it keeps.
use Rattle.std.proofs.Common.{◌≡◌, ℕ, suc, ◌+◌, ◌-◌, ◌<◌, ◌≤◌, Bool, true, false, cond, eqb, ltb, List, [], ◌∷◌, ◌++◌, length, map, refl, sym, ap, subst, ◌∙◌, append-nil, append_assoc, arith}
use Rattle.std.specs.Prelude.{◌&&◌, ◌||◌, fold}
use Rattle.std.specs.List.{flat_map, list_any, list_all}
use Rattle.std.proofs.lemmas.Bool.{eq-eqb, ne_eqb, eqb-true, eqb-false, lt-ltb}
use Rattle.std.proofs.lemmas.List.{length-map}
use Rattle.std.proofs.lemmas.List.Concat.{flat_map-append}
use Rattle.mama_journal.specs.Journal.{count_of}
use Rattle.mama_event.specs.declared.ids.SubId.{SubId}
use Rattle.mama_event.specs.declared.callback.Callback.{Callback}
use Rattle.mama_event.specs.declared.group.GroupNote.{GroupNote}
use Rattle.mama_event.specs.declared.group.GroupState.{GroupState}
use Rattle.mama_event.specs.declared.group.GroupState.TheVariants as state
use Rattle.mama_event.specs.Object.{same_sub}
use Rattle.mama_event.specs.EqualityLaws.{same_sub-Decides}
use Rattle.mama_rules_queue.specs.Group as rules
use Rattle.mama_rules_queue.specs.Group.{member_after, member_by, state_told, state_of}
use Rattle.mama_rules_queue.specs.GroupTurns.{told_of, calls_heard, state_after, turn_notes}
use Rattle.mama_group.specs.declared.member.Member.{Member}
use Rattle.mama_group.specs.declared.member.Member.TheVariants as kept
use Rattle.mama_group.specs.declared.counts.Counts.{Counts}
use Rattle.mama_group.specs.Table.{has_member, are_distinct}
use Rattle.mama_group.specs.Kept.{member_of, members_by, AreCounted, AreBounded, counts_with, counts_without, IsThere, IsMember, state_by}
use Rattle.mama_group.proofs.Told.{told_state, without_state}
use Rattle.mama_group.proofs.Counting.{IsOnce, count_moved, once, member_called, member_uncalled}

-- ---- counts and tests

pub at_most : {A : Type 0} (test : A → Bool) (xs : List A) → count_of test xs ≤ length xs
at_most test [] = omega arith
at_most test (x ∷ xs) = by (test x) (at_most test xs)
  where
    by : (b : Bool) → count_of test xs ≤ length xs → cond b (suc (count_of test xs)) (count_of test xs) ≤ suc (length xs)
    by true h = omega (arith, h)
    by false h = omega (arith, h)

any_counted : {A : Type 0} (test : A → Bool) (xs : List A) → ltb 0 (count_of test xs) ≡ list_any test xs
any_counted test [] = refl
any_counted test (x ∷ xs) = by (test x) (any_counted test xs)
  where
    by : (b : Bool) → ltb 0 (count_of test xs) ≡ list_any test xs → ltb 0 (cond b (suc (count_of test xs)) (count_of test xs)) ≡ (b || list_any test xs)
    by true h = lt-ltb 0 (suc (count_of test xs)) (omega arith)
    by false h = h

suc_eqb : (a b : ℕ) → eqb (suc a) (suc b) ≡ eqb a b
suc_eqb a b = by (eqb a b) refl
  where
    by : (c : Bool) → eqb a b ≡ c → eqb (suc a) (suc b) ≡ c
    by true e = eq-eqb (suc a) (suc b) (ap (λ (n : ℕ). suc n) (eqb-true a b e))
    by false e = ne_eqb (suc a) (suc b) (λ h. eqb-false a b e (omega (arith, h)))

all_counted : {A : Type 0} (test : A → Bool) (xs : List A) → eqb (count_of test xs) (length xs) ≡ list_all test xs
all_counted test [] = refl
all_counted test (x ∷ xs) = by (test x) (all_counted test xs)
  where
    by : (b : Bool) → eqb (count_of test xs) (length xs) ≡ list_all test xs → eqb (cond b (suc (count_of test xs)) (count_of test xs)) (suc (length xs)) ≡ (b && list_all test xs)
    by true h = suc_eqb (count_of test xs) (length xs) ∙ h
    by false h = let most = at_most test xs in ne_eqb (count_of test xs) (suc (length xs)) (λ e. omega (arith, e, most))

abbrev picked : Bool → Bool → Bool → GroupState
picked ended waiting stale = cond ended state.Ended (cond waiting state.Waiting (cond stale state.Stale state.Fresh))

-- the state by the counts is that of the members
pub state_counted : (c : Counts) (ms : List rules.Member) → AreCounted c ms → state_by c ≡ state_of ms
state_counted c ms h =
    let ended : eqb c.ended c.members ≡ list_all rules.is_ended ms = ap (λ (n : ℕ). eqb n c.members) h.ended ∙ ap (λ (n : ℕ). eqb (count_of rules.is_ended ms) n) h.members ∙ all_counted rules.is_ended ms in
    let waiting : ltb 0 c.waiting ≡ list_any rules.is_waiting ms = ap (λ (n : ℕ). ltb 0 n) h.waiting ∙ any_counted rules.is_waiting ms in
    let stale : ltb 0 c.stale ≡ list_any rules.is_stale ms = ap (λ (n : ℕ). ltb 0 n) h.stale ∙ any_counted rules.is_stale ms in
    ap (λ (b : Bool). picked b (ltb 0 c.waiting) (ltb 0 c.stale)) ended
    ∙ ap (λ (b : Bool). picked (list_all rules.is_ended ms) b (ltb 0 c.stale)) waiting
    ∙ ap (λ (b : Bool). picked (list_all rules.is_ended ms) (list_any rules.is_waiting ms) b) stale

pub bounded : (c : Counts) (ms : List rules.Member) → AreCounted c ms → AreBounded c
bounded c ms h = record {
  waiting = let most = at_most rules.is_waiting ms in omega (arith, most, h.members, h.waiting);
  stale = let most = at_most rules.is_stale ms in omega (arith, most, h.members, h.stale);
  ended = let most = at_most rules.is_ended ms in omega (arith, most, h.members, h.ended);
}

-- ---- a member that is there is counted

counted_step : (test : rules.Member → Bool) (f : SubId → rules.Member) (s m : SubId) (ms : List SubId) (here : Bool) → same_sub s m ≡ here → (t : Bool) → test (f m) ≡ t → (here || has_member s ms) ≡ true → test (f s) ≡ true
    → (has_member s ms ≡ true → 0 < count_of test (map f ms)) → 0 < cond t (suc (count_of test (map f ms))) (count_of test (map f ms))
counted_step test f s m ms here e true u has is more = omega arith
counted_step test f s m ms true e false u has is more =
    let at : s ≡ m = (same_sub-Decides s m).0 e in
    let bad : true ≡ false = sym is ∙ ap (λ (x : SubId). test (f x)) at ∙ u in
    absurd cc
counted_step test f s m ms false e false u has is more = more has

counted_there : (test : rules.Member → Bool) (f : SubId → rules.Member) (s : SubId) (ms : List SubId) → has_member s ms ≡ true → test (f s) ≡ true → 0 < count_of test (map f ms)
counted_there test f s [] has is = absurd cc
counted_there test f s (m ∷ ms) has is = counted_step test f s m ms (same_sub s m) refl (test (f m)) refl has is (λ h. counted_there test f s ms h is)

pub there_is : (m : Member) (c : Counts) (f : SubId → rules.Member) (s : SubId) (ms : List SubId) → has_member s ms ≡ true → f s ≡ member_of m → AreCounted c (map f ms) → IsThere m c
there_is kept.Waiting c f s ms has e h = let some = counted_there rules.is_waiting f s ms has (ap rules.is_waiting e) in omega (arith, some, h.waiting)
there_is kept.Fresh c f s ms has e h = tt
there_is kept.Stale c f s ms has e h = let some = counted_there rules.is_stale f s ms has (ap rules.is_stale e) in omega (arith, some, h.stale)
there_is kept.Ended c f s ms has e h = let some = counted_there rules.is_ended f s ms has (ap rules.is_ended e) in omega (arith, some, h.ended)

-- ---- the counts after one member changed

waiting_without : (m : Member) (c : Counts) → IsThere m c → (counts_without m c).waiting + cond (rules.is_waiting (member_of m)) 1 0 ≡ c.waiting
waiting_without kept.Waiting c h = omega (arith, h)
waiting_without kept.Fresh c h = omega arith
waiting_without kept.Stale c h = omega arith
waiting_without kept.Ended c h = omega arith

stale_without : (m : Member) (c : Counts) → IsThere m c → (counts_without m c).stale + cond (rules.is_stale (member_of m)) 1 0 ≡ c.stale
stale_without kept.Waiting c h = omega arith
stale_without kept.Fresh c h = omega arith
stale_without kept.Stale c h = omega (arith, h)
stale_without kept.Ended c h = omega arith

ended_without : (m : Member) (c : Counts) → IsThere m c → (counts_without m c).ended + cond (rules.is_ended (member_of m)) 1 0 ≡ c.ended
ended_without kept.Waiting c h = omega arith
ended_without kept.Fresh c h = omega arith
ended_without kept.Stale c h = omega arith
ended_without kept.Ended c h = omega (arith, h)

members_without : (m : Member) (c : Counts) → (counts_without m c).members ≡ c.members
members_without kept.Waiting c = refl
members_without kept.Fresh c = refl
members_without kept.Stale c = refl
members_without kept.Ended c = refl

waiting_with : (m : Member) (c : Counts) → (counts_with m c).waiting ≡ c.waiting + cond (rules.is_waiting (member_of m)) 1 0
waiting_with kept.Waiting c = refl
waiting_with kept.Fresh c = omega arith
waiting_with kept.Stale c = omega arith
waiting_with kept.Ended c = omega arith

stale_with : (m : Member) (c : Counts) → (counts_with m c).stale ≡ c.stale + cond (rules.is_stale (member_of m)) 1 0
stale_with kept.Waiting c = omega arith
stale_with kept.Fresh c = omega arith
stale_with kept.Stale c = refl
stale_with kept.Ended c = omega arith

ended_with : (m : Member) (c : Counts) → (counts_with m c).ended ≡ c.ended + cond (rules.is_ended (member_of m)) 1 0
ended_with kept.Waiting c = omega arith
ended_with kept.Fresh c = omega arith
ended_with kept.Stale c = omega arith
ended_with kept.Ended c = refl

members_with : (m : Member) (c : Counts) → (counts_with m c).members ≡ c.members
members_with kept.Waiting c = refl
members_with kept.Fresh c = refl
members_with kept.Stale c = refl
members_with kept.Ended c = refl

-- a count that is less by what one was, and more by what it is
field_moved : (w0 w1 w2 a b cf cg a0 b0 : ℕ) → w1 + a ≡ w0 → w2 ≡ w1 + b → cg + a0 ≡ cf + b0 → a0 ≡ a → b0 ≡ b → w0 ≡ cf → w2 ≡ cg
field_moved w0 w1 w2 a b cf cg a0 b0 less more moved was is counted = omega arith

pub counts_moved : (f g : SubId → rules.Member) (s : SubId) (ms : List SubId) (from to : Member) (c : Counts) → ((m : SubId) → same_sub s m ≡ false → g m ≡ f m) → IsOnce s ms
    → f s ≡ member_of from → g s ≡ member_of to → IsThere from c → AreCounted c (map f ms) → AreCounted (counts_with to (counts_without from c)) (map g ms)
counts_moved f g s ms from to c alike once was is there h =
    let less : Counts = counts_without from c in
    record {
      members = members_with to less ∙ members_without from c ∙ h.members ∙ length-map ms f ∙ sym (length-map ms g);
      waiting = field_moved _ _ _ _ _ _ _ _ _ (waiting_without from c there) (waiting_with to less) (count_moved rules.is_waiting f g s ms alike once)
          (ap (λ (m : rules.Member). cond (rules.is_waiting m) 1 0) was) (ap (λ (m : rules.Member). cond (rules.is_waiting m) 1 0) is) h.waiting;
      stale = field_moved _ _ _ _ _ _ _ _ _ (stale_without from c there) (stale_with to less) (count_moved rules.is_stale f g s ms alike once)
          (ap (λ (m : rules.Member). cond (rules.is_stale m) 1 0) was) (ap (λ (m : rules.Member). cond (rules.is_stale m) 1 0) is) h.stale;
      ended = field_moved _ _ _ _ _ _ _ _ _ (ended_without from c there) (ended_with to less) (count_moved rules.is_ended f g s ms alike once)
          (ap (λ (m : rules.Member). cond (rules.is_ended m) 1 0) was) (ap (λ (m : rules.Member). cond (rules.is_ended m) 1 0) is) h.ended;
    }

-- ---- a turn

told_still : (s : SubId) (notes : List GroupNote) (a b : GroupState) → member_by (flat_map (told_of s) (notes ++ state_told a b)) ≡ member_by (flat_map (told_of s) notes)
told_still s notes a b =
    ap member_by (flat_map-append (told_of s) notes (state_told a b) ∙ ap (λ (x : List Callback). flat_map (told_of s) notes ++ x) (told_state s a b) ∙ append-nil (flat_map (told_of s) notes))

-- the counts after a turn are those of its members, and so there are no more of a kind than there are members
pub turn_counted : (members : List SubId) (notes : List GroupNote) (s : SubId) (calls : List Callback) (old : Counts) (from to : Member)
    → AreCounted old (members_by members notes) → are_distinct [] members ≡ true → IsMember s from members notes → member_of to ≡ fold member_after (member_of from) calls
    → AreCounted (counts_with to (counts_without from old)) (members_by members (notes ++ calls_heard s calls))
turn_counted members notes s calls old from to counted distinct member moved =
    let f : SubId → rules.Member = λ m. member_by (flat_map (told_of m) notes) in
    let g : SubId → rules.Member = λ m. member_by (flat_map (told_of m) (notes ++ calls_heard s calls)) in
    let is : f s ≡ member_of from = sym member.1 in
    let becomes : g s ≡ member_of to = member_called s notes calls ∙ ap (λ (m : rules.Member). fold member_after m calls) is ∙ sym moved in
    let there : IsThere from old = there_is from old f s members member.0 is counted in
    let alike : (m : SubId) → same_sub s m ≡ false → g m ≡ f m = λ m other. member_uncalled s m notes calls other in
    counts_moved f g s members from to old alike (once s members distinct member.0) is becomes there counted

pub turn_bounded : (members : List SubId) (notes : List GroupNote) (s : SubId) (calls : List Callback) (old : Counts) (from to : Member)
    → AreCounted old (members_by members notes) → are_distinct [] members ≡ true → IsMember s from members notes → member_of to ≡ fold member_after (member_of from) calls
    → AreBounded (counts_with to (counts_without from old))
turn_bounded members notes s calls old from to counted distinct member moved =
    bounded (counts_with to (counts_without from old)) (members_by members (notes ++ calls_heard s calls)) (turn_counted members notes s calls old from to counted distinct member moved)

-- what is heard, the counts, and the member are those of a turn
pub record IsTurn (members : List SubId) (notes : List GroupNote) (s : SubId) (calls : List Callback) (counts : Counts) (to : Member) (heard : List GroupNote) : Type 0 where
  pub turn : heard ≡ turn_notes members notes s calls
  pub counted : AreCounted counts (members_by members (notes ++ heard))
  pub member : member_of to ≡ member_by (flat_map (told_of s) (notes ++ heard))

pub turn_is : (members : List SubId) (notes : List GroupNote) (s : SubId) (calls : List Callback) (old new : Counts) (from to : Member) (heard : List GroupNote)
    → AreCounted old (members_by members notes) → are_distinct [] members ≡ true → IsMember s from members notes
    → member_of to ≡ fold member_after (member_of from) calls → new ≡ counts_with to (counts_without from old)
    → heard ≡ calls_heard s calls ++ state_told (state_by old) (state_by new) → IsTurn members notes s calls new to heard
turn_is members notes s calls old new from to heard counted distinct member moved next told =
    let f : SubId → rules.Member = λ m. member_by (flat_map (told_of m) notes) in
    let behind : List GroupNote = notes ++ calls_heard s calls in
    let g : SubId → rules.Member = λ m. member_by (flat_map (told_of m) behind) in
    let becomes : g s ≡ member_of to = member_called s notes calls ∙ ap (λ (m : rules.Member). fold member_after m calls) (sym member.1) ∙ sym moved in
    let same : AreCounted new (map g members) =
    subst (λ (c : Counts). AreCounted c (map g members)) (sym next) (turn_counted members notes s calls old from to counted distinct member moved) in
    let was : state_by old ≡ state_after members notes = state_counted old (map f members) counted in
    let now : state_by new ≡ state_after members behind = state_counted new (map g members) same in
    let whole : notes ++ heard ≡ behind ++ state_told (state_by old) (state_by new) =
    ap (λ (x : List GroupNote). notes ++ x) told ∙ sym (append_assoc notes (calls_heard s calls) (state_told (state_by old) (state_by new))) in
    record {
      turn = told ∙ ap (λ (a : GroupState). calls_heard s calls ++ state_told a (state_by new)) was ∙ ap (λ (b : GroupState). calls_heard s calls ++ state_told (state_after members notes) b) now;
      counted = subst (AreCounted new) (sym (ap (members_by members) whole ∙ without_state members members behind (state_by old) (state_by new))) same;
      member = sym becomes ∙ sym (ap (λ (x : List GroupNote). member_by (flat_map (told_of s) x)) whole ∙ told_still s behind (state_by old) (state_by new));
    }
