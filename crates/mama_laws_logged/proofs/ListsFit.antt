-- What groups hear and watches note and wish is such as a log may have, where what their queue takes is.
use Rattle.std.specs.Prelude.{◌&&◌, ◌||◌, not, nat_lt, nat_le, if◌then◌else◌}
use Rattle.std.specs.List.{AllByRecursion, flat_map, list_any}
use Rattle.std.proofs.Common.{◌≡◌, ℕ, suc, ◌^◌, ◌<◌, ◌≤◌, ◌==◌, Bool, true, false, List, [], ◌∷◌, ◌++◌, length, refl, subst, arith}
use Rattle.std.proofs.lemmas.Bool.{and_parts, leb-true}
use Rattle.mama_journal.specs.Journal.{first_said, puts}
use Rattle.mama_event.specs.Object.{same_sub, same_timer, same_object}
use Rattle.mama_event.specs.GroupStates.{same_group_state}
use Rattle.mama_event.specs.EqualityLaws.{same_object-Decides}
use Rattle.mama_event.specs.declared.ids.SubId.{SubId}
use Rattle.mama_event.specs.declared.ids.TimerId.{TimerId}
use Rattle.mama_event.specs.declared.ids.ObjectId.{ObjectId}
use Rattle.mama_event.specs.declared.ids.ObjectId.TheVariants.{Sub, Timer, Inbox}
use Rattle.mama_event.specs.declared.callback.Callback.TheVariants as on
use Rattle.mama_event.specs.declared.order.Order.{Order}
use Rattle.mama_event.specs.declared.group.GroupState.{GroupState}
use Rattle.mama_event.specs.declared.group.GroupNote.TheVariants as grouped
use Rattle.mama_event.specs.declared.watch.WatchRow.{WatchRow}
use Rattle.mama_event.specs.declared.watch.WatchNote.{WatchNote}
use Rattle.mama_event.specs.declared.watch.WatchNote.TheVariants as watched
use Rattle.mama_event.specs.declared.to_bridge.BridgeNote.TheVariants as b
use Rattle.mama_event.specs.declared.to_queue.QueueNote.{QueueNote}
use Rattle.mama_rules_queue.specs.Queue.{Deed, handled, called, to_bridge, begins_in, stops_in, is_create, is_live, is_live_after, is_muted, make_in, context_of, messages_of, deeds, deeds_at, queue_puts_at}
use Rattle.mama_rules_queue.specs.Group.{heard_of, state_told, group_state, group_notes_at, group_notes}
use Rattle.mama_rules_queue.specs.Watch.{lacks_image, is_missed, ticked, counted_at, counted, watch_note, watch_notes_at, watch_notes, wish_in, wishes_at, watched_puts_at}
use Rattle.mama_log_line.specs.Names.{NamesData, IsSub}
use Rattle.mama_log_line.specs.Entering.{MayOrder, MayHearGroup, MayNote}
use Rattle.mama_laws_genuine.proofs.Elements.{all_append, all_push, all_if, all_any, all_flat, all_flat_map, all_puts_after, all_puts_known}
use Rattle.mama_laws_logged.proofs.Fits.{IsObject, IsWatch, Takes, DeedFits, QueuePutFits, OrderPut}
use Rattle.mama_laws_logged.proofs.QueuesFit.{deeds_fit, deeds_at_fit, put_at_fits, ordered_at}

-- ---- what is live is declared

either : {P : Type 0} (one two : Bool) → (one ≡ true → P) → (two ≡ true → P) → (one || two) ≡ true → P
either true two left right h = left refl
either false two left right h = right h

begins_says : (names : NamesData) (o : ObjectId) (d : Deed) → DeedFits names d → begins_in o d ≡ true → IsObject names o
begins_says names o (handled sub msg) fits begins = absurd cc
begins_says names o (called object call given) fits begins =
    let same = (and_parts (same_object object o) (is_create call) begins).0 in
    subst (IsObject names) ((same_object-Decides object o).0 same) fits.object

live_says : (names : NamesData) (o : ObjectId) (live : Bool) (ds : List Deed) → (live ≡ true → IsObject names o) → AllByRecursion (DeedFits names) ds → is_live_after o live ds ≡ true → IsObject names o
live_says names o live [] known all lives = known lives
live_says names o live (d ∷ ds) known all lives =
    live_says names o ((live || begins_in o d) && not (stops_in o d)) ds
    (λ still. either live (begins_in o d) known (begins_says names o d all.0) (and_parts (live || begins_in o d) (not (stops_in o d)) still).0) all.1 lives

missed_says : (names : NamesData) (s : SubId) (journal : List (ℕ × QueueNote)) (ds : List Deed) → AllByRecursion (DeedFits names) ds → is_missed s journal ds ≡ true → IsSub names s
missed_says names s journal ds all missed =
    let image : Bool = lacks_image (context_of (first_said (λ (e : ℕ × QueueNote). make_in (Sub s) e.1) journal) (messages_of s ds)) in
    let there = (and_parts (is_live ds (Sub s) && not (is_muted (Sub s) ds)) image missed).0 in
    live_says names (Sub s) false ds (λ never. absurd cc) all (and_parts (is_live ds (Sub s)) (not (is_muted (Sub s) ds)) there).0

-- ---- groups

heard_fits : (names : NamesData) (members : List SubId) (d : Deed) → DeedFits names d → AllByRecursion (MayHearGroup names) (heard_of members d)
heard_fits names members (handled sub msg) fits = tt
heard_fits names members (called (Sub s) call given) fits =
    all_if (MayHearGroup names) (list_any (same_sub s) members) (grouped.Call s call ∷ []) [] ((fits.object, fits.call), tt) tt
heard_fits names members (called (Timer t) call given) fits = tt
heard_fits names members (called (Inbox i) call given) fits = tt

told_fits : (names : NamesData) (before after : GroupState) → AllByRecursion (MayHearGroup names) (state_told before after)
told_fits names before after = all_if (MayHearGroup names) (same_group_state before after) [] (grouped.State after ∷ []) tt (tt, tt)

-- ---- watches

abbrev IsTick : ℕ → Type 0
IsTick moment = moment < 2 ^ 64

ticked_fits : (names : NamesData) (t : TimerId) (d : Deed) → DeedFits names d → AllByRecursion IsTick (ticked t d)
ticked_fits names t (called (Timer timer) (on.Tick moment) given) fits = all_if IsTick (same_timer timer t) (moment ∷ []) [] (fits.call, tt) tt
ticked_fits names t _ fits = tt

noted_fits : (row : WatchRow) → IsWatch row → (number moment : ℕ) → IsTick moment → AllByRecursion MayNote (watch_note row.retries number moment)
noted_fits row fits number moment tick = by (nat_le number row.retries) (leb-true number row.retries)
  where
    by : (b : Bool) → (b ≡ true → number ≤ row.retries)
        → AllByRecursion MayNote (if b then watched.Retry number moment ∷ [] else (if number == suc row.retries then watched.Timeout moment ∷ [] else []))
    by true low = let most = low refl in ((omega (arith, most, fits.retries), tick), tt)
    by false low = all_if MayNote (number == suc row.retries) (watched.Timeout moment ∷ []) [] (tick, tt) tt

wish_fits : (names : NamesData) (row : WatchRow) → IsWatch row → IsSub names row.sub → (n : WatchNote) → AllByRecursion (QueuePutFits names) (wish_in row n)
wish_fits names row fits is (watched.Retry count moment) =
    all_if (QueuePutFits names) (nat_lt 0 row.sender) (to_bridge (b.RecapWish row.sub row.sender) ∷ []) [] ((is, fits.sender), tt) tt
wish_fits names row fits is (watched.Timeout moment) = tt

wished_fits : (names : NamesData) (row : WatchRow) (n : WatchNote) → AllByRecursion (OrderPut names) (wish_in row n)
wished_fits names row (watched.Retry count moment) = all_if (OrderPut names) (nat_lt 0 row.sender) (to_bridge (b.RecapWish row.sub row.sender) ∷ []) [] (tt, tt) tt
wished_fits names row (watched.Timeout moment) = tt

-- a watch wishes only where its subscription is missed
missed_fits : (names : NamesData) (row : WatchRow) → IsWatch row → (missed : Bool) → (missed ≡ true → IsSub names row.sub) → (notes : ℕ → List WatchNote) (moments : List ℕ)
    → AllByRecursion (QueuePutFits names) (flat_map (wish_in row) (flat_map notes (if missed then moments else [])))
missed_fits names row fits true is notes moments = all_flat (QueuePutFits names) (wish_in row) (wish_fits names row fits (is refl)) (flat_map notes moments)
missed_fits names row fits false is notes moments = tt

module _ (names : NamesData) (orders : ObjectId → ℕ → List Order)
    (fit : (o : ObjectId) (call : ℕ) → AllByRecursion (MayOrder names) (orders o call) × (length (orders o call) ≤ 8)) where
  abbrev Taken : ℕ × QueueNote → Type 0
  Taken e = Takes names e.1

  group_at_fits : (members : List SubId) (before : List (ℕ × QueueNote)) (e : ℕ × QueueNote) → AllByRecursion Taken before → Taken e
      → AllByRecursion (MayHearGroup names) (group_notes_at orders members before e)
  group_at_fits members before e all h =
      let was = group_state members (deeds orders before) in
      let is = group_state members (deeds orders (before ++ e ∷ [])) in
      all_append (MayHearGroup names) (flat_map (heard_of members) (deeds_at orders before e)) (state_told was is)
      (all_flat_map (DeedFits names) (MayHearGroup names) (heard_of members) (heard_fits names members) (deeds_at orders before e) (deeds_at_fit names orders fit before e all h))
      (told_fits names was is)

  -- what a group hears
  pub group_fits : (members : List SubId) (journal : List (ℕ × QueueNote)) → AllByRecursion Taken journal → AllByRecursion (MayHearGroup names) (group_notes orders members journal)
  group_fits members journal all = all_puts_known Taken (MayHearGroup names) (group_notes_at orders members) (group_at_fits members) [] journal tt all

  counted_fits : (row : WatchRow) (before : List (ℕ × QueueNote)) (e : ℕ × QueueNote) → AllByRecursion Taken before → Taken e → AllByRecursion IsTick (counted_at orders row before e)
  counted_fits row before e all h =
      all_if IsTick (is_missed row.sub (before ++ e ∷ []) (deeds orders (before ++ e ∷ []))) (flat_map (ticked row.timer) (deeds_at orders before e)) []
      (all_flat_map (DeedFits names) IsTick (ticked row.timer) (ticked_fits names row.timer) (deeds_at orders before e) (deeds_at_fit names orders fit before e all h)) tt

  watch_at_fits : (row : WatchRow) → IsWatch row → (before : List (ℕ × QueueNote)) (e : ℕ × QueueNote) → AllByRecursion Taken before → Taken e
      → AllByRecursion MayNote (watch_notes_at orders row before e)
  watch_at_fits row fits before e all h =
      let number : ℕ = suc (counted orders row before) in
      all_flat_map IsTick MayNote (watch_note row.retries number) (noted_fits row fits number) (counted_at orders row before e) (counted_fits row before e all h)

  -- what a watch notes
  pub watch_fits : (row : WatchRow) → IsWatch row → (journal : List (ℕ × QueueNote)) → AllByRecursion Taken journal → AllByRecursion MayNote (watch_notes orders row journal)
  watch_fits row fits journal all = all_puts_known Taken MayNote (watch_notes_at orders row) (watch_at_fits row fits) [] journal tt all

  -- ---- puts, with the wishes

  row_fits : (row : WatchRow) → IsWatch row → (before : List (ℕ × QueueNote)) (e : ℕ × QueueNote) → AllByRecursion Taken before → Taken e
      → AllByRecursion (QueuePutFits names) (flat_map (wish_in row) (watch_notes_at orders row before e))
  row_fits row fits before e all h =
      let journal : List (ℕ × QueueNote) = before ++ e ∷ [] in
      missed_fits names row fits (is_missed row.sub journal (deeds orders journal))
      (λ missed. missed_says names row.sub journal (deeds orders journal) (deeds_fit names orders fit journal (all_push Taken before e all h)) missed)
      (watch_note row.retries (suc (counted orders row before))) (flat_map (ticked row.timer) (deeds_at orders before e))

  watched_at_fits : (rows : List WatchRow) → AllByRecursion IsWatch rows → (before : List (ℕ × QueueNote)) (e : ℕ × QueueNote) → AllByRecursion Taken before → Taken e
      → AllByRecursion (QueuePutFits names) (watched_puts_at orders rows before e)
  watched_at_fits rows fits before e all h =
      all_append (QueuePutFits names) (queue_puts_at orders before e) (wishes_at orders rows before e) (put_at_fits names orders fit before e all h)
      (all_flat_map IsWatch (QueuePutFits names) (λ (row : WatchRow). flat_map (wish_in row) (watch_notes_at orders row before e)) (λ row one. row_fits row one before e all h) rows fits)

  -- what a queue puts
  pub queue_fits : (rows : List WatchRow) → AllByRecursion IsWatch rows → (journal : List (ℕ × QueueNote)) → AllByRecursion Taken journal
      → AllByRecursion (QueuePutFits names) (puts (watched_puts_at orders rows) journal)
  queue_fits rows fits journal all = all_puts_known Taken (QueuePutFits names) (watched_puts_at orders rows) (watched_at_fits rows fits) [] journal tt all

  wished_at : (rows : List WatchRow) (before : List (ℕ × QueueNote)) (e : ℕ × QueueNote) → AllByRecursion (OrderPut names) (watched_puts_at orders rows before e)
  wished_at rows before e =
      all_append (OrderPut names) (queue_puts_at orders before e) (wishes_at orders rows before e) (ordered_at names orders fit before e)
      (all_flat (OrderPut names) (λ (row : WatchRow). flat_map (wish_in row) (watch_notes_at orders row before e))
      (λ row. all_flat (OrderPut names) (wish_in row) (wished_fits names row) (watch_notes_at orders row before e)) rows)

  -- what a queue puts by any journal
  pub orders_put : (rows : List WatchRow) (journal : List (ℕ × QueueNote)) → AllByRecursion (OrderPut names) (puts (watched_puts_at orders rows) journal)
  orders_put rows journal =
      all_puts_after (λ (e : ℕ × QueueNote). Unit {0}) (OrderPut names) (watched_puts_at orders rows) (λ before e h. wished_at rows before e)
      [] journal (all_any (λ (e : ℕ × QueueNote). Unit {0}) (λ e. tt) journal)
