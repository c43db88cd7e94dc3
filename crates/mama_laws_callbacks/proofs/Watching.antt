-- A watch notes a timeout only at a tick that counts, after as many as it has retries, and once.
use Rattle.std.specs.Prelude.{◌⊎◌, not, nat_eq, nat_le, slice_index_or, if◌then◌else◌}
use Rattle.std.specs.List.{AllByRecursion, AllZip, list_any, flat_map}
use Rattle.std.proofs.Common.{◌≡◌, ℕ, suc, ◌+◌, ◌<◌, ◌≤◌, ◌==◌, Bool, true, false, ◌&&◌, ◌||◌, List, [], ◌∷◌, ◌++◌, length, refl, ap, sym, subst, ◌∙◌, arith, inl, inr, append-nil, append_assoc, length-append}
use Rattle.std.proofs.lemmas.Bool.{leb-true, leb-false, eqb-true, eqb-false, eq-eqb}
use Rattle.std.proofs.lemmas.List.Concat.{flat_map-append}
use Rattle.mama_journal.specs.Journal.{puts, first_said}
use Rattle.mama_journal.specs.EntryLaws.{by_entries, puts-push}
use Rattle.mama_event.specs.Arrival.{code_of}
use Rattle.mama_event.specs.Object.{same_timer}
use Rattle.mama_event.specs.declared.ids.SubId.{SubId}
use Rattle.mama_event.specs.declared.ids.TimerId.{TimerId}
use Rattle.mama_event.specs.declared.ids.InboxId.{InboxId}
use Rattle.mama_event.specs.declared.ids.ObjectId.{ObjectId}
use Rattle.mama_event.specs.declared.ids.ObjectId.TheVariants.{Sub, Timer, Inbox}
use Rattle.mama_event.specs.declared.callback.Callback.{Callback}
use Rattle.mama_event.specs.declared.callback.Callback.TheVariants as on
use Rattle.mama_event.specs.declared.order.Order.{Order}
use Rattle.mama_event.specs.declared.to_queue.QueueNote.{QueueNote}
use Rattle.mama_event.specs.declared.to_queue.QueueNote.TheVariants as q
use Rattle.mama_event.specs.declared.watch.WatchRow.{WatchRow}
use Rattle.mama_event.specs.declared.watch.WatchNote.{WatchNote}
use Rattle.mama_event.specs.declared.watch.WatchNote.TheVariants.{Retry, Timeout}
use Rattle.mama_dq.specs.Strategy.{callbacks_of}
use Rattle.mama_rules_queue.specs.Queue.{Deed, handled, called, calls_of, is_destroy, is_muted, made, make_in, context_of, messages_of, served, deeds, deeds_at}
use Rattle.mama_rules_queue.specs.Watch.{is_missed, ticked, counted_at, counted, watch_note, watch_notes_at, watch_notes}
use Rattle.mama_rules_rounds.specs.Setting.{Setting, Watched, orders_by}
use Rattle.mama_rules_rounds.specs.Sections.{setting_of}
use Rattle.mama_rules_rounds.specs.Told.{watch_told}
use Rattle.mama_laws_genuine.proofs.Elements.{all_append, all_weaker}
use Rattle.mama_laws_genuine.proofs.Truths.{all_zipped}
use Rattle.mama_laws_callbacks.specs.Watched.{timeouts_in, retries_in, IsTimedOut, IsTrueWatch}
use Rattle.mama_laws_callbacks.specs.Laws.{LegalWatchesAreTrue}

-- ---- an entry ticks a timer at most once

abbrev IsFew : List ℕ → Type 0
IsFew [] = Unit {0}
IsFew (x ∷ []) = Unit {0}
IsFew (x ∷ y ∷ xs) = ⊥

few_none : (xs : List ℕ) → xs ≡ [] → IsFew xs
few_none xs none = subst IsFew (sym none) tt

few_if : (b : Bool) (xs : List ℕ) → IsFew xs → IsFew (if b then xs else [])
few_if true xs few = few
few_if false xs few = tt

module _ (t : TimerId) (orders : ObjectId → ℕ → List Order) where
  abbrev ticks : List Deed → List ℕ
  ticks ds = flat_map (ticked t) ds

  abbrev deed_of : ObjectId → List Deed → Callback → Deed
  deed_of o sofar c = called o c (orders o (length (calls_of o sofar) + 1))

  none_either : (b : Bool) (xs ys : List Deed) → ticks xs ≡ [] → ticks ys ≡ [] → ticks (if b then xs else ys) ≡ []
  none_either true xs ys one two = one
  none_either false xs ys one two = two

  sub_ticks : (s : SubId) (sofar : List Deed) (cs : List Callback) → ticks (made orders (Sub s) sofar cs) ≡ []
  sub_ticks s sofar [] = refl
  sub_ticks s sofar (c ∷ cs) =
      none_either (is_muted (Sub s) sofar && not (is_destroy c)) (made orders (Sub s) sofar cs) (deed_of (Sub s) sofar c ∷ made orders (Sub s) (sofar ++ deed_of (Sub s) sofar c ∷ []) cs)
      (sub_ticks s sofar cs) (sub_ticks s (sofar ++ deed_of (Sub s) sofar c ∷ []) cs)

  inbox_ticks : (i : InboxId) (sofar : List Deed) (cs : List Callback) → ticks (made orders (Inbox i) sofar cs) ≡ []
  inbox_ticks i sofar [] = refl
  inbox_ticks i sofar (c ∷ cs) =
      none_either (is_muted (Inbox i) sofar && not (is_destroy c)) (made orders (Inbox i) sofar cs) (deed_of (Inbox i) sofar c ∷ made orders (Inbox i) (sofar ++ deed_of (Inbox i) sofar c ∷ []) cs)
      (inbox_ticks i sofar cs) (inbox_ticks i (sofar ++ deed_of (Inbox i) sofar c ∷ []) cs)

  few_made : (u : TimerId) (sofar : List Deed) (c : Callback) → IsFew (ticked t (deed_of (Timer u) sofar c)) → IsFew (ticks (made orders (Timer u) sofar (c ∷ [])))
  few_made u sofar c few = either (is_muted (Timer u) sofar && not (is_destroy c))
    where
      either : (b : Bool) → IsFew (ticks (if b then [] else deed_of (Timer u) sofar c ∷ []))
      either true = tt
      either false = subst IsFew (sym (append-nil (ticked t (deed_of (Timer u) sofar c)))) few

  few_served : (before : List (ℕ × QueueNote)) (sofar : List Deed) (n : QueueNote) → IsFew (ticks (served orders before sofar n))
  few_served before sofar (q.Create slot (Sub s) make tag) = few_none _ (sub_ticks s sofar (on.Create ∷ []))
  few_served before sofar (q.Create slot (Timer u) make tag) = few_made u sofar on.Create tt
  few_served before sofar (q.Create slot (Inbox i) make tag) = few_none _ (inbox_ticks i sofar (on.Create ∷ []))
  few_served before sofar (q.Deliver slot sub msg) =
      let cs : List Callback = callbacks_of (context_of (first_said (λ (e : ℕ × QueueNote). make_in (Sub sub) e.1) before) (messages_of sub sofar)) msg in
      few_none _ (none_either (is_muted (Sub sub) sofar) [] (handled sub msg ∷ made orders (Sub sub) (sofar ++ handled sub msg ∷ []) cs) refl (sub_ticks sub (sofar ++ handled sub msg ∷ []) cs))
  few_served before sofar (q.Reply slot inbox body) = few_none _ (inbox_ticks inbox sofar (on.Reply body ∷ []))
  few_served before sofar (q.Bad slot sub kind sender seq bytes) = few_none _ (sub_ticks sub sofar (on.Error (code_of bytes) ∷ []))
  few_served before sofar (q.BadReply slot inbox bytes) = few_none _ (inbox_ticks inbox sofar (on.Error (code_of bytes) ∷ []))
  few_served before sofar (q.Tick slot timer moment) = few_made timer sofar (on.Tick moment) (few_if (same_timer timer t) (moment ∷ []) tt)
  few_served before sofar (q.Gone slot (Sub s)) = few_none _ (sub_ticks s sofar (on.Destroy ∷ []))
  few_served before sofar (q.Gone slot (Timer u)) = few_made u sofar on.Destroy tt
  few_served before sofar (q.Gone slot (Inbox i)) = few_none _ (inbox_ticks i sofar (on.Destroy ∷ []))
  few_served before sofar q.Fin = tt

-- ---- how many retries and timeouts there are, by how many ticks counted

-- with c ticks counted, so many retries and timeouts were noted
abbrev AreNoted : ℕ → ℕ → ℕ → ℕ → Type 0
AreNoted r c retried timed = ((c ≤ r) × (retried ≡ c) × (timed ≡ 0)) ⊎ ((r < c) × (retried ≡ r) × (timed ≡ 1))

module _ (r c retried timed m : ℕ) where
  abbrev notes : List WatchNote
  notes = watch_note r (suc c) m

  noted_case : (low at : Bool) → nat_le (suc c) r ≡ low → (suc c == suc r) ≡ at → AreNoted r c retried timed
      → AreNoted r (c + 1) (retried + length (flat_map retries_in (if low then Retry (suc c) m ∷ [] else (if at then Timeout m ∷ [] else []))))
      (timed + length (flat_map timeouts_in (if low then Retry (suc c) m ∷ [] else (if at then Timeout m ∷ [] else []))))
  noted_case true at is p (inl h) = let le = leb-true (suc c) r is in inl (omega (arith, le), omega (arith, h.1), omega (arith, h.2))
  noted_case true at is p (inr h) = let le = leb-true (suc c) r is in absurd (omega (arith, le, h.0))
  noted_case false true is p (inl h) = let e = eqb-true (suc c) (suc r) p in inr (omega (arith, e), omega (arith, e, h.1), omega (arith, h.2))
  noted_case false true is p (inr h) = let e = eqb-true (suc c) (suc r) p in absurd (omega (arith, e, h.0))
  noted_case false false is p (inl h) =
      let lt = leb-false (suc c) r is in
      let ne = eqb-false (suc c) (suc r) p in
      absurd (omega (arith, lt, ne, h.0))
  noted_case false false is p (inr h) = inr (omega (arith, h.0), omega (arith, h.1), omega (arith, h.2))

  noted_one : AreNoted r c retried timed → AreNoted r (c + 1) (retried + length (flat_map retries_in notes)) (timed + length (flat_map timeouts_in notes))
  noted_one h = noted_case (nat_le (suc c) r) (suc c == suc r) refl refl h

-- the timeout of a tick comes after as many as there are retries
timed_case : (r c m : ℕ) (low at : Bool) → (suc c == suc r) ≡ at → AllByRecursion (λ (x : ℕ). (x ≡ m) × (c ≡ r)) (flat_map timeouts_in (if low then Retry (suc c) m ∷ [] else (if at then Timeout m ∷ [] else [])))
timed_case r c m true at p = tt
timed_case r c m false true p = let e = eqb-true (suc c) (suc r) p in ((refl, omega (arith, e)), tt)
timed_case r c m false false p = tt

module _ (orders : ObjectId → ℕ → List Order) (row : WatchRow) where
  -- what a journal noted so far is such
  record Stands (journal : List (ℕ × QueueNote)) : Type 0 where
    count : AreNoted row.retries (counted orders row journal) (length (flat_map retries_in (watch_notes orders row journal))) (length (flat_map timeouts_in (watch_notes orders row journal)))
    timeouts : AllByRecursion (IsTimedOut orders row journal) (flat_map timeouts_in (watch_notes orders row journal))

  later : (journal : List (ℕ × QueueNote)) (e : ℕ × QueueNote) (m : ℕ) → IsTimedOut orders row journal m → IsTimedOut orders row (journal ++ e ∷ []) m
  later journal e m is = record {
    before = is.before;
    entry = is.entry;
    after = is.after ++ e ∷ [];
    whole = ap (λ (js : List (ℕ × QueueNote)). js ++ e ∷ []) is.whole ∙ append_assoc is.before (is.entry ∷ is.after) (e ∷ []);
    ticks = is.ticks;
    missed = is.missed;
    retried = is.retried;
  }

  length_more : {X : Type 0} (f : WatchNote → List X) (xs ys : List WatchNote) → length (flat_map f (xs ++ ys)) ≡ length (flat_map f xs) + length (flat_map f ys)
  length_more f xs ys = ap length (flat_map-append f xs ys) ∙ length-append (flat_map f xs) (flat_map f ys)

  module _ (journal : List (ℕ × QueueNote)) (e : ℕ × QueueNote) (so_far : Stands journal) where
    abbrev r : ℕ
    r = row.retries

    abbrev c : ℕ
    c = counted orders row journal

    abbrev noted : List WatchNote
    noted = watch_notes orders row journal

    abbrev here : Bool
    here = is_missed row.sub (journal ++ e ∷ []) (deeds orders (journal ++ e ∷ []))

    -- with these notes at the entry, of which so many ticks counted
    from_parts : (at : List ℕ) → counted_at orders row journal e ≡ at
        → AreNoted r (c + length at) (length (flat_map retries_in noted) + length (flat_map retries_in (flat_map (watch_note r (suc c)) at))) (length (flat_map timeouts_in noted) + length (flat_map timeouts_in (flat_map (watch_note r (suc c)) at)))
        → AllByRecursion (IsTimedOut orders row (journal ++ e ∷ [])) (flat_map timeouts_in (flat_map (watch_note r (suc c)) at)) → Stands (journal ++ e ∷ [])
    from_parts at is count told =
        let more : List WatchNote = flat_map (watch_note r (suc c)) at in
        let whole : watch_notes orders row (journal ++ e ∷ []) ≡ noted ++ more = puts-push (watch_notes_at orders row) journal e ∙ ap (λ (xs : List ℕ). noted ++ flat_map (watch_note r (suc c)) xs) is in
        let counts : counted orders row (journal ++ e ∷ []) ≡ c + length at =
        ap length (puts-push (counted_at orders row) journal e ∙ ap (λ (xs : List ℕ). puts (counted_at orders row) journal ++ xs) is) ∙ length-append (puts (counted_at orders row) journal) at in
        record {
          count =
              subst (λ (n : ℕ). AreNoted r n (length (flat_map retries_in (watch_notes orders row (journal ++ e ∷ [])))) (length (flat_map timeouts_in (watch_notes orders row (journal ++ e ∷ []))))) (sym counts)
              (subst (λ (ns : List WatchNote). AreNoted r (c + length at) (length (flat_map retries_in ns)) (length (flat_map timeouts_in ns))) (sym whole)
              (subst (λ (n : ℕ). AreNoted r (c + length at) n (length (flat_map timeouts_in (noted ++ more)))) (sym (length_more retries_in noted more))
              (subst (λ (n : ℕ). AreNoted r (c + length at) (length (flat_map retries_in noted) + length (flat_map retries_in more)) n) (sym (length_more timeouts_in noted more)) count)));
          timeouts =
              subst (λ (ns : List WatchNote). AllByRecursion (IsTimedOut orders row (journal ++ e ∷ [])) (flat_map timeouts_in ns)) (sym whole)
              (subst (AllByRecursion (IsTimedOut orders row (journal ++ e ∷ []))) (sym (flat_map-append timeouts_in noted more))
              (all_append (IsTimedOut orders row (journal ++ e ∷ [])) (flat_map timeouts_in noted) (flat_map timeouts_in more)
              (all_weaker (IsTimedOut orders row journal) (IsTimedOut orders row (journal ++ e ∷ [])) (λ m h. later journal e m h) (flat_map timeouts_in noted) so_far.timeouts) told));
        }

    nothing : counted_at orders row journal e ≡ [] → Stands (journal ++ e ∷ [])
    nothing is = from_parts [] is (same so_far.count) tt
      where
        same : AreNoted r c (length (flat_map retries_in noted)) (length (flat_map timeouts_in noted)) → AreNoted r (c + 0) (length (flat_map retries_in noted) + 0) (length (flat_map timeouts_in noted) + 0)
        same (inl h) = inl (omega (arith, h.0), omega (arith, h.1), omega (arith, h.2))
        same (inr h) = inr (omega (arith, h.0), omega (arith, h.1), omega (arith, h.2))

    tick : (m : ℕ) → here ≡ true → flat_map (ticked row.timer) (deeds_at orders journal e) ≡ m ∷ [] → counted_at orders row journal e ≡ m ∷ [] → Stands (journal ++ e ∷ [])
    tick m missed ticks is = from_parts (m ∷ []) is
        (subst (λ (ns : List WatchNote). AreNoted r (c + 1) (length (flat_map retries_in noted) + length (flat_map retries_in ns)) (length (flat_map timeouts_in noted) + length (flat_map timeouts_in ns)))
        (sym (append-nil (watch_note r (suc c) m))) (noted_one r c (length (flat_map retries_in noted)) (length (flat_map timeouts_in noted)) m so_far.count))
        (subst (λ (ns : List WatchNote). AllByRecursion (IsTimedOut orders row (journal ++ e ∷ [])) (flat_map timeouts_in ns)) (sym (append-nil (watch_note r (suc c) m)))
        (all_weaker (λ (x : ℕ). (x ≡ m) × (c ≡ r)) (IsTimedOut orders row (journal ++ e ∷ [])) (λ x h. timed_out x h.0 h.1) (flat_map timeouts_in (watch_note r (suc c) m))
        (timed_case r c m (nat_le (suc c) r) (suc c == suc r) refl)))
      where
        timed_out : (x : ℕ) → x ≡ m → c ≡ r → IsTimedOut orders row (journal ++ e ∷ []) x
        timed_out x same counts = record {
          before = journal;
          entry = e;
          after = [];
          whole = refl;
          ticks = ap (list_any (nat_eq x)) ticks ∙ ap (λ (b : Bool). b || false) (eq-eqb x m same);
          missed = missed;
          retried = counts;
        }

    stands_more : Stands (journal ++ e ∷ [])
    stands_more = by_case here refl (flat_map (ticked row.timer) (deeds_at orders journal e)) refl (few_served row.timer orders journal (deeds orders journal) e.1)
      where
        by_case : (b : Bool) → here ≡ b → (xs : List ℕ) → flat_map (ticked row.timer) (deeds_at orders journal e) ≡ xs → IsFew xs → Stands (journal ++ e ∷ [])
        by_case false missed xs ticks few = nothing (ap (λ (b : Bool). if b then flat_map (ticked row.timer) (deeds_at orders journal e) else []) missed)
        by_case true missed [] ticks few = nothing (ap (λ (b : Bool). if b then flat_map (ticked row.timer) (deeds_at orders journal e) else []) missed ∙ ticks)
        by_case true missed (m ∷ []) ticks few = tick m missed ticks (ap (λ (b : Bool). if b then flat_map (ticked row.timer) (deeds_at orders journal e) else []) missed ∙ ticks)
        by_case true missed (m ∷ k ∷ xs) ticks few = absurd few

  stands : (journal : List (ℕ × QueueNote)) → Stands journal
  stands journal = by_entries Stands (record { count = inl (omega arith, refl, refl); timeouts = tt }) (λ es e so_far. stands_more es e so_far) journal

at_most_one : (r c retried timed : ℕ) → AreNoted r c retried timed → timed ≤ 1
at_most_one r c retried timed (inl h) = omega (arith, h.2)
at_most_one r c retried timed (inr h) = omega (arith, h.2)

at_most : (r c retried timed : ℕ) → AreNoted r c retried timed → retried ≤ r
at_most r c retried timed (inl h) = omega (arith, h.0, h.1)
at_most r c retried timed (inr h) = omega (arith, h.1)

all_retried : (r c retried timed : ℕ) → AreNoted r c retried timed → 0 < timed → retried ≡ r
all_retried r c retried timed (inl h) some = absurd (omega (arith, h.2, some))
all_retried r c retried timed (inr h) some = h.1

true_watch : (setting : Setting) (queues : List (List (ℕ × QueueNote))) (w : Watched) → IsTrueWatch setting queues w (watch_told setting queues w)
true_watch setting queues w =
    let journal : List (ℕ × QueueNote) = slice_index_or queues w.queue [] in
    let notes : List WatchNote = watch_notes (orders_by setting) w.row journal in
    let so = stands (orders_by setting) w.row journal in
    record {
      number = refl;
      timeouts = so.timeouts;
      once = at_most_one w.row.retries (counted (orders_by setting) w.row journal) (length (flat_map retries_in notes)) (length (flat_map timeouts_in notes)) so.count;
      retries = at_most w.row.retries (counted (orders_by setting) w.row journal) (length (flat_map retries_in notes)) (length (flat_map timeouts_in notes)) so.count;
      retried = all_retried w.row.retries (counted (orders_by setting) w.row journal) (length (flat_map retries_in notes)) (length (flat_map timeouts_in notes)) so.count;
    }

pub legal_watches_are_true : LegalWatchesAreTrue
legal_watches_are_true script run legal =
    subst (λ told. AllZip (IsTrueWatch (setting_of script) run.queues) (setting_of script).watches told) (sym legal.lists.watches)
    (all_zipped (IsTrueWatch (setting_of script) run.queues) (watch_told (setting_of script) run.queues) (true_watch (setting_of script) run.queues) (setting_of script).watches)
