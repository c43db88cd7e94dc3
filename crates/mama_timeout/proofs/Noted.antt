-- What a watch notes by its table is what its rules say of the journal, entry by entry.
use Rattle.std.proofs.Common.{◌≡◌, ℕ, suc, ◌+◌, ◌<◌, ◌≤◌, Bool, true, false, cond, leb, eqb, List, [], ◌∷◌, ◌++◌, length, refl, sym, ap, subst, ◌∙◌, inl, inr, arith, append_assoc, append-nil, length-append}
use Rattle.std.specs.Prelude.{◌&&◌, ◌⊎◌, not}
use Rattle.std.specs.List.{flat_map}
use Rattle.std.proofs.lemmas.Bool.{leb-true, leb-false, eqb-true, eqb-false, ne_eqb}
use Rattle.mama_journal.specs.Journal.{puts, puts_after}
use Rattle.mama_event.specs.declared.ids.SubId.{SubId}
use Rattle.mama_event.specs.declared.ids.TimerId.{TimerId}
use Rattle.mama_event.specs.declared.ids.InboxId.{InboxId}
use Rattle.mama_event.specs.declared.ids.ObjectId.{ObjectId}
use Rattle.mama_event.specs.declared.ids.ObjectId.TheVariants.{Sub, Timer, Inbox}
use Rattle.mama_event.specs.declared.callback.Callback.{Callback}
use Rattle.mama_event.specs.declared.callback.Callback.TheVariants as on
use Rattle.mama_event.specs.declared.order.Order.{Order}
use Rattle.mama_event.specs.declared.to_queue.QueueNote.{QueueNote}
use Rattle.mama_event.specs.declared.to_queue.QueueNote.TheVariants as q
use Rattle.mama_event.specs.declared.watch.WatchRow.{WatchRow}
use Rattle.mama_event.specs.declared.watch.WatchNote.{WatchNote}
use Rattle.mama_event.specs.declared.watch.WatchNote.TheVariants.{Retry, Timeout}
use Rattle.mama_event.specs.Object.{same_timer}
use Rattle.mama_event.specs.Arrival.{code_of}
use Rattle.mama_event.specs.EqualityLaws.{same_timer-Decides}
use Rattle.mama_rules_queue.specs.Queue.{Deed, handled, called, calls_of, made, is_muted, is_destroy, served, deeds, deeds_at}
use Rattle.mama_rules_queue.specs.Watch as rules
use Rattle.mama_rules_queue.specs.Watch.{is_missed, counted_at, counted, watch_note, watch_notes_at, watch_notes, wish_in}
use Rattle.mama_timeout.specs.Table.{WatchData, watch_by, next_notes, ticked, tick_wishes, IsTick, IsNoTick}

-- ---- an entry is at most one tick of a timer

abbrev IsFew : List ℕ → Type 0
IsFew [] = Unit {0}
IsFew (x ∷ []) = Unit {0}
IsFew (x ∷ y ∷ xs) = ⊥

few_none : (xs : List ℕ) → xs ≡ [] → IsFew xs
few_none xs e = subst IsFew (sym e) tt

pub none_step : (u : TimerId) (test : Bool) (xs ys : List Deed) (d : Deed) → rules.ticked u d ≡ [] → flat_map (rules.ticked u) xs ≡ [] → flat_map (rules.ticked u) ys ≡ [] → flat_map (rules.ticked u) (cond test xs (d ∷ ys)) ≡ []
none_step u true xs ys d here left right = left
none_step u false xs ys d here left right = ap (λ (x : List ℕ). x ++ flat_map (rules.ticked u) ys) here ∙ right

abbrev deed_of : (ObjectId → ℕ → List Order) → ObjectId → List Deed → Callback → Deed
deed_of orders o sofar c = called o c (orders o (length (calls_of o sofar) + 1))

pub made_sub : (u : TimerId) (orders : ObjectId → ℕ → List Order) (s : SubId) (sofar : List Deed) (cs : List Callback) → flat_map (rules.ticked u) (made orders (Sub s) sofar cs) ≡ []
made_sub u orders s sofar [] = refl
made_sub u orders s sofar (c ∷ cs) =
    let d = deed_of orders (Sub s) sofar c in
    none_step u (is_muted (Sub s) sofar && not (is_destroy c)) (made orders (Sub s) sofar cs) (made orders (Sub s) (sofar ++ d ∷ []) cs) d refl (made_sub u orders s sofar cs) (made_sub u orders s (sofar ++ d ∷ []) cs)

pub made_inbox : (u : TimerId) (orders : ObjectId → ℕ → List Order) (i : InboxId) (sofar : List Deed) (cs : List Callback) → flat_map (rules.ticked u) (made orders (Inbox i) sofar cs) ≡ []
made_inbox u orders i sofar [] = refl
made_inbox u orders i sofar (c ∷ cs) =
    let d = deed_of orders (Inbox i) sofar c in
    none_step u (is_muted (Inbox i) sofar && not (is_destroy c)) (made orders (Inbox i) sofar cs) (made orders (Inbox i) (sofar ++ d ∷ []) cs) d refl (made_inbox u orders i sofar cs) (made_inbox u orders i (sofar ++ d ∷ []) cs)

few_timer : (u : TimerId) (test : Bool) (d : Deed) → IsFew (rules.ticked u d) → IsFew (flat_map (rules.ticked u) (cond test [] (d ∷ [])))
few_timer u true d few = tt
few_timer u false d few = subst IsFew (sym (append-nil (rules.ticked u d))) few

few_test : (test : Bool) (moment : ℕ) → IsFew (cond test (moment ∷ []) [])
few_test true moment = tt
few_test false moment = tt

few_once : (u : TimerId) (orders : ObjectId → ℕ → List Order) (o : ObjectId) (sofar : List Deed) (c : Callback) → IsFew (rules.ticked u (deed_of orders o sofar c)) → IsFew (flat_map (rules.ticked u) (made orders o sofar (c ∷ [])))
few_once u orders o sofar c few = few_timer u (is_muted o sofar && not (is_destroy c)) (deed_of orders o sofar c) few

few_served : (u : TimerId) (orders : ObjectId → ℕ → List Order) (before : List (ℕ × QueueNote)) (sofar : List Deed) (n : QueueNote) → IsFew (flat_map (rules.ticked u) (served orders before sofar n))
few_served u orders before sofar (q.Create slot (Sub s) make tag) = few_none _ (made_sub u orders s sofar (on.Create ∷ []))
few_served u orders before sofar (q.Create slot (Timer t) make tag) = few_once u orders (Timer t) sofar on.Create tt
few_served u orders before sofar (q.Create slot (Inbox i) make tag) = few_none _ (made_inbox u orders i sofar (on.Create ∷ []))
few_served u orders before sofar (q.Deliver slot sub msg) = few_none _ (none_step u (is_muted (Sub sub) sofar) [] (made orders (Sub sub) (sofar ++ handled sub msg ∷ []) _) (handled sub msg) refl refl (made_sub u orders sub (sofar ++ handled sub msg ∷ []) _))
few_served u orders before sofar (q.Reply slot inbox body) = few_none _ (made_inbox u orders inbox sofar (on.Reply body ∷ []))
few_served u orders before sofar (q.Bad slot sub kind sender seq bytes) = few_none _ (made_sub u orders sub sofar (on.Error (code_of bytes) ∷ []))
few_served u orders before sofar (q.BadReply slot inbox bytes) = few_none _ (made_inbox u orders inbox sofar (on.Error (code_of bytes) ∷ []))
few_served u orders before sofar (q.Tick slot timer moment) = few_once u orders (Timer timer) sofar (on.Tick moment) (few_test (same_timer timer u) moment)
few_served u orders before sofar (q.Gone slot (Sub s)) = few_none _ (made_sub u orders s sofar (on.Destroy ∷ []))
few_served u orders before sofar (q.Gone slot (Timer t)) = few_once u orders (Timer t) sofar on.Destroy tt
few_served u orders before sofar (q.Gone slot (Inbox i)) = few_none _ (made_inbox u orders i sofar (on.Destroy ∷ []))
few_served u orders before sofar q.Fin = tt

few_cond : (missed : Bool) (xs : List ℕ) → IsFew xs → IsFew (cond missed xs [])
few_cond true xs few = few
few_cond false xs few = tt

few_counted : (orders : ObjectId → ℕ → List Order) (row : WatchRow) (before : List (ℕ × QueueNote)) (e : ℕ × QueueNote) → IsFew (counted_at orders row before e)
few_counted orders row before e =
    few_cond (is_missed row.sub (before ++ e ∷ []) (deeds orders (before ++ e ∷ []))) (flat_map (rules.ticked row.timer) (deeds_at orders before e)) (few_served row.timer orders before (deeds orders before) e.1)

-- ---- how many notes there are, by how many ticks counted

abbrev AreNoted : ℕ → ℕ → ℕ → Type 0
AreNoted r c l = ((l ≡ c) × (c ≤ suc r)) ⊎ ((l ≡ suc r) × (suc r < c))

noted_one : (r c l x : ℕ) (low at : Bool) → leb (suc c) r ≡ low → eqb (suc c) (suc r) ≡ at → AreNoted r c l → AreNoted r (c + 1) (l + length (cond low (Retry (suc c) x ∷ []) (cond at (Timeout x ∷ []) []) ++ []))
noted_one r c l x true at p q (inl h) = let le = leb-true (suc c) r p in inl (omega (arith, h.0), omega (arith, le))
noted_one r c l x true at p q (inr h) = let le = leb-true (suc c) r p in absurd (omega (arith, le, h.1))
noted_one r c l x false true p q (inl h) = let e = eqb-true (suc c) (suc r) q in inl (omega (arith, h.0), omega (arith, e))
noted_one r c l x false true p q (inr h) = let e = eqb-true (suc c) (suc r) q in absurd (omega (arith, e, h.1))
noted_one r c l x false false p q (inl h) =
    let lt = leb-false (suc c) r p in
    let ne = eqb-false (suc c) (suc r) q in
    inr (omega (arith, h.0, h.1, lt, ne), omega (arith, h.1, lt, ne))
noted_one r c l x false false p q (inr h) = inr (omega (arith, h.0), omega (arith, h.1))

noted_step : (r c l : ℕ) (xs : List ℕ) → IsFew xs → AreNoted r c l → AreNoted r (c + length xs) (l + length (flat_map (watch_note r (suc c)) xs))
noted_step r c l [] few (inl h) = inl (omega (arith, h.0), omega (arith, h.1))
noted_step r c l [] few (inr h) = inr (omega (arith, h.0), omega (arith, h.1))
noted_step r c l (x ∷ []) few h = noted_one r c l x (leb (suc c) r) (eqb (suc c) (suc r)) refl refl h
noted_step r c l (x ∷ y ∷ xs) few h = absurd few

after_more : {E P : Type 0} (at : List E → E → List P) (es before : List E) (e : E) → puts_after at before (es ++ e ∷ []) ≡ puts_after at before es ++ at (before ++ es) e
after_more {E} {P} at [] before e = append-nil (at before e) ∙ ap (λ (xs : List E). at xs e) (sym (append-nil before))
after_more {E} {P} at (x ∷ es) before e =
    ap (λ (ps : List P). at before x ++ ps) (after_more at es (before ++ x ∷ []) e)
    ∙ sym (append_assoc (at before x) (puts_after at (before ++ x ∷ []) es) (at ((before ++ x ∷ []) ++ es) e))
    ∙ ap (λ (xs : List E). (at before x ++ puts_after at (before ++ x ∷ []) es) ++ at xs e) (append_assoc before (x ∷ []) es)

-- a list of a journal with one entry more
more : {P : Type 0} (at : List (ℕ × QueueNote) → ℕ × QueueNote → List P) (before : List (ℕ × QueueNote)) (e : ℕ × QueueNote) → puts at (before ++ e ∷ []) ≡ puts at before ++ at before e
more at before e = after_more at before [] e

module _ (orders : ObjectId → ℕ → List Order) (row : WatchRow) where
  abbrev Noted : List (ℕ × QueueNote) → Type 0
  Noted journal = AreNoted row.retries (counted orders row journal) (length (watch_notes orders row journal))

  noted_more : (before : List (ℕ × QueueNote)) (e : ℕ × QueueNote) → Noted before → Noted (before ++ e ∷ [])
  noted_more before e h =
      let r = row.retries in
      let c = counted orders row before in
      let at = counted_at orders row before e in
      let notes = watch_notes orders row before in
      let counts : counted orders row (before ++ e ∷ []) ≡ c + length at = ap length (more (counted_at orders row) before e) ∙ length-append (puts (counted_at orders row) before) at in
      let lengths : length (watch_notes orders row (before ++ e ∷ [])) ≡ length notes + length (flat_map (watch_note r (suc c)) at) =
      ap length (more (watch_notes_at orders row) before e) ∙ length-append notes (watch_notes_at orders row before e) in
      subst (λ (k : ℕ). AreNoted r k (length (watch_notes orders row (before ++ e ∷ [])))) (sym counts)
      (subst (λ (k : ℕ). AreNoted r (c + length at) k) (sym lengths) (noted_step r c (length notes) at (few_counted orders row before e) h))

  noted_from : (before es : List (ℕ × QueueNote)) → Noted before → Noted (before ++ es)
  noted_from before [] h = subst Noted (sym (append-nil before)) h
  noted_from before (e ∷ es) h = subst Noted (append_assoc before (e ∷ []) es) (noted_from (before ++ e ∷ []) es (noted_more before e h))

  noted_all : (journal : List (ℕ × QueueNote)) → Noted journal
  noted_all journal = noted_from [] journal (inl (refl, omega arith))

-- ---- so the next note is told by how many there are

not_true : (b : Bool) → (b ≡ true → ⊥) → b ≡ false
not_true true h = absurd (h refl)
not_true false h = refl

no_note : (r n moment : ℕ) → suc r < n → watch_note r n moment ≡ []
no_note r n moment h =
    let above : leb n r ≡ false = not_true (leb n r) (λ e. let le = leb-true n r e in omega (arith, le, h)) in
    let other : eqb n (suc r) ≡ false = ne_eqb n (suc r) (λ e. omega (arith, e, h)) in
    rw (above, other) refl

same_note : (r c l moment : ℕ) → AreNoted r c l → watch_note r (suc l) moment ≡ watch_note r (suc c) moment
same_note r c l moment (inl h) = ap (λ (n : ℕ). watch_note r (suc n) moment) h.0
same_note r c l moment (inr h) = no_note r (suc l) moment (omega (arith, h.0)) ∙ sym (no_note r (suc c) moment (omega (arith, h.1)))

-- ---- an entry that is a tick

pub flip : (t u : TimerId) (here : Bool) → same_timer t u ≡ here → same_timer u t ≡ here
flip t u true e = (same_timer-Decides u t).1 (sym ((same_timer-Decides t u).0 e))
flip t u false e = not_true (same_timer u t) (λ p. let q = (same_timer-Decides t u).1 (sym ((same_timer-Decides u t).0 p)) in let bad : true ≡ false = sym q ∙ e in cc)

counted_tick : (orders : ObjectId → ℕ → List Order) (row : WatchRow) (before : List (ℕ × QueueNote)) (e : ℕ × QueueNote) (t : TimerId) (moment : ℕ) → IsTick t moment (deeds_at orders before e)
    → counted_at orders row before e ≡ cond (is_missed row.sub (before ++ e ∷ []) (deeds orders (before ++ e ∷ []))) (cond (same_timer row.timer t) (moment ∷ []) []) []
counted_tick orders row before e t moment tick =
    let missed = is_missed row.sub (before ++ e ∷ []) (deeds orders (before ++ e ∷ [])) in
    ap (λ (xs : List ℕ). cond missed xs []) (tick row.timer)
    ∙ ap (λ (b : Bool). cond missed (cond b (moment ∷ []) []) []) (sym (flip t row.timer (same_timer t row.timer) refl))

noted_case : (w : WatchData) (c moment : ℕ) (same missed : Bool) → watch_note w.row.retries (suc (length w.notes)) moment ≡ watch_note w.row.retries (suc c) moment
    → record w { notes = w.notes ++ flat_map (watch_note w.row.retries (suc c)) (cond missed (cond same (moment ∷ []) []) []) } ≡ cond same (cond missed (record w { notes = w.notes ++ next_notes w moment }) w) w
noted_case w c moment true true e = ap (λ (ns : List WatchNote). record w { notes = w.notes ++ ns }) (append-nil (watch_note w.row.retries (suc c) moment) ∙ sym e)
noted_case w c moment true false e = ap (λ (ns : List WatchNote). record w { notes = ns }) (append-nil w.notes)
noted_case w c moment false true e = ap (λ (ns : List WatchNote). record w { notes = ns }) (append-nil w.notes)
noted_case w c moment false false e = ap (λ (ns : List WatchNote). record w { notes = ns }) (append-nil w.notes)

wished_case : (w : WatchData) (c moment : ℕ) (same missed : Bool) → watch_note w.row.retries (suc (length w.notes)) moment ≡ watch_note w.row.retries (suc c) moment
    → flat_map (wish_in w.row) (flat_map (watch_note w.row.retries (suc c)) (cond missed (cond same (moment ∷ []) []) [])) ≡ cond same (cond missed (flat_map (wish_in w.row) (next_notes w moment)) []) []
wished_case w c moment true true e = ap (flat_map (wish_in w.row)) (append-nil (watch_note w.row.retries (suc c) moment) ∙ sym e)
wished_case w c moment true false e = refl
wished_case w c moment false true e = refl
wished_case w c moment false false e = refl

abbrev missed_at : (ObjectId → ℕ → List Order) → List (ℕ × QueueNote) → ℕ × QueueNote → SubId → Bool
missed_at orders before e s = is_missed s (before ++ e ∷ []) (deeds orders (before ++ e ∷ []))

next_is : (orders : ObjectId → ℕ → List Order) (row : WatchRow) (before : List (ℕ × QueueNote)) (moment : ℕ)
    → watch_note row.retries (suc (length (watch_notes orders row before))) moment ≡ watch_note row.retries (suc (counted orders row before)) moment
next_is orders row before moment = same_note row.retries (counted orders row before) (length (watch_notes orders row before)) moment (noted_all orders row before)

pub noted_turn : (orders : ObjectId → ℕ → List Order) (w : ℕ × WatchRow) (before : List (ℕ × QueueNote)) (e : ℕ × QueueNote) (t : TimerId) (moment : ℕ) → IsTick t moment (deeds_at orders before e)
    → watch_by orders (before ++ e ∷ []) w ≡ ticked t moment (missed_at orders before e) (watch_by orders before w)
noted_turn orders w before e t moment tick =
    let here = watch_by orders before w in
    let c = counted orders w.1 before in
    ap (λ (ns : List WatchNote). record here { notes = ns })
    (more (watch_notes_at orders w.1) before e ∙ ap (λ (xs : List ℕ). watch_notes orders w.1 before ++ flat_map (watch_note w.1.retries (suc c)) xs) (counted_tick orders w.1 before e t moment tick))
    ∙ noted_case here c moment (same_timer w.1.timer t) (missed_at orders before e w.1.sub) (next_is orders w.1 before moment)

pub wished_turn : (orders : ObjectId → ℕ → List Order) (w : ℕ × WatchRow) (before : List (ℕ × QueueNote)) (e : ℕ × QueueNote) (t : TimerId) (moment : ℕ) → IsTick t moment (deeds_at orders before e)
    → flat_map (wish_in w.1) (watch_notes_at orders w.1 before e) ≡ tick_wishes t moment (missed_at orders before e) (watch_by orders before w)
wished_turn orders w before e t moment tick =
    let here = watch_by orders before w in
    let c = counted orders w.1 before in
    ap (λ (xs : List ℕ). flat_map (wish_in w.1) (flat_map (watch_note w.1.retries (suc c)) xs)) (counted_tick orders w.1 before e t moment tick)
    ∙ wished_case here c moment (same_timer w.1.timer t) (missed_at orders before e w.1.sub) (next_is orders w.1 before moment)

-- ---- an entry that is none

abbrev empty : List ℕ
empty = []

no_list : (missed : Bool) → cond missed empty empty ≡ empty
no_list true = refl
no_list false = refl

counted_none : (orders : ObjectId → ℕ → List Order) (row : WatchRow) (before : List (ℕ × QueueNote)) (e : ℕ × QueueNote) → IsNoTick (deeds_at orders before e) → counted_at orders row before e ≡ []
counted_none orders row before e none = ap (λ (xs : List ℕ). cond (missed_at orders before e row.sub) xs []) (none row.timer) ∙ no_list (missed_at orders before e row.sub)

pub unnoted_turn : (orders : ObjectId → ℕ → List Order) (w : ℕ × WatchRow) (before : List (ℕ × QueueNote)) (e : ℕ × QueueNote) → IsNoTick (deeds_at orders before e) → watch_by orders (before ++ e ∷ []) w ≡ watch_by orders before w
unnoted_turn orders w before e none =
    let c = counted orders w.1 before in
    ap (λ (ns : List WatchNote). record (watch_by orders before w) { notes = ns })
    (more (watch_notes_at orders w.1) before e
    ∙ ap (λ (xs : List ℕ). watch_notes orders w.1 before ++ flat_map (watch_note w.1.retries (suc c)) xs) (counted_none orders w.1 before e none)
    ∙ append-nil (watch_notes orders w.1 before))

pub unwished_turn : (orders : ObjectId → ℕ → List Order) (w : ℕ × WatchRow) (before : List (ℕ × QueueNote)) (e : ℕ × QueueNote) → IsNoTick (deeds_at orders before e) → flat_map (wish_in w.1) (watch_notes_at orders w.1 before e) ≡ []
unwished_turn orders w before e none =
    ap (λ (xs : List ℕ). flat_map (wish_in w.1) (flat_map (watch_note w.1.retries (suc (counted orders w.1 before))) xs)) (counted_none orders w.1 before e none)
