-- What is put at the entry that makes a test true, and the Fins and Byes that come of it.
use Rattle.std.specs.Prelude.{not, nat_le}
use Rattle.std.specs.List.{flat_map, list_any}
use Rattle.std.proofs.Common.{◌≡◌, ℕ, zero, suc, ◌+◌, ◌<◌, ◌≤◌, ◌==◌, Bool, true, false, ◌&&◌, ◌||◌, cond, List, [], ◌∷◌, ◌++◌, map, refl, sym, ◌∙◌, ap, subst, arith, ⊎_elim}
use Rattle.std.proofs.lemmas.Bool.{and_parts, and_from, or_left, or_right, or_cases, cases_Bool, both_ways, cases_eq, eq-eqb, leb-true, leb-false, le-leb, ne_eqb}
use Rattle.std.proofs.lemmas.List.{map-append}
use Rattle.std.proofs.lemmas.List.Folds.{list_any-append}
use Rattle.mama_journal.specs.Journal.{puts, all_puts, turns, numbers_below, count_of}
use Rattle.mama_journal.specs.Lane.{by_port}
use Rattle.mama_event.specs.declared.shape.Shape.{Shape}
use Rattle.mama_event.specs.declared.to_bridge.BridgeNote.TheVariants as b
use Rattle.mama_event.specs.declared.to_timers.TimersNote.TheVariants as t
use Rattle.mama_event.specs.declared.to_publisher.PublisherNote.TheVariants as p
use Rattle.mama_event.specs.declared.to_queue.QueueNote.{QueueNote}
use Rattle.mama_event.specs.declared.to_queue.QueueNote.TheVariants as q
use Rattle.mama_event.specs.Ports.{publishers_of, queues_of}
use Rattle.mama_event.specs.ToQueue as queue
use Rattle.mama_rules_services.specs.Bridge.{BridgeEvent, BridgePut, to_publisher, to_queue, to_timers, live_subs, open_inboxes, ended, ended_inbox, bridge_reaction}
use Rattle.mama_rules_services.specs.Bridge as bridge
use Rattle.mama_rules_services.specs.Timers.{TimersEvent, live_timers, gone, timers_reaction}
use Rattle.mama_rules_services.specs.Timers as timers
use Rattle.mama_rules_queue.specs.Queue.{QueuePut, is_fin, bye_put, queue_puts_at, deeds_at, puts_of}
use Rattle.mama_rules_queue.specs.Queue as lane
use Rattle.mama_rules_rounds.specs.Setting.{Setting, orders_by, rows_on, puts_on}
use Rattle.mama_rules_queue.specs.Watch.{wishes_at}
use Rattle.mama_rules_legal.specs.Edges.{queue_puts}
use Rattle.mama_journal.specs.EntryLaws.{by_entries, puts-push, all_puts-push}

-- ---- what is put at a turn was put

pub all_puts_turn : {E P : Type 0} (at : List E → List P → E → List P) (T : List E → Bool) (test : P → Bool) → T [] ≡ false
    → ((before : List E) (sofar : List P) (e : E) → turns T before e ≡ true → list_any test (at before sofar e) ≡ true) → (es : List E) → T es ≡ true → list_any test (all_puts at es) ≡ true
all_puts_turn at T test none here es = by_entries (λ xs. T xs ≡ true → list_any test (all_puts at xs) ≡ true)
    (λ h. absurd (both_ways (T []) none h))
    (λ xs e ih h. ap (list_any test) (all_puts-push at xs e) ∙ list_any-append test (all_puts at xs) (at xs (all_puts at xs) e) ∙ ⊎_elim
    (λ old. or_left (list_any test (all_puts at xs)) (list_any test (at xs (all_puts at xs) e)) (ih old))
    (λ new. or_right (list_any test (all_puts at xs)) (list_any test (at xs (all_puts at xs) e)) (here xs (all_puts at xs) e (and_from (T (xs ++ e ∷ [])) (not (T xs)) h (ap not new))))
    (cases_Bool (T xs))) es

pub puts_turn : {E P : Type 0} (at : List E → E → List P) (T : List E → Bool) (test : P → Bool) → T [] ≡ false
    → ((before : List E) (e : E) → turns T before e ≡ true → list_any test (at before e) ≡ true) → (es : List E) → T es ≡ true → list_any test (puts at es) ≡ true
puts_turn at T test none here es = by_entries (λ xs. T xs ≡ true → list_any test (puts at xs) ≡ true)
    (λ h. absurd (both_ways (T []) none h))
    (λ xs e ih h. ap (list_any test) (puts-push at xs e) ∙ list_any-append test (puts at xs) (at xs e) ∙ ⊎_elim
    (λ old. or_left (list_any test (puts at xs)) (list_any test (at xs e)) (ih old))
    (λ new. or_right (list_any test (puts at xs)) (list_any test (at xs e)) (here xs e (and_from (T (xs ++ e ∷ [])) (not (T xs)) h (ap not new))))
    (cases_Bool (T xs))) es

pub any_flat : {X Y : Type 0} (test : Y → Bool) (f : X → List Y) (xs : List X) → list_any test (flat_map f xs) ≡ list_any (λ x. list_any test (f x)) xs
any_flat test f [] = refl
any_flat test f (x ∷ xs) = list_any-append test (f x) (flat_map f xs) ∙ ap (λ (b : Bool). list_any test (f x) || b) (any_flat test f xs)

any_number : {Y : Type 0} (test : Y → Bool) (f : ℕ → Y) (k n : ℕ) → k < n → test (f k) ≡ true → list_any test (map f (numbers_below n)) ≡ true
any_number test f k zero small h = absurd (omega arith)
any_number test f k (suc n) small h =
    ap (list_any test) (map-append f (numbers_below n) (n ∷ [])) ∙ list_any-append test (map f (numbers_below n)) (f n ∷ []) ∙ ⊎_elim
    (λ same. or_right (list_any test (map f (numbers_below n))) (test (f n) || false) (or_left (test (f n)) false (ap (λ (m : ℕ). test (f m)) (sym same) ∙ h)))
    (λ apart. or_left (list_any test (map f (numbers_below n))) (test (f n) || false) (any_number test f k n (omega arith) h))
    (cases_eq k n)

-- ---- the bridge's ending

bridge_end : (shape : Shape) (test : BridgePut → Bool) → (test (to_timers t.Fin) || list_any test (map (λ k. to_queue k q.Fin) (numbers_below (queues_of shape)))) ≡ true
    → (before : List BridgeEvent) (sofar : List BridgePut) (e : BridgeEvent) → turns (bridge.has_ending shape) before e ≡ true → list_any test (bridge_reaction shape before sofar e) ≡ true
bridge_end shape test has before sofar e turned =
    let subs : List BridgePut = flat_map (ended shape before sofar) (live_subs shape before) in
    let inboxes : List BridgePut = flat_map (ended_inbox shape before sofar) (open_inboxes shape before) in
    let service : List BridgePut = to_timers t.Fin ∷ [] in
    let queues : List BridgePut = map (λ k. to_queue k q.Fin) (numbers_below (queues_of shape)) in
    let publishers : List BridgePut = map (λ r. to_publisher r p.Fin) (numbers_below (publishers_of shape)) in
    let first : List BridgePut = bridge.answer shape before sofar e ++ bridge.settle_begins shape before e in
    list_any-append test first (bridge.ending_comes shape before sofar e)
    ∙ or_right (list_any test first) (list_any test (bridge.ending_comes shape before sofar e))
    (ap (λ (b : Bool). list_any test (cond b (subs ++ inboxes ++ service ++ queues ++ publishers) [])) turned
    ∙ list_any-append test (subs ++ inboxes ++ service ++ queues) publishers
    ∙ or_left (list_any test (subs ++ inboxes ++ service ++ queues)) (list_any test publishers)
    (list_any-append test (subs ++ inboxes ++ service) queues
    ∙ ⊎_elim
    (λ here. or_left (list_any test (subs ++ inboxes ++ service)) (list_any test queues)
    (list_any-append test (subs ++ inboxes) service ∙ or_right (list_any test (subs ++ inboxes)) (list_any test service) (or_left (test (to_timers t.Fin)) false here)))
    (λ later. or_right (list_any test (subs ++ inboxes ++ service)) (list_any test queues) later)
    (or_cases (test (to_timers t.Fin)) (list_any test queues) has)))

pub bridge_fin_timers : (shape : Shape) (test : BridgePut → Bool) (es : List BridgeEvent) → test (to_timers t.Fin) ≡ true → bridge.has_ending shape [] ≡ false → bridge.has_ending shape es ≡ true
    → list_any test (all_puts (bridge_reaction shape) es) ≡ true
bridge_fin_timers shape test es is none came = all_puts_turn (bridge_reaction shape) (bridge.has_ending shape) test none
    (bridge_end shape test (or_left (test (to_timers t.Fin)) (list_any test (map (λ k. to_queue k q.Fin) (numbers_below (queues_of shape)))) is)) es came

pub bridge_fin_queue : (shape : Shape) (test : BridgePut → Bool) (es : List BridgeEvent) (k : ℕ) → k < queues_of shape → test (to_queue k q.Fin) ≡ true → bridge.has_ending shape [] ≡ false → bridge.has_ending shape es ≡ true
    → list_any test (all_puts (bridge_reaction shape) es) ≡ true
bridge_fin_queue shape test es k small is none came = all_puts_turn (bridge_reaction shape) (bridge.has_ending shape) test none
    (bridge_end shape test (or_right (test (to_timers t.Fin)) (list_any test (map (λ k. to_queue k q.Fin) (numbers_below (queues_of shape))))
    (any_number test (λ k. to_queue k q.Fin) k (queues_of shape) small is))) es came

-- ---- the timers' ending

pub timers_fin : (shape : Shape) (test : ℕ × QueueNote → Bool) (es : List TimersEvent) (k : ℕ) → k < queues_of shape → test (k, q.Fin) ≡ true → timers.has_ending shape [] ≡ false → timers.has_ending shape es ≡ true
    → list_any test (all_puts (timers_reaction shape) es) ≡ true
timers_fin shape test es k small is none came = all_puts_turn (timers_reaction shape) (timers.has_ending shape) test none
    (λ before sofar e turned.
    let gones : List (ℕ × QueueNote) = flat_map (gone sofar) (live_timers shape before) in
    let fins : List (ℕ × QueueNote) = map (λ k. (k, q.Fin)) (numbers_below (queues_of shape)) in
    list_any-append test (timers.answer shape before sofar e) (timers.ending_comes shape before sofar e)
    ∙ or_right (list_any test (timers.answer shape before sofar e)) (list_any test (timers.ending_comes shape before sofar e))
    (ap (λ (b : Bool). list_any test (cond b (gones ++ fins) [])) turned ∙ list_any-append test gones fins
    ∙ or_right (list_any test gones) (list_any test fins) (any_number test (λ k. (k, q.Fin)) k (queues_of shape) small is))) es came

pub any_port : {V : Type 0} (test : V → Bool) (k : ℕ) (xs : List (ℕ × V)) → list_any (λ (x : ℕ × V). x.0 == k && test x.1) xs ≡ list_any test (by_port k xs)
any_port test k [] = refl
any_port test k (x ∷ xs) = by_case (x.0 == k) (any_port test k xs)
  where
    by_case : (b : Bool) → list_any (λ (x : ℕ × _). x.0 == k && test x.1) xs ≡ list_any test (by_port k xs)
        → ((b && test x.1) || list_any (λ (x : ℕ × _). x.0 == k && test x.1) xs) ≡ list_any test (cond b (x.1 ∷ by_port k xs) (by_port k xs))
    by_case true ih = ap (λ (c : Bool). test x.1 || c) ih
    by_case false ih = ih

-- ---- the second Fin of a queue

count_push : {E : Type 0} (test : E → Bool) (es : List E) (e : E) → count_of test (es ++ e ∷ []) ≡ count_of test es + cond (test e) 1 0
count_push test [] e = one (test e)
  where
    one : (b : Bool) → cond b 1 0 ≡ 0 + cond b 1 0
    one true = refl
    one false = refl
count_push test (x ∷ es) e = by_case (test x) (count_push test es e)
  where
    by_case : (b : Bool) → count_of test (es ++ e ∷ []) ≡ count_of test es + cond (test e) 1 0
        → cond b (suc (count_of test (es ++ e ∷ []))) (count_of test (es ++ e ∷ [])) ≡ cond b (suc (count_of test es)) (count_of test es) + cond (test e) 1 0
    by_case true ih = omega (arith, ih)
    by_case false ih = ih

abbrev twice : List (ℕ × QueueNote) → Bool
twice es = nat_le 2 (count_of is_fin es)

second : (before : List (ℕ × QueueNote)) (e : ℕ × QueueNote) → turns twice before e ≡ true → (is_fin e && count_of is_fin before == 1) ≡ true
second before e turned =
    let parts = and_parts (twice (before ++ e ∷ [])) (not (twice before)) turned in
    let now = leb-true 2 (count_of is_fin (before ++ e ∷ [])) parts.0 in
    let was : count_of is_fin before < 2 = leb-false 2 (count_of is_fin before) (off (twice before) parts.1) in
    by_case (is_fin e) refl (subst (λ (n : ℕ). 2 ≤ n) (count_push is_fin before e) now) was
  where
    off : (b : Bool) → not b ≡ true → b ≡ false
    off true h = sym h
    off false h = refl

    by_case : (b : Bool) → is_fin e ≡ b → 2 ≤ count_of is_fin before + cond b 1 0 → count_of is_fin before < 2 → (b && count_of is_fin before == 1) ≡ true
    by_case true same now was = let one : count_of is_fin before ≡ 1 = omega arith in eq-eqb (count_of is_fin before) 1 one
    by_case false same now was = absurd (omega arith)

pub queue_bye : (setting : Setting) (test : QueuePut → Bool) → list_any test (lane.to_bridge b.Bye ∷ lane.to_timers t.Bye ∷ []) ≡ true → (q : ℕ) (journal : List (ℕ × QueueNote)) → 2 ≤ count_of is_fin journal
    → list_any test (queue_puts setting q journal) ≡ true
queue_bye setting test is q journal two = puts_turn (puts_on setting q) twice test refl
    (λ before e turned. list_any-append test (queue_puts_at (orders_by setting) before e) (wishes_at (orders_by setting) (rows_on q setting.watches) before e)
    ∙ or_left (list_any test (queue_puts_at (orders_by setting) before e)) (list_any test (wishes_at (orders_by setting) (rows_on q setting.watches) before e))
    (list_any-append test (flat_map puts_of (deeds_at (orders_by setting) before e)) (bye_put before e)
    ∙ or_right (list_any test (flat_map puts_of (deeds_at (orders_by setting) before e))) (list_any test (bye_put before e))
    (ap (λ (c : Bool). list_any test (cond c (lane.to_bridge b.Bye ∷ lane.to_timers t.Bye ∷ []) [])) (second before e turned) ∙ is)))
    journal (le-leb 2 (count_of is_fin journal) two)

-- a Fin by each port makes two
one_fin : (k : ℕ) (j : List (ℕ × QueueNote)) → list_any queue.is_last (by_port k j) ≡ true → 1 ≤ count_of is_fin j
one_fin k [] h = absurd (both_ways false refl h)
one_fin k (e ∷ es) h = step e.0 e.1 h (one_fin k es)
  where
    other : (n : ℕ) (note : QueueNote) (b : Bool) → queue.is_last note ≡ false → list_any queue.is_last (cond b (note ∷ by_port k es) (by_port k es)) ≡ true → list_any queue.is_last (by_port k es) ≡ true
    other n note true apart h = ⊎_elim (λ here. absurd (both_ways (queue.is_last note) apart here)) (λ later. later) (or_cases (queue.is_last note) (list_any queue.is_last (by_port k es)) h)
    other n note false apart h = h

    step : (n : ℕ) (note : QueueNote) → list_any queue.is_last (by_port k ((n, note) ∷ es)) ≡ true → (list_any queue.is_last (by_port k es) ≡ true → 1 ≤ count_of is_fin es) → 1 ≤ count_of is_fin ((n, note) ∷ es)
    step n q.Fin h ih = omega arith
    step n (q.Create slot object make tag) h ih = ih (other n (q.Create slot object make tag) (n == k) refl h)
    step n (q.Deliver slot sub msg) h ih = ih (other n (q.Deliver slot sub msg) (n == k) refl h)
    step n (q.Reply slot inbox body) h ih = ih (other n (q.Reply slot inbox body) (n == k) refl h)
    step n (q.Bad slot sub kind sender seq bytes) h ih = ih (other n (q.Bad slot sub kind sender seq bytes) (n == k) refl h)
    step n (q.BadReply slot inbox bytes) h ih = ih (other n (q.BadReply slot inbox bytes) (n == k) refl h)
    step n (q.Tick slot timer moment) h ih = ih (other n (q.Tick slot timer moment) (n == k) refl h)
    step n (q.Gone slot object) h ih = ih (other n (q.Gone slot object) (n == k) refl h)

pub two_fins : (j : List (ℕ × QueueNote)) → list_any queue.is_last (by_port 0 j) ≡ true → list_any queue.is_last (by_port 1 j) ≡ true → 2 ≤ count_of is_fin j
two_fins [] h g = absurd (both_ways false refl h)
two_fins (e ∷ es) h g = step e.0 e.1 h g (two_fins es)
  where
    other : (k : ℕ) (note : QueueNote) (b : Bool) → queue.is_last note ≡ false → list_any queue.is_last (cond b (note ∷ by_port k es) (by_port k es)) ≡ true → list_any queue.is_last (by_port k es) ≡ true
    other k note true apart h = ⊎_elim (λ here. absurd (both_ways (queue.is_last note) apart here)) (λ later. later) (or_cases (queue.is_last note) (list_any queue.is_last (by_port k es)) h)
    other k note false apart h = h

    away : (k n : ℕ) → (n ≡ k → ⊥) → list_any queue.is_last (by_port k ((n, q.Fin) ∷ es)) ≡ true → list_any queue.is_last (by_port k es) ≡ true
    away k n apart h = sym (ap (λ (b : Bool). list_any queue.is_last (cond b (q.Fin ∷ by_port k es) (by_port k es))) (ne_eqb n k apart)) ∙ h

    step : (n : ℕ) (note : QueueNote) → list_any queue.is_last (by_port 0 ((n, note) ∷ es)) ≡ true → list_any queue.is_last (by_port 1 ((n, note) ∷ es)) ≡ true
        → (list_any queue.is_last (by_port 0 es) ≡ true → list_any queue.is_last (by_port 1 es) ≡ true → 2 ≤ count_of is_fin es) → 2 ≤ count_of is_fin ((n, note) ∷ es)
    step n q.Fin h g ih = ⊎_elim
        (λ same. let one = one_fin 1 es (away 1 n (λ is. absurd (omega arith)) g) in omega arith)
        (λ apart. let one = one_fin 0 es (away 0 n apart h) in omega arith)
        (cases_eq n 0)
    step n (q.Create slot object make tag) h g ih = ih (other 0 (q.Create slot object make tag) (n == 0) refl h) (other 1 (q.Create slot object make tag) (n == 1) refl g)
    step n (q.Deliver slot sub msg) h g ih = ih (other 0 (q.Deliver slot sub msg) (n == 0) refl h) (other 1 (q.Deliver slot sub msg) (n == 1) refl g)
    step n (q.Reply slot inbox body) h g ih = ih (other 0 (q.Reply slot inbox body) (n == 0) refl h) (other 1 (q.Reply slot inbox body) (n == 1) refl g)
    step n (q.Bad slot sub kind sender seq bytes) h g ih = ih (other 0 (q.Bad slot sub kind sender seq bytes) (n == 0) refl h) (other 1 (q.Bad slot sub kind sender seq bytes) (n == 1) refl g)
    step n (q.BadReply slot inbox bytes) h g ih = ih (other 0 (q.BadReply slot inbox bytes) (n == 0) refl h) (other 1 (q.BadReply slot inbox bytes) (n == 1) refl g)
    step n (q.Tick slot timer moment) h g ih = ih (other 0 (q.Tick slot timer moment) (n == 0) refl h) (other 1 (q.Tick slot timer moment) (n == 1) refl g)
    step n (q.Gone slot object) h g ih = ih (other 0 (q.Gone slot object) (n == 0) refl h) (other 1 (q.Gone slot object) (n == 1) refl g)
