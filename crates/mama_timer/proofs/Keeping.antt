-- What is kept of a journal with one entry more, and what the service puts at that entry.
use Rattle.std.specs.Prelude.{Option, None, Some, is_some, nat_le, max, min, if◌then◌else◌}
use Rattle.std.specs.List.{flat_map, filter, filter_map, take_while}
use Rattle.std.specs.List.Sorted.{IsStrictlySortedBy}
use Rattle.std.specs.Option.{option_map}
use Rattle.std.specs.BTreeMap.{is_at}
use Rattle.mama_event.specs.Object.{same_timer}
use Rattle.mama_timer.specs.declared.firing.Firing.{Firing}
use Rattle.mama_timer.specs.Firing.{firing_of, is_due_at, next_key, row_after}
use Rattle.mama_timer.proofs.Live.{all_armed}
use Rattle.mama_timer.proofs.Ticks.{reached_are, rows_ticked, listed_ticked, ticks_are}
use Rattle.std.specs.List.{list_any, list_all}
use Rattle.std.proofs.Common.{◌≡◌, ℕ, zero, suc, ◌+◌, ◌-◌, ◌<◌, ◌≤◌, ◌^◌, ◌==◌, Bool, true, false, not, ◌&&◌, ◌||◌, cond, List, [], ◌∷◌, ◌++◌, map, length, set, replicate, refl, sym, ◌∙◌, ap, subst, arith, ⊎_elim, length-append}
use Rattle.std.proofs.lemmas.Bool.{both_ways, and_from, false_from_ne_true, cases_eq, eq-eqb, ne_eqb}
use Rattle.std.proofs.lemmas.List.{map-append, set-append_left}
use Rattle.std.proofs.lemmas.List.Folds.{list_all-append}
use Rattle.std.proofs.Math.Seq.{set-append_seam}
use Rattle.mama_journal.specs.Journal.{all_puts, all_below, numbers_below}
use Rattle.mama_event.specs.Ports.{clients_of, queues_of}
use Rattle.mama_event.specs.declared.ids.TimerId.{TimerId}
use Rattle.mama_event.specs.declared.shape.Shape.{Shape}
use Rattle.mama_event.specs.declared.to_timers.TimersNote.{TimersNote}
use Rattle.mama_event.specs.declared.to_queue.QueueNote.{QueueNote}
use Rattle.mama_rules_services.specs.Ports.{timers_putter}
use Rattle.mama_rules_services.specs.Timers.{TimersEvent, arms, disarms, now, client_done, bye, fin, no_event, put_by, heard, ends_client, ends_queue, is_fin, has_ending, arms_timer, is_armed, is_live, free_slot, clock, firing, fires_first, due, in_order, comes_first, live_timers, to_place, place_of, timers_reaction, timers_puts, timers_puts_at}
use Rattle.mama_timer.specs.declared.table.Row.{Row}
use Rattle.mama_timer.specs.Rows.{row_of, is_listed, laid_down}
use Rattle.mama_slots.specs.Slots.{SlotData, in_use}
use Rattle.mama_timer.specs.Service.{Service, taken, every_bye}
use Rattle.mama_timer.specs.Stands.{IsStill, IsNoWord, is_held, Stands, AreRolls, AreRows}
use Rattle.mama_timer.specs.Kept.{Kept}
use Rattle.mama_timer.proofs.Lists.{list_any-push}
use Rattle.mama_journal.specs.EntryLaws.{all_puts-push}
use Rattle.std.specs.Ordering.{is_eq}
use Rattle.mama_event.specs.declared.ids.ObjectId.TheVariants.{Timer}
use Rattle.mama_event.specs.declared.to_queue.Make.TheVariants as make
use Rattle.mama_event.specs.declared.to_queue.QueueNote.TheVariants as q
use Rattle.mama_timer.specs.Order.{timer_cmp, due_cmp}
use Rattle.mama_timer.proofs.Orders.{timer_ties}
use Rattle.mama_timer.proofs.Changes.{stands_armed, stands_disarmed, stands_ticked}
use Rattle.mama_timer.proofs.Holding.{Facts, free_slot-is, free_slot-free}
use Rattle.mama_event.specs.declared.ids.ObjectId.{ObjectId}
use Rattle.mama_timer.proofs.Pushes.{no_turn, armed_came, clock-small, clock-push}
use Rattle.mama_timer.proofs.Reactions.{facts, made_none, now_no_end, late_slot, react_arm, react_disarm, react_no_disarm, no_ending, nothing_no_end, bye_no_end}
use Rattle.mama_timer.proofs.Standing.{stands_still}

-- ---- one entry more, by its meaning

pub heard-push : (shape : Shape) (journal : List (ℕ × TimersNote)) (entry : ℕ × TimersNote)
    → heard shape (journal ++ entry ∷ []) ≡ heard shape journal ++ put_by (timers_putter shape entry.0) entry.1 ∷ []
heard-push shape journal entry = map-append (λ (e : ℕ × TimersNote). put_by (timers_putter shape e.0) e.1) journal (entry ∷ [])

pub puts-grow : (shape : Shape) (journal : List (ℕ × TimersNote)) (entry : ℕ × TimersNote)
    → timers_puts shape (journal ++ entry ∷ []) ≡ timers_puts shape journal ++ timers_puts_at shape journal entry
puts-grow shape journal entry = ap (all_puts (timers_reaction shape)) (heard-push shape journal entry)
    ∙ all_puts-push (timers_reaction shape) (heard shape journal) (put_by (timers_putter shape entry.0) entry.1)

pub facts_of : (shape : Shape) (journal : List (ℕ × TimersNote)) → Facts shape (heard shape journal) (timers_puts shape journal)
facts_of shape journal = facts shape (heard shape journal)

module _ (shape : Shape) (journal : List (ℕ × TimersNote)) (port : ℕ) (note : TimersNote) (e : TimersEvent) (means : put_by (timers_putter shape port) note ≡ e) where
  pub puts_at_is : timers_puts_at shape journal (port, note) ≡ timers_reaction shape (heard shape journal) (timers_puts shape journal) e
  puts_at_is = ap (timers_reaction shape (heard shape journal) (timers_puts shape journal)) means

  pub kept_after : (more : List (ℕ × QueueNote)) (moment : ℕ) (rows : List (TimerId × Row)) (dues : List (ℕ × TimerId)) (slots : SlotData) (clients : List Bool) (bridge : Bool) (queues : List Bool)
      → timers_reaction shape (heard shape journal) (timers_puts shape journal) e ≡ more
      → Stands shape (heard shape journal ++ e ∷ []) (timers_puts shape journal ++ more) moment (row_of rows) (is_listed dues) slots
      → AreRolls shape (heard shape journal ++ e ∷ []) clients bridge queues
      → Kept shape (journal ++ (port, note) ∷ []) moment rows dues slots clients bridge queues
  kept_after more moment rows dues slots clients bridge queues puts stands rolls =
      let es : heard shape journal ++ e ∷ [] ≡ heard shape (journal ++ (port, note) ∷ []) =
      sym (heard-push shape journal (port, note) ∙ ap (λ (x : TimersEvent). heard shape journal ++ x ∷ []) means) in
      let ps : timers_puts shape journal ++ more ≡ timers_puts shape (journal ++ (port, note) ∷ []) =
      sym (puts-grow shape journal (port, note) ∙ ap (λ (xs : List (ℕ × QueueNote)). timers_puts shape journal ++ xs) (puts_at_is ∙ puts)) in
      let P : List TimersEvent → Type 0 = λ xs. Stands shape xs (timers_puts shape journal ++ more) moment (row_of rows) (is_listed dues) slots in
      let Q : List (ℕ × QueueNote) → Type 0 = λ xs. Stands shape (heard shape (journal ++ (port, note) ∷ [])) xs moment (row_of rows) (is_listed dues) slots in
      let R : List TimersEvent → Type 0 = λ xs. AreRolls shape xs clients bridge queues in
      record { stands = subst Q ps (subst P es stands); rolls = subst R es rolls }

-- ---- who said the last word

or_false : (b c : Bool) → c ≡ false → (b || c) ≡ b
or_false true c h = refl
or_false false c h = h

map-agree : (f g : ℕ → Bool) (xs : List ℕ) → ((n : ℕ) → f n ≡ g n) → map f xs ≡ map g xs
map-agree f g [] h = refl
map-agree f g (x ∷ xs) h = rw (h x, map-agree f g xs h) refl

any_still : (p : TimersEvent → Bool) (es : List TimersEvent) (e : TimersEvent) → p e ≡ false → list_any p es ≡ list_any p (es ++ e ∷ [])
any_still p es e h = sym (list_any-push p es e ∙ or_false (list_any p es) (p e) h)

clients_still : (shape : Shape) (es : List TimersEvent) (e : TimersEvent) → ((c : ℕ) → ends_client c e ≡ false)
    → map (λ c. list_any (ends_client c) es) (numbers_below (clients_of shape)) ≡ map (λ c. list_any (ends_client c) (es ++ e ∷ [])) (numbers_below (clients_of shape))
clients_still shape es e h = map-agree (λ c. list_any (ends_client c) es) (λ c. list_any (ends_client c) (es ++ e ∷ [])) (numbers_below (clients_of shape)) (λ c. any_still (ends_client c) es e (h c))

queues_still : (shape : Shape) (es : List TimersEvent) (e : TimersEvent) → ((k : ℕ) → ends_queue k e ≡ false)
    → map (λ k. list_any (ends_queue k) es) (numbers_below (queues_of shape)) ≡ map (λ k. list_any (ends_queue k) (es ++ e ∷ [])) (numbers_below (queues_of shape))
queues_still shape es e h = map-agree (λ k. list_any (ends_queue k) es) (λ k. list_any (ends_queue k) (es ++ e ∷ [])) (numbers_below (queues_of shape)) (λ k. any_still (ends_queue k) es e (h k))

pub rolls_still : (shape : Shape) (es : List TimersEvent) (e : TimersEvent) (clients : List Bool) (bridge : Bool) (queues : List Bool) → IsNoWord e
    → AreRolls shape es clients bridge queues → AreRolls shape (es ++ e ∷ []) clients bridge queues
rolls_still shape es e clients bridge queues none rolls = record {
  clients = rolls.clients ∙ clients_still shape es e none.client;
  bridge = rolls.bridge ∙ any_still is_fin es e none.bridge;
  queues = rolls.queues ∙ queues_still shape es e none.queue;
}

pub length-numbers : (n : ℕ) (f : ℕ → Bool) → length (map f (numbers_below n)) ≡ n
length-numbers zero f = refl
length-numbers (suc n) f = ap length (map-append f (numbers_below n) (n ∷ [])) ∙ length-append (map f (numbers_below n)) (f n ∷ []) ∙ omega (arith, length-numbers n f)

below_same : (n c : ℕ) (f g : ℕ → Bool) → n ≤ c → ((k : ℕ) → k < c → g k ≡ f k) → map f (numbers_below n) ≡ map g (numbers_below n)
below_same zero c f g h same = refl
below_same (suc n) c f g h same = map-append f (numbers_below n) (n ∷ [])
    ∙ rw (below_same n c f g (omega (arith, h)) same, sym (same n (omega (arith, h)))) (sym (map-append g (numbers_below n) (n ∷ [])))

-- marking one of a list of tests
pub marked : (n c : ℕ) (f g : ℕ → Bool) → c < n → g c ≡ true → ((k : ℕ) → (k ≡ c → ⊥) → g k ≡ f k)
    → set (map f (numbers_below n)) c true ≡ map g (numbers_below n)
marked zero c f g less here others = absurd (omega (arith, less))
marked (suc n) c f g less here others = ⊎_elim
    (λ (e : c ≡ n). ap (λ (xs : List Bool). set xs c true) (map-append f (numbers_below n) (n ∷ []))
    ∙ ap (λ (i : ℕ). set (map f (numbers_below n) ++ f n ∷ []) i true) (e ∙ sym (length-numbers n f))
    ∙ set-append_seam (map f (numbers_below n)) (f n) [] true
    ∙ rw (below_same n c f g (omega (arith, e)) (λ k small. others k (λ same. omega (arith, small, same))), sym here, e) (sym (map-append g (numbers_below n) (n ∷ []))))
    (λ (ne : c ≡ n → ⊥). let small : c < n = omega (arith, less, ne) in
    ap (λ (xs : List Bool). set xs c true) (map-append f (numbers_below n) (n ∷ []))
    ∙ set-append_left (map f (numbers_below n)) (f n ∷ []) c true (rw (length-numbers n f) small)
    ∙ rw (marked n c f g small here others, sym (others n (λ same. ne (sym same)))) (sym (map-append g (numbers_below n) (n ∷ []))))
    (cases_eq c n)

pub rolls_client : (shape : Shape) (es : List TimersEvent) (c : ℕ) (clients : List Bool) (bridge : Bool) (queues : List Bool) → c < clients_of shape
    → AreRolls shape es clients bridge queues → AreRolls shape (es ++ client_done c ∷ []) (set clients c true) bridge queues
rolls_client shape es c clients bridge queues less rolls = record {
  clients = ap (λ (xs : List Bool). set xs c true) rolls.clients
      ∙ marked (clients_of shape) c (λ k. list_any (ends_client k) es) (λ k. list_any (ends_client k) (es ++ client_done c ∷ [])) less
      (list_any-push (ends_client c) es (client_done c) ∙ ap (λ (b : Bool). list_any (ends_client c) es || b) (eq-eqb c c refl) ∙ or_true (list_any (ends_client c) es))
      (λ k ne. sym (any_still (ends_client k) es (client_done c) (ne_eqb c k (λ same. ne (sym same)))));
  bridge = rolls.bridge ∙ any_still is_fin es (client_done c) refl;
  queues = rolls.queues ∙ queues_still shape es (client_done c) (λ k. refl);
}
  where
    or_true : (b : Bool) → (b || true) ≡ true
    or_true true = refl
    or_true false = refl

pub rolls_queue : (shape : Shape) (es : List TimersEvent) (c : ℕ) (clients : List Bool) (bridge : Bool) (queues : List Bool) → c < queues_of shape
    → AreRolls shape es clients bridge queues → AreRolls shape (es ++ bye c ∷ []) clients bridge (set queues c true)
rolls_queue shape es c clients bridge queues less rolls = record {
  clients = rolls.clients ∙ clients_still shape es (bye c) (λ k. refl);
  bridge = rolls.bridge ∙ any_still is_fin es (bye c) refl;
  queues = ap (λ (xs : List Bool). set xs c true) rolls.queues
      ∙ marked (queues_of shape) c (λ k. list_any (ends_queue k) es) (λ k. list_any (ends_queue k) (es ++ bye c ∷ [])) less
      (list_any-push (ends_queue c) es (bye c) ∙ ap (λ (b : Bool). list_any (ends_queue c) es || b) (eq-eqb c c refl) ∙ or_true (list_any (ends_queue c) es))
      (λ k ne. sym (any_still (ends_queue k) es (bye c) (ne_eqb c k (λ same. ne (sym same)))));
}
  where
    or_true : (b : Bool) → (b || true) ≡ true
    or_true true = refl
    or_true false = refl

pub rolls_bridge : (shape : Shape) (es : List TimersEvent) (clients : List Bool) (bridge : Bool) (queues : List Bool)
    → AreRolls shape es clients bridge queues → AreRolls shape (es ++ fin ∷ []) clients true queues
rolls_bridge shape es clients bridge queues rolls = record {
  clients = rolls.clients ∙ clients_still shape es fin (λ k. refl);
  bridge = sym (list_any-push is_fin es fin ∙ or_true (list_any is_fin es));
  queues = rolls.queues ∙ queues_still shape es fin (λ k. refl);
}
  where
    or_true : (b : Bool) → (b || true) ≡ true
    or_true true = refl
    or_true false = refl

-- a roll is full where all have said it
pub full_is : (n : ℕ) (f : ℕ → Bool) → list_all (λ b. b) (map f (numbers_below n)) ≡ all_below n f
full_is zero f = refl
full_is (suc n) f = ap (list_all (λ b. b)) (map-append f (numbers_below n) (n ∷ [])) ∙ list_all-append (λ b. b) (map f (numbers_below n)) (f n ∷ [])
    ∙ rw (full_is n f) (last (all_below n f) (f n))
  where
    last : (a b : Bool) → (a && (b && true)) ≡ (a && b)
    last true true = refl
    last true false = refl
    last false b = refl

pub ended_is : (shape : Shape) (es : List TimersEvent) (clients : List Bool) (bridge : Bool) (queues : List Bool) → AreRolls shape es clients bridge queues
    → (list_all (λ b. b) clients && bridge) ≡ has_ending shape es
ended_is shape es clients bridge queues rolls =
    rw (ap (list_all (λ b. b)) rolls.clients ∙ full_is (clients_of shape) (λ c. list_any (ends_client c) es), rolls.bridge) refl

pub byes_are : (shape : Shape) (es : List TimersEvent) (clients : List Bool) (bridge : Bool) (queues : List Bool) → AreRolls shape es clients bridge queues
    → list_all (λ b. b) queues ≡ every_bye shape es
byes_are shape es clients bridge queues rolls = ap (list_all (λ b. b)) rolls.queues ∙ full_is (queues_of shape) (λ k. list_any (ends_queue k) es)

-- ---- a service that took nothing yet

replicate-push : (n : ℕ) (b : Bool) → replicate (suc n) b ≡ replicate n b ++ b ∷ []
replicate-push zero b = refl
replicate-push (suc n) b = ap (λ (xs : List Bool). b ∷ xs) (replicate-push n b)

none_said : (n : ℕ) → replicate n false ≡ map (λ (k : ℕ). false) (numbers_below n)
none_said zero = refl
none_said (suc n) = replicate-push n false ∙ ap (λ (xs : List Bool). xs ++ false ∷ []) (none_said n) ∙ sym (map-append (λ (k : ℕ). false) (numbers_below n) (n ∷ []))

no_row : (t : TimerId) (r : Row) → row_of [] t ≡ Some r → ⊥
no_row t r h = cc

pub kept_new : (shape : Shape) (slots : SlotData) → ((queue slot : ℕ) → in_use slots queue slot ≡ false)
    → Kept shape [] 0 [] [] slots (replicate (clients_of shape) false) false (replicate (queues_of shape) false)
kept_new shape slots free = record {
  stands = record {
    time = refl;
    rows = record { unknown = λ t h. refl; known = λ t r h. absurd (no_row t r h) };
    listed = λ none. record { each = λ t r h. absurd (no_row t r h) };
    slots = λ none queue slot. free queue slot;
  };
  rolls = record { clients = none_said (clients_of shape); bridge = refl; queues = none_said (queues_of shape) };
}

-- ---- an entry that changes no timer and is no last word

pub kept_still : (shape : Shape) (journal : List (ℕ × TimersNote)) (port : ℕ) (note : TimersNote) (e : TimersEvent) (means : put_by (timers_putter shape port) note ≡ e)
    (more : List (ℕ × QueueNote)) (moment : ℕ) (rows : List (TimerId × Row)) (dues : List (ℕ × TimerId)) (slots : SlotData) (clients : List Bool) (bridge : Bool) (queues : List Bool)
    → timers_reaction shape (heard shape journal) (timers_puts shape journal) e ≡ more → ((t : TimerId) → place_of t more ≡ None)
    → IsStill (heard shape journal) e → IsNoWord e
    → Kept shape journal moment rows dues slots clients bridge queues → Kept shape (journal ++ (port, note) ∷ []) moment rows dues slots clients bridge queues
kept_still shape journal port note e means more moment rows dues slots clients bridge queues puts made still none kept =
    kept_after shape journal port note e means more moment rows dues slots clients bridge queues puts
    (stands_still shape (heard shape journal) (timers_puts shape journal) more e moment (row_of rows) (is_listed dues) slots still made kept.stands)
    (rolls_still shape (heard shape journal) e clients bridge queues none kept.rolls)

pub nothing_no_word : IsNoWord no_event
nothing_no_word = record { client = λ c. refl; bridge = refl; queue = λ k. refl }

pub nothing_puts : (shape : Shape) (es : List TimersEvent) (sofar : List (ℕ × QueueNote)) → timers_reaction shape es sofar no_event ≡ []
nothing_puts shape es sofar = no_ending shape es sofar no_event (no_turn shape es no_event nothing_no_end)

pub arms_no_word : (u : TimerId) (queue interval : ℕ) (tag : ObjectId) → IsNoWord (arms u queue interval tag)
arms_no_word u queue interval tag = record { client = λ c. refl; bridge = refl; queue = λ k. refl }

pub disarms_no_word : (u : TimerId) → IsNoWord (disarms u)
disarms_no_word u = record { client = λ c. refl; bridge = refl; queue = λ k. refl }

pub now_no_word : (moment : ℕ) → IsNoWord (now moment)
now_no_word moment = record { client = λ c. refl; bridge = refl; queue = λ k. refl }

pub bye_puts : (shape : Shape) (es : List TimersEvent) (sofar : List (ℕ × QueueNote)) (k : ℕ) → timers_reaction shape es sofar (bye k) ≡ []
bye_puts shape es sofar k = no_ending shape es sofar (bye k) (no_turn shape es (bye k) (bye_no_end k))

-- an entry at which nothing is put and that changes no timer
pub kept_quiet : (shape : Shape) (journal : List (ℕ × TimersNote)) (port : ℕ) (note : TimersNote)
    (moment : ℕ) (rows : List (TimerId × Row)) (dues : List (ℕ × TimerId)) (slots : SlotData) (clients : List Bool) (bridge : Bool) (queues : List Bool)
    → IsStill (heard shape journal) (put_by (timers_putter shape port) note) → IsNoWord (put_by (timers_putter shape port) note) → timers_puts_at shape journal (port, note) ≡ []
    → Kept shape journal moment rows dues slots clients bridge queues → Kept shape (journal ++ (port, note) ∷ []) moment rows dues slots clients bridge queues
kept_quiet shape journal port note moment rows dues slots clients bridge queues still none puts kept =
    kept_still shape journal port note (put_by (timers_putter shape port) note) refl [] moment rows dues slots clients bridge queues puts (λ t. refl) still none kept

-- ---- what a row tells

pub row_came : (shape : Shape) (es : List TimersEvent) (sofar : List (ℕ × QueueNote)) (rows : TimerId → Option Row) (t : TimerId) → AreRows shape es sofar rows
    → is_some (rows t) ≡ list_any (arms_timer t) es
row_came shape es sofar rows t are = by_row (rows t) refl
  where
    by_row : (o : Option Row) → rows t ≡ o → is_some o ≡ list_any (arms_timer t) es
    by_row None e = sym (are.unknown t e)
    by_row (Some r) e = sym (are.known t r e).came

pub row_armed : (shape : Shape) (es : List TimersEvent) (sofar : List (ℕ × QueueNote)) (rows : TimerId → Option Row) (t : TimerId) (r : Row) → AreRows shape es sofar rows
    → rows t ≡ Some r → r.armed ≡ is_armed t es
row_armed shape es sofar rows t r are h = (are.known t r h).armed

pub no_row_armed : (shape : Shape) (es : List TimersEvent) (sofar : List (ℕ × QueueNote)) (rows : TimerId → Option Row) (t : TimerId) → AreRows shape es sofar rows
    → rows t ≡ None → is_armed t es ≡ false
no_row_armed shape es sofar rows t are h = false_from_ne_true (is_armed t es) (λ a. both_ways (list_any (arms_timer t) es) (are.unknown t h) (armed_came t es a))

-- ---- changes that the journal does not tell of

pub kept_slots : (shape : Shape) (journal : List (ℕ × TimersNote)) (moment : ℕ) (rows : List (TimerId × Row)) (dues dues' : List (ℕ × TimerId)) (slots slots' : SlotData) (clients : List Bool) (bridge : Bool) (queues : List Bool)
    → ((key : ℕ × TimerId) → is_listed dues key ≡ true → is_listed dues' key ≡ true) → ((queue slot : ℕ) → in_use slots' queue slot ≡ in_use slots queue slot)
    → Kept shape journal moment rows dues slots clients bridge queues → Kept shape journal moment rows dues' slots' clients bridge queues
kept_slots shape journal moment rows dues dues' slots slots' clients bridge queues listed same kept = record {
  stands = record {
    time = kept.stands.time;
    rows = kept.stands.rows;
    listed = λ none. record { each = λ t r is a. listed (r.due, t) ((kept.stands.listed none).each t r is a) };
    slots = λ none queue slot. same queue slot ∙ kept.stands.slots none queue slot;
  };
  rolls = kept.rolls;
}

-- ---- the first arming of a timer

module _ (shape : Shape) (journal : List (ℕ × TimersNote)) (port : ℕ) (note : TimersNote) (u : TimerId) (r : Row) (tag : ObjectId)
    (moment : ℕ) (rows rows' : List (TimerId × Row)) (dues dues' : List (ℕ × TimerId)) (slots slots' : SlotData) (clients : List Bool) (bridge : Bool) (queues : List Bool)
    (means : put_by (timers_putter shape port) note ≡ arms u r.queue r.interval tag)
    (new : list_any (arms_timer u) (heard shape journal) ≡ false)
    (kept : Kept shape journal moment rows dues slots clients bridge queues) where
  -- the slot is the one that the definition says
  pub slot_yet : has_ending shape (heard shape journal) ≡ false → in_use slots r.queue r.slot ≡ false → ((k : ℕ) → k < r.slot → in_use slots r.queue k ≡ true)
      → free_slot shape (heard shape journal) (timers_puts shape journal) r.queue ≡ r.slot
  slot_yet yet free below = free_slot-is shape (heard shape journal) (timers_puts shape journal) r.queue r.slot
      (sym (kept.stands.slots yet r.queue r.slot) ∙ free) (λ k less. sym (kept.stands.slots yet r.queue k) ∙ below k less)

  pub slot_late : has_ending shape (heard shape journal) ≡ true → r.slot ≡ 0 → free_slot shape (heard shape journal) (timers_puts shape journal) r.queue ≡ r.slot
  slot_late ended zero_slot = late_slot shape (heard shape journal) (timers_puts shape journal) r.queue ended ∙ sym zero_slot

  module _ (slot_is : free_slot shape (heard shape journal) (timers_puts shape journal) r.queue ≡ r.slot) where
    pub puts_armed : timers_puts_at shape journal (port, note) ≡ (r.queue, q.Create r.slot (Timer u) make.Timer tag) ∷ []
    puts_armed = puts_at_is shape journal port note (arms u r.queue r.interval tag) means
        ∙ react_arm shape (heard shape journal) (timers_puts shape journal) u r.queue r.interval tag new
        ∙ ap (λ (n : ℕ). (r.queue, q.Create n (Timer u) make.Timer tag) ∷ []) slot_is

    pub kept_armed : r.armed ≡ true → (has_ending shape (heard shape journal) ≡ false → r.due ≡ moment + r.interval)
        → ((t : TimerId) → row_of rows' t ≡ cond (is_eq (timer_cmp u t)) (Some r) (row_of rows t))
        → (has_ending shape (heard shape journal) ≡ false → is_listed dues' (r.due, u) ≡ true)
        → (has_ending shape (heard shape journal) ≡ false → (key : ℕ × TimerId) → is_listed dues key ≡ true → is_listed dues' key ≡ true)
        → (has_ending shape (heard shape journal) ≡ false → (of k : ℕ) → in_use slots' of k ≡ (in_use slots of k || (of == r.queue && k == r.slot)))
        → Kept shape (journal ++ (port, note) ∷ []) moment rows' dues' slots' clients bridge queues
    kept_armed armed due rows_are listed_it listed_still slots_are =
        kept_after shape journal port note (arms u r.queue r.interval tag) means ((r.queue, q.Create r.slot (Timer u) make.Timer tag) ∷ []) moment rows' dues' slots' clients bridge queues
        (sym (puts_at_is shape journal port note (arms u r.queue r.interval tag) means) ∙ puts_armed)
        (stands_armed shape (heard shape journal) (timers_puts shape journal) u r tag moment (row_of rows) (row_of rows') (is_listed dues) (is_listed dues') slots slots' new
        (ap (is_held shape (heard shape journal) (timers_puts shape journal) r.queue) (sym slot_is) ∙ free_slot-free shape (heard shape journal) (timers_puts shape journal) r.queue)
        (facts_of shape journal) armed (λ yet. due yet ∙ ap (λ (n : ℕ). n + r.interval) kept.stands.time)
        (λ t. rows_are t ∙ ap (λ (b : Bool). cond b (Some r) (row_of rows t)) (timer_ties u t)) listed_it listed_still slots_are kept.stands)
        (rolls_still shape (heard shape journal) (arms u r.queue r.interval tag) clients bridge queues (arms_no_word u r.queue r.interval tag) kept.rolls)

-- ---- the clock

pub clock_fits : (shape : Shape) (journal : List (ℕ × TimersNote)) (moment : ℕ) (rows : List (TimerId × Row)) (dues : List (ℕ × TimerId)) (slots : SlotData) (clients : List Bool) (bridge : Bool) (queues : List Bool)
    → Kept shape journal moment rows dues slots clients bridge queues → moment < 2 ^ 63
clock_fits shape journal moment rows dues slots clients bridge queues kept = rw kept.stands.time (clock-small (heard shape journal))

pub listed_with : (key : ℕ × TimerId) (new was : Bool) (other : ℕ × TimerId) → new ≡ cond (is_eq (due_cmp key other)) true was → was ≡ true → new ≡ true
listed_with key new was other step h = by_case (is_eq (due_cmp key other)) step
  where
    by_case : (b : Bool) → new ≡ cond b true was → new ≡ true
    by_case true e = e
    by_case false e = e ∙ h

-- what contracts see after one entry more
pub taken_view : (shape : Shape) (journal items : List (ℕ × TimersNote)) (entry : ℕ × TimersNote) (s v : Service) → items ≡ journal ++ entry ∷ [] → v ≡ s
    → v.shape ≡ shape → v.journal ≡ journal → (w : Service) → w.shape ≡ shape → w.journal ≡ items → w ≡ taken s entry
taken_view shape journal items entry s v more is sh jo w wsh wjo =
    let shapes : w.shape ≡ s.shape = wsh ∙ sym sh ∙ ap (λ (x : Service). x.shape) is in
    let journals : w.journal ≡ s.journal ++ entry ∷ [] = wjo ∙ more ∙ ap (λ (js : List (ℕ × TimersNote)). js ++ entry ∷ []) (sym jo ∙ ap (λ (x : Service). x.journal) is) in
    λ i. record { shape = shapes i; journal = journals i }

-- ---- the end of a timer

one_place : (a b : ℕ × ℕ) → Some a ≡ Some b → a ≡ b
one_place a b h = cc

find_row : (o : Option Row) → is_some o ≡ true → (r : Row) × (o ≡ Some r)
find_row None h = cc
find_row (Some r) h = (r, refl)

module _ (shape : Shape) (journal : List (ℕ × TimersNote)) (port : ℕ) (note : TimersNote) (u : TimerId)
    (moment : ℕ) (rows : List (TimerId × Row)) (dues : List (ℕ × TimerId)) (slots : SlotData) (clients : List Bool) (bridge : Bool) (queues : List Bool)
    (means : put_by (timers_putter shape port) note ≡ disarms u)
    (armed : is_armed u (heard shape journal) ≡ true)
    (kept : Kept shape journal moment rows dues slots clients bridge queues) where
  pub kept_disarmed : (rows' : List (TimerId × Row)) (dues' : List (ℕ × TimerId)) (slots' : SlotData)
      → ((t : TimerId) → row_of rows' t ≡ (if same_timer u t then option_map laid_down (row_of rows t) else row_of rows t))
      → ((key : ℕ × TimerId) → same_timer u key.1 ≡ false → is_listed dues key ≡ true → is_listed dues' key ≡ true)
      → (queue slot : ℕ) → (has_ending shape (heard shape journal) ≡ false → place_of u (timers_puts shape journal) ≡ Some (queue, slot))
      → (has_ending shape (heard shape journal) ≡ false → (of k : ℕ) → in_use slots' of k ≡ (in_use slots of k && not (of == queue && k == slot)))
      → Kept shape (journal ++ (port, note) ∷ []) moment rows' dues' slots' clients bridge queues
  kept_disarmed rows' dues' slots' rows_are listed_kept queue slot place slots_are =
      let es : List TimersEvent = heard shape journal in
      let sofar : List (ℕ × QueueNote) = timers_puts shape journal in
      let row = find_row (row_of rows u) (row_came shape es sofar (row_of rows) u kept.stands.rows ∙ armed_came u es armed) in
      let is = kept.stands.rows.known u row.0 row.1 in
      kept_after shape journal port note (disarms u) means (timers_reaction shape es sofar (disarms u)) moment rows' dues' slots' clients bridge queues refl
      (stands_disarmed shape es sofar (timers_reaction shape es sofar (disarms u)) u row.0 moment (row_of rows) (row_of rows') (is_listed dues) (is_listed dues') slots slots'
      (λ t. made_none t shape es sofar (disarms u) refl) (facts_of shape journal) row.1 (is.armed ∙ armed) rows_are listed_kept
      (λ yet of k.
      let same : (queue, slot) ≡ (row.0.queue, row.0.slot) = one_place (queue, slot) (row.0.queue, row.0.slot) (sym (place yet) ∙ is.place) in
      slots_are yet of k ∙ ap (λ (p : ℕ × ℕ). in_use slots of k && not (of == p.0 && k == p.1)) same)
      kept.stands)
      (rolls_still shape es (disarms u) clients bridge queues (disarms_no_word u) kept.rolls)

pub puts_disarm : (shape : Shape) (journal : List (ℕ × TimersNote)) (port : ℕ) (note : TimersNote) (u : TimerId) (queue slot : ℕ) → put_by (timers_putter shape port) note ≡ disarms u
    → is_armed u (heard shape journal) ≡ true → has_ending shape (heard shape journal) ≡ false → place_of u (timers_puts shape journal) ≡ Some (queue, slot)
    → timers_puts_at shape journal (port, note) ≡ (queue, q.Gone slot (Timer u)) ∷ []
puts_disarm shape journal port note u queue slot means armed yet place = puts_at_is shape journal port note (disarms u) means
    ∙ react_disarm shape (heard shape journal) (timers_puts shape journal) u (and_from (is_armed u (heard shape journal)) (not (has_ending shape (heard shape journal))) armed (ap not yet))
    ∙ ap (λ (o : Option (ℕ × ℕ)). to_place o (λ n. q.Gone n (Timer u))) place

pub puts_no_disarm : (shape : Shape) (journal : List (ℕ × TimersNote)) (port : ℕ) (note : TimersNote) (u : TimerId) → put_by (timers_putter shape port) note ≡ disarms u
    → is_live shape u (heard shape journal) ≡ false → timers_puts_at shape journal (port, note) ≡ []
puts_no_disarm shape journal port note u means not_live = puts_at_is shape journal port note (disarms u) means
    ∙ react_no_disarm shape (heard shape journal) (timers_puts shape journal) u not_live

pub not_live_unarmed : (shape : Shape) (u : TimerId) (es : List TimersEvent) → is_armed u es ≡ false → is_live shape u es ≡ false
not_live_unarmed shape u es h = ap (λ (b : Bool). b && not (has_ending shape es)) h

pub not_live_late : (shape : Shape) (u : TimerId) (es : List TimersEvent) → has_ending shape es ≡ true → is_live shape u es ≡ false
not_live_late shape u es h = ap (λ (b : Bool). is_armed u es && not b) h ∙ never (is_armed u es)
  where
    never : (b : Bool) → (b && false) ≡ false
    never true = refl
    never false = refl

-- ---- a moment

filter_none : (p : TimerId → Bool) (xs : List TimerId) → ((t : TimerId) → p t ≡ false) → filter p xs ≡ []
filter_none p [] h = refl
filter_none p (x ∷ xs) h = ap (λ (b : Bool). cond b (x ∷ filter p xs) (filter p xs)) (h x) ∙ filter_none p xs h

-- after the ending no timer is live
pub live_none : (shape : Shape) (es : List TimersEvent) → has_ending shape es ≡ true → live_timers shape es ≡ []
live_none shape es ended = ap (in_order comes_first) (filter_none (λ timer. is_live shape timer es) (all_armed es) (λ t. not_live_late shape t es ended))

module _ (shape : Shape) (journal : List (ℕ × TimersNote)) (port : ℕ) (note : TimersNote) (told at : ℕ)
    (moment : ℕ) (rows : List (TimerId × Row)) (dues : List (ℕ × TimerId)) (slots : SlotData) (clients : List Bool) (bridge : Bool) (queues : List Bool)
    (means : put_by (timers_putter shape port) note ≡ now told)
    (clock_is : at ≡ clock (heard shape journal ++ now told ∷ []))
    (kept : Kept shape journal moment rows dues slots clients bridge queues) where
  pub kept_late : has_ending shape (heard shape journal) ≡ true → Kept shape (journal ++ (port, note) ∷ []) at rows dues slots clients bridge queues
  kept_late ended =
      let es : List TimersEvent = heard shape journal in
      let sofar : List (ℕ × QueueNote) = timers_puts shape journal in
      kept_after shape journal port note (now told) means (timers_reaction shape es sofar (now told)) at rows dues slots clients bridge queues refl
      (stands_ticked shape es sofar (timers_reaction shape es sofar (now told)) told moment at (row_of rows) (row_of rows) (is_listed dues) (is_listed dues) slots
      (λ t. made_none t shape es sofar (now told) refl) clock_is
      (λ yet. absurd (both_ways (has_ending shape es) yet ended)) (λ late t. refl) (λ yet. absurd (both_ways (has_ending shape es) yet ended)) kept.stands)
      (rolls_still shape es (now told) clients bridge queues (now_no_word told) kept.rolls)

  module _ (yet : has_ending shape (heard shape journal) ≡ false) (sorted : IsStrictlySortedBy due_cmp dues) (keys : List (ℕ × TimerId)) (fs : List Firing)
      (keys_are : keys ≡ take_while (λ key. nat_le key.0 at) dues) (firings_are : fs ≡ filter_map (firing_of (row_of rows) at) keys) where
    fired_are : fs ≡ filter_map (firing_of (row_of rows) at) (filter (λ key. nat_le key.0 at) dues)
    fired_are = firings_are ∙ ap (filter_map (firing_of (row_of rows) at)) (keys_are ∙ reached_are at dues sorted)

    pub kept_ticked : (rows' : List (TimerId × Row)) (dues' : List (ℕ × TimerId)) (mid : List (ℕ × TimerId))
        → ((t : TimerId) → row_of rows' t ≡ row_after fs t (row_of rows t))
        → ((key : ℕ × TimerId) → is_listed mid key ≡ (is_listed dues key || list_any (λ f. is_at (due_cmp key) (next_key f)) fs))
        → ((key : ℕ × TimerId) → is_due_at key.0 (row_of rows' key.1) ≡ true → is_listed mid key ≡ true → is_listed dues' key ≡ true)
        → Kept shape (journal ++ (port, note) ∷ []) at rows' dues' slots clients bridge queues
    kept_ticked rows' dues' mid rows_are mid_is struck =
        let es : List TimersEvent = heard shape journal in
        let sofar : List (ℕ × QueueNote) = timers_puts shape journal in
        kept_after shape journal port note (now told) means (timers_reaction shape es sofar (now told)) at rows' dues' slots clients bridge queues refl
        (stands_ticked shape es sofar (timers_reaction shape es sofar (now told)) told moment at (row_of rows) (row_of rows') (is_listed dues) (is_listed dues') slots
        (λ t. made_none t shape es sofar (now told) refl) clock_is
        (λ h t. rows_are t ∙ ap (λ (xs : List Firing). row_after xs t (row_of rows t)) fired_are
        ∙ rows_ticked shape es sofar moment at (row_of rows) slots dues yet sorted kept.stands t)
        (λ late. absurd (both_ways (has_ending shape es) yet late))
        (λ h. listed_ticked shape es sofar moment at (row_of rows) slots dues yet sorted kept.stands (row_of rows') (is_listed dues') (is_listed mid)
        (λ t. rows_are t ∙ ap (λ (xs : List Firing). row_after xs t (row_of rows t)) fired_are)
        (λ key. mid_is key ∙ ap (λ (xs : List Firing). is_listed dues key || list_any (λ f. is_at (due_cmp key) (next_key f)) xs) fired_are) struck)
        kept.stands)
        (rolls_still shape es (now told) clients bridge queues (now_no_word told) kept.rolls)

    pub puts_ticked : timers_puts_at shape journal (port, note) ≡ map (λ (f : Firing). (f.queue, q.Tick f.slot f.timer at)) fs
    puts_ticked = puts_at_is shape journal port note (now told) means
        ∙ no_ending shape (heard shape journal) (timers_puts shape journal) (now told) (no_turn shape (heard shape journal) (now told) (now_no_end told))
        ∙ ap (λ (n : ℕ). flat_map (λ timer. to_place (place_of timer (timers_puts shape journal)) (λ slot. q.Tick slot timer n)) (firing shape (heard shape journal) n)) (sym clock_is)
        ∙ ticks_are shape (heard shape journal) (timers_puts shape journal) moment at (row_of rows) slots dues yet sorted kept.stands
        ∙ ap (map (λ (f : Firing). (f.queue, q.Tick f.slot f.timer at))) (sym fired_are)

pub puts_late : (shape : Shape) (journal : List (ℕ × TimersNote)) (port : ℕ) (note : TimersNote) (told : ℕ) → put_by (timers_putter shape port) note ≡ now told
    → has_ending shape (heard shape journal) ≡ true → timers_puts_at shape journal (port, note) ≡ []
puts_late shape journal port note told means ended = puts_at_is shape journal port note (now told) means
    ∙ no_ending shape (heard shape journal) (timers_puts shape journal) (now told) (no_turn shape (heard shape journal) (now told) (now_no_end told))
    ∙ ap (λ (ts : List TimerId). flat_map (λ timer. to_place (place_of timer (timers_puts shape journal)) (λ slot. q.Tick slot timer (clock (heard shape journal ++ now told ∷ [])))) (in_order (fires_first (heard shape journal)) (filter (λ timer. nat_le (due timer (heard shape journal)) (clock (heard shape journal ++ now told ∷ []))) ts))) (live_none shape (heard shape journal) ended)

pub clock_next : (shape : Shape) (journal : List (ℕ × TimersNote)) (moment told : ℕ) (rows : List (TimerId × Row)) (dues : List (ℕ × TimerId)) (slots : SlotData) (clients : List Bool) (bridge : Bool) (queues : List Bool)
    → Kept shape journal moment rows dues slots clients bridge queues → max moment (min told (2 ^ 63 - 1)) ≡ clock (heard shape journal ++ now told ∷ [])
clock_next shape journal moment told rows dues slots clients bridge queues kept = ap (λ (n : ℕ). max n (min told (2 ^ 63 - 1))) kept.stands.time ∙ sym (clock-push (heard shape journal) (now told))
