-- Whose last word a port's event is, and what the ending puts.
use Rattle.std.specs.Prelude.{Option, None, Some, nat_le, if◌then◌else◌}
use Rattle.std.specs.List.{list_any, list_all, flat_map, filter_map, cons_option, AllByRecursion, All}
use Rattle.std.specs.List.Sorted.{IsStrictlySortedBy}
use Rattle.std.specs.Map.{keys_of}
use Rattle.std.specs.Ordering.{is_eq}
use Rattle.std.proofs.Common.{◌≡◌, ℕ, ◌-◌, ◌<◌, ◌==◌, nat_lt, Bool, true, false, not, ◌&&◌, ◌||◌, cond, List, [], ◌∷◌, ◌++◌, map, length, set, refl, sym, ◌∙◌, ap, subst, arith, Less, append-nil, append_assoc}
use Rattle.std.proofs.lemmas.Bool.{both_ways, and_parts, ltb-true, leb-true, false_from_ne_true}
use Rattle.std.proofs.lemmas.List.{map-append}
use Rattle.std.proofs.lemmas.List.Elements.{recursion_from_All}
use Rattle.std.proofs.lemmas.List.Concat.{flat_map-append}
use Rattle.std.proofs.lemmas.Map.Keys.{sorted_head, sorted_tail}
use Rattle.mama_journal.specs.Journal.{turns, numbers_below}
use Rattle.mama_event.specs.Object.{same_timer}
use Rattle.mama_event.specs.Ports.{clients_of, queues_of, timers_port_of_bridge}
use Rattle.mama_event.specs.declared.ids.TimerId.{TimerId}
use Rattle.mama_event.specs.declared.ids.ObjectId.{ObjectId}
use Rattle.mama_event.specs.declared.ids.ObjectId.TheVariants.{Timer}
use Rattle.mama_event.specs.declared.shape.Shape.{Shape}
use Rattle.mama_event.specs.declared.to_timers.TimersNote.{TimersNote}
use Rattle.mama_event.specs.declared.to_timers.TimersNote.TheVariants as t
use Rattle.mama_event.specs.declared.to_queue.QueueNote.{QueueNote}
use Rattle.mama_event.specs.declared.to_queue.QueueNote.TheVariants as q
use Rattle.mama_rules_services.specs.Ports.{timers_putter, ByClient, ByQueue, ByBridge, ByNobody}
use Rattle.mama_rules_services.specs.Timers.{TimersEvent, arms, disarms, now, client_done, bye, fin, no_event, put_by, from_client, from_queue, from_bridge, heard, ends_client, ends_queue, arms_timer, is_armed, answer, ending_comes, clock, firing, has_ending, is_live, live_timers, comes_first, place_of, to_place, gone, timers_reaction, timers_puts, timers_puts_at}
use Rattle.mama_timer.specs.declared.table.Row.{Row}
use Rattle.mama_timer.specs.declared.firing.Firing.{Firing}
use Rattle.mama_timer.specs.declared.ending.Leaving.{Leaving}
use Rattle.mama_timer.specs.declared.out.TimerOut.{TimerOut}
use Rattle.mama_timer.specs.Order.{timer_cmp}
use Rattle.mama_timer.specs.Rows.{row_of, is_listed}
use Rattle.mama_slots.specs.Slots.{SlotData}
use Rattle.mama_timer.specs.Leaving.{leaving_of, place_left}
use Rattle.std.specs.Prelude.{option_to_list}
use Rattle.std.proofs.lemmas.Bool.{or_from}
use Rattle.std.proofs.lemmas.List.Folds.{list_any-append}
use Rattle.mama_event.specs.ToTimers.{note_of as timer_note_of}
use Rattle.mama_event.specs.declared.to_queue.Make.TheVariants as make
use Rattle.mama_event.specs.declared.to_timers.ToTimers.{ToTimers}
use Rattle.mama_event.specs.declared.to_timers.ToTimers.TheVariants as took
use Rattle.mama_timer.specs.declared.heard.Arming.{Arming}
use Rattle.mama_timer.specs.declared.heard.Heard.{Heard}
use Rattle.mama_timer.specs.declared.heard.Heard.TheVariants as h
use Rattle.mama_timer.specs.Heard.{event_of, IsPlain}
use Rattle.mama_timer.proofs.Lists.{all_below-agree, list_any-push}
use Rattle.std.specs.Result.{IfOk}
use Rattle.std.proofs.Common.{Result, Ok, Err, ◌↔◌}
use Rattle.mama_event.specs.declared.shape.Took.{Took}
use Rattle.mama_event.specs.declared.shape.Took.TheVariants.{Running, Ended}
use Rattle.mama_timer.specs.Out.{puts_create, is_create, brought, out_note, listener_in, listeners}
use Rattle.mama_timer.specs.Putting.{create_of, create_if, created_puts, gone_puts, tick_out, gone_out, fin_out, gone_note}
use Rattle.mama_timer.specs.Service.{Service, every_bye, is_last_bye}
use Rattle.mama_timer.specs.Kept.{Kept}
use Rattle.mama_timer.proofs.Orders.{timer_ties, same_timer-is, same_timer-flips}
use Rattle.mama_timer.proofs.Sorting.{has, IsAscending, Precedes, ascending_one, comes_first-order, less_first}
use Rattle.mama_timer.proofs.Live.{has-live, ascending-live, live_came}
use Rattle.mama_timer.proofs.Reactions.{ending_puts, no_ending, with_ending, made_none}
use Rattle.mama_timer.proofs.Standing.{stands_still, client_still, fin_still, bye_still}
use Rattle.mama_timer.proofs.Keeping.{puts_at_is, kept_after, rolls_client, rolls_bridge, rolls_queue, ended_is, byes_are, length-numbers}

-- ---- whose last word it is

abbrev is_bye : TimersEvent → Bool
is_bye (bye k) = true
is_bye _ = false

abbrev is_client_done : TimersEvent → Bool
is_client_done (client_done c) = true
is_client_done _ = false

arm_no_bye : (b : Bool) (timer : TimerId) (queue interval : ℕ) (tag : ObjectId) → is_bye (cond b (arms timer queue interval tag) no_event) ≡ false
arm_no_bye true timer queue interval tag = refl
arm_no_bye false timer queue interval tag = refl

arm_no_client : (b : Bool) (timer : TimerId) (queue interval : ℕ) (tag : ObjectId) → is_client_done (cond b (arms timer queue interval tag) no_event) ≡ false
arm_no_client true timer queue interval tag = refl
arm_no_client false timer queue interval tag = refl

client_no_bye : (c : ℕ) (note : TimersNote) → is_bye (from_client c note) ≡ false
client_no_bye c (t.Arm timer queue interval tag) = arm_no_bye (timer.client == c) timer queue interval tag
client_no_bye c (t.Disarm timer) = refl
client_no_bye c (t.Now moment) = refl
client_no_bye c t.ClientDone = refl
client_no_bye c t.Bye = refl
client_no_bye c t.Fin = refl

bridge_no_bye : (note : TimersNote) → is_bye (from_bridge note) ≡ false
bridge_no_bye (t.Arm timer queue interval tag) = refl
bridge_no_bye (t.Disarm timer) = refl
bridge_no_bye (t.Now moment) = refl
bridge_no_bye t.ClientDone = refl
bridge_no_bye t.Bye = refl
bridge_no_bye t.Fin = refl

bridge_no_client : (note : TimersNote) → is_client_done (from_bridge note) ≡ false
bridge_no_client (t.Arm timer queue interval tag) = refl
bridge_no_client (t.Disarm timer) = refl
bridge_no_client (t.Now moment) = refl
bridge_no_client t.ClientDone = refl
bridge_no_client t.Bye = refl
bridge_no_client t.Fin = refl

queue_no_client : (k : ℕ) (note : TimersNote) → is_client_done (from_queue k note) ≡ false
queue_no_client k (t.Arm timer queue interval tag) = refl
queue_no_client k (t.Disarm timer) = refl
queue_no_client k (t.Now moment) = refl
queue_no_client k t.ClientDone = refl
queue_no_client k t.Bye = refl
queue_no_client k t.Fin = refl

queue_bye : (k queue : ℕ) (note : TimersNote) → from_queue k note ≡ bye queue → k ≡ queue
queue_bye k queue (t.Arm timer of interval tag) h = cc
queue_bye k queue (t.Disarm timer) h = cc
queue_bye k queue (t.Now moment) h = cc
queue_bye k queue t.ClientDone h = cc
queue_bye k queue t.Bye h = cc
queue_bye k queue t.Fin h = cc

client_is : (c client : ℕ) (note : TimersNote) → from_client c note ≡ client_done client → c ≡ client
client_is c client (t.Arm timer of interval tag) h = absurd (both_ways (is_client_done (from_client c (t.Arm timer of interval tag))) (arm_no_client (timer.client == c) timer of interval tag) (ap is_client_done h))
client_is c client (t.Disarm timer) h = cc
client_is c client (t.Now moment) h = cc
client_is c client t.ClientDone h = cc
client_is c client t.Bye h = cc
client_is c client t.Fin h = cc

-- a Bye is a queue's
pub bye_within : (shape : Shape) (port queue : ℕ) (note : TimersNote) → put_by (timers_putter shape port) note ≡ bye queue → queue < queues_of shape
bye_within shape port queue note h = by_client (nat_lt port (clients_of shape)) h
  where
    by_bridge : (b : Bool) → put_by (if b then ByBridge else ByNobody) note ≡ bye queue → queue < queues_of shape
    by_bridge true h = absurd (both_ways (is_bye (from_bridge note)) (bridge_no_bye note) (ap is_bye h))
    by_bridge false h = cc

    by_queue : (b : Bool) → (nat_le (clients_of shape) port && nat_lt port (timers_port_of_bridge shape)) ≡ b
        → put_by (if b then ByQueue (port - clients_of shape) else (if port == timers_port_of_bridge shape then ByBridge else ByNobody)) note ≡ bye queue → queue < queues_of shape
    by_queue true e h =
        let parts = and_parts (nat_le (clients_of shape) port) (nat_lt port (timers_port_of_bridge shape)) e in
        omega (arith, queue_bye (port - clients_of shape) queue note h, leb-true (clients_of shape) port parts.0, ltb-true port (timers_port_of_bridge shape) parts.1)
    by_queue false e h = by_bridge (port == timers_port_of_bridge shape) h

    by_client : (b : Bool) → put_by (if b then ByClient port else (if (nat_le (clients_of shape) port && nat_lt port (timers_port_of_bridge shape)) then ByQueue (port - clients_of shape) else (if port == timers_port_of_bridge shape then ByBridge else ByNobody))) note ≡ bye queue → queue < queues_of shape
    by_client true h = absurd (both_ways (is_bye (from_client port note)) (client_no_bye port note) (ap is_bye h))
    by_client false h = by_queue (nat_le (clients_of shape) port && nat_lt port (timers_port_of_bridge shape)) refl h

-- a ClientDone is a client's
pub client_within : (shape : Shape) (port client : ℕ) (note : TimersNote) → put_by (timers_putter shape port) note ≡ client_done client → client < clients_of shape
client_within shape port client note h = by_client (nat_lt port (clients_of shape)) refl h
  where
    by_bridge : (b : Bool) → put_by (if b then ByBridge else ByNobody) note ≡ client_done client → client < clients_of shape
    by_bridge true h = absurd (both_ways (is_client_done (from_bridge note)) (bridge_no_client note) (ap is_client_done h))
    by_bridge false h = cc

    by_queue : (b : Bool) → put_by (if b then ByQueue (port - clients_of shape) else (if port == timers_port_of_bridge shape then ByBridge else ByNobody)) note ≡ client_done client → client < clients_of shape
    by_queue true h = absurd (both_ways (is_client_done (from_queue (port - clients_of shape) note)) (queue_no_client (port - clients_of shape) note) (ap is_client_done h))
    by_queue false h = by_bridge (port == timers_port_of_bridge shape) h

    by_client : (b : Bool) → nat_lt port (clients_of shape) ≡ b → put_by (if b then ByClient port else (if (nat_le (clients_of shape) port && nat_lt port (timers_port_of_bridge shape)) then ByQueue (port - clients_of shape) else (if port == timers_port_of_bridge shape then ByBridge else ByNobody))) note ≡ client_done client → client < clients_of shape
    by_client true e h = omega (arith, client_is port client note h, ltb-true port (clients_of shape) e)
    by_client false e h = by_queue (nat_le (clients_of shape) port && nat_lt port (timers_port_of_bridge shape)) h

-- ---- what is kept after a last word

module _ (shape : Shape) (journal : List (ℕ × TimersNote)) (port : ℕ) (note : TimersNote)
    (moment : ℕ) (rows : List (TimerId × Row)) (dues : List (ℕ × TimerId)) (slots : SlotData) (clients : List Bool) (bridge : Bool) (queues : List Bool)
    (kept : Kept shape journal moment rows dues slots clients bridge queues) where
  pub kept_bye : (queue : ℕ) → put_by (timers_putter shape port) note ≡ bye queue → Kept shape (journal ++ (port, note) ∷ []) moment rows dues slots clients bridge (set queues queue true)
  kept_bye queue means = kept_after shape journal port note (bye queue) means (timers_reaction shape (heard shape journal) (timers_puts shape journal) (bye queue)) moment rows dues slots clients bridge (set queues queue true) refl
      (stands_still shape (heard shape journal) (timers_puts shape journal) (timers_reaction shape (heard shape journal) (timers_puts shape journal) (bye queue)) (bye queue) moment (row_of rows) (is_listed dues) slots (bye_still (heard shape journal) queue)
      (λ u. made_none u shape (heard shape journal) (timers_puts shape journal) (bye queue) refl) kept.stands)
      (rolls_queue shape (heard shape journal) queue clients bridge queues (bye_within shape port queue note means) kept.rolls)

  pub kept_client : (client : ℕ) → put_by (timers_putter shape port) note ≡ client_done client → Kept shape (journal ++ (port, note) ∷ []) moment rows dues slots (set clients client true) bridge queues
  kept_client client means = kept_after shape journal port note (client_done client) means (timers_reaction shape (heard shape journal) (timers_puts shape journal) (client_done client)) moment rows dues slots (set clients client true) bridge queues refl
      (stands_still shape (heard shape journal) (timers_puts shape journal) (timers_reaction shape (heard shape journal) (timers_puts shape journal) (client_done client)) (client_done client) moment (row_of rows) (is_listed dues) slots (client_still (heard shape journal) client)
      (λ u. made_none u shape (heard shape journal) (timers_puts shape journal) (client_done client) refl) kept.stands)
      (rolls_client shape (heard shape journal) client clients bridge queues (client_within shape port client note means) kept.rolls)

  pub kept_bridge : put_by (timers_putter shape port) note ≡ fin → Kept shape (journal ++ (port, note) ∷ []) moment rows dues slots clients true queues
  kept_bridge means = kept_after shape journal port note fin means (timers_reaction shape (heard shape journal) (timers_puts shape journal) fin) moment rows dues slots clients true queues refl
      (stands_still shape (heard shape journal) (timers_puts shape journal) (timers_reaction shape (heard shape journal) (timers_puts shape journal) fin) fin moment (row_of rows) (is_listed dues) slots (fin_still (heard shape journal))
      (λ u. made_none u shape (heard shape journal) (timers_puts shape journal) fin refl) kept.stands)
      (rolls_bridge shape (heard shape journal) clients bridge queues kept.rolls)

  pub queue_length : (queue : ℕ) → put_by (timers_putter shape port) note ≡ bye queue → queue < length queues
  queue_length queue means = rw kept.rolls.queues (rw (length-numbers (queues_of shape) (λ k. list_any (ends_queue k) (heard shape journal))) (bye_within shape port queue note means))

  pub client_length : (client : ℕ) → put_by (timers_putter shape port) note ≡ client_done client → client < length clients
  client_length client means = rw kept.rolls.clients (rw (length-numbers (clients_of shape) (λ c. list_any (ends_client c) (heard shape journal))) (client_within shape port client note means))

  pub last_is : (queue : ℕ) → put_by (timers_putter shape port) note ≡ bye queue
      → (list_all (λ b. b) (set queues queue true) && not (list_all (λ b. b) queues)) ≡ is_last_bye (record { shape = shape; journal = journal }) (port, note)
  last_is queue means =
      ap (λ (b : Bool). b && not (list_all (λ b. b) queues)) (byes_are shape (heard shape journal ++ bye queue ∷ []) clients bridge (set queues queue true) (rolls_queue shape (heard shape journal) queue clients bridge queues (bye_within shape port queue note means) kept.rolls))
      ∙ ap (λ (b : Bool). every_bye shape (heard shape journal ++ bye queue ∷ []) && not b) (byes_are shape (heard shape journal) clients bridge queues kept.rolls)
      ∙ ap (λ (e : TimersEvent). turns (every_bye shape) (heard shape journal) e) (sym means)

  pub client_turns : (client : ℕ) → put_by (timers_putter shape port) note ≡ client_done client
      → ((list_all (λ b. b) (set clients client true) && bridge) && not (has_ending shape (heard shape journal))) ≡ turns (has_ending shape) (heard shape journal) (client_done client)
  client_turns client means = ap (λ (b : Bool). b && not (has_ending shape (heard shape journal)))
      (ended_is shape (heard shape journal ++ client_done client ∷ []) (set clients client true) bridge queues (rolls_client shape (heard shape journal) client clients bridge queues (client_within shape port client note means) kept.rolls))

  pub bridge_turns : (list_all (λ b. b) clients && not (has_ending shape (heard shape journal))) ≡ turns (has_ending shape) (heard shape journal) fin
  bridge_turns = ap (λ (b : Bool). b && not (has_ending shape (heard shape journal)))
      (and_true (list_all (λ b. b) clients) ∙ ended_is shape (heard shape journal ++ fin ∷ []) clients true queues (rolls_bridge shape (heard shape journal) clients bridge queues kept.rolls))
    where
      and_true : (b : Bool) → b ≡ (b && true)
      and_true true = refl
      and_true false = refl

-- ---- the places that the live timers leave

abbrev armed_in : Option Row → Bool
armed_in None = false
armed_in (Some r) = r.armed

abbrev leavers : List Leaving → List TimerId
leavers ls = map (λ (l : Leaving). l.timer) ls

precedes_left : (k : TimerId) (es : List (TimerId × Row)) → AllByRecursion (λ y. timer_cmp k y ≡ Less) (keys_of es) → Precedes comes_first k (leavers (filter_map leaving_of es))
precedes_left k [] h = tt
precedes_left k (e ∷ es) h = by_armed e.1.armed (precedes_left k es h.1)
  where
    by_armed : (b : Bool) → Precedes comes_first k (leavers (filter_map leaving_of es)) → Precedes comes_first k (leavers (cons_option (cond b (Some (place_left e.0 e.1)) None) (filter_map leaving_of es)))
    by_armed true ih = (less_first k e.0 h.0, ih)
    by_armed false ih = ih

ascending_left : (es : List (TimerId × Row)) → IsStrictlySortedBy timer_cmp (keys_of es) → IsAscending comes_first (leavers (filter_map leaving_of es))
ascending_left [] s = tt
ascending_left (e ∷ es) s = by_armed e.1.armed (ascending_left es (sorted_tail timer_cmp e.0 (keys_of es) s))
  where
    by_armed : (b : Bool) → IsAscending comes_first (leavers (filter_map leaving_of es)) → IsAscending comes_first (leavers (cons_option (cond b (Some (place_left e.0 e.1)) None) (filter_map leaving_of es)))
    by_armed true ih = (precedes_left e.0 es (sorted_head timer_cmp e.0 (keys_of es) s), ih)
    by_armed false ih = ih

never_before : (k : TimerId) (ts : List TimerId) → Precedes comes_first k ts → has k ts ≡ false
never_before k [] p = refl
never_before k (t ∷ ts) p = rw (false_from_ne_true (same_timer t k) (λ s. both_ways (comes_first k k) (comes_first-order.never k) (ap (comes_first k) (sym (same_timer-is t k s)) ∙ p.0))) (never_before k ts p.1)

has_left : (u : TimerId) (es : List (TimerId × Row)) → IsStrictlySortedBy timer_cmp (keys_of es) → has u (leavers (filter_map leaving_of es)) ≡ armed_in (row_of es u)
has_left u [] s = refl
has_left u (e ∷ es) s = by_tie (same_timer u e.0) refl (has_left u es (sorted_tail timer_cmp e.0 (keys_of es) s))
  where
    gone_on : (b : Bool) → same_timer u e.0 ≡ true → has u (leavers (cons_option (cond b (Some (place_left e.0 e.1)) None) (filter_map leaving_of es))) ≡ b
    gone_on true s' = ap (λ (c : Bool). c || has u (leavers (filter_map leaving_of es))) (same_timer-flips e.0 u ∙ s')
    gone_on false s' =
        let P : TimerId → Type 0 = λ v. has v (leavers (filter_map leaving_of es)) ≡ false in
        subst P (sym (same_timer-is u e.0 s')) (never_before e.0 (leavers (filter_map leaving_of es)) (precedes_left e.0 es (sorted_head timer_cmp e.0 (keys_of es) s)))

    passed : (b : Bool) → same_timer u e.0 ≡ false → has u (leavers (cons_option (cond b (Some (place_left e.0 e.1)) None) (filter_map leaving_of es))) ≡ has u (leavers (filter_map leaving_of es))
    passed true s' = ap (λ (c : Bool). c || has u (leavers (filter_map leaving_of es))) (same_timer-flips e.0 u ∙ s')
    passed false s' = refl

    by_tie : (b : Bool) → same_timer u e.0 ≡ b → has u (leavers (filter_map leaving_of es)) ≡ armed_in (row_of es u)
        → has u (leavers (cons_option (cond e.1.armed (Some (place_left e.0 e.1)) None) (filter_map leaving_of es))) ≡ armed_in (cond (is_eq (timer_cmp u e.0)) (Some e.1) (row_of es u))
    by_tie true s' ih = gone_on e.1.armed s' ∙ ap (λ (c : Bool). armed_in (cond c (Some e.1) (row_of es u))) (sym (timer_ties u e.0 ∙ s'))
    by_tie false s' ih = passed e.1.armed s' ∙ ih ∙ ap (λ (c : Bool). armed_in (cond c (Some e.1) (row_of es u))) (sym (timer_ties u e.0 ∙ s'))

module _ (shape : Shape) (journal : List (ℕ × TimersNote)) (moment : ℕ) (rows : List (TimerId × Row)) (dues : List (ℕ × TimerId)) (slots : SlotData) (clients : List Bool) (bridge : Bool) (queues : List Bool)
    (yet : has_ending shape (heard shape journal) ≡ false) (kept : Kept shape journal moment rows dues slots clients bridge queues) where
  armed_live : (u : TimerId) (o : Option Row) → row_of rows u ≡ o → armed_in o ≡ is_live shape u (heard shape journal)
  armed_live u None h = sym (false_from_ne_true (is_live shape u (heard shape journal)) (λ live. both_ways (list_any (arms_timer u) (heard shape journal)) (kept.stands.rows.unknown u h) (live_came shape u (heard shape journal) live)))
  armed_live u (Some r) h = (kept.stands.rows.known u r h).armed ∙ and_true (is_armed u (heard shape journal)) ∙ ap (λ (b : Bool). is_armed u (heard shape journal) && not b) (sym yet)
    where
      and_true : (b : Bool) → b ≡ (b && true)
      and_true true = refl
      and_true false = refl

  leavers_are : IsStrictlySortedBy timer_cmp (keys_of rows) → leavers (filter_map leaving_of rows) ≡ live_timers shape (heard shape journal)
  leavers_are sorted = ascending_one comes_first comes_first-order (leavers (filter_map leaving_of rows)) (live_timers shape (heard shape journal))
      (ascending_left rows sorted) (ascending-live shape (heard shape journal))
      (λ u. has_left u rows sorted ∙ armed_live u (row_of rows u) refl ∙ sym (has-live shape u (heard shape journal)))

  notes_left : (es : List (TimerId × Row)) → AllByRecursion (λ e. row_of rows e.0 ≡ Some e.1) es → flat_map (gone (timers_puts shape journal)) (leavers (filter_map leaving_of es)) ≡ map gone_note (filter_map leaving_of es)
  notes_left [] h = refl
  notes_left (e ∷ es) h = by_armed e.1.armed (notes_left es h.1)
    where
      by_armed : (b : Bool) → flat_map (gone (timers_puts shape journal)) (leavers (filter_map leaving_of es)) ≡ map gone_note (filter_map leaving_of es)
          → flat_map (gone (timers_puts shape journal)) (leavers (cons_option (cond b (Some (place_left e.0 e.1)) None) (filter_map leaving_of es))) ≡ map gone_note (cons_option (cond b (Some (place_left e.0 e.1)) None) (filter_map leaving_of es))
      by_armed true ih = rw (ap (λ (o : Option (ℕ × ℕ)). to_place o (λ n. q.Gone n (Timer e.0))) (kept.stands.rows.known e.0 e.1 h.0).place) (ap (λ (ps : List (ℕ × QueueNote)). gone_note (place_left e.0 e.1) ∷ ps) ih)
      by_armed false ih = ih

  pub leaving_are : (ls : List Leaving) → ls ≡ filter_map leaving_of rows → IsStrictlySortedBy timer_cmp (keys_of rows) → All (λ e. row_of rows e.0 ≡ Some e.1) rows
      → map gone_note ls ≡ flat_map (gone (timers_puts shape journal)) (live_timers shape (heard shape journal))
  leaving_are ls is sorted found = ap (map gone_note) is ∙ sym (notes_left rows (recursion_from_All (λ (e : TimerId × Row). row_of rows e.0 ≡ Some e.1) rows found)) ∙ ap (flat_map (gone (timers_puts shape journal))) (leavers_are sorted)

-- ---- events as plain data

module _ {L : Type 0} (tagged : L → ObjectId) where
  notes_of_ticks : (at : ℕ) (fs : List Firing) → map (out_note tagged) (map (tick_out at) fs) ≡ map (λ (f : Firing). (f.queue, q.Tick f.slot f.timer at)) fs
  notes_of_ticks at [] = refl
  notes_of_ticks at (f ∷ fs) = ap (λ (ps : List (ℕ × QueueNote)). (f.queue, q.Tick f.slot f.timer at) ∷ ps) (notes_of_ticks at fs)

  pub notes_ticked : (old new : List (TimerOut L)) (at : ℕ) (fs : List Firing) (puts : List (ℕ × QueueNote)) → new ≡ old ++ map (tick_out at) fs → puts ≡ map (λ (f : Firing). (f.queue, q.Tick f.slot f.timer at)) fs
      → map (out_note tagged) new ≡ map (out_note tagged) old ++ puts
  notes_ticked old new at fs puts is p = ap (map (out_note tagged)) is ∙ map-append (out_note tagged) old (map (tick_out at) fs) ∙ ap (λ (ps : List (ℕ × QueueNote)). map (out_note tagged) old ++ ps) (notes_of_ticks at fs ∙ sym p)

  notes_of_gone : (ls : List Leaving) → map (out_note tagged) (map gone_out ls) ≡ map gone_note ls
  notes_of_gone [] = refl
  notes_of_gone (l ∷ ls) = ap (λ (ps : List (ℕ × QueueNote)). gone_note l ∷ ps) (notes_of_gone ls)

  notes_of_fins : (ks : List ℕ) → map (out_note tagged) (map fin_out ks) ≡ map (λ k. (k, q.Fin)) ks
  notes_of_fins [] = refl
  notes_of_fins (k ∷ ks) = ap (λ (ps : List (ℕ × QueueNote)). (k, q.Fin) ∷ ps) (notes_of_fins ks)

  pub notes_ended : (old new : List (TimerOut L)) (ls : List Leaving) (ks : List ℕ) (puts : List (ℕ × QueueNote)) → new ≡ old ++ map gone_out ls ++ map fin_out ks → puts ≡ map gone_note ls ++ map (λ k. (k, q.Fin)) ks
      → map (out_note tagged) new ≡ map (out_note tagged) old ++ puts
  notes_ended old new ls ks puts is p = ap (map (out_note tagged)) is
      ∙ map-append (out_note tagged) (old ++ map gone_out ls) (map fin_out ks)
      ∙ ap (λ (ps : List (ℕ × QueueNote)). ps ++ map (out_note tagged) (map fin_out ks)) (map-append (out_note tagged) old (map gone_out ls))
      ∙ append_assoc (map (out_note tagged) old) (map (out_note tagged) (map gone_out ls)) (map (out_note tagged) (map fin_out ks))
      ∙ ap (λ (ps : List (ℕ × QueueNote)). map (out_note tagged) old ++ (ps ++ map (out_note tagged) (map fin_out ks))) (notes_of_gone ls)
      ∙ ap (λ (ps : List (ℕ × QueueNote)). map (out_note tagged) old ++ (map gone_note ls ++ ps)) (notes_of_fins ks)
      ∙ ap (λ (ps : List (ℕ × QueueNote)). map (out_note tagged) old ++ ps) (sym p)

  pub notes_none : (old : List (TimerOut L)) (puts : List (ℕ × QueueNote)) → puts ≡ [] → map (out_note tagged) old ≡ map (out_note tagged) old ++ puts
  notes_none old puts p = sym (append-nil (map (out_note tagged) old)) ∙ ap (λ (ps : List (ℕ × QueueNote)). map (out_note tagged) old ++ ps) (sym p)

module _ {L : Type 0} where
  none_in_ticks : (at : ℕ) (fs : List Firing) → listeners {L = L} (map (tick_out at) fs) ≡ []
  none_in_ticks at [] = refl
  none_in_ticks at (f ∷ fs) = none_in_ticks at fs

  none_in_gone : (ls : List Leaving) → listeners {L = L} (map gone_out ls) ≡ []
  none_in_gone [] = refl
  none_in_gone (l ∷ ls) = none_in_gone ls

  none_in_fins : (ks : List ℕ) → listeners {L = L} (map fin_out ks) ≡ []
  none_in_fins [] = refl
  none_in_fins (k ∷ ks) = none_in_fins ks

  pub listeners_ticked : (old new : List (TimerOut L)) (at : ℕ) (fs : List Firing) → new ≡ old ++ map (tick_out at) fs → listeners new ≡ listeners old
  listeners_ticked old new at fs is = ap listeners is ∙ flat_map-append (λ (o : TimerOut L). listener_in o.event) old (map (tick_out at) fs) ∙ ap (λ (ls : List L). listeners old ++ ls) (none_in_ticks at fs) ∙ append-nil (listeners old)

  pub listeners_ended : (old new : List (TimerOut L)) (ls : List Leaving) (ks : List ℕ) → new ≡ old ++ map gone_out ls ++ map fin_out ks → listeners new ≡ listeners old
  listeners_ended old new ls ks is = ap listeners is
      ∙ flat_map-append (λ (o : TimerOut L). listener_in o.event) (old ++ map gone_out ls) (map fin_out ks)
      ∙ ap (λ (xs : List L). xs ++ listeners (map fin_out ks)) (flat_map-append (λ (o : TimerOut L). listener_in o.event) old (map gone_out ls))
      ∙ ap (λ (xs : List L). (listeners old ++ xs) ++ listeners (map fin_out ks)) (none_in_gone ls)
      ∙ ap (λ (xs : List L). (listeners old ++ []) ++ xs) (none_in_fins ks)
      ∙ append-nil (listeners old ++ []) ∙ append-nil (listeners old)

-- what the ending puts
pub puts_ended : (shape : Shape) (journal : List (ℕ × TimersNote)) (port : ℕ) (note : TimersNote) (e : TimersEvent) → put_by (timers_putter shape port) note ≡ e
    → answer shape (heard shape journal) (timers_puts shape journal) e ≡ [] → turns (has_ending shape) (heard shape journal) e ≡ true
    → (ls : List Leaving) → map gone_note ls ≡ flat_map (gone (timers_puts shape journal)) (live_timers shape (heard shape journal))
    → timers_puts_at shape journal (port, note) ≡ map gone_note ls ++ map (λ k. (k, q.Fin)) (numbers_below (queues_of shape))
puts_ended shape journal port note e means none turned ls left = puts_at_is shape journal port note e means
    ∙ with_ending shape (heard shape journal) (timers_puts shape journal) e turned none
    ∙ ap (λ (ps : List (ℕ × QueueNote)). ps ++ map (λ k. (k, q.Fin)) (numbers_below (queues_of shape))) (sym left)

pub puts_unended : (shape : Shape) (journal : List (ℕ × TimersNote)) (port : ℕ) (note : TimersNote) (e : TimersEvent) → put_by (timers_putter shape port) note ≡ e
    → answer shape (heard shape journal) (timers_puts shape journal) e ≡ [] → turns (has_ending shape) (heard shape journal) e ≡ false
    → timers_puts_at shape journal (port, note) ≡ []
puts_unended shape journal port note e means none turned = puts_at_is shape journal port note e means ∙ no_ending shape (heard shape journal) (timers_puts shape journal) e turned ∙ none

pub turned_yet : (shape : Shape) (es : List TimersEvent) (e : TimersEvent) → turns (has_ending shape) es e ≡ true → has_ending shape es ≡ false
turned_yet shape es e h = not_true (has_ending shape es) (and_parts (has_ending shape (es ++ e ∷ [])) (not (has_ending shape es)) h).1
  where
    not_true : (b : Bool) → not b ≡ true → b ≡ false
    not_true true k = absurd (both_ways false refl k)
    not_true false k = refl

-- ---- a Create brings the event's listener

gone_creates_none : (o : Option (ℕ × ℕ)) (f : ℕ → QueueNote) → ((n : ℕ) → is_create (f n) ≡ false) → puts_create (to_place o f) ≡ false
gone_creates_none None f h = refl
gone_creates_none (Some p) f h = ap (λ (b : Bool). b || false) (h p.1)

pub no_creates_gone : (ls : List Leaving) → puts_create (map gone_note ls) ≡ false
no_creates_gone [] = refl
no_creates_gone (l ∷ ls) = no_creates_gone ls

-- an entry that is no Bye is not the last
pub no_last : (s : Service) (port : ℕ) (note : TimersNote) (e : TimersEvent) → put_by (timers_putter s.shape port) note ≡ e → ((k : ℕ) → ends_queue k e ≡ false) → is_last_bye s (port, note) ≡ false
no_last s port note e means none = ap (λ (x : TimersEvent). turns (every_bye s.shape) (heard s.shape s.journal) x) means
    ∙ ap (λ (b : Bool). b && not (every_bye s.shape (heard s.shape s.journal))) (all_below-agree (queues_of s.shape) (λ k. list_any (ends_queue k) (heard s.shape s.journal ++ e ∷ [])) (λ k. list_any (ends_queue k) (heard s.shape s.journal))
    (λ k. list_any-push (ends_queue k) (heard s.shape s.journal) e ∙ or_false (list_any (ends_queue k) (heard s.shape s.journal)) (ends_queue k e) (none k)))
    ∙ never (every_bye s.shape (heard s.shape s.journal))
  where
    never : (b : Bool) → (b && not b) ≡ false
    never true = refl
    never false = refl

    or_false : (b c : Bool) → c ≡ false → (b || c) ≡ b
    or_false true c h = refl
    or_false false c h = h

abbrev is_arm : TimersEvent → Bool
is_arm (arms u queue interval tag) = true
is_arm _ = false

queue_no_arm : (k : ℕ) (note : TimersNote) → is_arm (from_queue k note) ≡ false
queue_no_arm k (t.Arm timer queue interval tag) = refl
queue_no_arm k (t.Disarm timer) = refl
queue_no_arm k (t.Now moment) = refl
queue_no_arm k t.ClientDone = refl
queue_no_arm k t.Bye = refl
queue_no_arm k t.Fin = refl

bridge_no_arm : (note : TimersNote) → is_arm (from_bridge note) ≡ false
bridge_no_arm (t.Arm timer queue interval tag) = refl
bridge_no_arm (t.Disarm timer) = refl
bridge_no_arm (t.Now moment) = refl
bridge_no_arm t.ClientDone = refl
bridge_no_arm t.Bye = refl
bridge_no_arm t.Fin = refl

arm_is : (b : Bool) (timer u : TimerId) (queue interval q' i' : ℕ) (tag tag' : ObjectId) → cond b (arms timer queue interval tag) no_event ≡ arms u q' i' tag' → t.Arm timer queue interval tag ≡ t.Arm u q' i' tag'
arm_is true timer u queue interval q' i' tag tag' h = cc
arm_is false timer u queue interval q' i' tag tag' h = cc

client_arm : (c : ℕ) (note : TimersNote) (u : TimerId) (queue interval : ℕ) (tag : ObjectId) → from_client c note ≡ arms u queue interval tag → note ≡ t.Arm u queue interval tag
client_arm c (t.Arm timer of every named) u queue interval tag h = arm_is (timer.client == c) timer u of every queue interval named tag h
client_arm c (t.Disarm timer) u queue interval tag h = cc
client_arm c (t.Now moment) u queue interval tag h = cc
client_arm c t.ClientDone u queue interval tag h = cc
client_arm c t.Bye u queue interval tag h = cc
client_arm c t.Fin u queue interval tag h = cc

-- what arms a timer is an Arm
pub arm_note : (shape : Shape) (port : ℕ) (note : TimersNote) (u : TimerId) (queue interval : ℕ) (tag : ObjectId) → put_by (timers_putter shape port) note ≡ arms u queue interval tag → note ≡ t.Arm u queue interval tag
arm_note shape port note u queue interval tag h = by_client (nat_lt port (clients_of shape)) h
  where
    by_bridge : (b : Bool) → put_by (if b then ByBridge else ByNobody) note ≡ arms u queue interval tag → note ≡ t.Arm u queue interval tag
    by_bridge true h = absurd (both_ways (is_arm (from_bridge note)) (bridge_no_arm note) (ap is_arm h))
    by_bridge false h = cc

    by_queue : (b : Bool) → put_by (if b then ByQueue (port - clients_of shape) else (if port == timers_port_of_bridge shape then ByBridge else ByNobody)) note ≡ arms u queue interval tag → note ≡ t.Arm u queue interval tag
    by_queue true h = absurd (both_ways (is_arm (from_queue (port - clients_of shape) note)) (queue_no_arm (port - clients_of shape) note) (ap is_arm h))
    by_queue false h = by_bridge (port == timers_port_of_bridge shape) h

    by_client : (b : Bool) → put_by (if b then ByClient port else (if (nat_le (clients_of shape) port && nat_lt port (timers_port_of_bridge shape)) then ByQueue (port - clients_of shape) else (if port == timers_port_of_bridge shape then ByBridge else ByNobody))) note ≡ arms u queue interval tag → note ≡ t.Arm u queue interval tag
    by_client true h = client_arm port note u queue interval tag h
    by_client false h = by_queue (nat_le (clients_of shape) port && nat_lt port (timers_port_of_bridge shape)) h

module _ {L : Type 0} (tagged : L → ObjectId) (event : ToTimers L) (arming : Arming) (is : timer_note_of tagged event ≡ t.Arm arming.timer arming.queue arming.interval arming.tag) where
  create_notes : (slot : ℕ) → map (out_note tagged) (create_of event slot) ≡ (arming.queue, q.Create slot (Timer arming.timer) make.Timer arming.tag) ∷ []
  create_notes slot = by_event event is
    where
      by_event : (e : ToTimers L) → timer_note_of tagged e ≡ t.Arm arming.timer arming.queue arming.interval arming.tag → map (out_note tagged) (create_of e slot) ≡ (arming.queue, q.Create slot (Timer arming.timer) make.Timer arming.tag) ∷ []
      by_event (took.Arm timer queue interval listener) h = cc
      by_event (took.Disarm timer) h = cc
      by_event (took.Now moment) h = cc
      by_event took.ClientDone h = cc
      by_event took.Bye h = cc
      by_event took.Fin h = cc

  create_listeners : (slot : ℕ) → listeners (create_of event slot) ≡ brought event
  create_listeners slot = by_event event
    where
      by_event : (e : ToTimers L) → listeners (create_of e slot) ≡ brought e
      by_event (took.Arm timer queue interval listener) = refl
      by_event (took.Disarm timer) = refl
      by_event (took.Now moment) = refl
      by_event took.ClientDone = refl
      by_event took.Bye = refl
      by_event took.Fin = refl

  pub notes_armed : (old new : List (TimerOut L)) (slot : Option ℕ) (puts : List (ℕ × QueueNote)) → new ≡ old ++ create_if event slot → puts ≡ created_puts arming slot → map (out_note tagged) new ≡ map (out_note tagged) old ++ puts
  notes_armed old new None puts is' p = ap (map (out_note tagged)) (is' ∙ append-nil old) ∙ notes_none tagged old puts p
  notes_armed old new (Some slot) puts is' p = ap (map (out_note tagged)) is' ∙ map-append (out_note tagged) old (create_of event slot) ∙ ap (λ (ps : List (ℕ × QueueNote)). map (out_note tagged) old ++ ps) (create_notes slot ∙ sym p)

  pub listeners_armed : (old new : List (TimerOut L)) (slot : Option ℕ) (puts : List (ℕ × QueueNote)) → new ≡ old ++ create_if event slot → puts ≡ created_puts arming slot → listeners new ≡ listeners old ++ cond (puts_create puts) (brought event) []
  listeners_armed old new None puts is' p = ap listeners (is' ∙ append-nil old) ∙ sym (append-nil (listeners old)) ∙ ap (λ (ps : List (ℕ × QueueNote)). listeners old ++ cond (puts_create ps) (brought event) []) (sym p)
  listeners_armed old new (Some slot) puts is' p = ap listeners is' ∙ flat_map-append (λ (o : TimerOut L). listener_in o.event) old (create_of event slot) ∙ ap (λ (ls : List L). listeners old ++ ls) (create_listeners slot)
      ∙ ap (λ (ps : List (ℕ × QueueNote)). listeners old ++ cond (puts_create ps) (brought event) []) (sym p)

module _ {L : Type 0} (tagged : L → ObjectId) where
  pub notes_left_if : (old new : List (TimerOut L)) (left : Option Leaving) (puts : List (ℕ × QueueNote)) → new ≡ old ++ map gone_out (option_to_list left) → puts ≡ gone_puts left → map (out_note tagged) new ≡ map (out_note tagged) old ++ puts
  notes_left_if old new None puts is p = ap (map (out_note tagged)) (is ∙ append-nil old) ∙ notes_none tagged old puts p
  notes_left_if old new (Some l) puts is p = ap (map (out_note tagged)) is ∙ map-append (out_note tagged) old (gone_out l ∷ []) ∙ ap (λ (ps : List (ℕ × QueueNote)). map (out_note tagged) old ++ ps) (sym p)

pub listeners_left_if : {L : Type 0} (old new : List (TimerOut L)) (left : Option Leaving) → new ≡ old ++ map gone_out (option_to_list left) → listeners new ≡ listeners old
listeners_left_if {L} old new left is = ap listeners is ∙ flat_map-append (λ (o : TimerOut L). listener_in o.event) old (map gone_out (option_to_list left)) ∙ ap (λ (ls : List L). listeners old ++ ls) (none_in_gone (option_to_list left)) ∙ append-nil (listeners old)

-- ---- no other event puts a Create

creates_none_more : (xs ys : List (ℕ × QueueNote)) → puts_create xs ≡ false → puts_create ys ≡ false → puts_create (xs ++ ys) ≡ false
creates_none_more xs ys g h = list_any-append (λ (put : ℕ × QueueNote). is_create put.1) xs ys ∙ or_from (puts_create xs) (puts_create ys) g h

creates_none_each : (f : TimerId → List (ℕ × QueueNote)) (ts : List TimerId) → ((u : TimerId) → puts_create (f u) ≡ false) → puts_create (flat_map f ts) ≡ false
creates_none_each f [] h = refl
creates_none_each f (x ∷ ts) h = creates_none_more (f x) (flat_map f ts) (h x) (creates_none_each f ts h)

creates_none_fins : (ks : List ℕ) → puts_create (map (λ k. (k, q.Fin)) ks) ≡ false
creates_none_fins [] = refl
creates_none_fins (k ∷ ks) = creates_none_fins ks

creates_none_if : (b : Bool) (ps : List (ℕ × QueueNote)) → puts_create ps ≡ false → puts_create (cond b ps []) ≡ false
creates_none_if true ps h = h
creates_none_if false ps h = refl

answer_creates_none : (shape : Shape) (es : List TimersEvent) (sofar : List (ℕ × QueueNote)) (e : TimersEvent) → is_arm e ≡ false → puts_create (answer shape es sofar e) ≡ false
answer_creates_none shape es sofar (arms u queue interval tag) h = cc
answer_creates_none shape es sofar (disarms u) h = creates_none_if (is_live shape u es) (gone sofar u) (gone_creates_none (place_of u sofar) (λ slot. q.Gone slot (Timer u)) (λ n. refl))
answer_creates_none shape es sofar (now moment) h = creates_none_each (λ timer. to_place (place_of timer sofar) (λ slot. q.Tick slot timer (clock (es ++ now moment ∷ [])))) (firing shape es (clock (es ++ now moment ∷ [])))
    (λ u. gone_creates_none (place_of u sofar) (λ slot. q.Tick slot u (clock (es ++ now moment ∷ []))) (λ n. refl))
answer_creates_none shape es sofar (client_done c) h = refl
answer_creates_none shape es sofar (bye k) h = refl
answer_creates_none shape es sofar fin h = refl
answer_creates_none shape es sofar no_event h = refl

pub creates_none : (s : Service) (port : ℕ) (note : TimersNote) (e : TimersEvent) → put_by (timers_putter s.shape port) note ≡ e → is_arm e ≡ false → puts_create (timers_puts_at s.shape s.journal (port, note)) ≡ false
creates_none s port note e means no_arm = ap puts_create (puts_at_is s.shape s.journal port note e means)
    ∙ creates_none_more (answer s.shape (heard s.shape s.journal) (timers_puts s.shape s.journal) e) (ending_comes s.shape (heard s.shape s.journal) (timers_puts s.shape s.journal) e)
    (answer_creates_none s.shape (heard s.shape s.journal) (timers_puts s.shape s.journal) e no_arm)
    (creates_none_if (turns (has_ending s.shape) (heard s.shape s.journal) e) (ending_puts s.shape (heard s.shape s.journal) (timers_puts s.shape s.journal))
    (creates_none_more (flat_map (gone (timers_puts s.shape s.journal)) (live_timers s.shape (heard s.shape s.journal))) (map (λ k. (k, q.Fin)) (numbers_below (queues_of s.shape)))
    (creates_none_each (gone (timers_puts s.shape s.journal)) (live_timers s.shape (heard s.shape s.journal)) (λ u. gone_creates_none (place_of u (timers_puts s.shape s.journal)) (λ slot. q.Gone slot (Timer u)) (λ n. refl)))
    (creates_none_fins (numbers_below (queues_of s.shape)))))

-- an event that is no Arm brings no listener
pub no_listener : {L : Type 0} (s : Service) (port : ℕ) (note : TimersNote) (e : TimersEvent) (event : ToTimers L) → put_by (timers_putter s.shape port) note ≡ e → is_arm e ≡ false
    → (ls : List L) → ls ≡ ls ++ cond (puts_create (timers_puts_at s.shape s.journal (port, note))) (brought event) []
no_listener {L} s port note e event means no_arm ls = sym (append-nil ls) ∙ ap (λ (b : Bool). ls ++ cond b (brought event) []) (sym (creates_none s port note e means no_arm))

pub plain_no_arm : (heard : Heard) → IsPlain heard → is_arm (event_of heard) ≡ false
plain_no_arm (h.Arms arming) p = absurd p
plain_no_arm (h.Disarms timer) p = refl
plain_no_arm (h.Now moment) p = refl
plain_no_arm (h.ClientDone client) p = refl
plain_no_arm (h.Bye queue) p = refl
plain_no_arm h.Fin p = refl
plain_no_arm h.Nothing p = refl

pub plain_no_bye : (heard : Heard) → IsPlain heard → (k : ℕ) → ends_queue k (event_of heard) ≡ false
plain_no_bye (h.Arms arming) p k = absurd p
plain_no_bye (h.Disarms timer) p k = refl
plain_no_bye (h.Now moment) p k = refl
plain_no_bye (h.ClientDone client) p k = refl
plain_no_bye (h.Bye queue) p k = absurd p
plain_no_bye h.Fin p k = refl
plain_no_bye h.Nothing p k = refl

apart_answers : Running ≡ Ended → ⊥
apart_answers h = cc

-- where the answer is Running, it is not the last queue's last word
pub running_on : {E : Type 0} (r : Result Took E) (b : Bool) → b ≡ false → IfOk r (λ took. took ≡ Running) → IfOk r (λ took. (took ≡ Ended) ↔ (b ≡ true))
running_on (Ok took) b not_last is = (λ e. absurd (apart_answers (sym is ∙ e)), λ h. absurd (both_ways b not_last h))
running_on (Err e) b not_last is = is
