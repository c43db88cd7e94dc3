-- What waits first on a lane was put by an entry that was done.
use Rattle.std.specs.Prelude.{◌==◌, slice_get, slice_index_or, option_map}
use Rattle.std.specs.List.{flat_map}
use Rattle.std.proofs.Common.{◌≡◌, ℕ, suc, ◌+◌, ◌<◌, List, [], ◌∷◌, ◌++◌, length, map, refl, sym, ◌∙◌, ap, subst, arith}
use Rattle.std.proofs.lemmas.Bool.{cond-true, eq-eqb}
use Rattle.std.proofs.lemmas.List.{length-map, length-append}
use Rattle.mama_journal.specs.Journal.{puts}
use Rattle.mama_journal.specs.Lane.{by_port}
use Rattle.mama_event.specs.declared.shape.Shape.{Shape}
use Rattle.mama_event.specs.declared.to_bridge.BridgeNote.{BridgeNote}
use Rattle.mama_event.specs.declared.to_timers.TimersNote.{TimersNote}
use Rattle.mama_event.specs.declared.to_queue.QueueNote.{QueueNote}
use Rattle.mama_event.specs.declared.to_publisher.PublisherNote.{PublisherNote}
use Rattle.mama_event.specs.declared.publisher_entry.PublisherEntry.{PublisherEntry}
use Rattle.mama_event.specs.declared.publisher_entry.PublisherEntry.TheVariants.{Send, Done, Took}
use Rattle.mama_event.specs.Ports.{clients_of, publishers_of, queues_of}
use Rattle.mama_event.specs.Publisher.{publisher_puts_at}
use Rattle.mama_check_order.specs.Order.{turns_of, IsMet}
use Rattle.mama_check_order.specs.Numbered.{second, numbered, parted, steps_numbered}
use Rattle.mama_check_order.proofs.Numbered.{numbered_puts, parted_puts}
use Rattle.mama_check_order.specs.Taken.{entry_of, sender_need}
use Rattle.mama_check_order.specs.Taken as edge
use Rattle.mama_rules_services.specs.Bridge.{BridgePut, bridge_puts_at}
use Rattle.mama_rules_services.specs.Timers.{timers_puts_at}
use Rattle.mama_rules_services.specs.Ports.{Putter, bridge_putter, timers_putter, queue_putter}
use Rattle.mama_rules_services.specs.Ports as ports
use Rattle.mama_rules_queue.specs.Queue.{QueuePut}
use Rattle.mama_script.specs.declared.client.ClientLine.{ClientLine}
use Rattle.mama_script.specs.Script.{ScriptData}
use Rattle.mama_record.specs.RunData.{RunData}
use Rattle.mama_rules_rounds.specs.Client.{Standing, at_first, after_line, bridge_part, timers_part}
use Rattle.mama_rules_rounds.specs.Setting.{Setting, no_section, puts_on, publisher_part, queue_part, timer_part}
use Rattle.mama_rules_rounds.specs.World.{World}
use Rattle.mama_rules_rounds.specs.Sections.{setting_of}
use Rattle.mama_rules_legal.specs.Edges.{taken_by, put_on_bridge, put_on_timers, put_to_publisher, put_on_queue}
use Rattle.mama_laws_legal.proofs.Worlds.{Holds}
use Rattle.mama_laws_legal.proofs.Putters.{by_bridge_port, by_timers_port, by_queue_port}
use Rattle.mama_check_puts.specs.Puts.{AreLists, tick_part, bridge_put_to_publisher, bridge_put_to_timers}
use Rattle.mama_check_puts.specs.Client.{lines_from, line_puts}
use Rattle.mama_check.specs.Puts.{client_to_bridge, client_to_timers, publisher_to_bridge, queue_to_bridge, queue_to_timers}
use Rattle.mama_check.specs.Causal.{client_actor, publisher_actor, bridge_actor, timers_actor, queue_actor, of_each, actors_to_bridge, all_to_bridge, actors_to_timers, all_to_timers, actors_to_queue, all_to_queue}
use Rattle.mama_check.proofs.Lanes.{AreParts, parts, bridge_way, timers_way}
use Rattle.mama_check.proofs.Causes.{length_of_each, at_of_each}
use Rattle.mama_check.proofs.Numbers.{are_by_port}
use Rattle.mama_laws_causal.proofs.Numbers.{Begins, numbered_begins, parted_begins, AreBelow, below_numbered, below_steps, below_parted}
use Rattle.mama_laws_causal.proofs.Needs.{need_of, met_below, met_first}
use Rattle.mama_laws_causal.proofs.Clients.{client_turns}
use Rattle.mama_laws_causal.proofs.Standing.{AreFirst, AreOrdered}

-- ---- places

-- where some waits, what was taken is not all that was put
some_left : {V : Type 0} (taken waiting put : List V) (v : V) (rest : List V) → waiting ≡ v ∷ rest → taken ++ waiting ≡ put → length taken < length put
some_left {V} taken waiting put v rest is all =
    let both : length taken + length waiting ≡ length put = sym (length-append taken waiting) ∙ ap length all in
    let more : length waiting ≡ suc (length rest) = ap (λ (vs : List V). length vs) is in
    omega arith

first_by_port : {V : Type 0} (e : ℕ × V) (rest : List (ℕ × V)) → by_port e.0 (e ∷ rest) ≡ e.1 ∷ by_port e.0 rest
first_by_port e rest = cond-true (e.0 == e.0) (e.1 ∷ by_port e.0 rest) (by_port e.0 rest) (eq-eqb e.0 e.0 refl)

-- the same where the first that waits came by a port
one_left : {V : Type 0} (taken waiting : List (ℕ × V)) (put : List V) (e : ℕ × V) (rest : List (ℕ × V)) → waiting ≡ e ∷ rest → by_port e.0 taken ++ by_port e.0 waiting ≡ put
    → length (by_port e.0 taken) < length put
one_left {V} taken waiting put e rest is all =
    some_left (by_port e.0 taken) (by_port e.0 waiting) put e.1 (by_port e.0 rest) (ap (by_port e.0) is ∙ first_by_port e rest) all

-- there are as many numbered events as there are without their numbers
as_many : {V : Type 0} (xs : List (ℕ × V)) (ys : List V) (k : ℕ) → map second xs ≡ ys → k < length ys → k < length xs
as_many {V} xs ys k is inside =
    let same : length (map (λ (x : ℕ × V). x.1) xs) ≡ length xs = length-map xs second in
    let so : length (map (λ (x : ℕ × V). x.1) xs) ≡ length ys = ap (λ (vs : List V). length vs) is in
    omega arith

-- ---- what each port put

module _ {N : Type 0} (turns actors : List ℕ) (lists : List (List (ℕ × N))) (port k : ℕ) where
  -- the event at a place of what a port put may be taken
  abbrev pub MayBeTaken : Type 0
  MayBeTaken = IsMet turns (option_map (entry_of (slice_index_or actors port 0)) (slice_get (slice_index_or lists port []) k))

  pub taken_at : (actor : ℕ) (list : List (ℕ × N)) → slice_index_or actors port 0 ≡ actor → slice_index_or lists port [] ≡ list
      → IsMet turns (option_map (entry_of actor) (slice_get list k)) → MayBeTaken
  taken_at actor list who what met =
      subst (λ (a : ℕ). IsMet turns (option_map (entry_of a) (slice_get (slice_index_or lists port []) k))) (sym who)
      (subst (λ (xs : List (ℕ × N)). IsMet turns (option_map (entry_of actor) (slice_get xs k))) (sym what) met)

each_list : {V : Type 0} (n : ℕ) (f : ℕ → List V) → AreLists (of_each n f) n f
each_list n f = record { as_many = length_of_each f n; each = λ k low. at_of_each f n k [] low }

-- a client puts under the numbers of its turns
lines_count : (queues c : ℕ) (s : Standing) (lines : List ClientLine) → length (lines_from queues c s lines) ≡ suc (length lines)
lines_count queues c s [] = refl
lines_count queues c s (l ∷ ls) = ap suc (lines_count queues c (after_line s l) ls)

client_below : {V : Type 0} (part : QueuePut → List V) (queues c : ℕ) (moments : List ℕ) (lines : List ClientLine)
    → AreBelow (suc (length lines)) (parted part (steps_numbered (line_puts queues c moments lines)))
client_below part queues c moments lines =
    below_parted part (suc (length lines)) (steps_numbered (line_puts queues c moments lines))
    (subst (λ (n : ℕ). AreBelow n (steps_numbered (line_puts queues c moments lines))) (lines_count queues c (at_first moments) lines) (below_steps (line_puts queues c moments lines)))

-- one part of what a journal puts may be taken as far as the journal so far put it
journal_met : {E P V : Type 0} (turns : List ℕ) (actor : ℕ) (at : List E → E → List P) (part : P → List V) (before whole : List E) (put : List V) (k : ℕ)
    → turns_of actor turns ≡ length before → Begins before whole → map second (parted part (numbered at before)) ≡ put → k < length put
    → IsMet turns (option_map (entry_of actor) (slice_get (parted part (numbered at whole)) k))
journal_met turns actor at part before whole put k count begins is inside =
    met_first turns actor (length before) (parted part (numbered at before)) (parted part (numbered at whole)) k count
    (below_parted part (length before) (numbered at before) (below_numbered at before))
    (parted_begins part (numbered at before) (numbered at whole) (numbered_begins at before whole begins))
    (as_many (parted part (numbered at before)) put k is inside)

-- a publisher's notes, by both spellings
same_taken : (journal : List PublisherEntry) → flat_map edge.taken_in journal ≡ taken_by journal
same_taken [] = refl
same_taken (Send ∷ es) = same_taken es
same_taken (Done ∷ es) = same_taken es
same_taken (Took note ∷ es) = ap (λ (ns : List PublisherNote). note ∷ ns) (same_taken es)

-- ---- the lanes of a world

module _ (script : ScriptData) (run : RunData) (done : ℕ → List QueuePut) (w : World) (holds : Holds (setting_of script) done w) (first : AreFirst w.publishers w.bridge w.timers w.queues run) (o : AreOrdered script run w.publishers w.bridge w.timers w.queues) where
  abbrev setting : Setting
  setting = setting_of script

  abbrev shape : Shape
  shape = script.shape

  -- what a queue put one way
  queue_met : {V : Type 0} (part : QueuePut → List V) (q k : ℕ) → q < queues_of shape → k < length (flat_map part (puts (puts_on setting q) (slice_index_or w.queues q [])))
      → IsMet o.turns (option_map (entry_of (queue_actor shape q)) (slice_get (parted part (numbered (puts_on setting q) (slice_index_or run.queues q []))) k))
  queue_met {V} part q k low inside =
      let at : List (ℕ × QueueNote) → ℕ × QueueNote → List QueuePut = puts_on setting q in
      let journal : List (ℕ × QueueNote) = slice_index_or w.queues q [] in
      journal_met o.turns (queue_actor shape q) (puts_on setting q) part (slice_index_or w.queues q []) (slice_index_or run.queues q []) (flat_map part (puts at journal)) k
      (o.queues q low) (first.queues q)
      (parted_puts part (numbered at journal) ∙ ap (flat_map part) (numbered_puts at journal)) inside

  -- what the bridge put one way
  bridge_met : {V : Type 0} (part : BridgePut → List V) (put : List V) (k : ℕ) → map second (parted part (numbered (bridge_puts_at shape) w.bridge)) ≡ put → k < length put
      → IsMet o.turns (option_map (entry_of (bridge_actor shape)) (slice_get (parted part (numbered (bridge_puts_at shape) run.bridge)) k))
  bridge_met part put k is inside = journal_met o.turns (bridge_actor shape) (bridge_puts_at shape) part w.bridge run.bridge put k o.bridge first.bridge is inside

  -- ---- the bridge's lane

  abbrev OnBridge : ℕ → Putter → Type 0
  OnBridge port who = (k : ℕ) → k < length (put_on_bridge setting done w.publishers w.queues who) → MayBeTaken o.turns (actors_to_bridge shape) (all_to_bridge script run) port k

  bridge_lists : AreParts (all_to_bridge script run) (clients_of shape) (publishers_of shape) (queues_of shape) (client_to_bridge script run) (publisher_to_bridge script run) (queue_to_bridge script run)
  bridge_lists =
      parts (of_each (clients_of shape) (client_to_bridge script run)) (of_each (publishers_of shape) (publisher_to_bridge script run)) (of_each (queues_of shape) (queue_to_bridge script run))
      (clients_of shape) (publishers_of shape) (queues_of shape) (client_to_bridge script run) (publisher_to_bridge script run) (queue_to_bridge script run)
      (each_list (clients_of shape) (client_to_bridge script run)) (each_list (publishers_of shape) (publisher_to_bridge script run)) (each_list (queues_of shape) (queue_to_bridge script run))

  publisher_met : (p k : ℕ) → p < publishers_of shape → k < length (puts (publisher_puts_at (slice_index_or setting.publishers p no_section)) (slice_index_or w.publishers p []))
      → IsMet o.turns (option_map (entry_of (publisher_actor shape p)) (slice_get (publisher_to_bridge script run p) k))
  publisher_met p k low inside =
      let at : List PublisherEntry → PublisherEntry → List BridgeNote = publisher_puts_at (slice_index_or setting.publishers p no_section) in
      let journal : List PublisherEntry = slice_index_or w.publishers p [] in
      met_first o.turns (publisher_actor shape p) (length journal) (numbered at journal) (publisher_to_bridge script run p) k (o.publishers p low) (below_numbered at journal)
      (numbered_begins at journal (slice_index_or run.publishers p []) (first.publishers p)) (as_many (numbered at journal) (puts at journal) k (numbered_puts at journal) inside)

  on_bridge : (port : ℕ) → OnBridge port (bridge_putter shape port)
  on_bridge = by_bridge_port shape OnBridge
      (λ c low k inside. taken_at o.turns (actors_to_bridge shape) (all_to_bridge script run) c k (client_actor shape c) (client_to_bridge script run c)
      ((are_by_port shape).bridge_clients c low) (bridge_lists.first c low)
      (met_below o.turns c (client_turns script c) (client_to_bridge script run c) k (o.clients c low)
      (client_below bridge_part (queues_of shape) c (slice_index_or run.clients c []) (slice_index_or script.clients c []))))
      (λ p low k inside. taken_at o.turns (actors_to_bridge shape) (all_to_bridge script run) (clients_of shape + p) k (publisher_actor shape p) (publisher_to_bridge script run p)
      ((are_by_port shape).bridge_publishers p low) (bridge_lists.middle p low) (publisher_met p k low inside))
      (λ q low k inside. taken_at o.turns (actors_to_bridge shape) (all_to_bridge script run) (clients_of shape + publishers_of shape + q) k (queue_actor shape q) (queue_to_bridge script run q)
      ((are_by_port shape).bridge_queues q low) (bridge_lists.last q low) (queue_met bridge_part q k low inside))
      (λ port past k inside. absurd (omega arith))

  pub bridge_may : (e : ℕ × BridgeNote) (rest : List (ℕ × BridgeNote)) → w.to_bridge ≡ e ∷ rest → IsMet o.turns (need_of (actors_to_bridge shape) (all_to_bridge script run) w.bridge e)
  bridge_may e rest is =
      on_bridge e.0 (length (by_port e.0 w.bridge))
      (one_left w.bridge w.to_bridge (put_on_bridge setting done w.publishers w.queues (bridge_putter shape e.0)) e rest is (holds.bridge e.0))

  -- ---- the timer service's lane

  abbrev OnTimers : ℕ → Putter → Type 0
  OnTimers port who = (k : ℕ) → k < length (put_on_timers setting done w.queues w.bridge who) → MayBeTaken o.turns (actors_to_timers shape) (all_to_timers script run) port k

  timers_lists : AreParts (all_to_timers script run) (clients_of shape) (queues_of shape) 1 (client_to_timers script run) (queue_to_timers script run) (λ k. bridge_put_to_timers shape run.bridge)
  timers_lists =
      parts (of_each (clients_of shape) (client_to_timers script run)) (of_each (queues_of shape) (queue_to_timers script run)) (bridge_put_to_timers shape run.bridge ∷ [])
      (clients_of shape) (queues_of shape) 1 (client_to_timers script run) (queue_to_timers script run) (λ k. bridge_put_to_timers shape run.bridge)
      (each_list (clients_of shape) (client_to_timers script run)) (each_list (queues_of shape) (queue_to_timers script run)) (each_list 1 (λ k. bridge_put_to_timers shape run.bridge))

  on_timers : (port : ℕ) → OnTimers port (timers_putter shape port)
  on_timers = by_timers_port shape OnTimers
      (λ c low k inside. taken_at o.turns (actors_to_timers shape) (all_to_timers script run) c k (client_actor shape c) (client_to_timers script run c)
      ((are_by_port shape).timers_clients c low) (timers_lists.first c low)
      (met_below o.turns c (client_turns script c) (client_to_timers script run c) k (o.clients c low)
      (client_below timers_part (queues_of shape) c (slice_index_or run.clients c []) (slice_index_or script.clients c []))))
      (λ q low k inside. taken_at o.turns (actors_to_timers shape) (all_to_timers script run) (clients_of shape + q) k (queue_actor shape q) (queue_to_timers script run q)
      ((are_by_port shape).timers_queues q low) (timers_lists.middle q low) (queue_met timers_part q k low inside))
      (λ k inside.
      let place : clients_of shape + queues_of shape ≡ clients_of shape + queues_of shape + 0 = omega arith in
      taken_at o.turns (actors_to_timers shape) (all_to_timers script run) (clients_of shape + queues_of shape) k (bridge_actor shape) (bridge_put_to_timers shape run.bridge)
      (are_by_port shape).timers_bridge
      (ap (λ (n : ℕ). slice_index_or (all_to_timers script run) n []) place ∙ timers_lists.last 0 (omega arith))
      (bridge_met timer_part (put_on_timers setting done w.queues w.bridge ports.ByBridge) k (bridge_way timer_part shape w.bridge) inside))
      (λ port past k inside. absurd (omega arith))

  pub timers_may : (e : ℕ × TimersNote) (rest : List (ℕ × TimersNote)) → w.to_timers ≡ e ∷ rest → IsMet o.turns (need_of (actors_to_timers shape) (all_to_timers script run) w.timers e)
  timers_may e rest is =
      on_timers e.0 (length (by_port e.0 w.timers))
      (one_left w.timers w.to_timers (put_on_timers setting done w.queues w.bridge (timers_putter shape e.0)) e rest is (holds.timers e.0))

  -- ---- the lane of a queue

  abbrev OnQueue : ℕ → ℕ → Putter → Type 0
  OnQueue q port who = (k : ℕ) → k < length (put_on_queue shape w.bridge w.timers q who) → MayBeTaken o.turns (actors_to_queue shape) (all_to_queue script run q) port k

  on_queue : (q port : ℕ) → OnQueue q port (queue_putter port)
  on_queue q = by_queue_port (OnQueue q)
      (λ k inside. bridge_met (queue_part q) (put_on_queue shape w.bridge w.timers q ports.ByBridge) k (bridge_way (queue_part q) shape w.bridge) inside)
      (λ k inside. journal_met o.turns (timers_actor shape) (timers_puts_at shape) (tick_part q) w.timers run.timers (put_on_queue shape w.bridge w.timers q ports.ByTimers) k
      o.timers first.timers (timers_way shape w.timers q) inside)
      (λ port past k inside. absurd (omega arith))

  pub queue_may : (q : ℕ) (e : ℕ × QueueNote) (rest : List (ℕ × QueueNote)) → q < queues_of shape → slice_index_or w.to_queues q [] ≡ e ∷ rest
      → IsMet o.turns (need_of (actors_to_queue shape) (all_to_queue script run q) (slice_index_or w.queues q []) e)
  queue_may q e rest low is =
      on_queue q e.0 (length (by_port e.0 (slice_index_or w.queues q [])))
      (one_left (slice_index_or w.queues q []) (slice_index_or w.to_queues q []) (put_on_queue shape w.bridge w.timers q (queue_putter e.0)) e rest is (holds.queues q low e.0))

  -- ---- the lane of a publisher

  pub publisher_may : (p : ℕ) (note : PublisherNote) (rest : List PublisherNote) → p < length setting.publishers → slice_index_or w.to_publishers p [] ≡ note ∷ rest
      → IsMet o.turns (sender_need (bridge_actor shape) (bridge_put_to_publisher shape run.bridge p) (slice_index_or w.publishers p []) (Took note))
  publisher_may p note rest low is =
      let put : List PublisherNote = put_to_publisher shape w.bridge p in
      let journal : List PublisherEntry = slice_index_or w.publishers p [] in
      bridge_met (publisher_part p) put (length (flat_map edge.taken_in (slice_index_or w.publishers p []))) (bridge_way (publisher_part p) shape w.bridge)
      (subst (λ (n : ℕ). n < length put) (ap (λ (ns : List PublisherNote). length ns) (sym (same_taken journal)))
      (some_left (taken_by journal) (slice_index_or w.to_publishers p []) put note rest is (holds.publishers p low)))
