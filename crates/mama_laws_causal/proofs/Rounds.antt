-- Over the rounds of a run there is one order of all entries so far, and in the end one of all.
use Rattle.std.specs.Prelude.{◌-◌, slice_index_or, Option, None}
use Rattle.std.specs.List.{list_all}
use Rattle.std.proofs.Common.{◌≡◌, ℕ, suc, ◌+◌, ◌<◌, ◌≤◌, true, List, [], ◌∷◌, ◌++◌, length, refl, sym, ◌∙◌, ap, subst, arith, ⊎_elim, append-nil}
use Rattle.std.proofs.lemmas.Bool.{cases_lt, and_parts, false≢true}
use Rattle.std.proofs.lemmas.List.{length-set, length-replicate, length-append, get_or_past}
use Rattle.mama_event.specs.declared.to_bridge.BridgeNote.{BridgeNote}
use Rattle.mama_event.specs.declared.to_timers.TimersNote.{TimersNote}
use Rattle.mama_event.specs.declared.to_queue.QueueNote.{QueueNote}
use Rattle.mama_event.specs.declared.to_publisher.PublisherNote.{PublisherNote}
use Rattle.mama_event.specs.declared.publisher_entry.PublisherEntry.{PublisherEntry}
use Rattle.mama_event.specs.declared.publisher_entry.PublisherEntry.TheVariants.{Send, Done, Took}
use Rattle.mama_event.specs.Ports.{clients_of, publishers_of, queues_of}
use Rattle.mama_journal.specs.Journal.{numbers_below}
use Rattle.mama_check_order.specs.Order.{turns_of, IsMet, HasOrder}
use Rattle.mama_check_order.specs.declared.order.Need.{Need}
use Rattle.mama_check_order.specs.Taken.{sender_need}
use Rattle.mama_rules_queue.specs.Queue.{QueuePut}
use Rattle.mama_script.specs.Script.{ScriptData}
use Rattle.mama_script.specs.Tree.{IsShaped}
use Rattle.mama_record.specs.RunData.{RunData}
use Rattle.mama_rules_rounds.specs.Setting.{Setting}
use Rattle.mama_rules_rounds.specs.World.{World, publisher_did, bridge_took, bridge_turn, timers_took, timers_turn, publisher_took, publisher_turn, queue_took, queue_turn}
use Rattle.mama_rules_rounds.specs.Stage.{Stage, client_stepped, client_step, entries_done, publisher_stepped, publisher_step, IsStageDrained}
use Rattle.mama_rules_rounds.specs.Sections.{setting_of}
use Rattle.mama_rules_rounds.specs.Round.{no_journals, start, record_of}
use Rattle.mama_rules_legal.specs.Edges.{client_puts, AreEdges}
use Rattle.mama_rules_legal.specs.Calls.{IsShapedFor}
use Rattle.mama_laws_legal.proofs.Worlds.{Holds, bridge_turn_keeps, timers_turn_keeps, publisher_turn_keeps, queue_turn_keeps}
use Rattle.mama_laws_legal.proofs.Stages.{IsKept, drain_keeps, IsKeptByRounds, rounds_keep}
use Rattle.mama_laws_legal.proofs.Whole.{is_own, are_own, Running, drained, client_runs, publisher_runs, nothing_at, sections_len, resting_at_start, whole_edges}
use Rattle.mama_laws_legal.proofs.Whole.{shaped as shaped_for}
use Rattle.mama_check_puts.specs.Puts.{bridge_put_to_publisher}
use Rattle.mama_check.specs.Causal.{client_actor, publisher_actor, bridge_actor, timers_actor, queue_actor, of_each, client_needs, publisher_needs, bridge_needs, timers_needs, queue_needs, all_needs, actors_to_bridge, all_to_bridge, actors_to_timers, all_to_timers, actors_to_queue, all_to_queue}
use Rattle.mama_check.proofs.Lanes.{publishers_are}
use Rattle.mama_check.proofs.Causes.{length_of_each}
use Rattle.mama_check.proofs.Numbers.{are_by_number}
use Rattle.mama_check.proofs.WasPutLemmas.{was_put}
use Rattle.mama_laws_causal.specs.Causal.{RoundsAreCausal}
use Rattle.mama_laws_causal.proofs.Numbers.{Begins}
use Rattle.mama_laws_causal.proofs.Needs.{needs_count, sender_count}
use Rattle.mama_laws_causal.proofs.Clients.{AreBegun, client_turns, clients_first}
use Rattle.mama_laws_causal.proofs.Standing.{AreFirst, without_last, grown, grown_begins, without_grown, AreOrdered, bridge_ordered, timers_ordered, publisher_ordered, queue_ordered}
use Rattle.mama_laws_causal.proofs.Lanes.{bridge_may, timers_may, publisher_may, queue_may}

-- a list begins itself
whole : {X : Type 0} (xs : List X) → Begins xs xs
whole xs = ([], append-nil xs)

-- an entry more leaves as many journals
still : (p : ℕ) (w : World) (e : PublisherEntry) → p < length w.publishers → p < length (grown w.publishers p e)
still p w e inside = omega (arith, length-set w.publishers p (slice_index_or w.publishers p [] ++ e ∷ []))

module _ (script : ScriptData) (shaped : IsShaped script) where
  abbrev setting : Setting
  setting = setting_of script

  -- whatever record goes on from these journals, what its entries need lets those so far stand in one order
  abbrev HaveOrders : List (List PublisherEntry) → List (ℕ × BridgeNote) → List (ℕ × TimersNote) → List (List (ℕ × QueueNote)) → Type 0
  HaveOrders ps bs ts qs = (run : RunData) → AreFirst ps bs ts qs run → AreOrdered script run ps bs ts qs

  abbrev Ordered : World → Type 0
  Ordered w = HaveOrders w.publishers w.bridge w.timers w.queues

  -- ---- turns

  record Goes (done : ℕ → List QueuePut) (w : World) : Type 0 where
    pub holds : Holds setting done w
    pub ordered : Ordered w

  as_many_sections : length setting.publishers ≡ publishers_of script.shape
  as_many_sections = sections_len 0 script.publishers ∙ sym (publishers_are script shaped)

  module _ (done : ℕ → List QueuePut) where
    bridge_goes : (w : World) → Goes done w → Goes done (bridge_turn setting w)
    bridge_goes w goes = record { holds = bridge_turn_keeps setting done w goes.holds; ordered = go w.to_bridge refl }
      where
        go : (lane : List (ℕ × BridgeNote)) → w.to_bridge ≡ lane → Ordered (bridge_took setting w lane)
        go [] is = goes.ordered
        go (e ∷ rest) is = λ run first.
            let before : AreFirst w.publishers w.bridge w.timers w.queues run = record { publishers = first.publishers; bridge = without_last w.bridge e run.bridge first.bridge; timers = first.timers; queues = first.queues } in
            let o : AreOrdered script run w.publishers w.bridge w.timers w.queues = goes.ordered run before in
            bridge_ordered script run w.publishers w.bridge w.timers w.queues o e first.bridge (bridge_may script run done w goes.holds before o e rest is)

    timers_goes : (w : World) → Goes done w → Goes done (timers_turn setting w)
    timers_goes w goes = record { holds = timers_turn_keeps setting done w goes.holds; ordered = go w.to_timers refl }
      where
        go : (lane : List (ℕ × TimersNote)) → w.to_timers ≡ lane → Ordered (timers_took setting w lane)
        go [] is = goes.ordered
        go (e ∷ rest) is = λ run first.
            let before : AreFirst w.publishers w.bridge w.timers w.queues run = record { publishers = first.publishers; bridge = first.bridge; timers = without_last w.timers e run.timers first.timers; queues = first.queues } in
            let o : AreOrdered script run w.publishers w.bridge w.timers w.queues = goes.ordered run before in
            timers_ordered script run w.publishers w.bridge w.timers w.queues o e first.timers (timers_may script run done w goes.holds before o e rest is)

    queue_goes : (q : ℕ) (w : World) → q < queues_of script.shape → Goes done w → Goes done (queue_turn setting q w)
    queue_goes q w low goes = record { holds = queue_turn_keeps setting done q w low goes.holds; ordered = go (slice_index_or w.to_queues q []) refl }
      where
        inside : q < length w.queues
        inside = omega (arith, goes.holds.queues_len)

        go : (lane : List (ℕ × QueueNote)) → slice_index_or w.to_queues q [] ≡ lane → Ordered (queue_took setting q w lane)
        go [] is = goes.ordered
        go (e ∷ rest) is = λ run first.
            let before : AreFirst w.publishers w.bridge w.timers w.queues run = record { publishers = first.publishers; bridge = first.bridge; timers = first.timers; queues = without_grown w.queues run.queues q e inside first.queues } in
            let o : AreOrdered script run w.publishers w.bridge w.timers w.queues = goes.ordered run before in
            queue_ordered script run w.publishers w.bridge w.timers w.queues o q e low inside (grown_begins w.queues run.queues q e inside first.queues) (queue_may script run done w goes.holds before o q e rest low is)

    -- an entry of a publisher, where what it needs is met
    publisher_more : (p : ℕ) (ps : List (List PublisherEntry)) (bs : List (ℕ × BridgeNote)) (ts : List (ℕ × TimersNote)) (qs : List (List (ℕ × QueueNote))) (e : PublisherEntry)
        → p < publishers_of script.shape → p < length ps
        → ((run : RunData) → AreFirst ps bs ts qs run → (o : AreOrdered script run ps bs ts qs) → IsMet o.turns (sender_need (bridge_actor script.shape) (bridge_put_to_publisher script.shape run.bridge p) (slice_index_or ps p []) e))
        → HaveOrders ps bs ts qs → HaveOrders (grown ps p e) bs ts qs
    publisher_more p ps bs ts qs e low inside met ordered run first =
        let before : AreFirst ps bs ts qs run = record { publishers = without_grown ps run.publishers p e inside first.publishers; bridge = first.bridge; timers = first.timers; queues = first.queues } in
        let o : AreOrdered script run ps bs ts qs = ordered run before in
        publisher_ordered script run ps bs ts qs o p e low inside (grown_begins ps run.publishers p e inside first.publishers) (met run before o)

    publisher_goes : (p : ℕ) (w : World) → p < publishers_of script.shape → Goes done w → Goes done (publisher_turn setting p w)
    publisher_goes p w low goes = record { holds = publisher_turn_keeps setting done p w low goes.holds; ordered = go (slice_index_or w.to_publishers p []) refl }
      where
        there : p < length setting.publishers
        there = omega (arith, as_many_sections)

        inside : p < length w.publishers
        inside = omega (arith, as_many_sections, goes.holds.publishers_len)

        go : (lane : List PublisherNote) → slice_index_or w.to_publishers p [] ≡ lane → Ordered (publisher_took setting p w lane)
        go [] is = goes.ordered
        go (note ∷ rest) is =
            publisher_more p w.publishers w.bridge w.timers w.queues (Took note) low inside
            (λ run first o. publisher_may script run done w goes.holds first o p note rest there is) goes.ordered

    kept : IsKept setting (Goes done)
    kept = record { bridge = bridge_goes; timers = timers_goes; publisher = publisher_goes; queue = queue_goes }

    -- the entries that a publisher makes of its own accord need nothing
    own_entries : (p : ℕ) (w : World) (es : List PublisherEntry) → p < publishers_of script.shape → p < length w.publishers → list_all is_own es ≡ true → Ordered w → Ordered (entries_done setting p w es)
    own_entries p w [] low inside own ordered = ordered
    own_entries p w (Took note ∷ es) low inside own ordered = absurd (false≢true own)
    own_entries p w (Send ∷ es) low inside own ordered =
        own_entries p (publisher_did setting p w Send) es low (still p w Send inside) own
        (publisher_more p w.publishers w.bridge w.timers w.queues Send low inside (λ run first o. tt) ordered)
    own_entries p w (Done ∷ es) low inside own ordered =
        own_entries p (publisher_did setting p w Done) es low (still p w Done inside) own
        (publisher_more p w.publishers w.bridge w.timers w.queues Done low inside (λ run first o. tt) ordered)

  -- ---- rounds

  module _ (total : ℕ → List QueuePut) where
    record StageGoes (stage : Stage) : Type 0 where
      pub running : Running setting total stage
      pub ordered : Ordered stage.world

    drained_goes : (stage after : Stage) → StageGoes stage → IsStageDrained setting stage after → StageGoes after
    drained_goes stage after goes is = record {
      running = drained setting total stage after goes.running is;
      ordered = (drain_keeps setting (Goes goes.running.done) (kept goes.running.done) stage.world after.world is.world (record { holds = goes.running.world; ordered = goes.ordered })).ordered;
    }

    client_goes : (c : ℕ) (stage : Stage) → c < clients_of script.shape → StageGoes stage → StageGoes (client_step setting c stage)
    client_goes c stage low goes = record { running = client_runs setting total c stage low goes.running; ordered = go (slice_index_or stage.clients c []) }
      where
        go : (left : List (List QueuePut)) → Ordered (client_stepped setting c stage left).world
        go [] = goes.ordered
        go (step ∷ rest) = goes.ordered

    publisher_step_goes : (p : ℕ) (stage : Stage) → p < publishers_of script.shape → StageGoes stage → StageGoes (publisher_step setting p stage)
    publisher_step_goes p stage low goes = record { running = publisher_runs setting total p stage low goes.running; ordered = go (slice_index_or stage.publishers p []) refl }
      where
        inside : p < length stage.world.publishers
        inside = omega (arith, as_many_sections, goes.running.world.publishers_len)

        go : (left : List (List PublisherEntry)) → slice_index_or stage.publishers p [] ≡ left → Ordered (publisher_stepped setting p stage left).world
        go [] is = goes.ordered
        go (step ∷ rest) is =
            own_entries goes.running.done p stage.world step low inside
            (and_parts (list_all is_own step) (are_own rest) (sym (ap are_own is) ∙ goes.running.own p)).0 goes.ordered

    kept_by_rounds : IsKeptByRounds setting StageGoes
    kept_by_rounds = record {
      client = λ c stage after low goes is. drained_goes (client_step setting c stage) after (client_goes c stage low goes) is;
      publisher = λ p stage after low goes is. drained_goes (publisher_step setting p stage) after (publisher_step_goes p stage low goes) is;
    }

  -- ---- the start, where all clients have had their turns

  at_start : Ordered (no_journals script)
  at_start run first =
      let begun : AreBegun script run (clients_of script.shape) 0 = clients_first script run (clients_of script.shape) (omega arith) in
      let none : (a : ℕ) → clients_of script.shape ≤ a → turns_of a begun.turns ≡ 0 = λ a high. ⊎_elim
      (λ (low : a < suc (clients_of script.shape)). let same : clients_of script.shape ≡ a = omega arith in subst (λ (n : ℕ). turns_of n begun.turns ≡ 0) same begun.here)
      (λ past. begun.later a (omega arith))
      (cases_lt a (suc (clients_of script.shape))) in
      record {
        turns = begun.turns;
        follow = begun.follow;
        clients = λ c low. begun.before c low;
        publishers = λ p low. none (publisher_actor script.shape p) (omega arith) ∙ ap (λ (j : List PublisherEntry). length j) (sym (nothing_at script.publishers p));
        bridge = none (bridge_actor script.shape) (omega arith);
        timers = none (timers_actor script.shape) (omega arith);
        queues = λ q low. none (queue_actor script.shape q) (omega arith) ∙ ap (λ (j : List (ℕ × QueueNote)). length j) (sym (nothing_at (numbers_below (queues_of script.shape)) q));
        nobody = λ a past. none a (omega arith);
      }

  -- ---- the end

  -- an actor is a client, a publisher, the bridge, the timer service or a queue, or nobody
  by_actor : (P : ℕ → Type 0) → ((c : ℕ) → c < clients_of script.shape → P (client_actor script.shape c)) → ((p : ℕ) → p < publishers_of script.shape → P (publisher_actor script.shape p))
      → P (bridge_actor script.shape) → P (timers_actor script.shape) → ((q : ℕ) → q < queues_of script.shape → P (queue_actor script.shape q))
      → ((a : ℕ) → clients_of script.shape + publishers_of script.shape + 2 + queues_of script.shape ≤ a → P a) → (a : ℕ) → P a
  by_actor P client publisher bridge timers queue nobody a =
      let cs : ℕ = clients_of script.shape in
      let ps : ℕ = publishers_of script.shape in
      ⊎_elim (λ low. client a low)
      (λ above. ⊎_elim
      (λ low. let same : cs + (a - cs) ≡ a = omega arith in subst P same (publisher (a - cs) (omega arith)))
      (λ higher. ⊎_elim
      (λ low. let same : cs + ps ≡ a = omega arith in subst P same bridge)
      (λ after. ⊎_elim
      (λ low. let same : cs + ps + 1 ≡ a = omega arith in subst P same timers)
      (λ beyond. ⊎_elim
      (λ low. let same : cs + ps + 2 + (a - (cs + ps + 2)) ≡ a = omega arith in subst P same (queue (a - (cs + ps + 2)) (omega arith)))
      (λ past. nobody a past)
      (cases_lt a (cs + ps + 2 + queues_of script.shape)))
      (cases_lt a (cs + ps + 2)))
      (cases_lt a (cs + ps + 1)))
      (cases_lt a (cs + ps)))
      (cases_lt a cs)

  all_count : (run : RunData) → length (all_needs script run) ≡ clients_of script.shape + publishers_of script.shape + 2 + queues_of script.shape
  all_count run =
      let cs : List (List (Option Need)) = of_each (clients_of script.shape) (client_needs script) in
      let ps : List (List (Option Need)) = of_each (publishers_of script.shape) (publisher_needs script run) in
      let middle : List (List (Option Need)) = bridge_needs script run ∷ timers_needs script run ∷ [] in
      let qs : List (List (Option Need)) = of_each (queues_of script.shape) (queue_needs script run) in
      let a : length (((cs ++ ps) ++ middle) ++ qs) ≡ length ((cs ++ ps) ++ middle) + length qs = length-append ((cs ++ ps) ++ middle) qs in
      let b : length ((cs ++ ps) ++ middle) ≡ length (cs ++ ps) + 2 = length-append (cs ++ ps) middle in
      let c : length (cs ++ ps) ≡ length cs + length ps = length-append cs ps in
      let d : length cs ≡ clients_of script.shape = length_of_each (client_needs script) (clients_of script.shape) in
      let e : length ps ≡ publishers_of script.shape = length_of_each (publisher_needs script run) (publishers_of script.shape) in
      let f : length qs ≡ queues_of script.shape = length_of_each (queue_needs script run) (queues_of script.shape) in
      omega arith

  -- where the journals are those of the record, all had their turns
  has_order : (run : RunData) → AreOrdered script run run.publishers run.bridge run.timers run.queues → HasOrder (all_needs script run)
  has_order run o =
      let by_number = are_by_number script run in
      let count : List (Option Need) → ℕ = λ xs. length xs in
      record {
        turns = o.turns;
        follow = o.follow;
        all = by_actor (λ (a : ℕ). turns_of a o.turns ≡ length (slice_index_or (all_needs script run) a []))
            (λ c low. o.clients c low ∙ sym (ap count (by_number.clients c low) ∙ length-replicate (client_turns script c) None))
            (λ p low. o.publishers p low
            ∙ sym (ap count (by_number.publishers p low) ∙ sender_count (bridge_actor script.shape) (bridge_put_to_publisher script.shape run.bridge p) (slice_index_or run.publishers p [])))
            (o.bridge ∙ sym (ap count by_number.bridge ∙ needs_count (actors_to_bridge script.shape) (all_to_bridge script run) run.bridge))
            (o.timers ∙ sym (ap count by_number.timers ∙ needs_count (actors_to_timers script.shape) (all_to_timers script run) run.timers))
            (λ q low. o.queues q low ∙ sym (ap count (by_number.queues q low) ∙ needs_count (actors_to_queue script.shape) (all_to_queue script run q) (slice_index_or run.queues q [])))
            (λ a past. o.nobody a past ∙ sym (ap count (get_or_past (all_needs script run) a [] (omega (arith, all_count run)))));
      }

pub rounds_are_causal : RoundsAreCausal
rounds_are_causal script run orderly is =
    let shaped : IsShaped script = orderly.shaped in
    let total : ℕ → List QueuePut = client_puts script run.clients in
    let last : StageGoes script shaped total is.last =
    rounds_keep (setting_of script) (StageGoes script shaped total) (kept_by_rounds script shaped total) is.count (start script run.clients) is.last is.rounds
    (record { running = (resting_at_start script run.clients).running; ordered = at_start script shaped }) in
    let told : RunData = record_of (setting_of script) run.clients is.last.world in
    let forms : IsShapedFor script run = shaped_for script run is in
    let edges : AreEdges script run = whole_edges script run is in
    record {
      put = was_put script run forms.publishers forms.queues edges.publishers edges.bridge edges.timers edges.queues;
      order = subst (λ (r : RunData). HasOrder (all_needs script r)) (sym is.told)
          (has_order script shaped told (last.ordered told (record { publishers = λ p. whole (slice_index_or told.publishers p []); bridge = whole told.bridge; timers = whole told.timers; queues = λ q. whole (slice_index_or told.queues q []) })));
    }
