-- Where what was taken begins what was put and all that take have ended, every edge is whole.
use Rattle.std.specs.Prelude.{slice_index_or}
use Rattle.std.specs.List.{flat_map, list_any}
use Rattle.std.proofs.Common.{◌≡◌, ℕ, ◌<◌, ◌≤◌, Bool, true, false, List, [], ◌∷◌, ◌++◌, refl, sym, ◌∙◌, ap, subst, arith}
use Rattle.std.proofs.lemmas.Bool.{both_ways, false≢true, false_from_ne_true}
use Rattle.mama_journal.specs.Lane.{by_port, IsEdge}
use Rattle.mama_event.specs.declared.to_queue.QueueNote.{QueueNote}
use Rattle.mama_event.specs.Ports.{queues_of}
use Rattle.mama_event.specs.ToBridge as bridge
use Rattle.mama_event.specs.ToTimers as timers
use Rattle.mama_event.specs.ToQueue as queue
use Rattle.mama_rules_services.specs.Bridge.{BridgePut, to_publisher, to_queue, to_timers, bridge_puts}
use Rattle.mama_rules_services.specs.Bridge as bridging
use Rattle.mama_rules_services.specs.Timers as timing
use Rattle.mama_rules_services.specs.Ports.{queue_putter}
use Rattle.mama_script.specs.Script.{ScriptData}
use Rattle.mama_record.specs.RunData.{RunData}
use Rattle.mama_rules_rounds.specs.Setting.{no_section}
use Rattle.mama_rules_rounds.specs.World.{is_empty}
use Rattle.mama_rules_rounds.specs.Setting as world
use Rattle.mama_rules_rounds.specs.Sections.{setting_of}
use Rattle.mama_rules_legal.specs.Edges.{client_puts, put_on_bridge, put_on_timers, put_on_queue, AreEdges}
use Rattle.mama_laws_lawful.specs.Streams as stream
use Rattle.mama_laws_lawful.proofs.Fins.{fins_tell}
use Rattle.mama_laws_legal.specs.Laws.{IsOrderly}
use Rattle.mama_laws_legal.proofs.Heard.{settled_client}
use Rattle.mama_laws_legal.proofs.Endings.{ending_settles}
use Rattle.mama_laws_legal.proofs.LastEvents.{some_client}
use Rattle.mama_rules_services.proofs.PutterPorts.{by_bridge_port, by_timers_port, by_queue_port}
use Rattle.mama_laws_allowed.specs.Allowed.{StoppedPublishersSentOut}
use Rattle.mama_laws_gather.specs.Gathered.{AreGathered, HaveEnded, GatheredIsLegal}
use Rattle.mama_laws_gather.specs.Done.{GatheredDoLines}
use Rattle.mama_laws_gather.proofs.TimersFins.{ended_by}
use Rattle.mama_laws_gather.proofs.Endings.{last_of_client, last_of_publisher, last_of_timing_client, last_of_bridge}

-- what begins nothing is nothing
begins_none : {V : Type 0} (xs ys : List V) → xs ++ ys ≡ [] → xs ≡ []
begins_none [] ys h = refl
begins_none (x ∷ xs) ys h = absurd (false≢true (ap is_empty h))

from_nobody : {V : Type 0} (last : V → Bool) (taken : List V) → IsEdge last taken [] → taken ≡ []
from_nobody last taken edge = begins_none taken edge.rest edge.prefix

-- what goes to a queue is the same by the words of rounds and by those of lawful streams
parts_agree : (k : ℕ) (outs : List BridgePut) → flat_map (world.queue_part k) outs ≡ flat_map (stream.queue_part k) outs
parts_agree k [] = refl
parts_agree k (to_publisher r note ∷ outs) = parts_agree k outs
parts_agree k (to_queue n note ∷ outs) = ap (λ (xs : List QueueNote). world.queue_part k (to_queue n note) ++ xs) (parts_agree k outs)
parts_agree k (to_timers note ∷ outs) = parts_agree k outs

module _ (script : ScriptData) (run : RunData) (orderly : IsOrderly script) (taken : AreGathered script run) (ended : HaveEnded script run) where
  -- a queue's edges
  queue_whole : (k : ℕ) → k < queues_of script.shape → (port : ℕ) → by_port port (slice_index_or run.queues k []) ≡ put_on_queue script.shape run.bridge run.timers k (queue_putter port)
  queue_whole k small port =
      by_queue_port (λ n who. IsEdge queue.is_last (by_port n (slice_index_or run.queues k [])) (put_on_queue script.shape run.bridge run.timers k who)
      → (n ≤ 1 → list_any queue.is_last (by_port n (slice_index_or run.queues k [])) ≡ true) → by_port n (slice_index_or run.queues k []) ≡ put_on_queue script.shape run.bridge run.timers k who)
      (λ edge last. edge.whole (last (omega arith)))
      (λ edge last. edge.whole (last (omega arith)))
      (λ n past edge last. from_nobody queue.is_last (by_port n (slice_index_or run.queues k [])) edge)
      port (taken.queues k small port) (ended.queues k small port)

  -- the ending of the bridge has come, since the first queue was told Fin
  nothing_at_first : bridging.has_ending script.shape [] ≡ false
  nothing_at_first = false_from_ne_true (bridging.has_ending script.shape []) (λ is.
      both_ways false refl (settled_client script.shape [] 0 (subst (λ (n : ℕ). 0 < n) (sym orderly.shaped.clients) (some_client orderly.within.clients_some)) (ending_settles script.shape [] is)))

  first_queue : 0 < queues_of script.shape
  first_queue = some_client orderly.within.queues_some

  pub bridge_ended : bridging.has_ending script.shape (bridging.heard script.shape run.bridge) ≡ true
  bridge_ended =
      sym ((fins_tell script.shape run.bridge nothing_at_first).to_queues 0 first_queue)
      ∙ ap (list_any queue.is_last) (sym (parts_agree 0 (bridge_puts script.shape run.bridge)))
      ∙ ap (list_any queue.is_last) (sym (queue_whole 0 first_queue 0))
      ∙ ended.queues 0 first_queue 0 (omega arith)

  timers_ended : timing.has_ending script.shape (timing.heard script.shape run.timers) ≡ true
  timers_ended = ended_by script.shape 0 (timing.heard script.shape run.timers)
      (ap (list_any queue.is_last) (sym (queue_whole 0 first_queue 1)) ∙ ended.queues 0 first_queue 1 (omega arith))

  -- so each port gave its last event
  pub edges_whole : AreEdges script run
  edges_whole = record {
    bridge = λ port.
        by_bridge_port script.shape (λ n who. IsEdge bridge.is_last (by_port n run.bridge) (put_on_bridge (setting_of script) (client_puts script run.clients) run.publishers run.queues who)
        → by_port n run.bridge ≡ put_on_bridge (setting_of script) (client_puts script run.clients) run.publishers run.queues who)
        (λ c small edge. edge.whole (last_of_client script.shape run.bridge c small bridge_ended))
        (λ p small edge. edge.whole (last_of_publisher script.shape run.bridge p small bridge_ended))
        (λ k small edge. edge.whole (ended.bridge k small))
        (λ n past edge. from_nobody bridge.is_last (by_port n run.bridge) edge)
        port (taken.bridge port);
    timers = λ port.
        by_timers_port script.shape (λ n who. IsEdge timers.is_last (by_port n run.timers) (put_on_timers (setting_of script) (client_puts script run.clients) run.queues run.bridge who)
        → by_port n run.timers ≡ put_on_timers (setting_of script) (client_puts script run.clients) run.queues run.bridge who)
        (λ c small edge. edge.whole (last_of_timing_client script.shape run.timers c small timers_ended))
        (λ k small edge. edge.whole (ended.timers k small))
        (λ edge. edge.whole (last_of_bridge script.shape run.timers timers_ended))
        (λ n past edge. from_nobody timers.is_last (by_port n run.timers) edge)
        port (taken.timers port);
    publishers = λ p small. (taken.publishers p small).whole (ended.publishers p small);
    queues = queue_whole;
  }

pub gathered : GatheredIsLegal
gathered script run orderly shaped lines taken ended calls lists = record {
  shaped = shaped;
  lines = lines;
  edges = edges_whole script run orderly taken ended;
  calls = calls;
  lists = lists;
}

pub lines_done : StoppedPublishersSentOut → GatheredDoLines
lines_done law script run orderly did taken ended = record {
  clients = did.clients;
  publishers = λ p small.
      law script run orderly.shaped (edges_whole script run orderly taken ended) (bridge_ended script run orderly taken ended) p small
      (slice_index_or (setting_of script).publishers p no_section).lines (did.own p small) (did.stops p small);
}
