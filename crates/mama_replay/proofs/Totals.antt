-- On each lane of a legal record, what was taken is all that is put there, with the numbers of the entries left out.
use Rattle.std.specs.Prelude.{slice_index_or}
use Rattle.std.proofs.Common.{◌≡◌, ℕ, ◌+◌, ◌<◌, List, [], ◌∷◌, length, map, sym, ◌∙◌, ap, arith}
use Rattle.std.proofs.lemmas.List.{get_or_past}
use Rattle.mama_journal.specs.Lane.{by_port}
use Rattle.mama_event.specs.declared.shape.Shape.{Shape}
use Rattle.mama_event.specs.Ports.{clients_of, publishers_of, queues_of}
use Rattle.mama_event.specs.Publisher.{publisher_puts_at}
use Rattle.mama_check_order.specs.Numbered.{second}
use Rattle.mama_check_order.proofs.Numbered.{numbered_puts}
use Rattle.mama_rules_services.specs.Ports.{bridge_putter, timers_putter}
use Rattle.mama_script.specs.Script.{ScriptData}
use Rattle.mama_script.specs.Tree.{IsShaped}
use Rattle.mama_record.specs.RunData.{RunData}
use Rattle.mama_rules_rounds.specs.Client.{bridge_part, timers_part}
use Rattle.mama_rules_rounds.specs.Setting.{Setting, no_section, publisher_part, queue_part, timer_part}
use Rattle.mama_rules_rounds.specs.Sections.{setting_of}
use Rattle.mama_rules_legal.specs.Edges.{client_puts, taken_by, put_on_bridge, put_on_timers, put_on_queue, AreEdges}
use Rattle.mama_laws_legal.proofs.Putters.{by_bridge_port, by_timers_port, by_queue_port}
use Rattle.mama_check_puts.specs.Puts.{AreLists, bridge_put_to_publisher, bridge_put_to_timers}
use Rattle.mama_check.specs.Puts.{client_to_bridge, client_to_timers, publisher_to_bridge, queue_to_bridge, queue_to_timers}
use Rattle.mama_check.specs.Causal.{of_each, all_to_bridge, all_to_timers, all_to_queue}
use Rattle.mama_check.proofs.Lanes.{AreParts, parts, client_part, queue_part_put, bridge_way, timers_way}
use Rattle.mama_check.proofs.Causes.{length_of_each, at_of_each}

each_list : {V : Type 0} (n : ℕ) (f : ℕ → List V) → AreLists (of_each n f) n f
each_list n f = record { as_many = length_of_each f n; each = λ k low. at_of_each f n k [] low }

module _ (script : ScriptData) (run : RunData) (shaped : IsShaped script) (edges : AreEdges script run) where
  abbrev setting : Setting
  setting = setting_of script

  abbrev shape : Shape
  shape = script.shape

  on_bridge : (port : ℕ) → map second (slice_index_or (all_to_bridge script run) port []) ≡ put_on_bridge setting (client_puts script run.clients) run.publishers run.queues (bridge_putter shape port)
  on_bridge = by_bridge_port shape (λ port who. map second (slice_index_or (all_to_bridge script run) port []) ≡ put_on_bridge setting (client_puts script run.clients) run.publishers run.queues who)
      (λ c low. ap (map second) (lists.first c low) ∙ client_part bridge_part script run c (omega (arith, shaped.clients)))
      (λ p low. ap (map second) (lists.middle p low) ∙ numbered_puts (publisher_puts_at (slice_index_or setting.publishers p no_section)) (slice_index_or run.publishers p []))
      (λ q low. ap (map second) (lists.last q low) ∙ queue_part_put bridge_part script run q)
      (λ port past. ap (map second) (lists.past port past))
    where
      lists : AreParts (all_to_bridge script run) (clients_of shape) (publishers_of shape) (queues_of shape) (client_to_bridge script run) (publisher_to_bridge script run) (queue_to_bridge script run)
      lists =
          parts (of_each (clients_of shape) (client_to_bridge script run)) (of_each (publishers_of shape) (publisher_to_bridge script run)) (of_each (queues_of shape) (queue_to_bridge script run))
          (clients_of shape) (publishers_of shape) (queues_of shape) (client_to_bridge script run) (publisher_to_bridge script run) (queue_to_bridge script run)
          (each_list (clients_of shape) (client_to_bridge script run)) (each_list (publishers_of shape) (publisher_to_bridge script run)) (each_list (queues_of shape) (queue_to_bridge script run))

  pub bridge_total : (port : ℕ) → by_port port run.bridge ≡ map second (slice_index_or (all_to_bridge script run) port [])
  bridge_total port = edges.bridge port ∙ sym (on_bridge port)

  on_timers : (port : ℕ) → map second (slice_index_or (all_to_timers script run) port []) ≡ put_on_timers setting (client_puts script run.clients) run.queues run.bridge (timers_putter shape port)
  on_timers = by_timers_port shape (λ port who. map second (slice_index_or (all_to_timers script run) port []) ≡ put_on_timers setting (client_puts script run.clients) run.queues run.bridge who)
      (λ c low. ap (map second) (lists.first c low) ∙ client_part timers_part script run c (omega (arith, shaped.clients)))
      (λ q low. ap (map second) (lists.middle q low) ∙ queue_part_put timers_part script run q)
      (let place : clients_of shape + queues_of shape ≡ clients_of shape + queues_of shape + 0 = omega arith in
      ap (λ (n : ℕ). map second (slice_index_or (all_to_timers script run) n [])) place ∙ ap (map second) (lists.last 0 (omega arith)) ∙ bridge_way timer_part shape run.bridge)
      (λ port past. ap (map second) (lists.past port (omega arith)))
    where
      lists : AreParts (all_to_timers script run) (clients_of shape) (queues_of shape) 1 (client_to_timers script run) (queue_to_timers script run) (λ k. bridge_put_to_timers shape run.bridge)
      lists =
          parts (of_each (clients_of shape) (client_to_timers script run)) (of_each (queues_of shape) (queue_to_timers script run)) (bridge_put_to_timers shape run.bridge ∷ [])
          (clients_of shape) (queues_of shape) 1 (client_to_timers script run) (queue_to_timers script run) (λ k. bridge_put_to_timers shape run.bridge)
          (each_list (clients_of shape) (client_to_timers script run)) (each_list (queues_of shape) (queue_to_timers script run)) (each_list 1 (λ k. bridge_put_to_timers shape run.bridge))

  pub timers_total : (port : ℕ) → by_port port run.timers ≡ map second (slice_index_or (all_to_timers script run) port [])
  timers_total port = edges.timers port ∙ sym (on_timers port)

  pub queue_total : (q : ℕ) → q < queues_of shape → (port : ℕ) → by_port port (slice_index_or run.queues q []) ≡ map second (slice_index_or (all_to_queue script run q) port [])
  queue_total q low port =
      edges.queues q low port
      ∙ sym (by_queue_port (λ port who. map second (slice_index_or (all_to_queue script run q) port []) ≡ put_on_queue shape run.bridge run.timers q who)
      (bridge_way (queue_part q) shape run.bridge) (timers_way shape run.timers q) (λ port past. ap (map second) (get_or_past (all_to_queue script run q) port [] past)) port)

  pub publisher_total : (p : ℕ) → p < length script.publishers → taken_by (slice_index_or run.publishers p []) ≡ map second (bridge_put_to_publisher shape run.bridge p)
  publisher_total p low = edges.publishers p low ∙ sym (bridge_way (publisher_part p) shape run.bridge)
