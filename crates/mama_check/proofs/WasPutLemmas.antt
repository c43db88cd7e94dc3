-- Where all edges are whole, what was taken was put.
use Rattle.std.proofs.Common.{◌≡◌, ℕ, ◌<◌, ◌≤◌, Bool, true, List, [], length, refl, sym, subst, ◌∙◌, arith, append-nil, ⊎_elim}
use Rattle.std.specs.Prelude.{◌↔◌}
use Rattle.std.proofs.lemmas.Bool.{cases_lt}
use Rattle.std.proofs.lemmas.List.{get_or_past}
use Rattle.mama_journal.specs.Lane.{by_port}
use Rattle.mama_event.specs.declared.to_queue.QueueNote.{QueueNote}
use Rattle.mama_event.specs.declared.publisher_entry.PublisherEntry.{PublisherEntry}
use Rattle.mama_event.specs.Ports.{queues_of}
use Rattle.mama_check_order.specs.Order.{HasOrder}
use Rattle.mama_rules_services.specs.Ports.{queue_putter}
use Rattle.mama_script.specs.Script.{ScriptData}
use Rattle.mama_record.specs.RunData.{RunData}
use Rattle.mama_rules_legal.specs.Edges.{taken_by, put_to_publisher, put_on_queue}
use Rattle.mama_check.specs.Rules.{KeepsPublisherEdge, KeepsBridgeEdges, KeepsTimersEdges, KeepsQueueEdges}
use Rattle.mama_check.specs.Causal.{all_needs, Begins, WasPut, IsCausal}

all_taken : {V : Type 0} (taken put : List V) → taken ≡ put → Begins taken put
all_taken taken put same = ([], append-nil taken ∙ same)

none_taken : {V : Type 0} (put : List V) → Begins [] put
none_taken put = (put, refl)

module _ (script : ScriptData) (run : RunData) where
  -- an actor that is not in the script has no journal
  pub was_put : length run.publishers ≡ length script.publishers → length run.queues ≡ queues_of script.shape
      → ((p : ℕ) → p < length script.publishers → KeepsPublisherEdge script run p) → KeepsBridgeEdges script run → KeepsTimersEdges script run
      → ((q : ℕ) → q < queues_of script.shape → KeepsQueueEdges script run q) → WasPut script run
  was_put senders lanes publishers bridge timers queues = record {
    bridge = λ port. all_taken _ _ (bridge port);
    timers = λ port. all_taken _ _ (timers port);
    publishers = λ p. ⊎_elim
        (λ low. all_taken _ _ (publishers p low))
        (λ high.
        let past : length run.publishers ≤ p = omega arith in
        subst (λ (journal : List PublisherEntry). Begins (taken_by journal) (put_to_publisher script.shape run.bridge p)) (sym (get_or_past run.publishers p [] past))
        (none_taken (put_to_publisher script.shape run.bridge p)))
        (cases_lt p (length script.publishers));
    queues = λ q port. ⊎_elim
        (λ low. all_taken _ _ (queues q low port))
        (λ high.
        let past : length run.queues ≤ q = omega arith in
        subst (λ (journal : List (ℕ × QueueNote)). Begins (by_port port journal) (put_on_queue script.shape run.bridge run.timers q (queue_putter port))) (sym (get_or_past run.queues q [] past))
        (none_taken (put_on_queue script.shape run.bridge run.timers q (queue_putter port))))
        (cases_lt q (queues_of script.shape));
  }

  -- then it is causal where there is an order
  pub causal_by_order : WasPut script run → (b : Bool) → (b ≡ true) ↔ HasOrder (all_needs script run) → (b ≡ true) ↔ IsCausal script run
  causal_by_order put b order = (λ yes. record { put = put; order = order.0 yes }, λ causal. order.1 causal.order)
