-- What holds of all that an event makes a bridge put: of its answer, of what ends, and of the last words.
use Rattle.std.specs.List.{AllByRecursion, flat_map}
use Rattle.std.proofs.Common.{ℕ, List, [], ◌∷◌, ◌++◌, map}
use Rattle.mama_journal.specs.Journal.{turns, numbers_below}
use Rattle.mama_event.specs.declared.shape.Shape.{Shape}
use Rattle.mama_event.specs.declared.to_publisher.PublisherNote.TheVariants as p
use Rattle.mama_event.specs.declared.to_queue.QueueNote.TheVariants as q
use Rattle.mama_event.specs.declared.to_timers.TimersNote.TheVariants as t
use Rattle.mama_event.specs.Ports.{publishers_of, queues_of}
use Rattle.mama_rules_services.specs.Bridge.{BridgeEvent, BridgePut, to_publisher, to_queue, to_timers, is_settling, has_ending, live_subs, open_inboxes, ended, ended_inbox, answer, settle_begins, ending_comes, bridge_reaction}
use Rattle.mama_laws_genuine.proofs.Elements.{all_append, all_if, all_mapped}

-- it holds of the words that begin the settling, and of the last ones
pub record HoldsOfWords (P : BridgePut → Type 0) : Type 0 where
  pub settle : (n : ℕ) → P (to_publisher n p.Settle)
  pub publisher : (n : ℕ) → P (to_publisher n p.Fin)
  pub queue : (k : ℕ) → P (to_queue k q.Fin)
  pub timers : P (to_timers t.Fin)

pub all_reaction : (P : BridgePut → Type 0) → HoldsOfWords P → (shape : Shape) (before : List BridgeEvent) (sofar : List BridgePut) (e : BridgeEvent)
    → AllByRecursion P (flat_map (ended shape before sofar) (live_subs shape before))
    → AllByRecursion P (flat_map (ended_inbox shape before sofar) (open_inboxes shape before))
    → AllByRecursion P (answer shape before sofar e) → AllByRecursion P (bridge_reaction shape before sofar e)
all_reaction P words shape before sofar e subs_end inboxes_end answered =
    let subs : List BridgePut = flat_map (ended shape before sofar) (live_subs shape before) in
    let inboxes : List BridgePut = flat_map (ended_inbox shape before sofar) (open_inboxes shape before) in
    let queues : List BridgePut = map (λ (k : ℕ). to_queue k q.Fin) (numbers_below (queues_of shape)) in
    let publishers : List BridgePut = map (λ (n : ℕ). to_publisher n p.Fin) (numbers_below (publishers_of shape)) in
    let settling : AllByRecursion P (settle_begins shape before e) =
    all_if P (turns (is_settling shape) before e) (map (λ (n : ℕ). to_publisher n p.Settle) (numbers_below (publishers_of shape))) []
    (all_mapped P (λ (n : ℕ). to_publisher n p.Settle) words.settle (numbers_below (publishers_of shape))) tt in
    let ending : AllByRecursion P (ending_comes shape before sofar e) =
    all_if P (turns (has_ending shape) before e) (subs ++ inboxes ++ to_timers t.Fin ∷ [] ++ queues ++ publishers) []
    (all_append P (subs ++ inboxes ++ to_timers t.Fin ∷ [] ++ queues) publishers
    (all_append P (subs ++ inboxes ++ to_timers t.Fin ∷ []) queues
    (all_append P (subs ++ inboxes) (to_timers t.Fin ∷ []) (all_append P subs inboxes subs_end inboxes_end) (words.timers, tt))
    (all_mapped P (λ (k : ℕ). to_queue k q.Fin) words.queue (numbers_below (queues_of shape))))
    (all_mapped P (λ (n : ℕ). to_publisher n p.Fin) words.publisher (numbers_below (publishers_of shape))))
    tt in
    all_append P (answer shape before sofar e ++ settle_begins shape before e) (ending_comes shape before sofar e)
    (all_append P (answer shape before sofar e) (settle_begins shape before e) answered settling) ending
