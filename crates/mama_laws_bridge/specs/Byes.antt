-- believed: When every queue has said its last to the bridge.
use Rattle.std.specs.Prelude.{Bool, List}
use Rattle.std.specs.List.{list_any}
use Rattle.mama_journal.specs.Journal.{all_below}
use Rattle.mama_event.specs.declared.shape.Shape.{Shape}
use Rattle.mama_event.specs.Ports.{queues_of}
use Rattle.mama_rules_services.specs.Bridge.{BridgeEvent, ends_queue}

-- every queue has said its last
abbrev pub all_left : Shape → List BridgeEvent → Bool
all_left shape es = all_below (queues_of shape) (λ k. list_any (ends_queue k) es)
