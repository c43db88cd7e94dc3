-- inner: What a queue put, by its way.
use Rattle.std.specs.Prelude.{ℕ, List, ◌++◌}
use Rattle.std.specs.List.{flat_map}
use Rattle.mama_check_order.specs.Numbered.{from_entry}
use Rattle.mama_event.specs.declared.to_bridge.BridgeNote.{BridgeNote}
use Rattle.mama_event.specs.declared.to_timers.TimersNote.{TimersNote}
use Rattle.mama_rules_queue.specs.Queue.{QueuePut}
use Rattle.mama_rules_rounds.specs.Client.{bridge_part, timers_part}

-- what was put to the bridge and to the timer service, each event with the number of the entry that put it
pub record PutData : Type 0 where
  pub bridge : List (ℕ × BridgeNote)
  pub timers : List (ℕ × TimersNote)

-- an entry put some events more
abbrev pub put_all : ℕ → List QueuePut → PutData → PutData
put_all n puts p = record {
  bridge = p.bridge ++ from_entry n (flat_map bridge_part puts);
  timers = p.timers ++ from_entry n (flat_map timers_part puts);
}
