-- believed: The ports by which a client or a queue puts, and what it has put by them.
use Rattle.std.specs.Prelude.{◌≡◌, List, ◌++◌}
use Rattle.std.specs.List.{flat_map}
use Rattle.mama_event.specs.declared.to_bridge.BridgeNote.{BridgeNote}
use Rattle.mama_event.specs.declared.to_timers.TimersNote.{TimersNote}
use Rattle.mama_event.specs.ToBridge as bridge
use Rattle.mama_event.specs.ToTimers as timers
use Rattle.mama_event.specs.Lawful.{IsLawful}
use Rattle.mama_rules_queue.specs.Queue.{QueuePut}
use Rattle.mama_rules_rounds.specs.Client.{bridge_part, timers_part}
use Rattle.mama_lane.specs.Values.{PortValue}

-- a port on the bridge's lane, and one on the timer service's
pub record OutletsValue : Type 0 where
  pub to_bridge : PortValue BridgeNote
  pub to_timers : PortValue TimersNote

-- the same ports, where they have put these lists
abbrev pub with_put : OutletsValue → List BridgeNote → List TimersNote → OutletsValue
with_put ports on_bridge on_timers = record {
  to_bridge = record ports.to_bridge { put = on_bridge };
  to_timers = record ports.to_timers { put = on_timers };
}

-- the ports after each has put its part of some puts
abbrev pub after_puts : OutletsValue → List QueuePut → OutletsValue
after_puts ports puts = with_put ports (ports.to_bridge.put ++ flat_map bridge_part puts) (ports.to_timers.put ++ flat_map timers_part puts)

-- what was put by each port, and then its part of what is left, is its part of the whole
pub record HasPut (ports : OutletsValue) (left whole : List QueuePut) : Type 0 where
  pub to_bridge : ports.to_bridge.put ++ flat_map bridge_part left ≡ flat_map bridge_part whole
  pub to_timers : ports.to_timers.put ++ flat_map timers_part left ≡ flat_map timers_part whole

-- each port may put its part of what is left
pub record MayPut (ports : OutletsValue) (left : List QueuePut) : Type 0 where
  pub to_bridge : IsLawful bridge.is_last (bridge.fits ports.to_bridge.bounds) (ports.to_bridge.put ++ flat_map bridge_part left)
  pub to_timers : IsLawful timers.is_last (timers.fits ports.to_timers.bounds) (ports.to_timers.put ++ flat_map timers_part left)
