-- inner: Which turn of a pass comes next, and what was done since the last step.
use Rattle.std.specs.Prelude.{◌≡◌, ◌≤◌}
use Rattle.mama_event.specs.declared.shape.Shape.{Shape}
use Rattle.mama_event.specs.Ports.{publishers_of, queues_of}
use Rattle.mama_rules_rounds.specs.Setting.{Setting}
use Rattle.mama_rules_rounds.specs.World.{World, in_turn, bridge_turn, timers_turn, publisher_turn, queue_turn}
use Rattle.mama_drive.specs.declared.turn.Turn.{Turn}
use Rattle.mama_drive.specs.declared.turn.Turn.TheVariants as turn
use Rattle.mama_drive.specs.Scene.{Scene, Moves, Passes, setting_in, world_in}
use Rattle.mama_drive.specs.Grown.{HaveGrown}

-- the turns of a pass that come before this one
abbrev pub turned : Setting → Turn → World → World
turned setting turn.Bridge w = w
turned setting turn.Timers w = bridge_turn setting w
turned setting (turn.Publisher n) w = in_turn (publisher_turn setting) n (timers_turn setting (bridge_turn setting w))
turned setting (turn.Queue n) w =
    in_turn (queue_turn setting) n (in_turn (publisher_turn setting) (publishers_of setting.shape) (timers_turn setting (bridge_turn setting w)))

-- an actor's number is at most how many there are
abbrev pub Counts : Shape → Turn → Type 0
Counts shape turn.Bridge = Unit {0}
Counts shape turn.Timers = Unit {0}
Counts shape (turn.Publisher n) = n ≤ publishers_of shape
Counts shape (turn.Queue n) = n ≤ queues_of shape

-- Since the first scene passes were made, and of one pass more the turns before this one.
pub record IsDraining (first : Scene) (t : Turn) (s : Scene) : Type 0 where
  pub mid : Scene
  pub passes : Passes first mid
  pub moves : Moves mid s (turned (setting_in mid) t (world_in mid))
  pub within : Counts mid.shape t

-- The passes go on from one turn to another.
pub record GoesOn (t : Turn) (s : Scene) (next : Turn) (after : Scene) : Type 0 where
  pub on : (first : Scene) → IsDraining first t s → IsDraining first next after
  pub clients : after.clients ≡ s.clients
  pub grown : HaveGrown (world_in s) (world_in after)
