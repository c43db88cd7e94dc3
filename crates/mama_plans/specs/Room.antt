-- inner: The numbers that a client has left for its objects.
use Rattle.std.specs.Prelude.{◌+◌, ◌^◌, ◌<◌, ◌≤◌, List}
use Rattle.mama_script.specs.declared.client.ClientLine.{ClientLine}
use Rattle.mama_script.specs.Within.{subs_in, objects_in}
use Rattle.mama_plans.specs.declared.names.Names.{Names}

-- a number is left for one more object of each kind, and for one more turn
pub record HasRoom (n : Names) : Type 0 where
  pub subs : n.subs + 1 < 2 ^ 32
  pub timers : n.timers + 1 < 2 ^ 32
  pub inboxes : n.inboxes + 1 < 2 ^ 32
  pub turns : n.turns + 1 < 2 ^ 32

-- with what some lines make more, a client makes no more than an accepted script lets it; it takes a turn only for an object
pub record HasRoomFor (lines : List ClientLine) (n : Names) : Type 0 where
  pub subs : n.subs + subs_in lines ≤ 10000
  pub objects : n.timers + n.inboxes + objects_in lines ≤ 1024
  pub turns : n.turns ≤ n.subs + n.timers + n.inboxes

-- a client makes no more than an accepted script lets it
pub record MakesFew (lines : List ClientLine) : Type 0 where
  pub subs : subs_in lines ≤ 10000
  pub objects : objects_in lines ≤ 1024
