-- inner: The actors of a kind.
use Rattle.std.specs.Prelude.{ℕ}
use Rattle.mama_edge.specs.declared.gate.GateActor.{GateActor}
use Rattle.mama_edge.specs.declared.gate.GateActor.TheVariants as gate
use Rattle.mama_play.specs.declared.order.Kind.{Kind}
use Rattle.mama_play.specs.declared.order.Kind.TheVariants as kinds

-- the actor of this kind with this number
abbrev pub numbered : Kind → ℕ → GateActor
numbered kinds.Client n = gate.Client n
numbered kinds.Publisher n = gate.Publisher n
numbered kinds.Queue n = gate.Queue n
