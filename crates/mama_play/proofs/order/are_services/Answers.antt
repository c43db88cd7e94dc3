use Rattle.std.proofs.Common.{sym, ◌∙◌, arith}
use Rattle.mama_edge.specs.declared.gate.GateActor.TheVariants as gate
use Rattle.mama_shown.specs.Seat.{actor_of}
use Rattle.mama_play.proofs.OrderLemmas.{two_are}
use Rattle.mama_play.proofs.order.are_services.Goals as goal

pub returns : goal.returns
returns g c = λ yes.
    two_are actor_of c.args.seats.now c.index-seats-0.result c.index-seats-1.result gate.Bridge gate.Timers (omega (arith, c.if-seats-ne2.false)) c.index-seats-0.is c.index-seats-1.is
    (sym c.actor.ensures ∙ c.is_bridge.ensures c.if-not-is_bridge.false) (sym c.actor-2.ensures ∙ c.is_timers.ensures yes)
