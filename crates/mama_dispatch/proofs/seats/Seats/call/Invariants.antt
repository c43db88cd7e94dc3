use Rattle.std.proofs.Common.{◌≡◌, map, take}
use Rattle.mama_dispatch.specs.Seats.{muted_by_all}
use Rattle.mama_dispatch.proofs.seats.Seats.call.Given as goal

abbrev pub invariant-loop-order : goal.invariant-loop-order
invariant-loop-order g l = l.self ≡ map (muted_by_all (take l.order-index l.order-items)) l.initial.self
