use Rattle.std.proofs.Common.{[]}
use Rattle.mama_work.specs.Serving.{Follows, numbers_of}
use Rattle.mama_work.proofs.serving.serve_all.Given as goal

abbrev pub invariant-loop : goal.invariant-loop
invariant-loop g l = Follows l.initial.hand l.hand [] (numbers_of g.S.Seat.acts l.kept.items)
