use Rattle.std.proofs.Common.{◌≡◌}
use Rattle.mama_work.proofs.worker.steps.Given as goal

abbrev pub invariant-loop : goal.invariant-loop
invariant-loop g l = record {
  sits : g.S.Seat.sits l.shared.script.now l.shared.hall.now l.seat;
  actor : g.S.Seat.acts l.seat ≡ g.S.Seat.acts l.initial.seat;
}
