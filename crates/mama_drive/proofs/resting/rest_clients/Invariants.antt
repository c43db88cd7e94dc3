use Rattle.std.proofs.Common.{◌≡◌, length}
use Rattle.mama_drive.specs.Scene.{rested_stand}
use Rattle.mama_drive.proofs.RestLemmas.{upto}
use Rattle.mama_drive.proofs.resting.rest_clients.Given as goal

abbrev pub invariant-loop-i : goal.invariant-loop-i
invariant-loop-i l = record {
  rested : l.seats.items ≡ upto (rested_stand l.steps) l.i l.fn.seats.items;
  counted : length l.seats.items ≡ length l.fn.seats.items;
}
