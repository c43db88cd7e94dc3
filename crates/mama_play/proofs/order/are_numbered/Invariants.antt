use Rattle.std.proofs.Common.{◌≡◌, map, take}
use Rattle.mama_journal.specs.Journal.{numbers_below}
use Rattle.mama_shown.specs.Seat.{actor_of}
use Rattle.mama_play.specs.Kinds.{numbered}
use Rattle.mama_play.proofs.order.are_numbered.Given as goal

abbrev pub invariant-loop-i : goal.invariant-loop-i
invariant-loop-i g l = map actor_of (take l.i l.seats) ≡ map (numbered l.kind) (numbers_below l.i)
