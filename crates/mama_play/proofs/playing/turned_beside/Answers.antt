use Rattle.std.proofs.Common.{rules}
use Rattle.mama_play.proofs.playing.turned_beside.Goals as goal

pub returns-clause-actors : goal.returns-clause-actors
returns-clause-actors g c = search (c.join-readers.ensures.second, c.in_ok-seats.is, c.in_ok-seats.was, rules)
