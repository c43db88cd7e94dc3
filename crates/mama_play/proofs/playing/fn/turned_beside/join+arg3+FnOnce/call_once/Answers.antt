use Rattle.std.proofs.Common.{rules}
use denote.Param.Send.{sendable}
use Rattle.mama_play.proofs.playing.fn.turned_beside.join+arg3+FnOnce.call_once.Goals as goal

-- the last of the many facts asked for lies deeper than a search looks by itself
pub join+arg3-requires : goal.join+arg3-requires
join+arg3-requires g c = search (rules, sendable) depth 40
