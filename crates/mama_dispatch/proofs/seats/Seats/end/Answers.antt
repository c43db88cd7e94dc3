use Rattle.std.specs.Prelude.{map, is_some}
use Rattle.std.proofs.Common.{ap, ◌∙◌}
use Rattle.mama_dispatch.specs.Seats.{listener_in, with_room}
use Rattle.mama_dispatch.proofs.ServeLemmas.{listener_room, same_room, on_err}
use Rattle.mama_dispatch.proofs.AppendLemmas.{appended_from}
use Rattle.mama_dispatch.proofs.seats.Seats.end.Goals as goal

pub returns-in_err-reserve-2-clause-err : goal.returns-in_err-reserve-2-clause-err
returns-in_err-reserve-2-clause-err g c =
    on_err c.from_residual-in_err-reserve-2.result (ap (map (with_room 0)) c.reserve-2.ensures.seats ∙ same_room c.args.object.now _ c.args.self.now)

pub call_put-requires-clause-here : goal.call_put-requires-clause-here
call_put-requires-clause-here g c =
    ap is_some (ap (listener_in c.args.object.now) c.reserve-2.ensures.seats ∙ listener_room c.args.object.now _ c.args.self.now) ∙ c.requires

pub close-requires : goal.close-requires
close-requires g c = ap is_some c.call_put.ensures.once.here

pub returns-clause-appended : goal.returns-clause-appended
returns-clause-appended g c = appended_from _ _ _ c.reserve.ensures.items c.call_put.ensures.appended
