use Rattle.std.specs.Prelude.{Option, is_some}
use Rattle.std.specs.Option.{option_map_or, option_and_then}
use Rattle.std.proofs.Common.{List, refl, ap, ◌∙◌, arith}
use Rattle.mama_dispatch.specs.Seats.{SeatData, seat_of}
use Rattle.mama_dispatch.proofs.ServeLemmas.{seat_new}
use Rattle.mama_dispatch.proofs.AppendLemmas.{appended_from}
use Rattle.mama_dispatch.proofs.seats.Seats.create.Goals as goal

pub call_put-requires-clause-here : goal.call_put-requires-clause-here
call_put-requires-clause-here g c =
    let opened = c.in-Ok.ensures.ok in
    ap (λ (s : Option SeatData). is_some (option_and_then (λ (x : SeatData). x.listener) s))
    (ap (λ (ss : List SeatData). seat_of c.args.object ss) opened.seats ∙ seat_new c.args.object c.args.self.now _ c.requires refl)

pub call_put-requires-clause-room : goal.call_put-requires-clause-room
call_put-requires-clause-room g c =
    let opened = c.in-Ok.ensures.ok in
    let room = ap (λ (s : Option SeatData). option_map_or (λ (x : SeatData). x.room) s 0) (ap (λ (ss : List SeatData). seat_of c.args.object ss) opened.seats ∙ seat_new c.args.object c.args.self.now _ c.requires refl) in
    omega (arith, room, opened.some)

pub returns-in-Ok-clause-appended : goal.returns-in-Ok-clause-appended
returns-in-Ok-clause-appended g c = appended_from _ _ _ c.reserve.ensures.items c.call_put.ensures.appended
