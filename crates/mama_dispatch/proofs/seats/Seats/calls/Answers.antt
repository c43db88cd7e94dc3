use Rattle.std.specs.Prelude.{Option}
use Rattle.std.specs.Option.{option_map_or}
use Rattle.std.proofs.Common.{[], ap, sym, ◌∙◌}
use Rattle.mama_event.specs.Listener.{told}
use Rattle.mama_dispatch.specs.Seats.{SeatData}
use Rattle.mama_dispatch.specs.Rows.{row_data}
use Rattle.mama_dispatch.proofs.PlaceLemmas.{row_there, none_seated}
use Rattle.mama_dispatch.proofs.seats.Seats.calls.Goals as goal

pub returns-in-Some : goal.returns-in-Some
returns-in-Some g c =
    c.as_slice.ensures.value
    ∙ sym (ap (λ (s : Option SeatData). option_map_or (λ (x : SeatData). x.calls) s []) (row_there (row_data (told g.L.Tagged.tagged g.L.Listener.calls g.L.Listener.heard g.L.Listener.given g.L.Listener.plan)) c.self.inside.rows.items c.in-Some.place c.index.result.now c.args.object.now c.args.self.now c.self.view_is c.in-Some.ensures.some c.index.ensures))

pub returns-in-None : goal.returns-in-None
returns-in-None g c = sym (ap (λ (s : Option SeatData). option_map_or (λ (x : SeatData). x.calls) s []) (none_seated c.args.object.now c.args.self.now c.in-None.ensures.none))
