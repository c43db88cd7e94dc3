use Rattle.std.specs.Prelude.{Option, IfOk}
use Rattle.std.specs.Option.{option_map_or}
use Rattle.std.proofs.Common.{◌≡◌, ap, sym, subst}
use Rattle.mama_event.specs.declared.market.SubKind.TheVariants.{Basic}
use Rattle.mama_dq.specs.Context.{ContextData, new_context}
use Rattle.mama_event.specs.Listener.{told}
use Rattle.mama_event.specs.declared.shape.Strategy.TheVariants.{One}
use Rattle.mama_dispatch.specs.Seats.{SeatData}
use Rattle.mama_dispatch.specs.Rows.{row_data}
use Rattle.mama_dispatch.specs.Journals.{image_in}
use Rattle.mama_dispatch.proofs.PlaceLemmas.{row_there, none_seated}
use Rattle.mama_dispatch.proofs.seats.Seats.image.Goals as goal

pub returns-in-Some : goal.returns-in-Some
returns-in-Some g c =
    subst (λ (x : ContextData). IfOk c.image_of.result (λ found. found ≡ image_in x))
    (sym (ap (λ (s : Option SeatData). option_map_or (λ (x : SeatData). x.context) s (new_context One Basic 0)) (row_there (row_data (told g.L.Tagged.tagged g.L.Listener.calls g.L.Listener.heard g.L.Listener.given g.L.Listener.plan)) c.self.inside.rows.items c.in-Some.place c.index.result.now c.args.object.now c.args.self.now c.self.view_is c.in-Some.ensures.some c.index.ensures)))
    c.image_of.ensures

pub returns-in-None : goal.returns-in-None
returns-in-None g c = sym (ap (λ (s : Option SeatData). image_in (option_map_or (λ (x : SeatData). x.context) s (new_context One Basic 0))) (none_seated c.args.object.now c.args.self.now c.in-None.ensures.none))
