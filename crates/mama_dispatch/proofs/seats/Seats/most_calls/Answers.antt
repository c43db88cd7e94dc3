use Rattle.std.specs.Prelude.{length, Option}
use Rattle.std.specs.Option.{option_map_or}
use Rattle.std.proofs.Common.{◌≤◌, ap, sym, subst}
use Rattle.mama_dq.specs.Context.{ContextData, new_context}
use Rattle.mama_event.specs.declared.market.SubKind.TheVariants.{Basic}
use Rattle.mama_dq.specs.Strategy.{callbacks_of}
use Rattle.mama_event.specs.declared.market.MarketMsg.{MarketMsg}
use Rattle.mama_event.specs.Listener.{told}
use Rattle.mama_event.specs.declared.shape.Strategy.TheVariants.{One}
use Rattle.mama_dispatch.specs.Seats.{SeatData}
use Rattle.mama_dispatch.specs.Rows.{row_data}
use Rattle.mama_dispatch.proofs.PlaceLemmas.{row_there}
use Rattle.mama_dispatch.proofs.RowLemmas.{row_small}
use Rattle.mama_dispatch.proofs.seats.Seats.most_calls.Goals as goal

pub most_calls-requires : goal.most_calls-requires
most_calls-requires g c = row_small (told g.L.Tagged.tagged g.L.Listener.calls g.L.Listener.heard g.L.Listener.given g.L.Listener.plan) c.self.inside.rows.items c.self.inside.places.keys c.live_place-place.result c.index.result.now c.args.object.now c.args.self.now c.self.view_is c.self.invariant.kept c.live_place-place.ensures c.index.ensures

pub returns-clause-calls : goal.returns-clause-calls
returns-clause-calls g c = subst (λ (x : ContextData). (msg : MarketMsg) → length (callbacks_of x msg) ≤ c.most_calls.result)
    (sym (ap (λ (s : Option SeatData). option_map_or (λ (x : SeatData). x.context) s (new_context One Basic 0))
    (row_there (row_data (told g.L.Tagged.tagged g.L.Listener.calls g.L.Listener.heard g.L.Listener.given g.L.Listener.plan)) c.self.inside.rows.items c.live_place-place.result c.index.result.now c.args.object.now c.args.self.now c.self.view_is c.live_place-place.ensures c.index.ensures)))
    c.most_calls.ensures.calls
