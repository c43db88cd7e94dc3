use Rattle.std.specs.Prelude.{Option, None}
use Rattle.std.specs.Option.{option_and_then, option_map}
use Rattle.std.proofs.Common.{refl, ap, ◌∙◌}
use Rattle.mama_event.specs.Listener.{told}
use Rattle.mama_dispatch.specs.Seats.{SeatData, with_listener}
use Rattle.mama_dispatch.specs.Rows.{row_data}
use Rattle.mama_dispatch.proofs.PlaceLemmas.{changed, row_there}
use Rattle.mama_dispatch.proofs.RowLemmas.{row_listens}
use Rattle.mama_dispatch.proofs.RoomLemmas.{held}
use Rattle.mama_dispatch.proofs.seats.Seats.close.Goals as goal

pub invariant_of-self : goal.invariant_of-self
invariant_of-self g c = held (row_data (told g.L.Tagged.tagged g.L.Listener.calls g.L.Listener.heard g.L.Listener.given g.L.Listener.plan)) c.self.inside.rows.items c.self.inside.places.keys c.live_place-place.result c.index_mut.result.now c.take_at.new.row c.args.object.now (with_listener None) c.args.self.now c.self.inside.blocks.promised c.self.inside.blocks.promised (λ x. refl) (λ x small. small) c.self.view_is c.self.invariant c.live_place-place.ensures c.index_mut.ensures.value c.take_at.ensures.row refl

pub take_at-requires : goal.take_at-requires
take_at-requires g c = row_listens (told g.L.Tagged.tagged g.L.Listener.calls g.L.Listener.heard g.L.Listener.given g.L.Listener.plan) c.self.inside.rows.items c.live_place-place.result c.index_mut.result.now c.args.object.now c.args.self.now c.self.view_is c.live_place-place.ensures c.index_mut.ensures.value c.requires

pub returns-clause-listener : goal.returns-clause-listener
returns-clause-listener g c =
    ap (λ (s : Option SeatData). option_and_then (λ (x : SeatData). x.listener) s) (row_there (row_data (told g.L.Tagged.tagged g.L.Listener.calls g.L.Listener.heard g.L.Listener.given g.L.Listener.plan)) c.self.inside.rows.items c.live_place-place.result c.index_mut.result.now c.args.object.now c.args.self.now c.self.view_is c.live_place-place.ensures c.index_mut.ensures.value)
    ∙ ap (option_map (told g.L.Tagged.tagged g.L.Listener.calls g.L.Listener.heard g.L.Listener.given g.L.Listener.plan)) c.take_at.ensures.listener

pub returns-clause-seats : goal.returns-clause-seats
returns-clause-seats g c = (changed (row_data (told g.L.Tagged.tagged g.L.Listener.calls g.L.Listener.heard g.L.Listener.given g.L.Listener.plan)) c.self.inside.rows.items c.self.inside.places.keys c.live_place-place.result c.index_mut.result.now c.take_at.new.row c.args.object.now (with_listener None) c.args.self.now (λ x. refl) (λ x small. small) c.self.view_is c.self.invariant.kept c.live_place-place.ensures c.index_mut.ensures.value c.take_at.ensures.row).seats
