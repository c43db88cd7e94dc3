use Rattle.std.specs.Prelude.{Option}
use Rattle.std.specs.Option.{option_map_or}
use Rattle.std.proofs.Common.{◌++◌, refl, ap, sym, ◌∙◌}
use Rattle.std.proofs.lemmas.Result.{on_ok_weaker}
use Rattle.mama_dq.specs.Context.{ContextData, new_context}
use Rattle.mama_event.specs.declared.market.SubKind.TheVariants.{Basic}
use Rattle.mama_dq.specs.Strategy.{callbacks_of}
use Rattle.mama_event.specs.Listener.{told}
use Rattle.mama_event.specs.declared.shape.Strategy.TheVariants.{One}
use Rattle.mama_dispatch.specs.Seats.{SeatData, stepped, with_context}
use Rattle.mama_dispatch.specs.Rows.{row_data}
use Rattle.mama_dispatch.proofs.CacheBound.{stays_small}
use Rattle.mama_dispatch.proofs.PlaceLemmas.{changed, row_there}
use Rattle.mama_dispatch.proofs.RowLemmas.{row_small}
use Rattle.mama_dispatch.proofs.RoomLemmas.{held}
use Rattle.mama_dispatch.proofs.seats.Seats.step.Goals as goal

pub invariant_of-self : goal.invariant_of-self
invariant_of-self g c = held (row_data (told g.L.Tagged.tagged g.L.Listener.calls g.L.Listener.heard g.L.Listener.given g.L.Listener.plan)) c.self.inside.rows.items c.self.inside.places.keys c.live_place-place.result c.index_mut.result.now c.step_at.new.row c.args.object.now (with_context c.step_at.new.row.context) c.args.self.now c.self.inside.blocks.promised c.self.inside.blocks.promised (λ x. refl) (λ x small. c.step_at.ensures.small (row_small (told g.L.Tagged.tagged g.L.Listener.calls g.L.Listener.heard g.L.Listener.given g.L.Listener.plan) c.self.inside.rows.items c.self.inside.places.keys c.live_place-place.result c.index_mut.result.now c.args.object.now c.args.self.now c.self.view_is c.self.invariant.kept c.live_place-place.ensures c.index_mut.ensures.value)) c.self.view_is c.self.invariant c.live_place-place.ensures c.index_mut.ensures.value c.step_at.ensures.others refl

pub returns-clause-ok : goal.returns-clause-ok
returns-clause-ok g c = on_ok_weaker c.step_at.result (λ row. (changed (row_data (told g.L.Tagged.tagged g.L.Listener.calls g.L.Listener.heard g.L.Listener.given g.L.Listener.plan)) c.self.inside.rows.items c.self.inside.places.keys c.live_place-place.result c.index_mut.result.now c.step_at.new.row c.args.object.now (stepped c.args.msg.now) c.args.self.now (λ x. refl) (λ x small. stays_small x.context c.args.msg.now small) c.self.view_is c.self.invariant.kept c.live_place-place.ensures c.index_mut.ensures.value row).seats) c.step_at.ensures.row

pub returns-clause-pending : goal.returns-clause-pending
returns-clause-pending g c =
    let was = ap (λ (s : Option SeatData). option_map_or (λ (x : SeatData). x.context) s (new_context One Basic 0)) (row_there (row_data (told g.L.Tagged.tagged g.L.Listener.calls g.L.Listener.heard g.L.Listener.given g.L.Listener.plan)) c.self.inside.rows.items c.live_place-place.result c.index_mut.result.now c.args.object.now c.args.self.now c.self.view_is c.live_place-place.ensures c.index_mut.ensures.value) in
    on_ok_weaker c.step_at.result (λ more. more ∙ ap (λ (x : ContextData). c.args.pending.now ++ callbacks_of x c.args.msg.now) (sym was)) c.step_at.ensures.pending
