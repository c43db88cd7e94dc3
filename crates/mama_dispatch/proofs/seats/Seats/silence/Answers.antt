use Rattle.std.proofs.Common.{refl, sym}
use Rattle.mama_event.specs.Listener.{told}
use Rattle.mama_dispatch.specs.Seats.{muted_where_live}
use Rattle.mama_dispatch.specs.Rows.{row_data}
use Rattle.mama_dispatch.proofs.PlaceLemmas.{changed, none_changed}
use Rattle.mama_dispatch.proofs.RoomLemmas.{held}
use Rattle.mama_dispatch.proofs.seats.Seats.silence.Goals as goal

pub invariant_of-self : goal.invariant_of-self
invariant_of-self g c = held (row_data (told g.L.Tagged.tagged g.L.Listener.calls g.L.Listener.heard g.L.Listener.given g.L.Listener.plan)) c.self.inside.rows.items c.self.inside.places.keys c.in-Some.place c.index_mut.result.now c.mute_at.new.row c.args.object.now (muted_where_live) c.args.self.now c.self.inside.blocks.promised c.self.inside.blocks.promised (λ x. refl) (λ x small. small) c.self.view_is c.self.invariant c.in-Some.ensures.some c.index_mut.ensures.value c.mute_at.ensures refl

pub returns-in-Some : goal.returns-in-Some
returns-in-Some g c = (changed (row_data (told g.L.Tagged.tagged g.L.Listener.calls g.L.Listener.heard g.L.Listener.given g.L.Listener.plan)) c.self.inside.rows.items c.self.inside.places.keys c.in-Some.place c.index_mut.result.now c.mute_at.new.row c.args.object.now (muted_where_live) c.args.self.now (λ x. refl) (λ x small. small) c.self.view_is c.self.invariant.kept c.in-Some.ensures.some c.index_mut.ensures.value c.mute_at.ensures).seats

pub returns-in-None : goal.returns-in-None
returns-in-None g c = sym (none_changed c.args.object.now muted_where_live c.args.self.now c.in-None.ensures.none)
