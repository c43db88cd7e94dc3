use Rattle.std.specs.Prelude.{map}
use Rattle.std.proofs.Common.{refl, ap, ◌∙◌, arith}
use Rattle.mama_event.specs.Listener.{told}
use Rattle.mama_dispatch.specs.Seats.{with_room}
use Rattle.mama_dispatch.specs.Rows.{row_data}
use Rattle.mama_dispatch.proofs.PlaceLemmas.{changed}
use Rattle.mama_dispatch.proofs.RoomLemmas.{held, room_promised}
use Rattle.mama_dispatch.proofs.ServeLemmas.{same_room}
use Rattle.mama_dispatch.proofs.seats.Seats.settle.Goals as goal

pub release-requires : goal.release-requires
release-requires g c =
    omega (
      arith,
      c.settle_at-left.ensures.room,
      room_promised (row_data (told g.L.Tagged.tagged g.L.Listener.calls g.L.Listener.heard g.L.Listener.given g.L.Listener.plan)) c.self.inside.rows.items c.self.inside.places.keys c.in-Some-place.place c.index_mut.result.now c.in-Some.object c.args.self.now c.self.inside.blocks.promised c.self.view_is c.self.invariant c.in-Some-place.ensures.some c.index_mut.ensures.value,
    )

pub invariant_of-self : goal.invariant_of-self
invariant_of-self g c =
    held (row_data (told g.L.Tagged.tagged g.L.Listener.calls g.L.Listener.heard g.L.Listener.given g.L.Listener.plan)) c.self.inside.rows.items c.self.inside.places.keys c.in-Some-place.place c.index_mut.result.now c.settle_at-left.new.row c.in-Some.object (with_room 0) c.args.self.now c.self.inside.blocks.promised c.release.new.self.promised (λ x. refl) (λ x small. small) c.self.view_is c.self.invariant c.in-Some-place.ensures.some c.index_mut.ensures.value c.settle_at-left.ensures.row
    (omega (arith, c.release.ensures, c.settle_at-left.ensures.room))

pub returns-in-Some-place : goal.returns-in-Some-place
returns-in-Some-place g c =
    ap (map (with_room 0)) (changed (row_data (told g.L.Tagged.tagged g.L.Listener.calls g.L.Listener.heard g.L.Listener.given g.L.Listener.plan)) c.self.inside.rows.items c.self.inside.places.keys c.in-Some-place.place c.index_mut.result.now c.settle_at-left.new.row c.in-Some.object (with_room 0) c.args.self.now (λ x. refl) (λ x small. small) c.self.view_is c.self.invariant.kept c.in-Some-place.ensures.some c.index_mut.ensures.value c.settle_at-left.ensures.row).seats
    ∙ same_room c.in-Some.object 0 c.args.self.now
