use Rattle.std.specs.Prelude.{map, Option}
use Rattle.std.specs.Option.{option_and_then, option_map_or, option_map}
use Rattle.std.proofs.Common.{refl, ap, sym, ◌∙◌, arith}
use Rattle.mama_event.specs.Listener.{told, ListenerData}
use Rattle.mama_dispatch.specs.Seats.{SeatData, at, called_with}
use Rattle.mama_dispatch.specs.Rows.{row_data}
use Rattle.mama_dispatch.proofs.PlaceLemmas.{changed, row_there, heard_same}
use Rattle.mama_dispatch.proofs.RowLemmas.{row_listens}
use Rattle.mama_dispatch.proofs.RoomLemmas.{held, room_is, room_promised}
use Rattle.mama_dispatch.proofs.seats.Seats.make.Goals as goal

pub make_at-requires-clause-here : goal.make_at-requires-clause-here
make_at-requires-clause-here g c = row_listens (told g.L.Tagged.tagged g.L.Listener.calls g.L.Listener.heard g.L.Listener.given g.L.Listener.plan) c.self.inside.rows.items c.live_place-place.result c.index_mut.result.now c.args.object.now c.args.self.now c.self.view_is c.live_place-place.ensures c.index_mut.ensures.value c.requires.here

pub make_at-requires-clause-room : goal.make_at-requires-clause-room
make_at-requires-clause-room g c = omega (arith, room_is (row_data (told g.L.Tagged.tagged g.L.Listener.calls g.L.Listener.heard g.L.Listener.given g.L.Listener.plan)) c.self.inside.rows.items c.live_place-place.result c.index_mut.result.now c.args.object.now c.args.self.now c.self.view_is c.live_place-place.ensures c.index_mut.ensures.value, c.requires.room)

pub make_at-requires-clause-promised : goal.make_at-requires-clause-promised
make_at-requires-clause-promised g c =
    omega (
      arith,
      c.requires.room,
      room_is (row_data (told g.L.Tagged.tagged g.L.Listener.calls g.L.Listener.heard g.L.Listener.given g.L.Listener.plan)) c.self.inside.rows.items c.live_place-place.result c.index_mut.result.now c.args.object.now c.args.self.now c.self.view_is c.live_place-place.ensures c.index_mut.ensures.value,
      room_promised (row_data (told g.L.Tagged.tagged g.L.Listener.calls g.L.Listener.heard g.L.Listener.given g.L.Listener.plan)) c.self.inside.rows.items c.self.inside.places.keys c.live_place-place.result c.index_mut.result.now c.args.object.now c.args.self.now c.self.inside.blocks.promised c.self.view_is c.self.invariant c.live_place-place.ensures c.index_mut.ensures.value,
    )

pub invariant_of-self : goal.invariant_of-self
invariant_of-self g c = held (row_data (told g.L.Tagged.tagged g.L.Listener.calls g.L.Listener.heard g.L.Listener.given g.L.Listener.plan)) c.self.inside.rows.items c.self.inside.places.keys c.live_place-place.result c.index_mut.result.now c.make_at.new.row c.args.object.now (called_with c.args.call c.make_at.result (option_map (told g.L.Tagged.tagged g.L.Listener.calls g.L.Listener.heard g.L.Listener.given g.L.Listener.plan) c.make_at.new.row.listener)) c.args.self.now c.self.inside.blocks.promised c.make_at.new.blocks.promised (λ x. refl) (λ x small. small) c.self.view_is c.self.invariant c.live_place-place.ensures c.index_mut.ensures.value c.make_at.ensures.row (omega (arith, c.make_at.ensures.promised, c.requires.room, room_is (row_data (told g.L.Tagged.tagged g.L.Listener.calls g.L.Listener.heard g.L.Listener.given g.L.Listener.plan)) c.self.inside.rows.items c.live_place-place.result c.index_mut.result.now c.args.object.now c.args.self.now c.self.view_is c.live_place-place.ensures c.index_mut.ensures.value))

pub returns-clause-heard : goal.returns-clause-heard
returns-clause-heard g c =
    let change = changed (row_data (told g.L.Tagged.tagged g.L.Listener.calls g.L.Listener.heard g.L.Listener.given g.L.Listener.plan)) c.self.inside.rows.items c.self.inside.places.keys c.live_place-place.result c.index_mut.result.now c.make_at.new.row c.args.object.now (called_with c.args.call c.make_at.result (option_map (told g.L.Tagged.tagged g.L.Listener.calls g.L.Listener.heard g.L.Listener.given g.L.Listener.plan) c.make_at.new.row.listener)) c.args.self.now (λ x. refl) (λ x small. small) c.self.view_is c.self.invariant.kept c.live_place-place.ensures c.index_mut.ensures.value c.make_at.ensures.row in
    let before = ap (λ (s : Option SeatData). option_and_then (λ (x : SeatData). x.listener) s) change.was in
    let after = ap (λ (s : Option SeatData). option_and_then (λ (x : SeatData). x.listener) s) change.is in
    heard_same c.args.call _ _ _ _ c.make_at.result (sym before) (sym after) c.make_at.ensures.heard

pub returns-clause-seats : goal.returns-clause-seats
returns-clause-seats g c =
    let change = changed (row_data (told g.L.Tagged.tagged g.L.Listener.calls g.L.Listener.heard g.L.Listener.given g.L.Listener.plan)) c.self.inside.rows.items c.self.inside.places.keys c.live_place-place.result c.index_mut.result.now c.make_at.new.row c.args.object.now (called_with c.args.call c.make_at.result (option_map (told g.L.Tagged.tagged g.L.Listener.calls g.L.Listener.heard g.L.Listener.given g.L.Listener.plan) c.make_at.new.row.listener)) c.args.self.now (λ x. refl) (λ x small. small) c.self.view_is c.self.invariant.kept c.live_place-place.ensures c.index_mut.ensures.value c.make_at.ensures.row in
    let after = ap (λ (s : Option SeatData). option_and_then (λ (x : SeatData). x.listener) s) change.is in
    change.seats ∙ ap (λ (l : Option ListenerData). map (at c.args.object.now (called_with c.args.call c.make_at.result l)) c.args.self.now) (sym after)
