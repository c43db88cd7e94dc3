use Rattle.std.specs.Prelude.{map, Option}
use Rattle.std.specs.Option.{option_map_or}
use Rattle.std.proofs.Common.{ℕ, ◌≤◌, refl, ap, sym, ◌∙◌, subst}
use Rattle.std.proofs.lemmas.Result.{on_ok_weaker}
use Rattle.mama_event.specs.Listener.{told}
use Rattle.mama_dispatch.specs.Seats.{SeatData, at, with_room}
use Rattle.mama_dispatch.specs.Rows.{row_data}
use Rattle.mama_dispatch.proofs.PlaceLemmas.{changed}
use Rattle.mama_dispatch.proofs.RoomLemmas.{held}
use Rattle.mama_dispatch.proofs.seats.Seats.reserve.Goals as goal

pub invariant_of-self : goal.invariant_of-self
invariant_of-self g c = held (row_data (told g.L.Tagged.tagged g.L.Listener.calls g.L.Listener.heard g.L.Listener.given g.L.Listener.plan)) c.self.inside.rows.items c.self.inside.places.keys c.live_place-place.result c.index_mut.result.now c.reserve_at.new.row c.args.object.now (with_room c.reserve_at.new.row.calls.room) c.args.self.now c.self.inside.blocks.promised c.reserve_at.new.blocks.promised (λ x. refl) (λ x small. small) c.self.view_is c.self.invariant c.live_place-place.ensures c.index_mut.ensures.value c.reserve_at.ensures.row c.reserve_at.ensures.promised

pub returns-clause-seats : goal.returns-clause-seats
returns-clause-seats g c =
    let change = changed (row_data (told g.L.Tagged.tagged g.L.Listener.calls g.L.Listener.heard g.L.Listener.given g.L.Listener.plan)) c.self.inside.rows.items c.self.inside.places.keys c.live_place-place.result c.index_mut.result.now c.reserve_at.new.row c.args.object.now (with_room c.reserve_at.new.row.calls.room) c.args.self.now (λ x. refl) (λ x small. small) c.self.view_is c.self.invariant.kept c.live_place-place.ensures c.index_mut.ensures.value c.reserve_at.ensures.row in
    change.seats ∙ ap (λ (n : ℕ). map (at c.args.object.now (with_room n)) c.args.self.now) (sym (ap (λ (s : Option SeatData). option_map_or (λ (x : SeatData). x.room) s 0) change.is))

pub returns-clause-ok : goal.returns-clause-ok
returns-clause-ok g c =
    let change = changed (row_data (told g.L.Tagged.tagged g.L.Listener.calls g.L.Listener.heard g.L.Listener.given g.L.Listener.plan)) c.self.inside.rows.items c.self.inside.places.keys c.live_place-place.result c.index_mut.result.now c.reserve_at.new.row c.args.object.now (with_room c.reserve_at.new.row.calls.room) c.args.self.now (λ x. refl) (λ x small. small) c.self.view_is c.self.invariant.kept c.live_place-place.ensures c.index_mut.ensures.value c.reserve_at.ensures.row in
    let is = ap (λ (s : Option SeatData). option_map_or (λ (x : SeatData). x.room) s 0) change.is in
    on_ok_weaker c.reserve_at.result (λ enough. subst (λ (n : ℕ). c.args.more ≤ n) (sym is) enough) c.reserve_at.ensures.ok
