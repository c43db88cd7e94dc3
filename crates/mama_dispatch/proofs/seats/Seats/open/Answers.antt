use Rattle.std.specs.Prelude.{map, not}
use Rattle.std.specs.List.{list_any}
use Rattle.std.proofs.Common.{List, [], ◌∷◌, ◌++◌, subst, ap, sym, ◌∙◌, arith}
use Rattle.mama_event.specs.Object.{same_object}
use Rattle.mama_dispatch.specs.Seats.{SeatData, has_seat}
use Rattle.mama_dispatch.proofs.PlaceLemmas.{list_any_map, kept_more, on_ok}
use Rattle.mama_dispatch.specs.Rows.{row_data, AreHeld}
use Rattle.mama_event.specs.Listener.{told}
use Rattle.std.proofs.lemmas.List.{map-append}
use Rattle.mama_dispatch.proofs.RoomLemmas.{rooms_more}
use Rattle.mama_dispatch.proofs.seats.Seats.open.Goals as goal

pub add_place-requires : goal.add_place-requires
add_place-requires g c =
    let o = c.args.object in
    ap (list_any (same_object o)) (c.self.invariant.kept.keys ∙ ap (map (λ (s : SeatData). s.object)) c.self.view_is)
    ∙ list_any_map o c.args.self.now ∙ c.requires

pub invariant_of-self-2 : goal.invariant_of-self-2
invariant_of-self-2 g c =
    let view = row_data (told g.L.Tagged.tagged g.L.Listener.calls g.L.Listener.heard g.L.Listener.given g.L.Listener.plan) in
    let rows = c.self.inside.rows.items in
    let row = c.new_row.result in
    let went = c.is_err-else-is_err-2.ensures.negation ∙ ap not c.if-is_err-3.false in
    let seen = ap (map view) (c.push_reserved.ensures.items ∙ ap (λ xs. xs ++ row ∷ []) c.reserve.ensures.items) ∙ map-append view rows (row ∷ []) in
    subst (λ (ss : List SeatData). AreHeld c.add_place.new.places.keys ss c.promise.new.self.promised) (sym seen)
    (record {
      kept = kept_more c.self.inside.places.keys c.add_place.new.places.keys c.args.object (map view rows) (view row) c.self.invariant.kept
          (on_ok c.add_place.result went c.add_place.ensures.ok) (ap (λ (s : SeatData). s.object) c.new_row.ensures.row)
          (ap (has_seat c.args.object) c.self.view_is ∙ c.requires) c.new_row.ensures.small;
      room = omega (arith, rooms_more (map view rows) (view row), c.self.invariant.room, ap (λ (s : SeatData). s.room) c.new_row.ensures.row, c.in-Ok.ensures.room, c.stock.ensures.promised, c.promise.ensures);
    })
