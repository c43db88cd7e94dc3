-- The room of all seats, and the blocks that it is promised.
use Rattle.std.specs.Prelude.{map, Option, Some, None, if◌then◌else◌}
use Rattle.std.specs.Option.{option_map_or}
use Rattle.std.proofs.Common.{◌≡◌, ℕ, ◌+◌, ◌≤◌, true, false, List, [], ◌∷◌, ◌++◌, get_or, refl, ap, sym, ◌∙◌, subst, arith}
use Rattle.std.proofs.Math.ListN.{set}
use Rattle.mama_event.specs.declared.ids.ObjectId.{ObjectId}
use Rattle.mama_event.specs.Object.{same_object}
use Rattle.mama_dispatch.specs.Seats.{SeatData, has_seat, AreApart, seat_of, room_in, at, with_room}
use Rattle.mama_dispatch.specs.Places.{IsPlace}
use Rattle.mama_dispatch.specs.Rows.{IsSmall, rooms, AreHeld}
use Rattle.mama_dispatch.proofs.PlaceLemmas.{none_changed, changed, row_there}
use Rattle.mama_dispatch.proofs.DeedLemmas.{same_object-true}

-- a change of one seat changes the room of all by as much
pub rooms_changed : (o : ObjectId) (f : SeatData → SeatData) (ss : List SeatData) (s : SeatData) → AreApart ss → seat_of o ss ≡ Some s
    → rooms (map (at o f) ss) + s.room ≡ rooms ss + (f s).room
rooms_changed o f [] s apart is = cc
rooms_changed o f (t ∷ ss) s apart is =
    elim (same_object o t.object) as
    (λ b. same_object o t.object ≡ b → (if b then Some t else seat_of o ss) ≡ Some s
    → ((if b then f t else t).room + rooms (map (at o f) ss)) + s.room ≡ (t.room + rooms ss) + (f s).room) [
      | true ↦ λ this is.
          let here : t ≡ s = cc in
          let alone : has_seat o ss ≡ false = ap (λ (x : ObjectId). has_seat x ss) (same_object-true o t.object this) ∙ apart.0 in
          omega (arith, ap rooms (none_changed o f ss alone), ap (λ (x : SeatData). x.room) here, ap (λ (x : SeatData). (f x).room) here)
      | false ↦ λ other is. omega (arith, rooms_changed o f ss s apart.1 is)
    ] refl is

-- a seat more
pub rooms_more : (ss : List SeatData) (s : SeatData) → rooms (ss ++ s ∷ []) ≡ rooms ss + s.room
rooms_more [] s = omega arith
rooms_more (t ∷ ss) s = omega (arith, rooms_more ss s)

-- the room of a row is that of its object
pub room_is : {R : Type 0} (view : R → SeatData) (rows : List R) (i : ℕ) (r : R) (o : ObjectId) (ss : List SeatData)
    → map view rows ≡ ss → IsPlace o i ss → r ≡ get_or rows i r → room_in o ss ≡ (view r).room
room_is view rows i r o ss seen place here = ap (λ (s : Option SeatData). option_map_or (λ (x : SeatData). x.room) s 0) (row_there view rows i r o ss seen place here)

-- the room of a row was promised
pub room_promised : {R : Type 0} (view : R → SeatData) (rows : List R) (index : List ObjectId) (i : ℕ) (r : R) (o : ObjectId) (ss : List SeatData) (promised : ℕ)
    → map view rows ≡ ss → AreHeld index (map view rows) promised → IsPlace o i ss → r ≡ get_or rows i r → (view r).room ≤ promised
room_promised view rows index i r o ss promised seen all place here =
    omega (arith, ap rooms (sym seen) ∙ all.room, rooms_changed o (with_room 0) ss (view r) (subst AreApart seen all.kept.apart) (row_there view rows i r o ss seen place here))

-- where a row changes, and what is promised with its room, all is promised as before
pub held : {R : Type 0} (view : R → SeatData) (rows : List R) (index : List ObjectId) (i : ℕ) (r q : R) (o : ObjectId) (f : SeatData → SeatData) (ss : List SeatData) (promised after : ℕ)
    → ((x : SeatData) → (f x).object ≡ x.object) → ((x : SeatData) → IsSmall x.context.cache → IsSmall (f x).context.cache)
    → map view rows ≡ ss → AreHeld index (map view rows) promised → IsPlace o i ss → r ≡ get_or rows i r → view q ≡ f (view r)
    → after + (view r).room ≡ promised + (f (view r)).room → AreHeld index (map view (set rows i q)) after
held view rows index i r q o f ss promised after objects caches seen all place here change count =
    let it = changed view rows index i r q o f ss objects caches seen all.kept place here change in
    record {
      kept = it.kept;
      room = omega (arith, ap rooms it.seats, ap rooms (sym seen) ∙ all.room, count, rooms_changed o f ss (view r) (subst AreApart seen all.kept.apart) it.was);
    }
