-- What holds of each seat.
use Rattle.std.specs.Prelude.{map, Some, if◌then◌else◌}
use Rattle.std.proofs.Common.{◌≡◌, true, false, List, [], ◌∷◌, ◌++◌, subst}
use Rattle.mama_event.specs.declared.ids.ObjectId.{ObjectId}
use Rattle.mama_event.specs.Object.{same_object}
use Rattle.mama_dispatch.specs.Seats.{SeatData, seat_of, at}
use Rattle.mama_dispatch.specs.Hearing.{AllSeats}

pub all_map : (P Q : SeatData → Type 0) (f : SeatData → SeatData) → ((s : SeatData) → P s → Q (f s)) → (ss : List SeatData) → AllSeats P ss → AllSeats Q (map f ss)
all_map P Q f step [] all = tt
all_map P Q f step (s ∷ ss) all = (step s all.0, all_map P Q f step ss all.1)

pub all_back : (P Q : SeatData → Type 0) (f : SeatData → SeatData) → ((s : SeatData) → Q (f s) → P s) → (ss : List SeatData) → AllSeats Q (map f ss) → AllSeats P ss
all_back P Q f step [] all = tt
all_back P Q f step (s ∷ ss) all = (step s all.0, all_back P Q f step ss all.1)

pub all_change : (P : SeatData → Type 0) (o : ObjectId) (f : SeatData → SeatData) → ((s : SeatData) → P s → P (f s)) → (ss : List SeatData) → AllSeats P ss → AllSeats P (map (at o f) ss)
all_change P o f step ss all =
    all_map P P (at o f) (λ s p. elim (same_object o s.object) as (λ t. P (if t then f s else s)) [ true ↦ step s p | false ↦ p ]) ss all

pub all_more : (P : SeatData → Type 0) (ss : List SeatData) (s : SeatData) → AllSeats P ss → P s → AllSeats P (ss ++ s ∷ [])
all_more P [] s all p = (p, tt)
all_more P (t ∷ ss) s all p = (all.0, all_more P ss s all.1 p)

-- what holds of each seat holds of the one that is found
pub all_found : (P : SeatData → Type 0) (o : ObjectId) (ss : List SeatData) (s : SeatData) → AllSeats P ss → seat_of o ss ≡ Some s → P s
all_found P o [] s all is = cc
all_found P o (t ∷ ss) s all is =
    elim (same_object o t.object) as (λ v. (if v then Some t else seat_of o ss) ≡ Some s → P s) [
      | true ↦ λ this. let here : t ≡ s = cc in subst P here all.0
      | false ↦ λ other. all_found P o ss s all.1 other
    ] is
