-- What rows are of the seats that they stand for.
use Rattle.std.specs.Prelude.{map, Option, Some, None, is_some, IfSome, IfNone}
use Rattle.std.specs.Option.{option_map, option_and_then}
use Rattle.std.proofs.Common.{◌≡◌, ℕ, true, false, List, [], ◌∷◌, get_or, refl, ap, sym, ◌∙◌, subst, arith}
use Rattle.mama_event.specs.declared.ids.ObjectId.{ObjectId}
use Rattle.mama_event.specs.Listener.{ListenerData}
use Rattle.mama_dispatch.specs.declared.row.Row.{Row}
use Rattle.mama_dispatch.specs.Seats.{SeatData, has_seat, listener_in}
use Rattle.mama_dispatch.specs.Places.{IsPlace}
use Rattle.mama_dispatch.specs.Rows.{row_data, IsSmall, AreSmall, AreKept}
use Rattle.mama_dispatch.specs.Keeping.{AreFew}
use Rattle.mama_dispatch.proofs.AllLemmas.{all_found}
use Rattle.mama_dispatch.proofs.PlaceLemmas.{none_seated, seat_at, row_there}

-- a list in memory has no more notes than a listener counts
pub rows_few : {L : Type 0} (view : L → ListenerData) (rows : List (Row L)) → AreFew (map (row_data view) rows)
rows_few view [] = tt
rows_few view (r ∷ rows) = (omega (arith, r.calls.notes.ok.0, r.calls.notes.ok.1, r.calls.notes.small), rows_few view rows)

pub some_map : {A B : Type 0} (f : A → B) (x : Option A) → is_some (option_map f x) ≡ is_some x
some_map f None = refl
some_map f (Some a) = refl

-- a place that is found is that of a seat
pub has_at : (o : ObjectId) (place : Option ℕ) (ss : List SeatData) → IfSome place (λ i. IsPlace o i ss) → IfNone place (has_seat o ss ≡ false) → is_some place ≡ has_seat o ss
has_at o None ss some none = sym none
has_at o (Some i) [] some none = absurd (omega (arith, some.within))
has_at o (Some i) (s ∷ ss) some none =
    elim (has_seat o (s ∷ ss)) as (λ b. has_seat o (s ∷ ss) ≡ b → true ≡ b) [
      | true ↦ λ is. refl
      | false ↦ λ is. cc (seat_at o i (s ∷ ss) s some, none_seated o (s ∷ ss) is)
    ] refl

-- where an object is live, its row has the listener
pub row_listens : {L : Type 0} (view : L → ListenerData) (rows : List (Row L)) (i : ℕ) (r : Row L) (o : ObjectId) (ss : List SeatData)
    → map (row_data view) rows ≡ ss → IsPlace o i ss → r ≡ get_or rows i r → is_some (listener_in o ss) ≡ true → is_some r.listener ≡ true
row_listens view rows i r o ss seen place here live =
    sym (some_map view r.listener)
    ∙ sym (ap (λ (s : Option SeatData). is_some (option_and_then (λ (x : SeatData). x.listener) s)) (row_there (row_data view) rows i r o ss seen place here)) ∙ live

-- the cache of a row is small
pub row_small : {L : Type 0} (view : L → ListenerData) (rows : List (Row L)) (index : List ObjectId) (i : ℕ) (r : Row L) (o : ObjectId) (ss : List SeatData)
    → map (row_data view) rows ≡ ss → AreKept index (map (row_data view) rows) → IsPlace o i ss → r ≡ get_or rows i r → IsSmall r.context.cache
row_small view rows index i r o ss seen kept place here =
    all_found (λ s. IsSmall s.context.cache) o ss (row_data view r) (subst AreSmall seen kept.caches) (row_there (row_data view) rows i r o ss seen place here)
