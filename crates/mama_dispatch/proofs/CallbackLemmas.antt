-- The callbacks of objects, where they are taken out one object at a time.
use Rattle.std.specs.Prelude.{map, Option, Some, None, is_some, position, if◌then◌else◌}
use Rattle.std.specs.Global.{Vec}
use Rattle.std.specs.List.{list_any}
use Rattle.std.specs.Option.{option_map_or}
use Rattle.std.proofs.Common.{◌≡◌, ℕ, zero, suc, ◌<◌, Bool, true, false, List, [], ◌∷◌, length, get_or, refl, ap, sym, ◌∙◌, arith}
use Rattle.std.proofs.Math.ListN.{set}
use Rattle.std.proofs.lemmas.Bool.{or_parts}
use Rattle.std.proofs.lemmas.List.{length-map, get_or-map, map-set}
use Rattle.std.proofs.lemmas.List.Quantifiers.{position-Some}
use Rattle.mama_event.specs.contracts.ids.ObjectIdPartialEq.TheImpl.{eq-value}
use Rattle.mama_event.specs.declared.ids.ObjectId.{ObjectId}
use Rattle.mama_event.specs.declared.callback.CallNote.{CallNote}
use Rattle.mama_event.specs.Object.{same_object}
use Rattle.mama_dispatch.specs.Seats.{SeatData, seat_of}
use Rattle.mama_dispatch.specs.Served.{calls_at}
use Rattle.mama_dispatch.specs.Notes.{lists_of}
use Rattle.mama_dispatch.specs.Noted.{lists_in}
use Rattle.mama_dispatch.specs.Callbacks.{calls_to, without}
use Rattle.mama_dispatch.proofs.DeedLemmas.{same_object-true, same_object-sym}
use Rattle.mama_dispatch.proofs.Ids.{same_ids}
use Rattle.mama_dispatch.proofs.PlaceLemmas.{position_same, list_any_same}

-- the callbacks of an object in its seat's list are its seat's
pub calls_in_lists : (o : ObjectId) (ss : List SeatData) → calls_to o (lists_in ss) ≡ calls_at o ss
calls_in_lists o [] = refl
calls_in_lists o (s ∷ ss) =
    elim (same_object o s.object) as (λ b. (if b then s.calls else calls_to o (lists_in ss)) ≡ option_map_or (λ (x : SeatData). x.calls) (if b then Some s else seat_of o ss) []) [
      | true ↦ refl
      | false ↦ calls_in_lists o ss
    ]

abbrev pub object_in : ObjectId × List CallNote → ObjectId
object_in e = e.0

-- the objects of seats are those of their lists
pub objects_listed : (ss : List SeatData) → map (λ (s : SeatData). s.object) ss ≡ map object_in (lists_in ss)
objects_listed [] = refl
objects_listed (s ∷ ss) = ap (λ (os : List ObjectId). s.object ∷ os) (objects_listed ss)

-- the objects stay when callbacks are taken out
objects_stay : (o : ObjectId) (es : List (ObjectId × List CallNote)) → map object_in (without o es) ≡ map object_in es
objects_stay o [] = refl
objects_stay o (e ∷ es) =
    elim (same_object o e.0) as (λ b. map object_in (if b then (e.0, []) ∷ es else e ∷ without o es) ≡ e.0 ∷ map object_in es) [
      | true ↦ refl
      | false ↦ ap (λ (os : List ObjectId). e.0 ∷ os) (objects_stay o es)
    ]

-- the list at an object's place is the object's
list_at : (o : ObjectId) (i : ℕ) (es : List (ObjectId × List CallNote)) (d : ObjectId × List CallNote) → i < length es → same_object o (get_or es i d).0 ≡ true
    → ((k : ℕ) → k < i → same_object o (get_or es k d).0 ≡ false) → calls_to o es ≡ (get_or es i d).1
list_at o i [] d within this before = absurd (omega (arith, within))
list_at o zero (e ∷ es) d within this before = ap (λ (b : Bool). if b then e.1 else calls_to o es) this
list_at o (suc i) (e ∷ es) d within this before =
    ap (λ (b : Bool). if b then e.1 else calls_to o es) (before 0 (omega arith))
    ∙ list_at o i es d (omega (arith, within)) this (λ k below. before (suc k) (omega (arith, below)))

-- where it is taken out, an empty list of the object is left there
emptied_at : (o : ObjectId) (i : ℕ) (es : List (ObjectId × List CallNote)) (d : ObjectId × List CallNote) → i < length es → same_object o (get_or es i d).0 ≡ true
    → ((k : ℕ) → k < i → same_object o (get_or es k d).0 ≡ false) → set es i ((get_or es i d).0, []) ≡ without o es
emptied_at o i [] d within this before = absurd (omega (arith, within))
emptied_at o zero (e ∷ es) d within this before = sym (ap (λ (b : Bool). if b then (e.0, []) ∷ es else e ∷ without o es) this)
emptied_at o (suc i) (e ∷ es) d within this before =
    ap (λ (l : List (ObjectId × List CallNote)). e ∷ l) (emptied_at o i es d (omega (arith, within)) this (λ k below. before (suc k) (omega (arith, below))))
    ∙ sym (ap (λ (b : Bool). if b then (e.0, []) ∷ es else e ∷ without o es) (before 0 (omega arith)))

-- an object that is not there has no callbacks, and nothing is taken out
pub no_list : (o : ObjectId) (es : List (ObjectId × List CallNote)) → list_any (same_object o) (map object_in es) ≡ false → [] ≡ calls_to o es
no_list o [] none = refl
no_list o (e ∷ es) none =
    let parts = or_parts (same_object o e.0) (list_any (same_object o) (map object_in es)) none in
    no_list o es parts.1 ∙ sym (ap (λ (b : Bool). if b then e.1 else calls_to o es) parts.0)

pub none_emptied : (o : ObjectId) (es : List (ObjectId × List CallNote)) → list_any (same_object o) (map object_in es) ≡ false → es ≡ without o es
none_emptied o [] none = refl
none_emptied o (e ∷ es) none =
    let parts = or_parts (same_object o e.0) (list_any (same_object o) (map object_in es)) none in
    ap (λ (l : List (ObjectId × List CallNote)). e ∷ l) (none_emptied o es parts.1)
    ∙ sym (ap (λ (b : Bool). if b then (e.0, []) ∷ es else e ∷ without o es) parts.0)

-- what it is that the list at an object's place is moved out
pub record IsTaken (o : ObjectId) (index : List ObjectId) (es after : List (ObjectId × List CallNote)) (list : List CallNote) : Type 0 where
  pub calls : list ≡ calls_to o es
  pub rest : after ≡ without o es
  pub kept : index ≡ map object_in after

abbrev list_data : ObjectId × Vec CallNote → ObjectId × List CallNote
list_data c = (c.0, c.1.items)

-- a place in the index is one among the lists
pub place_within : (index : List ObjectId) (rows : List (ObjectId × Vec CallNote)) (o : ObjectId) (i : ℕ) → index ≡ map object_in (lists_of rows) → position (same_object o) index ≡ Some i → i < length rows
place_within index rows o i keys found =
    let at = position-Some (same_object o) index i o found in
    omega (arith, at.0, ap length keys, length-map (lists_of rows) object_in, length-map rows list_data)

pub taken : (rows : List (ObjectId × Vec CallNote)) (index : List ObjectId) (i : ℕ) (r q : ObjectId × Vec CallNote) (o : ObjectId) (es : List (ObjectId × List CallNote))
    → lists_of rows ≡ es → index ≡ map object_in (lists_of rows) → position (same_object o) index ≡ Some i → r ≡ get_or rows i r → q.0 ≡ r.0 → q.1.items ≡ []
    → IsTaken o index es (lists_of (set rows i q)) r.1.items
taken rows index i r q o es seen keys found here same none =
    let within : i < length rows = place_within index rows o i keys found in
    let inside : i < length (lists_of rows) = omega (arith, within, length-map rows list_data) in
    let at = position-Some (same_object o) index i o found in
    let d : ObjectId × List CallNote = list_data r in
    let object : (k : ℕ) → k < length (lists_of rows) → get_or index k o ≡ (get_or (lists_of rows) k d).0 =
    λ k below. ap (λ (os : List ObjectId). get_or os k o) keys ∙ get_or-map object_in (lists_of rows) k d o below in
    let this : same_object o (get_or (lists_of rows) i d).0 ≡ true = ap (same_object o) (sym (object i inside)) ∙ at.1 in
    let before : (k : ℕ) → k < i → same_object o (get_or (lists_of rows) k d).0 ≡ false =
    λ k below. ap (same_object o) (sym (object k (omega (arith, below, inside)))) ∙ at.2 k below in
    let there : get_or (lists_of rows) i d ≡ d = get_or-map list_data rows i r d within ∙ ap list_data (sym here) in
    let after : lists_of (set rows i q) ≡ without o es =
    map-set list_data rows i q
    ∙ ap (λ (x : ObjectId). set (lists_of rows) i (x, q.1.items)) (same ∙ sym (ap object_in there))
    ∙ ap (λ (l : List CallNote). set (lists_of rows) i ((get_or (lists_of rows) i d).0, l)) none
    ∙ emptied_at o i (lists_of rows) d inside this before
    ∙ ap (without o) seen in
    record {
      calls = sym (ap (λ (e : ObjectId × List CallNote). e.1) there) ∙ sym (list_at o i (lists_of rows) d inside this before) ∙ ap (calls_to o) seen;
      rest = after;
      kept = keys ∙ ap (map object_in) seen ∙ sym (objects_stay o es) ∙ ap (map object_in) (sym after);
    }

-- taking the callbacks of one object out leaves those of another
pub others_stay : (o x : ObjectId) → same_object o x ≡ false → (es : List (ObjectId × List CallNote)) → calls_to x (without o es) ≡ calls_to x es
others_stay o x other [] = refl
others_stay o x other (e ∷ es) =
    elim (same_object o e.0) as (λ b. same_object o e.0 ≡ b → calls_to x (if b then (e.0, []) ∷ es else e ∷ without o es) ≡ calls_to x (e ∷ es)) [
      | true ↦ λ this.
          let not_here : same_object x e.0 ≡ false = ap (same_object x) (sym (same_object-true o e.0 this)) ∙ same_object-sym x o ∙ other in
          ap (λ (b : Bool). if b then [] else calls_to x es) not_here ∙ sym (ap (λ (b : Bool). if b then e.1 else calls_to x es) not_here)
      | false ↦ λ elsewhere. ap (λ (l : List CallNote). if same_object x e.0 then e.1 else l) (others_stay o x other es)
    ] refl

-- the index finds an object, or has it not
pub found_place : (o : ObjectId) (index : List ObjectId) (r : Option ℕ) (i : ℕ) → r ≡ position (eq-value.it o) index → r ≡ Some i → position (same_object o) index ≡ Some i
found_place o index r i is some = sym (position_same (eq-value.it o) (same_object o) index (same_ids o)) ∙ sym is ∙ some

pub not_found : (o : ObjectId) (index : List ObjectId) (es : List (ObjectId × List CallNote)) (r : Option ℕ) → index ≡ map object_in es → is_some r ≡ list_any (eq-value.it o) index → r ≡ None
    → list_any (same_object o) (map object_in es) ≡ false
not_found o index es r keys is none =
    ap (list_any (same_object o)) (sym keys) ∙ sym (list_any_same (eq-value.it o) (same_object o) index (same_ids o)) ∙ sym is ∙ ap is_some none
