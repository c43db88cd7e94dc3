-- The seat at an object's place, and what a change there is of all seats.
use Rattle.std.specs.Prelude.{map, Result, Ok, Err, is_ok, OnOk, Option, Some, None, IfSome, IfNone, is_some, nat_lt, not, position, if◌then◌else◌}
use Rattle.std.specs.Bool.{OnTrue}
use Rattle.std.specs.List.{list_any, prefix_len}
use Rattle.std.specs.Option.{option_and_then}
use Rattle.std.proofs.Common.{◌≡◌, ℕ, zero, suc, ◌+◌, ◌<◌, Bool, true, false, cond, ◌||◌, ◌&&◌, List, [], ◌∷◌, ◌++◌, length, get_or, refl, ap, sym, ◌∙◌, subst, arith}
use Rattle.std.proofs.Math.ListN.{set}
use Rattle.std.proofs.lemmas.Bool.{or_parts, or_from, false≢true}
use Rattle.std.proofs.lemmas.List.{length-map, get_or-map, map-set, map-append}
use Rattle.std.proofs.lemmas.List.Quantifiers.{position-Some}
use Rattle.mama_event.specs.declared.ids.ObjectId.{ObjectId}
use Rattle.mama_event.specs.declared.callback.Callback.{Callback}
use Rattle.mama_event.specs.declared.order.Order.{Order}
use Rattle.mama_event.specs.Object.{same_object}
use Rattle.mama_event.specs.Listener.{ListenerData}
use Rattle.mama_dispatch.specs.Seats.{SeatData, has_seat, AreApart, seat_of, listener_in, HeardIn, at, muted_by, muted_by_all, muted_where_live}
use Rattle.mama_rules_queue.specs.Queue.{ends}
use Rattle.mama_dispatch.specs.Places.{IsPlace, IsSeatOf, IsEnded}
use Rattle.mama_dispatch.specs.Rows.{IsSmall, AreSmall, AreKept}
use Rattle.mama_dispatch.proofs.AllLemmas.{all_change, all_more}
use Rattle.mama_dispatch.proofs.DeedLemmas.{same_object-true, same_object-sym}

-- tests that agree find the same place
pub position_same : {X : Type 0} (p q : X → Bool) (xs : List X) → ((x : X) → p x ≡ q x) → position p xs ≡ position q xs
position_same p q xs same =
    ap (λ (n : ℕ). cond (nat_lt n (length xs)) (Some n) None) (go p q xs same)
  where
    go : {X : Type 0} (p q : X → Bool) (xs : List X) → ((x : X) → p x ≡ q x) → prefix_len (λ x. not (p x)) xs ≡ prefix_len (λ x. not (q x)) xs
    go p q [] same = refl
    go p q (x ∷ xs) same =
        ap (λ (b : Bool). cond (not b) (1 + prefix_len (λ y. not (p y)) xs) 0) (same x) ∙ ap (λ (n : ℕ). cond (not (q x)) (1 + n) 0) (go p q xs same)

-- a place among the objects is one among the seats
pub place_of_index : (o : ObjectId) (i : ℕ) (ss : List SeatData) → position (same_object o) (map (λ (s : SeatData). s.object) ss) ≡ Some i → IsPlace o i ss
place_of_index o i ss found =
    let objects : List ObjectId = map (λ (s : SeatData). s.object) ss in
    let facts = position-Some (same_object o) objects i o found in
    let within : i < length ss = omega (arith, facts.0, length-map ss (λ (s : SeatData). s.object)) in
    record {
      within = within;
      this = λ d. ap (same_object o) (sym (get_or-map (λ (s : SeatData). s.object) ss i d o within)) ∙ facts.1;
      before = λ k d below. let inside : k < length ss = omega arith in ap (same_object o) (sym (get_or-map (λ (s : SeatData). s.object) ss k d o inside)) ∙ facts.2 k below;
    }

pub place_some : (o : ObjectId) (r : Option ℕ) (ss : List SeatData) → r ≡ position (same_object o) (map (λ (s : SeatData). s.object) ss) → IfSome r (λ i. IsPlace o i ss)
place_some o None ss is = tt
place_some o (Some i) ss is = place_of_index o i ss (sym is)

-- where no key passes, no seat does
pub list_any_map : (o : ObjectId) (ss : List SeatData) → list_any (same_object o) (map (λ (s : SeatData). s.object) ss) ≡ has_seat o ss
list_any_map o [] = refl
list_any_map o (s ∷ ss) = ap (λ (b : Bool). same_object o s.object || b) (list_any_map o ss)

pub place_none : (o : ObjectId) (r : Option ℕ) (ss : List SeatData) → is_some r ≡ list_any (same_object o) (map (λ (s : SeatData). s.object) ss) → IfNone r (has_seat o ss ≡ false)
place_none o None ss is = sym (list_any_map o ss) ∙ sym is
place_none o (Some i) ss is = tt

-- the seat at the place is the object's
pub seat_at : (o : ObjectId) (i : ℕ) (ss : List SeatData) (d : SeatData) → IsPlace o i ss → seat_of o ss ≡ Some (get_or ss i d)
seat_at o i [] d place = absurd (omega (arith, place.within))
seat_at o zero (s ∷ ss) d place = ap (λ (b : Bool). if b then Some s else seat_of o ss) (place.this d)
seat_at o (suc i) (s ∷ ss) d place =
    ap (λ (b : Bool). if b then Some s else seat_of o ss) (place.before 0 d (omega arith))
    ∙ seat_at o i ss d (later o i s ss place)
  where
    later : (o : ObjectId) (i : ℕ) (s : SeatData) (ss : List SeatData) → IsPlace o (suc i) (s ∷ ss) → IsPlace o i ss
    later o i s ss place = record {
      within = omega (arith, place.within);
      this = λ d. place.this d;
      before = λ k d below. place.before (suc k) d (omega arith);
    }

pub place_later : (o : ObjectId) (i : ℕ) (s : SeatData) (ss : List SeatData) → IsPlace o (suc i) (s ∷ ss) → IsPlace o i ss
place_later o i s ss place = record {
  within = omega (arith, place.within);
  this = λ d. place.this d;
  before = λ k d below. place.before (suc k) d (omega arith);
}

-- A SEAT THAT IS GUESSED

-- where a seat is the object's, the object has a seat
seat_within : (o : ObjectId) (i : ℕ) (ss : List SeatData) → IsSeatOf o i ss → has_seat o ss ≡ true
seat_within o i [] seat = absurd (omega (arith, seat.within))
seat_within o zero (s ∷ ss) seat = ap (λ (b : Bool). b || has_seat o ss) (seat.this s)
seat_within o (suc i) (s ∷ ss) seat =
    ap (λ (b : Bool). same_object o s.object || b) (seat_within o i ss (record { within = omega (arith, seat.within); this = λ d. seat.this d }))
    ∙ elim (same_object o s.object) as (λ b. (b || true) ≡ true) [ true ↦ refl | false ↦ refl ]

-- no seat before it is the object's, as no two are of one object
none_before : (o : ObjectId) (i k : ℕ) (ss : List SeatData) (d : SeatData) → IsSeatOf o i ss → AreApart ss → k < i → same_object o (get_or ss k d).object ≡ false
none_before o i k [] d seat apart below = absurd (omega (arith, seat.within))
none_before o zero k (s ∷ ss) d seat apart below = absurd (omega (arith, below))
none_before o (suc i) zero (s ∷ ss) d seat apart below =
    let later : has_seat o ss ≡ true = seat_within o i ss (record { within = omega (arith, seat.within); this = λ e. seat.this e }) in
    elim (same_object o s.object) as (λ b. same_object o s.object ≡ b → b ≡ false) [
      | true ↦ λ same. absurd (false≢true (sym apart.0 ∙ ap (λ (x : ObjectId). has_seat x ss) (sym (same_object-true o s.object same)) ∙ later))
      | false ↦ λ other. refl
    ] refl
none_before o (suc i) (suc k) (s ∷ ss) d seat apart below =
    none_before o i k ss d (record { within = omega (arith, seat.within); this = λ e. seat.this e }) apart.1 (omega (arith, below))

-- so it is the object's place
pub place_guessed : (o : ObjectId) (i : ℕ) (ss : List SeatData) → IsSeatOf o i ss → AreApart ss → IsPlace o i ss
place_guessed o i ss seat apart = record { within = seat.within; this = λ d. seat.this d; before = λ k d below. none_before o i k ss d seat apart below }

-- where no seat is the object's, nothing changes
pub none_changed : (o : ObjectId) (f : SeatData → SeatData) (ss : List SeatData) → has_seat o ss ≡ false → map (at o f) ss ≡ ss
none_changed o f [] none = refl
none_changed o f (s ∷ ss) none =
    let parts = or_parts (same_object o s.object) (has_seat o ss) none in
    ap (λ (b : Bool). (if b then f s else s) ∷ map (at o f) ss) parts.0 ∙ ap (λ (ts : List SeatData). s ∷ ts) (none_changed o f ss parts.1)

pub none_seated : (o : ObjectId) (ss : List SeatData) → has_seat o ss ≡ false → seat_of o ss ≡ None
none_seated o [] none = refl
none_seated o (s ∷ ss) none =
    let parts = or_parts (same_object o s.object) (has_seat o ss) none in
    ap (λ (b : Bool). if b then Some s else seat_of o ss) parts.0 ∙ none_seated o ss parts.1

-- a change at the place is a change of the object's seat
pub changed_at : (o : ObjectId) (f : SeatData → SeatData) (i : ℕ) (ss : List SeatData) (d : SeatData) → IsPlace o i ss → AreApart ss
    → set ss i (f (get_or ss i d)) ≡ map (at o f) ss
changed_at o f i [] d place apart = refl
changed_at o f zero (s ∷ ss) d place apart =
    let same : o ≡ s.object = same_object-true o s.object (place.this d) in
    let alone : has_seat o ss ≡ false = ap (λ (x : ObjectId). has_seat x ss) same ∙ apart.0 in
    ap (λ (ts : List SeatData). f s ∷ ts) (sym (none_changed o f ss alone))
    ∙ sym (ap (λ (b : Bool). (if b then f s else s) ∷ map (at o f) ss) (place.this d))
changed_at o f (suc i) (s ∷ ss) d place apart =
    ap (λ (ts : List SeatData). s ∷ ts) (changed_at o f i ss d (place_later o i s ss place) apart.1)
    ∙ sym (ap (λ (b : Bool). (if b then f s else s) ∷ map (at o f) ss) (place.before 0 d (omega arith)))

-- likewise for rows that are seen as seats
pub row_changed : {R : Type 0} (view : R → SeatData) (rows : List R) (i : ℕ) (r q : R) (o : ObjectId) (f : SeatData → SeatData)
    → IsPlace o i (map view rows) → AreApart (map view rows) → r ≡ get_or rows i r → view q ≡ f (view r)
    → map view (set rows i q) ≡ map (at o f) (map view rows)
row_changed view rows i r q o f place apart here seen =
    let within : i < length rows = omega (arith, place.within, length-map rows view) in
    map-set view rows i q
    ∙ ap (λ (s : SeatData). set (map view rows) i s) (seen ∙ ap f (ap view here ∙ sym (get_or-map view rows i r (view r) within)))
    ∙ changed_at o f i (map view rows) (view r) place apart

-- the seat of the object is the row's
pub row_seat : {R : Type 0} (view : R → SeatData) (rows : List R) (i : ℕ) (r : R) (o : ObjectId)
    → IsPlace o i (map view rows) → r ≡ get_or rows i r → seat_of o (map view rows) ≡ Some (view r)
row_seat view rows i r o place here =
    let within : i < length rows = omega (arith, place.within, length-map rows view) in
    seat_at o i (map view rows) (view r) place ∙ ap Some (get_or-map view rows i r (view r) within ∙ sym (ap view here))

-- the changed seat is the object's
pub changed_seat : (o : ObjectId) (f : SeatData → SeatData) (ss : List SeatData) (s : SeatData) → ((x : SeatData) → (f x).object ≡ x.object)
    → seat_of o ss ≡ Some s → seat_of o (map (at o f) ss) ≡ Some (f s)
changed_seat o f [] s same is = cc
changed_seat o f (t ∷ ss) s same is =
    elim (same_object o t.object) as
    (λ b. same_object o t.object ≡ b → (if b then Some t else seat_of o ss) ≡ Some s
    → (if same_object o (if b then f t else t).object then Some (if b then f t else t) else seat_of o (map (at o f) ss)) ≡ Some (f s)) [
      | true ↦ λ this is.
          let here : t ≡ s = cc in
          ap (λ (b : Bool). if b then Some (f t) else seat_of o (map (at o f) ss)) (ap (same_object o) (same t) ∙ this) ∙ ap (λ (x : SeatData). Some (f x)) here
      | false ↦ λ other is.
          ap (λ (b : Bool). if b then Some t else seat_of o (map (at o f) ss)) other ∙ changed_seat o f ss s same is
    ] refl is

-- a change that keeps the objects keeps them apart
pub objects_kept : (f : SeatData → SeatData) (ss : List SeatData) → ((x : SeatData) → (f x).object ≡ x.object)
    → map (λ (s : SeatData). s.object) (map f ss) ≡ map (λ (s : SeatData). s.object) ss
objects_kept f [] same = refl
objects_kept f (s ∷ ss) same =
    ap (λ (x : ObjectId). x ∷ map (λ (t : SeatData). t.object) (map f ss)) (same s)
    ∙ ap (λ (xs : List ObjectId). s.object ∷ xs) (objects_kept f ss same)

has_kept : (o : ObjectId) (f : SeatData → SeatData) (ss : List SeatData) → ((x : SeatData) → (f x).object ≡ x.object) → has_seat o (map f ss) ≡ has_seat o ss
has_kept o f [] same = refl
has_kept o f (s ∷ ss) same =
    ap (λ (x : ObjectId). same_object o x || has_seat o (map f ss)) (same s) ∙ ap (λ (b : Bool). same_object o s.object || b) (has_kept o f ss same)

pub apart_kept : (f : SeatData → SeatData) (ss : List SeatData) → ((x : SeatData) → (f x).object ≡ x.object) → AreApart ss → AreApart (map f ss)
apart_kept f [] same apart = tt
apart_kept f (s ∷ ss) same apart =
    (ap (λ (x : ObjectId). has_seat x (map f ss)) (same s) ∙ has_kept s.object f ss same ∙ apart.0, apart_kept f ss same apart.1)

pub at_object : (o : ObjectId) (f : SeatData → SeatData) → ((x : SeatData) → (f x).object ≡ x.object) → (x : SeatData) → (at o f x).object ≡ x.object
at_object o f same x = elim (same_object o x.object) as (λ b. (if b then f x else x).object ≡ x.object) [ true ↦ same x | false ↦ refl ]

-- tests that agree are passed alike
pub list_any_same : {X : Type 0} (p q : X → Bool) (xs : List X) → ((x : X) → p x ≡ q x) → list_any p xs ≡ list_any q xs
list_any_same p q [] same = refl
list_any_same p q (x ∷ xs) same = ap (λ (b : Bool). b || list_any p xs) (same x) ∙ ap (λ (b : Bool). q x || b) (list_any_same p q xs same)

-- what a call that went well ensures
pub on_ok : {T E P : Type 0} (r : Result T E) → is_ok r ≡ true → OnOk r P → P
on_ok (Ok x) went h = h
on_ok (Err e) went h = absurd (false≢true went)

-- what holds where a test told so
pub on_true : {P : Type 0} (b : Bool) → b ≡ true → OnTrue b P → P
on_true true told h = h
on_true false told h = absurd (false≢true told)

-- WHAT A CHANGE OF ONE ROW IS OF ALL SEATS

pub record Changed (index : List ObjectId) (o : ObjectId) (f : SeatData → SeatData) (ss after : List SeatData) (seat : SeatData) : Type 0 where
  pub seats : after ≡ map (at o f) ss
  pub kept : AreKept index after
  pub was : seat_of o ss ≡ Some seat
  pub is : seat_of o after ≡ Some (f seat)

pub changed : {R : Type 0} (view : R → SeatData) (rows : List R) (index : List ObjectId) (i : ℕ) (r q : R) (o : ObjectId) (f : SeatData → SeatData) (ss : List SeatData)
    → ((x : SeatData) → (f x).object ≡ x.object) → ((x : SeatData) → IsSmall x.context.cache → IsSmall (f x).context.cache)
    → map view rows ≡ ss → AreKept index (map view rows) → IsPlace o i ss → r ≡ get_or rows i r → view q ≡ f (view r)
    → Changed index o f ss (map view (set rows i q)) (view r)
changed view rows index i r q o f ss objects caches seen kept place here change =
    let inside : IsPlace o i (map view rows) = subst (IsPlace o i) (sym seen) place in
    let seats : map view (set rows i q) ≡ map (at o f) ss = row_changed view rows i r q o f inside kept.apart here change ∙ ap (map (at o f)) seen in
    let was : seat_of o ss ≡ Some (view r) = ap (seat_of o) (sym seen) ∙ row_seat view rows i r o inside here in
    record {
      seats = seats;
      kept = record {
        keys = kept.keys ∙ ap (map (λ (s : SeatData). s.object)) seen ∙ sym (ap (map (λ (s : SeatData). s.object)) seats ∙ objects_kept (at o f) ss (at_object o f objects));
        apart = subst AreApart (sym seats) (apart_kept (at o f) ss (at_object o f objects) (subst AreApart seen kept.apart));
        caches = subst AreSmall (sym seats) (all_change (λ s. IsSmall s.context.cache) o f caches ss (subst AreSmall seen kept.caches));
      };
      was = was;
      is = ap (seat_of o) seats ∙ changed_seat o f ss (view r) objects was;
    }

-- the row at a place of the seats
pub row_there : {R : Type 0} (view : R → SeatData) (rows : List R) (i : ℕ) (r : R) (o : ObjectId) (ss : List SeatData)
    → map view rows ≡ ss → IsPlace o i ss → r ≡ get_or rows i r → seat_of o ss ≡ Some (view r)
row_there view rows i r o ss seen place here =
    ap (seat_of o) (sym seen) ∙ row_seat view rows i r o (subst (IsPlace o i) (sym seen) place) here

-- ORDERS THAT MUTE

or_nothing : (m l : Bool) → (m || (l && false)) ≡ m
or_nothing true l = refl
or_nothing false true = refl
or_nothing false false = refl

or_all : (m l : Bool) → (m || (l && true)) ≡ (m || l)
or_all true l = refl
or_all false true = refl
or_all false false = refl

seat_muted : (s : SeatData) (a b : Bool) → a ≡ b → record s { muted = a } ≡ record s { muted = b }
seat_muted s a b same = ap (λ (m : Bool). record s { muted = m }) same

-- an order mutes the object that it ends, where that is live
pub muted_there : (order : Order) (o : ObjectId) → IsEnded order (Some o) → (ss : List SeatData) → map (at o muted_where_live) ss ≡ map (muted_by order) ss
muted_there order o ended [] = refl
muted_there order o ended (s ∷ ss) =
    let one : at o muted_where_live s ≡ muted_by order s =
    elim (same_object o s.object) as (λ b. same_object o s.object ≡ b → (if b then muted_where_live s else s) ≡ muted_by order s) [
      | true ↦ λ same. seat_muted s (s.muted || is_some s.listener) (s.muted || (is_some s.listener && ends s.object order))
          (sym (ap (λ (t : Bool). s.muted || (is_some s.listener && t)) (ended.each s.object ∙ same) ∙ or_all s.muted (is_some s.listener)))
      | false ↦ λ other. seat_muted s s.muted (s.muted || (is_some s.listener && ends s.object order))
          (sym (ap (λ (t : Bool). s.muted || (is_some s.listener && t)) (ended.each s.object ∙ other) ∙ or_nothing s.muted (is_some s.listener)))
    ] refl in
    ap (λ (t : SeatData). t ∷ map (at o muted_where_live) ss) one ∙ ap (λ (ts : List SeatData). muted_by order s ∷ ts) (muted_there order o ended ss)

-- an order that ends nothing mutes nothing
pub muted_nowhere : (order : Order) → IsEnded order None → (ss : List SeatData) → ss ≡ map (muted_by order) ss
muted_nowhere order ended [] = refl
muted_nowhere order ended (s ∷ ss) =
    ap (λ (t : SeatData). t ∷ ss)
    (seat_muted s s.muted (s.muted || (is_some s.listener && ends s.object order))
    (sym (ap (λ (t : Bool). s.muted || (is_some s.listener && t)) (ended.each s.object) ∙ or_nothing s.muted (is_some s.listener))))
    ∙ ap (λ (ts : List SeatData). muted_by order s ∷ ts) (muted_nowhere order ended ss)

-- no order mutes nothing
pub muted_none : (ss : List SeatData) → ss ≡ map (muted_by_all []) ss
muted_none [] = refl
muted_none (s ∷ ss) =
    ap (λ (t : SeatData). t ∷ ss) (seat_muted s s.muted (s.muted || (is_some s.listener && false)) (sym (or_nothing s.muted (is_some s.listener))))
    ∙ ap (λ (ts : List SeatData). muted_by_all [] s ∷ ts) (muted_none ss)

or_more : (m l a b : Bool) → ((m || (l && a)) || (l && b)) ≡ (m || (l && (a || b)))
or_more true l a b = refl
or_more false true true b = refl
or_more false true false b = refl
or_more false false a b = refl

-- one order more
pub muted_more : (orders : List Order) (order : Order) (ss : List SeatData) → map (muted_by order) (map (muted_by_all orders) ss) ≡ map (muted_by_all (orders ++ order ∷ [])) ss
muted_more orders order [] = refl
muted_more orders order (s ∷ ss) =
    ap (λ (t : SeatData). t ∷ map (muted_by order) (map (muted_by_all orders) ss))
    (seat_muted s ((s.muted || (is_some s.listener && list_any (ends s.object) orders)) || (is_some s.listener && ends s.object order)) (s.muted || (is_some s.listener && list_any (ends s.object) (orders ++ order ∷ [])))
    (or_more s.muted (is_some s.listener) (list_any (ends s.object) orders) (ends s.object order)
    ∙ ap (λ (t : Bool). s.muted || (is_some s.listener && t)) (sym (any_more (ends s.object) orders order))))
    ∙ ap (λ (ts : List SeatData). muted_by_all (orders ++ order ∷ []) s ∷ ts) (muted_more orders order ss)
  where
    any_more : (p : Order → Bool) (os : List Order) (x : Order) → list_any p (os ++ x ∷ []) ≡ (list_any p os || p x)
    any_more p [] x = elim (p x) as (λ b. (b || false) ≡ b) [ true ↦ refl | false ↦ refl ]
    any_more p (y ∷ os) x =
        ap (λ (b : Bool). p y || b) (any_more p os x)
        ∙ elim (p y) as (λ b. (b || (list_any p os || p x)) ≡ ((b || list_any p os) || p x)) [ true ↦ refl | false ↦ refl ]

-- muting leaves the listeners
pub listener_muted : (o : ObjectId) (orders : List Order) (ss : List SeatData) → listener_in o (map (muted_by_all orders) ss) ≡ listener_in o ss
listener_muted o orders [] = refl
listener_muted o orders (s ∷ ss) =
    elim (same_object o s.object) as
    (λ b. option_and_then (λ (x : SeatData). x.listener) (if b then Some (muted_by_all orders s) else seat_of o (map (muted_by_all orders) ss))
    ≡ option_and_then (λ (x : SeatData). x.listener) (if b then Some s else seat_of o ss)) [
      | true ↦ refl
      | false ↦ listener_muted o orders ss
    ]

-- what was heard, of the same listeners
pub heard_same : (c : Callback) (a b a' b' : Option ListenerData) (os : List Order) → a ≡ a' → b ≡ b' → HeardIn c a b os → HeardIn c a' b' os
heard_same c a b a' b' os first second heard =
    subst (λ (l : Option ListenerData). HeardIn c l b' os) first (subst (λ (l : Option ListenerData). HeardIn c a l os) second heard)

-- a listener that heard is still there
pub heard_is : (c : Callback) (a b : Option ListenerData) (os : List Order) → HeardIn c a b os → (l : ListenerData) × (b ≡ Some l)
heard_is c (Some a) (Some b) os heard = (b, refl)
heard_is c (Some a) None os heard = absurd heard
heard_is c None b os heard = absurd heard

-- a change of nothing
pub unchanged : (o : ObjectId) (ss : List SeatData) → map (at o (λ s. s)) ss ≡ ss
unchanged o [] = refl
unchanged o (s ∷ ss) =
    ap (λ (ts : List SeatData). (if same_object o s.object then s else s) ∷ ts) (unchanged o ss)
    ∙ ap (λ (t : SeatData). t ∷ ss) (elim (same_object o s.object) as (λ b. (if b then s else s) ≡ s) [ true ↦ refl | false ↦ refl ])

-- a seat more at the end
pub has_more : (o : ObjectId) (ss : List SeatData) (s : SeatData) → has_seat o (ss ++ s ∷ []) ≡ (has_seat o ss || same_object o s.object)
has_more o [] s = elim (same_object o s.object) as (λ b. (b || false) ≡ b) [ true ↦ refl | false ↦ refl ]
has_more o (t ∷ ss) s =
    ap (λ (b : Bool). same_object o t.object || b) (has_more o ss s)
    ∙ elim (same_object o t.object) as (λ b. (b || (has_seat o ss || same_object o s.object)) ≡ ((b || has_seat o ss) || same_object o s.object)) [ true ↦ refl | false ↦ refl ]

pub apart_more : (ss : List SeatData) (s : SeatData) → AreApart ss → has_seat s.object ss ≡ false → AreApart (ss ++ s ∷ [])
apart_more [] s apart none = (refl, tt)
apart_more (t ∷ ss) s apart none =
    let parts = or_parts (same_object s.object t.object) (has_seat s.object ss) none in (
      has_more t.object ss s ∙ or_from (has_seat t.object ss) (same_object t.object s.object) apart.0 (same_object-sym t.object s.object ∙ parts.0),
      apart_more ss s apart.1 parts.1,
    )

-- one seat more, and its object in the index
pub kept_more : (index after : List ObjectId) (o : ObjectId) (ss : List SeatData) (s : SeatData) → AreKept index ss → after ≡ index ++ o ∷ [] → s.object ≡ o → has_seat o ss ≡ false → IsSmall s.context.cache
    → AreKept after (ss ++ s ∷ [])
kept_more index after o ss s kept more same none small = record {
  keys =
      more ∙ ap (λ (xs : List ObjectId). xs ++ o ∷ []) kept.keys
      ∙ ap (λ (x : ObjectId). map (λ (t : SeatData). t.object) ss ++ x ∷ []) (sym same)
      ∙ sym (map-append (λ (t : SeatData). t.object) ss (s ∷ []));
  apart = apart_more ss s kept.apart (ap (λ (x : ObjectId). has_seat x ss) same ∙ none);
  caches = all_more (λ x. IsSmall x.context.cache) ss s kept.caches small;
}
