-- The row at an object's place, and what a change there is of all objects.
use Rattle.std.specs.Prelude.{map, not, nat_lt, Option, Some, None, is_some, IfSome, IfNone, position, if◌then◌else◌}
use Rattle.std.specs.List.{list_any, prefix_len}
use Rattle.std.proofs.Common.{◌≡◌, ℕ, zero, suc, ◌+◌, ◌<◌, Bool, true, false, cond, ◌||◌, ◌&&◌, List, [], ◌∷◌, ◌++◌, length, get_or, refl, ap, sym, ◌∙◌, subst, arith}
use Rattle.std.proofs.Math.ListN.{set}
use Rattle.std.proofs.lemmas.Bool.{or_parts}
use Rattle.std.proofs.lemmas.List.{length-map, get_or-map, map-set, length-append}
use Rattle.std.proofs.lemmas.List.Quantifiers.{position-Some}
use Rattle.mama_event.specs.declared.ids.SubId.{SubId}
use Rattle.mama_event.specs.declared.ids.TimerId.{TimerId}
use Rattle.mama_event.specs.declared.ids.InboxId.{InboxId}
use Rattle.mama_event.specs.declared.ids.ObjectId.{ObjectId}
use Rattle.mama_event.specs.declared.ids.ObjectId.TheVariants.{Sub, Timer, Inbox}
use Rattle.mama_event.specs.declared.order.Order.{Order}
use Rattle.mama_event.specs.declared.order.Order.TheVariants as order
use Rattle.mama_event.specs.Object.{same_object}
use Rattle.mama_rules_queue.specs.Queue.{ends}
use Rattle.mama_dispatch.proofs.DeedLemmas.{same_object-true, same_object-sym, same_object-refl}
use Rattle.mama_check_queue.specs.declared.seen.Seen.{Seen}
use Rattle.mama_check_queue.specs.Seen.{SeenData, unseen, at, silenced, muted_by}
use Rattle.mama_check_queue.specs.Rows.{SeenObjects, seen_data, row_of, seen_in}

-- a place is the first of an object among some ids
record IsFirst (o : ObjectId) (i : ℕ) (ids : List ObjectId) : Type 0 where
  within : i < length ids
  this : same_object o (get_or ids i o) ≡ true
  before : (k : ℕ) → k < i → same_object o (get_or ids k o) ≡ false

is_first : (o : ObjectId) (i : ℕ) (ids : List ObjectId) → position (same_object o) ids ≡ Some i → IsFirst o i ids
is_first o i ids found =
    let facts = position-Some (same_object o) ids i o found in
    record { within = facts.0; this = facts.1; before = facts.2 }

first_later : (o : ObjectId) (i : ℕ) (k : ObjectId) (ids : List ObjectId) → IsFirst o (suc i) (k ∷ ids) → IsFirst o i ids
first_later o i k ids first = record {
  within = omega (arith, first.within);
  this = first.this;
  before = λ j below. first.before (suc j) (omega (arith, below));
}

-- the row of the object is the one at the place
row_here : (o : ObjectId) (i : ℕ) (ids : List ObjectId) (rows : List SeenData) (d : SeenData) → IsFirst o i ids → i < length rows → row_of o ids rows ≡ get_or rows i d
row_here o i [] rows d first within = absurd (omega (arith, first.within))
row_here o i (k ∷ ids) [] d first within = absurd (omega (arith, within))
row_here o zero (k ∷ ids) (r ∷ rows) d first within = ap (λ (b : Bool). if b then r else row_of o ids rows) first.this
row_here o (suc i) (k ∷ ids) (r ∷ rows) d first within =
    ap (λ (b : Bool). if b then r else row_of o ids rows) (first.before 0 (omega arith))
    ∙ row_here o i ids rows d (first_later o i k ids first) (omega (arith, within))

twice : (b : Bool) (v r t : SeenData) → (if b then v else t) ≡ (if b then v else (if b then r else t))
twice true v r t = refl
twice false v r t = refl

-- another row at the place is the object's, and the rows of others stay
row_set : (y o : ObjectId) (i : ℕ) (ids : List ObjectId) (rows : List SeenData) (v : SeenData) → IsFirst o i ids → i < length rows
    → row_of y ids (set rows i v) ≡ (if same_object o y then v else row_of y ids rows)
row_set y o i [] rows v first within = absurd (omega (arith, first.within))
row_set y o i (k ∷ ids) [] v first within = absurd (omega (arith, within))
row_set y o zero (k ∷ ids) (r ∷ rows) v first within =
    let same : same_object y k ≡ same_object o y = ap (same_object y) (sym (same_object-true o k first.this)) ∙ same_object-sym y o in
    ap (λ (b : Bool). if b then v else row_of y ids rows) same
    ∙ twice (same_object o y) v r (row_of y ids rows)
    ∙ ap (λ (b : Bool). if same_object o y then v else (if b then r else row_of y ids rows)) (sym same)
row_set y o (suc i) (k ∷ ids) (r ∷ rows) v first within =
    let rest = row_set y o i ids rows v (first_later o i k ids first) (omega (arith, within)) in
    let other : same_object o k ≡ false = first.before 0 (omega arith) in
    apart (same_object y k) refl rest other
  where
    apart : (b : Bool) → same_object y k ≡ b → row_of y ids (set rows i v) ≡ (if same_object o y then v else row_of y ids rows) → same_object o k ≡ false
        → (if same_object y k then r else row_of y ids (set rows i v)) ≡ (if same_object o y then v else (if same_object y k then r else row_of y ids rows))
    apart true is rest other =
        ap (λ (b : Bool). if b then r else row_of y ids (set rows i v)) is
        ∙ sym (ap (λ (b : Bool). if b then v else r) (ap (same_object o) (same_object-true y k is) ∙ other))
        ∙ ap (λ (b : Bool). if same_object o y then v else (if b then r else row_of y ids rows)) (sym is)
    apart false is rest other =
        ap (λ (b : Bool). if b then r else row_of y ids (set rows i v)) is ∙ rest
        ∙ ap (λ (b : Bool). if same_object o y then v else (if b then r else row_of y ids rows)) (sym is)

-- ---- a new object

-- nothing came of a new object
row_new : (y o : ObjectId) (ids : List ObjectId) (rows : List SeenData) → length ids ≡ length rows → row_of y (ids ++ o ∷ []) (rows ++ unseen ∷ []) ≡ row_of y ids rows
row_new y o [] [] same = either (same_object y o)
  where
    either : (b : Bool) → (if b then unseen else unseen) ≡ unseen
    either true = refl
    either false = refl
row_new y o [] (r ∷ rows) same = absurd (omega (arith, same))
row_new y o (k ∷ ids) [] same = absurd (omega (arith, same))
row_new y o (k ∷ ids) (r ∷ rows) same = ap (λ (t : SeenData). if same_object y k then r else t) (row_new y o ids rows (omega (arith, same)))

pub opened : (ids : List ObjectId) (rows : List Seen) (o : ObjectId) (r : Seen) (s : SeenObjects) → length ids ≡ length rows → record { ids = ids; rows = map seen_data rows } ≡ s
    → seen_data r ≡ unseen → (x : ObjectId) → seen_in (record { ids = ids ++ o ∷ []; rows = map seen_data (rows ++ r ∷ []) }) x ≡ seen_in s x
opened ids rows o r s same view new x =
    ap (row_of x (ids ++ o ∷ [])) (map_push rows ∙ ap (λ (t : SeenData). map seen_data rows ++ t ∷ []) new)
    ∙ row_new x o ids (map seen_data rows) (same ∙ sym (length-map rows seen_data))
    ∙ ap (λ (t : SeenObjects). seen_in t x) view
  where
    map_push : (rs : List Seen) → map seen_data (rs ++ r ∷ []) ≡ map seen_data rs ++ seen_data r ∷ []
    map_push [] = refl
    map_push (q ∷ rs) = ap (λ (ts : List SeenData). seen_data q ∷ ts) (map_push rs)

-- the place of a new object
pub new_place : (o : ObjectId) (ids : List ObjectId) (n : ℕ) → list_any (same_object o) ids ≡ false → length ids ≡ n → position (same_object o) (ids ++ o ∷ []) ≡ Some n
new_place o ids n none count =
    let last : length (ids ++ o ∷ []) ≡ length ids + 1 = length-append ids (o ∷ []) in
    let inside : nat_lt (length ids) (length ids + 1) ≡ true = grind arith in
    ap (λ (m : ℕ). cond (nat_lt m (length (ids ++ o ∷ []))) (Some m) None) (before ids none)
    ∙ ap (λ (m : ℕ). cond (nat_lt (length ids) m) (Some (length ids)) None) last
    ∙ ap (λ (b : Bool). cond b (Some (length ids)) None) inside
    ∙ ap (λ (m : ℕ). Some m) count
  where
    before : (ks : List ObjectId) → list_any (same_object o) ks ≡ false → prefix_len (λ x. not (same_object o x)) (ks ++ o ∷ []) ≡ length ks
    before [] none = ap (λ (b : Bool). cond (not b) 1 0) (same_object-refl o)
    before (k ∷ ks) none =
        let parts = or_parts (same_object o k) (list_any (same_object o) ks) none in
        let more : 1 + length ks ≡ suc (length ks) = omega arith in
        ap (λ (b : Bool). cond (not b) (1 + prefix_len (λ x. not (same_object o x)) (ks ++ o ∷ [])) 0) parts.0
        ∙ ap (λ (m : ℕ). 1 + m) (before ks parts.1) ∙ more

-- ---- rows as they lie in memory

-- the row at an object's place
pub row_there : (ids : List ObjectId) (rows : List Seen) (i : ℕ) (r : Seen) (o : ObjectId) (s : SeenObjects) → record { ids = ids; rows = map seen_data rows } ≡ s
    → position (same_object o) s.ids ≡ Some i → i < length s.rows → r ≡ get_or rows i r → seen_in s o ≡ seen_data r
row_there ids rows i r o s view place inside here =
    let found : position (same_object o) ids ≡ Some i = ap (λ (t : SeenObjects). position (same_object o) t.ids) view ∙ place in
    let within : i < length rows = omega (arith, inside, ap (λ (t : SeenObjects). length t.rows) view, length-map rows seen_data) in
    let reach : i < length (map seen_data rows) = omega (arith, within, length-map rows seen_data) in
    sym (ap (λ (t : SeenObjects). seen_in t o) view)
    ∙ row_here o i ids (map seen_data rows) (seen_data r) (is_first o i ids found) reach
    ∙ get_or-map seen_data rows i r (seen_data r) within
    ∙ sym (ap seen_data here)

-- a change of that row is a change of the object alone
pub changed : (ids : List ObjectId) (rows : List Seen) (i : ℕ) (r q : Seen) (o : ObjectId) (f : SeenData → SeenData) (s : SeenObjects) → record { ids = ids; rows = map seen_data rows } ≡ s
    → position (same_object o) s.ids ≡ Some i → i < length s.rows → r ≡ get_or rows i r → seen_data q ≡ f (seen_data r)
    → (x : ObjectId) → seen_in (record { ids = ids; rows = map seen_data (set rows i q) }) x ≡ at o x f (seen_in s x)
changed ids rows i r q o f s view place inside here change x =
    let found : position (same_object o) ids ≡ Some i = ap (λ (t : SeenObjects). position (same_object o) t.ids) view ∙ place in
    let within : i < length rows = omega (arith, inside, ap (λ (t : SeenObjects). length t.rows) view, length-map rows seen_data) in
    let reach : i < length (map seen_data rows) = omega (arith, within, length-map rows seen_data) in
    ap (row_of x ids) (map-set seen_data rows i q)
    ∙ row_set x o i ids (map seen_data rows) (seen_data q) (is_first o i ids found) reach
    ∙ ap (λ (t : SeenData). if same_object o x then seen_data q else t) (ap (λ (t : SeenObjects). seen_in t x) view)
    ∙ as_change (same_object o x) refl
  where
    as_change : (b : Bool) → same_object o x ≡ b → (if same_object o x then seen_data q else seen_in s x) ≡ at o x f (seen_in s x)
    as_change true is =
        ap (λ (b : Bool). if b then seen_data q else seen_in s x) is
        ∙ change ∙ ap f (sym (row_there ids rows i r o s view place inside here) ∙ ap (seen_in s) (same_object-true o x is))
        ∙ sym (ap (λ (b : Bool). if b then f (seen_in s x) else seen_in s x) is)
    as_change false is =
        ap (λ (b : Bool). if b then seen_data q else seen_in s x) is
        ∙ sym (ap (λ (b : Bool). if b then f (seen_in s x) else seen_in s x) is)

-- an object that has no place is one of which nothing came
pub row_none : (o : ObjectId) (s : SeenObjects) → list_any (same_object o) s.ids ≡ false → seen_in s o ≡ unseen
row_none o s none = go s.ids s.rows none
  where
    go : (ids : List ObjectId) (rows : List SeenData) → list_any (same_object o) ids ≡ false → row_of o ids rows ≡ unseen
    go [] rows none = refl
    go (k ∷ ids) [] none = refl
    go (k ∷ ids) (r ∷ rows) none =
        let parts = or_parts (same_object o k) (list_any (same_object o) ids) none in
        ap (λ (b : Bool). if b then r else row_of o ids rows) parts.0 ∙ go ids rows parts.1

-- ---- what is found of an object

pub place_some : (o : ObjectId) (r : Option ℕ) (s : SeenObjects) → r ≡ position (same_object o) s.ids → IfSome r (λ i. position (same_object o) s.ids ≡ Some i)
place_some o None s is = tt
place_some o (Some i) s is = sym is

pub place_within : (o : ObjectId) (r : Option ℕ) (s : SeenObjects) → r ≡ position (same_object o) s.ids → length s.ids ≡ length s.rows → IfSome r (λ i. i < length s.rows)
place_within o None s is same = tt
place_within o (Some i) s is same = let first = is_first o i s.ids (sym is) in omega (arith, first.within, same)

pub place_none : (o : ObjectId) (r : Option ℕ) (s : SeenObjects) → is_some r ≡ list_any (same_object o) s.ids → IfNone r (list_any (same_object o) s.ids ≡ false)
place_none o None s is = sym is
place_none o (Some i) s is = tt

-- the objects of a table have as many rows
pub as_many : (ids : List ObjectId) (rows : List Seen) (s : SeenObjects) → length ids ≡ length rows → record { ids = ids; rows = map seen_data rows } ≡ s → length s.ids ≡ length s.rows
as_many ids rows s same view = subst (λ (t : SeenObjects). length t.ids ≡ length t.rows) view (same ∙ sym (length-map rows seen_data))

-- ---- orders that mute

abbrev muted_with : SeenData → Bool → SeenData
muted_with s b = record s { muted = b }

or_nothing : (m l : Bool) → (m || (l && false)) ≡ m
or_nothing true l = refl
or_nothing false true = refl
or_nothing false false = refl

or_all : (m l : Bool) → (m || (l && true)) ≡ (m || l)
or_all true l = refl
or_all false true = refl
or_all false false = refl

or_more : (m l a b : Bool) → ((m || (l && a)) || (l && b)) ≡ (m || (l && (a || b)))
or_more true l a b = refl
or_more false true true b = refl
or_more false true false b = refl
or_more false false a b = refl

-- no order mutes nothing
pub muted_none : (x : ObjectId) (s : SeenData) → s ≡ muted_by x [] s
muted_none x s = ap (muted_with s) (sym (or_nothing s.muted s.live))

-- some orders, and then one more
pub muted_more : (x : ObjectId) (os : List Order) (order : Order) (s : SeenData) → muted_by x (order ∷ []) (muted_by x os s) ≡ muted_by x (os ++ order ∷ []) s
muted_more x os order s =
    ap (muted_with s) (or_more s.muted s.live (list_any (ends x) os) (ends x order || false) ∙ ap (λ (b : Bool). s.muted || (s.live && b)) (any_push os))
  where
    any_push : (ps : List Order) → (list_any (ends x) ps || (ends x order || false)) ≡ list_any (ends x) (ps ++ order ∷ [])
    any_push [] = refl
    any_push (p ∷ ps) = or_assoc (ends x p) (list_any (ends x) ps) (ends x order || false) ∙ ap (λ (b : Bool). ends x p || b) (any_push ps)
      where
        or_assoc : (a b c : Bool) → ((a || b) || c) ≡ (a || (b || c))
        or_assoc true b c = refl
        or_assoc false b c = refl

-- each kind of order ends one object, and an Ask none
pub ends_sub : (s : SubId) (x : ObjectId) → ends x (order.Stop s) ≡ same_object (Sub s) x
ends_sub s (Sub a) = same_object-sym (Sub a) (Sub s)
ends_sub s (Timer a) = refl
ends_sub s (Inbox a) = refl

pub ends_timer : (t : TimerId) (x : ObjectId) → ends x (order.Disarm t) ≡ same_object (Timer t) x
ends_timer t (Sub a) = refl
ends_timer t (Timer a) = same_object-sym (Timer a) (Timer t)
ends_timer t (Inbox a) = refl

pub ends_inbox : (i : InboxId) (x : ObjectId) → ends x (order.Close i) ≡ same_object (Inbox i) x
ends_inbox i (Sub a) = refl
ends_inbox i (Timer a) = refl
ends_inbox i (Inbox a) = same_object-sym (Inbox a) (Inbox i)

pub ends_none : (i : InboxId) (topic : ℕ) (fids : List ℕ) (x : ObjectId) → ends x (order.Ask i topic fids) ≡ false
ends_none i topic fids (Sub a) = refl
ends_none i topic fids (Timer a) = refl
ends_none i topic fids (Inbox a) = refl

-- an order mutes the object that it ends, where that is live
pub mutes : (o : ObjectId) (order : Order) → ((x : ObjectId) → ends x order ≡ same_object o x) → (x : ObjectId) (s : SeenData) → at o x silenced s ≡ muted_by x (order ∷ []) s
mutes o order ended x s = either (same_object o x) ∙ ap (λ (b : Bool). muted_with s (s.muted || (s.live && (b || false)))) (sym (ended x))
  where
    either : (b : Bool) → (if b then silenced s else s) ≡ muted_with s (s.muted || (s.live && (b || false)))
    either true = ap (muted_with s) (sym (or_all s.muted s.live))
    either false = ap (muted_with s) (sym (or_nothing s.muted s.live))

-- an order that ends nothing mutes nothing
pub mutes_none : (order : Order) → ((x : ObjectId) → ends x order ≡ false) → (x : ObjectId) (s : SeenData) → s ≡ muted_by x (order ∷ []) s
mutes_none order none x s = ap (muted_with s) (sym (ap (λ (b : Bool). s.muted || (s.live && (b || false))) (none x) ∙ or_nothing s.muted s.live))

-- an object of which nothing came is not live, so an order that ends it changes nothing
pub unchanged_none : (o : ObjectId) (s : SeenObjects) → list_any (same_object o) s.ids ≡ false → (x : ObjectId) → seen_in s x ≡ at o x silenced (seen_in s x)
unchanged_none o s none x = either (same_object o x) refl
  where
    either : (b : Bool) → same_object o x ≡ b → seen_in s x ≡ (if b then silenced (seen_in s x) else seen_in s x)
    either true is =
        let nothing : seen_in s x ≡ unseen = ap (seen_in s) (sym (same_object-true o x is)) ∙ row_none o s none in
        nothing ∙ sym (ap silenced nothing)
    either false is = refl
