-- The plan of an object by its place among all objects.
use Rattle.std.specs.Prelude.{Option, Some, None, is_some, if◌then◌else◌}
use Rattle.std.specs.List.{list_any}
use Rattle.std.specs.Option.{option_or}
use Rattle.std.specs.Map.{lookup}
use Rattle.std.proofs.Common.{◌≡◌, ℕ, zero, suc, ◌+◌, ◌<◌, ◌≤◌, Bool, true, false, cond, ◌||◌, List, [], ◌∷◌, ◌++◌, length, get_or, take, refl, ap, sym, ◌∙◌, subst, arith}
use Rattle.std.proofs.lemmas.Bool.{or_parts, or_from, false≢true}
use Rattle.std.proofs.lemmas.List.{length-map, length-append, length-take-le, get_or-map, get_or_append_left, take_more, map-append}
use Rattle.std.proofs.lemmas.List.Folds.{list_any-append}
use Rattle.std.proofs.Math.Seq.{get_or-append_seam}
use Rattle.indexmap.specs.IndexMap.{IndexMap, get}
use Rattle.mama_journal.specs.Journal.{first_said}
use Rattle.mama_event.specs.declared.ids.ObjectId.{ObjectId}
use Rattle.mama_event.specs.declared.order.PlanRow.{PlanRow}
use Rattle.mama_event.specs.Object.{same_object}
use Rattle.mama_rules_rounds.specs.Setting.{plan_in, rows_of}
use Rattle.mama_rules_rounds.specs.Sections.{queue_of}
use Rattle.mama_plans.specs.declared.plans.PlannedObject.{PlannedObject}
use Rattle.mama_plans.specs.Plans.{planned_object, planned_objects}
use Rattle.mama_plans.specs.Places.{objects_in, IsPlaceOf, ArePlaced}
use Rattle.mama_plans.proofs.IdLemmas.{same_object_sym, same_object_true}

-- what one object says of the plan of another
said : (o : ObjectId) (p : PlannedObject) (rest : Option (List PlanRow)) (b : Bool) → same_object o p.object ≡ b
    → option_or (plan_in o (planned_object p)) rest ≡ (if b then Some p.plan.items else rest)
said o p rest b is =
    ap (λ (t : Bool). option_or (if t then Some p.plan.items else None) rest) (same_object_sym p.object o ∙ is)
    ∙ elim b as (λ t. option_or (if t then Some p.plan.items else None) rest ≡ (if t then Some p.plan.items else rest)) [ true ↦ refl | false ↦ refl ]

said_at : (o : ObjectId) (i : ℕ) (ps : List PlannedObject) (d : PlannedObject) → i < length ps → same_object o (get_or ps i d).object ≡ true
    → ((k : ℕ) → k < i → same_object o (get_or ps k d).object ≡ false) → first_said (plan_in o) (planned_objects ps) ≡ Some (get_or ps i d).plan.items
said_at o i [] d within this before = absurd (omega (arith, within))
said_at o zero (p ∷ ps) d within this before = said o p (first_said (plan_in o) (planned_objects ps)) true this
said_at o (suc i) (p ∷ ps) d within this before =
    said o p (first_said (plan_in o) (planned_objects ps)) false (before 0 (omega arith))
    ∙ said_at o i ps d (omega (arith, within)) this (λ k below. before (suc k) (omega (arith, below)))

-- a place among the objects' ids is one among the objects
pub within_ids : (i : ℕ) (ps : List PlannedObject) → i < length (objects_in ps) → i < length ps
within_ids i ps within = omega (arith, within, length-map ps (λ (p : PlannedObject). p.object))

-- the plan at an object's place is the object's
pub plan_at : (o : ObjectId) (i : ℕ) (ps : List PlannedObject) (d : PlannedObject) → IsPlaceOf o (objects_in ps) (Some i)
    → (get_or ps i d).plan.items ≡ rows_of (first_said (plan_in o) (planned_objects ps))
plan_at o i ps d at =
    let within : i < length ps = within_ids i ps at.0 in
    sym (ap rows_of (said_at o i ps d within
    (ap (same_object o) (sym (get_or-map (λ (p : PlannedObject). p.object) ps i d o within)) ∙ at.1)
    (λ k below. let inside : k < length ps = omega (arith, below, within) in ap (same_object o) (sym (get_or-map (λ (p : PlannedObject). p.object) ps k d o inside)) ∙ at.2 k below)))

-- an object that has no place has no plan
pub no_plan : (o : ObjectId) (ps : List PlannedObject) → IsPlaceOf o (objects_in ps) None → [] ≡ rows_of (first_said (plan_in o) (planned_objects ps))
no_plan o ps none = sym (ap rows_of (go ps none))
  where
    go : (qs : List PlannedObject) → list_any (same_object o) (objects_in qs) ≡ false → first_said (plan_in o) (planned_objects qs) ≡ None
    go [] none = refl
    go (q ∷ qs) none =
        let parts = or_parts (same_object o q.object) (list_any (same_object o) (objects_in qs)) none in
        said o q (first_said (plan_in o) (planned_objects qs)) false parts.0 ∙ go qs parts.1

-- THE QUEUE OF AN OBJECT, likewise

queue_said_at : (o : ObjectId) (i : ℕ) (ps : List PlannedObject) (d : PlannedObject) → i < length ps → same_object o (get_or ps i d).object ≡ true
    → ((k : ℕ) → k < i → same_object o (get_or ps k d).object ≡ false) → (get_or ps i d).queue ≡ queue_of (planned_objects ps) o
queue_said_at o i [] d within this before = absurd (omega (arith, within))
queue_said_at o zero (p ∷ ps) d within this before = rw (same_object_sym p.object o ∙ this) refl
queue_said_at o (suc i) (p ∷ ps) d within this before =
    rw (same_object_sym p.object o ∙ before 0 (omega arith)) (queue_said_at o i ps d (omega (arith, within)) this (λ k below. before (suc k) (omega (arith, below))))

pub queue_at : (o : ObjectId) (i : ℕ) (ps : List PlannedObject) (d : PlannedObject) → IsPlaceOf o (objects_in ps) (Some i) → (get_or ps i d).queue ≡ queue_of (planned_objects ps) o
queue_at o i ps d at =
    let within : i < length ps = within_ids i ps at.0 in
    queue_said_at o i ps d within
    (ap (same_object o) (sym (get_or-map (λ (p : PlannedObject). p.object) ps i d o within)) ∙ at.1)
    (λ k below. let inside : k < length ps = omega (arith, below, within) in ap (same_object o) (sym (get_or-map (λ (p : PlannedObject). p.object) ps k d o inside)) ∙ at.2 k below)

pub no_queue : (o : ObjectId) (ps : List PlannedObject) → IsPlaceOf o (objects_in ps) None → 0 ≡ queue_of (planned_objects ps) o
no_queue o [] none = refl
no_queue o (q ∷ qs) none =
    let parts = or_parts (same_object o q.object) (list_any (same_object o) (objects_in qs)) none in
    rw (same_object_sym q.object o ∙ parts.0) (no_queue o qs parts.1)

-- AN OBJECT MORE

absent_at : (o : ObjectId) (ids : List ObjectId) (k : ℕ) → list_any (same_object o) ids ≡ false → k < length ids → same_object o (get_or ids k o) ≡ false
absent_at o [] k none within = absurd (omega (arith, within))
absent_at o (x ∷ xs) zero none within = (or_parts (same_object o x) (list_any (same_object o) xs) none).0
absent_at o (x ∷ xs) (suc k) none within = absent_at o xs k (or_parts (same_object o x) (list_any (same_object o) xs) none).1 (omega (arith, within))

longer : (ids : List ObjectId) (x : ObjectId) → length (ids ++ x ∷ []) ≡ length ids + 1
longer ids x = length-append ids (x ∷ [])

-- an object that had a place keeps it
place_stays : (o x : ObjectId) (ids : List ObjectId) (i : ℕ) → IsPlaceOf o ids (Some i) → IsPlaceOf o (ids ++ x ∷ []) (Some i)
place_stays o x ids i at = (
  (let more = longer ids x in omega (arith, at.0, more)),
  ap (same_object o) (get_or_append_left ids (x ∷ []) o i at.0) ∙ at.1,
  λ k below. let inside : k < length ids = omega (arith, below, at.0) in ap (same_object o) (get_or_append_left ids (x ∷ []) o k inside) ∙ at.2 k below,
)

-- one that had none and is another has none
still_none : (o x : ObjectId) (ids : List ObjectId) → IsPlaceOf o ids None → same_object o x ≡ false → IsPlaceOf o (ids ++ x ∷ []) None
still_none o x ids none other =
    list_any-append (same_object o) ids (x ∷ []) ∙ or_from (list_any (same_object o) ids) (same_object o x || false) none (or_from (same_object o x) false other refl)

-- one that had none has the last
last_place : (o x : ObjectId) (ids : List ObjectId) (i : ℕ) → i ≡ length ids → IsPlaceOf o ids None → same_object o x ≡ true → IsPlaceOf o (ids ++ x ∷ []) (Some i)
last_place o x ids i counted none this = (
  (let more = longer ids x in omega (arith, counted, more)),
  ap (λ (k : ℕ). same_object o (get_or (ids ++ x ∷ []) k o)) counted ∙ ap (same_object o) (get_or-append_seam ids x [] o) ∙ this,
  λ k below. let inside : k < length ids = omega (arith, below, counted) in ap (same_object o) (get_or_append_left ids (x ∷ []) o k inside) ∙ absent_at o ids k none inside,
)

next_new : (o x : ObjectId) (ids : List ObjectId) (i : ℕ) (found : Option ℕ) (b : Bool) → i ≡ length ids → IsPlaceOf o ids found → same_object x o ≡ b → (b ≡ true → is_some found ≡ false)
    → IsPlaceOf o (ids ++ x ∷ []) (cond b (Some i) found)
next_new o x ids i None true counted at same absent = last_place o x ids i counted at (same_object_sym o x ∙ same)
next_new o x ids i (Some k) true counted at same absent = absurd (false≢true (sym (absent refl)))
next_new o x ids i None false counted at same absent = still_none o x ids at (same_object_sym o x ∙ same)
next_new o x ids i (Some k) false counted at same absent = place_stays o x ids k at

next_kept : (o x : ObjectId) (ids : List ObjectId) (found : Option ℕ) (b : Bool) → IsPlaceOf o ids found → same_object x o ≡ b → (b ≡ true → is_some found ≡ true) → IsPlaceOf o (ids ++ x ∷ []) found
next_kept o x ids (Some k) b at same there = place_stays o x ids k at
next_kept o x ids None true at same there = absurd (false≢true (there refl))
next_kept o x ids None false at same there = still_none o x ids at (same_object_sym o x ∙ same)

-- it was not there
pub placed_new : {T : Type 0} (m n : IndexMap ObjectId ℕ T) (ids : List ObjectId) (x : ObjectId) (i : ℕ) → i ≡ length ids → ArePlaced m ids → is_some (get same_object m x) ≡ false
    → ((o : ObjectId) → get same_object n o ≡ cond (same_object x o) (Some i) (get same_object m o)) → ArePlaced n (ids ++ x ∷ [])
placed_new m n ids x i counted placed absent updated = record {
  each = λ o. subst (IsPlaceOf o (ids ++ x ∷ [])) (sym (updated o))
      (next_new o x ids i (get same_object m o) (same_object x o) counted (placed.each o) refl
      (λ same. ap (λ (y : ObjectId). is_some (get same_object m y)) (sym (same_object_true x o same)) ∙ absent));
}

-- it was there
pub placed_kept : {T : Type 0} (m : IndexMap ObjectId ℕ T) (ids : List ObjectId) (x : ObjectId) → ArePlaced m ids → is_some (get same_object m x) ≡ true → ArePlaced m (ids ++ x ∷ [])
placed_kept m ids x placed there = record {
  each = λ o. next_kept o x ids (get same_object m o) (same_object x o) (placed.each o) refl
      (λ same. ap (λ (y : ObjectId). is_some (get same_object m y)) (sym (same_object_true x o same)) ∙ there);
}

pub placed_none : {T : Type 0} (m : IndexMap ObjectId ℕ T) (ps : List PlannedObject) → m.entries ≡ [] → ArePlaced m (objects_in (take 0 ps))
placed_none m ps none = record { each = λ o. subst (IsPlaceOf o (objects_in (take 0 ps))) (sym (ap (lookup (same_object o)) none)) (nothing o ps) }
  where
    nothing : (o : ObjectId) (qs : List PlannedObject) → IsPlaceOf o (objects_in (take 0 qs)) None
    nothing o [] = refl
    nothing o (q ∷ qs) = refl

-- the ids of one object more
pub objects_more : (ps : List PlannedObject) (i : ℕ) (p : PlannedObject) → i < length ps → p ≡ get_or ps i p → objects_in (take (i + 1) ps) ≡ objects_in (take i ps) ++ p.object ∷ []
objects_more ps i p within here =
    ap objects_in (take_more ps i p within)
    ∙ map-append (λ (x : PlannedObject). x.object) (take i ps) (get_or ps i p ∷ [])
    ∙ ap (λ (x : PlannedObject). objects_in (take i ps) ++ x.object ∷ []) (sym here)

-- as many ids as objects were passed
pub ids_taken : (ps : List PlannedObject) (i : ℕ) → i ≤ length ps → length (objects_in (take i ps)) ≡ i
ids_taken ps i within = length-map (take i ps) (λ (p : PlannedObject). p.object) ∙ length-take-le i ps within
