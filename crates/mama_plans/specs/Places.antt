-- inner: Where objects stand among others.
use Rattle.std.specs.Prelude.{◌≡◌, ℕ, ◌<◌, true, false, List, length, map, get_or, Option, Some, None}
use Rattle.std.specs.List.{list_any}
use Rattle.indexmap.specs.IndexMap.{IndexMap, get}
use Rattle.mama_event.specs.declared.ids.ObjectId.{ObjectId}
use Rattle.mama_event.specs.Object.{same_object}
use Rattle.mama_plans.specs.declared.plans.PlannedObject.{PlannedObject}
use Rattle.mama_plans.specs.Plans.{planned_objects, AreFew, AreApart}

-- the ids of the objects
abbrev pub objects_in : List PlannedObject → List ObjectId
objects_in objects = map (λ p. p.object) objects

-- the first place where an object stands, or it stands nowhere
abbrev pub IsPlaceOf : ObjectId → List ObjectId → Option ℕ → Type 0
IsPlaceOf o ids None = list_any (same_object o) ids ≡ false
IsPlaceOf o ids (Some i) = (i < length ids) × (same_object o (get_or ids i o) ≡ true) × ((k : ℕ) → k < i → same_object o (get_or ids k o) ≡ false)

-- each object's place is found by its id
pub record ArePlaced {T : Type 0} (places : IndexMap ObjectId ℕ T) (ids : List ObjectId) : Type 0 where
  pub each : (o : ObjectId) → IsPlaceOf o ids (get same_object places o)

-- what plans keep: each object is found by its id and has few orders for a call, and no two are one
pub record ArePlans {T : Type 0} (objects : List PlannedObject) (places : IndexMap ObjectId ℕ T) : Type 0 where
  pub placed : ArePlaced places (objects_in objects)
  pub few : AreFew (planned_objects objects)
  pub apart : AreApart (planned_objects objects)
