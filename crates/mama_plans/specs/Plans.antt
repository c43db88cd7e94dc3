-- believed: The objects of a script, without where their plans lie in memory.
use Rattle.std.specs.Prelude.{◌≡◌, ℕ, ◌≤◌, false, List, [], ◌∷◌, length, map}
use Rattle.std.specs.List.{AllByRecursion}
use Rattle.mama_event.specs.declared.order.PlanRow.{PlanRow}
use Rattle.mama_event.specs.Plan.{planned}
use Rattle.mama_event.specs.Object.{same_object}
use Rattle.mama_rules_rounds.specs.Client.{Planned}
use Rattle.mama_plans.specs.declared.plans.PlannedObject.{PlannedObject}

abbrev pub planned_object : PlannedObject → Planned
planned_object p = record { object = p.object; queue = p.queue; plan = p.plan.items }

abbrev pub planned_objects : List PlannedObject → List Planned
planned_objects objects = map planned_object objects

-- at most 8 orders of a plan are for one call
abbrev pub IsFew : List PlanRow → Type 0
IsFew rows = (call : ℕ) → length (planned rows call) ≤ 8

-- the same of each object's plan
abbrev pub AreFew : List Planned → Type 0
AreFew objects = AllByRecursion (λ (p : Planned). IsFew p.plan) objects

-- no two of the objects are one
abbrev pub AreApart : List Planned → Type 0
AreApart [] = Unit {0}
AreApart (p ∷ ps) = AllByRecursion (λ (q : Planned). same_object p.object q.object ≡ false) ps × AreApart ps
