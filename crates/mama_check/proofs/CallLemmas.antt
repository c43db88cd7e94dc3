-- How the recorded callbacks of an object stand to those that its queue makes.
use Rattle.std.proofs.Common.{◌≡◌, ℕ, zero, suc, ◌<◌, List, [], ◌∷◌, length, map, get_or, ap, sym, subst, ◌∙◌, arith}
use Rattle.std.specs.Prelude.{slice_get, Option, None, Some, option_map}
use Rattle.std.specs.Global.{Vec}
use Rattle.std.proofs.lemmas.List.{length-map}
use Rattle.std.proofs.lemmas.Option.{slice_get-map}
use Rattle.mama_event.specs.declared.ids.ObjectId.{ObjectId}
use Rattle.mama_event.specs.declared.callback.CallNote.{CallNote}
use Rattle.mama_event.specs.declared.to_queue.QueueNote.{QueueNote}
use Rattle.mama_script.specs.Script.{ScriptData}
use Rattle.mama_record.specs.RunData.{RunData, ObjectCalls}
use Rattle.mama_record.specs.RunView as view
use Rattle.mama_rules_rounds.specs.Client.{Planned}
use Rattle.mama_rules_rounds.specs.Sections.{setting_of}
use Rattle.mama_rules_rounds.specs.Told.{object_calls}
use Rattle.mama_plans.specs.declared.plans.PlannedObject.{PlannedObject}
use Rattle.mama_plans.specs.Plans.{planned_object, planned_objects}
use Rattle.mama_check_queue.specs.Served.{ServedData}
use Rattle.mama_check_queue.specs.Recorded.{journals_of, calls_by}
use Rattle.mama_check.specs.Rules.{KeepsCalls}

-- an item that is there
pub got : {X : Type 0} (xs : List X) (k : ℕ) (x : X) → k < length xs → x ≡ get_or xs k x → slice_get xs k ≡ Some x
got [] k x h is = absurd (omega (arith, h))
got (y ∷ ys) zero x h is = ap (λ (z : _). Some z) (sym is)
got (y ∷ ys) (suc k) x h is = let later : k < length ys = omega arith in got ys k x later is

-- a value that may be there, or else another
abbrev pub or_else : {X : Type 0} → X → Option X → X
or_else d None = d
or_else d (Some x) = x

abbrev pub object_of_calls : ObjectCalls → ObjectId
object_of_calls c = c.object

abbrev pub object_of_plan : Planned → ObjectId
object_of_plan p = p.object

abbrev pub calls_in_all : Option ObjectCalls → List CallNote
calls_in_all None = []
calls_in_all (Some c) = c.calls

-- as many objects are recorded as are planned
pub as_many : (calls : List ObjectCalls) (plans : List Planned) → map object_of_calls calls ≡ map object_of_plan plans → length calls ≡ length plans
as_many calls plans named = sym (length-map calls object_of_calls) ∙ ap (λ (os : List ObjectId). length os) named ∙ length-map plans object_of_plan

-- as many are planned as objects stand for
pub as_planned : (script : ScriptData) (objects : List PlannedObject) → planned_objects objects ≡ (setting_of script).objects → length objects ≡ length (setting_of script).objects
as_planned script objects planned = sym (length-map objects planned_object) ∙ ap (λ (ps : List Planned). length ps) planned

pub planned_within : (script : ScriptData) (objects : List PlannedObject) (k : ℕ) → planned_objects objects ≡ (setting_of script).objects → k < length objects → k < length (setting_of script).objects
planned_within script objects k planned within = subst (λ (n : ℕ). k < n) (as_planned script objects planned) within

pub recorded_within : (script : ScriptData) (run : RunData) (recorded : List (ObjectId × Vec CallNote)) (objects : List PlannedObject) (k : ℕ) → view.calls_of recorded ≡ run.calls
    → planned_objects objects ≡ (setting_of script).objects → map object_of_calls run.calls ≡ map object_of_plan (setting_of script).objects → k < length objects → k < length recorded
recorded_within script run recorded objects k are planned named within =
    subst (λ (n : ℕ). k < n)
    (sym (sym (length-map recorded view.calls_in) ∙ ap (λ (cs : List ObjectCalls). length cs) are ∙ as_many run.calls (setting_of script).objects named))
    (planned_within script objects k planned within)

module _ (script : ScriptData) (run : RunData) (recorded : List (ObjectId × Vec CallNote)) (objects : List PlannedObject) (k : ℕ) (e : ObjectId × Vec CallNote) (x : PlannedObject)
    (are : view.calls_of recorded ≡ run.calls) (planned : planned_objects objects ≡ (setting_of script).objects)
    (named : map object_of_calls run.calls ≡ map object_of_plan (setting_of script).objects) (within : k < length objects) (is_e : e ≡ get_or recorded k e) (is_x : x ≡ get_or objects k x) where
  has_recorded : k < length recorded
  has_recorded = recorded_within script run recorded objects k are planned named within

  recorded_here : slice_get run.calls k ≡ Some (view.calls_in e)
  recorded_here =
      ap (λ (cs : List ObjectCalls). slice_get cs k) (sym are)
      ∙ slice_get-map view.calls_in recorded k
      ∙ ap (λ (o : Option (ObjectId × Vec CallNote)). option_map view.calls_in o) (got recorded k e has_recorded is_e)

  planned_here : slice_get (setting_of script).objects k ≡ Some (planned_object x)
  planned_here =
      ap (λ (ps : List Planned). slice_get ps k) (sym planned)
      ∙ slice_get-map planned_object objects k
      ∙ ap (λ (o : Option PlannedObject). option_map planned_object o) (got objects k x within is_x)

  wanted_here : slice_get (map (object_calls (setting_of script) run.queues) (setting_of script).objects) k ≡ Some (object_calls (setting_of script) run.queues (planned_object x))
  wanted_here =
      slice_get-map (object_calls (setting_of script) run.queues) (setting_of script).objects k
      ∙ ap (λ (o : Option Planned). option_map (object_calls (setting_of script) run.queues) o) planned_here

  same_object : e.0 ≡ x.object
  same_object =
      ap (λ (o : Option ObjectId). or_else e.0 o)
      (ap (λ (o : Option ObjectCalls). option_map object_of_calls o) (sym recorded_here)
      ∙ sym (slice_get-map object_of_calls run.calls k)
      ∙ ap (λ (os : List ObjectId). slice_get os k) named
      ∙ slice_get-map object_of_plan (setting_of script).objects k
      ∙ ap (λ (o : Option Planned). option_map object_of_plan o) planned_here)

  pub calls_kept : (calls : List CallNote) → calls ≡ (object_calls (setting_of script) run.queues (planned_object x)).calls → e.1.items ≡ calls → KeepsCalls script run k
  calls_kept calls told same =
      recorded_here
      ∙ ap (λ (o : ObjectId). Some (record { object = o; calls = e.1.items })) same_object
      ∙ ap (λ (cs : List CallNote). Some (record { object = x.object; calls = cs })) (same ∙ told)
      ∙ sym wanted_here

  pub calls_back : (calls : List CallNote) → calls ≡ (object_calls (setting_of script) run.queues (planned_object x)).calls → KeepsCalls script run k → e.1.items ≡ calls
  calls_back calls told kept = ap calls_in_all (sym recorded_here ∙ kept ∙ wanted_here) ∙ sym told

-- what a queue that was served again makes, in the words of the script
pub told_calls : (script : ScriptData) (run : RunData) (plans : List Planned) (served : List ServedData) (p : Planned) (calls : List CallNote)
    → plans ≡ (setting_of script).objects → journals_of served ≡ run.queues → calls ≡ (calls_by plans (journals_of served) p).calls → calls ≡ (object_calls (setting_of script) run.queues p).calls
told_calls script run plans served p calls are journals told =
    told
    ∙ ap (λ (ps : List Planned). (calls_by ps (journals_of served) p).calls) are
    ∙ ap (λ (js : List (List (ℕ × QueueNote))). (calls_by (setting_of script).objects js p).calls) journals
