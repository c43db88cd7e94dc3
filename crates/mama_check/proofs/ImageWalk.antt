-- Where a walk over objects and images stands.
use Rattle.std.specs.Prelude.{slice_get, Option, None, Some, option_map}
use Rattle.std.proofs.Common.{◌≡◌, ◌≢◌, ℕ, zero, suc, ◌+◌, ◌<◌, ◌≤◌, List, [], ◌∷◌, length, map, drop, get_or, refl, sym, ◌∙◌, ap, subst, arith, below_more}
use Rattle.std.proofs.lemmas.List.{drop_more, length-map}
use Rattle.std.proofs.lemmas.Option.{slice_get-map}
use Rattle.mama_event.specs.declared.ids.ObjectId.{ObjectId}
use Rattle.mama_event.specs.declared.ids.ObjectId.TheVariants.{Sub, Timer, Inbox}
use Rattle.mama_event.specs.declared.to_queue.QueueNote.{QueueNote}
use Rattle.mama_script.specs.Script.{ScriptData}
use Rattle.mama_record.specs.RunData.{RunData, LastImage}
use Rattle.mama_rules_rounds.specs.Client.{Planned}
use Rattle.mama_rules_rounds.specs.Setting.{Setting}
use Rattle.mama_rules_rounds.specs.Sections.{setting_of}
use Rattle.mama_rules_rounds.specs.Told.{last_image}
use Rattle.mama_plans.specs.declared.plans.PlannedObject.{PlannedObject}
use Rattle.mama_plans.specs.Plans.{planned_object, planned_objects}
use Rattle.mama_check_queue.specs.Served.{ServedData}
use Rattle.mama_check_queue.specs.Recorded.{journals_of, images_by}
use Rattle.mama_rules_legal.specs.Form.{IsFormed}
use Rattle.mama_check.specs.First.{IsFirst}
use Rattle.mama_check.specs.Images.{KeepsImage, images_for, first_for, rest_for}
use Rattle.mama_check.proofs.CallLemmas.{got, as_planned, object_of_plan}
use Rattle.mama_check.proofs.Alone.{AreAlone, alone_rest, objects_alone}
use Rattle.mama_check.proofs.ImageLemmas.{Stand, IsPassed, passed}

-- What is left stands in the order of the objects that are left, and has their images; all objects before keep theirs.
pub record IsAt (script : ScriptData) (run : RunData) (i : ℕ) (ps : List Planned) (left : List LastImage) : Type 0 where
  pub alone : AreAlone ps
  pub order : Stand ps left
  pub same : (k : ℕ) (p : Planned) → slice_get ps k ≡ Some p → images_for p.object run.images ≡ images_for p.object left
  pub kept : (j : ℕ) → j < i → KeepsImage script run j

pub at_start : (script : ScriptData) (run : RunData) (objects : List PlannedObject) (images : List LastImage) → IsFormed script run → planned_objects objects ≡ (setting_of script).objects → images ≡ run.images
    → IsAt script run 0 (planned_objects objects) images
at_start script run objects images formed are is = record {
  alone = subst (λ (ps : List Planned). AreAlone ps) (sym are) (objects_alone script);
  order = subst (λ (ps : List Planned). Stand ps images) (sym are) (subst (λ (xs : List LastImage). Stand (setting_of script).objects xs) (sym is) (record { stands = formed.images }));
  same = λ k p there. ap (λ (xs : List LastImage). images_for p.object xs) (sym is);
  kept = λ j low. absurd (omega (arith, low));
}

-- what a queue that was served again leaves, in the words of the script
by_object : (setting : Setting) (queues : List (List (ℕ × QueueNote))) (p : Planned) (o : ObjectId) → images_by setting.objects queues (record p { object = o }) ≡ last_image setting queues (record p { object = o })
by_object setting queues p (Sub s) = refl
by_object setting queues p (Timer t) = refl
by_object setting queues p (Inbox t) = refl

pub left_by : (script : ScriptData) (run : RunData) (plans : List Planned) (served : List ServedData) (p : Planned) → plans ≡ (setting_of script).objects → journals_of served ≡ run.queues
    → images_by plans (journals_of served) p ≡ last_image (setting_of script) run.queues p
left_by script run plans served p are journals =
    ap (λ (ps : List Planned). images_by ps (journals_of served) p) are
    ∙ ap (λ (js : List (List (ℕ × QueueNote))). images_by (setting_of script).objects js p) journals
    ∙ by_object (setting_of script) run.queues p p.object

module _ (script : ScriptData) (run : RunData) (plans : List Planned) (served : List ServedData) (objects : List PlannedObject) (i : ℕ) (x : PlannedObject) (left : List LastImage)
    (are : planned_objects objects ≡ plans) (script_plans : plans ≡ (setting_of script).objects) (journals : journals_of served ≡ run.queues)
    (within : i < length objects) (is_x : x ≡ get_or objects i x) (at : IsAt script run i (planned_objects (drop i objects)) left) where
  next : planned_objects (drop i objects) ≡ planned_object x ∷ planned_objects (drop (i + 1) objects)
  next = ap (λ (os : List PlannedObject). planned_objects os) (drop_more objects i x within ∙ ap (λ (y : PlannedObject). y ∷ drop (i + 1) objects) (sym is_x))

  here : IsAt script run i (planned_object x ∷ planned_objects (drop (i + 1) objects)) left
  here = subst (λ (ps : List Planned). IsAt script run i ps left) next at

  pass : IsPassed x.object (planned_objects (drop (i + 1) objects)) left
  pass = passed (planned_object x) (planned_objects (drop (i + 1) objects)) left here.alone here.order

  stands_here : slice_get (setting_of script).objects i ≡ Some (planned_object x)
  stands_here =
      ap (λ (ps : List Planned). slice_get ps i) (sym (are ∙ script_plans))
      ∙ slice_get-map planned_object objects i
      ∙ ap (λ (o : Option PlannedObject). option_map planned_object o) (got objects i x within is_x)

  first_images : images_for x.object run.images ≡ first_for x.object left
  first_images = here.same 0 (planned_object x) refl ∙ pass.own

  keeps : first_for x.object left ≡ images_by plans (journals_of served) (planned_object x) → KeepsImage script run i
  keeps found p there =
      let both : Some (planned_object x) ≡ Some p = sym stands_here ∙ there in
      let same : planned_object x ≡ p = cc in
      subst (λ (q : Planned). images_for q.object run.images ≡ last_image (setting_of script) run.queues q) same
      (first_images ∙ found ∙ left_by script run plans served (planned_object x) script_plans journals)

  pub at_next : (rest : List LastImage) → first_for x.object left ≡ images_by plans (journals_of served) (planned_object x) → rest ≡ rest_for x.object left
      → IsAt script run (i + 1) (planned_objects (drop (i + 1) objects)) rest
  at_next rest found is = record {
    alone = alone_rest (planned_object x) (planned_objects (drop (i + 1) objects)) here.alone;
    order = subst (λ (xs : List LastImage). Stand (planned_objects (drop (i + 1) objects)) xs) (sym is) pass.order;
    same = λ k p there. here.same (suc k) p there ∙ pass.others k p there ∙ ap (λ (xs : List LastImage). images_for p.object xs) (sym is);
    kept = below_more _ _ here.kept (keeps found);
  }

  pub first_here : first_for x.object left ≢ images_by plans (journals_of served) (planned_object x) → IsFirst (KeepsImage script run) (length (setting_of script).objects) (Some i)
  first_here other = (
    subst (λ (n : ℕ). i < n) (as_planned script objects (are ∙ script_plans)) within,
    (λ kept. other (sym first_images ∙ kept (planned_object x) stands_here ∙ sym (left_by script run plans served (planned_object x) script_plans journals))),
    here.kept,
  )

pub at_end : (script : ScriptData) (run : RunData) (objects : List PlannedObject) (i : ℕ) (ps : List Planned) (left : List LastImage) → planned_objects objects ≡ (setting_of script).objects
    → length objects ≤ i → IsAt script run i ps left → IsFirst (KeepsImage script run) (length (setting_of script).objects) None
at_end script run objects i ps left are all at k low =
    let inside : k < length objects = subst (λ (n : ℕ). k < n) (sym (as_planned script objects are)) low in
    let below : k < i = omega (arith, inside, all) in
    at.kept k below

-- the object of a number
pub object_there : (plans : List Planned) (objects : List PlannedObject) (k : ℕ) (x : PlannedObject) → planned_objects objects ≡ plans → k < length plans → x ≡ get_or objects k x
    → slice_get (map object_of_plan plans) k ≡ Some x.object
object_there plans objects k x are low is =
    let within : k < length objects = subst (λ (n : ℕ). k < n) (sym (ap (λ (ps : List Planned). length ps) are) ∙ length-map objects planned_object) low in
    ap (λ (ps : List Planned). slice_get (map object_of_plan ps) k) (sym are)
    ∙ slice_get-map object_of_plan (planned_objects objects) k
    ∙ ap (λ (o : Option Planned). option_map object_of_plan o)
    (slice_get-map planned_object objects k ∙ ap (λ (o : Option PlannedObject). option_map planned_object o) (got objects k x within is))

-- the plan of an object that is there
pub record HasPlan (plans : List Planned) (k : ℕ) (o : ObjectId) : Type 0 where
  pub plan : Planned
  pub stands : slice_get plans k ≡ Some plan
  pub names : plan.object ≡ o

pub plan_there : (plans : List Planned) (k : ℕ) (o : ObjectId) → slice_get (map object_of_plan plans) k ≡ Some o → HasPlan plans k o
plan_there [] k o there = let no : None ≡ Some o = there in absurd cc
plan_there (p ∷ ps) zero o there = let here : Some p.object ≡ Some o = there in let same : p.object ≡ o = cc in record { plan = p; stands = refl; names = same }
plan_there (p ∷ ps) (suc k) o there = let later : HasPlan ps k o = plan_there ps k o there in record { plan = later.plan; stands = later.stands; names = later.names }
