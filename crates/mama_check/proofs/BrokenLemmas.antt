-- What the first that breaks a rule says, where it is found or none is.
use Rattle.std.specs.Prelude.{◌↔◌, slice_get, Option, None, Some, is_some, IfNone}
use Rattle.std.specs.Bool.{OnTrue}
use Rattle.std.proofs.Common.{◌≡◌, ℕ, Bool, true, false, List, length, map, refl, sym, ◌∙◌, ap, subst, true≢false}
use Rattle.mama_event.specs.declared.ids.ObjectId.{ObjectId}
use Rattle.mama_script.specs.Script.{ScriptData}
use Rattle.mama_record.specs.RunData.{RunData}
use Rattle.mama_rules_rounds.specs.Client.{Planned}
use Rattle.mama_rules_rounds.specs.Sections.{setting_of}
use Rattle.mama_check.specs.First.{IsFirst}
use Rattle.mama_check.specs.Rules.{KeepsCalls}
use Rattle.mama_check.specs.Images.{KeepsImage}
use Rattle.mama_check.specs.declared.verdict.Actor.TheVariants.{Object}
use Rattle.mama_check.specs.Verdict.{IsBroken, KeepAllLines, KeepEdges, KeepCalls, rule_of, calls, images}
use Rattle.mama_check.proofs.CallLemmas.{object_of_plan}
use Rattle.mama_check.proofs.ImageWalk.{HasPlan, plan_there}

pub first_at : (Keeps : ℕ → Type 0) (n : ℕ) (found : Option ℕ) (k : ℕ) → found ≡ Some k → IsFirst Keeps n found → IsFirst Keeps n (Some k)
first_at Keeps n found k is first = subst (λ (o : Option ℕ). IsFirst Keeps n o) is first

pub none_breaks : (Keeps : ℕ → Type 0) (n : ℕ) (found : Option ℕ) → ((k : ℕ) → found ≡ Some k → ⊥) → IsFirst Keeps n found → IsFirst Keeps n None
none_breaks Keeps n None none first = first
none_breaks Keeps n (Some k) none first = absurd (none k refl)

-- what is said where nothing was found, and where something is true
pub if_none : {X : Type 0} (found : Option X) (P : Type 0) → ((x : X) → found ≡ Some x → ⊥) → IfNone found P → P
if_none None P none holds = holds
if_none (Some x) P none holds = absurd (none x refl)

pub if_true : (b : Bool) (P : Type 0) → b ≡ true → OnTrue b P → P
if_true b P is holds = subst (λ (v : Bool). OnTrue v P) is holds

-- the needs of an actor are found exactly where it keeps a rule
pub found_keeps : {X : Type 0} (found : Option X) (x : X) (Keeps : Type 0) → found ≡ Some x → (is_some found ≡ true) ↔ Keeps → Keeps
found_keeps {X} found x Keeps is tells = tells.0 (ap (λ (o : Option X). is_some o) is)

pub none_keeps : {X : Type 0} (found : Option X) (Keeps : Type 0) → found ≡ None → (is_some found ≡ true) ↔ Keeps → Keeps → ⊥
none_keeps {X} found Keeps is tells kept = true≢false (sym (tells.1 kept) ∙ ap (λ (o : Option X). is_some o) is)

pub yes_keeps : (Keeps : Type 0) → Keeps → (true ≡ true) ↔ Keeps
yes_keeps Keeps kept = (λ _. kept, λ _. refl)

pub no_keeps : (Keeps : Type 0) → (Keeps → ⊥) → (false ≡ true) ↔ Keeps
no_keeps Keeps broken = (λ is. absurd (true≢false (sym is)), λ kept. absurd (broken kept))

pub not_whole : (whole : Bool) (Keeps : Type 0) → (Keeps → whole ≡ true) → whole ≡ false → Keeps → ⊥
not_whole whole Keeps tells other kept = true≢false (sym (tells kept) ∙ other)

module _ (script : ScriptData) (run : RunData) (plans : List Planned) (k : ℕ) (o : ObjectId) (done : KeepAllLines script run) (whole : KeepEdges script run)
    (are : plans ≡ (setting_of script).objects) (there : slice_get (map object_of_plan plans) k ≡ Some o) where
  planned : HasPlan (setting_of script).objects k o
  planned = plan_there (setting_of script).objects k o (ap (λ (ps : List Planned). slice_get (map object_of_plan ps) k) (sym are) ∙ there)

  pub broken_calls : (rule : ℕ) → rule ≡ rule_of o → IsFirst (KeepsCalls script run) (length (setting_of script).objects) (Some k) → IsBroken script run rule (Object o)
  broken_calls rule is first =
      subst (λ (n : ℕ). IsBroken script run n (Object o)) (sym is)
      (subst (λ (x : ObjectId). IsBroken script run (rule_of x) (Object x)) planned.names (calls k planned.plan done.moments done.lines whole first planned.stands))

  pub broken_images : KeepCalls script run → IsFirst (KeepsImage script run) (length (setting_of script).objects) (Some k) → IsBroken script run 8 (Object o)
  broken_images told first =
      subst (λ (x : ObjectId). IsBroken script run 8 (Object x)) planned.names (images k planned.plan done.moments done.lines whole told first planned.stands)
