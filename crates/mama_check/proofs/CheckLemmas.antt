-- What a verdict says, by what the search told that goes rule by rule.
use Rattle.std.specs.Prelude.{◌↔◌, Option, None, Some, IfNone}
use Rattle.std.proofs.Common.{◌≡◌, ℕ, Bool, true, sym, subst, refl}
use Rattle.mama_script.specs.Script.{ScriptData}
use Rattle.mama_script.specs.Tree.{IsScript}
use Rattle.mama_record.specs.RunData.{RunData}
use Rattle.mama_laws_legal.specs.Laws.{IsOrderly}
use Rattle.mama_rules_legal.specs.Form.{IsFormed}
use Rattle.mama_rules_legal.specs.Legal.{IsLegal}
use Rattle.mama_check.specs.Kept.{KeptIsLegal}
use Rattle.mama_check.specs.Causal.{IsCausal}
use Rattle.mama_check.specs.declared.verdict.Actor.{Actor}
use Rattle.mama_check.specs.declared.verdict.Verdict.{Verdict}
use Rattle.mama_check.specs.declared.verdict.Verdict.TheVariants.{Legal, NotLegal}
use Rattle.mama_check.specs.Verdict.{Finds, IsBroken, Judges, IsTrue, LegalIsTrue, KeepAllLines, KeepEdges, KeepObjects, KeepLists}
use Rattle.mama_check.proofs.VerdictLemmas.{is_legal, not_legal}

module _ (script : ScriptData) (run : RunData) where
  pub found_at : (kept : Type 0) (found : Option (ℕ × Actor)) (broken : ℕ × Actor) → found ≡ Some broken → Finds script run kept found → IsBroken script run broken.0 broken.1
  found_at kept found broken is tells = subst (λ (o : Option (ℕ × Actor)). Finds script run kept o) is tells

  pub found_none : (kept : Type 0) (found : Option (ℕ × Actor)) → ((broken : ℕ × Actor) → found ≡ Some broken → ⊥) → Finds script run kept found → kept
  found_none kept None none tells = tells
  found_none kept (Some broken) none tells = absurd (none broken refl)

  module _ (law : KeptIsLegal) (orderly : IsOrderly script) (formed : IsFormed script run) where
    pub judged_broken : (broken : ℕ × Actor) (verdict : Verdict) → verdict ≡ NotLegal broken.0 broken.1 → IsBroken script run broken.0 broken.1 → Judges script run verdict
    judged_broken broken verdict is breaks =
        subst (λ (v : Verdict). Judges script run v) (sym is) (not_legal script run broken.0 broken.1 law orderly formed breaks, breaks)

    -- no rule is found broken of a legal record
    pub unbroken : (kept P : Type 0) (found : Option (ℕ × Actor)) → IsLegal script run → Finds script run kept found → IfNone found P → P
    unbroken kept P None legal tells holds = holds
    unbroken kept P (Some broken) legal tells holds = absurd (not_legal script run broken.0 broken.1 law orderly formed tells legal)

    pub judged_legal : KeepAllLines script run → KeepEdges script run → KeepObjects script run → KeepLists script run → (causal : Bool) → (causal ≡ true) ↔ IsCausal script run → Judges script run (Legal causal)
    judged_legal done whole told lists causal tells = (is_legal script run law orderly formed done whole told lists, tells)

    pub true_of_legal : IsScript script → LegalIsTrue → KeepAllLines script run → KeepEdges script run → KeepObjects script run → KeepLists script run → IsTrue script run
    true_of_legal is truth done whole told lists = truth script run is (is_legal script run law orderly formed done whole told lists)
