-- What comes out of a link before its end, where one message at most goes in.
use Rattle.std.proofs.Common.{◌≡◌, ℕ, Bool, true, false, cond, List, [], ◌∷◌, ◌++◌, map, refl, sym, ◌∙◌, ap, subst, inl, inr, ⊎_elim, ◌⊎◌, append-nil}
use Rattle.mama_link.specs.declared.faults.FaultRow.{FaultRow}
use Rattle.mama_link.proofs.LawLemmas.{emitted, emitted-more}
use Rattle.mama_rules_services.specs.Bridge.{passed_on}

abbrev pub IsFew : {T : Type 0} → List T → Type 0
IsFew {T} ms = (ms ≡ []) ⊎ ((m : T) × (ms ≡ m ∷ []))

pub few_if : {T : Type 0} (b : Bool) (m : T) → IsFew (cond b (m ∷ []) [])
few_if true m = inr (m, refl)
few_if false m = inl refl

pub few_map : {S T : Type 0} (f : S → T) (ms : List S) → IsFew ms → IsFew (map f ms)
few_map f ms is = ⊎_elim (λ none. inl (ap (map f) none)) (λ one. inr (f one.0, ap (map f) one.1)) is

pub emitted_few : {T : Type 0} (cut : ℕ → T → T) (rows : List FaultRow) (x ms : List T) → IsFew ms → emitted cut rows (x ++ ms) ≡ emitted cut rows x ++ passed_on cut rows x ms
emitted_few {T} cut rows x ms is = ⊎_elim
    (λ none. subst (λ (ns : List T). emitted cut rows (x ++ ns) ≡ emitted cut rows x ++ passed_on cut rows x ns) (sym none) (ap (emitted cut rows) (append-nil x) ∙ sym (append-nil (emitted cut rows x))))
    (λ one. subst (λ (ns : List T). emitted cut rows (x ++ ns) ≡ emitted cut rows x ++ passed_on cut rows x ns) (sym one.1) (emitted-more cut rows x one.0))
    is
