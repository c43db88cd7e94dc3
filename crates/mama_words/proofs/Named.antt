-- What a word names: the first of a list whose text it is, which has it as its text.
use Rattle.std.proofs.Common.{◌≡◌, ℕ, ◌+◌, ◌<◌, false, List, [], ◌∷◌, length, drop, get_or, Option, Some, refl, sym, ap, subst, ◌∙◌, inl, inr}
use Rattle.std.specs.Str.{bytes_eq}
use Rattle.std.proofs.lemmas.List.{drop_more}
use Rattle.mama_words.specs.Named.{named_in}
use Rattle.mama_words.proofs.Choices.{some_is, chosen, same_text}

pub named_found : {K : Type 0} (text : K → List ℕ) (word : List ℕ) (ks : List K) (x : K) → named_in text word ks ≡ Some x → word ≡ text x
named_found text word [] x e = absurd cc
named_found {K} text word (k ∷ ks) x e =
    elim (chosen (bytes_eq word (text k)) (Some k) (named_in text word ks) (Some x) e) [
      | inl p ↦ subst (λ (y : K). word ≡ text y) (some_is k x p.1) (same_text word (text k) p.0)
      | inr p ↦ named_found text word ks x p.1
    ]

-- past a thing with another text
pub named_more : {K : Type 0} (text : K → List ℕ) (word : List ℕ) (ks : List K) (i : ℕ) (k : K) (r : Option K) → i < length ks → k ≡ get_or ks i k → bytes_eq word (text k) ≡ false
    → named_in text word (drop i ks) ≡ r → named_in text word (drop (i + 1) ks) ≡ r
named_more {K} text word ks i k r lt is other so_far =
    let at : drop i ks ≡ k ∷ drop (i + 1) ks = drop_more ks i k lt ∙ ap (λ (x : K). x ∷ drop (i + 1) ks) (sym is) in
    let here : named_in text word (k ∷ drop (i + 1) ks) ≡ named_in text word (drop (i + 1) ks) = rw other refl in
    sym here ∙ sym (ap (named_in text word) at) ∙ so_far
