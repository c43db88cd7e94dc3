-- What is read as an id is so spelled, and what is so spelled is read.
use Rattle.std.proofs.Common.{◌≡◌, ℕ, Bool, true, false, eqb, List, [], ◌∷◌, ◌++◌, Some, None, refl, sym, ap, subst, ◌∙◌, eq-eqb}
use Rattle.std.specs.Prelude.{option_and_then, option_map}
use Rattle.std.proofs.lemmas.Bool.{eqb-true}
use Rattle.mama_edge.specs.Decimal.{decimal}
use Rattle.mama_words.specs.declared.id.IdWord.{IdWord}
use Rattle.mama_words.specs.Parting.{cut_at}
use Rattle.mama_words.specs.Number.{number_in}
use Rattle.mama_words.specs.Id.{numbers_text, id_text, pair_in, id_in}
use Rattle.mama_words.specs.Order.{IsId}
use Rattle.mama_words.proofs.Choices.{map_some, and_then_some}
use Rattle.mama_words.proofs.Numbers.{number_in_again, number_in_found}
use Rattle.mama_words.proofs.Cutting.{cut_at_again, cut_at_split, decimal_lacks}

id_at : (letter b : ℕ) (bs : List ℕ) → eqb b letter ≡ true → id_in letter (b ∷ bs) ≡ option_and_then pair_in (cut_at 46 bs)
id_at letter b bs e = rw e refl

id_not_at : (letter b : ℕ) (bs : List ℕ) → eqb b letter ≡ false → id_in letter (b ∷ bs) ≡ None
id_not_at letter b bs e = rw e refl

pub id_again : (letter : ℕ) (id : IdWord) → IsId id → id_in letter (id_text letter id) ≡ Some id
id_again letter id fits =
    id_at letter letter (numbers_text id) (eq-eqb letter letter refl)
    ∙ ap (option_and_then pair_in) (cut_at_again 46 (decimal id.client) (decimal id.number) (decimal_lacks 46 id.client refl fits.client))
    ∙ rw (number_in_again id.client fits.client, number_in_again id.number fits.number) refl

pair_found : (cut : List ℕ × List ℕ) (id : IdWord) → pair_in cut ≡ Some id → IsId id × (cut.0 ≡ decimal id.client) × (cut.1 ≡ decimal id.number)
pair_found cut id e =
    let p = and_then_some (λ c. option_map (λ n. record { client = c; number = n }) (number_in cut.1)) (number_in cut.0) id e in
    let q = map_some (λ n. record { client = p.0; number = n }) (number_in cut.1) id p.2 in
    let c = number_in_found cut.0 p.0 p.1 in
    let n = number_in_found cut.1 q.0 q.1 in
    subst (λ (x : IdWord). IsId x × (cut.0 ≡ decimal x.client) × (cut.1 ≡ decimal x.number)) q.2 (record { client = c.0; number = n.0 }, c.1, n.1)

found_at : (letter b : ℕ) (bs : List ℕ) (here : Bool) (id : IdWord) → eqb b letter ≡ here → id_in letter (b ∷ bs) ≡ Some id → IsId id × (b ∷ bs ≡ id_text letter id)
found_at letter b bs true id h e =
    let p = and_then_some pair_in (cut_at 46 bs) id (sym (id_at letter b bs h) ∙ e) in
    let q = pair_found p.0 id p.2 in
    let split = cut_at_split 46 bs p.0 p.1 in
    (q.0, ap (λ (k : ℕ). k ∷ bs) (eqb-true b letter h) ∙ ap (λ (t : List ℕ). letter ∷ t) (split ∙ ap (λ (t : List ℕ). t ++ 46 ∷ p.0.1) q.1 ∙ ap (λ (t : List ℕ). decimal id.client ++ 46 ∷ t) q.2))
found_at letter b bs false id h e = let bad : None ≡ Some id = sym (id_not_at letter b bs h) ∙ e in absurd cc

pub id_found : (letter : ℕ) (word : List ℕ) (id : IdWord) → id_in letter word ≡ Some id → IsId id × (word ≡ id_text letter id)
id_found letter [] id e = absurd cc
id_found letter (b ∷ bs) id e = found_at letter b bs (eqb b letter) id refl e
