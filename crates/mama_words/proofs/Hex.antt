-- Reading hexadecimal digits one pair after the other.
use Rattle.std.proofs.Common.{◌≡◌, ℕ, ◌-◌, ◌<◌, ◌≤◌, List, [], ◌∷◌, ◌++◌, length, get_or, take, drop, Option, Some, None, refl, sym, ap, ◌∙◌, append_assoc, arith}
use Rattle.std.specs.Prelude.{option_and_then}
use Rattle.std.proofs.lemmas.List.{append-nil, take_rest, length-drop}
use Rattle.mama_words.specs.Value.{onto, hex_in, pair_in}

pub onto-nil : (o : Option (List ℕ)) → onto [] o ≡ o
onto-nil None = refl
onto-nil (Some bs) = refl

onto-onto : (a b : List ℕ) (o : Option (List ℕ)) → onto a (onto b o) ≡ onto (a ++ b) o
onto-onto a b None = refl
onto-onto a b (Some bs) = ap (λ (t : List ℕ). Some t) (sym (append_assoc a b bs))

pub hex_more : (front rest after : List ℕ) (high low byte : ℕ) (total : Option (List ℕ)) → rest ≡ high ∷ low ∷ after → Some byte ≡ pair_in high low → onto front (hex_in rest) ≡ total → onto (front ++ byte ∷ []) (hex_in after) ≡ total
hex_more front rest after high low byte total split read so_far =
    let one : hex_in rest ≡ onto (byte ∷ []) (hex_in after) = ap hex_in split ∙ ap (λ (o : Option ℕ). option_and_then (λ b. onto (b ∷ []) (hex_in after)) o) (sym read) in
    sym (onto-onto front (byte ∷ []) (hex_in after)) ∙ ap (onto front) (sym one) ∙ so_far

pub hex_fails : (front rest after : List ℕ) (high low : ℕ) (total : Option (List ℕ)) → rest ≡ high ∷ low ∷ after → None ≡ pair_in high low → onto front (hex_in rest) ≡ total → None ≡ total
hex_fails front rest after high low total split read so_far =
    let one : hex_in rest ≡ None = ap hex_in split ∙ ap (λ (o : Option ℕ). option_and_then (λ b. onto (b ∷ []) (hex_in after)) o) (sym read) in
    sym (ap (onto front) one) ∙ so_far

heads : (rest : List ℕ) → 2 ≤ length rest → rest ≡ get_or rest 0 0 ∷ get_or rest 1 0 ∷ drop 2 rest
heads [] le = absurd (omega arith)
heads (a ∷ []) le = absurd (omega arith)
heads (a ∷ b ∷ rest) le = refl

pub two_heads : (rest : List ℕ) → 2 ≤ length rest → rest ≡ get_or rest 0 0 ∷ get_or rest 1 0 ∷ take (length rest - 2) (drop 2 rest)
two_heads rest le = heads rest le ∙ ap (λ (t : List ℕ). get_or rest 0 0 ∷ get_or rest 1 0 ∷ t) (sym (take_rest rest 2))

pub shorter : (rest : List ℕ) → 2 ≤ length rest → length (take (length rest - 2) (drop 2 rest)) < length rest
shorter rest le = rw take_rest (omega (arith, length-drop 2 rest))

pub hex_odd : (front rest : List ℕ) (total : Option (List ℕ)) → length rest < 2 → (length rest ≡ 0 → ⊥) → onto front (hex_in rest) ≡ total → None ≡ total
hex_odd front [] total lt ne so_far = absurd (ne refl)
hex_odd front (a ∷ []) total lt ne so_far = so_far
hex_odd front (a ∷ b ∷ rest) total lt ne so_far = absurd (omega arith)

pub hex_all : (front rest : List ℕ) (total : Option (List ℕ)) → length rest ≡ 0 → onto front (hex_in rest) ≡ total → Some front ≡ total
hex_all front [] total e so_far = ap (λ (t : List ℕ). Some t) (sym (append-nil front)) ∙ so_far
hex_all front (a ∷ rest) total e so_far = absurd (omega arith)
