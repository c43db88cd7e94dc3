-- Reading fids word by word.
use Rattle.std.proofs.Common.{◌≡◌, ℕ, ◌+◌, ◌<◌, List, [], ◌∷◌, ◌++◌, length, take, set, Option, Some, None, refl, sym, ap, ◌∙◌, append_assoc}
use Rattle.std.specs.Prelude.{option_and_then}
use Rattle.std.proofs.lemmas.List.{take_more_set}
use Rattle.mama_words.specs.Value.{onto}
use Rattle.mama_words.specs.Number.{between_in}
use Rattle.mama_words.specs.Order.{cons_fid, fids_in}

onto_cons : (front : List ℕ) (f : ℕ) (r : Option (List ℕ)) → onto front (cons_fid f r) ≡ onto (front ++ f ∷ []) r
onto_cons front f None = refl
onto_cons front f (Some fs) = ap (λ (xs : List ℕ). Some xs) (sym (append_assoc front (f ∷ []) fs))

pub fids_more : (fids : List ℕ) (i : ℕ) (w : List ℕ) (ws : List (List ℕ)) (f : ℕ) (total : Option (List ℕ)) → i < length fids → Some f ≡ between_in 1 65535 w → onto (take i fids) (fids_in (w ∷ ws)) ≡ total
    → onto (take (i + 1) (set fids i f)) (fids_in ws) ≡ total
fids_more fids i w ws f total lt e so_far =
    let one : fids_in (w ∷ ws) ≡ cons_fid f (fids_in ws) = ap (λ (o : Option ℕ). option_and_then (λ n. cons_fid n (fids_in ws)) o) (sym e) in
    ap (λ (xs : List ℕ). onto xs (fids_in ws)) (take_more_set fids i f lt) ∙ sym (onto_cons (take i fids) f (fids_in ws)) ∙ sym (ap (onto (take i fids)) one) ∙ so_far

pub fids_fail : (front w : List ℕ) (ws : List (List ℕ)) (total : Option (List ℕ)) → None ≡ between_in 1 65535 w → onto front (fids_in (w ∷ ws)) ≡ total → None ≡ total
fids_fail front w ws total e so_far =
    let one : fids_in (w ∷ ws) ≡ None = ap (λ (o : Option ℕ). option_and_then (λ n. cons_fid n (fids_in ws)) o) (sym e) in
    sym (ap (onto front) one) ∙ so_far
