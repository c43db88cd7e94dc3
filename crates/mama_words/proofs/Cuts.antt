-- How a loop over the bytes finds where to cut.
use Rattle.std.proofs.Common.{◌≡◌, ℕ, ◌+◌, ◌-◌, ◌<◌, ◌≤◌, Bool, true, false, eqb, List, [], ◌∷◌, ◌++◌, length, get_or, take, drop, Option, Some, None, refl, sym, ap, ◌∙◌, append_assoc, eq-eqb}
use Rattle.std.proofs.lemmas.Bool.{ne_eqb}
use Rattle.std.proofs.lemmas.List.{append-nil, drop_more, take_more, take_rest, drop_all}
use Rattle.mama_words.specs.Parting.{onto_cut, cut_at, onto_first, pieces}

pub onto_cut-onto_cut : (a b : List ℕ) (cut : Option (List ℕ × List ℕ)) → onto_cut a (onto_cut b cut) ≡ onto_cut (a ++ b) cut
onto_cut-onto_cut a b None = refl
onto_cut-onto_cut a b (Some x) = ap (λ (t : List ℕ). Some (t, x.1)) (sym (append_assoc a b x.0))

pub onto_cut-nil : (cut : Option (List ℕ × List ℕ)) → onto_cut [] cut ≡ cut
onto_cut-nil None = refl
onto_cut-nil (Some x) = refl

-- one byte more stands before the cut
pub onto_cut_more : (text : List ℕ) (i : ℕ) (cut : Option (List ℕ × List ℕ)) → i < length text → onto_cut (take i text) (onto_cut (get_or text i 0 ∷ []) cut) ≡ onto_cut (take (i + 1) text) cut
onto_cut_more text i cut lt = onto_cut-onto_cut (take i text) (get_or text i 0 ∷ []) cut ∙ ap (λ (t : List ℕ). onto_cut t cut) (sym (take_more text i 0 lt))

-- what a slice from the next byte on is
pub rest_after : (text : List ℕ) (i : ℕ) → take (length text - (i + 1)) (drop (i + 1) text) ≡ drop (i + 1) text
rest_after text i = take_rest text (i + 1)

at_head : (c b : ℕ) (bs : List ℕ) → b ≡ c → cut_at c (b ∷ bs) ≡ Some ([], bs)
at_head c b bs e = rw (eq-eqb b c e) refl

past_head : (c b : ℕ) (bs : List ℕ) → (b ≡ c → ⊥) → cut_at c (b ∷ bs) ≡ onto_cut (b ∷ []) (cut_at c bs)
past_head c b bs ne = rw (ne_eqb b c ne) refl

pub cut_at_found : (c : ℕ) (text : List ℕ) (i : ℕ) → i < length text → get_or text i 0 ≡ c → onto_cut (take i text) (cut_at c (drop i text)) ≡ cut_at c text
    → Some (take i text, take (length text - (i + 1)) (drop (i + 1) text)) ≡ cut_at c text
cut_at_found c text i lt e so_far =
    let here : cut_at c (drop i text) ≡ Some ([], drop (i + 1) text) = ap (cut_at c) (drop_more text i 0 lt) ∙ at_head c (get_or text i 0) (drop (i + 1) text) e in
    let whole : onto_cut (take i text) (cut_at c (drop i text)) ≡ Some (take i text, drop (i + 1) text) = ap (onto_cut (take i text)) here ∙ ap (λ (t : List ℕ). Some (t, drop (i + 1) text)) (append-nil (take i text)) in
    ap (λ (t : List ℕ). Some (take i text, t)) (rest_after text i) ∙ sym whole ∙ so_far

pub cut_at_more : (c : ℕ) (text : List ℕ) (i : ℕ) → i < length text → (get_or text i 0 ≡ c → ⊥) → onto_cut (take i text) (cut_at c (drop i text)) ≡ cut_at c text
    → onto_cut (take (i + 1) text) (cut_at c (drop (i + 1) text)) ≡ cut_at c text
cut_at_more c text i lt ne so_far =
    let here : cut_at c (drop i text) ≡ onto_cut (get_or text i 0 ∷ []) (cut_at c (drop (i + 1) text)) = ap (cut_at c) (drop_more text i 0 lt) ∙ past_head c (get_or text i 0) (drop (i + 1) text) ne in
    sym (onto_cut_more text i (cut_at c (drop (i + 1) text)) lt) ∙ sym (ap (onto_cut (take i text)) here) ∙ so_far

pub cut_at_none : (c : ℕ) (text : List ℕ) (i : ℕ) → length text ≤ i → onto_cut (take i text) (cut_at c (drop i text)) ≡ cut_at c text → None ≡ cut_at c text
cut_at_none c text i le so_far = sym (ap (λ (t : List ℕ). onto_cut (take i text) (cut_at c t)) (drop_all i text le)) ∙ so_far

-- the pieces are what stands before the first cut, and the pieces behind it

abbrev pieces_of : ℕ → Option (List ℕ × List ℕ) → List ℕ → List (List ℕ)
pieces_of c None all = all ∷ []
pieces_of c (Some cut) all = cut.0 ∷ pieces c cut.1

onto_pieces : (c b : ℕ) (bs : List ℕ) (cut : Option (List ℕ × List ℕ)) → onto_first b (pieces_of c cut bs) ≡ pieces_of c (onto_cut (b ∷ []) cut) (b ∷ bs)
onto_pieces c b bs None = refl
onto_pieces c b bs (Some cut) = refl

pieces_step : (c b : ℕ) (bs : List ℕ) (here : Bool) → eqb b c ≡ here → pieces c bs ≡ pieces_of c (cut_at c bs) bs → pieces c (b ∷ bs) ≡ pieces_of c (cut_at c (b ∷ bs)) (b ∷ bs)
pieces_step c b bs true e more = rw e refl
pieces_step c b bs false e more = rw e (ap (onto_first b) more ∙ onto_pieces c b bs (cut_at c bs))

pieces_from_cut : (c : ℕ) (text : List ℕ) → pieces c text ≡ pieces_of c (cut_at c text) text
pieces_from_cut c [] = refl
pieces_from_cut c (b ∷ bs) = pieces_step c b bs (eqb b c) refl (pieces_from_cut c bs)

pub pieces_at_some : (c : ℕ) (text before rest : List ℕ) → cut_at c text ≡ Some (before, rest) → pieces c text ≡ before ∷ pieces c rest
pieces_at_some c text before rest e = pieces_from_cut c text ∙ ap (λ (x : Option (List ℕ × List ℕ)). pieces_of c x text) e

pub pieces_at_none : (c : ℕ) (text : List ℕ) → cut_at c text ≡ None → pieces c text ≡ text ∷ []
pieces_at_none c text e = pieces_from_cut c text ∙ ap (λ (x : Option (List ℕ × List ℕ)). pieces_of c x text) e
