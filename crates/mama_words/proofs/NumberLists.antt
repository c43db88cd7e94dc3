-- What is read as a list of numbers is so spelled, and what is so spelled is read.
use Rattle.std.proofs.Common.{◌≡◌, ℕ, ℤ, pos, negsuc, ◌+◌, ◌<◌, ◌≤◌, ◌^◌, Bool, true, false, cond, eqb, ltb, leb, List, [], ◌∷◌, ◌++◌, length, map, Option, Some, None, refl, sym, ap, subst, ◌∙◌, append_assoc, arith}
use Rattle.std.specs.Prelude.{option_and_then}
use Rattle.std.specs.List.{flat_map, list_any, list_all}
use Rattle.std.proofs.lemmas.Bool.{ltb-true, ltb-false, leb-true, le-leb, lt-leb, eqb-true, or_from, and_parts, and_from, ne_eqb}
use Rattle.std.proofs.lemmas.List.{append-nil, length-append, nil_from_length}
use Rattle.std.proofs.lemmas.List.Folds.{list_any-append}
use Rattle.std.proofs.lemmas.Fmt.{decimal_nonempty}
use Rattle.mama_edge.specs.Decimal.{int_decimal}
use Rattle.mama_words.specs.Parting.{onto_first, pieces, cut_at}
use Rattle.mama_words.specs.Number.{int_in, is_within}
use Rattle.mama_words.specs.NumberList.{after_comma, with_commas, numbers_text, if_last, bracketed_in, before, ints_in, list_in, if_few, numbers_in, AreNumbers}
use Rattle.mama_words.proofs.Choices.{some_is, chosen_some, chosen_other, and_then_some}
use Rattle.mama_words.proofs.Cuts.{pieces_at_some, pieces_at_none}
use Rattle.mama_words.proofs.Cutting.{lacks, cut_at_again, cut_at_none, cut_at_split, int_lacks}
use Rattle.mama_words.proofs.Numbers.{int_in_again, int_in_found}

-- ---- how many

pub if_few_at : (zs : List ℤ) → length zs ≤ 24 → if_few (Some zs) ≡ Some zs
if_few_at zs le = rw (le-leb (length zs) 24 le) refl

pub if_few_not : (zs : List ℤ) → 24 < length zs → if_few (Some zs) ≡ None
if_few_not zs lt = rw (lt-leb (length zs) 24 lt) refl

if_few_is : (o : Option (List ℤ)) (zs : List ℤ) → if_few o ≡ Some zs → (length zs ≤ 24) × (o ≡ Some zs)
if_few_is None zs e = absurd cc
if_few_is (Some xs) zs e =
    let p = chosen_some (leb (length xs) 24) xs zs e in
    subst (λ (x : List ℤ). (length x ≤ 24) × (Some xs ≡ Some x)) p.1 (leb-true (length xs) 24 p.0, refl)

-- ---- one number after the other

-- the numbers so far, before what the rest spells
abbrev pub ahead : List ℤ → Option (List ℤ) → Option (List ℤ)
ahead front None = None
ahead front (Some zs) = Some (front ++ zs)

pub ahead_none : (o : Option (List ℤ)) → ahead [] o ≡ o
ahead_none None = refl
ahead_none (Some zs) = refl

ahead_before : (front : List ℤ) (z : ℤ) (o : Option (List ℤ)) → ahead front (before z o) ≡ ahead (front ++ z ∷ []) o
ahead_before front z None = refl
ahead_before front z (Some zs) = ap (λ (x : List ℤ). Some x) (sym (append_assoc front (z ∷ []) zs))

first_is : (w : List ℕ) (ws : List (List ℕ)) (o : Option ℤ) → o ≡ int_in (2 ^ 63) w → ints_in (w ∷ ws) ≡ option_and_then (λ z. before z (ints_in ws)) o
first_is w ws o e = ap (option_and_then (λ z. before z (ints_in ws))) (sym e)

pub ints_more : (front : List ℤ) (rest piece after : List ℕ) (z : ℤ) (total : Option (List ℤ)) → Some (piece, after) ≡ cut_at 44 rest → Some z ≡ int_in (2 ^ 63) piece → ahead front (ints_in (pieces 44 rest)) ≡ total
    → ahead (front ++ z ∷ []) (ints_in (pieces 44 after)) ≡ total
ints_more front rest piece after z total cut read so_far =
    let one : ints_in (pieces 44 rest) ≡ before z (ints_in (pieces 44 after)) = ap ints_in (pieces_at_some 44 rest piece after (sym cut)) ∙ first_is piece (pieces 44 after) (Some z) read in
    sym (ahead_before front z (ints_in (pieces 44 after))) ∙ sym (ap (ahead front) one) ∙ so_far

pub ints_fail : (front : List ℤ) (rest piece after : List ℕ) (total : Option (List ℤ)) → Some (piece, after) ≡ cut_at 44 rest → None ≡ int_in (2 ^ 63) piece → ahead front (ints_in (pieces 44 rest)) ≡ total → None ≡ total
ints_fail front rest piece after total cut read so_far =
    let one : ints_in (pieces 44 rest) ≡ None = ap ints_in (pieces_at_some 44 rest piece after (sym cut)) ∙ first_is piece (pieces 44 after) None read in
    sym (ap (ahead front) one) ∙ so_far

pub ints_last : (front : List ℤ) (rest : List ℕ) (z : ℤ) (total : Option (List ℤ)) → None ≡ cut_at 44 rest → Some z ≡ int_in (2 ^ 63) rest → ahead front (ints_in (pieces 44 rest)) ≡ total → Some (front ++ z ∷ []) ≡ total
ints_last front rest z total cut read so_far =
    let one : ints_in (pieces 44 rest) ≡ Some (z ∷ []) = ap ints_in (pieces_at_none 44 rest (sym cut)) ∙ first_is rest [] (Some z) read in
    sym (ap (ahead front) one) ∙ so_far

pub ints_not : (front : List ℤ) (rest : List ℕ) (total : Option (List ℤ)) → None ≡ cut_at 44 rest → None ≡ int_in (2 ^ 63) rest → ahead front (ints_in (pieces 44 rest)) ≡ total → None ≡ total
ints_not front rest total cut read so_far =
    let one : ints_in (pieces 44 rest) ≡ None = ap ints_in (pieces_at_none 44 rest (sym cut)) ∙ first_is rest [] None read in
    sym (ap (ahead front) one) ∙ so_far

pub cut_shorter : (c : ℕ) (text front after : List ℕ) → Some (front, after) ≡ cut_at c text → length after < length text
cut_shorter c text front after e =
    let split : text ≡ front ++ c ∷ after = cut_at_split c text (front, after) (sym e) in
    omega (arith, ap length split, length-append front (c ∷ after))

-- ---- what is spelled is read

abbrev are_within : List ℤ → Bool
are_within zs = list_all (is_within (2 ^ 63)) zs

commas_lack : (zs : List ℤ) → are_within zs ≡ true → lacks 93 (flat_map after_comma zs) ≡ false
commas_lack [] h = refl
commas_lack (z ∷ zs) h =
    let p = and_parts (is_within (2 ^ 63) z) (are_within zs) h in
    list_any-append (λ b. eqb b 93) (int_decimal z) (flat_map after_comma zs) ∙ or_from (lacks 93 (int_decimal z)) (lacks 93 (flat_map after_comma zs)) (int_lacks 93 z refl refl p.0) (commas_lack zs p.1)

list_lacks : (zs : List ℤ) → are_within zs ≡ true → lacks 93 (with_commas zs) ≡ false
list_lacks [] h = refl
list_lacks (z ∷ zs) h =
    let p = and_parts (is_within (2 ^ 63) z) (are_within zs) h in
    list_any-append (λ b. eqb b 93) (int_decimal z) (flat_map after_comma zs) ∙ or_from (lacks 93 (int_decimal z)) (lacks 93 (flat_map after_comma zs)) (int_lacks 93 z refl refl p.0) (commas_lack zs p.1)

pieces_again : (w : List ℕ) (zs : List ℤ) → lacks 44 w ≡ false → are_within zs ≡ true → pieces 44 (w ++ flat_map after_comma zs) ≡ w ∷ map int_decimal zs
pieces_again w [] h all = ap (pieces 44) (append-nil w) ∙ pieces_at_none 44 w (cut_at_none 44 w h)
pieces_again w (z ∷ zs) h all =
    let p = and_parts (is_within (2 ^ 63) z) (are_within zs) all in
    pieces_at_some 44 (w ++ flat_map after_comma (z ∷ zs)) w (int_decimal z ++ flat_map after_comma zs) (cut_at_again 44 w (int_decimal z ++ flat_map after_comma zs) h)
    ∙ ap (λ (ws : List (List ℕ)). w ∷ ws) (pieces_again (int_decimal z) zs (int_lacks 44 z refl refl p.0) p.1)

ints_again : (zs : List ℤ) → are_within zs ≡ true → ints_in (map int_decimal zs) ≡ Some zs
ints_again [] all = refl
ints_again (z ∷ zs) all =
    let p = and_parts (is_within (2 ^ 63) z) (are_within zs) all in
    rw (int_in_again (2 ^ 63) z (omega arith) p.0, ints_again zs p.1) refl

int_some : (z : ℤ) → is_within (2 ^ 63) z ≡ true → 0 < length (int_decimal z)
int_some (pos n) h = decimal_nonempty n (let lt = ltb-true n (2 ^ 63) h in omega (arith, lt))
int_some (negsuc n) h = omega arith

some_test : (text : List ℕ) → 0 < length text → list_in text ≡ ints_in (pieces 44 text)
some_test [] lt = absurd (omega arith)
some_test (b ∷ bs) lt =
    ap (λ (t : Bool). cond t (Some []) (ints_in (pieces 44 (b ∷ bs)))) (ne_eqb (length (b ∷ bs)) 0 (λ is. omega (arith, is)))

list_again : (zs : List ℤ) → are_within zs ≡ true → list_in (with_commas zs) ≡ Some zs
list_again [] all = refl
list_again (z ∷ zs) all =
    let p = and_parts (is_within (2 ^ 63) z) (are_within zs) all in
    let first = int_some z p.0 in
    some_test (with_commas (z ∷ zs)) (omega (arith, first, length-append (int_decimal z) (flat_map after_comma zs)))
    ∙ ap ints_in (pieces_again (int_decimal z) zs (int_lacks 44 z refl refl p.0) p.1) ∙ ints_again (z ∷ zs) all

pub numbers_again : (zs : List ℤ) → AreNumbers zs → numbers_in (numbers_text zs) ≡ Some zs
unfolding numbers_in
numbers_again zs are =
    let cut : bracketed_in (numbers_text zs) ≡ Some (with_commas zs) = ap (option_and_then if_last) (cut_at_again 93 (with_commas zs) [] (list_lacks zs are.within)) in
    ap (λ (o : Option (List ℕ)). if_few (option_and_then list_in o)) cut ∙ ap if_few (list_again zs are.within) ∙ if_few_at zs are.few

-- ---- what is read is spelled so

-- pieces with a comma between two
abbrev row : List (List ℕ) → List ℕ
row [] = []
row (w ∷ ws) = w ++ flat_map (λ v. 44 ∷ v) ws

row-onto_first : (b : ℕ) (ws : List (List ℕ)) → row (onto_first b ws) ≡ b ∷ row ws
row-onto_first b [] = refl
row-onto_first b (w ∷ ws) = refl

abbrev is_some : List (List ℕ) → Bool
is_some [] = false
is_some (w ∷ ws) = true

is_some-onto_first : (b : ℕ) (ws : List (List ℕ)) → is_some (onto_first b ws) ≡ true
is_some-onto_first b [] = refl
is_some-onto_first b (w ∷ ws) = refl

some_step : (b : ℕ) (bs : List ℕ) (here : Bool) → eqb b 44 ≡ here → is_some (pieces 44 (b ∷ bs)) ≡ true
some_step b bs true e = rw e refl
some_step b bs false e = rw e (is_some-onto_first b (pieces 44 bs))

some_pieces : (text : List ℕ) → is_some (pieces 44 text) ≡ true
some_pieces [] = refl
some_pieces (b ∷ bs) = some_step b bs (eqb b 44) refl

row_is : (ws : List (List ℕ)) → is_some ws ≡ true → flat_map (λ v. 44 ∷ v) ws ≡ 44 ∷ row ws
row_is [] h = absurd cc
row_is (w ∷ ws) h = refl

row_step : (b : ℕ) (bs : List ℕ) (here : Bool) → eqb b 44 ≡ here → row (pieces 44 bs) ≡ bs → row (pieces 44 (b ∷ bs)) ≡ b ∷ bs
row_step b bs true e on = rw e (row_is (pieces 44 bs) (some_pieces bs) ∙ ap (λ (t : List ℕ). 44 ∷ t) on ∙ ap (λ (x : ℕ). x ∷ bs) (sym (eqb-true b 44 e)))
row_step b bs false e on = rw e (row-onto_first b (pieces 44 bs) ∙ ap (λ (t : List ℕ). b ∷ t) on)

row_pieces : (text : List ℕ) → row (pieces 44 text) ≡ text
row_pieces [] = refl
row_pieces (b ∷ bs) = row_step b bs (eqb b 44) refl (row_pieces bs)

commas_are : (zs : List ℤ) → flat_map (λ v. 44 ∷ v) (map int_decimal zs) ≡ flat_map after_comma zs
commas_are [] = refl
commas_are (z ∷ zs) = ap (λ (t : List ℕ). 44 ∷ (int_decimal z ++ t)) (commas_are zs)

row_are : (zs : List ℤ) → row (map int_decimal zs) ≡ with_commas zs
row_are [] = refl
row_are (z ∷ zs) = ap (λ (t : List ℕ). int_decimal z ++ t) (commas_are zs)

before_is : (z : ℤ) (o : Option (List ℤ)) (zs : List ℤ) → before z o ≡ Some zs → (others : List ℤ) × (o ≡ Some others) × (z ∷ others ≡ zs)
before_is z None zs e = absurd cc
before_is z (Some others) zs e = (others, refl, some_is (z ∷ others) zs e)

ints_found : (ws : List (List ℕ)) (zs : List ℤ) → ints_in ws ≡ Some zs → (are_within zs ≡ true) × (ws ≡ map int_decimal zs)
ints_found [] zs e = subst (λ (x : List ℤ). (are_within x ≡ true) × ([] ≡ map int_decimal x)) (some_is [] zs e) (refl, refl)
ints_found (w ∷ ws) zs e =
    let p = and_then_some (λ z. before z (ints_in ws)) (int_in (2 ^ 63) w) zs e in
    let q = before_is p.0 (ints_in ws) zs p.2 in
    let one = int_in_found (2 ^ 63) w p.0 p.1 in
    let more = ints_found ws q.0 q.1 in
    subst (λ (x : List ℤ). (are_within x ≡ true) × (w ∷ ws ≡ map int_decimal x)) q.2
    (and_from (is_within (2 ^ 63) p.0) (are_within q.0) one.0 more.0, ap (λ (v : List ℕ). v ∷ ws) one.1 ∙ ap (λ (vs : List (List ℕ)). int_decimal p.0 ∷ vs) more.1)

list_found : (text : List ℕ) (zs : List ℤ) → list_in text ≡ Some zs → (are_within zs ≡ true) × (text ≡ with_commas zs)
list_found [] zs e = subst (λ (x : List ℤ). (are_within x ≡ true) × ([] ≡ with_commas x)) (some_is [] zs e) (refl, refl)
list_found (b ∷ bs) zs e =
    let p = ints_found (pieces 44 (b ∷ bs)) zs (sym (some_test (b ∷ bs) (omega arith)) ∙ e) in
    (p.0, sym (row_pieces (b ∷ bs)) ∙ ap row p.1 ∙ row_are zs)

last_is : (cut : List ℕ × List ℕ) (inside : List ℕ) → if_last cut ≡ Some inside → (cut.0 ≡ inside) × (cut.1 ≡ [])
last_is cut inside e =
    let p = chosen_some (eqb (length cut.1) 0) cut.0 inside e in
    (p.1, nil_from_length cut.1 (eqb-true (length cut.1) 0 p.0))

bracketed_found : (text inside : List ℕ) → bracketed_in text ≡ Some inside → text ≡ 91 ∷ (inside ++ 93 ∷ [])
bracketed_found [] inside e = absurd cc
bracketed_found (b ∷ bs) inside e =
    let p = chosen_other (ltb b 91) (cond (ltb 91 b) None (option_and_then if_last (cut_at 93 bs))) inside e in
    let q = chosen_other (ltb 91 b) (option_and_then if_last (cut_at 93 bs)) inside p.1 in
    let head : b ≡ 91 = omega (arith, ltb-false b 91 p.0, ltb-false 91 b q.0) in
    let cut = and_then_some if_last (cut_at 93 bs) inside q.1 in
    let parts = last_is cut.0 inside cut.2 in
    ap (λ (x : ℕ). x ∷ bs) head
    ∙ ap (λ (t : List ℕ). 91 ∷ t) (cut_at_split 93 bs cut.0 cut.1 ∙ ap (λ (t : List ℕ). t ++ 93 ∷ cut.0.1) parts.0 ∙ ap (λ (t : List ℕ). inside ++ 93 ∷ t) parts.1)

pub numbers_found : (text : List ℕ) (zs : List ℤ) → numbers_in text ≡ Some zs → AreNumbers zs × (text ≡ numbers_text zs)
unfolding numbers_in
numbers_found text zs e =
    let p = if_few_is (option_and_then list_in (bracketed_in text)) zs e in
    let q = and_then_some list_in (bracketed_in text) zs p.1 in
    let list = list_found q.0 zs q.2 in
    (record { few = p.0; within = list.0 }, bracketed_found text q.0 q.1 ∙ ap (λ (t : List ℕ). 91 ∷ (t ++ 93 ∷ [])) list.1)
