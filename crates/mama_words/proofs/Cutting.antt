-- Cutting a text at the first byte of a kind, and joining it again.
use Rattle.std.proofs.Common.{◌≡◌, ℕ, ℤ, pos, negsuc, suc, ◌<◌, ◌^◌, Bool, true, false, eqb, leb, List, [], ◌∷◌, ◌++◌, Option, Some, None, refl, sym, ap, subst, ◌∙◌, arith, eq-eqb}
use Rattle.std.specs.Prelude.{◌&&◌, ◌==◌, nat_le}
use Rattle.std.specs.List.{list_any, list_all}
use Rattle.std.specs.Str.Parse.{AllDigits}
use Rattle.std.proofs.lemmas.Bool.{or_parts, or_from, and_parts, and_from, le-leb, ltb-true, ne_eqb, eqb-true}
use Rattle.std.proofs.lemmas.Fmt.{decimal_is_IsNumeral}
use Rattle.std.proofs.lemmas.Str.Parse.{digit_from_value}
use Rattle.mama_edge.specs.Decimal.{decimal, int_decimal}
use Rattle.mama_words.specs.Parting.{cut_at, onto_cut}
use Rattle.mama_words.specs.Number.{is_within}
use Rattle.mama_words.proofs.Choices.{some_is}

-- a text without a byte of this kind
abbrev pub lacks : ℕ → List ℕ → Bool
lacks c text = list_any (λ b. b == c) text

at_byte : (c b : ℕ) (bs : List ℕ) → eqb b c ≡ true → cut_at c (b ∷ bs) ≡ Some ([], bs)
at_byte c b bs e = rw e refl

past_byte : (c b : ℕ) (bs : List ℕ) → eqb b c ≡ false → cut_at c (b ∷ bs) ≡ onto_cut (b ∷ []) (cut_at c bs)
past_byte c b bs e = rw e refl

pub cut_at_again : (c : ℕ) (a b : List ℕ) → lacks c a ≡ false → cut_at c (a ++ c ∷ b) ≡ Some (a, b)
cut_at_again c [] b h = at_byte c c b (eq-eqb c c refl)
cut_at_again c (x ∷ a) b h =
    let p = or_parts (eqb x c) (lacks c a) h in
    past_byte c x (a ++ c ∷ b) p.0 ∙ ap (onto_cut (x ∷ [])) (cut_at_again c a b p.1)

pub cut_at_none : (c : ℕ) (text : List ℕ) → lacks c text ≡ false → cut_at c text ≡ None
cut_at_none c [] h = refl
cut_at_none c (b ∷ bs) h =
    let p = or_parts (eqb b c) (lacks c bs) h in
    past_byte c b bs p.0 ∙ ap (onto_cut (b ∷ [])) (cut_at_none c bs p.1)

onto_cut_is : (front : List ℕ) (o : Option (List ℕ × List ℕ)) (x : List ℕ × List ℕ) → onto_cut front o ≡ Some x → (y : List ℕ × List ℕ) × (o ≡ Some y) × ((front ++ y.0, y.1) ≡ x)
onto_cut_is front None x e = absurd cc
onto_cut_is front (Some y) x e = (y, refl, some_is (front ++ y.0, y.1) x e)

found_step : (c b : ℕ) (bs : List ℕ) (here : Bool) (x : List ℕ × List ℕ) → eqb b c ≡ here → ((y : List ℕ × List ℕ) → cut_at c bs ≡ Some y → bs ≡ y.0 ++ c ∷ y.1) → cut_at c (b ∷ bs) ≡ Some x → b ∷ bs ≡ x.0 ++ c ∷ x.1
found_step c b bs true x h more e =
    let same : ([], bs) ≡ x = some_is ([], bs) x (sym (at_byte c b bs h) ∙ e) in
    subst (λ (z : List ℕ × List ℕ). b ∷ bs ≡ z.0 ++ c ∷ z.1) same (ap (λ (k : ℕ). k ∷ bs) (eqb-true b c h))
found_step c b bs false x h more e =
    let o = onto_cut_is (b ∷ []) (cut_at c bs) x (sym (past_byte c b bs h) ∙ e) in
    subst (λ (z : List ℕ × List ℕ). b ∷ bs ≡ z.0 ++ c ∷ z.1) o.2 (ap (λ (t : List ℕ). b ∷ t) (more o.0 o.1))

pub cut_at_split : (c : ℕ) (text : List ℕ) (x : List ℕ × List ℕ) → cut_at c text ≡ Some x → text ≡ x.0 ++ c ∷ x.1
cut_at_split c [] x e = absurd cc
cut_at_split c (b ∷ bs) x e = found_step c b bs (eqb b c) x refl (cut_at_split c bs) e

-- ---- digits

abbrev pub is_digit : ℕ → Bool
is_digit b = nat_le 48 b && nat_le b 57

all_digits : (ds : List ℕ) → AllDigits 10 ds → list_all is_digit ds ≡ true
all_digits [] h = refl
all_digits (d ∷ ds) h =
    let r = digit_from_value d h.0 in
    and_from (is_digit d) (list_all is_digit ds) (and_from (leb 48 d) (leb d 57) (le-leb 48 d r.0) (le-leb d 57 r.1)) (all_digits ds h.1)

pub decimal_digits : (n : ℕ) → n < 2 ^ 64 → list_all is_digit (decimal n) ≡ true
decimal_digits n lt = all_digits (decimal n) (decimal_is_IsNumeral n lt).0.1

-- bytes of one kind lack a byte of no such kind
pub all_lack : (p : ℕ → Bool) (c : ℕ) (text : List ℕ) → p c ≡ false → list_all p text ≡ true → lacks c text ≡ false
all_lack p c [] no_c h = refl
all_lack p c (b ∷ bs) no_c h =
    let q = and_parts (p b) (list_all p bs) h in
    or_from (eqb b c) (lacks c bs) (ne_eqb b c (λ e. let bad : true ≡ false = sym q.0 ∙ ap p e ∙ no_c in absurd cc)) (all_lack p c bs no_c q.1)

pub decimal_lacks : (c n : ℕ) → is_digit c ≡ false → n < 2 ^ 64 → lacks c (decimal n) ≡ false
decimal_lacks c n no_c lt = all_lack is_digit c (decimal n) no_c (decimal_digits n lt)

pub int_lacks : (c : ℕ) (z : ℤ) → is_digit c ≡ false → eqb 45 c ≡ false → is_within (2 ^ 63) z ≡ true → lacks c (int_decimal z) ≡ false
int_lacks c (pos n) no_c no_sign h = let lt = ltb-true n (2 ^ 63) h in decimal_lacks c n no_c (omega (arith, lt))
int_lacks c (negsuc n) no_c no_sign h = let lt = ltb-true n (2 ^ 63) h in or_from (eqb 45 c) (lacks c (decimal (suc n))) no_sign (decimal_lacks c (suc n) no_c (omega (arith, lt)))
