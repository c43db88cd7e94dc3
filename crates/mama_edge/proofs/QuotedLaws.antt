-- The quoted spelling of a text, and reading it.
use Rattle.std.proofs.Common.{◌≡◌, ◌≢◌, ℕ, ◌<◌, ◌≤◌, Bool, true, false, ◌||◌, ◌&&◌, List, [], ◌∷◌, ◌++◌, length, Option, Some, None, IfSome, IfNone, refl, ap, sym, ◌∙◌, subst, append_assoc, length-append, ◌⊎◌, inl, inr, arith}
use Rattle.std.specs.Prelude.{if◌then◌else◌, ◌==◌}
use Rattle.std.specs.Option.{option_map}
use Rattle.std.specs.List.{flat_map, list_all}
use Rattle.std.proofs.lemmas.Bool.{false≢true}
use Rattle.std.proofs.lemmas.Bool.Decides.{nat_tests}
use Rattle.std.proofs.lemmas.List.Folds.{list_all-append}
use Rattle.mama_edge.specs.Quoted.{is_printable, is_special, IsPrintable, escaped, quoted}
use Rattle.mama_edge.specs.Unquoting.{put_first, put_front, at_end, unquoted}

-- the spelling behind the first quote
abbrev pub closed : List ℕ → List ℕ
closed text = flat_map escaped text ++ 34 ∷ []

closed-cons : (b : ℕ) (t : List ℕ) → closed (b ∷ t) ≡ escaped b ++ closed t
closed-cons b t = append_assoc (escaped b) (flat_map escaped t) (34 ∷ [])

escaped-special : (b : ℕ) → is_special b ≡ true → escaped b ≡ 92 ∷ b ∷ []
escaped-special b e = ap (λ (r : Bool). if r then 92 ∷ b ∷ [] else b ∷ []) e

escaped-plain : (b : ℕ) → is_special b ≡ false → escaped b ≡ b ∷ []
escaped-plain b e = ap (λ (r : Bool). if r then 92 ∷ b ∷ [] else b ∷ []) e

-- reading what was put in front: the rest was read
first_of : (b : ℕ) (r : Option (List ℕ)) (t : List ℕ) → put_first b r ≡ Some t → (s : List ℕ) × (r ≡ Some s) × (t ≡ b ∷ s)
first_of b None t e = absurd (cc)
first_of b (Some s) t e = (s, refl, cc)

-- a choice that gave something
chosen : (r : Bool) (x : Option (List ℕ)) (t : List ℕ) → (if r then x else None) ≡ Some t → (r ≡ true) × (x ≡ Some t)
chosen true x t e = (refl, e)
chosen false x t e = absurd (cc)

both : (p q : Bool) → p ≡ true → q ≡ true → (p && q) ≡ true
both true q e f = f
both false q e f = absurd (cc)

parts : (p q : Bool) → (p && q) ≡ true → (p ≡ true) × (q ≡ true)
parts true q e = (refl, e)
parts false q e = absurd (cc)

neither : (p q : Bool) → (p || q) ≡ false → (p ≡ false) × (q ≡ false)
neither true q e = absurd (cc)
neither false q e = (refl, e)

-- the text that was read from inside the quotes has the spelling that was read, whether a backslash came before or not
abbrev Reads : Bool → List ℕ → List ℕ → Type 0
Reads true bytes text = (92 ∷ bytes ≡ closed text) × IsPrintable text
Reads false bytes text = (bytes ≡ closed text) × IsPrintable text

-- a character behind a backslash
reads_special : (b : ℕ) (bs s t : List ℕ) → is_special b ≡ true → is_printable b ≡ true → t ≡ b ∷ s → Reads false bs s → Reads true (b ∷ bs) t
reads_special b bs s t special printable e rest = (
  ap (λ (xs : List ℕ). 92 ∷ b ∷ xs) rest.0
      ∙ ap (λ (xs : List ℕ). xs ++ closed s) (sym (escaped-special b special))
      ∙ sym (closed-cons b s) ∙ ap closed (sym e),
  ap (list_all is_printable) e ∙ both _ _ printable rest.1,
)

-- a character that stands for itself
reads_plain : (b : ℕ) (bs s t : List ℕ) → is_special b ≡ false → is_printable b ≡ true → t ≡ b ∷ s → Reads false bs s → Reads false (b ∷ bs) t
reads_plain b bs s t plain printable e rest = (
  ap (λ (xs : List ℕ). b ∷ xs) rest.0
      ∙ ap (λ (xs : List ℕ). xs ++ closed s) (sym (escaped-plain b plain))
      ∙ sym (closed-cons b s) ∙ ap closed (sym e),
  ap (list_all is_printable) e ∙ both _ _ printable rest.1,
)

special_is : (b : ℕ) → is_special b ≡ true → (b ≡ 34) ⊎ (b ≡ 92)
special_is b e = grind (arith, nat_tests)

special_printable : (b : ℕ) → is_special b ≡ true → is_printable b ≡ true
special_printable b e = elim (special_is b e) [ inl q ↦ ap is_printable q | inr q ↦ ap is_printable q ]

reads_end : (bs t : List ℕ) → at_end bs ≡ Some t → Reads false (34 ∷ bs) t
reads_end [] t e = let same : [] ≡ t = cc in subst (λ (xs : List ℕ). Reads false (34 ∷ []) xs) same (refl, refl)
reads_end (b ∷ bs) t e = absurd (cc)

reads_by : (p q r : Bool) (b : ℕ) (bs t : List ℕ) → (b == 34) ≡ p → (b == 92) ≡ q → is_printable b ≡ r
    → (if p then at_end bs else (if q then unquoted true bs else (if r then put_first b (unquoted false bs) else None))) ≡ Some t
    → (unquoted true bs ≡ Some t → Reads true bs t) → ((s : List ℕ) → unquoted false bs ≡ Some s → Reads false bs s)
    → Reads false (b ∷ bs) t
reads_by true q r b bs t is_quote is_slash printable e behind next =
    let same : b ≡ 34 = grind (arith, nat_tests) in
    subst (λ (k : ℕ). Reads false (k ∷ bs) t) (sym same) (reads_end bs t e)
reads_by false true r b bs t is_quote is_slash printable e behind next =
    let same : b ≡ 92 = grind (arith, nat_tests) in
    subst (λ (k : ℕ). Reads false (k ∷ bs) t) (sym same) (behind e)
reads_by false false true b bs t is_quote is_slash printable e behind next =
    let first = first_of b (unquoted false bs) t e in
    let plain : is_special b ≡ false = ap (λ (x : Bool). x || (b == 92)) is_quote ∙ is_slash in
    reads_plain b bs first.0 t plain printable first.2 (next first.0 first.1)
reads_by false false false b bs t is_quote is_slash printable e behind next = absurd (cc)

pub reads : (is_escaped : Bool) (bs t : List ℕ) → unquoted is_escaped bs ≡ Some t → Reads is_escaped bs t
reads true [] t e = absurd (cc)
reads false [] t e = absurd (cc)
reads true (b ∷ bs) t e =
    let choice = chosen (is_special b) (put_first b (unquoted false bs)) t e in
    let first = first_of b (unquoted false bs) t choice.1 in
    reads_special b bs first.0 t choice.0 (special_printable b choice.0) first.2 (reads false bs first.0 first.1)
reads false (b ∷ bs) t e =
    reads_by (b == 34) (b == 92) (is_printable b) b bs t refl refl refl e (λ h. reads true bs t h) (λ s h. reads false bs s h)

-- a spelling is read again
again_by : (r : Bool) (b : ℕ) (t : List ℕ) → is_special b ≡ r → is_printable b ≡ true → unquoted false (closed t) ≡ Some t → unquoted false (closed (b ∷ t)) ≡ Some (b ∷ t)
again_by true b t special printable rest =
    ap (unquoted false) (closed-cons b t ∙ ap (λ (xs : List ℕ). xs ++ closed t) (escaped-special b special))
    ∙ ap (λ (r : Bool). if r then put_first b (unquoted false (closed t)) else None) special
    ∙ ap (put_first b) rest
again_by false b t plain printable rest =
    let tests = neither (b == 34) (b == 92) plain in
    ap (unquoted false) (closed-cons b t ∙ ap (λ (xs : List ℕ). xs ++ closed t) (escaped-plain b plain))
    ∙ ap (λ (r : Bool). if r then at_end (closed t) else (if b == 92 then unquoted true (closed t) else (if is_printable b then put_first b (unquoted false (closed t)) else None))) tests.0
    ∙ ap (λ (r : Bool). if r then unquoted true (closed t) else (if is_printable b then put_first b (unquoted false (closed t)) else None)) tests.1
    ∙ ap (λ (r : Bool). if r then put_first b (unquoted false (closed t)) else None) printable
    ∙ ap (put_first b) rest

pub again : (t : List ℕ) → IsPrintable t → unquoted false (closed t) ≡ Some t
again [] p = refl
again (b ∷ t) p =
    let both = parts (is_printable b) (list_all is_printable t) p in
    again_by (is_special b) b t refl both.0 (again t both.1)

same_tails : (x : ℕ) (xs ys : List ℕ) → x ∷ xs ≡ x ∷ ys → xs ≡ ys
same_tails x xs ys e = cc

none_is_some : {t : List ℕ} → None ≡ Some t → ⊥
none_is_some e = cc

put_front_first : (old : List ℕ) (b : ℕ) (r : Option (List ℕ)) → put_front old (put_first b r) ≡ put_front (old ++ b ∷ []) r
put_front_first old b None = refl
put_front_first old b (Some t) = ap Some (sym (append_assoc old (b ∷ []) t))

-- what the reader answers
pub answer_found : {V : Type 0} (items : V → List ℕ) (text rest : List ℕ) (answer : Option V) → text ≡ 34 ∷ rest → option_map items answer ≡ unquoted false rest
    → IfSome answer (λ v. (text ≡ quoted (items v)) × IsPrintable (items v))
answer_found items text rest None same e = tt
answer_found items text rest (Some v) same e =
    let read = reads false rest (items v) (sym e) in
    (same ∙ ap (λ (xs : List ℕ). 34 ∷ xs) read.0, read.1)

pub answer_none : {V : Type 0} (items : V → List ℕ) (text rest : List ℕ) (answer : Option V) → text ≡ 34 ∷ rest → option_map items answer ≡ unquoted false rest
    → IfNone answer ((t : List ℕ) → IsPrintable t → text ≡ quoted t → ⊥)
answer_none items text rest (Some v) same e = tt
answer_none items text rest None same e = λ t printable spelled.
    let tails : rest ≡ closed t = same_tails 34 rest (closed t) (sym same ∙ spelled) in
    let read = again t printable in
    none_is_some (e ∙ ap (unquoted false) tails ∙ read)

-- a text in front of a character
pub character_put : (b : ℕ) (old new : List ℕ) → b ≢ 34 → b ≢ 92 → 32 ≤ b → b ≤ 126 → new ≡ old ++ b ∷ [] → (bytes : List ℕ) → put_front old (unquoted false (b ∷ bytes)) ≡ put_front new (unquoted false bytes)
character_put b old new no_quote no_slash low high e bytes =
    let a : (b == 34) ≡ false = grind (arith, nat_tests) in
    let c : (b == 92) ≡ false = grind (arith, nat_tests) in
    let d : is_printable b ≡ true = grind (arith, nat_tests) in
    ap (λ (r : Bool). put_front old (if r then at_end bytes else (if b == 92 then unquoted true bytes else (if is_printable b then put_first b (unquoted false bytes) else None)))) a
    ∙ ap (λ (r : Bool). put_front old (if r then unquoted true bytes else (if is_printable b then put_first b (unquoted false bytes) else None))) c
    ∙ ap (λ (r : Bool). put_front old (if r then put_first b (unquoted false bytes) else None)) d
    ∙ put_front_first old b (unquoted false bytes)
    ∙ ap (λ (xs : List ℕ). put_front xs (unquoted false bytes)) (sym e)

-- two spellings are one only where the texts are
first_of_closed : (p q : Bool) (a b : ℕ) (s t : List ℕ) → is_special a ≡ p → is_special b ≡ q → closed (a ∷ s) ≡ closed (b ∷ t) → (a ≡ b) × (closed s ≡ closed t)
first_of_closed true true a b s t first second e =
    let same : 92 ∷ a ∷ closed s ≡ 92 ∷ b ∷ closed t =
    sym (closed-cons a s ∙ ap (λ (xs : List ℕ). xs ++ closed s) (escaped-special a first)) ∙ e ∙ closed-cons b t ∙ ap (λ (xs : List ℕ). xs ++ closed t) (escaped-special b second) in
    (cc, cc)
first_of_closed true false a b s t first second e =
    let same : 92 ∷ a ∷ closed s ≡ b ∷ closed t =
    sym (closed-cons a s ∙ ap (λ (xs : List ℕ). xs ++ closed s) (escaped-special a first)) ∙ e ∙ closed-cons b t ∙ ap (λ (xs : List ℕ). xs ++ closed t) (escaped-plain b second) in
    let slash : 92 ≡ b = cc in
    absurd (false≢true (sym second ∙ ap is_special (sym slash)))
first_of_closed false true a b s t first second e =
    let same : a ∷ closed s ≡ 92 ∷ b ∷ closed t =
    sym (closed-cons a s ∙ ap (λ (xs : List ℕ). xs ++ closed s) (escaped-plain a first)) ∙ e ∙ closed-cons b t ∙ ap (λ (xs : List ℕ). xs ++ closed t) (escaped-special b second) in
    let slash : a ≡ 92 = cc in
    absurd (false≢true (sym first ∙ ap is_special slash))
first_of_closed false false a b s t first second e =
    let same : a ∷ closed s ≡ b ∷ closed t =
    sym (closed-cons a s ∙ ap (λ (xs : List ℕ). xs ++ closed s) (escaped-plain a first)) ∙ e ∙ closed-cons b t ∙ ap (λ (xs : List ℕ). xs ++ closed t) (escaped-plain b second) in
    (cc, cc)

length-escaped : (r : Bool) (b : ℕ) → is_special b ≡ r → 0 < length (escaped b)
length-escaped true b e = omega (arith, ap length (escaped-special b e))
length-escaped false b e = omega (arith, ap length (escaped-plain b e))

-- the spelling of a text that is not empty is longer than a quote
longer : (b : ℕ) (t : List ℕ) → 34 ∷ [] ≡ closed (b ∷ t) → ⊥
longer b t e =
    let long = ap length (e ∙ closed-cons b t) in
    let more = length-append (escaped b) (closed t) in
    let last = length-append (flat_map escaped t) (34 ∷ []) in
    let some = length-escaped (is_special b) b refl in
    omega arith

pub injective : (s t : List ℕ) → closed s ≡ closed t → s ≡ t
injective [] [] e = refl
injective [] (b ∷ t) e = absurd (longer b t e)
injective (a ∷ s) [] e = absurd (longer a s (sym e))
injective (a ∷ s) (b ∷ t) e =
    let split = first_of_closed (is_special a) (is_special b) a b s t refl refl e in
    let rest : s ≡ t = injective s t split.1 in
    ap (λ (k : ℕ). k ∷ s) split.0 ∙ ap (λ (xs : List ℕ). b ∷ xs) rest

pub quoted_injective : (s t : List ℕ) → quoted s ≡ quoted t → s ≡ t
quoted_injective s t e = injective s t (same_tails 34 (closed s) (closed t) e)

escaped_printable : (r : Bool) (b : ℕ) → is_special b ≡ r → is_printable b ≡ true → list_all is_printable (escaped b) ≡ true
escaped_printable true b special p = ap (list_all is_printable) (escaped-special b special) ∙ both _ _ p refl
escaped_printable false b plain p = ap (list_all is_printable) (escaped-plain b plain) ∙ both _ _ p refl

closed_printable : (t : List ℕ) → IsPrintable t → IsPrintable (closed t)
closed_printable [] p = refl
closed_printable (b ∷ t) p =
    let here = parts (is_printable b) (list_all is_printable t) p in
    ap (list_all is_printable) (closed-cons b t)
    ∙ list_all-append is_printable (escaped b) (closed t)
    ∙ both _ _ (escaped_printable (is_special b) b refl here.0) (closed_printable t here.1)

pub quoted_printable : (t : List ℕ) → IsPrintable t → IsPrintable (quoted t)
quoted_printable t p = closed_printable t p
