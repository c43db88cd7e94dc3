-- What is read between quotes is so spelled, and what is so spelled is read.
use Rattle.std.proofs.Common.{◌≡◌, ℕ, Bool, true, false, eqb, List, [], ◌∷◌, ◌++◌, drop, Option, Some, None, refl, sym, ap, subst, ◌∙◌, append_assoc}
use Rattle.std.specs.Prelude.{◌&&◌, IfSome, IfNone, IfOk, Result, Ok, Err, option_map}
use Rattle.std.specs.Global.{Vec}
use Rattle.std.specs.List.{flat_map, list_all}
use Rattle.std.specs.Str.{bytes_eq}
use Rattle.std.proofs.lemmas.Bool.{and_parts}
use Rattle.mama_edge.specs.Quoted.{quoted, escaped, is_printable, IsPrintable}
use Rattle.mama_words.specs.Quote.{unquoted_from, quoted_in}
use Rattle.mama_words.proofs.Choices.{chosen_some, same_text, text_same}

abbrev closed : List ℕ → List ℕ
closed text = flat_map escaped text ++ 34 ∷ []

unquoted_step : (b : ℕ) (text rest : List ℕ) (quote backslash : Bool) → eqb b 34 ≡ quote → eqb b 92 ≡ backslash → unquoted_from false rest ≡ text
    → unquoted_from false (escaped b ++ rest) ≡ b ∷ text
unquoted_step b text rest true backslash p q e = rw p (ap (λ (t : List ℕ). b ∷ t) e)
unquoted_step b text rest false true p q e = rw (p, q) (ap (λ (t : List ℕ). b ∷ t) e)
unquoted_step b text rest false false p q e = rw (p, q) (rw (p, q) (ap (λ (t : List ℕ). b ∷ t) e))

unquoted_again : (text : List ℕ) → unquoted_from false (closed text) ≡ text
unquoted_again [] = refl
unquoted_again (b ∷ bs) =
    ap (unquoted_from false) (append_assoc (escaped b) (flat_map escaped bs) (34 ∷ []))
    ∙ unquoted_step b bs (closed bs) (eqb b 34) (eqb b 92) refl refl (unquoted_again bs)

pub quoted_in_again : (text : List ℕ) → IsPrintable text → quoted_in (quoted text) ≡ Some text
unfolding quoted_in
quoted_in_again text printable = rw (unquoted_again text, printable, text_same (quoted text) (quoted text) refl) refl

pub quoted_in_found : (word text : List ℕ) → quoted_in word ≡ Some text → IsPrintable text × (word ≡ quoted text)
unfolding quoted_in
quoted_in_found word text e =
    let read = unquoted_from false (drop 1 word) in
    let p = chosen_some (list_all is_printable read && bytes_eq word (quoted read)) read text e in
    let q = and_parts (list_all is_printable read) (bytes_eq word (quoted read)) p.0 in
    subst (λ (t : List ℕ). IsPrintable t × (word ≡ quoted t)) p.1 (q.0, same_text word (quoted read) q.1)

none_text : (o : Option (List ℕ)) → ((t : List ℕ) → o ≡ Some t → ⊥) → o ≡ None
none_text None h = refl
none_text (Some t) h = absurd (h t refl)

-- what a reader of a quoted text answered
pub quoted_in_is : (word : List ℕ) (o : Option (Vec ℕ)) → IfSome o (λ v. (word ≡ quoted v.items) × IsPrintable v.items) → IfNone o ((t : List ℕ) → IsPrintable t → word ≡ quoted t → ⊥) → option_map (λ v. v.items) o ≡ quoted_in word
quoted_in_is word None found none = sym (none_text (quoted_in word) (λ t e. let p = quoted_in_found word t e in none t p.0 p.1))
quoted_in_is word (Some v) found none = sym (ap quoted_in found.0 ∙ quoted_in_again v.items found.1)

pub quoted_in_answer : {E : Type 0} (word : List ℕ) (r : Result (Option (Vec ℕ)) E) → IfOk r (λ o. IfSome o (λ v. (word ≡ quoted v.items) × IsPrintable v.items)) → IfOk r (λ o. IfNone o ((t : List ℕ) → IsPrintable t → word ≡ quoted t → ⊥))
    → IfOk r (λ o. option_map (λ v. v.items) o ≡ quoted_in word)
quoted_in_answer word (Ok o) found none = quoted_in_is word o found none
quoted_in_answer word (Err e) found none = tt
