-- What a line tells that begins a section.
use Rattle.std.proofs.Common.{◌≡◌, ℕ, ◌^◌, ◌<◌, Bool, true, false, cond, eqb, List, [], ◌∷◌, ◌++◌, Option, Some, None, refl, sym, ap, ◌∙◌}
use Rattle.std.specs.Prelude.{IfSome, IfNone}
use Rattle.std.specs.Str.{bytes_eq}
use Rattle.std.proofs.lemmas.Bool.{eqb-true}
use Rattle.std.proofs.lemmas.List.{append_cancel_left}
use Rattle.mama_edge.specs.Decimal.{decimal}
use Rattle.mama_words.specs.Number.{number_in}
use Rattle.mama_words.specs.declared.version.Version.{Version}
use Rattle.mama_words.proofs.Choices.{same_text, text_same}
use Rattle.mama_words.proofs.Numbers.{number_in_again, number_in_found}
use Rattle.mama_log_read.specs.Section.{head_of, has_count}
use Rattle.mama_log_read.specs.Reading.{spaced_in, IsTold, Begins}
use Rattle.mama_log_read.specs.declared.section.Section.{Section}
use Rattle.mama_log_read.specs.declared.section.Told.{Told}
use Rattle.mama_log_read.specs.declared.section.Told.TheVariants as t

-- ---- a number behind a space

spaced_step : (b : ℕ) (bs : List ℕ) (here : Bool) (n : ℕ) → eqb b 32 ≡ here → cond here (number_in bs) None ≡ Some n → (n < 2 ^ 64) × (b ∷ bs ≡ 32 ∷ decimal n)
spaced_step b bs true n h e =
    let f = number_in_found bs n e in
    (f.0, ap (λ (x : ℕ). x ∷ bs) (eqb-true b 32 h) ∙ ap (λ (x : List ℕ). 32 ∷ x) f.1)
spaced_step b bs false n h e = absurd cc

spaced_found : (text : List ℕ) (n : ℕ) → spaced_in text ≡ Some n → (n < 2 ^ 64) × (text ≡ 32 ∷ decimal n)
spaced_found [] n e = absurd cc
spaced_found (b ∷ bs) n e = spaced_step b bs (eqb b 32) n refl e

no_number : (n : ℕ) → None ≡ Some n → ⊥
no_number n e = cc

-- the number behind the words of a line
pub behind_found : (head line behind : List ℕ) (o : Option ℕ) → line ≡ head ++ behind → o ≡ spaced_in behind → IfSome o (λ n. (n < 2 ^ 64) × (line ≡ head ++ 32 ∷ decimal n))
behind_found head line behind None whole is = tt
behind_found head line behind (Some n) whole is = let s = spaced_found behind n (sym is) in (s.0, whole ∙ ap (λ (x : List ℕ). head ++ x) s.1)

pub behind_none : (head line behind : List ℕ) (o : Option ℕ) → line ≡ head ++ behind → o ≡ spaced_in behind → IfNone o ((n : ℕ) → n < 2 ^ 64 → line ≡ head ++ 32 ∷ decimal n → ⊥)
behind_none head line behind None whole is = λ n lt same.
    let rest : behind ≡ 32 ∷ decimal n = append_cancel_left head behind (32 ∷ decimal n) (sym whole ∙ same) in
    no_number n (is ∙ ap spaced_in rest ∙ number_in_again n lt)
behind_none head line behind (Some n) whole is = tt

-- ---- what a first line tells

pub count_found : (v : Version) (section : Section) (head line : List ℕ) (count : ℕ) → head ≡ head_of section → has_count v section ≡ true → (count < 2 ^ 64) × (line ≡ head ++ 32 ∷ decimal count) → IsTold v section (t.Lines count) line
count_found v section head line count same has found = (has, found.0, found.1 ∙ ap (λ (x : List ℕ). x ++ 32 ∷ decimal count) same)

pub count_none : (v : Version) (section : Section) (head line : List ℕ) → head ≡ head_of section → has_count v section ≡ true → ((n : ℕ) → n < 2 ^ 64 → line ≡ head ++ 32 ∷ decimal n → ⊥) → Begins v section line → ⊥
count_none v section head line same has none begins = by begins.0 begins.1
  where
    by : (told : Told) → IsTold v section told line → ⊥
    by t.Nothing h = let bad : true ≡ false = sym has ∙ h.0 in cc
    by (t.Lines count) h = none count h.1 (h.2 ∙ ap (λ (x : List ℕ). x ++ 32 ∷ decimal count) (sym same))

pub bare_found : (v : Version) (section : Section) (head line : List ℕ) → head ≡ head_of section → has_count v section ≡ false → true ≡ bytes_eq line head → IsTold v section t.Nothing line
bare_found v section head line same none is = (none, same_text line head (sym is) ∙ same)

pub bare_none : (v : Version) (section : Section) (head line : List ℕ) → head ≡ head_of section → has_count v section ≡ false → false ≡ bytes_eq line head → Begins v section line → ⊥
bare_none v section head line same none other begins = by begins.0 begins.1
  where
    by : (told : Told) → IsTold v section told line → ⊥
    by t.Nothing h = let bad : false ≡ true = other ∙ text_same line head (h.1 ∙ sym same) in cc
    by (t.Lines count) h = let bad : true ≡ false = sym h.0 ∙ none in cc
