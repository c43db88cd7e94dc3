-- How many lines a log has behind the line that tells their number.
use Rattle.std.proofs.Common.{◌≡◌, ℕ, zero, suc, ◌<◌, ◌≤◌, Bool, true, false, cond, eqb, List, [], ◌∷◌, ◌++◌, length, refl, sym, ap, subst, ◌∙◌, append_assoc, arith}
use Rattle.std.specs.List.{AllByRecursion}
use Rattle.std.proofs.lemmas.Bool.{or_parts, eq-eqb}
use Rattle.std.proofs.lemmas.List.{append-nil}
use Rattle.mama_edge.specs.Decimal.{decimal}
use Rattle.mama_event.specs.declared.ids.ObjectId.{ObjectId}
use Rattle.mama_event.specs.declared.shape.Shape.{Shape}
use Rattle.mama_words.specs.declared.version.Version.{Version}
use Rattle.mama_words.specs.declared.version.Version.TheVariants.{One, Two}
use Rattle.mama_words.proofs.Choices.{some_is}
use Rattle.mama_words.specs.Number.{number_in}
use Rattle.mama_words.proofs.Numbers.{number_in_again}
use Rattle.mama_words.proofs.Cutting.{lacks, decimal_lacks}
use Rattle.mama_record.specs.LogText.{told}
use Rattle.mama_log_line.specs.Names.{NamesData}
use Rattle.mama_log_read.specs.Unfit.{IsTellable}
use Rattle.mama_log_read.specs.Section.{head_of, has_count, first_of}
use Rattle.mama_log_read.specs.Part.{Filled, Fits, bodies, all_lines}
use Rattle.mama_log_read.specs.Reading.{IsTold, Begins, IsFew}
use Rattle.mama_log_read.specs.declared.section.Section.{Section}
use Rattle.mama_log_read.specs.declared.section.Section.TheVariants as s
use Rattle.mama_log_read.specs.declared.section.Told.{Told}
use Rattle.mama_log_read.specs.declared.section.Told.TheVariants as t
use Rattle.mama_log_read.proofs.NoHead.{is_head, begins_head}
use Rattle.mama_log_read.proofs.Alike.{head_or, tail_of}
use Rattle.mama_log_read.proofs.Parts.{IsNoHead, part_no_head}
use Rattle.mama_log_read.proofs.Whole.{AllFit}

-- ---- what a first line tells

pub begins_first : (v : Version) (section : Section) (n : ℕ) → IsTellable v n → Begins v section (first_of v section n)
begins_first One section n h = (t.Nothing, (refl, refl))
begins_first Two section n h = by (has_count Two section) refl
  where
    line : Bool → List ℕ
    line b = cond b (head_of section ++ told Two n) (head_of section)

    by : (b : Bool) → has_count Two section ≡ b → Begins Two section (first_of Two section n)
    by true e = (t.Lines n, (e, h, ap (λ (b : Bool). cond b (head_of section ++ told Two n) (head_of section)) e))
    by false e = (t.Nothing, (e, ap (λ (b : Bool). cond b (head_of section ++ told Two n) (head_of section)) e))

-- two texts that are joined by a space to others without one are the same, and so are the others
no_space : (a d e : List ℕ) → lacks 32 d ≡ false → d ≡ a ++ 32 ∷ e → ⊥
no_space [] [] e h same = cc
no_space [] (b ∷ d) e h same =
    let p = or_parts (eqb b 32) (lacks 32 d) h in
    let here : eqb b 32 ≡ true = eq-eqb b 32 (ap (head_or 0) same) in
    let bad : false ≡ true = sym p.0 ∙ here in
    cc
no_space (x ∷ a) [] e h same = cc
no_space (x ∷ a) (b ∷ d) e h same = let p = or_parts (eqb b 32) (lacks 32 d) h in no_space a d e p.1 (ap tail_of same)

last_same : (a b d e : List ℕ) → lacks 32 d ≡ false → lacks 32 e ≡ false → a ++ 32 ∷ d ≡ b ++ 32 ∷ e → d ≡ e
last_same [] [] d e h k same = ap tail_of same
last_same [] (y ∷ b) d e h k same = absurd (no_space b d e h (ap tail_of same))
last_same (x ∷ a) [] d e h k same = absurd (no_space a e d k (sym (ap tail_of same)))
last_same (x ∷ a) (y ∷ b) d e h k same = last_same a b d e h k (ap tail_of same)

told_same : (one two : Section) (m n : ℕ) (line : List ℕ) → IsTold Two one (t.Lines m) line → IsTold Two two (t.Lines n) line → m ≡ n
told_same one two m n line h k =
    let digits = last_same (head_of one) (head_of two) (decimal m) (decimal n) (decimal_lacks 32 m refl h.1) (decimal_lacks 32 n refl k.1) (sym h.2 ∙ k.2) in
    some_is m n (sym (number_in_again m h.1) ∙ ap number_in digits ∙ number_in_again n k.1)

abbrev first_byte : List ℕ → ℕ
first_byte line = head_or 0 line

not_counted : (one two : Section) (n : ℕ) → has_count Two one ≡ false → has_count Two two ≡ true → head_of one ≡ head_of two ++ told Two n → ⊥
not_counted one two n h k e = by one two h k (ap first_byte e)
  where
    by : (one two : Section) → has_count Two one ≡ false → has_count Two two ≡ true → first_byte (head_of one) ≡ first_byte (head_of two ++ told Two n) → ⊥
    by (s.Title One) (s.Client c) h k e = omega (arith, e)
    by (s.Title One) (s.Publisher c) h k e = omega (arith, e)
    by (s.Title One) s.Bridge h k e = omega (arith, e)
    by (s.Title One) s.Timers h k e = omega (arith, e)
    by (s.Title One) (s.Queue c) h k e = omega (arith, e)
    by (s.Title One) (s.Object o) h k e = omega (arith, e)
    by (s.Title One) (s.Group c) h k e = omega (arith, e)
    by (s.Title One) (s.Watch c) h k e = omega (arith, e)
    by (s.Title One) s.Images h k e = omega (arith, e)
    by (s.Title Two) (s.Client c) h k e = omega (arith, e)
    by (s.Title Two) (s.Publisher c) h k e = omega (arith, e)
    by (s.Title Two) s.Bridge h k e = omega (arith, e)
    by (s.Title Two) s.Timers h k e = omega (arith, e)
    by (s.Title Two) (s.Queue c) h k e = omega (arith, e)
    by (s.Title Two) (s.Object o) h k e = omega (arith, e)
    by (s.Title Two) (s.Group c) h k e = omega (arith, e)
    by (s.Title Two) (s.Watch c) h k e = omega (arith, e)
    by (s.Title Two) s.Images h k e = omega (arith, e)
    by (s.Strategy x) (s.Client c) h k e = omega (arith, e)
    by (s.Strategy x) (s.Publisher c) h k e = omega (arith, e)
    by (s.Strategy x) s.Bridge h k e = omega (arith, e)
    by (s.Strategy x) s.Timers h k e = omega (arith, e)
    by (s.Strategy x) (s.Queue c) h k e = omega (arith, e)
    by (s.Strategy x) (s.Object o) h k e = omega (arith, e)
    by (s.Strategy x) (s.Group c) h k e = omega (arith, e)
    by (s.Strategy x) (s.Watch c) h k e = omega (arith, e)
    by (s.Strategy x) s.Images h k e = omega (arith, e)
    by s.End (s.Client c) h k e = omega (arith, e)
    by s.End (s.Publisher c) h k e = omega (arith, e)
    by s.End s.Bridge h k e = omega (arith, e)
    by s.End s.Timers h k e = omega (arith, e)
    by s.End (s.Queue c) h k e = omega (arith, e)
    by s.End (s.Object o) h k e = omega (arith, e)
    by s.End (s.Group c) h k e = omega (arith, e)
    by s.End (s.Watch c) h k e = omega (arith, e)
    by s.End s.Images h k e = omega (arith, e)
    by _ _ h k e = absurd cc

-- ---- lines that a number suits: no head before so many, and a head behind them

abbrev pub Suits : ℕ → List (List ℕ) → Type 0
Suits count [] = Unit {0}
Suits zero (l ∷ ls) = is_head l ≡ true
Suits (suc count) (l ∷ ls) = (is_head l ≡ false) × Suits count ls

-- each line that tells a number tells one that suits those behind it
abbrev pub Tally : List (List ℕ) → Type 0
Tally [] = Unit {0}
Tally (l ∷ ls) = ((section : Section) (count : ℕ) → IsTold Two section (t.Lines count) l → Suits count ls) × Tally ls

suits_front : (count : ℕ) (ls rest : List (List ℕ)) → Suits count (ls ++ rest) → Suits count ls
suits_front count [] rest h = tt
suits_front zero (l ∷ ls) rest h = h
suits_front (suc count) (l ∷ ls) rest h = (h.0, suits_front count ls rest h.1)

pub tally_front : (ls rest : List (List ℕ)) → Tally (ls ++ rest) → Tally ls
tally_front [] rest h = tt
tally_front (l ∷ ls) rest h = (λ section count tells. suits_front count ls rest (h.0 section count tells), tally_front ls rest h.1)

pub tally_at : (ls : List (List ℕ)) (l : List ℕ) (rest : List (List ℕ)) → Tally (ls ++ l ∷ rest) → (section : Section) (count : ℕ) → IsTold Two section (t.Lines count) l → Suits count rest
tally_at [] l rest h = h.0
tally_at (k ∷ ls) l rest h = tally_at ls l rest h.1

-- nothing follows, or a head does
abbrev pub BeginsSection : List (List ℕ) → Type 0
BeginsSection [] = Unit {0}
BeginsSection (l ∷ ls) = is_head l ≡ true

suits_exact : (bs rest : List (List ℕ)) → AllByRecursion IsNoHead bs → BeginsSection rest → Suits (length bs) (bs ++ rest)
suits_exact [] [] h k = tt
suits_exact [] (l ∷ ls) h k = k
suits_exact (b ∷ bs) rest h k = (h.0, suits_exact bs rest h.1 k)

suits_within : (count : ℕ) (bs : List (List ℕ)) → AllByRecursion IsNoHead bs → length bs ≤ count → Suits count bs
suits_within count [] h few = tt
suits_within zero (b ∷ bs) h few = absurd (omega (arith, few))
suits_within (suc count) (b ∷ bs) h few = (h.0, suits_within count bs h.1 (omega (arith, few)))

-- behind as many lines as were told stands a head
pub suits_end : (bs : List (List ℕ)) (next : List ℕ) → Suits (length bs) (bs ++ next ∷ []) → is_head next ≡ true
suits_end [] next h = h
suits_end (b ∷ bs) next h = suits_end bs next h.1

-- behind fewer stands none
pub suits_more : (count : ℕ) (bs : List (List ℕ)) (next : List ℕ) → length bs < count → Suits count (bs ++ next ∷ []) → is_head next ≡ false
suits_more zero bs next few h = absurd (omega (arith, few))
suits_more (suc count) [] next few h = h.0
suits_more (suc count) (b ∷ bs) next few h = suits_more count bs next (omega (arith, few)) h.1

tally_bodies : (bs rest : List (List ℕ)) → AllByRecursion IsNoHead bs → Tally rest → Tally (bs ++ rest)
tally_bodies [] rest h k = k
tally_bodies (b ∷ bs) rest h k = (
  λ section count tells. absurd (let bad : false ≡ true = sym h.0 ∙ begins_head Two section b (t.Lines count, tells) in cc),
  tally_bodies bs rest h.1 k,
)

-- the number that a section's first line tells is no other
exact_only : (section other : Section) (n count : ℕ) (bs rest : List (List ℕ)) → IsTellable Two n → n ≡ length bs → AllByRecursion IsNoHead bs → BeginsSection rest → IsTold Two other (t.Lines count) (first_of Two section n) → Suits count (bs ++ rest)
exact_only section other n count bs rest small is no_heads begins tells = by (begins_first Two section n small).0 (begins_first Two section n small).1
  where
    by : (told : Told) → IsTold Two section told (first_of Two section n) → Suits count (bs ++ rest)
    by t.Nothing h = absurd (not_counted section other count h.0 tells.0 (sym h.1 ∙ tells.2))
    by (t.Lines m) h =
        let own : IsTold Two section (t.Lines n) (first_of Two section n) = (h.0, small, ap (λ (b : Bool). cond b (head_of section ++ told Two n) (head_of section)) h.0) in
        let same : count ≡ length bs = told_same other section count n (first_of Two section n) tells own ∙ is in
        let P : ℕ → Type 0 = λ k. Suits k (bs ++ rest) in
        subst P (sym same) (suits_exact bs rest no_heads begins)

begins_lines : (shape : Shape) (fs : List Filled) (rest : List (List ℕ)) → AllByRecursion (IsFew Two shape) fs → BeginsSection rest → BeginsSection (all_lines Two shape fs ++ rest)
begins_lines shape [] rest h k = k
begins_lines shape (f ∷ fs) rest h k = let n = length (bodies shape f.1) in begins_head Two f.0 (first_of Two f.0 n) (begins_first Two f.0 n h.0)

-- whole sections in front of others
pub tally_parts : (names : NamesData) (objects : List ObjectId) (fs : List Filled) (rest : List (List ℕ)) → AllFit names objects fs → AllByRecursion (IsFew Two names.shape) fs → BeginsSection rest → Tally rest → Tally (all_lines Two names.shape fs ++ rest)
tally_parts names objects [] rest fits few begins tally = tally
tally_parts names objects (f ∷ fs) rest fits few begins tally =
    let bs = bodies names.shape f.1 in
    let n = length bs in
    let more = all_lines Two names.shape fs ++ rest in
    let no_heads = part_no_head names objects f.0 f.1 fits.0 in
    let at_more = begins_lines names.shape fs rest few.1 begins in
    let same : all_lines Two names.shape (f ∷ fs) ++ rest ≡ first_of Two f.0 n ∷ (bs ++ more) = ap (λ (t : List (List ℕ)). first_of Two f.0 n ∷ t) (append_assoc bs (all_lines Two names.shape fs) rest) in
    let P : List (List ℕ) → Type 0 = λ x. Tally x in
    subst P (sym same) (
      λ section count tells. exact_only f.0 section n count bs more few.0 refl no_heads at_more tells,
      tally_bodies bs more no_heads (tally_parts names objects fs rest fits.1 few.1 begins tally),
    )

-- a section at hand
pub tally_at_hand : (names : NamesData) (objects : List ObjectId) (f : Filled) (count : ℕ) (first : List ℕ) → Fits names objects f.0 f.1 → length (bodies names.shape f.1) ≤ count → IsTold Two f.0 (t.Lines count) first → Tally (first ∷ bodies names.shape f.1)
tally_at_hand names objects f count first fits enough tells =
    let bs = bodies names.shape f.1 in
    let no_heads = part_no_head names objects f.0 f.1 fits in
    let P : ℕ → Type 0 = λ k. Suits k bs in
    let Q : List (List ℕ) → Type 0 = λ x. Tally x in (
      λ section other also. subst P (told_same f.0 section count other first tells also) (suits_within count bs no_heads enough),
      subst Q (append-nil bs) (tally_bodies bs [] no_heads tt),
    )
