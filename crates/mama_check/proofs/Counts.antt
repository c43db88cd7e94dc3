-- How many lines pass a test, counted in either way.
use Rattle.std.proofs.Common.{◌≡◌, ℕ, suc, ◌+◌, Bool, true, false, List, [], ◌∷◌, length, refl, ap, ◌∙◌, arith}
use Rattle.std.specs.Prelude.{cond, count_by}
use Rattle.std.specs.List.{flat_map}
use Rattle.std.proofs.lemmas.List.Sums.{sum_by-cons}
use Rattle.mama_journal.specs.Journal.{count_of}
use Rattle.mama_script.specs.declared.publisher.PublisherLine.{PublisherLine}
use Rattle.mama_script.specs.declared.publisher.PublisherLine.TheVariants as line
use Rattle.mama_rules_rounds.specs.Sections.{sends_in}
use Rattle.mama_check.specs.Sends.{is_sending}

one_or_none : (b : Bool) (n : ℕ) → cond b 1 0 + n ≡ cond b (suc n) n
one_or_none true n = omega arith
one_or_none false n = omega arith

pub counted : {X : Type 0} (test : X → Bool) (xs : List X) → count_by test xs ≡ count_of test xs
counted test [] = refl
counted test (x ∷ xs) =
    sum_by-cons (λ (y : _). cond (test y) 1 0) x xs
    ∙ ap (λ (n : ℕ). cond (test x) 1 0 + n) (counted test xs)
    ∙ one_or_none (test x) (count_of test xs)

sends_so : (xs : List PublisherLine) → count_of is_sending xs ≡ length (flat_map sends_in xs)
sends_so [] = refl
sends_so (line.Update u ∷ xs) = ap suc (sends_so xs)
sends_so (line.Recap ∷ xs) = ap suc (sends_so xs)
sends_so (line.Pause n ∷ xs) = sends_so xs

pub sends_counted : (xs : List PublisherLine) → count_by is_sending xs ≡ length (flat_map sends_in xs)
sends_counted xs = counted is_sending xs ∙ sends_so xs
