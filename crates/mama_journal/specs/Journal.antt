-- believed: what a journal puts, entry by entry.
use Rattle.std.specs.Prelude.{ℕ, zero, suc, Bool, true, ◌&&◌, not, ◌==◌, List, [], ◌∷◌, ◌++◌, length, Option, None, if◌then◌else◌}
use Rattle.std.specs.List.{list_any}
use Rattle.std.specs.Option.{option_or}

-- what the entries put one after another, where some came before them
abbrev pub puts_after : {E P : Type 0} → (List E → E → List P) → List E → List E → List P
puts_after at before [] = []
puts_after at before (e ∷ es) = at before e ++ puts_after at (before ++ e ∷ []) es

-- what a whole journal puts
abbrev pub puts : {E P : Type 0} → (List E → E → List P) → List E → List P
puts at journal = puts_after at [] journal

-- the entry that makes a test of the journal true
abbrev pub turns : {E : Type 0} → (List E → Bool) → List E → E → Bool
turns test before e = test (before ++ e ∷ []) && not (test before)

-- how many entries pass a test
abbrev pub count_of : {E : Type 0} → (E → Bool) → List E → ℕ
count_of test [] = 0
count_of test (e ∷ es) = if test e then suc (count_of test es) else count_of test es

-- what the entries put one after another, where a reaction may look at what was put so far
abbrev pub puts_so_far : {E P : Type 0} → (List E → List P → E → List P) → List E → List P → List E → List P
puts_so_far at before sofar [] = sofar
puts_so_far at before sofar (e ∷ es) = puts_so_far at (before ++ e ∷ []) (sofar ++ at before sofar e) es

-- what a whole journal puts by such reactions
abbrev pub all_puts : {E P : Type 0} → (List E → List P → E → List P) → List E → List P
all_puts at journal = puts_so_far at [] [] journal

-- what the first entry says that says something
abbrev pub first_said : {E A : Type 0} → (E → Option A) → List E → Option A
first_said say [] = None
first_said say (e ∷ es) = option_or (say e) (first_said say es)

-- a test holds of every number below n
abbrev pub all_below : ℕ → (ℕ → Bool) → Bool
all_below zero test = true
all_below (suc n) test = all_below n test && test n

-- the numbers below n, ascending
abbrev pub numbers_below : ℕ → List ℕ
numbers_below zero = []
numbers_below (suc n) = numbers_below n ++ n ∷ []

-- the least number that is not among those in use, sought among the first fuel numbers from k
abbrev pub least_from : ℕ → ℕ → List ℕ → ℕ
least_from k zero used = k
least_from k (suc fuel) used = if list_any (λ n. n == k) used then least_from (suc k) fuel used else k

-- the least number that is not in use
abbrev pub least_free : List ℕ → ℕ
least_free used = least_from 0 (length used) used
