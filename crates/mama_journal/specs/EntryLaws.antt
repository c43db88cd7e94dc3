-- inner: what one entry more puts, and induction over the entries of a journal from its end.
use Rattle.std.specs.Option.{option_or}
use Rattle.std.proofs.Common.{◌≡◌, List, [], ◌∷◌, ◌++◌, Option, None, Some, refl, sym, ◌∙◌, ap, subst, append-nil, append_assoc}
use Rattle.mama_journal.specs.Journal.{puts_after, puts, puts_so_far, all_puts, first_said}

-- ---- induction over entries at the end

entries_from : {X : Type 0} (P : List X → Type 0) → ((xs : List X) (x : X) → P xs → P (xs ++ x ∷ [])) → (front back : List X) → P front → P (front ++ back)
entries_from P step front [] h = subst P (sym (append-nil front)) h
entries_from P step front (x ∷ xs) h = subst P (append_assoc front (x ∷ []) xs) (entries_from P step (front ++ x ∷ []) xs (step front x h))

pub by_entries : {X : Type 0} (P : List X → Type 0) → P [] → ((xs : List X) (x : X) → P xs → P (xs ++ x ∷ [])) → (xs : List X) → P xs
by_entries P start step xs = entries_from P step [] xs start

-- ---- what one entry more puts

pub puts_after-push : {E P : Type 0} (at : List E → E → List P) (before es : List E) (e : E) → puts_after at before (es ++ e ∷ []) ≡ puts_after at before es ++ at (before ++ es) e
puts_after-push at before [] e = rw (append-nil before) (append-nil (at before e))
puts_after-push {E} at before (x ∷ es) e =
    let ih = puts_after-push at (before ++ x ∷ []) es e in
    let same : (before ++ x ∷ []) ++ es ≡ before ++ (x ∷ es) = append_assoc before (x ∷ []) es in
    rw ih (rw same (sym (append_assoc (at before x) (puts_after at (before ++ x ∷ []) es) (at (before ++ (x ∷ es)) e))))

pub puts-push : {E P : Type 0} (at : List E → E → List P) (es : List E) (e : E) → puts at (es ++ e ∷ []) ≡ puts at es ++ at es e
puts-push at es e = puts_after-push at [] es e

pub puts_so_far-push : {E P : Type 0} (at : List E → List P → E → List P) (before : List E) (sofar : List P) (es : List E) (e : E)
    → puts_so_far at before sofar (es ++ e ∷ []) ≡ puts_so_far at before sofar es ++ at (before ++ es) (puts_so_far at before sofar es) e
puts_so_far-push at before sofar [] e = rw (append-nil before) refl
puts_so_far-push at before sofar (x ∷ es) e =
    puts_so_far-push at (before ++ x ∷ []) (sofar ++ at before sofar x) es e ∙ rw (append_assoc before (x ∷ []) es) refl

pub all_puts-push : {E P : Type 0} (at : List E → List P → E → List P) (es : List E) (e : E) → all_puts at (es ++ e ∷ []) ≡ all_puts at es ++ at es (all_puts at es) e
all_puts-push at es e = puts_so_far-push at [] [] es e

-- ---- what is said first

option_or_assoc : {A : Type 0} (a b c : Option A) → option_or a (option_or b c) ≡ option_or (option_or a b) c
option_or_assoc None b c = refl
option_or_assoc (Some x) b c = refl

pub first_said-append : {E A : Type 0} (say : E → Option A) (es fs : List E) → first_said say (es ++ fs) ≡ option_or (first_said say es) (first_said say fs)
first_said-append say [] fs = refl
first_said-append say (e ∷ es) fs = ap (λ o. option_or (say e) o) (first_said-append say es fs) ∙ option_or_assoc (say e) (first_said say es) (first_said say fs)
