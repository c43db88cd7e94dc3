-- What comes out of a link in all, by induction over one message more.
use Rattle.std.proofs.Common.{◌≡◌, ◌≢◌, ℕ, ◌+◌, ◌*◌, ◌<◌, ◌≤◌, ◌==◌, Bool, false, not, cond, List, [], ◌∷◌, ◌++◌, length, filter, Option, None, Some, refl, sym, ◌∙◌, ap, arith, append-nil, append_assoc, length-append, subst, suc, zero, add-one, add-zero, option_to_list}
use Rattle.std.specs.Prelude.{count_by}
use Rattle.std.specs.List.{flat_map, range_with_len, enumerate_from}
use Rattle.std.specs.List.Sorted.{IsPermutation}
use Rattle.std.proofs.lemmas.Bool.Decides.{nat_tests}
use Rattle.std.proofs.lemmas.Grind.{flat_map-append}
use Rattle.std.proofs.lemmas.List.{map-append}
use Rattle.std.proofs.lemmas.List.Elements.{filter-append}
use Rattle.std.proofs.lemmas.List.Sums.{sum_by-cons, sum_by-append}
use Rattle.std.proofs.lemmas.List.Sorted.{IsPermutation-refl, IsPermutation-trans, IsPermutation-append_left, IsPermutation-append_right, IsPermutation-append_comm, IsPermutation-map, IsPermutation-filter_both, sum_by-IsPermutation}
use Rattle.mama_link.specs.declared.faults.Fault.{Fault}
use Rattle.mama_link.specs.declared.faults.Fault.TheVariants.{Lose, Dup, Hold, Cut}
use Rattle.mama_link.specs.declared.faults.FaultRow.{FaultRow}
use Rattle.mama_link.specs.Faults.{fault_at, first_fault}
use Rattle.mama_link.specs.Link.{is_held_until, is_due, is_held, copies, shares, shared, numbered, messages, emit, held, through}
use Rattle.mama_link.specs.Standing.{standing_after, coming}
use Rattle.mama_link.specs.Steps.{held_back, at_place, standing_next}
use Rattle.mama_link.specs.Laws.{PassesAll, SharesOut, LosesNone, LosesNothing, AtMostTwice, IsUncut}
use Rattle.mama_link.proofs.LinkLemmas.{HoldsByMore, numbered-more, emit-next, held-next}
use Rattle.mama_link.proofs.CursorLemmas.{holds_by_more}

-- ---- one message more at the end

grow : {T : Type 0} (P : List T → Type 0) → ((x : List T) (message : T) → P x → P (x ++ message ∷ [])) → (front x : List T) → P front → P (front ++ x)
grow P step front [] p = subst P (sym (append-nil front)) p
grow P step front (message ∷ x) p = subst P (append_assoc front (message ∷ []) x) (grow P step (front ++ message ∷ []) x (step front message p))

-- what holds of no messages, and of one more, holds of any
one_more : {T : Type 0} (P : List T → Type 0) → P [] → ((x : List T) (message : T) → P x → P (x ++ message ∷ [])) → (x : List T) → P x
one_more P none step x = grow P step [] x none

-- ---- what came out so far stays

above_is_other : (n place : ℕ) → place < n → (n == place) ≡ false
above_is_other n place h = grind (arith, nat_tests)

not_due_before : (n place : ℕ) (fault : Option Fault) → place < n → is_held_until place n fault ≡ false
not_due_before n place None h = refl
not_due_before n place (Some Lose) h = refl
not_due_before n place (Some Dup) h = refl
not_due_before n place (Some (Hold by)) h = above_is_other (n + by) place (omega (arith, h))
not_due_before n place (Some (Cut keep)) h = refl

emit-before : {T : Type 0} (cut : ℕ → T → T) (rows : List FaultRow) (x : List T) (message : T) (place : ℕ) → place < length x + 1 → emit cut rows (x ++ message ∷ []) place ≡ emit cut rows x place
emit-before {T} cut rows x message place h =
    let at : ℕ × T → Bool = λ (entry : ℕ × T). entry.0 == place in
    let due : ℕ × T → Bool = is_due rows place in
    let last : ℕ × T = (length x + 1, message) in
    let not_at : (length x + 1 == place) ≡ false = above_is_other (length x + 1) place h in
    let not_due : is_due rows place last ≡ false = not_due_before (length x + 1) place (fault_at rows (length x + 1)) h in
    let owns : filter at (numbered (x ++ message ∷ [])) ≡ filter at (numbered x) =
    ap (filter at) (numbered-more x message) ∙ filter-append at (numbered x) (last ∷ []) ∙ rw not_at (append-nil (filter at (numbered x))) in
    let dues : filter due (numbered (x ++ message ∷ [])) ≡ filter due (numbered x) =
    ap (filter due) (numbered-more x message) ∙ filter-append due (numbered x) (last ∷ []) ∙ rw not_due (append-nil (filter due (numbered x))) in
    rw (owns, dues) refl

flat_map-range : {X : Type 0} (f g : ℕ → List X) (a n : ℕ) → ((k : ℕ) → k < a + n → f k ≡ g k) → flat_map f (range_with_len a n) ≡ flat_map g (range_with_len a n)
flat_map-range f g a zero same = refl
flat_map-range f g a (suc n) same = rw (same a (omega arith), flat_map-range f g (a + 1) n (λ k h. same k (omega (arith, h)))) refl

range-more : (a n : ℕ) → range_with_len a (n + 1) ≡ range_with_len a n ++ (a + n) ∷ []
range-more a n = ap (range_with_len a) (add-one n) ∙ by_length a n
  where
    by_length : (b m : ℕ) → range_with_len b (suc m) ≡ range_with_len b m ++ (b + m) ∷ []
    by_length b zero = ap (λ (k : ℕ). k ∷ []) (sym (add-zero b))
    by_length b (suc m) =
        let same : b + 1 + m ≡ b + suc m = omega arith in
        ap (λ (ns : List ℕ). b ∷ ns) (by_length (b + 1) m ∙ ap (λ (k : ℕ). range_with_len (b + 1) m ++ k ∷ []) same)

-- what comes out before the end
abbrev pub emitted : {T : Type 0} → (ℕ → T → T) → List FaultRow → List T → List T
emitted cut rows x = flat_map (emit cut rows x) (range_with_len 1 (length x))

pub emitted-more : {T : Type 0} (cut : ℕ → T → T) (rows : List FaultRow) (x : List T) (message : T) → emitted cut rows (x ++ message ∷ []) ≡ emitted cut rows x ++ emit cut rows (x ++ message ∷ []) (length x + 1)
emitted-more {T} cut rows x message =
    let all : List T = x ++ message ∷ [] in
    let long : length all ≡ length x + 1 = length-append x (message ∷ []) in
    let next : 1 + length x ≡ length x + 1 = omega arith in
    ap (λ (n : ℕ). flat_map (emit cut rows all) (range_with_len 1 n)) long
    ∙ ap (flat_map (emit cut rows all)) (range-more 1 (length x) ∙ ap (λ (n : ℕ). range_with_len 1 (length x) ++ n ∷ []) next)
    ∙ flat_map-append (emit cut rows all) (range_with_len 1 (length x)) ((length x + 1) ∷ [])
    ∙ rw (append-nil (emit cut rows all (length x + 1)), flat_map-range (emit cut rows all) (emit cut rows x) 1 (length x) (λ k h. emit-before cut rows x message k (omega (arith, h)))) refl

-- what comes out of a link that one message more goes into
through-more : {T : Type 0} (cut : ℕ → T → T) (rows : List FaultRow) (x : List T) (message : T) → HoldsByMore rows →
    through cut rows (x ++ message ∷ []) ≡ (emitted cut rows x ++ coming cut (standing_after rows x) message) ++ messages (standing_next (standing_after rows x) message).held
through-more cut rows x message holds =
    rw (emitted-more cut rows x message, emit-next cut rows x message holds, held-next rows x message holds) refl

-- ---- without rows

filter-none : {X : Type 0} (p : X → Bool) → ((e : X) → p e ≡ false) → (es : List X) → filter p es ≡ []
filter-none p fails [] = refl
filter-none p fails (e ∷ es) = rw (fails e) (filter-none p fails es)

none_held : {T : Type 0} (x : List T) → held [] x ≡ []
none_held x = filter-none (is_held [] (length x)) (λ e. refl) (numbered x)

passes_more : {T : Type 0} (cut : ℕ → T → T) (x : List T) (message : T) → through cut [] x ≡ x → through cut [] (x ++ message ∷ []) ≡ x ++ message ∷ []
passes_more {T} cut x message same =
    let other : ℕ × T → Bool = λ (entry : ℕ × T). not (is_due [] (length x + 1) entry) in
    let so_far : emitted cut [] x ≡ x = sym (append-nil (emitted cut [] x)) ∙ ap (λ (hs : List (ℕ × T)). emitted cut [] x ++ messages hs) (sym (none_held x)) ∙ same in
    let none : List (ℕ × T) = [] in
    through-more cut [] x message (λ i by e. absurd cc)
    ∙ ap (λ (hs : List (ℕ × T)). (emitted cut [] x ++ message ∷ messages (filter (is_due [] (length x + 1)) hs)) ++ messages (filter other hs ++ none)) (none_held x)
    ∙ append-nil (emitted cut [] x ++ message ∷ []) ∙ ap (λ (ys : List T). ys ++ message ∷ []) so_far

pub passes_all : {T : Type 0} → PassesAll T
passes_all {T} cut = let Same : List T → Type 0 = λ x. through cut [] x ≡ x in one_more Same refl (passes_more cut)

-- ---- as often as the faults say

shares-are : {T : Type 0} (cut : ℕ → T → T) (fault : Option Fault) (message : T) → shares cut fault message ≡ copies cut fault message ++ option_to_list (held_back fault message)
shares-are cut None message = refl
shares-are cut (Some Lose) message = refl
shares-are cut (Some Dup) message = refl
shares-are cut (Some (Hold by)) message = refl
shares-are cut (Some (Cut keep)) message = refl

messages-at_place : {T : Type 0} (place : ℕ) (one : Option T) → messages (at_place place one) ≡ option_to_list one
messages-at_place place None = refl
messages-at_place place (Some message) = refl

regroup : {X : Type 0} (e d k c a : List X) → (e ++ (d ++ k)) ++ (c ++ a) ≡ e ++ (((d ++ k) ++ c) ++ a)
regroup e d k c a = simp append_assoc

regrouped : {X : Type 0} (e d k c a : List X) → e ++ ((c ++ (d ++ k)) ++ a) ≡ (e ++ (c ++ d)) ++ (k ++ a)
regrouped e d k c a = simp append_assoc

shuffle : {X : Type 0} (e c d k a m : List X) → IsPermutation m (d ++ k) → IsPermutation ((e ++ m) ++ (c ++ a)) ((e ++ (c ++ d)) ++ (k ++ a))
shuffle {X} e c d k a m p =
    let first : IsPermutation ((e ++ m) ++ (c ++ a)) ((e ++ (d ++ k)) ++ (c ++ a)) = IsPermutation-append_left (c ++ a) (e ++ m) (e ++ (d ++ k)) (IsPermutation-append_right e m (d ++ k) p) in
    let turn : IsPermutation (e ++ (((d ++ k) ++ c) ++ a)) (e ++ ((c ++ (d ++ k)) ++ a)) =
    IsPermutation-append_right e (((d ++ k) ++ c) ++ a) ((c ++ (d ++ k)) ++ a) (IsPermutation-append_left a ((d ++ k) ++ c) (c ++ (d ++ k)) (IsPermutation-append_comm (d ++ k) c)) in
    let From : List X → Type 0 = λ xs. IsPermutation xs ((e ++ (c ++ d)) ++ (k ++ a)) in
    let To : List X → Type 0 = λ ys. IsPermutation (e ++ (((d ++ k) ++ c) ++ a)) ys in
    let second : IsPermutation ((e ++ (d ++ k)) ++ (c ++ a)) ((e ++ (c ++ d)) ++ (k ++ a)) = subst From (sym (regroup e d k c a)) (subst To (regrouped e d k c a) turn) in
    IsPermutation-trans ((e ++ m) ++ (c ++ a)) ((e ++ (d ++ k)) ++ (c ++ a)) ((e ++ (c ++ d)) ++ (k ++ a)) first second

shares_more : {T : Type 0} (cut : ℕ → T → T) (rows : List FaultRow) → HoldsByMore rows → (x : List T) (message : T) →
    IsPermutation (flat_map (shared cut rows) (numbered x)) (through cut rows x) → IsPermutation (flat_map (shared cut rows) (numbered (x ++ message ∷ []))) (through cut rows (x ++ message ∷ []))
shares_more {T} cut rows holds x message so_far =
    let due : ℕ × T → Bool = is_due rows (length x + 1) in
    let other : ℕ × T → Bool = λ (entry : ℕ × T). not (is_due rows (length x + 1) entry) in
    let fault : Option Fault = fault_at rows (length x + 1) in
    let e : List T = emitted cut rows x in
    let c : List T = copies cut fault message in
    let d : List T = messages (filter due (held rows x)) in
    let k : List T = messages (filter other (held rows x)) in
    let a : List T = option_to_list (held_back fault message) in
    let s : List T = flat_map (shared cut rows) (numbered x) in
    let named : ℕ × T → T = λ (entry : ℕ × T). entry.1 in
    let parts : IsPermutation (messages (held rows x)) (messages (filter due (held rows x) ++ filter other (held rows x))) =
    IsPermutation-map named (held rows x) (filter due (held rows x) ++ filter other (held rows x)) (IsPermutation-filter_both due other (λ (entry : ℕ × T). refl) (held rows x)) in
    let Parts : List T → Type 0 = λ ys. IsPermutation (messages (held rows x)) ys in
    let split : IsPermutation (messages (held rows x)) (d ++ k) = subst Parts (map-append named (filter due (held rows x)) (filter other (held rows x))) parts in
    let grown : IsPermutation (s ++ (c ++ a)) ((e ++ (c ++ d)) ++ (k ++ a)) =
    IsPermutation-trans (s ++ (c ++ a)) ((e ++ messages (held rows x)) ++ (c ++ a)) ((e ++ (c ++ d)) ++ (k ++ a))
    (IsPermutation-append_left (c ++ a) s (e ++ messages (held rows x)) so_far) (shuffle e c d k a (messages (held rows x)) split) in
    let from : flat_map (shared cut rows) (numbered (x ++ message ∷ [])) ≡ s ++ (c ++ a) =
    ap (flat_map (shared cut rows)) (numbered-more x message) ∙ flat_map-append (shared cut rows) (numbered x) ((length x + 1, message) ∷ [])
    ∙ ap (λ (ys : List T). s ++ ys) (append-nil (shares cut fault message) ∙ shares-are cut fault message) in
    let to : through cut rows (x ++ message ∷ []) ≡ (e ++ (c ++ d)) ++ (k ++ a) =
    through-more cut rows x message holds
    ∙ ap (λ (ys : List T). (e ++ (c ++ d)) ++ ys) (map-append named (filter other (held rows x)) (at_place (length x + 1) (held_back fault message)) ∙ ap (λ (ys : List T). k ++ ys) (messages-at_place (length x + 1) (held_back fault message))) in
    let From : List T → Type 0 = λ xs. IsPermutation xs (through cut rows (x ++ message ∷ [])) in
    let To : List T → Type 0 = λ ys. IsPermutation (s ++ (c ++ a)) ys in
    subst From (sym from) (subst To (sym to) grown)

pub shares_out : {T : Type 0} → SharesOut T
shares_out {T} cut rows x sound =
    let Shares : List T → Type 0 = λ y. IsPermutation (flat_map (shared cut rows) (numbered y)) (through cut rows y) in
    let none : List T = [] in
    one_more Shares (IsPermutation-refl none) (shares_more cut rows (holds_by_more rows sound)) x

-- ---- how often

one_at_least : {T : Type 0} (cut : ℕ → T → T) (test : T → Bool) → IsUncut cut test → (fault : Option Fault) (message : T) → fault ≢ Some Lose → cond (test message) 1 0 ≤ count_by test (shares cut fault message)
one_at_least cut test uncut None message kept = omega (arith, sum_by-cons (λ (m : _). cond (test m) 1 0) message [])
one_at_least cut test uncut (Some Lose) message kept = absurd (kept refl)
one_at_least cut test uncut (Some Dup) message kept = omega (arith, sum_by-cons (λ (m : _). cond (test m) 1 0) message (message ∷ []))
one_at_least cut test uncut (Some (Hold by)) message kept = omega (arith, sum_by-cons (λ (m : _). cond (test m) 1 0) message [])
one_at_least cut test uncut (Some (Cut keep)) message kept =
    let weight : Bool → ℕ = λ b. cond b 1 0 in
    let same = ap weight (uncut keep message) in
    omega (arith, same, sum_by-cons (λ (m : _). cond (test m) 1 0) (cut keep message) [])

two_at_most : {T : Type 0} (cut : ℕ → T → T) (test : T → Bool) → IsUncut cut test → (fault : Option Fault) (message : T) → count_by test (shares cut fault message) ≤ 2 * cond (test message) 1 0
two_at_most cut test uncut None message = omega (arith, sum_by-cons (λ (m : _). cond (test m) 1 0) message [])
two_at_most cut test uncut (Some Lose) message = omega arith
two_at_most cut test uncut (Some Dup) message = omega (arith, sum_by-cons (λ (m : _). cond (test m) 1 0) message (message ∷ []), sum_by-cons (λ (m : _). cond (test m) 1 0) message [])
two_at_most cut test uncut (Some (Hold by)) message = omega (arith, sum_by-cons (λ (m : _). cond (test m) 1 0) message [])
two_at_most cut test uncut (Some (Cut keep)) message =
    let weight : Bool → ℕ = λ b. cond b 1 0 in
    let same = ap weight (uncut keep message) in
    omega (arith, same, sum_by-cons (λ (m : _). cond (test m) 1 0) (cut keep message) [])

count-shares-least : {T : Type 0} (cut : ℕ → T → T) (rows : List FaultRow) → LosesNone rows → (test : T → Bool) → IsUncut cut test → (n : ℕ) (x : List T) → count_by test x ≤ count_by test (flat_map (shared cut rows) (enumerate_from n x))
count-shares-least cut rows loses test uncut n [] = omega arith
count-shares-least {T} cut rows loses test uncut n (m ∷ x) =
    let weight : T → ℕ = λ (y : T). cond (test y) 1 0 in
    let one = one_at_least cut test uncut (fault_at rows n) m (loses n) in
    let ih = count-shares-least cut rows loses test uncut (n + 1) x in
    let head = sum_by-cons weight m x in
    let whole = sum_by-append weight (shares cut (fault_at rows n) m) (flat_map (shared cut rows) (enumerate_from (n + 1) x)) in
    omega (arith, one, ih, head, whole)

count-shares-most : {T : Type 0} (cut : ℕ → T → T) (rows : List FaultRow) (test : T → Bool) → IsUncut cut test → (n : ℕ) (x : List T) → count_by test (flat_map (shared cut rows) (enumerate_from n x)) ≤ 2 * count_by test x
count-shares-most cut rows test uncut n [] = omega arith
count-shares-most {T} cut rows test uncut n (m ∷ x) =
    let weight : T → ℕ = λ (y : T). cond (test y) 1 0 in
    let two = two_at_most cut test uncut (fault_at rows n) m in
    let ih = count-shares-most cut rows test uncut (n + 1) x in
    let head = sum_by-cons weight m x in
    let whole = sum_by-append weight (shares cut (fault_at rows n) m) (flat_map (shared cut rows) (enumerate_from (n + 1) x)) in
    omega (arith, two, ih, head, whole)

count-through : {T : Type 0} (cut : ℕ → T → T) (rows : List FaultRow) (x : List T) → first_fault rows ≡ None → (test : T → Bool) → count_by test (through cut rows x) ≡ count_by test (flat_map (shared cut rows) (numbered x))
count-through {T} cut rows x sound test = sum_by-IsPermutation (λ (y : T). cond (test y) 1 0) (flat_map (shared cut rows) (numbered x)) (through cut rows x) (shares_out cut rows x sound)

pub loses_nothing : {T : Type 0} → LosesNothing T
loses_nothing cut rows x sound loses test uncut = omega (arith, count-through cut rows x sound test, count-shares-least cut rows loses test uncut 1 x)

pub at_most_twice : {T : Type 0} → AtMostTwice T
at_most_twice cut rows x sound test uncut = omega (arith, count-through cut rows x sound test, count-shares-most cut rows test uncut 1 x)
