-- Lists whose elements are numbered, and what holds of the element of a number.
use Rattle.std.specs.Prelude.{slice_index_or}
use Rattle.std.specs.List.{All, AllZip, slice_get, flat_map}
use Rattle.std.proofs.Common.{◌≡◌, ℕ, zero, suc, ◌<◌, ◌≤◌, ◌==◌, Bool, true, false, cond, List, [], ◌∷◌, ◌++◌, length, map, None, Some, refl, sym, ◌∙◌, ap, subst, arith, append-nil, append_assoc}
use Rattle.std.proofs.lemmas.Bool.{false_from_ne_true, eqb-true, eqb-false}
use Rattle.std.proofs.lemmas.List.{length-map, length-append, map-append, get_or-map}
use Rattle.std.proofs.lemmas.List.Concat.{flat_map-append}
use Rattle.std.proofs.lemmas.List.Elements.{All-nil, All-cons, All-head, All-tail}
use Rattle.std.proofs.lemmas.Option.{get_or_from_slice_get, slice_get_within}
use Rattle.mama_journal.specs.Journal.{numbers_below}
use Rattle.mama_journal.specs.Lane.{by_port}

pub append_none : {A : Type 0} (xs : List A) → xs ++ [] ≡ xs
append_none xs = append-nil xs

-- the element of an index that is within
pub found_at : {A : Type 0} (xs : List A) (k : ℕ) → k < length xs → (x : A) × (slice_get xs k ≡ Some x)
found_at [] k small = absurd (omega arith)
found_at (x ∷ xs) zero small = (x, refl)
found_at (x ∷ xs) (suc k) small = found_at xs k (omega arith)

pub all_at : {A : Type 0} (P : A → Type 0) (xs : List A) (k : ℕ) (x : A) → All P xs → slice_get xs k ≡ Some x → P x
all_at P xs k x all is = subst P (get_or_from_slice_get xs k x x is) (all k x (slice_get_within xs k x is))

pub map_at : {A B : Type 0} (f : A → B) (xs : List A) (k : ℕ) (x : A) (d : B) → slice_get xs k ≡ Some x → slice_index_or (map f xs) k d ≡ f x
map_at f xs k x d is = get_or-map f xs k x d (slice_get_within xs k x is) ∙ ap f (get_or_from_slice_get xs k x x is)

pub map_get : {A B : Type 0} (f : A → B) (xs : List A) (k : ℕ) (x : A) → slice_get xs k ≡ Some x → slice_get (map f xs) k ≡ Some (f x)
map_get f [] k x is = absurd (cc is)
map_get f (y ∷ xs) zero x is = let first : y ≡ x = cc is in ap (λ z. Some (f z)) first
map_get f (y ∷ xs) (suc k) x is = map_get f xs k x is

-- one element stands at an index
pub get_same : {A : Type 0} (xs : List A) (k : ℕ) (x y : A) → slice_get xs k ≡ Some x → slice_get xs k ≡ Some y → x ≡ y
get_same xs k x y is_x is_y = let both : Some x ≡ Some y = sym is_x ∙ is_y in cc

pub zip_at : {A B : Type 0} (R : A → B → Type 0) (xs : List A) (ys : List B) (k : ℕ) (x : A) (y : B) → AllZip R xs ys → slice_get xs k ≡ Some x → slice_get ys k ≡ Some y → R x y
zip_at R [] ys k x y all is_x is_y = absurd (cc is_x)
zip_at R (a ∷ xs) [] k x y all is_x is_y = absurd all
zip_at {A} {B} R (a ∷ xs) (b ∷ ys) zero x y all is_x is_y =
    let first : a ≡ x = cc is_x in
    let second : b ≡ y = cc is_y in
    subst (λ (v : A). R v y) first (subst (R a) second all.0)
zip_at R (a ∷ xs) (b ∷ ys) (suc k) x y all is_x is_y = zip_at R xs ys k x y all.1 is_x is_y

-- ---- numbers

pub numbers_len : (n : ℕ) → length (numbers_below n) ≡ n
numbers_len zero = refl
numbers_len (suc n) = let more = length-append (numbers_below n) (n ∷ []) in let less = numbers_len n in omega (arith, more, less)

number_front : (xs ys : List ℕ) (k : ℕ) → k < length xs → slice_index_or (xs ++ ys) k 0 ≡ slice_index_or xs k 0
number_front [] ys k small = absurd (omega arith)
number_front (x ∷ xs) ys zero small = refl
number_front (x ∷ xs) ys (suc k) small = number_front xs ys k (omega arith)

number_last : (xs : List ℕ) (n k : ℕ) → k ≡ length xs → slice_index_or (xs ++ n ∷ []) k 0 ≡ n
number_last [] n zero is = refl
number_last [] n (suc k) is = absurd (omega arith)
number_last (x ∷ xs) n zero is = absurd (omega arith)
number_last (x ∷ xs) n (suc k) is = number_last xs n k (omega arith)

number_there : (n k : ℕ) → k < n → slice_index_or (numbers_below n) k 0 ≡ k
number_there zero k small = absurd (omega arith)
number_there (suc n) k small = either (k == n) refl (number_there n k)
  where
    either : (b : Bool) → (k == n) ≡ b → (k < n → slice_index_or (numbers_below n) k 0 ≡ k) → slice_index_or (numbers_below n ++ n ∷ []) k 0 ≡ k
    either true is below =
        let same : k ≡ n = eqb-true k n is in
        let len = numbers_len n in
        number_last (numbers_below n) n k (omega (arith, same, len)) ∙ sym same
    either false is below =
        let apart : k ≡ n → ⊥ = eqb-false k n is in
        let len = numbers_len n in
        number_front (numbers_below n) (n ∷ []) k (omega (arith, small, apart, len)) ∙ below (omega (arith, small, apart))

-- so many elements, each with the number of its index
pub numbered_len : {A : Type 0} (f : A → ℕ) (xs : List A) (n : ℕ) → map f xs ≡ numbers_below n → length xs ≡ n
numbered_len f xs n is = sym (length-map xs f) ∙ ap length is ∙ numbers_len n

pub numbered_at : {A : Type 0} (f : A → ℕ) (xs : List A) (n k : ℕ) (x : A) → map f xs ≡ numbers_below n → slice_get xs k ≡ Some x → f x ≡ k
numbered_at f xs n k x is at =
    let small : k < n = subst (λ (m : ℕ). k < m) (numbered_len f xs n is) (slice_get_within xs k x at) in
    sym (map_at f xs k x 0 at) ∙ ap (λ (ns : List ℕ). slice_index_or ns k 0) is ∙ number_there n k small

-- ---- both parts of a list

pub all_front : {A : Type 0} (P : A → Type 0) (xs ys : List A) → All P (xs ++ ys) → All P xs
all_front P [] ys all = All-nil P
all_front P (x ∷ xs) ys all = All-cons P x xs (All-head P x (xs ++ ys) all) (all_front P xs ys (All-tail P x (xs ++ ys) all))

pub all_back : {A : Type 0} (P : A → Type 0) (xs ys : List A) → All P (xs ++ ys) → All P ys
all_back P [] ys all = all
all_back P (x ∷ xs) ys all = all_back P xs ys (All-tail P x (xs ++ ys) all)

-- what holds of all that a list is mapped to
pub all_mapped : {A B : Type 0} (P : B → Type 0) (f : A → B) (xs : List A) → All P (map f xs) → All (λ x. P (f x)) xs
all_mapped P f [] all = All-nil (λ x. P (f x))
all_mapped P f (x ∷ xs) all = All-cons (λ x. P (f x)) x xs (All-head P (f x) (map f xs) all) (all_mapped P f xs (All-tail P (f x) (map f xs) all))

-- what was taken by ports below a bound did not come by one above it
pub none_past : {V : Type 0} (n port : ℕ) (es : List (ℕ × V)) → All (λ (e : ℕ × V). e.0 < n) es → n ≤ port → by_port port es ≡ []
none_past n port [] below past = refl
none_past {V} n port (e ∷ es) below past =
    let small : e.0 < n = All-head (λ (d : ℕ × V). d.0 < n) e es below in
    let apart : (e.0 == port) ≡ false = false_from_ne_true (e.0 == port) (λ is. let same : e.0 ≡ port = eqb-true e.0 port is in omega (arith, small, past, same)) in
    ap (λ (b : Bool). cond b (e.1 ∷ by_port port es) (by_port port es)) apart ∙ none_past n port es (All-tail (λ (d : ℕ × V). d.0 < n) e es below) past

-- lists that agree at each index are one
pub same_lists : {A : Type 0} (xs ys : List A) → length xs ≡ length ys → ((k : ℕ) (x y : A) → slice_get xs k ≡ Some x → slice_get ys k ≡ Some y → x ≡ y) → xs ≡ ys
same_lists [] [] len same = refl
same_lists [] (y ∷ ys) len same = absurd (omega arith)
same_lists (x ∷ xs) [] len same = absurd (omega arith)
same_lists {A} (x ∷ xs) (y ∷ ys) len same =
    ap (λ (a : A). a ∷ xs) (same 0 x y refl refl) ∙ ap (λ (zs : List A). y ∷ zs) (same_lists xs ys (omega arith) (λ k a b is_a is_b. same (suc k) a b is_a is_b))

-- the element that follows some others of a list whose elements are numbered
pub next_at : {A : Type 0} (before : List A) (x : A) (rest : List A) → slice_get (before ++ x ∷ rest) (length before) ≡ Some x
next_at [] x rest = refl
next_at (y ∷ before) x rest = next_at before x rest

pub numbered_here : {A B : Type 0} (number : A → ℕ) (f : A → B) (xs before : List A) (x : A) (rest : List A) (n : ℕ) (d : B) → xs ≡ before ++ x ∷ rest → map number xs ≡ numbers_below n → slice_index_or (map f xs) (number x) d ≡ f x
numbered_here {A} {B} number f xs before x rest n d is numbers =
    let at : slice_get xs (length before) ≡ Some x = ap (λ (ys : List A). slice_get ys (length before)) is ∙ next_at before x rest in
    ap (λ (k : ℕ). slice_index_or (map f xs) k d) (numbered_at number xs n (length before) x numbers at) ∙ map_at f xs (length before) x d at

-- one element more of a list that begins another
pub begins_more : {A : Type 0} (before rest whole : List A) (x : A) → before ++ rest ≡ whole → slice_get whole (length before) ≡ Some x → (more : List A) × ((before ++ x ∷ []) ++ more ≡ whole)
begins_more {A} [] [] whole x is at = let none : None ≡ Some x = ap (λ (ys : List A). slice_get ys 0) is ∙ at in absurd (cc none)
begins_more {A} [] (y ∷ rest) whole x is at =
    let here : Some y ≡ Some x = ap (λ (ys : List A). slice_get ys 0) is ∙ at in
    let same : y ≡ x = cc here in
    (rest, ap (λ (z : A). z ∷ rest) (sym same) ∙ is)
begins_more (b ∷ before) rest [] x is at = absurd (cc is)
begins_more {A} (b ∷ before) rest (w ∷ whole) x is at =
    let first : b ≡ w = cc is in
    let later : before ++ rest ≡ whole = cc is in
    let more = begins_more before rest whole x later at in
    (more.0, ap (λ (z : A). z ∷ ((before ++ x ∷ []) ++ more.0)) first ∙ ap (λ (ys : List A). w ∷ ys) more.1)

-- a list that begins one that is as long is all of it
pub begins_all : {A : Type 0} (before rest whole : List A) → before ++ rest ≡ whole → length before ≡ length whole → before ≡ whole
begins_all before [] whole is len = sym (append-nil before) ∙ is
begins_all before (x ∷ rest) whole is len =
    let more = length-append before (x ∷ rest) in
    let same : length (before ++ x ∷ rest) ≡ length whole = ap length is in
    absurd (omega (arith, more, same, len))

-- one element more of a list that is mapped
pub mapped_more : {A B : Type 0} (f : A → B) (xs : List A) (x : A) (old new : List B) → new ≡ old ++ f x ∷ [] → old ≡ map f xs → new ≡ map f (xs ++ x ∷ [])
mapped_more {A} {B} f xs x old new more were = more ∙ ap (λ (ys : List B). ys ++ f x ∷ []) were ∙ sym (map-append f xs (x ∷ []))

-- one element more of those that each give a list
pub flat_more : {A B : Type 0} (f : A → List B) (xs : List A) (x : A) (old new : List B) → new ≡ old ++ f x → old ≡ flat_map f xs → new ≡ flat_map f (xs ++ x ∷ [])
flat_more {A} {B} f xs x old new more were =
    more ∙ ap (λ (ys : List B). ys ++ f x) were ∙ ap (λ (ys : List B). flat_map f xs ++ ys) (sym (append-nil (f x))) ∙ sym (flat_map-append f xs (x ∷ []))

-- the elements that were gone through and those to come are all, where one more was gone through
pub whole_more : {A : Type 0} (before : List A) (x : A) (left rest whole : List A) → left ≡ x ∷ rest → before ++ left ≡ whole → (before ++ x ∷ []) ++ rest ≡ whole
whole_more {A} before x left rest whole first all = append_assoc before (x ∷ []) rest ∙ ap (λ (ys : List A). before ++ ys) (sym first) ∙ all

pub whole_all : {A : Type 0} (before left whole : List A) → left ≡ [] → before ++ left ≡ whole → before ≡ whole
whole_all {A} before left whole none all = sym (append-nil before) ∙ ap (λ (ys : List A). before ++ ys) (sym none) ∙ all
