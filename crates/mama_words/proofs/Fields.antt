-- Reading fields word by word, with the lowest fault so far.
use Rattle.std.proofs.Common.{◌≡◌, ℕ, min, List, [], ◌∷◌, ◌++◌, Option, Some, None, Result, Ok, Err, refl, sym, ap, ◌∙◌, append_assoc, arith}
use Rattle.std.proofs.lemmas.List.{append-nil}
use Rattle.mama_msg.specs.Field.{FieldData}
use Rattle.mama_words.specs.Reading.{◌>>=◌, both}
use Rattle.mama_words.specs.Field.{field_in, fields_in}
use Rattle.mama_words.specs.declared.nums.Nums.{Nums}
use Rattle.mama_words.specs.Lower.{lower}

-- the fields so far and the lowest fault so far, with what reading the rest gives
abbrev pub joined : List FieldData → Option ℕ → Result (List FieldData) ℕ → Result (List FieldData) ℕ
joined front None (Ok fs) = Ok (front ++ fs)
joined front None (Err n) = Err n
joined front (Some m) (Ok fs) = Err m
joined front (Some m) (Err n) = Err (min m n)

pub joined_none : (r : Result (List FieldData) ℕ) → joined [] None r ≡ r
joined_none (Ok fs) = refl
joined_none (Err n) = refl

abbrev with_field : Result FieldData ℕ → Result (List FieldData) ℕ → Result (List FieldData) ℕ
with_field f r = both f r >>= λ x. Ok (x.0 ∷ x.1)

joined_field : (front : List FieldData) (least : Option ℕ) (f : FieldData) (r : Result (List FieldData) ℕ) → joined front least (with_field (Ok f) r) ≡ joined (front ++ f ∷ []) least r
joined_field front None f (Ok fs) = ap (λ (xs : List FieldData). Ok xs) (sym (append_assoc front (f ∷ []) fs))
joined_field front None f (Err n) = refl
joined_field front (Some m) f (Ok fs) = refl
joined_field front (Some m) f (Err n) = refl

min_min : (a b c : ℕ) → min a (min b c) ≡ min (min a b) c
min_min a b c = omega arith

joined_fault : (front : List FieldData) (least : Option ℕ) (n : ℕ) (r : Result (List FieldData) ℕ) → joined front least (with_field (Err n) r) ≡ joined front (Some (lower least n)) r
joined_fault front None n (Ok fs) = refl
joined_fault front None n (Err k) = refl
joined_fault front (Some m) n (Ok fs) = refl
joined_fault front (Some m) n (Err k) = ap (λ (x : ℕ). Err x) (min_min m n k)

pub joined_more : (nums : Nums) (front : List FieldData) (least : Option ℕ) (w : List ℕ) (ws : List (List ℕ)) (f : FieldData) (total : Result (List FieldData) ℕ) → field_in nums w ≡ Ok f → joined front least (fields_in nums (w ∷ ws)) ≡ total → joined (front ++ f ∷ []) least (fields_in nums ws) ≡ total
joined_more nums front least w ws f total e so_far = sym (joined_field front least f (fields_in nums ws)) ∙ sym (ap (λ (x : Result FieldData ℕ). joined front least (with_field x (fields_in nums ws))) e) ∙ so_far

pub joined_worse : (nums : Nums) (front : List FieldData) (least : Option ℕ) (w : List ℕ) (ws : List (List ℕ)) (n : ℕ) (total : Result (List FieldData) ℕ) → field_in nums w ≡ Err n → joined front least (fields_in nums (w ∷ ws)) ≡ total → joined front (Some (lower least n)) (fields_in nums ws) ≡ total
joined_worse nums front least w ws n total e so_far = sym (joined_fault front least n (fields_in nums ws)) ∙ sym (ap (λ (x : Result FieldData ℕ). joined front least (with_field x (fields_in nums ws))) e) ∙ so_far

pub joined_all : (front : List FieldData) (total : Result (List FieldData) ℕ) → joined front None (Ok []) ≡ total → total ≡ Ok front
joined_all front total e = sym e ∙ ap (λ (xs : List FieldData). Ok xs) (append-nil front)
