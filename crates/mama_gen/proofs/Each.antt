-- Things made one after the other.
use Rattle.std.proofs.Common.{◌≡◌, ℕ, zero, suc, ◌+◌, List, [], ◌∷◌, ◌++◌, length, map, refl, sym, ap, ◌∙◌, append_assoc, append-nil, add-one, length-append, map-id, arith}
use Rattle.std.specs.List.{flat_map, range_with_len}
use Rattle.std.proofs.lemmas.List.Concat.{flat_map-append}
use Rattle.std.proofs.lemmas.List.{map-append}
use Rattle.std.proofs.lemmas.List.FromFn.{map-range_with_len_more}
use Rattle.mama_gen.specs.Draws.{Drawn, each}

module _ {A : Type 0} (make : ℕ → Drawn A) where
  -- those before the one of number n, that one, and the state behind it
  abbrev pub made : ℕ → ℕ → List A
  made n state = (each n make state).0

  abbrev pub behind : ℕ → ℕ → ℕ
  behind n state = (each n make state).1

  abbrev pub one : ℕ → ℕ → A
  one n state = (make n (behind n state)).0

  pub made_none : (state : ℕ) → made 0 state ≡ []
  unfolding each
  made_none state = refl

  pub behind_none : (state : ℕ) → behind 0 state ≡ state
  unfolding each
  behind_none state = refl

  pub made_more : (n state : ℕ) → made (suc n) state ≡ made n state ++ one n state ∷ []
  unfolding each
  made_more n state = refl

  pub behind_more : (n state : ℕ) → behind (suc n) state ≡ (make n (behind n state)).1
  unfolding each
  behind_more n state = refl

  pub made_length : (n state : ℕ) → length (made n state) ≡ n
  made_length zero state = ap length (made_none state)
  made_length (suc n) state =
      ap length (made_more n state) ∙ length-append (made n state) (one n state ∷ []) ∙ ap (λ (k : ℕ). k + 1) (made_length n state) ∙ add-one n

  -- the text of none
  pub text_none : (text : A → List ℕ) (state : ℕ) (start : List ℕ) → start ≡ start ++ flat_map text (made 0 state)
  text_none text state start = sym (append-nil start) ∙ ap (λ (xs : List A). start ++ flat_map text xs) (sym (made_none state))

  -- the text of one more
  pub text_more : (text : A → List ℕ) (n state s : ℕ) (start out : List ℕ)
      → out ≡ start ++ flat_map text (made n state) → s ≡ behind n state → out ++ text (make n s).0 ≡ start ++ flat_map text (made (n + 1) state)
  text_more text n state s start out so_far at =
      let more : flat_map text (made (n + 1) state) ≡ flat_map text (made n state) ++ text (one n state) =
      ap (λ (k : ℕ). flat_map text (made k state)) (add-one n) ∙ ap (flat_map text) (made_more n state)
      ∙ flat_map-append text (made n state) (one n state ∷ []) ∙ ap (λ (t : List ℕ). flat_map text (made n state) ++ t) (append-nil (text (one n state))) in
      ap (λ (t : List ℕ). t ++ text (make n s).0) so_far ∙ append_assoc start (flat_map text (made n state)) (text (make n s).0)
      ∙ ap (λ (k : ℕ). start ++ (flat_map text (made n state) ++ text (make n k).0)) at ∙ ap (λ (t : List ℕ). start ++ t) (sym more)

  pub state_more : (n state s : ℕ) → s ≡ behind n state → (make n s).1 ≡ behind (n + 1) state
  state_more n state s at = ap (λ (k : ℕ). (make n k).1) at ∙ sym (behind_more n state) ∙ ap (λ (k : ℕ). behind k state) (sym (add-one n))

pub range_more : (n : ℕ) → range_with_len 0 (suc n) ≡ range_with_len 0 n ++ n ∷ []
range_more n =
    ap (λ (k : ℕ). range_with_len 0 k) (sym (add-one n)) ∙ sym (map-id (range_with_len 0 (n + 1))) ∙ map-range_with_len_more (λ (k : ℕ). k) 0 n n (omega arith)
    ∙ ap (λ (t : List ℕ). t ++ n ∷ []) (map-id (range_with_len 0 n))

-- what each one has of its number
pub numbers_of : {A : Type 0} (number : A → ℕ) (make : ℕ → Drawn A) → ((n state : ℕ) → number (make n state).0 ≡ n) → (n state : ℕ) → map number (made make n state) ≡ range_with_len 0 n
numbers_of number make is zero state = ap (map number) (made_none make state)
numbers_of number make is (suc n) state =
    ap (map number) (made_more make n state) ∙ map-append number (made make n state) (one make n state ∷ [])
    ∙ ap (λ (k : ℕ). map number (made make n state) ++ k ∷ []) (is n (behind make n state)) ∙ ap (λ (t : List ℕ). t ++ n ∷ []) (numbers_of number make is n state) ∙ sym (range_more n)

pub numbered_more : (text : ℕ → List ℕ) (n : ℕ) (start out : List ℕ) → out ≡ start ++ flat_map text (range_with_len 0 n) → out ++ text n ≡ start ++ flat_map text (range_with_len 0 (n + 1))
numbered_more text n start out so_far =
    ap (λ (t : List ℕ). t ++ text n) so_far ∙ append_assoc start (flat_map text (range_with_len 0 n)) (text n)
    ∙ ap (λ (t : List ℕ). start ++ (flat_map text (range_with_len 0 n) ++ t)) (sym (append-nil (text n))) ∙ ap (λ (t : List ℕ). start ++ t) (sym (flat_map-append text (range_with_len 0 n) (n ∷ [])))
    ∙ ap (λ (ks : List ℕ). start ++ flat_map text ks) (sym (ap (λ (k : ℕ). range_with_len 0 k) (add-one n) ∙ range_more n))
