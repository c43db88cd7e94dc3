-- A line is parted in one pass.
use Rattle.std.proofs.Common.{◌≡◌, ℕ, ◌+◌, ◌-◌, ◌<◌, ◌≤◌, Bool, true, false, cond, List, [], ◌∷◌, ◌++◌, length, get_or, take, drop, Option, Some, None, Result, Ok, Err, refl, sym, ap, subst, ◌∙◌, append_assoc, arith}
use Rattle.std.specs.Prelude.{◌&&◌, not, option_and_then, if◌then◌else◌}
use Rattle.std.specs.List.{list_all, list_any}
use Rattle.std.proofs.lemmas.Bool.{eqb-true}
use Rattle.std.proofs.lemmas.List.{append-nil, take_all, at_drop_more, at_drop_all, take_more, get_or-drop, length-drop}
use Rattle.mama_words.specs.declared.parting.Place.{Place}
use Rattle.mama_words.specs.declared.parting.Place.TheVariants.{Outside, Inside, Escaped}
use Rattle.mama_words.specs.Parting.{onto_first, is_plain, is_gap, is_outside, next_place, place_after, words_from, is_empty_word, parted_in}
use Rattle.mama_words.specs.Reading.{or_fault}
use Rattle.mama_words.specs.Answer.{Fails, Gives}
use Rattle.mama_words.specs.declared.error.ReadError.{ReadError}
use Rattle.mama_words.specs.declared.error.ReadError.TheVariants as errors
use Rattle.mama_words.specs.WithWord.{with_word}
use Rattle.mama_words.proofs.Choices.{or_fault_ok}

-- the words of a line of which these were found, and this front of the next one
abbrev pub parted_on : Place → List (List ℕ) → List ℕ → List ℕ → Option (List (List ℕ))
parted_on place ws w [] = if is_outside place then with_word ws w else None
parted_on place ws w (b ∷ bs) =
    if is_plain b
    then (if is_gap place b then option_and_then (λ vs. parted_on place vs [] bs) (with_word ws w) else parted_on (next_place place b) ws (w ++ b ∷ []) bs)
    else None

-- a front of the first word
abbrev onto_word : List ℕ → List (List ℕ) → List (List ℕ)
onto_word w [] = w ∷ []
onto_word w (v ∷ vs) = (w ++ v) ∷ vs

-- the words that were found and the others, where nothing is wrong with those
abbrev judged : List (List ℕ) → Bool → List (List ℕ) → Option (List (List ℕ))
judged ws good vs = if good && not (list_any is_empty_word vs) then Some (ws ++ vs) else None

onto_word-onto_first : (w : List ℕ) (b : ℕ) (vs : List (List ℕ)) → onto_word (w ++ b ∷ []) vs ≡ onto_word w (onto_first b vs)
onto_word-onto_first w b [] = refl
onto_word-onto_first w b (v ∷ vs) = ap (λ (x : List ℕ). x ∷ vs) (append_assoc w (b ∷ []) v)

-- there is a first word
onto_first_none : (b : ℕ) (vs : List (List ℕ)) → onto_word [] (onto_first b vs) ≡ onto_first b vs
onto_first_none b [] = refl
onto_first_none b (v ∷ vs) = refl

first_step : (place : Place) (b : ℕ) (bs : List ℕ) (gap : Bool) → is_gap place b ≡ gap → onto_word [] (words_from place (b ∷ bs)) ≡ words_from place (b ∷ bs)
first_step place b bs true e = rw e refl
first_step place b bs false e = rw e (onto_first_none b (words_from (next_place place b) bs))

first_word : (place : Place) (bs : List ℕ) → onto_word [] (words_from place bs) ≡ words_from place bs
first_word place [] = refl
first_word place (b ∷ bs) = first_step place b bs (is_gap place b) refl

judged_none : (ws : List (List ℕ)) (good : Bool) (vs : List (List ℕ)) → list_any is_empty_word vs ≡ true → judged ws good vs ≡ None
judged_none ws true vs e = rw e refl
judged_none ws false vs e = refl

-- a line that ends here
at_end : (ws : List (List ℕ)) (w : List ℕ) (good empty : Bool) → is_empty_word w ≡ empty → cond good (with_word ws w) None ≡ judged ws good (w ∷ [])
at_end ws w true true e = rw e refl
at_end ws w true false e = rw e refl
at_end ws w false empty e = refl

-- a word that ends here
at_gap : (ws : List (List ℕ)) (w : List ℕ) (good : Bool) (vs : List (List ℕ)) (rest : List (List ℕ) → Option (List (List ℕ))) (empty : Bool) → is_empty_word w ≡ empty
    → ((us : List (List ℕ)) → rest us ≡ judged us good vs) → option_and_then rest (with_word ws w) ≡ judged ws good (w ∷ vs)
at_gap ws w good vs rest true e more =
    let some : list_any is_empty_word (w ∷ vs) ≡ true = rw e refl in
    let none : option_and_then rest (with_word ws w) ≡ None = rw e refl in
    none ∙ sym (judged_none ws good (w ∷ vs) some)
at_gap ws w good vs rest false e more =
    let one : option_and_then rest (with_word ws w) ≡ rest (ws ++ w ∷ []) = rw e refl in
    let same : judged ws good (w ∷ vs) ≡ judged (ws ++ w ∷ []) good vs = rw (e, append_assoc ws (w ∷ []) vs) refl in
    one ∙ more (ws ++ w ∷ []) ∙ sym same

gap_case : (place : Place) (ws : List (List ℕ)) (w : List ℕ) (b : ℕ) (bs : List ℕ) → is_gap place b ≡ true
    → ((us : List (List ℕ)) → parted_on place us [] bs ≡ judged us (list_all is_plain bs && is_outside (place_after place bs)) (onto_word [] (words_from place bs)))
    → parted_on place ws w (b ∷ bs) ≡ judged ws (list_all is_plain (b ∷ bs) && is_outside (place_after place (b ∷ bs))) (onto_word w (words_from place (b ∷ bs)))
gap_case Outside ws w b bs e more =
    let space : b ≡ 32 = eqb-true b 32 e in
    let good = list_all is_plain bs && is_outside (place_after Outside bs) in
    rw space (at_gap ws w good (words_from Outside bs) (λ vs. parted_on Outside vs [] bs) (is_empty_word w) refl (λ us. more us ∙ ap (judged us good) (first_word Outside bs))
    ∙ ap (λ (x : List ℕ). judged ws good (x ∷ words_from Outside bs)) (sym (append-nil w)))
gap_case Inside ws w b bs e more = absurd cc
gap_case Escaped ws w b bs e more = absurd cc

any_step : (place : Place) (ws : List (List ℕ)) (w : List ℕ) (b : ℕ) (bs : List ℕ) (plain gap : Bool) → is_plain b ≡ plain → is_gap place b ≡ gap
    → ((us : List (List ℕ)) → parted_on place us [] bs ≡ judged us (list_all is_plain bs && is_outside (place_after place bs)) (onto_word [] (words_from place bs)))
    → parted_on (next_place place b) ws (w ++ b ∷ []) bs ≡ judged ws (list_all is_plain bs && is_outside (place_after (next_place place b) bs)) (onto_word (w ++ b ∷ []) (words_from (next_place place b) bs))
    → parted_on place ws w (b ∷ bs) ≡ judged ws (list_all is_plain (b ∷ bs) && is_outside (place_after place (b ∷ bs))) (onto_word w (words_from place (b ∷ bs)))
any_step place ws w b bs false gap p g behind more = rw p refl
any_step place ws w b bs true true p g behind more = gap_case place ws w b bs g behind
any_step place ws w b bs true false p g behind more =
    let next = next_place place b in
    rw (p, g) (more ∙ ap (judged ws (list_all is_plain bs && is_outside (place_after next bs))) (onto_word-onto_first w b (words_from next bs)))

parted_any : (place : Place) (ws : List (List ℕ)) (w bs : List ℕ) → parted_on place ws w bs ≡ judged ws (list_all is_plain bs && is_outside (place_after place bs)) (onto_word w (words_from place bs))
parted_any place ws w [] = at_end ws w (is_outside place) (is_empty_word w) refl ∙ ap (λ (x : List ℕ). judged ws (is_outside place) (x ∷ [])) (sym (append-nil w))
parted_any place ws w (b ∷ bs) = any_step place ws w b bs (is_plain b) (is_gap place b) refl refl (λ us. parted_any place us [] bs) (parted_any (next_place place b) ws (w ++ b ∷ []) bs)

pub parted_all : (line : List ℕ) → parted_on Outside [] [] line ≡ parted_in line
parted_all line = parted_any Outside [] [] line ∙ ap (judged [] (list_all is_plain line && is_outside (place_after Outside line))) (first_word Outside line)

-- the steps of the loop: the next word begins at start, and the byte at i comes

-- behind a gap go on with one word more, if that one may stand
pub at_space : (place : Place) (ws : List (List ℕ)) (w line : List ℕ) (i : ℕ) (total : Option (List (List ℕ))) → i < length line → is_plain (get_or line i 0) ≡ true → is_gap place (get_or line i 0) ≡ true
    → parted_on place ws w (drop i line) ≡ total → option_and_then (λ vs. parted_on place vs [] (drop (i + 1) line)) (with_word ws w) ≡ total
at_space place ws w line i total lt plain gap so_far =
    let one : parted_on place ws w (get_or line i 0 ∷ drop (i + 1) line) ≡ option_and_then (λ vs. parted_on place vs [] (drop (i + 1) line)) (with_word ws w) = rw (plain, gap) refl in
    sym one ∙ sym (at_drop_more (parted_on place ws w) line i 0 lt) ∙ so_far

pub after_gap : (place : Place) (ws vs : List (List ℕ)) (w line : List ℕ) (i : ℕ) (total : Option (List (List ℕ))) → i < length line → is_plain (get_or line i 0) ≡ true → is_gap place (get_or line i 0) ≡ true
    → or_fault 2 (with_word ws w) ≡ Ok vs → parted_on place ws w (drop i line) ≡ total → parted_on place vs (take (i + 1 - (i + 1)) (drop (i + 1) line)) (drop (i + 1) line) ≡ total
after_gap place ws vs w line i total lt plain gap found so_far =
    let rest = drop (i + 1) line in
    let none : i + 1 - (i + 1) ≡ 0 = omega arith in
    let go_on : List (List ℕ) → Option (List (List ℕ)) = λ us. parted_on place us [] rest in
    ap (λ (n : ℕ). parted_on place vs (take n rest) rest) none ∙ sym (ap (option_and_then go_on) (or_fault_ok 2 (with_word ws w) vs found)) ∙ at_space place ws w line i total lt plain gap so_far

word_more : (line : List ℕ) (start i : ℕ) → start ≤ i → i < length line → take (i + 1 - start) (drop start line) ≡ take (i - start) (drop start line) ++ get_or line i 0 ∷ []
word_more line start i le lt =
    let next : i + 1 - start ≡ (i - start) + 1 = omega arith in
    let within : i - start < length (drop start line) = omega (arith, length-drop start line) in
    let here : start + (i - start) ≡ i = omega arith in
    ap (λ (n : ℕ). take n (drop start line)) next ∙ take_more (drop start line) (i - start) 0 within
    ∙ ap (λ (x : ℕ). take (i - start) (drop start line) ++ x ∷ []) (get_or-drop start line (i - start) 0 ∙ ap (λ (n : ℕ). get_or line n 0) here)

pub after_byte : (place : Place) (ws : List (List ℕ)) (line : List ℕ) (start i : ℕ) (total : Option (List (List ℕ))) → start ≤ i → i < length line → is_plain (get_or line i 0) ≡ true → is_gap place (get_or line i 0) ≡ false
    → parted_on place ws (take (i - start) (drop start line)) (drop i line) ≡ total → parted_on (next_place place (get_or line i 0)) ws (take (i + 1 - start) (drop start line)) (drop (i + 1) line) ≡ total
after_byte place ws line start i total le lt plain gap so_far =
    let w = take (i - start) (drop start line) in
    let b = get_or line i 0 in
    let rest = drop (i + 1) line in
    let one : parted_on place ws w (b ∷ rest) ≡ parted_on (next_place place b) ws (w ++ b ∷ []) rest = rw (plain, gap) refl in
    ap (λ (x : List ℕ). parted_on (next_place place b) ws x rest) (word_more line start i le lt) ∙ sym one ∙ sym (at_drop_more (parted_on place ws w) line i 0 lt) ∙ so_far

-- the end of the line

pub at_outside : (place : Place) (ws : List (List ℕ)) (line : List ℕ) (start i : ℕ) (total : Option (List (List ℕ))) → length line ≤ i → is_outside place ≡ true
    → parted_on place ws (take (i - start) (drop start line)) (drop i line) ≡ total → with_word ws (take (length line - start) (drop start line)) ≡ total
at_outside place ws line start i total le outside so_far =
    let w = take (i - start) (drop start line) in
    let same : take (length line - start) (drop start line) ≡ w =
    take_all (length line - start) (drop start line) (omega (arith, length-drop start line)) ∙ sym (take_all (i - start) (drop start line) (omega (arith, length-drop start line))) in
    let last : parted_on place ws w [] ≡ with_word ws w = rw outside refl in
    ap (with_word ws) same ∙ sym last ∙ sym (at_drop_all (parted_on place ws w) line i le) ∙ so_far

-- what the next word answers is what the line does

abbrev fault : {A : Type 0} → ℕ → Result A ℕ
fault n = Err n

fault_is : {A : Type 0} (m n : ℕ) → fault {A = A} m ≡ fault {A = A} n → m ≡ n
fault_is m n e = cc

pub at_bad_word : {A B : Type 0} (e : ReadError) (o : Option A) (f : A → Option B) (total : Option B) → option_and_then f o ≡ total → Fails e (or_fault 2 o) → Fails e (or_fault 2 total)
at_bad_word errors.Memory o f total all h = tt
at_bad_word {A} {B} (errors.Fault n) None f total all h = ap (or_fault 2) (sym all) ∙ ap (λ (k : ℕ). fault {A = B} k) (fault_is {A = A} 2 n h)
at_bad_word (errors.Fault n) (Some x) f total all h = absurd cc

pub at_last_word : {X A : Type 0} (view : X → A) (r : Result X ReadError) (o total : Option A) → o ≡ total → Gives view r (or_fault 2 o) → Gives view r (or_fault 2 total)
at_last_word {X} {A} view r o total e h = subst (λ (t : Option A). Gives view r (or_fault 2 t)) e h
