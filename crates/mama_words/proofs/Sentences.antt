-- Words in a row are parted again, and the words of a line make the line.
use Rattle.std.proofs.Common.{◌≡◌, ℕ, Bool, true, false, cond, eqb, List, [], ◌∷◌, ◌++◌, Some, None, refl, sym, ap, ◌∙◌}
use Rattle.std.specs.Prelude.{◌&&◌, ◌==◌, not}
use Rattle.std.specs.List.{list_all, list_any, flat_map}
use Rattle.std.proofs.lemmas.Bool.{and_parts, and_from, or_parts, or_from, not_from_false, eqb-true}
use Rattle.std.proofs.lemmas.List.Folds.{list_all-append}
use Rattle.mama_words.specs.declared.parting.Place.{Place}
use Rattle.mama_words.specs.declared.parting.Place.TheVariants.{Outside}
use Rattle.mama_words.specs.Parting.{onto_first, is_plain, is_gap, is_outside, next_place, place_after, words_from, words, is_empty_word, is_parted, parted_in}
use Rattle.mama_words.specs.Sentence.{spaced, sentence}
use Rattle.mama_words.specs.WordForm.{has_gap, IsPiece, AreWords}
use Rattle.mama_words.proofs.Choices.{chosen_some}

abbrev onto_all : List ℕ → List (List ℕ) → List (List ℕ)
onto_all [] ws = ws
onto_all (b ∷ bs) ws = onto_first b (onto_all bs ws)

onto_all_empty : (w : List ℕ) (ws : List (List ℕ)) → onto_all w ([] ∷ ws) ≡ w ∷ ws
onto_all_empty [] ws = refl
onto_all_empty (b ∷ bs) ws = ap (onto_first b) (onto_all_empty bs ws)

past_byte : (place : Place) (b : ℕ) (bs : List ℕ) → is_gap place b ≡ false → words_from place (b ∷ bs) ≡ onto_first b (words_from (next_place place b) bs)
past_byte place b bs e = rw e refl

words_through : (place : Place) (w rest : List ℕ) → has_gap place w ≡ false → words_from place (w ++ rest) ≡ onto_all w (words_from (place_after place w) rest)
words_through place [] rest h = refl
words_through place (b ∷ bs) rest h =
    let p = or_parts (is_gap place b) (has_gap (next_place place b) bs) h in
    past_byte place b (bs ++ rest) p.0 ∙ ap (onto_first b) (words_through (next_place place b) bs rest p.1)

-- the words of words in a row
words_in_row : (w : List ℕ) (ws : List (List ℕ)) → AreWords (w ∷ ws) → words_from Outside (w ++ flat_map spaced ws) ≡ w ∷ ws
words_in_row w [] are = words_through Outside w [] are.0.piece.whole ∙ onto_all_empty w []
words_in_row w (v ∷ vs) are =
    words_through Outside w (32 ∷ (v ++ flat_map spaced vs)) are.0.piece.whole
    ∙ ap (λ (place : Place). onto_all w (words_from place (32 ∷ (v ++ flat_map spaced vs)))) are.0.piece.closed
    ∙ onto_all_empty w (words_from Outside (v ++ flat_map spaced vs))
    ∙ ap (λ (xs : List (List ℕ)). w ∷ xs) (words_in_row v vs are.1)

pub place_after-append : (place : Place) (a b : List ℕ) → place_after place (a ++ b) ≡ place_after (place_after place a) b
place_after-append place [] b = refl
place_after-append place (x ∷ a) b = place_after-append (next_place place x) a b

closed_row : (ws : List (List ℕ)) → AreWords ws → place_after Outside (flat_map spaced ws) ≡ Outside
closed_row [] are = refl
closed_row (w ∷ ws) are = place_after-append Outside w (flat_map spaced ws) ∙ ap (λ (place : Place). place_after place (flat_map spaced ws)) are.0.piece.closed ∙ closed_row ws are.1

closed_sentence : (w : List ℕ) (ws : List (List ℕ)) → AreWords (w ∷ ws) → place_after Outside (w ++ flat_map spaced ws) ≡ Outside
closed_sentence w ws are = place_after-append Outside w (flat_map spaced ws) ∙ ap (λ (place : Place). place_after place (flat_map spaced ws)) are.0.piece.closed ∙ closed_row ws are.1

plain_row : (ws : List (List ℕ)) → AreWords ws → list_all is_plain (flat_map spaced ws) ≡ true
plain_row [] are = refl
plain_row (w ∷ ws) are = list_all-append is_plain w (flat_map spaced ws) ∙ and_from (list_all is_plain w) (list_all is_plain (flat_map spaced ws)) are.0.piece.plain (plain_row ws are.1)

plain_sentence : (w : List ℕ) (ws : List (List ℕ)) → AreWords (w ∷ ws) → list_all is_plain (w ++ flat_map spaced ws) ≡ true
plain_sentence w ws are = list_all-append is_plain w (flat_map spaced ws) ∙ and_from (list_all is_plain w) (list_all is_plain (flat_map spaced ws)) are.0.piece.plain (plain_row ws are.1)

none_empty : (ws : List (List ℕ)) → AreWords ws → list_any is_empty_word ws ≡ false
none_empty [] are = refl
none_empty (w ∷ ws) are = or_from (is_empty_word w) (list_any is_empty_word ws) are.0.some (none_empty ws are.1)

pub parted_again : (w : List ℕ) (ws : List (List ℕ)) → AreWords (w ∷ ws) → parted_in (sentence (w ∷ ws)) ≡ Some (w ∷ ws)
parted_again w ws are =
    let read : words (w ++ flat_map spaced ws) ≡ w ∷ ws = words_in_row w ws are in
    let outside : is_outside (place_after Outside (w ++ flat_map spaced ws)) ≡ true = ap is_outside (closed_sentence w ws are) in
    let full : list_any is_empty_word (words (w ++ flat_map spaced ws)) ≡ false = ap (list_any is_empty_word) read ∙ none_empty (w ∷ ws) are in
    let line = w ++ flat_map spaced ws in
    let test : is_parted line ≡ true =
    and_from (list_all is_plain line && is_outside (place_after Outside line)) (not (list_any is_empty_word (words line)))
    (and_from (list_all is_plain line) (is_outside (place_after Outside line)) (plain_sentence w ws are) outside)
    (not_from_false (list_any is_empty_word (words line)) full) in
    ap (λ (b : Bool). cond b (Some (words line)) None) test ∙ ap (λ (xs : List (List ℕ)). Some xs) read

-- ---- the words of a line make the line

sentence-onto_first : (b : ℕ) (ws : List (List ℕ)) → sentence (onto_first b ws) ≡ b ∷ sentence ws
sentence-onto_first b [] = refl
sentence-onto_first b (w ∷ ws) = refl

-- there is a first word
abbrev is_some : List (List ℕ) → Bool
is_some [] = false
is_some (w ∷ ws) = true

is_some-onto_first : (b : ℕ) (ws : List (List ℕ)) → is_some (onto_first b ws) ≡ true
is_some-onto_first b [] = refl
is_some-onto_first b (w ∷ ws) = refl

some_step : (place : Place) (b : ℕ) (bs : List ℕ) (gap : Bool) → is_gap place b ≡ gap → is_some (words_from place (b ∷ bs)) ≡ true
some_step place b bs true e = rw e refl
some_step place b bs false e = rw e (is_some-onto_first b (words_from (next_place place b) bs))

some_words : (place : Place) (bs : List ℕ) → is_some (words_from place bs) ≡ true
some_words place [] = refl
some_words place (b ∷ bs) = some_step place b bs (is_gap place b) refl

row_is : (ws : List (List ℕ)) → is_some ws ≡ true → flat_map spaced ws ≡ 32 ∷ sentence ws
row_is [] h = absurd cc
row_is (w ∷ ws) h = refl

at_gap : (place : Place) (b : ℕ) (bs : List ℕ) → is_gap place b ≡ true → words_from place (b ∷ bs) ≡ [] ∷ words_from Outside bs
at_gap place b bs e = rw e refl

joined_step : (place : Place) (b : ℕ) (bs : List ℕ) (gap : Bool) → is_gap place b ≡ gap → sentence (words_from Outside bs) ≡ bs → sentence (words_from (next_place place b) bs) ≡ bs → sentence (words_from place (b ∷ bs)) ≡ b ∷ bs
joined_step place b bs true e outside on =
    let space : 32 ≡ b = sym (eqb-true b 32 (and_parts (is_outside place) (eqb b 32) e).1) in
    ap sentence (at_gap place b bs e) ∙ row_is (words_from Outside bs) (some_words Outside bs) ∙ ap (λ (t : List ℕ). 32 ∷ t) outside ∙ ap (λ (x : ℕ). x ∷ bs) space
joined_step place b bs false e outside on =
    ap sentence (past_byte place b bs e) ∙ sentence-onto_first b (words_from (next_place place b) bs) ∙ ap (λ (t : List ℕ). b ∷ t) on

joined_from : (place : Place) (bs : List ℕ) → sentence (words_from place bs) ≡ bs
joined_from place [] = refl
joined_from place (b ∷ bs) = joined_step place b bs (is_gap place b) refl (joined_from Outside bs) (joined_from (next_place place b) bs)

pub words_joined : (line : List ℕ) → sentence (words line) ≡ line
words_joined line = joined_from Outside line

pub parted_found : (line : List ℕ) (ws : List (List ℕ)) → parted_in line ≡ Some ws → line ≡ sentence ws
parted_found line ws e =
    let p = chosen_some (is_parted line) (words line) ws e in
    sym (words_joined line) ∙ ap sentence p.1

-- ---- pieces

pub piece_empty : IsPiece []
piece_empty = record { plain = refl; closed = refl; whole = refl }

pub has_gap-append : (place : Place) (a b : List ℕ) → has_gap place a ≡ false → has_gap (place_after place a) b ≡ false → has_gap place (a ++ b) ≡ false
has_gap-append place [] b h k = k
has_gap-append place (x ∷ a) b h k =
    let p = or_parts (is_gap place x) (has_gap (next_place place x) a) h in
    or_from (is_gap place x) (has_gap (next_place place x) (a ++ b)) p.0 (has_gap-append (next_place place x) a b p.1 k)

pub piece_append : (a b : List ℕ) → IsPiece a → IsPiece b → IsPiece (a ++ b)
piece_append a b p q = record {
  plain = list_all-append is_plain a b ∙ and_from (list_all is_plain a) (list_all is_plain b) p.plain q.plain;
  closed = place_after-append Outside a b ∙ ap (λ (place : Place). place_after place b) p.closed ∙ q.closed;
  whole = has_gap-append Outside a b p.whole (ap (λ (place : Place). has_gap place b) p.closed ∙ q.whole);
}

-- bytes that are plain, no space and no quote
abbrev pub is_simple : ℕ → Bool
is_simple b = is_plain b && (not (b == 32) && not (b == 34))

simple_step : (b : ℕ) (bs : List ℕ) (space quote : Bool) → (b == 32) ≡ space → (b == 34) ≡ quote → is_simple b ≡ true → IsPiece bs → IsPiece (b ∷ bs)
simple_step b bs true quote s q h p = let t = (and_parts (not (b == 32)) (not (b == 34)) (and_parts (is_plain b) (not (b == 32) && not (b == 34)) h).1).0 in let bad : false ≡ true = sym (ap not s) ∙ t in absurd cc
simple_step b bs false true s q h p = let t = (and_parts (not (b == 32)) (not (b == 34)) (and_parts (is_plain b) (not (b == 32) && not (b == 34)) h).1).1 in let bad : false ≡ true = sym (ap not q) ∙ t in absurd cc
simple_step b bs false false s q h p = record {
  plain = and_from (is_plain b) (list_all is_plain bs) (and_parts (is_plain b) (not (b == 32) && not (b == 34)) h).0 p.plain;
  closed = rw q p.closed;
  whole = or_from (is_gap Outside b) (has_gap (next_place Outside b) bs) s (rw q p.whole);
}

pub piece_cons : (b : ℕ) (bs : List ℕ) → is_simple b ≡ true → IsPiece bs → IsPiece (b ∷ bs)
piece_cons b bs h p = simple_step b bs (b == 32) (b == 34) refl refl h p

pub piece_simple : (bs : List ℕ) → list_all is_simple bs ≡ true → IsPiece bs
piece_simple [] h = piece_empty
piece_simple (b ∷ bs) h = let p = and_parts (is_simple b) (list_all is_simple bs) h in piece_cons b bs p.0 (piece_simple bs p.1)
