-- believed: A text is parted into lines, and a line into words.
use Rattle.std.specs.Prelude.{ℕ, Bool, true, false, ◌&&◌, not, ◌==◌, nat_le, List, [], ◌∷◌, ◌++◌, length, Option, Some, None, if◌then◌else◌}
use Rattle.std.specs.List.{list_all, list_any}
use Rattle.mama_words.specs.declared.parting.Place.{Place}
use Rattle.mama_words.specs.declared.parting.Place.TheVariants.{Outside, Inside, Escaped}

-- a byte before the first of the pieces
abbrev pub onto_first : ℕ → List (List ℕ) → List (List ℕ)
onto_first b [] = (b ∷ []) ∷ []
onto_first b (w ∷ ws) = (b ∷ w) ∷ ws

-- the pieces between the bytes of this kind: one more than there are such bytes
abbrev pub pieces : ℕ → List ℕ → List (List ℕ)
pieces c [] = [] ∷ []
pieces c (b ∷ bs) = if b == c then [] ∷ pieces c bs else onto_first b (pieces c bs)

-- bytes before the first part of a cut
abbrev pub onto_cut : List ℕ → Option (List ℕ × List ℕ) → Option (List ℕ × List ℕ)
onto_cut front None = None
onto_cut front (Some cut) = Some (front ++ cut.0, cut.1)

-- what stands before the first byte of this kind, and what stands after it
abbrev pub cut_at : ℕ → List ℕ → Option (List ℕ × List ℕ)
cut_at c [] = None
cut_at c (b ∷ bs) = if b == c then Some ([], bs) else onto_cut (b ∷ []) (cut_at c bs)

-- the place after one more byte: a quote opens or closes, and inside quotes a backslash takes the next byte with it
abbrev pub next_place : Place → ℕ → Place
next_place Outside b = if b == 34 then Inside else Outside
next_place Inside b = if b == 34 then Outside else (if b == 92 then Escaped else Inside)
next_place Escaped b = Inside

abbrev pub place_after : Place → List ℕ → Place
place_after place [] = place
place_after place (b ∷ bs) = place_after (next_place place b) bs

abbrev pub is_outside : Place → Bool
is_outside Outside = true
is_outside _ = false

-- a space that parts words
abbrev pub is_gap : Place → ℕ → Bool
is_gap place b = is_outside place && b == 32

-- the words from a place on
abbrev pub words_from : Place → List ℕ → List (List ℕ)
words_from place [] = [] ∷ []
words_from place (b ∷ bs) = if is_gap place b then [] ∷ words_from Outside bs else onto_first b (words_from (next_place place b) bs)

-- the words of a line: what stands between its spaces, where a space inside quotes does not count
abbrev pub words : List ℕ → List (List ℕ)
words line = words_from Outside line

-- a byte that may stand in a line
abbrev pub is_plain : ℕ → Bool
is_plain b = nat_le 32 b && nat_le b 126

abbrev pub is_empty_word : List ℕ → Bool
is_empty_word w = length w == 0

-- a line that has words: plain bytes, each quote closed, and no word that is empty
abbrev pub is_parted : List ℕ → Bool
is_parted line = (list_all is_plain line && is_outside (place_after Outside line)) && not (list_any is_empty_word (words line))

-- the words of a line that has words
abbrev pub parted_in : List ℕ → Option (List (List ℕ))
parted_in line = if is_parted line then Some (words line) else None
