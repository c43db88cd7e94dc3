-- believed: What check reads: a script, a line that is just `log`, and a log.
use Rattle.std.specs.Prelude.{ℕ, ◌==◌, List, [], ◌∷◌, ◌++◌, count_by, codes, Option, Some, None, if◌then◌else◌}
use Rattle.std.specs.Str.{bytes_eq}
use Rattle.mama_words.specs.Parting.{pieces, onto_cut}
use Rattle.mama_record.specs.LogText.{line}

-- the text that pieces make, with one LF between each two
abbrev pub joined : List (List ℕ) → List ℕ
joined [] = []
joined (last ∷ []) = last
joined (first ∷ next ∷ more) = first ++ 10 ∷ joined (next ∷ more)

-- what stands before the first of the pieces that is `log` and is ended by an LF, and what stands behind that LF
abbrev pub cut_pieces : List (List ℕ) → Option (List ℕ × List ℕ)
cut_pieces [] = None
cut_pieces (last ∷ []) = None
cut_pieces (first ∷ next ∷ more) = if bytes_eq first (codes "log") then Some ([], joined (next ∷ more)) else onto_cut (line first) (cut_pieces (next ∷ more))

-- what stands before the first line of a text that is just `log`, and what stands behind that line
abbrev pub cut_at_log : List ℕ → Option (List ℕ × List ℕ)
cut_at_log text = cut_pieces (pieces 10 text)

-- all of the text, where it is not cut
abbrev pub before_cut : List ℕ → Option (List ℕ × List ℕ) → List ℕ
before_cut text None = text
before_cut text (Some cut) = cut.0

-- the script of a text: what stands before its first line `log`, and all of it where there is no such line
abbrev pub script_part : List ℕ → List ℕ
script_part text = before_cut text (cut_at_log text)

abbrev pub behind_cut : Option (List ℕ × List ℕ) → Option (List ℕ)
behind_cut None = None
behind_cut (Some cut) = Some cut.1

-- the log of a text: what stands behind its first line `log`, if there is one
abbrev pub log_part : List ℕ → Option (List ℕ)
log_part text = behind_cut (cut_at_log text)

-- how many lines of a text are ended: its LFs
abbrev pub line_count : List ℕ → ℕ
line_count text = count_by (λ b. b == 10) text
