-- One line more in the loop that reads a text.
use Rattle.std.proofs.Common.{◌≡◌, ℕ, suc, ◌+◌, ◌<◌, List, [], ◌∷◌, ◌++◌, length, Option, Some, None, Result, Ok, Err, refl, sym, ap, ◌∙◌, append_assoc, append-nil, add-one, length-append, arith}
use Rattle.mama_words.specs.Parting.{pieces, cut_at}
use Rattle.mama_words.proofs.Cuts.{pieces_at_some, pieces_at_none}
use Rattle.mama_words.proofs.Cutting.{cut_at_split}
use Rattle.mama_words.specs.declared.version.Version.{Version}
use Rattle.mama_script.specs.declared.fault.ScriptFault.{ScriptFault}
use Rattle.mama_script.specs.declared.fault.ScriptFault.TheVariants.{Bad, OverLimit, OutOfMemory}
use Rattle.mama_script.specs.declared.line.Line.{Line}
use Rattle.mama_script.specs.Before.{Before, start, after}
use Rattle.mama_script.specs.Reading.{and_then, line_in, end_fault, unless_faulty, line_first, read_from, version_in, read_version, lines_in}
use Rattle.mama_script.specs.Answer.{Fails}
use Rattle.mama_script.proofs.Whole.{read_from_line, pieces_some}

-- the lines of an answer behind those that were read
abbrev pub behind : List Line → List Line → Result (List Line) ScriptFault
behind front ls = Ok (front ++ ls)

abbrev pub with_front : List Line → Result (List Line) ScriptFault → Result (List Line) ScriptFault
with_front front r = and_then r (behind front)

onto_front : (front : List Line) (l : Line) (r : Result (List Line) ScriptFault) → with_front front (and_then r (line_first l)) ≡ with_front (front ++ l ∷ []) r
onto_front front l (Ok ls) = ap (λ (x : List Line). Ok x) (sym (append_assoc front (l ∷ []) ls))
onto_front front l (Err e) = refl

at_piece : (b : Before) (k : ℕ) (rest text more : List ℕ) → Some (text, more) ≡ cut_at 10 rest
    → read_from b k (pieces 10 rest) ≡ and_then (line_in b k text) (λ line. and_then (read_from (after b line) (suc k) (pieces 10 more)) (line_first line))
at_piece b k rest text more cut = ap (read_from b k) (pieces_at_some 10 rest text more (sym cut)) ∙ read_from_line b k text (pieces 10 more) (pieces_some 10 more)

pub read_more : (front : List Line) (b : Before) (k : ℕ) (rest text more : List ℕ) (l : Line) (total : Result (List Line) ScriptFault)
    → Some (text, more) ≡ cut_at 10 rest → line_in b k text ≡ Ok l → with_front front (read_from b k (pieces 10 rest)) ≡ total
    → with_front (front ++ l ∷ []) (read_from (after b l) (k + 1) (pieces 10 more)) ≡ total
read_more front b k rest text more l total cut line so_far =
    let next = pieces 10 more in
    let read : read_from b k (pieces 10 rest) ≡ and_then (read_from (after b l) (suc k) next) (line_first l) =
    at_piece b k rest text more cut ∙ ap (λ (r : Result Line ScriptFault). and_then r (λ line. and_then (read_from (after b line) (suc k) next) (line_first line))) line in
    ap (λ (n : ℕ). with_front (front ++ l ∷ []) (read_from (after b l) n next)) (add-one k) ∙ sym (onto_front front l (read_from (after b l) (suc k) next)) ∙ sym (ap (with_front front) read) ∙ so_far

pub read_bad : (front : List Line) (b : Before) (k : ℕ) (rest text more : List ℕ) (e : ScriptFault) (total : Result (List Line) ScriptFault)
    → Some (text, more) ≡ cut_at 10 rest → line_in b k text ≡ Err e → with_front front (read_from b k (pieces 10 rest)) ≡ total → total ≡ Err e
read_bad front b k rest text more e total cut line so_far =
    let next = pieces 10 more in
    let read : read_from b k (pieces 10 rest) ≡ Err e = at_piece b k rest text more cut ∙ ap (λ (r : Result Line ScriptFault). and_then r (λ line. and_then (read_from (after b line) (suc k) next) (line_first line))) line in
    sym so_far ∙ ap (with_front front) read

at_end : (front : List Line) (b : Before) (k : ℕ) (rest : List ℕ) (total : Result (List Line) ScriptFault) (o : Option ScriptFault)
    → None ≡ cut_at 10 rest → with_front front (read_from b k (pieces 10 rest)) ≡ total → o ≡ end_fault b.place k rest → total ≡ with_front front (unless_faulty o)
at_end front b k rest total o cut so_far e =
    let read : read_from b k (pieces 10 rest) ≡ unless_faulty o = ap (read_from b k) (pieces_at_none 10 rest (sym cut)) ∙ ap unless_faulty (sym e) in
    sym so_far ∙ ap (with_front front) read

pub read_last : (front : List Line) (b : Before) (k : ℕ) (rest : List ℕ) (total : Result (List Line) ScriptFault)
    → None ≡ cut_at 10 rest → with_front front (read_from b k (pieces 10 rest)) ≡ total → None ≡ end_fault b.place k rest → total ≡ Ok front
read_last front b k rest total cut so_far e = at_end front b k rest total None cut so_far e ∙ ap (λ (x : List Line). Ok x) (append-nil front)

pub read_unended : (front : List Line) (b : Before) (k : ℕ) (rest : List ℕ) (total : Result (List Line) ScriptFault) (fault : ScriptFault)
    → None ≡ cut_at 10 rest → with_front front (read_from b k (pieces 10 rest)) ≡ total → Some fault ≡ end_fault b.place k rest → total ≡ Err fault
read_unended front b k rest total fault cut so_far e = at_end front b k rest total (Some fault) cut so_far e

pub cut_is_shorter : (rest text more : List ℕ) → Some (text, more) ≡ cut_at 10 rest → length more < length rest
cut_is_shorter rest text more cut = let e = cut_at_split 10 rest (text, more) (sym cut) in omega (arith, simp length-append at (ap length e))

pub fails_err : (fault : ScriptFault) (r : Result (List Line) ScriptFault) → r ≡ Err fault → Fails fault r
fails_err OutOfMemory r e = tt
fails_err (Bad line fault) r e = e
fails_err (OverLimit line limit) r e = e

pub fails_more : (front : List Line) (b : Before) (k : ℕ) (rest text more : List ℕ) (fault : ScriptFault) (total : Result (List Line) ScriptFault)
    → Some (text, more) ≡ cut_at 10 rest → Fails fault (line_in b k text) → with_front front (read_from b k (pieces 10 rest)) ≡ total → Fails fault total
fails_more front b k rest text more OutOfMemory total cut h so_far = tt
fails_more front b k rest text more (Bad line fault) total cut h so_far = read_bad front b k rest text more (Bad line fault) total cut h so_far
fails_more front b k rest text more (OverLimit line limit) total cut h so_far = read_bad front b k rest text more (OverLimit line limit) total cut h so_far

-- ---- the first line

lines_at : (first : List ℕ) (ps : List (List ℕ)) → 0 < length ps → lines_in (first ∷ ps) ≡ read_version (version_in first) ps
lines_at first [] some = absurd (omega arith)
lines_at first (p ∷ ps) some = refl

lines_cut : (text first rest : List ℕ) → Some (first, rest) ≡ cut_at 10 text → lines_in (pieces 10 text) ≡ read_version (version_in first) (pieces 10 rest)
lines_cut text first rest cut = ap lines_in (pieces_at_some 10 text first rest (sym cut)) ∙ lines_at first (pieces 10 rest) (pieces_some 10 rest)

pub lines_behind : (text first rest : List ℕ) (v : Version) → Some (first, rest) ≡ cut_at 10 text → Some v ≡ version_in first → lines_in (pieces 10 text) ≡ read_from (start v) 2 (pieces 10 rest)
lines_behind text first rest v cut said = lines_cut text first rest cut ∙ ap (λ (o : Option Version). read_version o (pieces 10 rest)) (sym said)

pub lines_other : (text first rest : List ℕ) → Some (first, rest) ≡ cut_at 10 text → None ≡ version_in first → lines_in (pieces 10 text) ≡ Err (Bad 1 1)
lines_other text first rest cut said = lines_cut text first rest cut ∙ ap (λ (o : Option Version). read_version o (pieces 10 rest)) (sym said)

pub lines_uncut : (text : List ℕ) → None ≡ cut_at 10 text → lines_in (pieces 10 text) ≡ Err (Bad 1 1)
lines_uncut text cut = ap lines_in (pieces_at_none 10 text (sym cut))
