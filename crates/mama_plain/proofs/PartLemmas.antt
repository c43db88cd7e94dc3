-- A text is cut at its first line that is just `log`.
use Rattle.std.proofs.Common.{◌≡◌, ℕ, ◌-◌, ◌<◌, Bool, true, false, cond, List, [], ◌∷◌, ◌++◌, length, take, Option, Some, None, refl, sym, ap, subst, ◌∙◌, append_assoc, append-nil, length-append, arith}
use Rattle.std.proofs.Math.Seq.{take-append_seam}
use Rattle.std.specs.Prelude.{codes, ◌&&◌, not}
use Rattle.std.specs.Str.{bytes_eq}
use Rattle.std.specs.List.{flat_map, list_all, list_any}
use Rattle.std.proofs.lemmas.Bool.{and_parts}
use Rattle.mama_words.specs.Parting.{pieces, onto_cut, cut_at, is_plain, is_parted, is_outside, place_after, is_empty_word, words}
use Rattle.mama_words.specs.declared.parting.Place.TheVariants.{Outside}
use Rattle.mama_words.specs.declared.order.OrderWord.TheVariants as orders
use Rattle.mama_words.proofs.Choices.{same_text, chosen_some}
use Rattle.mama_words.proofs.Cuts.{pieces_at_some, pieces_at_none, onto_cut-onto_cut, onto_cut-nil}
use Rattle.mama_words.proofs.Cutting.{lacks, all_lack, cut_at_again, cut_at_split}
use Rattle.mama_script.specs.declared.line.Line.{Line}
use Rattle.mama_script.specs.declared.line.Line.TheVariants as lines
use Rattle.mama_script.specs.Line.{IsLine, line_text, line_words, ended}
use Rattle.mama_script.specs.Before.{Before, start, after}
use Rattle.mama_script.specs.Reading.{first_line, version_of, FitFrom}
use Rattle.mama_words.specs.declared.version.Version.{Version}
use Rattle.mama_words.specs.declared.version.Version.TheVariants as version
use Rattle.mama_script.specs.Script.{ScriptData}
use Rattle.mama_script.specs.Tree.{lines_of, script_text, IsScript}
use Rattle.mama_script.proofs.FormAgain.{line_parted}
use Rattle.mama_script.proofs.Whole as whole
use Rattle.mama_record.specs.LogText.{line}
use Rattle.mama_plain.specs.Parts.{joined, cut_pieces, cut_at_log}

-- ---- at a line of the text

same_joined : (ps : List (List ℕ)) → joined ps ≡ whole.joined ps
same_joined [] = refl
same_joined (p ∷ []) = refl
same_joined (p ∷ q ∷ ps) = ap (λ (t : List ℕ). p ++ 10 ∷ t) (same_joined (q ∷ ps))

joined_pieces : (text : List ℕ) → joined (pieces 10 text) ≡ text
joined_pieces text = same_joined (pieces 10 text) ∙ whole.pieces_joined text

-- what a line gives: the cut, or what the lines behind it give
abbrev at_line : List ℕ → Bool → List ℕ → Option (List ℕ × List ℕ) → Option (List ℕ × List ℕ)
at_line first is_log behind more = cond is_log (Some ([], behind)) (onto_cut (line first) more)

cut_first : (p : List ℕ) (ps : List (List ℕ)) → 0 < length ps → cut_pieces (p ∷ ps) ≡ at_line p (bytes_eq p (codes "log")) (joined ps) (cut_pieces ps)
cut_first p [] h = absurd (omega arith)
cut_first p (q ∷ ps) h = refl

cut_line : (text first rest : List ℕ) → cut_at 10 text ≡ Some (first, rest) → cut_at_log text ≡ at_line first (bytes_eq first (codes "log")) rest (cut_at_log rest)
cut_line text first rest cut =
    ap cut_pieces (pieces_at_some 10 text first rest cut) ∙ cut_first first (pieces 10 rest) (whole.pieces_some 10 rest)
    ∙ ap (λ (t : List ℕ). at_line first (bytes_eq first (codes "log")) t (cut_at_log rest)) (joined_pieces rest)

cut_at_line : (text first rest : List ℕ) (b : Bool) → cut_at 10 text ≡ Some (first, rest) → bytes_eq first (codes "log") ≡ b → cut_at_log text ≡ at_line first b rest (cut_at_log rest)
cut_at_line text first rest b cut e = cut_line text first rest cut ∙ ap (λ (x : Bool). at_line first x rest (cut_at_log rest)) e

-- ---- the loop over the lines

-- how far the loop has come: what stands in front has no line `log`
pub record Reached (text rest : List ℕ) : Type 0 where
  pub front : List ℕ
  pub whole : text ≡ front ++ rest
  pub same : onto_cut front (cut_at_log rest) ≡ cut_at_log text

pub reached_first : (text : List ℕ) → Reached text text
reached_first text = record { front = []; whole = refl; same = onto_cut-nil (cut_at_log text) }

pub reached_next : (text rest first after : List ℕ) → Some (first, after) ≡ cut_at 10 rest → bytes_eq first (codes "log") ≡ false → Reached text rest → Reached text after
reached_next text rest first after cut other r = record {
  front = r.front ++ line first;
  whole = r.whole ∙ ap (λ (t : List ℕ). r.front ++ t) (cut_at_split 10 rest (first, after) (sym cut)) ∙ shape r.front first after;
  same =
      sym (onto_cut-onto_cut r.front (line first) (cut_at_log after)) ∙ ap (λ (x : Option (List ℕ × List ℕ)). onto_cut r.front x) (sym (cut_at_line rest first after false (sym cut) other))
      ∙ r.same;
}
  where
    shape : (a b c : List ℕ) → a ++ (b ++ 10 ∷ c) ≡ (a ++ (b ++ 10 ∷ [])) ++ c
    shape a b c = simp append_assoc

front_taken : (front rest : List ℕ) → take (length (front ++ rest) - length rest) (front ++ rest) ≡ front
front_taken front rest =
    let n : length (front ++ rest) - length rest ≡ length front = omega (arith, length-append front rest) in
    ap (λ (k : ℕ). take k (front ++ rest)) n ∙ take-append_seam front rest

abbrev cut_into : List ℕ → List ℕ → Option (List ℕ × List ℕ)
cut_into a b = Some (a, b)

pub reached_log : (text rest first after : List ℕ) → Some (first, after) ≡ cut_at 10 rest → bytes_eq first (codes "log") ≡ true → Reached text rest
    → Some (take (length text - length rest) text, after) ≡ cut_at_log text
reached_log text rest first after cut is_log r =
    let here : cut_at_log rest ≡ cut_into [] after = cut_at_line rest first after true (sym cut) is_log in
    let front : take (length text - length rest) text ≡ r.front = subst (λ (t : List ℕ). take (length t - length rest) t ≡ r.front) (sym r.whole) (front_taken r.front rest) in
    ap (λ (t : List ℕ). cut_into t after) (front ∙ sym (append-nil r.front)) ∙ ap (λ (x : Option (List ℕ × List ℕ)). onto_cut r.front x) (sym here) ∙ r.same

pub reached_end : (text rest : List ℕ) → None ≡ cut_at 10 rest → Reached text rest → None ≡ cut_at_log text
reached_end text rest cut r =
    let here : cut_at_log rest ≡ None = ap cut_pieces (pieces_at_none 10 rest (sym cut)) in
    ap (λ (x : Option (List ℕ × List ℕ)). onto_cut r.front x) (sym here) ∙ r.same

-- ---- a cut makes the text

some_is : (x y : List ℕ × List ℕ) → Some x ≡ Some y → x ≡ y
some_is x y e = cc

abbrev MakesText : List ℕ → List ℕ × List ℕ → Type 0
MakesText text cut = text ≡ cut.0 ++ (line (codes "log") ++ cut.1)

behind_line : (p : List ℕ) (o : Option (List ℕ × List ℕ)) (t : List ℕ) (cut : List ℕ × List ℕ) → ((c : List ℕ × List ℕ) → o ≡ Some c → MakesText t c)
    → onto_cut (line p) o ≡ Some cut → MakesText (p ++ 10 ∷ t) cut
behind_line p None t cut more e = absurd cc
behind_line p (Some c) t cut more e =
    let same : (line p ++ c.0, c.1) ≡ cut = some_is (line p ++ c.0, c.1) cut e in
    subst (λ (x : List ℕ × List ℕ). MakesText (p ++ 10 ∷ t) x) same (ap (λ (x : List ℕ). p ++ 10 ∷ x) (more c refl) ∙ shape p c.0 (line (codes "log") ++ c.1))
  where
    shape : (a b c : List ℕ) → a ++ 10 ∷ (b ++ c) ≡ ((a ++ 10 ∷ []) ++ b) ++ c
    shape a b c = simp append_assoc

makes_step : (p : List ℕ) (is_log : Bool) (t : List ℕ) (o : Option (List ℕ × List ℕ)) (cut : List ℕ × List ℕ) → bytes_eq p (codes "log") ≡ is_log
    → ((c : List ℕ × List ℕ) → o ≡ Some c → MakesText t c) → at_line p is_log t o ≡ Some cut → MakesText (p ++ 10 ∷ t) cut
makes_step p true t o cut h more e =
    subst (λ (x : List ℕ × List ℕ). MakesText (p ++ 10 ∷ t) x) (some_is ([], t) cut e) (ap (λ (x : List ℕ). x ++ 10 ∷ t) (same_text p (codes "log") h))
makes_step p false t o cut h more e = behind_line p o t cut more e

makes_text : (ps : List (List ℕ)) (cut : List ℕ × List ℕ) → cut_pieces ps ≡ Some cut → MakesText (joined ps) cut
makes_text [] cut e = absurd cc
makes_text (p ∷ []) cut e = absurd cc
makes_text (p ∷ q ∷ ps) cut e = makes_step p (bytes_eq p (codes "log")) (joined (q ∷ ps)) (cut_pieces (q ∷ ps)) cut refl (λ c h. makes_text (q ∷ ps) c h) e

pub cut_makes_text : (text front log : List ℕ) → cut_at_log text ≡ Some (front, log) → text ≡ front ++ (line (codes "log") ++ log)
cut_makes_text text front log e = sym (joined_pieces text) ∙ makes_text (pieces 10 text) (front, log) e

-- ---- the lines of an accepted script are cut from a log

not_log : (l : Line) → bytes_eq (line_text l) (codes "log") ≡ false
not_log (lines.Strategy strategy) = refl
not_log (lines.Queues n) = refl
not_log (lines.Topic name) = refl
not_log (lines.Publisher topic base) = refl
not_log (lines.Update update) = refl
not_log lines.Recap = refl
not_log (lines.Pause rounds) = refl
not_log lines.Client = refl
not_log (lines.Sub topic kind queue cache recaps) = refl
not_log (lines.Timer queue interval) = refl
not_log (lines.Inbox queue) = refl
not_log (lines.Fault row) = refl
not_log (lines.At call order) = refl
not_log (lines.Order (orders.Stop id)) = refl
not_log (lines.Order (orders.Disarm id)) = refl
not_log (lines.Order (orders.Close id)) = refl
not_log (lines.Order (orders.Ask id topic fids)) = refl
not_log (lines.Now moment) = refl
not_log lines.NowClock = refl
not_log (lines.Group ids) = refl
not_log (lines.Watch sub timer retries) = refl

line_lacks : (v : Version) (l : Line) → IsLine v l → lacks 10 (line_text l) ≡ false
line_lacks v l h =
    let p = chosen_some (is_parted (line_text l)) (words (line_text l)) (line_words l) (line_parted v l h) in
    let q = and_parts (list_all is_plain (line_text l) && is_outside (place_after Outside (line_text l))) (not (list_any is_empty_word (words (line_text l)))) p.0 in
    let r = and_parts (list_all is_plain (line_text l)) (is_outside (place_after Outside (line_text l))) q.0 in
    all_lack is_plain 10 (line_text l) refl r.0

line_then : (text rest : List ℕ) → lacks 10 text ≡ false → cut_at 10 (line text ++ rest) ≡ Some (text, rest)
line_then text rest h = ap (cut_at 10) (append_assoc text (10 ∷ []) rest) ∙ cut_at_again 10 text rest h

past_line : (text rest behind front log : List ℕ) → lacks 10 text ≡ false → bytes_eq text (codes "log") ≡ false → cut_at_log (rest ++ behind) ≡ Some (front, log)
    → cut_at_log ((line text ++ rest) ++ behind) ≡ Some (line text ++ front, log)
past_line text rest behind front log whole other more =
    ap cut_at_log (append_assoc (line text) rest behind) ∙ cut_at_line (line text ++ (rest ++ behind)) text (rest ++ behind) false (line_then text (rest ++ behind) whole) other
    ∙ ap (λ (x : Option (List ℕ × List ℕ)). onto_cut (line text) x) more

lines_cut : (b : Before) (ls : List Line) (log : List ℕ) → FitFrom b ls → cut_at_log (flat_map ended ls ++ (line (codes "log") ++ log)) ≡ Some (flat_map ended ls, log)
lines_cut b [] log h = cut_at_line (line (codes "log") ++ log) (codes "log") log true (line_then (codes "log") log refl) refl
lines_cut b (l ∷ ls) log h =
    past_line (line_text l) (flat_map ended ls) (line (codes "log") ++ log) (flat_map ended ls) log (line_lacks b.version l h.0.form) (not_log l) (lines_cut (after b l) ls log h.1)

first_lacks : (v : Version) → lacks 10 (first_line v) ≡ false
first_lacks version.One = refl
first_lacks version.Two = refl

first_not_log : (v : Version) → bytes_eq (first_line v) (codes "log") ≡ false
first_not_log version.One = refl
first_not_log version.Two = refl

pub script_is_cut : (script : ScriptData) (log : List ℕ) → IsScript script → cut_at_log (script_text script ++ (line (codes "log") ++ log)) ≡ Some (script_text script, log)
script_is_cut script log accepted =
    let v : Version = version_of (lines_of script) in
    past_line (first_line v) (flat_map ended (lines_of script)) (line (codes "log") ++ log) (flat_map ended (lines_of script)) log (first_lacks v) (first_not_log v)
    (lines_cut (start v) (lines_of script) log accepted.accepted.fit)
