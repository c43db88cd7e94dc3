-- The first line of a text that does not fit, where reading is stuck.
use Rattle.std.proofs.Common.{◌≡◌, ℕ, ◌^◌, ◌<◌, List, [], ◌∷◌, ◌++◌, length, Option, Some, None, refl, sym, ap, subst, ◌∙◌, append_assoc, arith, inl, inr}
use Rattle.std.specs.Prelude.{◌⊎◌}
use Rattle.std.specs.List.{AllByRecursion}
use Rattle.std.proofs.lemmas.List.Elements.{All-from_recursion}
use Rattle.mama_words.specs.declared.version.Version.{Version}
use Rattle.mama_words.specs.Parting.{pieces, cut_at}
use Rattle.mama_words.proofs.Cuts.{pieces_at_some, pieces_at_none}
use Rattle.mama_words.proofs.Cutting.{cut_at_again, cut_at_split}
use Rattle.mama_script.specs.Script.{ScriptData}
use Rattle.mama_script.proofs.Whole.{pieces_some}
use Rattle.mama_rules_legal.specs.Form.{objects_of}
use Rattle.mama_record.specs.RunData.{RunData}
use Rattle.mama_record.specs.LogText.{lines_text, log_lines, log_text}
use Rattle.mama_log_line.specs.Names.{names_of}
use Rattle.mama_log_read.specs.Logged.{HasLog}
use Rattle.mama_log_read.specs.Unfit.{AreFirst, AreAtHand, BeginLog, IsLogOf, Unfit, IsFirstUnfit}
use Rattle.mama_log_read.specs.Section.{sections, HasPlainHead}
use Rattle.mama_log_read.specs.Part.{Part, all_lines}
use Rattle.mama_log_read.specs.Reading.{Begins, GoesOn, last_part, IsNumbered, IsStuck, version_by, has_lists}
use Rattle.mama_log_read.specs.declared.section.Section.{Section}
use Rattle.mama_log_read.proofs.Lines.{IsPlain, ArePlain, lines_begin, lines_text-append, pieces_lines, first_line}
use Rattle.mama_log_read.proofs.Whole.{named, parts_of, parts_lines}
use Rattle.mama_log_read.proofs.Record.{parts_named, parts_fit}
use Rattle.mama_log_read.proofs.Following.{Headed, headed_lines, filled, AreBegun, BeginsFirst, Follows, follows}
use Rattle.mama_log_read.proofs.Cores.{all_front, all_back}
use Rattle.mama_log_read.proofs.Begun.{ArePlainHeads, IsReadOf, FitsScript, fit_of, few_of, with_counts, counts_lines, counts_filled, counts_begun, counts_fit, parts_are_plain, no_cut, plain_behind, log_version, whole_version, whole_few, log_plain, begins_log, IsBegunBy, begun_by}

-- ---- the first line that does not fit

-- where reading is stuck: the next line begins no section that is to come, and the text does not end there
pub record StandsStill (v : Version) (left : List Section) (rest : List ℕ) : Type 0 where
  pub no_head : (l more : List ℕ) → rest ≡ l ++ 10 ∷ more → BeginsFirst v left l → ⊥
  pub no_end : rest ≡ [] → left ≡ [] → ⊥

-- sections that were read as far as here, with the first lines of their parts
pub record ReadHere (v : Version) (script : ScriptData) (text : List ℕ) (left : List Section) (rest : List ℕ) (lines : List (List ℕ)) (part : Part) : Type 0 where
  pub fs : List Headed
  pub fits : FitsScript script (filled fs)
  pub begun : AreBegun v fs
  pub name : named (filled fs) ++ left ≡ sections v script
  pub are : headed_lines script.shape fs ≡ lines
  pub last : last_part (filled fs) ≡ part
  pub plain : ArePlain lines
  pub taken : text ≡ lines_text lines ++ rest

-- what a log that begins with the lines so far has next
pub next_follows : (v : Version) (script : ScriptData) (text : List ℕ) (left : List Section) (rest : List ℕ) (lines : List (List ℕ)) (part : Part) → ReadHere v script text left rest lines part → (next : List ℕ) → IsBegunBy v script (lines ++ next ∷ [])
    → GoesOn (names_of script) (objects_of script) part next ⊎ BeginsFirst v left next
next_follows v script text left rest lines part r next b =
    let P : Part → Type 0 = λ x. GoesOn (names_of script) (objects_of script) x next ⊎ BeginsFirst v left next in
    let whole : headed_lines script.shape b.ws ≡ headed_lines script.shape r.fs ++ next ∷ b.more =
    b.whole ∙ append_assoc lines (next ∷ []) b.more ∙ ap (λ (x : List (List ℕ)). x ++ next ∷ b.more) (sym r.are) in
    subst P r.last (follows v (names_of script) (objects_of script) r.fs b.ws left (next ∷ b.more) r.fits b.fits r.begun b.begun (b.name ∙ sym r.name) whole)

-- no log is this text, where what is left is a line that is not ended, or nothing, and sections are to come
not_ended : (v : Version) (script : ScriptData) (text : List ℕ) (left : List Section) (rest : List ℕ) (lines : List (List ℕ)) (part : Part) → length text < 2 ^ 64 → v ≡ version_by script.version (has_lists script) text → ArePlainHeads v script → ReadHere v script text left rest lines part
    → (rest ≡ [] → left ≡ [] → ⊥) → cut_at 10 rest ≡ None → IsLogOf script text → ⊥
not_ended v script text left rest lines part short version plain r no_end uncut log =
    let shape = script.shape in
    let same : log.version ≡ v = whole_version script log.version log.run text log.known log.whole ∙ sym version in
    let W : Version → Type 0 = λ x. text ≡ log_text x script.shape log.run in
    let whole = subst W same log.whole in
    let parts = parts_of v shape.strategy log.run in
    let few = whole_few v script log.run text short whole in
    let lines_plain = log_plain v script log.run plain log.logged few in
    let m = lines_begin (log_lines v shape log.run) lines rest lines_plain r.plain (sym whole ∙ r.taken) in
    let P : List (List ℕ) → Type 0 = λ x. ArePlain x in
    let f = follows v (names_of script) (objects_of script) r.fs (with_counts v shape parts) left m.0 r.fits (counts_fit v script parts (parts_fit v script log.run log.logged)) r.begun (counts_begun v shape parts few)
    (ap named (counts_filled v shape parts) ∙ parts_named v script log.run log.logged ∙ sym r.name) (counts_lines v shape parts ∙ parts_lines v shape log.run ∙ m.1 ∙ ap (λ (x : List (List ℕ)). x ++ m.0) (sym r.are)) in
    by m.0 (plain_behind lines m.0 (subst P m.1 lines_plain)) m.2 f
  where
    by : (more : List (List ℕ)) → ArePlain more → lines_text more ≡ rest → Follows v (names_of script) (objects_of script) (last_part (filled r.fs)) left more → ⊥
    by [] p e h = no_end (sym e) h
    by (l ∷ ls) p e h =
        let at : rest ≡ l ++ 10 ∷ lines_text ls = sym e ∙ append_assoc l (10 ∷ []) (lines_text ls) in
        no_cut (l, lines_text ls) (sym uncut ∙ ap (cut_at 10) at ∙ cut_at_again 10 l (lines_text ls) p.0)

-- a log that begins with the lines so far and the next one is of the version by which the text was read
pub next_begun : (v : Version) (script : ScriptData) (text : List ℕ) (lines : List (List ℕ)) (rest next after : List ℕ) → v ≡ version_by script.version (has_lists script) text → text ≡ lines_text lines ++ rest → rest ≡ next ++ 10 ∷ after
    → (log : BeginLog script (lines ++ next ∷ [])) → AreFirst v script.shape log.run (lines ++ next ∷ []) ⊎ AreAtHand v script.shape log.run (lines ++ next ∷ [])
next_begun v script text lines rest next after version taken at log =
    let P : Version → Type 0 = λ x. AreFirst x script.shape log.run (lines ++ next ∷ []) ⊎ AreAtHand x script.shape log.run (lines ++ next ∷ []) in
    subst P (by lines log (taken ∙ ap (λ (t : List ℕ). lines_text lines ++ t) at ∙ sym (grown lines)) ∙ sym version) log.begun
  where
    grown : (ls : List (List ℕ)) → lines_text (ls ++ next ∷ []) ++ after ≡ lines_text ls ++ (next ++ 10 ∷ after)
    grown ls =
        ap (λ (t : List ℕ). t ++ after) (lines_text-append ls (next ∷ [])) ∙ append_assoc (lines_text ls) (lines_text (next ∷ [])) after ∙ ap (λ (t : List ℕ). lines_text ls ++ t) (first_line next [] after)

    by : (ls : List (List ℕ)) (log : BeginLog script (ls ++ next ∷ [])) → text ≡ lines_text (ls ++ next ∷ []) ++ after → log.version ≡ version_by script.version (has_lists script) text
    by [] log e = log_version script next [] text after log e
    by (l ∷ ls) log e = log_version script l (ls ++ next ∷ []) text after log e

-- what is unfit, by the pieces of what is left
unfit_pieces : (v : Version) (script : ScriptData) (text : List ℕ) (left : List Section) (rest : List ℕ) (lines : List (List ℕ)) (part : Part) → length text < 2 ^ 64 → v ≡ version_by script.version (has_lists script) text → ArePlainHeads v script → ReadHere v script text left rest lines part
    → (rest ≡ [] → left ≡ [] → ⊥) → ((next after : List ℕ) → cut_at 10 rest ≡ Some (next, after) → BeginLog script (lines ++ next ∷ []) → ⊥) → (o : Option (List ℕ × List ℕ)) → cut_at 10 rest ≡ o → Unfit script text lines (pieces 10 rest)
unfit_pieces v script text left rest lines part short version plain r no_end not_next None e =
    let P : List (List ℕ) → Type 0 = λ x. Unfit script text lines x in
    subst P (sym (pieces_at_none 10 rest e)) (not_ended v script text left rest lines part short version plain r no_end e)
unfit_pieces v script text left rest lines part short version plain r no_end not_next (Some cut) e =
    let P : List (List ℕ) → Type 0 = λ x. Unfit script text lines x in
    subst P (sym (pieces_at_some 10 rest cut.0 cut.1 e)) (by (pieces 10 cut.1) (pieces_some 10 cut.1))
  where
    by : (others : List (List ℕ)) → 0 < length others → Unfit script text lines (cut.0 ∷ others)
    by [] some = absurd (omega arith)
    by (p ∷ ps) some = not_next cut.0 cut.1 e

pub unfit_at : (v : Version) (script : ScriptData) (text : List ℕ) (left : List Section) (rest : List ℕ) (lines : List (List ℕ)) (part : Part) (number : ℕ) → length text < 2 ^ 64 → v ≡ version_by script.version (has_lists script) text → ArePlainHeads v script
    → ReadHere v script text left rest lines part → (rest ≡ [] → left ≡ [] → ⊥) → ((next after : List ℕ) → cut_at 10 rest ≡ Some (next, after) → BeginLog script (lines ++ next ∷ []) → ⊥)
    → BeginLog script lines → IsNumbered text rest number → IsFirstUnfit script text number
unfit_at v script text left rest lines part number short version plain r no_end not_next fits counted = record {
  before = lines;
  rest = pieces 10 rest;
  parted = ap (pieces 10) r.taken ∙ pieces_lines lines rest r.plain;
  counted = counted lines (All-from_recursion IsPlain lines r.plain) r.taken;
  fits = fits;
  unfit = unfit_pieces v script text left rest lines part short version plain r no_end not_next (cut_at 10 rest) refl;
}

-- ---- reading stopped between sections

pub read_plain : (v : Version) (script : ScriptData) (done left : List Section) (text : List ℕ) (run : RunData) (rest : List ℕ) → ArePlainHeads v script → (r : IsReadOf v script done text run rest) → done ++ left ≡ sections v script → ArePlain (all_lines v script.shape r.parts)
read_plain v script done left text run rest plain r all =
    let S : List Section → Type 0 = λ x. AllByRecursion HasPlainHead x in
    parts_are_plain v script r.parts (fit_of script r.parts r.fits) (few_of v script.shape r.parts r.few) (subst S (sym r.named) (all_front HasPlainHead done left (subst S (sym all) plain)))

read_here : (v : Version) (script : ScriptData) (done left : List Section) (text : List ℕ) (run : RunData) (rest : List ℕ) → ArePlainHeads v script → (r : IsReadOf v script done text run rest) → done ++ left ≡ sections v script
    → ReadHere v script text left rest (all_lines v script.shape r.parts) (last_part r.parts)
read_here v script done left text run rest plain r all =
    let shape = script.shape in
    record {
      fs = with_counts v shape r.parts;
      fits = counts_fit v script r.parts (fit_of script r.parts r.fits);
      begun = counts_begun v shape r.parts (few_of v shape r.parts r.few);
      name = ap (λ (x : List Section). x ++ left) (ap named (counts_filled v shape r.parts) ∙ r.named) ∙ all;
      are = counts_lines v shape r.parts;
      last = ap last_part (counts_filled v shape r.parts);
      plain = read_plain v script done left text run rest plain r all;
      taken = r.taken;
    }

still : (v : Version) (left : List Section) (rest : List ℕ) → AllByRecursion HasPlainHead left
    → ((next : Section) (others : List Section) → left ≡ next ∷ others → HasPlainHead next → (line more : List ℕ) → Begins v next line → rest ≡ line ++ 10 ∷ more → ⊥) → (l more : List ℕ) → rest ≡ l ++ 10 ∷ more → BeginsFirst v left l → ⊥
still v [] rest plain no_head l more e h = h
still v (next ∷ others) rest plain no_head l more e h = no_head next others refl plain.0 l more h e

pub stuck_unfit : (v : Version) (script : ScriptData) (text : List ℕ) (number : ℕ) → length text < 2 ^ 64 → v ≡ version_by script.version (has_lists script) text → HasLog script v → ArePlainHeads v script → IsStuck v (names_of script) (objects_of script) (sections v script) text number → IsFirstUnfit script text number
stuck_unfit v script text number short version known plain k =
    let lines = all_lines v script.shape k.read.parts in
    let S : List Section → Type 0 = λ x. AllByRecursion HasPlainHead x in
    let r = read_here v script k.done k.left text k.run k.rest plain k.read k.all in
    let left_plain = all_back HasPlainHead k.done k.left (subst S (sym k.all) plain) in
    unfit_at v script text k.left k.rest lines (last_part k.read.parts) number short version plain r k.no_end (not_next left_plain r)
    (begins_log v script k.done k.left text k.run k.rest k.read known k.all) k.counted
  where
    not_next : AllByRecursion HasPlainHead k.left → ReadHere v script text k.left k.rest (all_lines v script.shape k.read.parts) (last_part k.read.parts)
        → (next after : List ℕ) → cut_at 10 k.rest ≡ Some (next, after) → BeginLog script (all_lines v script.shape k.read.parts ++ next ∷ []) → ⊥
    not_next left_plain r next after cut log =
        let lines = all_lines v script.shape k.read.parts in
        let at : k.rest ≡ next ++ 10 ∷ after = cut_at_split 10 k.rest (next, after) cut in
        let b = begun_by v script log.run (lines ++ next ∷ []) log.logged (next_begun v script text lines k.rest next after version r.taken at log) in
        by (next_follows v script text k.left k.rest lines (last_part k.read.parts) r next b) at
      where
        by : GoesOn (names_of script) (objects_of script) (last_part k.read.parts) next ⊎ BeginsFirst v k.left next → k.rest ≡ next ++ 10 ∷ after → ⊥
        by (inl h) at = k.read.stops next after at h
        by (inr h) at = still v k.left k.rest left_plain k.no_head next after at h
