-- What reading a log answers is so.
use Rattle.std.proofs.Common.{◌≡◌, ℕ, ◌^◌, ◌<◌, true, false, List, [], ◌∷◌, ◌++◌, length, Result, Ok, Err, refl, sym, ap, subst, ◌∙◌, inl, inr}
use Rattle.std.specs.Prelude.{◌⊎◌, IfOk, IfErr}
use Rattle.std.specs.List.{All, AllByRecursion}
use Rattle.std.proofs.lemmas.List.{append-nil}
use Rattle.std.proofs.lemmas.List.Elements.{recursion_from_All}
use Rattle.mama_event.specs.declared.ids.ObjectId.{ObjectId}
use Rattle.mama_words.specs.declared.version.Version.{Version}
use Rattle.mama_words.specs.declared.version.Version.TheVariants.{One, Two}
use Rattle.mama_words.specs.Parting.{pieces}
use Rattle.mama_script.specs.Script.{ScriptData}
use Rattle.mama_script.proofs.Whole.{joined}
use Rattle.mama_rules_legal.specs.Form.{objects_of}
use Rattle.mama_record.specs.RunData.{RunData}
use Rattle.mama_record.specs.LogText.{lines_text, log_sections, log_lines, log_text}
use Rattle.mama_log_line.specs.Names.{NamesData, names_of}
use Rattle.mama_log_read.specs.Logged.{HasLog, IsLogged}
use Rattle.mama_log_read.specs.Unfit.{HasTellable, IsLogOf, Unfit, IsFirstUnfit, IfBad, GivesRun}
use Rattle.mama_log_read.specs.Section.{sections, HasPlainHead}
use Rattle.mama_log_read.specs.Reading.{IsStuck, IsMiscounted, IsReadOrStuck, version_by, has_lists}
use Rattle.mama_log_read.specs.declared.fault.LogFault.{LogFault}
use Rattle.mama_log_read.specs.declared.fault.LogFault.TheVariants as faults
use Rattle.mama_log_read.specs.declared.section.Section.{Section}
use Rattle.mama_log_read.specs.declared.section.Section.TheVariants as s
use Rattle.mama_log_read.proofs.Lines.{pieces_lines, first_line}
use Rattle.mama_log_read.proofs.Alike.{head_or, tail_of}
use Rattle.mama_log_read.proofs.Begun.{ArePlainHeads, whole_version, whole_few, log_plain, found_whole, again_whole, few_record}
use Rattle.mama_log_read.proofs.Unfitting.{stuck_unfit}
use Rattle.mama_log_read.proofs.Miscounted.{miscounted_unfit}

-- ---- a log has no line that does not fit

joined_lines : (ls : List (List ℕ)) (m : List ℕ) (ms : List (List ℕ)) → joined (ls ++ m ∷ ms) ≡ lines_text ls ++ joined (m ∷ ms)
joined_lines [] m ms = refl
joined_lines (l ∷ []) m ms = sym (first_line l [] (joined (m ∷ ms)))
joined_lines (l ∷ k ∷ ls) m ms = ap (λ (t : List ℕ). l ++ 10 ∷ t) (joined_lines (k ∷ ls) m ms) ∙ sym (first_line l (k ∷ ls) (joined (m ∷ ms)))

-- a line in front of others is among those in front of the last
cut_last : (xs : List (List ℕ)) (z : List ℕ) (bs : List (List ℕ)) (n m : List ℕ) (os : List (List ℕ)) → xs ++ z ∷ [] ≡ bs ++ n ∷ m ∷ os → (rest : List (List ℕ)) × (xs ≡ (bs ++ n ∷ []) ++ rest)
cut_last [] z [] n m os e = absurd cc
cut_last [] z (a ∷ bs) n m os e = absurd (none bs (ap tail_of e))
  where
    none : (bs : List (List ℕ)) → [] ≡ bs ++ n ∷ m ∷ os → ⊥
    none [] e = cc
    none (a ∷ bs) e = cc
cut_last (x ∷ xs) z [] n m os e = (xs, ap (λ (t : List ℕ). t ∷ xs) (ap (head_or []) e))
cut_last (x ∷ xs) z (a ∷ bs) n m os e =
    let more = cut_last xs z bs n m os (ap tail_of e) in
    (more.0, ap (λ (t : List ℕ). t ∷ xs) (ap (head_or []) e) ∙ ap (λ (t : List (List ℕ)). a ∷ t) more.1)

pub no_unfit : (v : Version) (script : ScriptData) (text : List ℕ) (number : ℕ) → length text < 2 ^ 64 → v ≡ version_by script.version (has_lists script) text → ArePlainHeads v script → IsFirstUnfit script text number → IsLogOf script text → ⊥
no_unfit v script text number short version plain u log =
    let same : log.version ≡ v = whole_version script log.version log.run text log.known log.whole ∙ sym version in
    let W : Version → Type 0 = λ x. text ≡ log_text x script.shape log.run in
    let K : Version → Type 0 = λ x. HasLog script x in
    let whole = subst W same log.whole in
    let few = whole_few v script log.run text short whole in
    let lines_plain = log_plain v script log.run plain log.logged few in
    let lines = log_lines v script.shape log.run in
    let parted : pieces 10 text ≡ lines ++ [] ∷ [] = ap (pieces 10) (whole ∙ sym (append-nil (lines_text lines))) ∙ pieces_lines lines [] lines_plain in
    by (subst K same log.known) (few_record v script.shape log.run few) u.rest (sym parted ∙ u.parted) u.unfit
  where
    by : HasLog script v → AllByRecursion (HasTellable v) (log_sections script.shape log.run) → (rest : List (List ℕ)) → log_lines v script.shape log.run ++ [] ∷ [] ≡ u.before ++ rest → Unfit script text u.before rest → ⊥
    by known few [] e h = h
    by known few (last ∷ []) e h = h log
    by known few (next ∷ more ∷ others) e h =
        let front = cut_last (log_lines v script.shape log.run) [] u.before next more others e in
        h (record { version = v; known = known; run = log.run; logged = log.logged; begun = inl (record { rest = front.0; whole = front.1; tellable = few }) })

-- ---- the answer

abbrev pub IsAnswer : Version → ScriptData → List ℕ → Result RunData LogFault → Type 0
IsAnswer v script text r = IsReadOrStuck v (names_of script) (objects_of script) (sections v script) text r

pub answer_found : (v : Version) (script : ScriptData) (text : List ℕ) (r : Result RunData LogFault) → HasLog script v → IsAnswer v script text r
    → IfOk r (λ run. IsLogged script run × ((w : Version) × HasLog script w × (text ≡ log_text w script.shape run)))
answer_found v script text (Ok run) known h =
    let f = found_whole v script text run h in
    (f.0, (v, known, f.1))
answer_found v script text (Err fault) known h = tt

-- version 1 tells no numbers, so none is wrong
answer_unfit : (v : Version) (script : ScriptData) (text : List ℕ) (number : ℕ) → length text < 2 ^ 64 → v ≡ version_by script.version (has_lists script) text → HasLog script v → ArePlainHeads v script
    → IsStuck v (names_of script) (objects_of script) (sections v script) text number ⊎ IsMiscounted v (names_of script) (objects_of script) (sections v script) text number → IsFirstUnfit script text number
answer_unfit v script text number short version known plain (inl k) = stuck_unfit v script text number short version known plain k
answer_unfit One script text number short version known plain (inr k) = absurd (let bad : false ≡ true = k.tells.0 in cc)
answer_unfit Two script text number short version known plain (inr k) = miscounted_unfit script text number short version known plain k

pub answer_again : (v : Version) (script : ScriptData) (text : List ℕ) (r : Result RunData LogFault) → length text < 2 ^ 64 → v ≡ version_by script.version (has_lists script) text → HasLog script v → ArePlainHeads v script → IsAnswer v script text r
    → (w : Version) (run : RunData) → HasLog script w → IsLogged script run → text ≡ log_text w script.shape run → GivesRun run r
answer_again v script text (Ok given) short version own plain h w run known logged e =
    let same : w ≡ v = whole_version script w run text known e ∙ sym version in
    let W : Version → Type 0 = λ x. text ≡ log_text x script.shape run in
    again_whole v script text given run short plain h logged (subst W same e)
answer_again v script text (Err (faults.Bad number)) short version own plain h w run known logged e =
    no_unfit v script text number short version plain (answer_unfit v script text number short version own plain h) (record { version = w; known = known; run = run; logged = logged; whole = e })
answer_again v script text (Err faults.OutOfMemory) short version own plain h w run known logged e = tt

pub answer_bad : (v : Version) (script : ScriptData) (text : List ℕ) (r : Result RunData LogFault) → length text < 2 ^ 64 → v ≡ version_by script.version (has_lists script) text → HasLog script v → ArePlainHeads v script → IsAnswer v script text r → IfErr r (λ fault. IfBad fault (λ line. IsFirstUnfit script text line))
answer_bad v script text (Ok given) short version known plain h = tt
answer_bad v script text (Err (faults.Bad number)) short version known plain h = answer_unfit v script text number short version known plain h
answer_bad v script text (Err faults.OutOfMemory) short version known plain h = tt

-- the same, where names, objects and sections are those of the script
pub answer_of : (v : Version) (script : ScriptData) (names : NamesData) (objects : List ObjectId) (those : List Section) (text : List ℕ) (r : Result RunData LogFault) → names ≡ names_of script → objects ≡ objects_of script → those ≡ sections v script
    → IsReadOrStuck v names objects those text r → IsAnswer v script text r
answer_of v script names objects those text r n o t h =
    let P : NamesData → Type 0 = λ x. IsReadOrStuck v x (objects_of script) (sections v script) text r in
    let Q : List ObjectId → Type 0 = λ x. IsReadOrStuck v names x (sections v script) text r in
    let R : List Section → Type 0 = λ x. IsReadOrStuck v names objects x text r in
    subst P n (subst Q o (subst R t h))

pub plain_heads : (v : Version) (script : ScriptData) (items : List Section) (objects given : List ObjectId) → given ≡ objects → All (λ o. HasPlainHead (s.Object o)) objects → (All (λ o. HasPlainHead (s.Object o)) given → All (λ x. HasPlainHead x) items) → items ≡ sections v script → ArePlainHeads v script
plain_heads v script items objects given same plain all is =
    let P : List ObjectId → Type 0 = λ os. All (λ o. HasPlainHead (s.Object o)) os in
    let Q : List Section → Type 0 = λ x. AllByRecursion HasPlainHead x in
    subst Q is (recursion_from_All (λ x. HasPlainHead x) items (all (subst P (sym same) plain)))
