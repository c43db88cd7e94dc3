-- What a log is that begins with some lines, by its parts.
use Rattle.std.proofs.Common.{◌≡◌, ℕ, ◌^◌, ◌<◌, ◌≤◌, Bool, true, false, cond, eqb, List, [], ◌∷◌, ◌++◌, length, map, Option, Some, None, refl, sym, ap, subst, ◌∙◌, append_assoc, arith, inl, inr}
use Rattle.std.specs.Prelude.{◌⊎◌, ◌||◌, ◌==◌, not, codes}
use Rattle.std.specs.List.{All, AllByRecursion}
use Rattle.std.proofs.lemmas.Bool.{or_from, or_parts, eqb-true}
use Rattle.std.proofs.lemmas.List.{append-nil, map-append, nil_from_length}
use Rattle.std.proofs.lemmas.List.Concat.{flat_map-append}
use Rattle.std.proofs.lemmas.List.Elements.{recursion_from_All, All-nil}
use Rattle.mama_event.specs.declared.ids.ObjectId.{ObjectId}
use Rattle.mama_event.specs.declared.shape.Shape.{Shape}
use Rattle.mama_event.specs.declared.shape.Strategy.{Strategy}
use Rattle.mama_words.specs.declared.version.Version.{Version}
use Rattle.mama_words.specs.declared.version.Version.TheVariants.{One, Two}
use Rattle.mama_words.specs.Parting.{cut_at, onto_cut}
use Rattle.mama_words.proofs.Choices.{some_is}
use Rattle.mama_words.proofs.Cutting.{cut_at_again, decimal_lacks}
use Rattle.mama_script.specs.Script.{ScriptData}
use Rattle.mama_rules_legal.specs.Form.{objects_of}
use Rattle.mama_record.specs.RunData.{RunData}
use Rattle.mama_record.specs.LogText.{LogSection, lines_text, told, title, log_sections, log_lines, log_text}
use Rattle.mama_log_line.specs.Names.{NamesData, names_of}
use Rattle.mama_log_read.specs.Logged.{HasLog, IsLogged}
use Rattle.mama_log_read.specs.Unfit.{IsTellable, HasTellable, AreFirst, AreAtHand, BeginLog}
use Rattle.mama_log_read.specs.Section.{head_of, has_count, first_of, has_feed, sections, HasPlainHead}
use Rattle.mama_log_read.specs.Part.{Part, Bare, Moments, Sends, OnBridge, OnTimers, OnQueue, Heard, Pictures, Grouped, Watched, Filled, Fits, FitsIn, bodies, lines_of, all_lines, nothing, run_after}
use Rattle.mama_log_read.specs.Reading.{IsTold, Begins, IsFew, AreRead, begins_with, version_by, has_lists}
use Rattle.mama_log_read.specs.declared.section.Section.{Section}
use Rattle.mama_log_read.specs.declared.section.Section.TheVariants as s
use Rattle.mama_log_read.specs.declared.section.Told.TheVariants as t
use Rattle.mama_log_read.proofs.Lines.{IsPlain, ArePlain, lines_begin, plain-append, first_line}
use Rattle.mama_log_read.proofs.Sections.{plain_join}
use Rattle.mama_log_read.proofs.NoHead.{begins_head}
use Rattle.mama_log_read.proofs.Alike.{head_or}
use Rattle.mama_log_read.proofs.Parts.{part_plain}
use Rattle.mama_log_read.proofs.Whole.{AllFit, named, title_parts, body_parts, parts_of, parts_lines, parts_spell, parts_make, lines-append, section_lines, title_lines}
use Rattle.mama_log_read.proofs.Record.{sections_make_record, parts_named, parts_fit}
use Rattle.mama_log_read.proofs.Following.{Headed, own_lines, headed_lines, filled, AreBegun, same_parts}
use Rattle.mama_log_read.proofs.Tallies.{Tally, begins_first, tally_front, tally_parts, tally_at_hand}
use Rattle.mama_log_read.proofs.Cores.{IsCounted, core_parts, end_part, body_is_core, core_counted, core_shown, counted_core, all_front, all_back, all_joined, few_tellable, tellable_few, tellable, titles_few, text_few, split_shown}

abbrev pub ArePlainHeads : Version → ScriptData → Type 0
ArePlainHeads v script = AllByRecursion HasPlainHead (sections v script)

abbrev pub IsReadOf : Version → ScriptData → List Section → List ℕ → RunData → List ℕ → Type 0
IsReadOf v script done text run rest = AreRead v (names_of script) (objects_of script) done text run rest

abbrev pub FitsScript : ScriptData → List Filled → Type 0
FitsScript script fs = AllFit (names_of script) (objects_of script) fs

pub fit_of : (script : ScriptData) (fs : List Filled) → All (FitsIn (names_of script) (objects_of script)) fs → FitsScript script fs
fit_of script fs h = recursion_from_All (FitsIn (names_of script) (objects_of script)) fs h

pub few_of : (v : Version) (shape : Shape) (fs : List Filled) → All (IsFew v shape) fs → AllByRecursion (IsFew v shape) fs
few_of v shape fs h = recursion_from_All (IsFew v shape) fs h

-- ---- parts behind their first lines, which tell their numbers

abbrev pub with_counts : Version → Shape → List Filled → List Headed
with_counts v shape fs = map (λ (f : Filled). (first_of v f.0 (length (bodies shape f.1)), f)) fs

pub counts_lines : (v : Version) (shape : Shape) (fs : List Filled) → headed_lines shape (with_counts v shape fs) ≡ all_lines v shape fs
counts_lines v shape [] = refl
counts_lines v shape (f ∷ fs) = ap (λ (t : List (List ℕ)). lines_of v shape f ++ t) (counts_lines v shape fs)

pub counts_filled : (v : Version) (shape : Shape) (fs : List Filled) → filled (with_counts v shape fs) ≡ fs
counts_filled v shape [] = refl
counts_filled v shape (f ∷ fs) = ap (λ (t : List Filled). f ∷ t) (counts_filled v shape fs)

pub counts_begun : (v : Version) (shape : Shape) (fs : List Filled) → AllByRecursion (IsFew v shape) fs → AreBegun v (with_counts v shape fs)
counts_begun v shape [] h = tt
counts_begun v shape (f ∷ fs) h = (begins_first v f.0 (length (bodies shape f.1)) h.0, counts_begun v shape fs h.1)

pub counts_fit : (v : Version) (script : ScriptData) (fs : List Filled) → FitsScript script fs → FitsScript script (filled (with_counts v script.shape fs))
counts_fit v script fs h = let P : List Filled → Type 0 = λ x. FitsScript script x in subst P (sym (counts_filled v script.shape fs)) h

-- ---- lines without line feeds

first_plain : (v : Version) (section : Section) (n : ℕ) → HasPlainHead section → IsTellable v n → IsPlain (first_of v section n)
first_plain One section n h k = h
first_plain Two section n h k = by (has_count Two section)
  where
    by : (b : Bool) → IsPlain (cond b (head_of section ++ told Two n) (head_of section))
    by true = plain_join (head_of section) (told Two n) h (decimal_lacks 10 n refl k)
    by false = h

pub parts_are_plain : (v : Version) (script : ScriptData) (fs : List Filled) → FitsScript script fs → AllByRecursion (IsFew v script.shape) fs → AllByRecursion HasPlainHead (named fs) → ArePlain (all_lines v script.shape fs)
parts_are_plain v script [] h few k = tt
parts_are_plain v script (f ∷ fs) h few k = (
  first_plain v f.0 (length (bodies script.shape f.1)) k.0 few.0,
  plain-append (bodies script.shape f.1) (all_lines v script.shape fs) (part_plain (names_of script) (objects_of script) f.0 f.1 h.0) (parts_are_plain v script fs h.1 few.1 k.1),
)

-- what stands before a cut has no such byte in it
onto_plain : (b : ℕ) (o : Option (List ℕ × List ℕ)) (x : List ℕ × List ℕ) → eqb b 10 ≡ false → ((y : List ℕ × List ℕ) → o ≡ Some y → IsPlain y.0) → onto_cut (b ∷ []) o ≡ Some x → IsPlain x.0
onto_plain b None x h more e = absurd cc
onto_plain b (Some y) x h more e = let P : List ℕ × List ℕ → Type 0 = λ z. IsPlain z.0 in subst P (some_is (b ∷ y.0, y.1) x e) (or_from (eqb b 10) (has_feed y.0) h (more y refl))

cut_step : (b : ℕ) (bs : List ℕ) (x : List ℕ × List ℕ) (here : Bool) → eqb b 10 ≡ here → ((y : List ℕ × List ℕ) → cut_at 10 bs ≡ Some y → IsPlain y.0) → cut_at 10 (b ∷ bs) ≡ Some x → IsPlain x.0
cut_step b bs x true h more e = let P : List ℕ × List ℕ → Type 0 = λ z. IsPlain z.0 in subst P (some_is ([], bs) x (rw h at e)) refl
cut_step b bs x false h more e = onto_plain b (cut_at 10 bs) x h more (rw h at e)

cut_plain : (text : List ℕ) (x : List ℕ × List ℕ) → cut_at 10 text ≡ Some x → IsPlain x.0
cut_plain [] x e = absurd cc
cut_plain (b ∷ bs) x e = cut_step b bs x (eqb b 10) refl (cut_plain bs) e

pub no_cut : (x : List ℕ × List ℕ) → None ≡ Some x → ⊥
no_cut x e = cc

pub plain_behind : (ls ms : List (List ℕ)) → ArePlain (ls ++ ms) → ArePlain ms
plain_behind ls ms h = all_back IsPlain ls ms h

-- ---- the version of a log

version_line : Version → List ℕ
version_line One = codes "mama log 1"
version_line Two = codes "mama log 2"

abbrev KnownBy : Version → Bool → Version → Type 0
KnownBy u lists One = lists ≡ false
KnownBy u lists Two = u ≡ Two

known_by : (script : ScriptData) (v : Version) → HasLog script v → KnownBy script.version (has_lists script) v
known_by script One h = rw (h.0, h.1) refl
known_by script Two h = h

is_version : (u v : Version) (lists : Bool) (text rest : List ℕ) → text ≡ version_line v ++ 10 ∷ rest → KnownBy u lists v → version_by u lists text ≡ v
unfolding version_line
is_version One One lists text rest e k = refl
is_version One Two lists text rest e k = k
is_version Two One lists text rest e k =
    ap (λ (o : Option (List ℕ × List ℕ)). cond (begins_with (codes "mama log 2") o || lists) Two One) (ap (cut_at 10) e ∙ cut_at_again 10 (codes "mama log 1") rest refl)
    ∙ ap (λ (b : Bool). cond b Two One) k
is_version Two Two lists text rest e k =
    ap (λ (o : Option (List ℕ × List ℕ)). cond (begins_with (codes "mama log 2") o || lists) Two One) (ap (cut_at 10) e ∙ cut_at_again 10 (codes "mama log 2") rest refl)

title_first : (v : Version) (strategy : Strategy) (ls : List (List ℕ)) → head_or [] (title v strategy ++ ls) ≡ version_line v
unfolding version_line
title_first One strategy ls = refl
title_first Two strategy ls = refl

begun_version : (v : Version) (shape : Shape) (run : RunData) (l : List ℕ) (ls : List (List ℕ)) → AreFirst v shape run (l ∷ ls) ⊎ AreAtHand v shape run (l ∷ ls) → l ≡ version_line v
begun_version v shape run l ls (inl a) = sym (ap (head_or []) a.whole) ∙ title_first v shape.strategy _
begun_version v shape run l ls (inr a) = ap (head_or []) a.lines_are ∙ title_first v shape.strategy _

-- a text that begins with the first lines of a log has its version
pub log_version : (script : ScriptData) (l : List ℕ) (ls : List (List ℕ)) (text rest : List ℕ) (log : BeginLog script (l ∷ ls)) → text ≡ lines_text (l ∷ ls) ++ rest → log.version ≡ version_by script.version (has_lists script) text
log_version script l ls text rest log e =
    let first = begun_version log.version script.shape log.run l ls log.begun in
    let begins : text ≡ version_line log.version ++ 10 ∷ (lines_text ls ++ rest) = e ∙ first_line l ls rest ∙ ap (λ (x : List ℕ). x ++ 10 ∷ (lines_text ls ++ rest)) first in
    sym (is_version script.version log.version (has_lists script) text (lines_text ls ++ rest) begins (known_by script log.version log.known))

pub whole_version : (script : ScriptData) (v : Version) (run : RunData) (text : List ℕ) → HasLog script v → text ≡ log_text v script.shape run → v ≡ version_by script.version (has_lists script) text
whole_version script v run text known e = by (log_lines v script.shape run) refl
  where
    by : (ls : List (List ℕ)) → log_lines v script.shape run ≡ ls → v ≡ version_by script.version (has_lists script) text
    by [] same = absurd (none v same)
      where
        none : (v : Version) → log_lines v script.shape run ≡ [] → ⊥
        none One e = cc
        none Two e = cc
    by (l ∷ ls) same =
        let first : l ≡ version_line v = sym (ap (head_or []) same) ∙ title_first v script.shape.strategy _ in
        let begins : text ≡ version_line v ++ 10 ∷ lines_text ls = e ∙ ap lines_text same ∙ append_assoc l (10 ∷ []) (lines_text ls) ∙ ap (λ (x : List ℕ). x ++ 10 ∷ lines_text ls) first in
        sym (is_version script.version v (has_lists script) text (lines_text ls) begins (known_by script v known))

-- ---- the parts of a log, with few lines each

pub record_few : (v : Version) (shape : Shape) (run : RunData) → AllByRecursion (HasTellable v) (log_sections shape run) → AllByRecursion (IsFew v shape) (parts_of v shape.strategy run)
record_few v shape run h =
    let P : List LogSection → Type 0 = λ x. AllByRecursion (HasTellable v) x in
    let Q : List Filled → Type 0 = λ x. AllByRecursion (IsFew v shape) x in
    let core = tellable_few v shape (core_parts run) (subst P (sym (core_shown shape run)) h) in
    let body = subst Q (sym (body_is_core run)) (all_joined (IsFew v shape) (core_parts run) (end_part ∷ []) core (tellable v 0 (omega arith), tt)) in
    all_joined (IsFew v shape) (title_parts v shape.strategy) (body_parts run) (titles_few v shape.strategy shape) body

pub few_record : (v : Version) (shape : Shape) (run : RunData) → AllByRecursion (IsFew v shape) (parts_of v shape.strategy run) → AllByRecursion (HasTellable v) (log_sections shape run)
few_record v shape run h =
    let P : List LogSection → Type 0 = λ x. AllByRecursion (HasTellable v) x in
    let Q : List Filled → Type 0 = λ x. AllByRecursion (IsFew v shape) x in
    let body = subst Q (body_is_core run) (all_back (IsFew v shape) (title_parts v shape.strategy) (body_parts run) h) in
    subst P (core_shown shape run) (few_tellable v shape (core_parts run) (all_front (IsFew v shape) (core_parts run) (end_part ∷ []) body))

-- the parts of a log that is a text have fewer lines than that has bytes
pub whole_few : (v : Version) (script : ScriptData) (run : RunData) (text : List ℕ) → length text < 2 ^ 64 → text ≡ log_text v script.shape run → AllByRecursion (IsFew v script.shape) (parts_of v script.shape.strategy run)
whole_few v script run text short e =
    let parts = parts_of v script.shape.strategy run in
    let same : length (lines_text (all_lines v script.shape parts)) ≡ length text = ap length (parts_spell v script.shape run ∙ sym e) in
    text_few v script.shape parts (length text) (omega (arith, same)) short

pub log_plain : (v : Version) (script : ScriptData) (run : RunData) → ArePlainHeads v script → IsLogged script run → AllByRecursion (IsFew v script.shape) (parts_of v script.shape.strategy run) → ArePlain (log_lines v script.shape run)
log_plain v script run plain logged few =
    let parts = parts_of v script.shape.strategy run in
    let P : List Section → Type 0 = λ x. AllByRecursion HasPlainHead x in
    let Q : List (List ℕ) → Type 0 = λ x. ArePlain x in
    subst Q (parts_lines v script.shape run) (parts_are_plain v script parts (parts_fit v script run logged) few (subst P (sym (parts_named v script run logged)) plain))

-- ---- all sections were read, and nothing is left

-- a script of version 1 has neither groups nor watches
abbrev pub IsUnlisted : ScriptData → Type 0
IsUnlisted script = script.version ≡ One → (script.groups ≡ []) × (script.watches ≡ [])

lists_none : (script : ScriptData) → has_lists script ≡ false → (script.groups ≡ []) × (script.watches ≡ [])
lists_none script h =
    let p = or_parts (not (length script.groups == 0)) (not (length script.watches == 0)) h in
    (nil_from_length script.groups (none (length script.groups) p.0), nil_from_length script.watches (none (length script.watches) p.1))
  where
    held : (b : Bool) → not b ≡ false → b ≡ true
    held true e = refl
    held false e = let bad : true ≡ false = e in absurd cc

    none : (n : ℕ) → not (n == 0) ≡ false → n ≡ 0
    none n e = eqb-true n 0 (held (n == 0) e)

pub known_version : (script : ScriptData) (text : List ℕ) → IsUnlisted script → HasLog script (version_by script.version (has_lists script) text)
known_version script text unlisted = by script.version refl
  where
    chosen : (begins lists : Bool) → script.version ≡ Two → has_lists script ≡ lists → HasLog script (cond (begins || lists) Two One)
    chosen true lists e h = e
    chosen false true e h = e
    chosen false false e h = lists_none script h

    by : (u : Version) → script.version ≡ u → HasLog script (version_by script.version (has_lists script) text)
    by One e = let P : Version → Type 0 = λ x. HasLog script (version_by x (has_lists script) text) in subst P (sym e) (unlisted e)
    by Two e = let P : Version → Type 0 = λ x. HasLog script (version_by x (has_lists script) text) in subst P (sym e) (chosen (begins_with (codes "mama log 2") (cut_at 10 text)) (has_lists script) e refl)

pub found_whole : (v : Version) (script : ScriptData) (text : List ℕ) (run : RunData) → IsReadOf v script (sections v script) text run [] → IsLogged script run × (text ≡ log_text v script.shape run)
found_whole v script text run r =
    let w = sections_make_record v script r.parts r.named (fit_of script r.parts r.fits) in
    let same : run ≡ w.run = r.made ∙ ap (run_after nothing) w.is ∙ parts_make v script.shape.strategy w.run in
    let spelled : text ≡ log_text v script.shape w.run =
    r.taken ∙ append-nil (lines_text (all_lines v script.shape r.parts)) ∙ ap (λ (fs : List Filled). lines_text (all_lines v script.shape fs)) w.is ∙ parts_spell v script.shape w.run in
    let P : RunData → Type 0 = λ x. IsLogged script x × (text ≡ log_text v script.shape x) in
    subst P (sym same) (w.logged, spelled)

no_lines : (ls : List (List ℕ)) → lines_text ls ≡ [] → ls ≡ []
no_lines [] e = refl
no_lines (l ∷ ls) e = absurd (no_feed l (sym (sym (first_line l ls []) ∙ append-nil (lines_text (l ∷ ls)) ∙ e)))
  where
    no_feed : (l : List ℕ) → [] ≡ l ++ 10 ∷ (lines_text ls ++ []) → ⊥
    no_feed [] e = cc
    no_feed (b ∷ l) e = cc

-- any record with this log in this version is the one that was read
pub again_whole : (v : Version) (script : ScriptData) (text : List ℕ) (run other : RunData) → length text < 2 ^ 64 → ArePlainHeads v script → IsReadOf v script (sections v script) text run [] → IsLogged script other → text ≡ log_text v script.shape other → run ≡ other
again_whole v script text run other short plain r h e =
    let shape = script.shape in
    let fs = r.parts in
    let ws = parts_of v shape.strategy other in
    let P : List Section → Type 0 = λ x. AllByRecursion HasPlainHead x in
    let fits = fit_of script fs r.fits in
    let few = few_of v shape fs r.few in
    let other_few = whole_few v script other text short e in
    let plain_fs = parts_are_plain v script fs fits few (subst P (sym r.named) plain) in
    let texts : lines_text (log_lines v shape other) ≡ lines_text (all_lines v shape fs) ++ [] = sym e ∙ r.taken in
    let more = lines_begin (log_lines v shape other) (all_lines v shape fs) [] (log_plain v script other plain h other_few) plain_fs texts in
    let lines : log_lines v shape other ≡ all_lines v shape fs = more.1 ∙ ap (λ (ls : List (List ℕ)). all_lines v shape fs ++ ls) (no_lines more.0 more.2) ∙ append-nil (all_lines v shape fs) in
    let names : named (filled (with_counts v shape fs)) ≡ named (filled (with_counts v shape ws)) =
    ap named (counts_filled v shape fs) ∙ r.named ∙ sym (parts_named v script other h) ∙ ap named (sym (counts_filled v shape ws)) in
    let headed : headed_lines shape (with_counts v shape fs) ≡ headed_lines shape (with_counts v shape ws) = counts_lines v shape fs ∙ sym lines ∙ sym (parts_lines v shape other) ∙ sym (counts_lines v shape ws) in
    let same = same_parts v (names_of script) (objects_of script) (with_counts v shape fs) (with_counts v shape ws) (counts_fit v script fs fits) (counts_fit v script ws (parts_fit v script other h))
    (counts_begun v shape fs few) (counts_begun v shape ws other_few) names headed in
    let parts : fs ≡ ws = sym (counts_filled v shape fs) ∙ same ∙ counts_filled v shape ws in
    r.made ∙ ap (run_after nothing) parts ∙ parts_make v shape.strategy other

-- ---- a log that goes on with empty sections

blank : Section → Part
blank (s.Title v) = Bare
blank (s.Strategy strategy) = Bare
blank (s.Client n) = Moments []
blank (s.Publisher n) = Sends []
blank s.Bridge = OnBridge []
blank s.Timers = OnTimers []
blank (s.Queue n) = OnQueue []
blank (s.Object o) = Heard (record { object = o; calls = [] })
blank (s.Group n) = Grouped (record { group = n; notes = [] })
blank (s.Watch n) = Watched (record { watch = n; notes = [] })
blank s.Images = Pictures []
blank s.End = Bare

blank_fits : (names : NamesData) (objects : List ObjectId) (section : Section) → Fits names objects section (blank section)
unfolding blank
blank_fits names objects (s.Title v) = tt
blank_fits names objects (s.Strategy strategy) = tt
blank_fits names objects (s.Client n) = All-nil _
blank_fits names objects (s.Publisher n) = All-nil _
blank_fits names objects s.Bridge = All-nil _
blank_fits names objects s.Timers = All-nil _
blank_fits names objects (s.Queue n) = All-nil _
blank_fits names objects (s.Object o) = (refl, All-nil _)
blank_fits names objects (s.Group n) = (refl, All-nil _)
blank_fits names objects (s.Watch n) = (refl, All-nil _)
blank_fits names objects s.Images = (objects, record { each = All-nil _; ordered = refl })
blank_fits names objects s.End = tt

blank_lines : (shape : Shape) (section : Section) → bodies shape (blank section) ≡ []
unfolding blank
blank_lines shape (s.Title v) = refl
blank_lines shape (s.Strategy strategy) = refl
blank_lines shape (s.Client n) = refl
blank_lines shape (s.Publisher n) = refl
blank_lines shape s.Bridge = refl
blank_lines shape s.Timers = refl
blank_lines shape (s.Queue n) = refl
blank_lines shape (s.Object o) = refl
blank_lines shape (s.Group n) = refl
blank_lines shape (s.Watch n) = refl
blank_lines shape s.Images = refl
blank_lines shape s.End = refl

pub blanks : List Section → List Filled
blanks left = map (λ h. (h, blank h)) left

pub blanks_named : (left : List Section) → named (blanks left) ≡ left
unfolding blanks
blanks_named [] = refl
blanks_named (h ∷ left) = ap (λ (x : List Section). h ∷ x) (blanks_named left)

pub blanks_fit : (script : ScriptData) (left : List Section) → FitsScript script (blanks left)
unfolding blanks
blanks_fit script [] = tt
blanks_fit script (h ∷ left) = (blank_fits (names_of script) (objects_of script) h, blanks_fit script left)

pub blanks_few : (v : Version) (shape : Shape) (left : List Section) → AllByRecursion (IsFew v shape) (blanks left)
unfolding blanks
blanks_few v shape [] = tt
blanks_few v shape (h ∷ left) = (let P : List (List ℕ) → Type 0 = λ x. IsTellable v (length x) in subst P (sym (blank_lines shape h)) (tellable v 0 (omega arith)), blanks_few v shape left)

pub fit-append : (script : ScriptData) (fs ws : List Filled) → FitsScript script fs → FitsScript script ws → FitsScript script (fs ++ ws)
fit-append script fs ws h k = all_joined (FitsIn (names_of script) (objects_of script)) fs ws h k

abbrev pub name_of : Filled → Section
name_of f = f.0

pub begins_log : (v : Version) (script : ScriptData) (done left : List Section) (text : List ℕ) (run : RunData) (rest : List ℕ) (r : IsReadOf v script done text run rest) → HasLog script v → done ++ left ≡ sections v script → BeginLog script (all_lines v script.shape r.parts)
begins_log v script done left text run rest r known all =
    let shape = script.shape in
    let fs = r.parts ++ blanks left in
    let fs_named : named fs ≡ sections v script = map-append name_of r.parts (blanks left) ∙ ap (λ (x : List Section). x ++ named (blanks left)) r.named ∙ ap (λ (x : List Section). done ++ x) (blanks_named left) ∙ all in
    let w = sections_make_record v script fs fs_named (fit-append script r.parts (blanks left) (fit_of script r.parts r.fits) (blanks_fit script left)) in
    let Q : List Filled → Type 0 = λ x. AllByRecursion (IsFew v shape) x in
    let few = subst Q w.is (all_joined (IsFew v shape) r.parts (blanks left) (few_of v shape r.parts r.few) (blanks_few v shape left)) in
    record {
      version = v;
      known = known;
      run = w.run;
      logged = w.logged;
      begun = inl (record {
        rest = all_lines v shape (blanks left);
        whole = sym (parts_lines v shape w.run) ∙ ap (all_lines v shape) (sym w.is) ∙ lines-append v shape r.parts (blanks left);
        tellable = few_record v shape w.run few;
      });
    }

-- ---- what a log that begins so has behind it

-- first lines with their parts, which begin with these lines
pub record IsBegunBy (v : Version) (script : ScriptData) (lines : List (List ℕ)) : Type 0 where
  pub ws : List Headed
  pub fits : FitsScript script (filled ws)
  pub begun : AreBegun v ws
  pub name : named (filled ws) ≡ sections v script
  pub more : List (List ℕ)
  pub whole : headed_lines script.shape ws ≡ lines ++ more

-- whole parts, and one that is at hand
record AreParts (v : Version) (script : ScriptData) (lines : List (List ℕ)) : Type 0 where
  front : List Filled
  part : Filled
  left : List Section
  count : ℕ
  fits : FitsScript script front
  fits_part : Fits (names_of script) (objects_of script) part.0 part.1
  few : AllByRecursion (IsFew v script.shape) front
  counted : IsCounted part
  small : IsTellable v count
  enough : length (bodies script.shape part.1) ≤ count
  name : named front ++ part.0 ∷ left ≡ sections v script
  are : lines ≡ all_lines v script.shape front ++ (first_of v part.0 count ∷ bodies script.shape part.1)

head_told : (v : Version) (f : Filled) (n : ℕ) → IsCounted f → first_of v f.0 n ≡ head_of f.0 ++ told v n
head_told One f n h = sym (append-nil (head_of f.0))
head_told Two f n h = ap (λ (b : Bool). cond b (head_of f.0 ++ told Two n) (head_of f.0)) h

parts_at_hand : (v : Version) (script : ScriptData) (run : RunData) (lines : List (List ℕ)) → IsLogged script run → AreAtHand v script.shape run lines → AreParts v script lines
parts_at_hand v script run lines logged a =
    let shape = script.shape in
    let strategy = shape.strategy in
    let sp = split_shown shape (core_parts run) a.done a.section a.left (core_shown shape run ∙ a.sections) in
    let titles_are = title_parts v strategy in
    let end : List Filled = end_part ∷ [] in
    let front = titles_are ++ sp.before in
    let is : parts_of v strategy run ≡ front ++ sp.at ∷ (sp.behind ++ end) =
    ap (λ (x : List Filled). titles_are ++ x) (body_is_core run ∙ ap (λ (x : List Filled). x ++ end) sp.is) ∙ regroup titles_are sp.before (sp.at ∷ sp.behind) end in
    let F : Filled → Type 0 = FitsIn (names_of script) (objects_of script) in
    let P : List Filled → Type 0 = λ x. AllByRecursion F x in
    let C : List Filled → Type 0 = λ x. AllByRecursion IsCounted x in
    let L : List LogSection → Type 0 = λ x. AllByRecursion (HasTellable v) x in
    let fit = subst P is (parts_fit v script run logged) in
    let fit_back = all_back F front (sp.at ∷ (sp.behind ++ end)) fit in
    let all_counted = subst C sp.is (core_counted run) in
    let counted_front = all_front IsCounted sp.before (sp.at ∷ sp.behind) all_counted in
    let counted_back = all_back IsCounted sp.before (sp.at ∷ sp.behind) all_counted in
    let few = tellable_few v shape sp.before (subst L (sym sp.done_are) a.tellable) in
    let front_lines : all_lines v shape front ≡ title v strategy ++ section_lines v a.done =
    lines-append v shape titles_are sp.before ∙ ap (λ (t : List (List ℕ)). t ++ all_lines v shape sp.before) (title_lines v shape strategy)
    ∙ ap (λ (t : List (List ℕ)). title v strategy ++ t) (counted_core v shape sp.before counted_front ∙ ap (section_lines v) sp.done_are) in
    let first : first_of v sp.at.0 a.count ≡ a.section.head ++ told v a.count = head_told v sp.at a.count counted_back.0 ∙ ap (λ (x : LogSection). x.head ++ told v a.count) sp.at_is in
    let own : bodies shape sp.at.1 ≡ a.section.lines = ap (λ (x : LogSection). x.lines) sp.at_is in
    let own_lines : (a.section.head ++ told v a.count) ∷ a.section.lines ≡ first_of v sp.at.0 a.count ∷ bodies shape sp.at.1 =
    ap (λ (x : List ℕ). x ∷ a.section.lines) (sym first) ∙ ap (λ (x : List (List ℕ)). first_of v sp.at.0 a.count ∷ x) (sym own) in
    record {
      front = front;
      part = sp.at;
      left = named (sp.behind ++ end);
      count = a.count;
      fits = all_front F front (sp.at ∷ (sp.behind ++ end)) fit;
      fits_part = fit_back.0;
      few = all_joined (IsFew v shape) titles_are sp.before (titles_few v strategy shape) few;
      counted = counted_back.0;
      small = a.small;
      enough = let le = a.enough in let same = ap length own in omega (arith, le, same);
      name = sym (map-append name_of front (sp.at ∷ (sp.behind ++ end))) ∙ ap named (sym is) ∙ parts_named v script run logged;
      are =
          a.lines_are ∙ ap (λ (t : List (List ℕ)). title v strategy ++ (section_lines v a.done ++ t)) own_lines
          ∙ sym (append_assoc (title v strategy) (section_lines v a.done) (first_of v sp.at.0 a.count ∷ bodies shape sp.at.1))
          ∙ ap (λ (t : List (List ℕ)). t ++ (first_of v sp.at.0 a.count ∷ bodies shape sp.at.1)) (sym front_lines);
    }
  where
    regroup : (a b c d : List Filled) → a ++ ((b ++ c) ++ d) ≡ (a ++ b) ++ (c ++ d)
    regroup a b c d = simp append_assoc

begun_first : (v : Version) (script : ScriptData) (run : RunData) (lines : List (List ℕ)) → IsLogged script run → AreFirst v script.shape run lines → IsBegunBy v script lines
begun_first v script run lines logged a =
    let shape = script.shape in
    let parts = parts_of v shape.strategy run in
    record {
      ws = with_counts v shape parts;
      fits = counts_fit v script parts (parts_fit v script run logged);
      begun = counts_begun v shape parts (record_few v shape run a.tellable);
      name = ap named (counts_filled v shape parts) ∙ parts_named v script run logged;
      more = a.rest;
      whole = counts_lines v shape parts ∙ parts_lines v shape run ∙ a.whole;
    }

begun_parts : (v : Version) (script : ScriptData) (lines : List (List ℕ)) → AreParts v script lines → IsBegunBy v script lines
begun_parts v script lines a =
    let shape = script.shape in
    let front = with_counts v shape a.front in
    let back = with_counts v shape (blanks a.left) in
    let first = first_of v a.part.0 a.count in
    let mid : Headed = (first, a.part) in
    let seen : Headed → Filled = λ x. x.1 in
    let filled_are : filled (front ++ mid ∷ back) ≡ a.front ++ a.part ∷ blanks a.left =
    map-append seen front (mid ∷ back) ∙ ap (λ (x : List Filled). x ++ a.part ∷ filled back) (counts_filled v shape a.front) ∙ ap (λ (x : List Filled). a.front ++ a.part ∷ x) (counts_filled v shape (blanks a.left)) in
    let P : List Filled → Type 0 = λ x. FitsScript script x in
    let B : Headed → Type 0 = λ x. Begins v x.1.0 x.0 in
    let own = first ∷ bodies shape a.part.1 in
    let blank_lines_are = all_lines v shape (blanks a.left) in
    record {
      ws = front ++ mid ∷ back;
      fits = subst P (sym filled_are) (fit-append script a.front (a.part ∷ blanks a.left) a.fits (a.fits_part, blanks_fit script a.left));
      begun = all_joined B front (mid ∷ back) (counts_begun v shape a.front a.few) (begins_first v a.part.0 a.count a.small, counts_begun v shape (blanks a.left) (blanks_few v shape a.left));
      name = ap named filled_are ∙ map-append name_of a.front (a.part ∷ blanks a.left) ∙ ap (λ (x : List Section). named a.front ++ a.part.0 ∷ x) (blanks_named a.left) ∙ a.name;
      more = blank_lines_are;
      whole =
          flat_map-append (own_lines shape) front (mid ∷ back)
          ∙ ap (λ (x : List (List ℕ)). x ++ (own ++ headed_lines shape back)) (counts_lines v shape a.front)
          ∙ ap (λ (x : List (List ℕ)). all_lines v shape a.front ++ (own ++ x)) (counts_lines v shape (blanks a.left))
          ∙ sym (append_assoc (all_lines v shape a.front) own blank_lines_are)
          ∙ ap (λ (x : List (List ℕ)). x ++ blank_lines_are) (sym a.are);
    }

pub begun_by : (v : Version) (script : ScriptData) (run : RunData) (lines : List (List ℕ)) → IsLogged script run → AreFirst v script.shape run lines ⊎ AreAtHand v script.shape run lines → IsBegunBy v script lines
begun_by v script run lines logged (inl a) = begun_first v script run lines logged a
begun_by v script run lines logged (inr a) = begun_parts v script lines (parts_at_hand v script run lines logged a)

-- and the numbers in it suit
pub begun_tally : (script : ScriptData) (run : RunData) (lines : List (List ℕ)) → IsLogged script run → AreFirst Two script.shape run lines ⊎ AreAtHand Two script.shape run lines → Tally lines
begun_tally script run lines logged (inl a) =
    let shape = script.shape in
    let parts = parts_of Two shape.strategy run in
    let all = tally_parts (names_of script) (objects_of script) parts [] (parts_fit Two script run logged) (record_few Two shape run a.tellable) tt tt in
    let P : List (List ℕ) → Type 0 = λ x. Tally x in
    tally_front lines a.rest (subst P (append-nil (all_lines Two shape parts) ∙ parts_lines Two shape run ∙ a.whole) all)
begun_tally script run lines logged (inr h) =
    let a = parts_at_hand Two script run lines logged h in
    let first = first_of Two a.part.0 a.count in
    let P : List (List ℕ) → Type 0 = λ x. Tally x in
    let tells : IsTold Two a.part.0 (t.Lines a.count) first = (a.counted, a.small, head_told Two a.part a.count a.counted) in
    subst P (sym a.are) (
    tally_parts (names_of script) (objects_of script) a.front (first ∷ bodies script.shape a.part.1) a.fits a.few (begins_head Two a.part.0 first (t.Lines a.count, tells))
    (tally_at_hand (names_of script) (objects_of script) a.part a.count first a.fits_part a.enough tells))
