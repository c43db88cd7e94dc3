-- One section more was read.
use Rattle.std.proofs.Common.{◌≡◌, ℕ, zero, suc, ◌+◌, ◌^◌, ◌<◌, ◌≤◌, Bool, true, false, cond, List, [], ◌∷◌, ◌++◌, length, take, drop, get_or, Option, Some, None, refl, sym, ap, subst, ◌∙◌, append_assoc, arith}
use Rattle.std.specs.Prelude.{◌==◌, ◌≢◌, IfNone}
use Rattle.std.specs.List.{All}
use Rattle.std.proofs.lemmas.Bool.{eqb-true}
use Rattle.std.proofs.lemmas.List.{append-nil, map_push, take_more, take_all, drop_more}
use Rattle.std.proofs.lemmas.List.Concat.{flat_map-append}
use Rattle.std.proofs.lemmas.List.Elements.{All-push, All-nil, All-from_recursion}
use Rattle.mama_event.specs.declared.ids.ObjectId.{ObjectId}
use Rattle.mama_record.specs.RunData.{RunData}
use Rattle.mama_log_line.specs.Names.{NamesData}
use Rattle.mama_words.specs.declared.version.Version.{Version}
use Rattle.mama_words.specs.declared.version.Version.TheVariants.{One, Two}
use Rattle.mama_record.specs.LogText.{lines_text, told as told_text}
use Rattle.mama_log_read.specs.Unfit.{IsTellable}
use Rattle.mama_log_read.specs.Section.{head_of, has_count, first_of, HasPlainHead}
use Rattle.mama_log_read.specs.Part.{Part, Bare, Filled, Fits, FitsIn, bodies, lines_of, all_lines, nothing, put}
use Rattle.mama_log_read.specs.Reading.{IsTold, Begins, IsTally, IsFew, IsNumbered, GoesOn, last_part, IsPartRead, AreRead, IsStuck, IsMiscounted}
use Rattle.mama_log_read.specs.declared.section.Section.{Section}
use Rattle.mama_log_read.specs.declared.section.Section.TheVariants as s
use Rattle.mama_log_read.specs.declared.section.Told.{Told}
use Rattle.mama_log_read.specs.declared.section.Told.TheVariants as t
use Rattle.mama_log_read.proofs.Lines.{IsPlain, lines_text-append, first_line}
use Rattle.mama_log_read.proofs.Parts.{part_plain}
use Rattle.mama_log_read.proofs.Whole.{run_push, title_in, strategy_in, end_in}

last_push : (fs : List Filled) (f : Filled) → last_part (fs ++ f ∷ []) ≡ f.1
last_push [] f = refl
last_push (g ∷ []) f = refl
last_push (g ∷ h ∷ fs) f = last_push (h ∷ fs) f

-- ---- what a first line tells, when as many lines were read

bare_few : (names : NamesData) (objects : List ObjectId) (section : Section) (part : Part) → has_count Two section ≡ false → Fits names objects section part → length (bodies names.shape part) < 2 ^ 64
bare_few names objects section part none fits = by section none fits
  where
    bare : part ≡ Bare → length (bodies names.shape part) < 2 ^ 64
    bare e = let z : length (bodies names.shape part) ≡ 0 = ap (λ (x : Part). length (bodies names.shape x)) e in omega (arith, z)

    by : (section : Section) → has_count Two section ≡ false → Fits names objects section part → length (bodies names.shape part) < 2 ^ 64
    by (s.Title v) e fits = bare (title_in names objects v part fits).1
    by (s.Strategy strategy) e fits = bare (strategy_in names objects strategy part fits).1
    by s.End e fits = bare (end_in names objects part fits).1
    by (s.Client n) e fits = absurd cc
    by (s.Publisher n) e fits = absurd cc
    by s.Bridge e fits = absurd cc
    by s.Timers e fits = absurd cc
    by (s.Queue n) e fits = absurd cc
    by (s.Object o) e fits = absurd cc
    by (s.Group n) e fits = absurd cc
    by (s.Watch n) e fits = absurd cc
    by s.Images e fits = absurd cc

pub told_first : (v : Version) (names : NamesData) (objects : List ObjectId) (section : Section) (part : Part) (told : Told) (line : List ℕ) → Fits names objects section part → IsTold v section told line → IsTally told (length (bodies names.shape part))
    → (line ≡ first_of v section (length (bodies names.shape part))) × IsTellable v (length (bodies names.shape part))
told_first One names objects section part t.Nothing line fits tells tally = (tells.1, tt)
told_first One names objects section part (t.Lines count) line fits tells tally = absurd (let bad : false ≡ true = tells.0 in cc)
told_first Two names objects section part t.Nothing line fits tells tally =
    let n = length (bodies names.shape part) in
    (tells.1 ∙ sym (ap (λ (b : Bool). cond b (head_of section ++ told_text Two n) (head_of section)) tells.0), bare_few names objects section part tells.0 fits)
told_first Two names objects section part (t.Lines count) line fits tells tally =
    let n = length (bodies names.shape part) in (
      tells.2 ∙ ap (λ (k : ℕ). head_of section ++ told_text Two k) tally ∙ sym (ap (λ (b : Bool). cond b (head_of section ++ told_text Two n) (head_of section)) tells.0),
      omega (arith, tells.1, tally),
    )

-- ---- one section more

pub nothing_read : (v : Version) (names : NamesData) (objects : List ObjectId) (text : List ℕ) → AreRead v names objects [] text nothing text
nothing_read v names objects text = record { parts = []; named = refl; fits = All-nil (FitsIn names objects); few = All-nil (IsFew v names.shape); made = refl; taken = refl; stops = λ l more e g. g }

section_read : (v : Version) (names : NamesData) (objects : List ObjectId) (done : List Section) (section : Section) (text : List ℕ) (run new : RunData) (rest entries after line : List ℕ) (told : Told) → AreRead v names objects done text run rest → IsTold v section told line
    → rest ≡ line ++ 10 ∷ entries → (p : IsPartRead names objects section entries run new after) → IsTally told (length (bodies names.shape p.part)) → AreRead v names objects (done ++ section ∷ []) text new after
section_read v names objects done section text run new rest entries after line told r tells head p tally =
    let name : Filled → Section = λ f. f.0 in
    let f : Filled = (section, p.part) in
    let n = length (bodies names.shape p.part) in
    let first = told_first v names objects section p.part told line p.fits tells tally in
    let before = all_lines v names.shape r.parts in
    let own = lines_of v names.shape f in
    let lines : all_lines v names.shape (r.parts ++ f ∷ []) ≡ before ++ own = flat_map-append (lines_of v names.shape) r.parts (f ∷ []) ∙ ap (λ (ls : List (List ℕ)). before ++ ls) (append-nil own) in
    let P : Part → Type 0 = λ x. (l more : List ℕ) → after ≡ l ++ 10 ∷ more → GoesOn names objects x l → ⊥ in
    record {
      parts = r.parts ++ f ∷ [];
      named = map_push name r.parts f ∙ ap (λ (x : List Section). x ++ section ∷ []) r.named;
      fits = All-push (FitsIn names objects) r.parts f r.fits p.fits;
      few = All-push (IsFew v names.shape) r.parts f r.few first.1;
      made = p.put ∙ ap (put p.part) r.made ∙ sym (run_push nothing r.parts f);
      taken =
          r.taken
          ∙ ap (λ (t : List ℕ). lines_text before ++ t) (head ∙ ap (λ (l : List ℕ). l ++ 10 ∷ entries) first.0 ∙ ap (λ (t : List ℕ). first_of v section n ++ 10 ∷ t) p.taken ∙ sym (first_line (first_of v section n) (bodies names.shape p.part) after))
          ∙ sym (append_assoc (lines_text before) (lines_text own) after)
          ∙ ap (λ (t : List ℕ). t ++ after) (sym (lines_text-append before own) ∙ sym (ap lines_text lines));
      stops = subst P (sym (last_push r.parts f)) p.stops;
    }

-- what is known of lines that were read, of those of a part
pub part_tally : (names : NamesData) (objects : List ObjectId) (section : Section) (entries : List ℕ) (run new : RunData) (after : List ℕ) (P : List (List ℕ) → Type 0) → ((lines : List (List ℕ)) → All IsPlain lines → entries ≡ lines_text lines ++ after → P lines)
    → (p : IsPartRead names objects section entries run new after) → P (bodies names.shape p.part)
part_tally names objects section entries run new after P known p =
    let lines = bodies names.shape p.part in
    known lines (All-from_recursion IsPlain lines (part_plain names objects section p.part p.fits)) p.taken

-- no other number was found
pub tally_known : {X : Type 0} (told : Told) (entries after : List ℕ) (r : Option X) → ((x : X) → r ≡ Some x → ⊥) → IfNone r ((lines : List (List ℕ)) → All IsPlain lines → entries ≡ lines_text lines ++ after → IsTally told (length lines))
    → (lines : List (List ℕ)) → All IsPlain lines → entries ≡ lines_text lines ++ after → IsTally told (length lines)
tally_known told entries after None none known = known
tally_known told entries after (Some x) none known = absurd (none x refl)

pub next_read : (v : Version) (names : NamesData) (objects : List ObjectId) (sections : List Section) (i : ℕ) (d : Section) (text : List ℕ) (run new : RunData) (rest entries after : List ℕ) (told : Told) → i < length sections
    → AreRead v names objects (take i sections) text run rest → (line : List ℕ) × IsTold v (get_or sections i d) told line × (rest ≡ line ++ 10 ∷ entries) → IsPartRead names objects (get_or sections i d) entries run new after
    → ((lines : List (List ℕ)) → All IsPlain lines → entries ≡ lines_text lines ++ after → IsTally told (length lines)) → AreRead v names objects (take (i + 1) sections) text new after
next_read v names objects sections i d text run new rest entries after told lt r head p tally =
    let P : List Section → Type 0 = λ x. AreRead v names objects x text new after in
    let section = get_or sections i d in
    let T : List (List ℕ) → Type 0 = λ lines. IsTally told (length lines) in
    subst P (sym (take_more sections i d lt)) (
    section_read v names objects (take i sections) section text run new rest entries after head.0 told r head.1 head.2 p (part_tally names objects section entries run new after T tally p))

-- all sections were read, and nothing is left
pub all_read : (v : Version) (names : NamesData) (objects : List ObjectId) (sections : List Section) (i : ℕ) (text : List ℕ) (run : RunData) (rest : List ℕ) → length sections ≤ i → rest ≡ [] → AreRead v names objects (take i sections) text run rest → AreRead v names objects sections text run []
all_read v names objects sections i text run rest all none r =
    let P : List Section → Type 0 = λ x. AreRead v names objects x text run [] in
    let Q : List ℕ → Type 0 = λ x. AreRead v names objects (take i sections) text run x in
    subst P (take_all i sections all) (subst Q none r)

take_drop : (i : ℕ) (xs : List Section) → take i xs ++ drop i xs ≡ xs
take_drop zero xs = refl
take_drop (suc i) [] = refl
take_drop (suc i) (x ∷ xs) = ap (λ (t : List Section). x ∷ t) (take_drop i xs)

first_or : Section → List Section → Section
first_or d [] = d
first_or d (x ∷ xs) = x

first_is : (d x : Section) (xs : List Section) → first_or d (x ∷ xs) ≡ x
unfolding first_or
first_is d x xs = refl

-- the next section does not begin there
pub stuck_head : (v : Version) (names : NamesData) (objects : List ObjectId) (sections : List Section) (i : ℕ) (d : Section) (text : List ℕ) (run : RunData) (rest : List ℕ) (number : ℕ) → i < length sections
    → AreRead v names objects (take i sections) text run rest
    → ((line more : List ℕ) → HasPlainHead (get_or sections i d) → Begins v (get_or sections i d) line → rest ≡ line ++ 10 ∷ more → ⊥) → IsNumbered text rest number → IsStuck v names objects sections text number
stuck_head v names objects sections i d text run rest number lt r none counted =
    let left : drop i sections ≡ get_or sections i d ∷ drop (i + 1) sections = drop_more sections i d lt in
    record {
      done = take i sections;
      left = drop i sections;
      run = run;
      rest = rest;
      read = r;
      all = take_drop i sections;
      no_head = λ next others e plain line more begins at_head. next_is next others (sym left ∙ e) plain line more begins at_head;
      no_end = λ none_left e. none_here (sym left ∙ e);
      counted = counted;
    }
  where
    next_is : (next : Section) (others : List Section) → get_or sections i d ∷ drop (i + 1) sections ≡ next ∷ others → HasPlainHead next → (line more : List ℕ) → Begins v next line → rest ≡ line ++ 10 ∷ more → ⊥
    next_is next others e plain line more begins at_head =
        let same : get_or sections i d ≡ next = sym (first_is d (get_or sections i d) (drop (i + 1) sections)) ∙ ap (first_or d) e ∙ first_is d next others in
        let P : Section → Type 0 = λ x. HasPlainHead x in
        let Q : Section → Type 0 = λ x. Begins v x line in
        none line more (subst P (sym same) plain) (subst Q (sym same) begins) at_head

    none_here : get_or sections i d ∷ drop (i + 1) sections ≡ [] → ⊥
    none_here e = cc

-- more is left behind the last section
pub stuck_end : (v : Version) (names : NamesData) (objects : List ObjectId) (sections : List Section) (i : ℕ) (text : List ℕ) (run : RunData) (rest : List ℕ) (number : ℕ) → length sections ≤ i → (rest ≡ [] → ⊥) → AreRead v names objects (take i sections) text run rest
    → IsNumbered text rest number → IsStuck v names objects sections text number
stuck_end v names objects sections i text run rest number all some r counted = record {
  done = take i sections;
  left = [];
  run = run;
  rest = rest;
  read = r;
  all = append-nil (take i sections) ∙ take_all i sections all;
  no_head = λ next others e plain line more begins at_head. none_next next others e;
  no_end = λ none e. some none;
  counted = counted;
}
  where
    none_next : (next : Section) (others : List Section) → [] ≡ next ∷ others → ⊥
    none_next next others e = cc

-- the next section has another number of lines than was told
pub miscounted_at : (v : Version) (names : NamesData) (objects : List ObjectId) (sections : List Section) (i : ℕ) (d : Section) (text : List ℕ) (run new : RunData) (here entries after rest : List ℕ) (told : Told) (number : ℕ) → i < length sections
    → AreRead v names objects (take i sections) text run here → (line : List ℕ) × IsTold v (get_or sections i d) told line × (here ≡ line ++ 10 ∷ entries) → IsPartRead names objects (get_or sections i d) entries run new after
    → ((lines : List (List ℕ)) → All IsPlain lines → entries ≡ lines_text lines ++ after → (count : ℕ) × (told ≡ t.Lines count) × (count ≢ length lines) × (rest ≡ lines_text (drop count lines) ++ after)) → IsNumbered text rest number
    → IsMiscounted v names objects sections text number
miscounted_at v names objects sections i d text run new here entries after rest told number lt r head p wrong counted =
    let section = get_or sections i d in
    let W : List (List ℕ) → Type 0 = λ lines. (count : ℕ) × (told ≡ t.Lines count) × (count ≢ length lines) × (rest ≡ lines_text (drop count lines) ++ after) in
    let w = part_tally names objects section entries run new after W wrong p in
    let left : drop i sections ≡ section ∷ drop (i + 1) sections = drop_more sections i d lt in
    let T : Told → Type 0 = λ x. IsTold v section x head.0 in
    record {
      done = take i sections;
      section = section;
      left = drop (i + 1) sections;
      run = run;
      here = here;
      read = r;
      all = ap (λ (x : List Section). take i sections ++ x) (sym left) ∙ take_drop i sections;
      first = head.0;
      count = w.0;
      tells = subst T w.1 head.1;
      part = p.part;
      fits = p.fits;
      after = after;
      taken = head.2 ∙ ap (λ (x : List ℕ). head.0 ++ 10 ∷ x) p.taken;
      stops = p.stops;
      differs = w.2;
      rest = rest;
      stopped = w.3;
      counted = counted;
    }

-- ---- whether something is left

pub none_left : (rest : List ℕ) → true ≡ (length rest == 0) → rest ≡ []
none_left [] h = refl
none_left (x ∷ rest) h = let e = eqb-true (length (x ∷ rest)) 0 (sym h) in absurd (omega (arith, e))

differ : false ≡ true → ⊥
differ e = cc

pub some_left : (rest : List ℕ) → false ≡ (length rest == 0) → rest ≡ [] → ⊥
some_left rest h e = differ (h ∙ ap (λ (r : List ℕ). length r == 0) e)
