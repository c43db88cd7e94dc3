-- A section that has another number of lines than its first line tells.
use Rattle.std.proofs.Common.{◌≡◌, ℕ, zero, suc, ◌+◌, ◌^◌, ◌<◌, ◌≤◌, true, false, List, [], ◌∷◌, ◌++◌, length, map, take, drop, Some, refl, sym, ap, subst, ◌∙◌, append_assoc, arith, inl, inr}
use Rattle.std.specs.Prelude.{◌⊎◌}
use Rattle.std.specs.List.{AllByRecursion}
use Rattle.std.proofs.lemmas.List.{append-nil, map-append}
use Rattle.std.proofs.lemmas.List.Concat.{flat_map-append}
use Rattle.mama_event.specs.Ports.{queues_of}
use Rattle.mama_event.specs.declared.shape.Strategy.{Strategy}
use Rattle.mama_words.specs.declared.version.Version.{Version}
use Rattle.mama_words.specs.declared.version.Version.TheVariants.{Two}
use Rattle.mama_words.specs.Parting.{cut_at}
use Rattle.mama_words.proofs.Choices.{some_is}
use Rattle.mama_words.proofs.Cutting.{cut_at_again, cut_at_split, decimal_lacks}
use Rattle.mama_script.specs.Script.{ScriptData}
use Rattle.mama_rules_legal.specs.Form.{objects_of}
use Rattle.mama_record.specs.RunData.{RunData}
use Rattle.mama_record.specs.LogText.{lines_text, told, title}
use Rattle.mama_log_line.specs.Names.{names_of}
use Rattle.mama_log_read.specs.Unfit.{BeginLog, IsFirstUnfit}
use Rattle.mama_log_read.specs.Section.{head_of, has_count, titles, numbered_from, sections, HasPlainHead}
use Rattle.mama_log_read.specs.Part.{Part, Bare, Filled, Fits, bodies, all_lines}
use Rattle.mama_log_read.specs.Logged.{HasLog}
use Rattle.mama_log_read.specs.Reading.{Begins, IsFew, GoesOn, last_part, IsMiscounted, version_by, has_lists}
use Rattle.mama_log_read.specs.declared.section.Section.{Section}
use Rattle.mama_log_read.specs.declared.section.Section.TheVariants as s
use Rattle.mama_log_read.specs.declared.section.Told.TheVariants as t
use Rattle.mama_log_read.proofs.Lines.{IsPlain, ArePlain, lines_text-append, plain-append, first_line}
use Rattle.mama_log_read.proofs.Sections.{plain_join}
use Rattle.mama_log_read.proofs.NoHead.{is_head, begins_head}
use Rattle.mama_log_read.proofs.Parts.{IsNoHead, part_plain, part_no_head}
use Rattle.mama_log_read.proofs.Whole.{named, title_parts, parts_of, lines-append, shown, section_lines}
use Rattle.mama_log_read.proofs.Record.{sections_make_record}
use Rattle.mama_log_read.proofs.Following.{Headed, own_lines, headed_lines, filled, BeginsFirst}
use Rattle.mama_log_read.proofs.Tallies.{Tally, Suits, tally_at, suits_end, suits_more}
use Rattle.mama_log_read.proofs.Shortened.{shortened, within_or, take_and_drop}
use Rattle.mama_log_read.proofs.Cores.{IsCounted, core_parts, end_part, body_is_core, core_counted, core_shown, counted_core, all_front, all_back, all_joined, few_tellable, among}
use Rattle.mama_log_read.proofs.Begun.{ArePlainHeads, FitsScript, fit_of, few_of, with_counts, counts_lines, counts_filled, counts_begun, blanks, blanks_named, blanks_fit, fit-append, name_of, IsBegunBy, begun_by, begun_tally}
use Rattle.mama_log_read.proofs.Unfitting.{ReadHere, next_follows, next_begun, unfit_at, read_plain}

length_take : {A : Type 0} (k : ℕ) (xs : List A) → length (take k xs) ≤ k
length_take zero xs = omega arith
length_take (suc k) [] = omega arith
length_take (suc k) (x ∷ xs) = let more = length_take k xs in omega (arith, more)

take_is : {A : Type 0} (k : ℕ) (xs : List A) → k ≤ length xs → length (take k xs) ≡ k
take_is zero xs h = refl
take_is (suc k) [] h = absurd (omega (arith, h))
take_is (suc k) (x ∷ xs) h = ap suc (take_is k xs (omega (arith, h)))

take_whole : {A : Type 0} (k : ℕ) (xs : List A) → length xs ≤ k → take k xs ≡ xs
take_whole zero [] h = refl
take_whole (suc k) [] h = refl
take_whole zero (x ∷ xs) h = absurd (omega (arith, h))
take_whole {A} (suc k) (x ∷ xs) h = ap (λ (t : List A). x ∷ t) (take_whole k xs (omega (arith, h)))

drop_whole : {A : Type 0} (k : ℕ) (xs : List A) → length xs ≤ k → drop k xs ≡ []
drop_whole zero [] h = refl
drop_whole (suc k) [] h = refl
drop_whole zero (x ∷ xs) h = absurd (omega (arith, h))
drop_whole (suc k) (x ∷ xs) h = drop_whole k xs (omega (arith, h))

all_of_drop : {A : Type 0} (P : A → Type 0) (k : ℕ) (xs : List A) → AllByRecursion P xs → AllByRecursion P (drop k xs)
all_of_drop P zero xs h = h
all_of_drop P (suc k) [] h = tt
all_of_drop P (suc k) (x ∷ xs) h = all_of_drop P k xs h.1

all_of_take : {A : Type 0} (P : A → Type 0) (k : ℕ) (xs : List A) → AllByRecursion P xs → AllByRecursion P (take k xs)
all_of_take P zero xs h = tt
all_of_take P (suc k) [] h = tt
all_of_take P (suc k) (x ∷ xs) h = (h.0, all_of_take P k xs h.1)

drop_some : {A : Type 0} (k : ℕ) (xs : List A) → k < length xs → drop k xs ≡ [] → ⊥
drop_some zero [] h e = omega (arith, h)
drop_some zero (x ∷ xs) h e = cc
drop_some (suc k) [] h e = omega (arith, h)
drop_some (suc k) (x ∷ xs) h e = drop_some k xs (omega (arith, h)) e

-- the last of the sections is the end
abbrev section_or : Section → List Section → Section
section_or d [] = d
section_or d (x ∷ xs) = x

abbrev sections_tail : List Section → List Section
sections_tail [] = []
sections_tail (x ∷ xs) = xs

no_sections : (xs : List Section) (x : Section) → xs ++ x ∷ [] ≡ [] → ⊥
no_sections [] x e = cc
no_sections (y ∷ xs) x e = cc

last_is : (xs ys : List Section) (x y : Section) → xs ++ x ∷ [] ≡ ys ++ y ∷ [] → x ≡ y
last_is [] [] x y e = ap (section_or x) e
last_is [] (b ∷ ys) x y e = absurd (no_sections ys y (sym (ap sections_tail e)))
last_is (a ∷ xs) [] x y e = absurd (no_sections xs x (ap sections_tail e))
last_is (a ∷ xs) (b ∷ ys) x y e = last_is xs ys x y (ap sections_tail e)

sections_end : (v : Version) (script : ScriptData) → (front : List Section) × (sections v script ≡ front ++ s.End ∷ [])
sections_end v script =
    let a = titles v script.shape.strategy in
    let b = numbered_from s.Client 0 (length script.clients) in
    let c = numbered_from s.Publisher 0 (length script.publishers) in
    let d : List Section = s.Bridge ∷ s.Timers ∷ [] in
    let e = numbered_from s.Queue 0 (queues_of script.shape) in
    let f = map s.Object (objects_of script) in
    let m = numbered_from s.Group 0 (length script.groups) in
    let w = numbered_from s.Watch 0 (length script.watches) in
    let g : List Section = s.Images ∷ [] in
    (a ++ (b ++ (c ++ (d ++ (e ++ (f ++ (m ++ (w ++ g))))))), regroup a b c d e f m w g (s.End ∷ []))
  where
    regroup : (a b c d e f m w g h : List Section) → a ++ (b ++ (c ++ (d ++ (e ++ (f ++ (m ++ (w ++ (g ++ h)))))))) ≡ (a ++ (b ++ (c ++ (d ++ (e ++ (f ++ (m ++ (w ++ g)))))))) ++ h
    regroup a b c d e f m w g h = simp append_assoc

not_last : (v : Version) (script : ScriptData) (done left : List Section) (section : Section) → has_count Two section ≡ true → done ++ section ∷ left ≡ sections v script → left ≡ [] → ⊥
not_last v script done left section h all none =
    let at_end = sections_end v script in
    let same : done ++ section ∷ [] ≡ at_end.0 ++ s.End ∷ [] = ap (λ (x : List Section). done ++ section ∷ x) (sym none) ∙ all ∙ at_end.1 in
    let is : section ≡ s.End = last_is done at_end.0 section s.End same in
    let bad : true ≡ false = sym h ∙ ap (has_count Two) is in
    cc

-- whole parts and a counted one: the titles are among the whole ones
record IsBehindTitles (strategy : Strategy) (parts : List Filled) (x : Filled) (ys : List Filled) (run : RunData) : Type 0 where
  others : List Filled
  behind : List Filled
  parts_are : parts ≡ title_parts Two strategy ++ others
  core_is : core_parts run ≡ others ++ x ∷ behind

abbrev filled_or : Filled → List Filled → Filled
filled_or d [] = d
filled_or d (x ∷ xs) = x

abbrev filled_tail : List Filled → List Filled
filled_tail [] = []
filled_tail (x ∷ xs) = xs

counted_not : (x : Filled) (section : Section) → IsCounted x → has_count Two section ≡ false → x.0 ≡ section → ⊥
counted_not x section h k e = let bad : true ≡ false = sym h ∙ ap (has_count Two) e ∙ k in cc

behind_titles : (strategy : Strategy) (parts : List Filled) (x : Filled) (ys : List Filled) (run : RunData) → IsCounted x → parts ++ x ∷ ys ≡ parts_of Two strategy run → IsBehindTitles strategy parts x ys run
behind_titles strategy [] x ys run h e = absurd (counted_not x (s.Title Two) h refl (ap (λ (t : List Filled). (filled_or x t).0) e))
behind_titles strategy (p ∷ []) x ys run h e = absurd (counted_not x (s.Strategy strategy) h refl (ap (λ (t : List Filled). (filled_or x (filled_tail t)).0) e))
behind_titles strategy (p ∷ q ∷ us) x ys run h e =
    let body : us ++ x ∷ ys ≡ core_parts run ++ end_part ∷ [] = ap (λ (t : List Filled). filled_tail (filled_tail t)) e ∙ body_is_core run in
    let a = among (core_parts run) us x ys end_part (λ same. counted_not x s.End h refl (ap (λ (f : Filled). f.0) same)) body in
    let first : p ≡ (s.Title Two, Bare) = ap (filled_or p) e in
    let second : q ≡ (s.Strategy strategy, Bare) = ap (λ (t : List Filled). filled_or q (filled_tail t)) e in
    record {
      others = us;
      behind = a.others;
      parts_are = ap (λ (f : Filled). f ∷ q ∷ us) first ∙ ap (λ (f : Filled). let p : Filled = (s.Title Two, Bare) in p ∷ f ∷ us) second;
      core_is = a.is;
    }

last_push : (fs : List Filled) (f : Filled) → last_part (fs ++ f ∷ []) ≡ f.1
last_push [] f = refl
last_push (g ∷ []) f = refl
last_push (g ∷ h ∷ fs) f = last_push (h ∷ fs) f

strictly : (m n : ℕ) → m ≤ n → (m ≡ n → ⊥) → m < n
strictly zero zero le d = absurd (d refl)
strictly zero (suc n) le d = omega arith
strictly (suc m) zero le d = absurd (omega (arith, le))
strictly (suc m) (suc n) le d = let lt = strictly m n (omega (arith, le)) (λ e. d (ap suc e)) in omega (arith, lt)

module _ (script : ScriptData) (text : List ℕ) (number : ℕ) (short : length text < 2 ^ 64) (version : Two ≡ version_by script.version (has_lists script) text) (known : HasLog script Two) (plain : ArePlainHeads Two script)
    (k : IsMiscounted Two (names_of script) (objects_of script) (sections Two script) text number) where
  abbrev bs : List (List ℕ)
  bs = bodies script.shape k.part

  abbrev front : List (List ℕ)
  front = all_lines Two script.shape k.read.parts

  -- the lines so far
  abbrev so_far : List (List ℕ)
  so_far = front ++ k.first ∷ take k.count bs

  first_is_plain : IsPlain k.first
  first_is_plain =
      let S : List Section → Type 0 = λ x. AllByRecursion HasPlainHead x in
      let P : List ℕ → Type 0 = λ x. IsPlain x in
      let heads = all_back HasPlainHead k.done (k.section ∷ k.left) (subst S (sym k.all) plain) in
      subst P (sym k.tells.2) (plain_join (head_of k.section) (told Two k.count) heads.0 (decimal_lacks 10 k.count refl k.tells.1))

  lines_plain : ArePlain bs
  lines_plain = part_plain (names_of script) (objects_of script) k.section k.part k.fits

  no_heads : AllByRecursion IsNoHead bs
  no_heads = part_no_head (names_of script) (objects_of script) k.section k.part k.fits

  taken_so_far : text ≡ lines_text so_far ++ k.rest
  taken_so_far =
      let both : lines_text bs ++ k.after ≡ lines_text (take k.count bs) ++ k.rest =
      ap (λ (x : List (List ℕ)). lines_text x ++ k.after) (sym (take_and_drop k.count bs)) ∙ ap (λ (x : List ℕ). x ++ k.after) (lines_text-append (take k.count bs) (drop k.count bs))
      ∙ append_assoc (lines_text (take k.count bs)) (lines_text (drop k.count bs)) k.after ∙ ap (λ (x : List ℕ). lines_text (take k.count bs) ++ x) (sym k.stopped) in
      let here : k.here ≡ lines_text (k.first ∷ take k.count bs) ++ k.rest = k.taken ∙ ap (λ (x : List ℕ). k.first ++ 10 ∷ x) both ∙ sym (first_line k.first (take k.count bs) k.rest) in
      k.read.taken ∙ ap (λ (x : List ℕ). lines_text front ++ x) here ∙ sym (append_assoc (lines_text front) (lines_text (k.first ∷ take k.count bs)) k.rest)
      ∙ ap (λ (x : List ℕ). x ++ k.rest) (sym (lines_text-append front (k.first ∷ take k.count bs)))

  plain_so_far : ArePlain so_far
  plain_so_far =
      plain-append front (k.first ∷ take k.count bs) (read_plain Two script k.done (k.section ∷ k.left) text k.run k.here plain k.read k.all) (first_is_plain, all_of_take IsPlain k.count bs lines_plain)

  -- a part that has the lines so far
  here : (part : Part) → Fits (names_of script) (objects_of script) k.section part → bodies script.shape part ≡ take k.count bs → ReadHere Two script text k.left k.rest so_far part
  here part fits is =
      let x : Filled = (k.section, part) in
      let mine : Headed = (k.first, x) in
      let seen : Headed → Filled = λ y. y.1 in
      let fs = with_counts Two script.shape k.read.parts in
      let filled_are : filled (fs ++ mine ∷ []) ≡ k.read.parts ++ x ∷ [] = map-append seen fs (mine ∷ []) ∙ ap (λ (t : List Filled). t ++ x ∷ []) (counts_filled Two script.shape k.read.parts) in
      let F : List Filled → Type 0 = λ t. FitsScript script t in
      let B : Headed → Type 0 = λ y. Begins Two y.1.0 y.0 in
      let own = k.first ∷ bodies script.shape part in
      record {
        fs = fs ++ mine ∷ [];
        fits = subst F (sym filled_are) (fit-append script k.read.parts (x ∷ []) (fit_of script k.read.parts k.read.fits) (fits, tt));
        begun = all_joined B fs (mine ∷ []) (counts_begun Two script.shape k.read.parts (few_of Two script.shape k.read.parts k.read.few)) ((t.Lines k.count, k.tells), tt);
        name =
            ap (λ (t : List Filled). named t ++ k.left) filled_are ∙ ap (λ (t : List Section). t ++ k.left) (map-append name_of k.read.parts (x ∷ [])) ∙ append_assoc (named k.read.parts) (k.section ∷ []) k.left
            ∙ ap (λ (t : List Section). t ++ k.section ∷ k.left) k.read.named ∙ k.all;
        are =
            flat_map-append (own_lines script.shape) fs (mine ∷ []) ∙ ap (λ (t : List (List ℕ)). headed_lines script.shape fs ++ t) (append-nil own) ∙ ap (λ (t : List (List ℕ)). t ++ own) (counts_lines Two script.shape k.read.parts)
            ∙ ap (λ (t : List (List ℕ)). front ++ k.first ∷ t) is;
        last = ap last_part filled_are ∙ last_push k.read.parts x;
        plain = plain_so_far;
        taken = taken_so_far;
      }

  fits_so_far : (part : Part) → Fits (names_of script) (objects_of script) k.section part → bodies script.shape part ≡ take k.count bs → BeginLog script so_far
  fits_so_far part fits is =
      let strategy = script.shape.strategy in
      let x : Filled = (k.section, part) in
      let fs = k.read.parts ++ x ∷ blanks k.left in
      let fs_named : named fs ≡ sections Two script =
      map-append name_of k.read.parts (x ∷ blanks k.left) ∙ ap (λ (t : List Section). t ++ k.section ∷ named (blanks k.left)) k.read.named ∙ ap (λ (t : List Section). k.done ++ k.section ∷ t) (blanks_named k.left) ∙ k.all in
      let w = sections_make_record Two script fs fs_named (fit-append script k.read.parts (x ∷ blanks k.left) (fit_of script k.read.parts k.read.fits) (fits, blanks_fit script k.left)) in
      let b = behind_titles strategy k.read.parts x (blanks k.left) w.run k.tells.0 w.is in
      let C : List Filled → Type 0 = λ t. AllByRecursion IsCounted t in
      let Q : List Filled → Type 0 = λ t. AllByRecursion (IsFew Two script.shape) t in
      let counted = all_front IsCounted b.others (x ∷ b.behind) (subst C b.core_is (core_counted w.run)) in
      let few = all_back (IsFew Two script.shape) (title_parts Two strategy) b.others (subst Q b.parts_are (few_of Two script.shape k.read.parts k.read.few)) in
      let done = map (shown script.shape) b.others in
      let front_is : front ≡ title Two strategy ++ section_lines Two done =
      ap (all_lines Two script.shape) b.parts_are ∙ lines-append Two script.shape (title_parts Two strategy) b.others ∙ ap (λ (t : List (List ℕ)). title Two strategy ++ t) (counted_core Two script.shape b.others counted) in
      let few_lines = length_take k.count bs in
      record {
        version = Two;
        known = known;
        run = w.run;
        logged = w.logged;
        begun = inr (record {
          done = done;
          section = shown script.shape x;
          left = map (shown script.shape) b.behind;
          sections = sym (core_shown script.shape w.run) ∙ ap (map (shown script.shape)) b.core_is ∙ map-append (shown script.shape) b.others (x ∷ b.behind);
          tellable = few_tellable Two script.shape b.others few;
          count = k.count;
          enough = let same = ap length is in omega (arith, same, few_lines);
          small = k.tells.1;
          lines_are =
              ap (λ (t : List (List ℕ)). t ++ k.first ∷ take k.count bs) front_is ∙ append_assoc (title Two strategy) (section_lines Two done) (k.first ∷ take k.count bs)
              ∙ ap (λ (t : List ℕ). title Two strategy ++ (section_lines Two done ++ t ∷ take k.count bs)) k.tells.2
              ∙ ap (λ (t : List (List ℕ)). title Two strategy ++ (section_lines Two done ++ (head_of k.section ++ told Two k.count) ∷ t)) (sym is);
        });
      }

  -- a line more than were told is none that begins a section
  too_many : (next after : List ℕ) → cut_at 10 k.rest ≡ Some (next, after) → (ds : List (List ℕ)) → drop k.count bs ≡ ds → (ds ≡ [] → ⊥) → AllByRecursion IsNoHead ds → ArePlain ds → is_head next ≡ true → ⊥
  too_many next after cut [] e some h p head = some refl
  too_many next after cut (d ∷ ds) e some h p head =
      let stop : k.rest ≡ d ++ 10 ∷ (lines_text ds ++ k.after) = k.stopped ∙ ap (λ (x : List (List ℕ)). lines_text x ++ k.after) e ∙ first_line d ds k.after in
      let same : (next, after) ≡ (d, lines_text ds ++ k.after) = some_is (next, after) (d, lines_text ds ++ k.after) (sym cut ∙ ap (cut_at 10) stop ∙ cut_at_again 10 d (lines_text ds ++ k.after) p.0) in
      let bad : false ≡ true = sym h.0 ∙ ap is_head (sym (ap (λ (x : List ℕ × List ℕ). x.0) same)) ∙ head in
      cc

  no_begin : (left : List Section) (next : List ℕ) → BeginsFirst Two left next → is_head next ≡ false → ⊥
  no_begin [] next h no_head = h
  no_begin (x ∷ left) next h no_head = let bad : false ≡ true = sym no_head ∙ begins_head Two x next h in cc

  -- before all lines that were told no section begins
  too_few : (next after : List ℕ) → k.rest ≡ next ++ 10 ∷ after → length bs < k.count → Suits k.count (take k.count bs ++ next ∷ []) → IsBegunBy Two script (so_far ++ next ∷ []) → ⊥
  too_few next after at fewer suits b =
      let long : length bs ≤ k.count = omega (arith, fewer) in
      let all : take k.count bs ≡ bs = take_whole k.count bs long in
      let stop : k.rest ≡ k.after = k.stopped ∙ ap (λ (x : List (List ℕ)). lines_text x ++ k.after) (drop_whole k.count bs long) in
      let S : List (List ℕ) → Type 0 = λ x. Suits k.count (x ++ next ∷ []) in
      let no_head = suits_more k.count bs next fewer (subst S all suits) in
      by (next_follows Two script text k.left k.rest so_far k.part (here k.part k.fits (sym all)) next b) no_head (sym stop ∙ at)
    where
      by : GoesOn (names_of script) (objects_of script) k.part next ⊎ BeginsFirst Two k.left next → is_head next ≡ false → k.after ≡ next ++ 10 ∷ after → ⊥
      by (inl h) no_head stop = k.stops next after stop h
      by (inr h) no_head stop = no_begin k.left next h no_head

  not_next : (next after : List ℕ) → cut_at 10 k.rest ≡ Some (next, after) → BeginLog script (so_far ++ next ∷ []) → ⊥
  not_next next after cut log =
      let at : k.rest ≡ next ++ 10 ∷ after = cut_at_split 10 k.rest (next, after) cut in
      let begun = next_begun Two script text so_far k.rest next after version taken_so_far at log in
      let tally = begun_tally script log.run (so_far ++ next ∷ []) log.logged begun in
      let P : List (List ℕ) → Type 0 = λ x. Tally x in
      let suits = tally_at front k.first (take k.count bs ++ next ∷ []) (subst P (append_assoc front (k.first ∷ take k.count bs) (next ∷ [])) tally) k.section k.count k.tells in
      by at suits (begun_by Two script log.run (so_far ++ next ∷ []) log.logged begun) (within_or k.count bs)
    where
      by : k.rest ≡ next ++ 10 ∷ after → Suits k.count (take k.count bs ++ next ∷ []) → IsBegunBy Two script (so_far ++ next ∷ []) → (k.count ≤ length bs) ⊎ ((r : ℕ) × (k.count ≡ length bs + r)) → ⊥
      by at suits b (inl within) =
          let fewer : k.count < length bs = strictly k.count (length bs) within k.differs in
          let S : ℕ → Type 0 = λ n. Suits n (take k.count bs ++ next ∷ []) in
          let head = suits_end (take k.count bs) next (subst S (sym (take_is k.count bs within)) suits) in
          too_many next after cut (drop k.count bs) refl (drop_some k.count bs fewer) (all_of_drop IsNoHead k.count bs no_heads) (all_of_drop IsPlain k.count bs lines_plain) head
      by at suits b (inr past) =
          let e = past.1 in
          let d = k.differs in
          too_few next after at (strictly (length bs) k.count (omega (arith, e)) (λ same. d (sym same))) suits b

  pub miscounted_unfit : IsFirstUnfit script text number
  miscounted_unfit =
      let sh = shortened (names_of script) (objects_of script) k.section k.part k.count k.fits in
      unfit_at Two script text k.left k.rest so_far sh.short number short version plain (here sh.short sh.fits sh.is) (λ none end. not_last Two script k.done k.left k.section k.tells.0 k.all end) not_next
      (fits_so_far sh.short sh.fits sh.is) k.counted
