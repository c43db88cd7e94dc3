-- The parts of a record whose lines are counted, and the sections of its log.
use Rattle.std.proofs.Common.{◌≡◌, ℕ, suc, ◌+◌, ◌^◌, ◌<◌, ◌≤◌, true, List, [], ◌∷◌, ◌++◌, length, map, refl, sym, ap, ◌∙◌, append_assoc, arith, length-append}
use Rattle.std.specs.List.{AllByRecursion}
use Rattle.std.proofs.lemmas.List.{map-append}
use Rattle.mama_event.specs.declared.shape.Shape.{Shape}
use Rattle.mama_event.specs.declared.shape.Strategy.{Strategy}
use Rattle.mama_words.specs.declared.version.Version.{Version}
use Rattle.mama_words.specs.declared.version.Version.TheVariants.{One, Two}
use Rattle.mama_record.specs.RunData.{GroupNotes, WatchNotes, RunData, ObjectCalls}
use Rattle.mama_record.specs.LogText.{LogSection, lines_text, numbered, client_section, publisher_section, bridge_section, timers_section, queue_section, object_section, group_section, watch_section, images_section, log_sections, counted}
use Rattle.mama_log_read.specs.Unfit.{IsTellable, HasTellable}
use Rattle.mama_log_read.specs.Section.{has_count}
use Rattle.mama_log_read.specs.Part.{Part, Bare, Moments, Sends, OnBridge, OnTimers, OnQueue, Pictures, Filled, bodies, lines_of, all_lines}
use Rattle.mama_log_read.specs.Reading.{IsFew}
use Rattle.mama_log_read.specs.declared.section.Section.{Section}
use Rattle.mama_log_read.specs.declared.section.Section.TheVariants as s
use Rattle.mama_log_read.proofs.Lines.{lines_text-append}
use Rattle.mama_log_read.proofs.Whole.{numbered_parts, heard_part, group_part, watch_part, title_parts, body_parts, shown, counted_lines, section_lines}

abbrev pub IsCounted : Filled → Type 0
IsCounted f = has_count Two f.0 ≡ true

-- the parts between the titles and the end
abbrev pub core_parts : RunData → List Filled
core_parts run =
    numbered_parts s.Client Moments 0 run.clients ++ (numbered_parts s.Publisher Sends 0 run.publishers ++ (
    (s.Bridge, OnBridge run.bridge) ∷ (s.Timers, OnTimers run.timers) ∷ (numbered_parts s.Queue OnQueue 0 run.queues ++ (map heard_part run.calls ++ (map group_part run.groups ++ (map watch_part run.watches ++ (s.Images, Pictures run.images) ∷ []))))))

abbrev pub end_part : Filled
end_part = (s.End, Bare)

pub body_is_core : (run : RunData) → body_parts run ≡ core_parts run ++ end_part ∷ []
body_is_core run =
    let a = numbered_parts s.Client Moments 0 run.clients in
    let b = numbered_parts s.Publisher Sends 0 run.publishers in
    let c = numbered_parts s.Queue OnQueue 0 run.queues in
    let d = map heard_part run.calls in
    let i : List Filled = (s.Images, Pictures run.images) ∷ [] in
    let services : List Filled = (s.Bridge, OnBridge run.bridge) ∷ (s.Timers, OnTimers run.timers) ∷ [] in
    let g = map group_part run.groups in
    let w = map watch_part run.watches in
    regroup a b services c d g w i (end_part ∷ [])
  where
    regroup : (a b x c d g w i e : List Filled) → a ++ (b ++ (x ++ (c ++ (d ++ (g ++ (w ++ (i ++ e))))))) ≡ (a ++ (b ++ (x ++ (c ++ (d ++ (g ++ (w ++ i))))))) ++ e
    regroup a b x c d g w i e = simp append_assoc

-- ---- what holds of each of them

all_append : {A : Type 0} (P : A → Type 0) (xs ys : List A) → AllByRecursion P xs → AllByRecursion P ys → AllByRecursion P (xs ++ ys)
all_append P [] ys h k = k
all_append P (x ∷ xs) ys h k = (h.0, all_append P xs ys h.1 k)

pub all_front : {A : Type 0} (P : A → Type 0) (xs ys : List A) → AllByRecursion P (xs ++ ys) → AllByRecursion P xs
all_front P [] ys h = tt
all_front P (x ∷ xs) ys h = (h.0, all_front P xs ys h.1)

pub all_back : {A : Type 0} (P : A → Type 0) (xs ys : List A) → AllByRecursion P (xs ++ ys) → AllByRecursion P ys
all_back P [] ys h = h
all_back P (x ∷ xs) ys h = all_back P xs ys h.1

pub all_joined : {A : Type 0} (P : A → Type 0) (xs ys : List A) → AllByRecursion P xs → AllByRecursion P ys → AllByRecursion P (xs ++ ys)
all_joined P xs ys h k = all_append P xs ys h k

numbered_counted : {A : Type 0} (section : ℕ → Section) (wrap : A → Part) → ((n : ℕ) → has_count Two (section n) ≡ true) → (n : ℕ) (xs : List A) → AllByRecursion IsCounted (numbered_parts section wrap n xs)
numbered_counted section wrap has n [] = tt
numbered_counted section wrap has n (x ∷ xs) = (has n, numbered_counted section wrap has (suc n) xs)

heard_counted : (calls : List ObjectCalls) → AllByRecursion IsCounted (map heard_part calls)
heard_counted [] = tt
heard_counted (c ∷ calls) = (refl, heard_counted calls)

group_counted : (groups : List GroupNotes) → AllByRecursion IsCounted (map group_part groups)
group_counted [] = tt
group_counted (g ∷ groups) = (refl, group_counted groups)

watch_counted : (watches : List WatchNotes) → AllByRecursion IsCounted (map watch_part watches)
watch_counted [] = tt
watch_counted (w ∷ watches) = (refl, watch_counted watches)

pub core_counted : (run : RunData) → AllByRecursion IsCounted (core_parts run)
core_counted run =
    let images : List Filled = (s.Images, Pictures run.images) ∷ [] in
    let watches = map watch_part run.watches ++ images in
    let groups = map group_part run.groups ++ watches in
    let objects = map heard_part run.calls ++ groups in
    let queues = numbered_parts s.Queue OnQueue 0 run.queues ++ objects in
    let bridge : List Filled = (s.Bridge, OnBridge run.bridge) ∷ (s.Timers, OnTimers run.timers) ∷ queues in
    let publishers = numbered_parts s.Publisher Sends 0 run.publishers ++ bridge in
    let at_watches = all_append IsCounted (map watch_part run.watches) images (watch_counted run.watches) (refl, tt) in
    let at_groups = all_append IsCounted (map group_part run.groups) watches (group_counted run.groups) at_watches in
    let at_objects = all_append IsCounted (map heard_part run.calls) groups (heard_counted run.calls) at_groups in
    let at_queues = all_append IsCounted (numbered_parts s.Queue OnQueue 0 run.queues) objects (numbered_counted s.Queue OnQueue (λ n. refl) 0 run.queues) at_objects in
    let at_bridge : AllByRecursion IsCounted bridge = (refl, (refl, at_queues)) in
    let at_publishers = all_append IsCounted (numbered_parts s.Publisher Sends 0 run.publishers) bridge (numbered_counted s.Publisher Sends (λ n. refl) 0 run.publishers) at_bridge in
    all_append IsCounted (numbered_parts s.Client Moments 0 run.clients) publishers (numbered_counted s.Client Moments (λ n. refl) 0 run.clients) at_publishers

-- ---- the sections of a log are these parts

numbered_shown : {A : Type 0} (shape : Shape) (section : ℕ → Section) (wrap : A → Part) (own : ℕ → A → LogSection) → ((n : ℕ) (x : A) → shown shape (section n, wrap x) ≡ own n x) → (n : ℕ) (xs : List A) → map (shown shape) (numbered_parts section wrap n xs) ≡ numbered own n xs
numbered_shown shape section wrap own each n [] = refl
numbered_shown shape section wrap own each n (x ∷ xs) =
    ap (λ (t : LogSection). t ∷ map (shown shape) (numbered_parts section wrap (suc n) xs)) (each n x) ∙ ap (λ (t : List LogSection). own n x ∷ t) (numbered_shown shape section wrap own each (suc n) xs)

heard_shown : (shape : Shape) (calls : List ObjectCalls) → map (shown shape) (map heard_part calls) ≡ map object_section calls
heard_shown shape [] = refl
heard_shown shape (c ∷ calls) = ap (λ (t : List LogSection). object_section c ∷ t) (heard_shown shape calls)

groups_shown : (shape : Shape) (groups : List GroupNotes) → map (shown shape) (map group_part groups) ≡ map group_section groups
groups_shown shape [] = refl
groups_shown shape (g ∷ groups) = ap (λ (t : List LogSection). group_section g ∷ t) (groups_shown shape groups)

watches_shown : (shape : Shape) (watches : List WatchNotes) → map (shown shape) (map watch_part watches) ≡ map watch_section watches
watches_shown shape [] = refl
watches_shown shape (w ∷ watches) = ap (λ (t : List LogSection). watch_section w ∷ t) (watches_shown shape watches)

shown_both : (shape : Shape) (fs ws : List Filled) (ss ts : List LogSection) → map (shown shape) fs ≡ ss → map (shown shape) ws ≡ ts → map (shown shape) (fs ++ ws) ≡ ss ++ ts
shown_both shape fs ws ss ts h k = map-append (shown shape) fs ws ∙ ap (λ (t : List LogSection). t ++ map (shown shape) ws) h ∙ ap (λ (t : List LogSection). ss ++ t) k

pub core_shown : (shape : Shape) (run : RunData) → map (shown shape) (core_parts run) ≡ log_sections shape run
core_shown shape run =
    let i : List Filled = (s.Images, Pictures run.images) ∷ [] in
    let w = map watch_part run.watches ++ i in
    let g = map group_part run.groups ++ w in
    let d = map heard_part run.calls ++ g in
    let c = numbered_parts s.Queue OnQueue 0 run.queues ++ d in
    let x : List Filled = (s.Bridge, OnBridge run.bridge) ∷ (s.Timers, OnTimers run.timers) ∷ c in
    let b = numbered_parts s.Publisher Sends 0 run.publishers ++ x in
    let watches = map watch_section run.watches ++ images_section run.images ∷ [] in
    let groups = map group_section run.groups ++ watches in
    let objects = map object_section run.calls ++ groups in
    let queues = numbered queue_section 0 run.queues ++ objects in
    let bridge = bridge_section shape run.bridge ∷ timers_section shape run.timers ∷ queues in
    let w_is : map (shown shape) w ≡ watches = shown_both shape (map watch_part run.watches) i (map watch_section run.watches) (images_section run.images ∷ []) (watches_shown shape run.watches) refl in
    let g_is : map (shown shape) g ≡ groups = shown_both shape (map group_part run.groups) w (map group_section run.groups) watches (groups_shown shape run.groups) w_is in
    let d_is : map (shown shape) d ≡ objects = shown_both shape (map heard_part run.calls) g (map object_section run.calls) groups (heard_shown shape run.calls) g_is in
    let c_is : map (shown shape) c ≡ queues = shown_both shape (numbered_parts s.Queue OnQueue 0 run.queues) d (numbered queue_section 0 run.queues) objects (numbered_shown shape s.Queue OnQueue queue_section (λ n y. refl) 0 run.queues) d_is in
    let x_is : map (shown shape) x ≡ bridge = ap (λ (t : List LogSection). bridge_section shape run.bridge ∷ timers_section shape run.timers ∷ t) c_is in
    let b_is = shown_both shape (numbered_parts s.Publisher Sends 0 run.publishers) x (numbered publisher_section 0 run.publishers) bridge (numbered_shown shape s.Publisher Sends publisher_section (λ n y. refl) 0 run.publishers) x_is in
    shown_both shape (numbered_parts s.Client Moments 0 run.clients) b (numbered client_section 0 run.clients) (numbered publisher_section 0 run.publishers ++ bridge) (numbered_shown shape s.Client Moments client_section (λ n y. refl) 0 run.clients) b_is

-- the lines of counted parts are those of their sections
pub counted_core : (v : Version) (shape : Shape) (fs : List Filled) → AllByRecursion IsCounted fs → all_lines v shape fs ≡ section_lines v (map (shown shape) fs)
counted_core v shape [] h = refl
counted_core v shape (f ∷ fs) h =
    ap (λ (t : List (List ℕ)). t ++ all_lines v shape fs) (counted_lines v shape f h.0) ∙ ap (λ (t : List (List ℕ)). counted v (shown shape f) ++ t) (counted_core v shape fs h.1)

-- ---- lines that may be told

pub few_tellable : (v : Version) (shape : Shape) (fs : List Filled) → AllByRecursion (IsFew v shape) fs → AllByRecursion (HasTellable v) (map (shown shape) fs)
few_tellable v shape [] h = tt
few_tellable v shape (f ∷ fs) h = (h.0, few_tellable v shape fs h.1)

pub tellable_few : (v : Version) (shape : Shape) (fs : List Filled) → AllByRecursion (HasTellable v) (map (shown shape) fs) → AllByRecursion (IsFew v shape) fs
tellable_few v shape [] h = tt
tellable_few v shape (f ∷ fs) h = (h.0, tellable_few v shape fs h.1)

pub tellable : (v : Version) (n : ℕ) → n < 2 ^ 64 → IsTellable v n
tellable One n h = tt
tellable Two n h = h

pub titles_few : (v : Version) (strategy : Strategy) (shape : Shape) → AllByRecursion (IsFew v shape) (title_parts v strategy)
titles_few One strategy shape = (tt, tt)
titles_few Two strategy shape = (omega arith, (omega arith, tt))

lines_few : (ls : List (List ℕ)) → length ls ≤ length (lines_text ls)
lines_few [] = omega arith
lines_few (l ∷ ls) = let more = lines_few ls in omega (arith, more, length-append (l ++ 10 ∷ []) (lines_text ls), length-append l (10 ∷ []))

-- a text has more bytes than each part has lines
pub text_few : (v : Version) (shape : Shape) (fs : List Filled) (most : ℕ) → length (lines_text (all_lines v shape fs)) ≤ most → most < 2 ^ 64 → AllByRecursion (IsFew v shape) fs
text_few v shape [] most h k = tt
text_few v shape (f ∷ fs) most h k =
    let own = lines_of v shape f in
    let both : length (lines_text (own ++ all_lines v shape fs)) ≡ length (lines_text own) + length (lines_text (all_lines v shape fs)) = ap length (lines_text-append own (all_lines v shape fs)) ∙ length-append (lines_text own) (lines_text (all_lines v shape fs)) in
    let many = lines_few own in
    (tellable v (length (bodies shape f.1)) (omega (arith, h, k, both, many)), text_few v shape fs most (omega (arith, h, both)) k)

-- ---- a part among others

-- where parts end in one that is none of these, the others are a front of them
pub record IsAmong (cs xs : List Filled) (x : Filled) (ys : List Filled) (e : Filled) : Type 0 where
  pub others : List Filled
  pub is : cs ≡ xs ++ x ∷ others
  pub behind : ys ≡ others ++ e ∷ []

abbrev filled_or : Filled → List Filled → Filled
filled_or d [] = d
filled_or d (x ∷ xs) = x

abbrev filled_tail : List Filled → List Filled
filled_tail [] = []
filled_tail (x ∷ xs) = xs

nothing_behind : (xs : List Filled) (x : Filled) (ys : List Filled) → xs ++ x ∷ ys ≡ [] → ⊥
nothing_behind [] x ys e = cc
nothing_behind (y ∷ xs) x ys e = cc

pub among : (cs xs : List Filled) (x : Filled) (ys : List Filled) (e : Filled) → (x ≡ e → ⊥) → xs ++ x ∷ ys ≡ cs ++ e ∷ [] → IsAmong cs xs x ys e
among [] [] x ys e differ same = absurd (differ (ap (filled_or e) same))
among [] (y ∷ xs) x ys e differ same = absurd (nothing_behind xs x ys (ap filled_tail same))
among (c ∷ cs) [] x ys e differ same = record { others = cs; is = ap (λ (t : Filled). t ∷ cs) (sym (ap (filled_or e) same)); behind = ap filled_tail same }
among (c ∷ cs) (y ∷ xs) x ys e differ same =
    let more = among cs xs x ys e differ (ap filled_tail same) in
    record { others = more.others; is = ap (λ (t : Filled). t ∷ cs) (sym (ap (filled_or e) same)) ∙ ap (λ (t : List Filled). y ∷ t) more.is; behind = more.behind }

-- sections of a log that stand in a row are parts in a row
pub record IsSplit (shape : Shape) (fs : List Filled) (done : List LogSection) (section : LogSection) (left : List LogSection) : Type 0 where
  pub before : List Filled
  pub at : Filled
  pub behind : List Filled
  pub is : fs ≡ before ++ at ∷ behind
  pub done_are : map (shown shape) before ≡ done
  pub at_is : shown shape at ≡ section

abbrev section_or : LogSection → List LogSection → LogSection
section_or d [] = d
section_or d (x ∷ xs) = x

abbrev sections_tail : List LogSection → List LogSection
sections_tail [] = []
sections_tail (x ∷ xs) = xs

pub split_shown : (shape : Shape) (fs : List Filled) (done : List LogSection) (section : LogSection) (left : List LogSection) → map (shown shape) fs ≡ done ++ section ∷ left → IsSplit shape fs done section left
split_shown shape [] [] section left e = absurd cc
split_shown shape [] (d ∷ done) section left e = absurd cc
split_shown shape (f ∷ fs) [] section left e = record { before = []; at = f; behind = fs; is = refl; done_are = refl; at_is = ap (section_or section) e }
split_shown shape (f ∷ fs) (d ∷ done) section left e =
    let more = split_shown shape fs done section left (ap sections_tail e) in
    record {
      before = f ∷ more.before;
      at = more.at;
      behind = more.behind;
      is = ap (λ (t : List Filled). f ∷ t) more.is;
      done_are = ap (λ (t : LogSection). t ∷ map (shown shape) more.before) (ap (section_or section) e) ∙ ap (λ (t : List LogSection). d ∷ t) more.done_are;
      at_is = more.at_is;
    }
