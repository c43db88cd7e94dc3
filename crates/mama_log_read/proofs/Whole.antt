-- A record is its parts, and the text of the parts is its log.
use Rattle.std.proofs.Common.{◌≡◌, ℕ, zero, suc, true, List, [], ◌∷◌, ◌++◌, length, map, refl, sym, ap, subst, ◌∙◌, ◌+◌, arith, append_assoc}
use Rattle.std.specs.Prelude.{codes}
use Rattle.std.specs.List.{flat_map, All, AllByRecursion}
use Rattle.std.proofs.lemmas.List.{append-nil, map-append}
use Rattle.mama_journal.specs.Journal.{numbers_below}
use Rattle.std.proofs.lemmas.List.Concat.{flat_map-append}
use Rattle.mama_event.specs.declared.ids.ObjectId.{ObjectId}
use Rattle.mama_event.specs.declared.shape.Shape.{Shape}
use Rattle.mama_event.specs.declared.shape.Strategy.{Strategy}
use Rattle.mama_words.specs.declared.version.Version.{Version}
use Rattle.mama_words.specs.declared.version.Version.TheVariants as version
use Rattle.mama_event.specs.declared.to_bridge.BridgeNote.{BridgeNote}
use Rattle.mama_event.specs.declared.to_timers.TimersNote.{TimersNote}
use Rattle.mama_event.specs.declared.to_queue.QueueNote.{QueueNote}
use Rattle.mama_event.specs.declared.publisher_entry.PublisherEntry.{PublisherEntry}
use Rattle.mama_record.specs.RunData.{RunData, ObjectCalls, LastImage, GroupNotes, WatchNotes}
use Rattle.mama_record.specs.LogText.{LogSection, lines_text, client_section, publisher_section, bridge_section, timers_section, queue_section, object_section, group_section, watch_section, images_section, numbered, log_sections, counted, title, log_lines, log_text}
use Rattle.mama_log_line.specs.Names.{NamesData}
use Rattle.mama_log_line.specs.Entering.{MayEnterPublisher, MayEnterBridge, MayEnterTimers, MayEnterQueue}
use Rattle.mama_log_read.specs.Logged.{IsMoment, MayHearAll, MayHearNotes, MayNoteAll}
use Rattle.mama_log_read.specs.Section.{head_of, has_count, titles, numbered_from}
use Rattle.mama_log_read.specs.Part.{Part, Bare, Moments, Sends, OnBridge, OnTimers, OnQueue, Heard, Pictures, Grouped, Watched, Filled, Fits, FitsIn, ArePictures, bodies, lines_of, all_lines, nothing, put, run_after}
use Rattle.mama_log_read.specs.declared.section.Section.{Section}
use Rattle.mama_log_read.specs.declared.section.Section.TheVariants as s

-- ---- the parts of a record

abbrev pub numbered_parts : {A : Type 0} → (ℕ → Section) → (A → Part) → ℕ → List A → List Filled
numbered_parts section wrap n [] = []
numbered_parts section wrap n (x ∷ xs) = (section n, wrap x) ∷ numbered_parts section wrap (suc n) xs

abbrev pub heard_part : ObjectCalls → Filled
heard_part c = (s.Object c.object, Heard c)

abbrev pub group_part : GroupNotes → Filled
group_part g = (s.Group g.group, Grouped g)

abbrev pub watch_part : WatchNotes → Filled
watch_part w = (s.Watch w.watch, Watched w)

abbrev pub last_parts : List LastImage → List Filled
last_parts images = (s.Images, Pictures images) ∷ (s.End, Bare) ∷ []

abbrev pub title_parts : Version → Strategy → List Filled
title_parts version.One strategy = (s.Title version.One, Bare) ∷ []
title_parts version.Two strategy = (s.Title version.Two, Bare) ∷ (s.Strategy strategy, Bare) ∷ []

-- those behind the titles
abbrev pub body_parts : RunData → List Filled
body_parts run =
    numbered_parts s.Client Moments 0 run.clients ++ (numbered_parts s.Publisher Sends 0 run.publishers ++ (
    (s.Bridge, OnBridge run.bridge) ∷ (s.Timers, OnTimers run.timers) ∷ (numbered_parts s.Queue OnQueue 0 run.queues ++ (map heard_part run.calls ++ (map group_part run.groups ++ (map watch_part run.watches ++ last_parts run.images))))))

abbrev pub parts_of : Version → Strategy → RunData → List Filled
parts_of v strategy run = title_parts v strategy ++ body_parts run

-- ---- the lines of the parts

pub lines-append : (v : Version) (shape : Shape) (fs ws : List Filled) → all_lines v shape (fs ++ ws) ≡ all_lines v shape fs ++ all_lines v shape ws
lines-append v shape fs ws = flat_map-append (lines_of v shape) fs ws

-- a section as a log has it
abbrev pub shown : Shape → Filled → LogSection
shown shape f = record { head = head_of f.0; lines = bodies shape f.1 }

-- a section whose lines are counted
pub counted_lines : (v : Version) (shape : Shape) (f : Filled) → has_count version.Two f.0 ≡ true → lines_of v shape f ≡ counted v (shown shape f)
counted_lines version.One shape f h = ap (λ (x : List ℕ). x ∷ bodies shape f.1) (sym (append-nil (head_of f.0)))
counted_lines version.Two shape f h = rw h refl

-- the lines of some sections of a log
abbrev pub section_lines : Version → List LogSection → List (List ℕ)
section_lines v ss = flat_map (counted v) ss

numbered_lines : {A : Type 0} (v : Version) (shape : Shape) (section : ℕ → Section) (wrap : A → Part) (own : ℕ → A → LogSection) → ((n : ℕ) → has_count version.Two (section n) ≡ true) → ((n : ℕ) (x : A) → shown shape (section n, wrap x) ≡ own n x)
    → (n : ℕ) (xs : List A) → all_lines v shape (numbered_parts section wrap n xs) ≡ section_lines v (numbered own n xs)
numbered_lines v shape section wrap own has each n [] = refl
numbered_lines v shape section wrap own has each n (x ∷ xs) =
    ap (λ (t : List (List ℕ)). t ++ all_lines v shape (numbered_parts section wrap (suc n) xs)) (counted_lines v shape (section n, wrap x) (has n) ∙ ap (counted v) (each n x))
    ∙ ap (λ (t : List (List ℕ)). counted v (own n x) ++ t) (numbered_lines v shape section wrap own has each (suc n) xs)

heard_lines : (v : Version) (shape : Shape) (calls : List ObjectCalls) → all_lines v shape (map heard_part calls) ≡ section_lines v (map object_section calls)
heard_lines v shape [] = refl
heard_lines v shape (c ∷ calls) =
    ap (λ (t : List (List ℕ)). t ++ all_lines v shape (map heard_part calls)) (counted_lines v shape (heard_part c) refl)
    ∙ ap (λ (t : List (List ℕ)). counted v (object_section c) ++ t) (heard_lines v shape calls)

group_lines : (v : Version) (shape : Shape) (groups : List GroupNotes) → all_lines v shape (map group_part groups) ≡ section_lines v (map group_section groups)
group_lines v shape [] = refl
group_lines v shape (g ∷ groups) =
    ap (λ (t : List (List ℕ)). t ++ all_lines v shape (map group_part groups)) (counted_lines v shape (group_part g) refl)
    ∙ ap (λ (t : List (List ℕ)). counted v (group_section g) ++ t) (group_lines v shape groups)

watch_lines : (v : Version) (shape : Shape) (watches : List WatchNotes) → all_lines v shape (map watch_part watches) ≡ section_lines v (map watch_section watches)
watch_lines v shape [] = refl
watch_lines v shape (w ∷ watches) =
    ap (λ (t : List (List ℕ)). t ++ all_lines v shape (map watch_part watches)) (counted_lines v shape (watch_part w) refl)
    ∙ ap (λ (t : List (List ℕ)). counted v (watch_section w) ++ t) (watch_lines v shape watches)

abbrev end : List (List ℕ)
end = codes "end" ∷ []

end_lines : (v : Version) (shape : Shape) → lines_of v shape (s.End, Bare) ≡ end
end_lines version.One shape = refl
end_lines version.Two shape = refl

last_lines : (v : Version) (shape : Shape) (images : List LastImage) → all_lines v shape (last_parts images) ≡ section_lines v (images_section images ∷ []) ++ end
last_lines v shape images =
    let own = lines_of v shape (s.Images, Pictures images) in
    ap (λ (t : List (List ℕ)). own ++ t) (append-nil (lines_of v shape (s.End, Bare)) ∙ end_lines v shape)
    ∙ ap (λ (t : List (List ℕ)). t ++ end) (counted_lines v shape (s.Images, Pictures images) refl ∙ sym (append-nil (counted v (images_section images))))

-- parts in front of others
in_front : (v : Version) (shape : Shape) (fs ws : List Filled) (ss ts : List LogSection) → all_lines v shape fs ≡ section_lines v ss → all_lines v shape ws ≡ section_lines v ts ++ end → all_lines v shape (fs ++ ws) ≡ section_lines v (ss ++ ts) ++ end
in_front v shape fs ws ss ts h k =
    lines-append v shape fs ws ∙ ap (λ (t : List (List ℕ)). t ++ all_lines v shape ws) h ∙ ap (λ (t : List (List ℕ)). section_lines v ss ++ t) k
    ∙ sym (append_assoc (section_lines v ss) (section_lines v ts) end) ∙ ap (λ (t : List (List ℕ)). t ++ end) (sym (flat_map-append (counted v) ss ts))

pub body_lines : (v : Version) (shape : Shape) (run : RunData) → all_lines v shape (body_parts run) ≡ section_lines v (log_sections shape run) ++ end
body_lines v shape run =
    let images = images_section run.images ∷ [] in
    let watches = map watch_section run.watches ++ images in
    let groups = map group_section run.groups ++ watches in
    let objects = map object_section run.calls ++ groups in
    let queues = numbered queue_section 0 run.queues ++ objects in
    let services = bridge_section shape run.bridge ∷ timers_section shape run.timers ∷ [] in
    let bridge = services ++ queues in
    let publishers = numbered publisher_section 0 run.publishers ++ bridge in
    let at_end = last_parts run.images in
    let at_watches = map watch_part run.watches ++ at_end in
    let at_groups = map group_part run.groups ++ at_watches in
    let at_objects = map heard_part run.calls ++ at_groups in
    let at_queues = numbered_parts s.Queue OnQueue 0 run.queues ++ at_objects in
    let service_parts : List Filled = (s.Bridge, OnBridge run.bridge) ∷ (s.Timers, OnTimers run.timers) ∷ [] in
    let at_bridge = service_parts ++ at_queues in
    let at_publishers = numbered_parts s.Publisher Sends 0 run.publishers ++ at_bridge in
    let services_are : all_lines v shape service_parts ≡ section_lines v services =
    ap (λ (t : List (List ℕ)). t ++ (lines_of v shape (s.Timers, OnTimers run.timers) ++ [])) (counted_lines v shape (s.Bridge, OnBridge run.bridge) refl)
    ∙ ap (λ (t : List (List ℕ)). counted v (bridge_section shape run.bridge) ++ (t ++ [])) (counted_lines v shape (s.Timers, OnTimers run.timers) refl) in
    in_front v shape (numbered_parts s.Client Moments 0 run.clients) at_publishers (numbered client_section 0 run.clients) publishers (numbered_lines v shape s.Client Moments client_section (λ n. refl) (λ n x. refl) 0 run.clients)
    (in_front v shape (numbered_parts s.Publisher Sends 0 run.publishers) at_bridge (numbered publisher_section 0 run.publishers) bridge (numbered_lines v shape s.Publisher Sends publisher_section (λ n. refl) (λ n x. refl) 0 run.publishers)
    (in_front v shape service_parts at_queues services queues services_are
    (in_front v shape (numbered_parts s.Queue OnQueue 0 run.queues) at_objects (numbered queue_section 0 run.queues) objects (numbered_lines v shape s.Queue OnQueue queue_section (λ n. refl) (λ n x. refl) 0 run.queues)
    (in_front v shape (map heard_part run.calls) at_groups (map object_section run.calls) groups (heard_lines v shape run.calls)
    (in_front v shape (map group_part run.groups) at_watches (map group_section run.groups) watches (group_lines v shape run.groups)
    (in_front v shape (map watch_part run.watches) at_end (map watch_section run.watches) images (watch_lines v shape run.watches) (last_lines v shape run.images)))))))

pub title_lines : (v : Version) (shape : Shape) (strategy : Strategy) → all_lines v shape (title_parts v strategy) ≡ title v strategy
title_lines version.One shape strategy = refl
title_lines version.Two shape strategy = refl

-- the lines of a record's parts are those of its log
pub parts_lines : (v : Version) (shape : Shape) (run : RunData) → all_lines v shape (parts_of v shape.strategy run) ≡ log_lines v shape run
parts_lines v shape run =
    lines-append v shape (title_parts v shape.strategy) (body_parts run)
    ∙ ap (λ (t : List (List ℕ)). t ++ all_lines v shape (body_parts run)) (title_lines v shape shape.strategy)
    ∙ ap (λ (t : List (List ℕ)). title v shape.strategy ++ t) (body_lines v shape run)

pub parts_spell : (v : Version) (shape : Shape) (run : RunData) → lines_text (all_lines v shape (parts_of v shape.strategy run)) ≡ log_text v shape run
parts_spell v shape run = ap lines_text (parts_lines v shape run)

-- ---- the record of the parts

after_clients : (r : RunData) (n : ℕ) (xs : List (List ℕ)) (fs : List Filled) → run_after r (numbered_parts s.Client Moments n xs ++ fs) ≡ run_after (record r { clients = r.clients ++ xs }) fs
after_clients r n [] fs = ap (λ (c : List (List ℕ)). run_after (record r { clients = c }) fs) (sym (append-nil r.clients))
after_clients r n (x ∷ xs) fs =
    after_clients (record r { clients = r.clients ++ x ∷ [] }) (suc n) xs fs ∙ ap (λ (c : List (List ℕ)). run_after (record r { clients = c }) fs) (append_assoc r.clients (x ∷ []) xs)

after_publishers : (r : RunData) (n : ℕ) (xs : List (List PublisherEntry)) (fs : List Filled) → run_after r (numbered_parts s.Publisher Sends n xs ++ fs) ≡ run_after (record r { publishers = r.publishers ++ xs }) fs
after_publishers r n [] fs = ap (λ (c : List (List PublisherEntry)). run_after (record r { publishers = c }) fs) (sym (append-nil r.publishers))
after_publishers r n (x ∷ xs) fs =
    after_publishers (record r { publishers = r.publishers ++ x ∷ [] }) (suc n) xs fs ∙ ap (λ (c : List (List PublisherEntry)). run_after (record r { publishers = c }) fs) (append_assoc r.publishers (x ∷ []) xs)

after_queues : (r : RunData) (n : ℕ) (xs : List (List (ℕ × QueueNote))) (fs : List Filled) → run_after r (numbered_parts s.Queue OnQueue n xs ++ fs) ≡ run_after (record r { queues = r.queues ++ xs }) fs
after_queues r n [] fs = ap (λ (c : List (List (ℕ × QueueNote))). run_after (record r { queues = c }) fs) (sym (append-nil r.queues))
after_queues r n (x ∷ xs) fs =
    after_queues (record r { queues = r.queues ++ x ∷ [] }) (suc n) xs fs ∙ ap (λ (c : List (List (ℕ × QueueNote))). run_after (record r { queues = c }) fs) (append_assoc r.queues (x ∷ []) xs)

after_calls : (r : RunData) (xs : List ObjectCalls) (fs : List Filled) → run_after r (map heard_part xs ++ fs) ≡ run_after (record r { calls = r.calls ++ xs }) fs
after_calls r [] fs = ap (λ (c : List ObjectCalls). run_after (record r { calls = c }) fs) (sym (append-nil r.calls))
after_calls r (x ∷ xs) fs =
    after_calls (record r { calls = r.calls ++ x ∷ [] }) xs fs ∙ ap (λ (c : List ObjectCalls). run_after (record r { calls = c }) fs) (append_assoc r.calls (x ∷ []) xs)

after_groups : (r : RunData) (xs : List GroupNotes) (fs : List Filled) → run_after r (map group_part xs ++ fs) ≡ run_after (record r { groups = r.groups ++ xs }) fs
after_groups r [] fs = ap (λ (c : List GroupNotes). run_after (record r { groups = c }) fs) (sym (append-nil r.groups))
after_groups r (x ∷ xs) fs =
    after_groups (record r { groups = r.groups ++ x ∷ [] }) xs fs ∙ ap (λ (c : List GroupNotes). run_after (record r { groups = c }) fs) (append_assoc r.groups (x ∷ []) xs)

after_watches : (r : RunData) (xs : List WatchNotes) (fs : List Filled) → run_after r (map watch_part xs ++ fs) ≡ run_after (record r { watches = r.watches ++ xs }) fs
after_watches r [] fs = ap (λ (c : List WatchNotes). run_after (record r { watches = c }) fs) (sym (append-nil r.watches))
after_watches r (x ∷ xs) fs =
    after_watches (record r { watches = r.watches ++ x ∷ [] }) xs fs ∙ ap (λ (c : List WatchNotes). run_after (record r { watches = c }) fs) (append_assoc r.watches (x ∷ []) xs)

body_make : (run : RunData) → run_after nothing (body_parts run) ≡ run
body_make run =
    let at_end = last_parts run.images in
    let at_watches = map watch_part run.watches ++ at_end in
    let at_groups = map group_part run.groups ++ at_watches in
    let at_objects = map heard_part run.calls ++ at_groups in
    let at_queues = numbered_parts s.Queue OnQueue 0 run.queues ++ at_objects in
    let at_bridge : List Filled = (s.Bridge, OnBridge run.bridge) ∷ (s.Timers, OnTimers run.timers) ∷ at_queues in
    let r1 : RunData = record nothing { clients = run.clients } in
    let r2 : RunData = record r1 { publishers = run.publishers } in
    let r3 : RunData = record r2 { bridge = run.bridge; timers = run.timers } in
    let r4 : RunData = record r3 { queues = run.queues } in
    let r5 : RunData = record r4 { calls = run.calls } in
    let r6 : RunData = record r5 { groups = run.groups } in
    after_clients nothing 0 run.clients (numbered_parts s.Publisher Sends 0 run.publishers ++ at_bridge)
    ∙ after_publishers r1 0 run.publishers at_bridge
    ∙ after_queues r3 0 run.queues at_objects
    ∙ after_calls r4 run.calls at_groups
    ∙ after_groups r5 run.groups at_watches
    ∙ after_watches r6 run.watches at_end

-- putting the parts of a record together gives the record
pub parts_make : (v : Version) (strategy : Strategy) (run : RunData) → run_after nothing (parts_of v strategy run) ≡ run
parts_make version.One strategy run = body_make run
parts_make version.Two strategy run = body_make run

-- a part more at the end
pub run_push : (r : RunData) (fs : List Filled) (f : Filled) → run_after r (fs ++ f ∷ []) ≡ put f.1 (run_after r fs)
run_push r [] f = refl
run_push r (g ∷ fs) f = run_push (put g.1 r) fs f

-- ---- parts that fit the sections of a script are those of a record

abbrev pub AllFit : NamesData → List ObjectId → List Filled → Type 0
AllFit names objects fs = AllByRecursion (FitsIn names objects) fs

abbrev pub named : List Filled → List Section
named fs = map (λ f. f.0) fs

pub moments_in : (names : NamesData) (objects : List ObjectId) (n : ℕ) (p : Part) → Fits names objects (s.Client n) p → (x : List ℕ) × (p ≡ Moments x) × All IsMoment x
moments_in names objects n (Moments x) h = (x, refl, h)
moments_in names objects n _ h = absurd h

pub sends_in : (names : NamesData) (objects : List ObjectId) (n : ℕ) (p : Part) → Fits names objects (s.Publisher n) p → (x : List PublisherEntry) × (p ≡ Sends x) × All (MayEnterPublisher names) x
sends_in names objects n (Sends x) h = (x, refl, h)
sends_in names objects n _ h = absurd h

pub queue_in : (names : NamesData) (objects : List ObjectId) (n : ℕ) (p : Part) → Fits names objects (s.Queue n) p → (x : List (ℕ × QueueNote)) × (p ≡ OnQueue x) × All (MayEnterQueue names) x
queue_in names objects n (OnQueue x) h = (x, refl, h)
queue_in names objects n _ h = absurd h

pub bridge_in : (names : NamesData) (objects : List ObjectId) (p : Part) → Fits names objects s.Bridge p → (x : List (ℕ × BridgeNote)) × (p ≡ OnBridge x) × All (MayEnterBridge names) x
bridge_in names objects (OnBridge x) h = (x, refl, h)
bridge_in names objects _ h = absurd h

pub timers_in : (names : NamesData) (objects : List ObjectId) (p : Part) → Fits names objects s.Timers p → (x : List (ℕ × TimersNote)) × (p ≡ OnTimers x) × All (MayEnterTimers names) x
timers_in names objects (OnTimers x) h = (x, refl, h)
timers_in names objects _ h = absurd h

pub heard_in : (names : NamesData) (objects : List ObjectId) (o : ObjectId) (p : Part) → Fits names objects (s.Object o) p → (x : ObjectCalls) × (p ≡ Heard x) × ((x.object ≡ o) × MayHearAll names x)
heard_in names objects o (Heard x) h = (x, refl, h)
heard_in names objects o _ h = absurd h

pub grouped_in : (names : NamesData) (objects : List ObjectId) (n : ℕ) (p : Part) → Fits names objects (s.Group n) p → (x : GroupNotes) × (p ≡ Grouped x) × ((x.group ≡ n) × MayHearNotes names x)
grouped_in names objects n (Grouped x) h = (x, refl, h)
grouped_in names objects n _ h = absurd h

pub watched_in : (names : NamesData) (objects : List ObjectId) (n : ℕ) (p : Part) → Fits names objects (s.Watch n) p → (x : WatchNotes) × (p ≡ Watched x) × ((x.watch ≡ n) × MayNoteAll x)
watched_in names objects n (Watched x) h = (x, refl, h)
watched_in names objects n _ h = absurd h

pub pictures_in : (names : NamesData) (objects : List ObjectId) (p : Part) → Fits names objects s.Images p → (x : List LastImage) × (p ≡ Pictures x) × ((left : List ObjectId) × ArePictures names objects x left)
pictures_in names objects (Pictures x) h = (x, refl, h)
pictures_in names objects _ h = absurd h

pub title_in : (names : NamesData) (objects : List ObjectId) (v : Version) (p : Part) → Fits names objects (s.Title v) p → (x : Unit {0}) × (p ≡ Bare) × Unit {0}
title_in names objects v Bare h = (tt, refl, tt)
title_in names objects v _ h = absurd h

pub strategy_in : (names : NamesData) (objects : List ObjectId) (strategy : Strategy) (p : Part) → Fits names objects (s.Strategy strategy) p → (x : Unit {0}) × (p ≡ Bare) × Unit {0}
strategy_in names objects strategy Bare h = (tt, refl, tt)
strategy_in names objects strategy _ h = absurd h

pub end_in : (names : NamesData) (objects : List ObjectId) (p : Part) → Fits names objects s.End p → (x : Unit {0}) × (p ≡ Bare) × Unit {0}
end_in names objects Bare h = (tt, refl, tt)
end_in names objects _ h = absurd h

filled_is : (f : Filled) (section : Section) (part : Part) → f.0 ≡ section → f.1 ≡ part → f ≡ (section, part)
filled_is f section part e d = ap (λ (x : Section). let g : Filled = (x, f.1) in g) e ∙ ap (λ (x : Part). let g : Filled = (section, x) in g) d

abbrev first_of : Section → List Section → Section
first_of default [] = default
first_of default (x ∷ xs) = x

abbrev others_of : List Section → List Section
others_of [] = []
others_of (x ∷ xs) = xs

-- the first of some parts, and the others
pub record First {A : Type 0} (names : NamesData) (objects : List ObjectId) (section : Section) (wrap : A → Part) (May : A → Type 0) (names_left : List Section) (fs : List Filled) : Type 0 where
  pub entries : A
  pub rest : List Filled
  pub is : fs ≡ (section, wrap entries) ∷ rest
  pub may : May entries
  pub name : named rest ≡ names_left
  pub fits : AllFit names objects rest

pub first : {A : Type 0} (names : NamesData) (objects : List ObjectId) (section : Section) (wrap : A → Part) (May : A → Type 0) → ((p : Part) → Fits names objects section p → (x : A) × (p ≡ wrap x) × May x)
    → (left : List Section) (fs : List Filled) → named fs ≡ section ∷ left → AllFit names objects fs → First names objects section wrap May left fs
first names objects section wrap May get left [] e h = absurd cc
first {A} names objects section wrap May get left (f ∷ fs) e h =
    let is : f.0 ≡ section = ap (first_of section) e in
    let P : Section → Type 0 = λ x. Fits names objects x f.1 in
    let got = get f.1 (subst P is h.0) in
    record { entries = got.0; rest = fs; is = ap (λ (x : Filled). x ∷ fs) (filled_is f section (wrap got.0) is got.1); may = got.2; name = ap others_of e; fits = h.1 }

pub record Split {A : Type 0} (names : NamesData) (objects : List ObjectId) (section : ℕ → Section) (wrap : A → Part) (May : A → Type 0) (n count : ℕ) (left : List Section) (fs : List Filled) : Type 0 where
  pub entries : List A
  pub rest : List Filled
  pub is : fs ≡ numbered_parts section wrap n entries ++ rest
  pub counted : length entries ≡ count
  pub may : AllByRecursion May entries
  pub name : named rest ≡ left
  pub fits : AllFit names objects rest

pub split : {A : Type 0} (names : NamesData) (objects : List ObjectId) (section : ℕ → Section) (wrap : A → Part) (May : A → Type 0) → ((n : ℕ) (p : Part) → Fits names objects (section n) p → (x : A) × (p ≡ wrap x) × May x)
    → (n count : ℕ) (left : List Section) (fs : List Filled) → named fs ≡ numbered_from section n count ++ left → AllFit names objects fs → Split names objects section wrap May n count left fs
split names objects section wrap May get n zero left fs e h = record { entries = []; rest = fs; is = refl; counted = refl; may = tt; name = e; fits = h }
split {A} names objects section wrap May get n (suc count) left fs e h =
    let f = first names objects (section n) wrap May (get n) (numbered_from section (suc n) count ++ left) fs e h in
    let r = split names objects section wrap May get (suc n) count left f.rest f.name f.fits in
    record { entries = f.entries ∷ r.entries; rest = r.rest; is = f.is ∙ ap (λ (x : List Filled). (section n, wrap f.entries) ∷ x) r.is; counted = ap suc r.counted; may = (f.may, r.may); name = r.name; fits = r.fits }

pub record SplitCalls (names : NamesData) (objects those : List ObjectId) (left : List Section) (fs : List Filled) : Type 0 where
  pub calls : List ObjectCalls
  pub rest : List Filled
  pub is : fs ≡ map heard_part calls ++ rest
  pub of : map (λ c. c.object) calls ≡ those
  pub may : AllByRecursion (MayHearAll names) calls
  pub name : named rest ≡ left
  pub fits : AllFit names objects rest

pub split_calls : (names : NamesData) (objects those : List ObjectId) (left : List Section) (fs : List Filled) → named fs ≡ map s.Object those ++ left → AllFit names objects fs → SplitCalls names objects those left fs
split_calls names objects [] left fs e h = record { calls = []; rest = fs; is = refl; of = refl; may = tt; name = e; fits = h }
split_calls names objects (o ∷ those) left fs e h =
    let f = first names objects (s.Object o) Heard (λ x. (x.object ≡ o) × MayHearAll names x) (heard_in names objects o) (map s.Object those ++ left) fs e h in
    let r = split_calls names objects those left f.rest f.name f.fits in
    let here : fs ≡ heard_part f.entries ∷ f.rest = f.is ∙ ap (λ (x : ObjectId). let g : Filled = (s.Object x, Heard f.entries) in g ∷ f.rest) (sym f.may.0) in
    record {
      calls = f.entries ∷ r.calls;
      rest = r.rest;
      is = here ∙ ap (λ (x : List Filled). heard_part f.entries ∷ x) r.is;
      of = ap (λ (x : ObjectId). x ∷ map (λ c. c.object) r.calls) f.may.0 ∙ ap (λ (xs : List ObjectId). o ∷ xs) r.of;
      may = (f.may.1, r.may);
      name = r.name;
      fits = r.fits;
    }

-- parts that tell the numbers of their sections themselves
pub record SplitListed {A : Type 0} (names : NamesData) (objects : List ObjectId) (section : ℕ → Section) (wrap : A → Part) (number : A → ℕ) (May : A → Type 0) (those : List ℕ) (left : List Section) (fs : List Filled) : Type 0 where
  pub entries : List A
  pub rest : List Filled
  pub is : fs ≡ map (λ (x : A). let f : Filled = (section (number x), wrap x) in f) entries ++ rest
  pub of : map number entries ≡ those
  pub may : AllByRecursion May entries
  pub name : named rest ≡ left
  pub fits : AllFit names objects rest

pub split_listed : {A : Type 0} (names : NamesData) (objects : List ObjectId) (section : ℕ → Section) (wrap : A → Part) (number : A → ℕ) (May : A → Type 0) → ((n : ℕ) (p : Part) → Fits names objects (section n) p → (x : A) × (p ≡ wrap x) × ((number x ≡ n) × May x))
    → (those : List ℕ) (left : List Section) (fs : List Filled) → named fs ≡ map section those ++ left → AllFit names objects fs → SplitListed names objects section wrap number May those left fs
split_listed names objects section wrap number May get [] left fs e h = record { entries = []; rest = fs; is = refl; of = refl; may = tt; name = e; fits = h }
split_listed {A} names objects section wrap number May get (n ∷ those) left fs e h =
    let f = first names objects (section n) wrap (λ x. (number x ≡ n) × May x) (get n) (map section those ++ left) fs e h in
    let r = split_listed names objects section wrap number May get those left f.rest f.name f.fits in
    let part : A → Filled = λ x. (section (number x), wrap x) in
    let here : fs ≡ part f.entries ∷ f.rest = f.is ∙ ap (λ (k : ℕ). let g : Filled = (section k, wrap f.entries) in g ∷ f.rest) (sym f.may.0) in
    record {
      entries = f.entries ∷ r.entries;
      rest = r.rest;
      is = here ∙ ap (λ (x : List Filled). part f.entries ∷ x) r.is;
      of = ap (λ (k : ℕ). k ∷ map number r.entries) f.may.0 ∙ ap (λ (ks : List ℕ). n ∷ ks) r.of;
      may = (f.may.1, r.may);
      name = r.name;
      fits = r.fits;
    }

-- sections that are numbered from 0 are those of the numbers below
from_more : (section : ℕ → Section) (n c : ℕ) → numbered_from section n (suc c) ≡ numbered_from section n c ++ section (n + c) ∷ []
from_more section n zero = ap (λ (k : ℕ). section k ∷ []) (omega arith)
from_more section n (suc c) =
    ap (λ (t : List Section). section n ∷ t) (from_more section (suc n) c)
    ∙ ap (λ (k : ℕ). section n ∷ (numbered_from section (suc n) c ++ section k ∷ [])) (omega arith)

pub numbers_are : (section : ℕ → Section) (c : ℕ) → numbered_from section 0 c ≡ map section (numbers_below c)
numbers_are section zero = refl
numbers_are section (suc c) =
    from_more section 0 c ∙ ap (λ (t : List Section). t ++ section (0 + c) ∷ []) (numbers_are section c)
    ∙ ap (λ (k : ℕ). map section (numbers_below c) ++ section k ∷ []) (omega arith) ∙ sym (map-append section (numbers_below c) (c ∷ []))

pub record SplitTitles (v : Version) (strategy : Strategy) (names : NamesData) (objects : List ObjectId) (left : List Section) (fs : List Filled) : Type 0 where
  pub rest : List Filled
  pub is : fs ≡ title_parts v strategy ++ rest
  pub name : named rest ≡ left
  pub fits : AllFit names objects rest

pub split_titles : (v : Version) (strategy : Strategy) (names : NamesData) (objects : List ObjectId) (left : List Section) (fs : List Filled) → named fs ≡ titles v strategy ++ left → AllFit names objects fs → SplitTitles v strategy names objects left fs
split_titles version.One strategy names objects left fs e h =
    let t = first {A = Unit {0}} names objects (s.Title version.One) (λ x. Bare) (λ x. Unit {0}) (title_in names objects version.One) left fs e h in
    record { rest = t.rest; is = t.is; name = t.name; fits = t.fits }
split_titles version.Two strategy names objects left fs e h =
    let t = first {A = Unit {0}} names objects (s.Title version.Two) (λ x. Bare) (λ x. Unit {0}) (title_in names objects version.Two) (s.Strategy strategy ∷ left) fs e h in
    let u = first {A = Unit {0}} names objects (s.Strategy strategy) (λ x. Bare) (λ x. Unit {0}) (strategy_in names objects strategy) left t.rest t.name t.fits in
    record { rest = u.rest; is = t.is ∙ ap (λ (x : List Filled). (s.Title version.Two, Bare) ∷ x) u.is; name = u.name; fits = u.fits }
