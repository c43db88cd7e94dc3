-- What groups heard and watches noted, queue by queue in the order of their numbers, against what a record has.
use Rattle.std.specs.Prelude.{filter, slice_get, slice_index_or, slice_set, drop, Option, Some, option_map, if◌then◌else◌}
use Rattle.std.proofs.Common.{◌≡◌, ℕ, zero, suc, ◌+◌, ◌<◌, ◌≤◌, ◌==◌, Bool, true, false, List, [], ◌∷◌, ◌++◌, length, map, get_or, refl, ap, sym, subst, ◌∙◌, arith, add-one, zero-add, ⊎_elim}
use Rattle.std.proofs.Math.ListN.{set}
use Rattle.std.proofs.Math.Seq.{drop-cons}
use Rattle.std.proofs.lemmas.Bool.{eq-eqb, eqb-true, ne_eqb, cases_lt, cases_eq}
use Rattle.std.proofs.lemmas.List.{get_or-map, get_or_past, get_or-set_same, get_or-set_other, length-map, length-set, length_push, map-append, drop-map}
use Rattle.std.proofs.lemmas.Option.{slice_get-map, slice_get-get_or}
use Rattle.mama_journal.specs.Journal.{numbers_below}
use Rattle.mama_journal.specs.EntryLaws.{by_entries}
use Rattle.mama_event.specs.declared.group.GroupRow.{GroupRow}
use Rattle.mama_event.specs.declared.group.GroupNote.{GroupNote}
use Rattle.mama_event.specs.declared.watch.WatchRow.{WatchRow}
use Rattle.mama_event.specs.declared.watch.WatchNote.{WatchNote}
use Rattle.mama_event.specs.declared.to_queue.QueueNote.{QueueNote}
use Rattle.mama_event.specs.declared.ids.ObjectId.TheVariants.{Timer}
use Rattle.mama_event.specs.Ports.{queues_of}
use Rattle.mama_rules_queue.specs.Group.{group_notes}
use Rattle.mama_rules_queue.specs.Watch.{watch_notes}
use Rattle.mama_script.specs.Script.{ScriptData}
use Rattle.mama_record.specs.RunData.{RunData, GroupNotes, WatchNotes}
use Rattle.mama_rules_rounds.specs.Client.{Planned}
use Rattle.mama_rules_rounds.specs.Setting.{Setting, Grouped, Watched, orders_by, is_on}
use Rattle.mama_rules_rounds.specs.Sections.{setting_of, planned_in, queue_of, queue_of_members, groups_from, watches_from}
use Rattle.mama_rules_rounds.specs.Told.{group_told, watch_told}
use Rattle.mama_plans.specs.Lists.{group_row, watch_row, groups_on, watches_on}
use Rattle.mama_check_queue.specs.Served.{ServedData, groups_heard, watches_noted}
use Rattle.mama_check.specs.Lists.{without_first, first_heard, first_noted}
use Rattle.mama_check.specs.Puts.{AreServed}
use Rattle.mama_check.specs.Rules.{KeepsGroup, KeepsWatch}
use Rattle.mama_check.proofs.NumberLemmas.{numbers_len, number_at, on_at}

-- ---- lists of which the first items are taken

-- of each list the rest is what is told of those left on its queue
module _ {T N G : Type 0} (given : T → N) (told : G → N) (queue : G → ℕ) where
  abbrev pub on : ℕ → List G → List G
  on q gs = filter (λ (g : G). queue g == q) gs

  pub record AreLeft (gs : List G) (lists : List (List T)) : Type 0 where
    pub each : (q : ℕ) → q < length lists → map given (slice_index_or lists q []) ≡ map told (on q gs)

  on_own : (g : G) (gs : List G) → map told (on (queue g) (g ∷ gs)) ≡ told g ∷ map told (on (queue g) gs)
  on_own g gs = ap (λ (b : Bool). map told (if b then g ∷ on (queue g) gs else on (queue g) gs)) (eq-eqb (queue g) (queue g) refl)

  on_other : (g : G) (gs : List G) (q : ℕ) → (queue g ≡ q → ⊥) → map told (on q (g ∷ gs)) ≡ map told (on q gs)
  on_other g gs q other = ap (λ (b : Bool). map told (if b then g ∷ on q gs else on q gs)) (ne_eqb (queue g) q other)

  pub left_first : (g : G) (gs : List G) (lists : List (List T)) → AreLeft (g ∷ gs) lists → queue g < length lists
      → map given (slice_index_or lists (queue g) []) ≡ told g ∷ map told (on (queue g) gs)
  left_first g gs lists left inside = left.each (queue g) inside ∙ on_own g gs

  pub left_more : (g : G) (gs : List G) (lists after : List (List T)) → AreLeft (g ∷ gs) lists → after ≡ without_first (queue g) lists → AreLeft gs after
  left_more g gs lists after left is = subst (AreLeft gs) (sym is) (record {
    each = λ q within.
        let rest : List T = drop 1 (slice_index_or lists (queue g) []) in
        let inside : q < length lists = omega (arith, within, length-set lists (queue g) rest) in
        ⊎_elim
        (λ same. own q rest inside same)
        (λ other. ap (map given) (get_or-set_other lists (queue g) q rest [] other) ∙ left.each q inside ∙ on_other g gs q (λ same. other (sym same)))
        (cases_eq q (queue g));
  })
    where
      own : (q : ℕ) (rest : List T) → q < length lists → q ≡ queue g → map given (slice_index_or (slice_set lists (queue g) (drop 1 (slice_index_or lists (queue g) []))) q []) ≡ map told (on q gs)
      own q rest inside same =
          let here : queue g < length lists = omega (arith, inside, same) in
          ap (λ (k : ℕ). map given (slice_index_or (slice_set lists (queue g) (drop 1 (slice_index_or lists (queue g) []))) k [])) same
          ∙ ap (map given) (get_or-set_same lists (queue g) (drop 1 (slice_index_or lists (queue g) [])) [] here)
          ∙ sym (drop-map given 1 (slice_index_or lists (queue g) []))
          ∙ ap (drop 1) (left_first g gs lists left here)
          ∙ ap (λ (k : ℕ). map told (on k gs)) (sym same)

-- ---- the groups and the watches of a script, one by one

abbrev pub grouped : List Planned → ℕ → GroupRow → Grouped
grouped objects n row = record { number = n; queue = queue_of_members objects row.members; members = row.members }

abbrev pub watched : List Planned → ℕ → WatchRow → Watched
watched objects n row = record { number = n; queue = queue_of objects (Timer row.timer); row = row }

pub groups_len : (objects : List Planned) (n : ℕ) (rows : List GroupRow) → length (groups_from objects n rows) ≡ length rows
groups_len objects n [] = refl
groups_len objects n (row ∷ rows) = ap suc (groups_len objects (suc n) rows)

pub watches_len : (objects : List Planned) (n : ℕ) (rows : List WatchRow) → length (watches_from objects n rows) ≡ length rows
watches_len objects n [] = refl
watches_len objects n (row ∷ rows) = ap suc (watches_len objects (suc n) rows)

group_from : (objects : List Planned) (n k m : ℕ) (rows : List GroupRow) (row : GroupRow) (d : Grouped) → n + k ≡ m → k < length rows → row ≡ get_or rows k row
    → get_or (groups_from objects n rows) k d ≡ grouped objects m row
group_from objects n k m [] row d is within here = absurd (omega (arith, within))
group_from objects n zero m (r ∷ rows) row d is within here =
    let same : n ≡ m = omega arith in
    ap (λ (j : ℕ). grouped objects j r) same ∙ ap (grouped objects m) (sym here)
group_from objects n (suc k) m (r ∷ rows) row d is within here = group_from objects (suc n) k m rows row d (omega arith) (omega arith) here

watch_from : (objects : List Planned) (n k m : ℕ) (rows : List WatchRow) (row : WatchRow) (d : Watched) → n + k ≡ m → k < length rows → row ≡ get_or rows k row
    → get_or (watches_from objects n rows) k d ≡ watched objects m row
watch_from objects n k m [] row d is within here = absurd (omega (arith, within))
watch_from objects n zero m (r ∷ rows) row d is within here =
    let same : n ≡ m = omega arith in
    ap (λ (j : ℕ). watched objects j r) same ∙ ap (watched objects m) (sym here)
watch_from objects n (suc k) m (r ∷ rows) row d is within here = watch_from objects (suc n) k m rows row d (omega arith) (omega arith) here

-- the first of those that are left
group_next : (objects : List Planned) (rows : List GroupRow) (k : ℕ) (row : GroupRow) → k < length rows → row ≡ get_or rows k row
    → drop k (groups_from objects 0 rows) ≡ grouped objects k row ∷ drop (k + 1) (groups_from objects 0 rows)
group_next objects rows k row within here =
    let d : Grouped = grouped objects k row in
    let inside : k < length (groups_from objects 0 rows) = omega (arith, within, groups_len objects 0 rows) in
    drop-cons (groups_from objects 0 rows) k d inside
    ∙ ap (λ (g : Grouped). g ∷ drop (suc k) (groups_from objects 0 rows)) (group_from objects 0 k k rows row d (omega arith) within here)
    ∙ ap (λ (n : ℕ). d ∷ drop n (groups_from objects 0 rows)) (sym (add-one k))

watch_next : (objects : List Planned) (rows : List WatchRow) (k : ℕ) (row : WatchRow) → k < length rows → row ≡ get_or rows k row
    → drop k (watches_from objects 0 rows) ≡ watched objects k row ∷ drop (k + 1) (watches_from objects 0 rows)
watch_next objects rows k row within here =
    let d : Watched = watched objects k row in
    let inside : k < length (watches_from objects 0 rows) = omega (arith, within, watches_len objects 0 rows) in
    drop-cons (watches_from objects 0 rows) k d inside
    ∙ ap (λ (g : Watched). g ∷ drop (suc k) (watches_from objects 0 rows)) (watch_from objects 0 k k rows row d (omega arith) within here)
    ∙ ap (λ (n : ℕ). d ∷ drop n (watches_from objects 0 rows)) (sym (add-one k))

-- ---- at first

module _ (script : ScriptData) (run : RunData) where
  abbrev setting : Setting
  setting = setting_of script

  abbrev pub told_group : Grouped → GroupNotes
  told_group g = group_told setting run.queues g

  abbrev pub told_watch : Watched → WatchNotes
  told_watch w = watch_told setting run.queues w

  abbrev by_group : ℕ → ℕ × GroupRow → GroupNotes
  by_group q r = record { group = r.0; notes = group_notes (orders_by setting) r.1.members (slice_index_or run.queues q []) }

  abbrev by_watch : ℕ → ℕ × WatchRow → WatchNotes
  by_watch q r = record { watch = r.0; notes = watch_notes (orders_by setting) r.1 (slice_index_or run.queues q []) }

  groups_by : (q : ℕ) (gs : List Grouped) → map (by_group q) (map group_row (filter (λ (g : Grouped). g.queue == q) gs)) ≡ map told_group (filter (λ (g : Grouped). g.queue == q) gs)
  groups_by q [] = refl
  groups_by q (g ∷ gs) = either (g.queue == q) refl (groups_by q gs)
    where
      either : (b : Bool) → (g.queue == q) ≡ b → map (by_group q) (map group_row (filter (λ (h : Grouped). h.queue == q) gs)) ≡ map told_group (filter (λ (h : Grouped). h.queue == q) gs)
          → map (by_group q) (map group_row (if b then g ∷ filter (λ (h : Grouped). h.queue == q) gs else filter (λ (h : Grouped). h.queue == q) gs))
          ≡ map told_group (if b then g ∷ filter (λ (h : Grouped). h.queue == q) gs else filter (λ (h : Grouped). h.queue == q) gs)
      either true same rest =
          ap (λ (k : ℕ). by_group k (group_row g) ∷ map (by_group q) (map group_row (filter (λ (h : Grouped). h.queue == q) gs))) (sym (eqb-true g.queue q same))
          ∙ ap (λ (ns : List GroupNotes). told_group g ∷ ns) rest
      either false other rest = rest

  watches_by : (q : ℕ) (ws : List Watched) → map (by_watch q) (map watch_row (filter (is_on q) ws)) ≡ map told_watch (filter (is_on q) ws)
  watches_by q [] = refl
  watches_by q (w ∷ ws) = either (w.queue == q) refl (watches_by q ws)
    where
      either : (b : Bool) → (w.queue == q) ≡ b → map (by_watch q) (map watch_row (filter (is_on q) ws)) ≡ map told_watch (filter (is_on q) ws)
          → map (by_watch q) (map watch_row (if b then w ∷ filter (is_on q) ws else filter (is_on q) ws)) ≡ map told_watch (if b then w ∷ filter (is_on q) ws else filter (is_on q) ws)
      either true same rest =
          ap (λ (k : ℕ). by_watch k (watch_row w) ∷ map (by_watch q) (map watch_row (filter (is_on q) ws))) (sym (eqb-true w.queue q same))
          ∙ ap (λ (ns : List WatchNotes). told_watch w ∷ ns) rest
      either false other rest = rest

  module _ (served : List ServedData) (are : AreServed script run served) where
    abbrev nobody : ServedData
    nobody = record { objects = setting.objects; groups = []; watches = []; journal = [] }

    pub as_many : length served ≡ length run.queues
    as_many = sym (length-map served (λ (s : ServedData). s.journal)) ∙ ap length are.journals

    journal_at : (q : ℕ) → q < length served → (get_or served q nobody).journal ≡ slice_index_or run.queues q []
    journal_at q inside = sym (get_or-map (λ (s : ServedData). s.journal) served q nobody [] inside) ∙ ap (λ (js : List (List (ℕ × QueueNote))). slice_index_or js q []) are.journals

    within_queues : (q : ℕ) → q < length served → q < queues_of script.shape
    within_queues q inside =
        omega (arith, inside, length-map served (λ (s : ServedData). s.groups), ap length are.groups, length-map (numbers_below (queues_of script.shape)) (groups_on setting.groups), numbers_len (queues_of script.shape))

    groups_at : (q : ℕ) → q < length served → groups_heard (get_or served q nobody) ≡ map told_group (filter (λ (g : Grouped). g.queue == q) setting.groups)
    groups_at q inside =
        let s : ServedData = get_or served q nobody in
        let rows : s.groups ≡ groups_on setting.groups q =
        sym (get_or-map (λ (t : ServedData). t.groups) served q nobody [] inside) ∙ ap (λ (ls : List (List (ℕ × GroupRow))). slice_index_or ls q []) are.groups
        ∙ on_at (groups_on setting.groups) (queues_of script.shape) q (within_queues q inside) in
        ap (λ (os : List Planned). groups_heard (record s { objects = os })) (are.objects q nobody inside)
        ∙ ap (λ (j : List (ℕ × QueueNote)). groups_heard (record s { objects = setting.objects; journal = j })) (journal_at q inside)
        ∙ ap (λ (rs : List (ℕ × GroupRow)). map (by_group q) rs) rows
        ∙ groups_by q setting.groups

    watches_at : (q : ℕ) → q < length served → watches_noted (get_or served q nobody) ≡ map told_watch (filter (is_on q) setting.watches)
    watches_at q inside =
        let s : ServedData = get_or served q nobody in
        let rows : s.watches ≡ watches_on setting.watches q =
        sym (get_or-map (λ (t : ServedData). t.watches) served q nobody [] inside) ∙ ap (λ (ls : List (List (ℕ × WatchRow))). slice_index_or ls q []) are.watches
        ∙ on_at (watches_on setting.watches) (queues_of script.shape) q (within_queues q inside) in
        ap (λ (os : List Planned). watches_noted (record s { objects = os })) (are.objects q nobody inside)
        ∙ ap (λ (j : List (ℕ × QueueNote)). watches_noted (record s { objects = setting.objects; journal = j })) (journal_at q inside)
        ∙ ap (λ (rs : List (ℕ × WatchRow)). map (by_watch q) rs) rows
        ∙ watches_by q setting.watches

    list_at : {T N : Type 0} (given : T → N) (tells : ServedData → List N) (lists : List (List T)) (q : ℕ) → map (λ (l : List T). map given l) lists ≡ map tells served → q < length lists
        → (q < length served) × (map given (slice_index_or lists q []) ≡ tells (get_or served q nobody))
    list_at {T} {N} given tells lists q are_told within =
        let inside : q < length served = omega (arith, within, length-map lists (λ (l : List T). map given l), ap length are_told, length-map served tells) in (
          inside,
          sym (get_or-map (λ (l : List T). map given l) lists q [] [] within) ∙ ap (λ (ls : List (List N)). slice_index_or ls q []) are_told ∙ get_or-map tells served q nobody [] inside,
        )

    pub groups_left : {T : Type 0} (given : T → GroupNotes) (lists : List (List T)) → map (λ (l : List T). map given l) lists ≡ map groups_heard served
        → AreLeft given told_group (λ (g : Grouped). g.queue) (drop 0 setting.groups) lists
    groups_left given lists told = record { each = λ q within. let here = list_at given groups_heard lists q told within in here.1 ∙ groups_at q here.0 }

    pub watches_left : {T : Type 0} (given : T → WatchNotes) (lists : List (List T)) → map (λ (l : List T). map given l) lists ≡ map watches_noted served
        → AreLeft given told_watch (λ (w : Watched). w.queue) (drop 0 setting.watches) lists
    watches_left given lists told = record { each = λ q within. let here = list_at given watches_noted lists q told within in here.1 ∙ watches_at q here.0 }

-- ---- what is next

past_nothing : {T N : Type 0} (given : T → N) (lists : List (List T)) (q : ℕ) → length lists ≤ q → map given (slice_index_or lists q []) ≡ []
past_nothing given lists q past = ap (map given) (get_or_past lists q [] past)

module _ (script : ScriptData) (run : RunData) (k : ℕ) where
  module _ {T : Type 0} (given : T → GroupNotes) (lists after : List (List T)) (many : length lists ≡ length run.queues) (row : GroupRow) (within : k < length script.groups) (here : row ≡ get_or script.groups k row)
      (left : AreLeft given (told_group script run) (λ (g : Grouped). g.queue) (drop k (setting_of script).groups) lists) where
    abbrev this_group : Grouped
    this_group = grouped (planned_in script) k row

    next_group : AreLeft given (told_group script run) (λ (g : Grouped). g.queue) (this_group ∷ drop (k + 1) (setting_of script).groups) lists
    next_group = subst (λ (gs : List Grouped). AreLeft given (told_group script run) (λ (g : Grouped). g.queue) gs lists) (group_next (planned_in script) script.groups k row within here) left

    -- the next list is what the group hears
    pub group_heard : (queue : ℕ) (heard : List GroupNote) → queue ≡ queue_of_members (planned_in script) row.members → heard ≡ first_heard (map given (slice_index_or lists queue []))
        → heard ≡ (told_group script run this_group).notes
    group_heard queue heard is next =
        next ∙ ap (λ (q : ℕ). first_heard (map given (slice_index_or lists q []))) is
        ∙ ⊎_elim
        (λ inside. ap first_heard (left_first given (told_group script run) (λ (g : Grouped). g.queue) this_group (drop (k + 1) (setting_of script).groups) lists next_group inside))
        (λ past.
        ap first_heard (past_nothing given lists this_group.queue past)
        ∙ sym (ap (λ (j : List (ℕ × QueueNote)). group_notes (orders_by (setting_of script)) row.members j) (get_or_past run.queues this_group.queue [] (omega (arith, past, many)))))
        (cases_lt this_group.queue (length lists))

    pub group_left : (queue : ℕ) → queue ≡ queue_of_members (planned_in script) row.members → after ≡ without_first queue lists
        → AreLeft given (told_group script run) (λ (g : Grouped). g.queue) (drop (k + 1) (setting_of script).groups) after
    group_left queue is rest =
        left_more given (told_group script run) (λ (g : Grouped). g.queue) this_group (drop (k + 1) (setting_of script).groups) lists after next_group (rest ∙ ap (λ (q : ℕ). without_first q lists) is)

  module _ {T : Type 0} (given : T → WatchNotes) (lists after : List (List T)) (many : length lists ≡ length run.queues) (row : WatchRow) (within : k < length script.watches) (here : row ≡ get_or script.watches k row)
      (left : AreLeft given (told_watch script run) (λ (w : Watched). w.queue) (drop k (setting_of script).watches) lists) where
    abbrev this_watch : Watched
    this_watch = watched (planned_in script) k row

    next_watch : AreLeft given (told_watch script run) (λ (w : Watched). w.queue) (this_watch ∷ drop (k + 1) (setting_of script).watches) lists
    next_watch = subst (λ (ws : List Watched). AreLeft given (told_watch script run) (λ (w : Watched). w.queue) ws lists) (watch_next (planned_in script) script.watches k row within here) left

    -- the next list is what the watch notes
    pub watch_noted : (queue : ℕ) (noted : List WatchNote) → queue ≡ queue_of (planned_in script) (Timer row.timer) → noted ≡ first_noted (map given (slice_index_or lists queue []))
        → noted ≡ (told_watch script run this_watch).notes
    watch_noted queue noted is next =
        next ∙ ap (λ (q : ℕ). first_noted (map given (slice_index_or lists q []))) is
        ∙ ⊎_elim
        (λ inside. ap first_noted (left_first given (told_watch script run) (λ (w : Watched). w.queue) this_watch (drop (k + 1) (setting_of script).watches) lists next_watch inside))
        (λ past.
        ap first_noted (past_nothing given lists this_watch.queue past)
        ∙ sym (ap (λ (j : List (ℕ × QueueNote)). watch_notes (orders_by (setting_of script)) row j) (get_or_past run.queues this_watch.queue [] (omega (arith, past, many)))))
        (cases_lt this_watch.queue (length lists))

    pub watch_left : (queue : ℕ) → queue ≡ queue_of (planned_in script) (Timer row.timer) → after ≡ without_first queue lists
        → AreLeft given (told_watch script run) (λ (w : Watched). w.queue) (drop (k + 1) (setting_of script).watches) after
    watch_left queue is rest =
        left_more given (told_watch script run) (λ (w : Watched). w.queue) this_watch (drop (k + 1) (setting_of script).watches) lists after next_watch (rest ∙ ap (λ (q : ℕ). without_first q lists) is)

-- ---- a record's list at a number

some_same : {X : Type 0} (x y : X) → Some x ≡ Some y → x ≡ y
some_same x y e = cc

-- a list with as many numbers
pub numbered_len : {X : Type 0} (number : X → ℕ) (xs : List X) (n : ℕ) → map number xs ≡ numbers_below n → length xs ≡ n
numbered_len number xs n are = sym (length-map xs number) ∙ ap length are ∙ numbers_len n

number_here : {X : Type 0} (number : X → ℕ) (xs : List X) (n k : ℕ) (x : X) → map number xs ≡ numbers_below n → k < n → slice_get xs k ≡ Some x → number x ≡ k
number_here {X} number xs n k x are low there =
    some_same (number x) k
    (sym (ap (λ (o : Option X). option_map number o) there) ∙ sym (slice_get-map number xs k) ∙ ap (λ (ns : List ℕ). slice_get ns k) are
    ∙ slice_get-get_or (numbers_below n) k k (omega (arith, low, numbers_len n)) ∙ ap (λ (m : ℕ). Some m) (number_at n k k low))

module _ (script : ScriptData) (run : RunData) (k : ℕ) where
  module _ (row : GroupRow) (within : k < length script.groups) (here : row ≡ get_or script.groups k row) (numbered : map (λ (g : GroupNotes). g.group) run.groups ≡ numbers_below (length script.groups))
      (e : GroupNotes) (there : slice_get run.groups k ≡ Some e) where
    abbrev group_here : Grouped
    group_here = grouped (planned_in script) k row

    wanted_group : slice_get (map (told_group script run) (setting_of script).groups) k ≡ Some (told_group script run group_here)
    wanted_group =
        slice_get-map (told_group script run) (setting_of script).groups k
        ∙ ap (λ (o : Option Grouped). option_map (told_group script run) o)
        (slice_get-get_or (setting_of script).groups k group_here (omega (arith, within, groups_len (planned_in script) 0 script.groups))
        ∙ ap (λ (g : Grouped). Some g) (group_from (planned_in script) 0 k k script.groups row group_here (omega arith) within here))

    pub group_kept : e.notes ≡ (told_group script run group_here).notes → KeepsGroup script run k
    group_kept same =
        there
        ∙ ap (λ (n : ℕ). Some (record { group = n; notes = e.notes })) (number_here (λ (g : GroupNotes). g.group) run.groups (length script.groups) k e numbered within there)
        ∙ ap (λ (ns : List GroupNote). Some (record { group = k; notes = ns })) same ∙ sym wanted_group

    pub group_back : KeepsGroup script run k → e.notes ≡ (told_group script run group_here).notes
    group_back keeps = ap (λ (g : GroupNotes). g.notes) (some_same e (told_group script run group_here) (sym there ∙ keeps ∙ wanted_group))

  module _ (row : WatchRow) (within : k < length script.watches) (here : row ≡ get_or script.watches k row) (numbered : map (λ (w : WatchNotes). w.watch) run.watches ≡ numbers_below (length script.watches))
      (e : WatchNotes) (there : slice_get run.watches k ≡ Some e) where
    abbrev watch_here : Watched
    watch_here = watched (planned_in script) k row

    wanted_watch : slice_get (map (told_watch script run) (setting_of script).watches) k ≡ Some (told_watch script run watch_here)
    wanted_watch =
        slice_get-map (told_watch script run) (setting_of script).watches k
        ∙ ap (λ (o : Option Watched). option_map (told_watch script run) o)
        (slice_get-get_or (setting_of script).watches k watch_here (omega (arith, within, watches_len (planned_in script) 0 script.watches))
        ∙ ap (λ (w : Watched). Some w) (watch_from (planned_in script) 0 k k script.watches row watch_here (omega arith) within here))

    pub watch_kept : e.notes ≡ (told_watch script run watch_here).notes → KeepsWatch script run k
    watch_kept same =
        there
        ∙ ap (λ (n : ℕ). Some (record { watch = n; notes = e.notes })) (number_here (λ (w : WatchNotes). w.watch) run.watches (length script.watches) k e numbered within there)
        ∙ ap (λ (ns : List WatchNote). Some (record { watch = k; notes = ns })) same ∙ sym wanted_watch

    pub watch_back : KeepsWatch script run k → e.notes ≡ (told_watch script run watch_here).notes
    watch_back keeps = ap (λ (w : WatchNotes). w.notes) (some_same e (told_watch script run watch_here) (sym there ∙ keeps ∙ wanted_watch))

-- ---- the numbers of groups and watches

groups_from-push : (objects : List Planned) (n m : ℕ) (rows : List GroupRow) (row : GroupRow) → n + length rows ≡ m
    → groups_from objects n (rows ++ row ∷ []) ≡ groups_from objects n rows ++ grouped objects m row ∷ []
groups_from-push objects n m [] row is = let same : n ≡ m = omega arith in ap (λ (k : ℕ). grouped objects k row ∷ []) same
groups_from-push objects n m (r ∷ rows) row is = ap (λ (gs : List Grouped). grouped objects n r ∷ gs) (groups_from-push objects (suc n) m rows row (omega arith))

watches_from-push : (objects : List Planned) (n m : ℕ) (rows : List WatchRow) (row : WatchRow) → n + length rows ≡ m
    → watches_from objects n (rows ++ row ∷ []) ≡ watches_from objects n rows ++ watched objects m row ∷ []
watches_from-push objects n m [] row is = let same : n ≡ m = omega arith in ap (λ (k : ℕ). watched objects k row ∷ []) same
watches_from-push objects n m (r ∷ rows) row is = ap (λ (ws : List Watched). watched objects n r ∷ ws) (watches_from-push objects (suc n) m rows row (omega arith))

numbers_push : {X : Type 0} (xs : List X) (x : X) → numbers_below (length (xs ++ x ∷ [])) ≡ numbers_below (length xs) ++ length xs ∷ []
numbers_push xs x = ap numbers_below (length_push xs x ∙ add-one (length xs))

pub groups_numbered : (objects : List Planned) (rows : List GroupRow) (tell : Grouped → GroupNotes) → ((g : Grouped) → (tell g).group ≡ g.number)
    → map (λ (g : GroupNotes). g.group) (map tell (groups_from objects 0 rows)) ≡ numbers_below (length rows)
groups_numbered objects rows tell own =
    by_entries (λ (rs : List GroupRow). map (λ (g : GroupNotes). g.group) (map tell (groups_from objects 0 rs)) ≡ numbers_below (length rs)) refl
    (λ rs r so_far.
    ap (λ (gs : List Grouped). map (λ (g : GroupNotes). g.group) (map tell gs)) (groups_from-push objects 0 (length rs) rs r (zero-add (length rs)))
    ∙ ap (map (λ (g : GroupNotes). g.group)) (map-append tell (groups_from objects 0 rs) (grouped objects (length rs) r ∷ []))
    ∙ map-append (λ (g : GroupNotes). g.group) (map tell (groups_from objects 0 rs)) (tell (grouped objects (length rs) r) ∷ [])
    ∙ ap (λ (ns : List ℕ). ns ++ (tell (grouped objects (length rs) r)).group ∷ []) so_far
    ∙ ap (λ (n : ℕ). numbers_below (length rs) ++ n ∷ []) (own (grouped objects (length rs) r))
    ∙ sym (numbers_push rs r))
    rows

pub watches_numbered : (objects : List Planned) (rows : List WatchRow) (tell : Watched → WatchNotes) → ((w : Watched) → (tell w).watch ≡ w.number)
    → map (λ (w : WatchNotes). w.watch) (map tell (watches_from objects 0 rows)) ≡ numbers_below (length rows)
watches_numbered objects rows tell own =
    by_entries (λ (rs : List WatchRow). map (λ (w : WatchNotes). w.watch) (map tell (watches_from objects 0 rs)) ≡ numbers_below (length rs)) refl
    (λ rs r so_far.
    ap (λ (ws : List Watched). map (λ (w : WatchNotes). w.watch) (map tell ws)) (watches_from-push objects 0 (length rs) rs r (zero-add (length rs)))
    ∙ ap (map (λ (w : WatchNotes). w.watch)) (map-append tell (watches_from objects 0 rs) (watched objects (length rs) r ∷ []))
    ∙ map-append (λ (w : WatchNotes). w.watch) (map tell (watches_from objects 0 rs)) (tell (watched objects (length rs) r) ∷ [])
    ∙ ap (λ (ns : List ℕ). ns ++ (tell (watched objects (length rs) r)).watch ∷ []) so_far
    ∙ ap (λ (n : ℕ). numbers_below (length rs) ++ n ∷ []) (own (watched objects (length rs) r))
    ∙ sym (numbers_push rs r))
    rows

-- ---- one group or watch of a record

fused : {A B C : Type 0} (f : A → B) (g : B → C) (xs : List A) → map g (map f xs) ≡ map (λ x. g (f x)) xs
fused f g [] = refl
fused {A} {B} {C} f g (x ∷ xs) = ap (λ (ys : List C). g (f x) ∷ ys) (fused f g xs)

-- lists that are told as the queues tell are as many as their journals
pub lists_many : {L T N : Type 0} (now : L → List T) (given : T → N) (tells : ServedData → List N) (script : ScriptData) (run : RunData) (served : List ServedData) (lists : List L) → AreServed script run served
    → map (λ l. map given (now l)) lists ≡ map tells served → length (map now lists) ≡ length run.queues
lists_many now given tells script run served lists are told =
    length-map lists now ∙ sym (length-map lists (λ l. map given (now l))) ∙ ap length told ∙ length-map served tells ∙ as_many script run served are

pub lists_told : {L T N : Type 0} (now : L → List T) (given : T → N) (tells : ServedData → List N) (served : List ServedData) (lists : List L)
    → map (λ l. map given (now l)) lists ≡ map tells served → map (λ l. map given l) (map now lists) ≡ map tells served
lists_told now given tells served lists told = fused now (λ l. map given l) lists ∙ told

pub many_more : {T : Type 0} (q n : ℕ) (lists after : List (List T)) → length lists ≡ n → after ≡ without_first q lists → length after ≡ n
many_more q n lists after many is = ap length is ∙ length-set lists q (drop 1 (slice_index_or lists q [])) ∙ many

-- what stands at a number in a record
pub stands_at : {A X : Type 0} (f : A → X) (all : List X) (items : List A) (k : ℕ) (a : A) → map f items ≡ all → k < length items → a ≡ get_or items k a → slice_get all k ≡ Some (f a)
stands_at {A} {X} f all items k a are within here =
    ap (λ (xs : List X). slice_get xs k) (sym are) ∙ slice_get-map f items k
    ∙ ap (λ (o : Option A). option_map f o) (slice_get-get_or items k a within ∙ ap (λ (x : A). Some x) (sym here))

pub recorded_many : {A X : Type 0} (f : A → X) (number : X → ℕ) (all : List X) (items : List A) (n : ℕ) → map f items ≡ all → map number all ≡ numbers_below n → length items ≡ n
recorded_many f number all items n are numbers = sym (length-map items f) ∙ ap length are ∙ numbered_len number all n numbers
