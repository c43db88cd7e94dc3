-- How the record of a run is gathered.
use Rattle.std.specs.List.{AllByRecursion, flat_map}
use Rattle.std.specs.Global.{Vec}
use Rattle.std.proofs.Common.{◌≡◌, ℕ, zero, suc, ◌+◌, ◌<◌, ◌≤◌, false, List, [], ◌∷◌, ◌++◌, map, length, get_or, take, drop, refl, sym, ◌∙◌, ap, subst, arith}
use Rattle.std.proofs.Math.ListN.{set, get_or-eq_default}
use Rattle.std.proofs.lemmas.List.{get_or-map, map-append, take_more, drop_more, set_past, length-map}
use Rattle.std.proofs.lemmas.List.Concat.{flat_map-append}
use Rattle.mama_journal.specs.Journal.{numbers_below}
use Rattle.mama_event.specs.declared.ids.ObjectId.{ObjectId}
use Rattle.mama_event.specs.declared.ids.SubId.{SubId}
use Rattle.mama_event.specs.declared.callback.CallNote.{CallNote}
use Rattle.mama_event.specs.declared.to_queue.QueueNote.{QueueNote}
use Rattle.mama_event.specs.declared.group.GroupRow.{GroupRow}
use Rattle.mama_event.specs.declared.group.GroupNote.{GroupNote}
use Rattle.mama_event.specs.declared.watch.WatchRow.{WatchRow}
use Rattle.mama_event.specs.declared.watch.WatchNote.{WatchNote}
use Rattle.mama_event.specs.Object.{same_object}
use Rattle.mama_rules_queue.specs.Queue.{deeds, calls_of as called_of}
use Rattle.mama_rules_queue.specs.Group.{group_notes}
use Rattle.mama_rules_queue.specs.Watch.{watch_notes}
use Rattle.mama_dispatch.specs.Callbacks.{calls_to, without}
use Rattle.mama_dispatch.proofs.CallbackLemmas.{others_stay}
use Rattle.mama_record.specs.RunView.{calls_in, calls_of, groups_of, watches_of}
use Rattle.mama_rules_rounds.specs.Client.{Planned}
use Rattle.mama_rules_rounds.specs.Setting.{Setting, Grouped, Watched}
use Rattle.mama_rules_rounds.specs.Sections.{groups_from, watches_from}
use Rattle.mama_rules_rounds.specs.Told.{noted, group_told, watch_told}
use Rattle.mama_seats.specs.Server.{Server}
use Rattle.mama_seats.specs.Heard.{group_lists, watch_lists}
use Rattle.mama_plans.specs.Lists.{group_row, watch_row, groups_on, watches_on, groups_on_each, watches_on_each}
use Rattle.mama_plans.specs.Numbered.{numbered, lists_put}
use Rattle.mama_plans.proofs.EachLemmas.{numbers_len, number_at}
use Rattle.mama_plans.proofs.NumberedLemmas.{put_more, told_by_queues, told_by_rows, no_group, no_watch, groups_numbered, watches_numbered}
use Rattle.mama_plans.specs.Orders.{orders_in}
use Rattle.mama_plans.specs.Image.{image_of}
use Rattle.mama_plans.specs.declared.plans.PlannedObject.{PlannedObject}
use Rattle.mama_plans.specs.Plans.{planned_object, planned_objects, AreApart}
use Rattle.mama_drive.specs.Scene.{objects_in, groups_in, watches_in, journal_in, heard_in}
use Rattle.mama_drive.specs.Record.{journal_at, calls_by}
use Rattle.mama_drive.specs.Given.{Lists, HasGiven, HaveGiven, calls_given, less}
use Rattle.mama_drive.specs.Numbered.{groups_given, watches_given}
use Rattle.mama_drive.proofs.LaneLemmas.{append_nil}
use Rattle.mama_drive.proofs.ServerLemmas.{own_objects}

module _ (objects : List Planned) (seats : List Server) (q : ℕ) where
  journal_here : (x : Server) → q < length seats → x ≡ get_or seats q x → x.journal ≡ journal_at (map journal_in seats) q
  journal_here x within is = ap journal_in is ∙ sym (get_or-map journal_in seats q x [] within)

  pub image_here : (s : SubId) (x : Server) → map objects_in seats ≡ map (λ (y : Server). objects) seats → q < length seats → x ≡ get_or seats q x
      → image_of x.objects x.journal s ≡ image_of objects (journal_at (map journal_in seats) q) s
  image_here s x shared within is =
      ap (λ k. image_of k x.journal s) (own_objects seats objects q x shared within is)
      ∙ ap (λ j. image_of objects j s) (journal_here x within is)

-- WHAT THE QUEUES GAVE UP

-- one queue more
pub given_more : (ss : List Server) (gs : List Lists) (s : Server) (g : Lists) → HaveGiven ss gs → HasGiven s g → HaveGiven (ss ++ s ∷ []) (gs ++ g ∷ [])
given_more [] [] s g have has = (has, tt)
given_more [] (h ∷ gs) s g have has = absurd have
given_more (t ∷ ss) [] s g have has = absurd have
given_more (t ∷ ss) (h ∷ gs) s g have has = (have.0, given_more ss gs s g have.1 has)

-- the callbacks of an object are those by the journal of its queue
given_at : (objects : List Planned) (ss : List Server) (gs : List Lists) (q : ℕ) (o : ObjectId) → HaveGiven ss gs → map objects_in ss ≡ map (λ (s : Server). objects) ss
    → calls_to o (get_or gs q []) ≡ map noted (called_of o (deeds (orders_in objects) (get_or (map journal_in ss) q [])))
given_at objects [] [] q o have shared = refl
given_at objects [] (g ∷ gs) q o have shared = absurd have
given_at objects (s ∷ ss) [] q o have shared = absurd have
given_at objects (s ∷ ss) (g ∷ gs) zero o have shared =
    have.0 o ∙ ap (λ (k : List Planned). map noted (called_of o (deeds (orders_in k) s.journal))) (ap (λ (l : List (List Planned)). get_or l 0 objects) shared)
given_at objects (s ∷ ss) (g ∷ gs) (suc q) o have shared = given_at objects ss gs q o have.1 (ap (drop 1) shared)

pub given_calls : (objects : List Planned) (ss : List Server) (gs : List Lists) (ps : List Planned) → HaveGiven ss gs → map objects_in ss ≡ map (λ (s : Server). objects) ss
    → map (calls_given gs) ps ≡ map (calls_by objects (map journal_in ss)) ps
given_calls objects ss gs [] have shared = refl
given_calls objects ss gs (p ∷ ps) have shared =
    ap (λ (l : List CallNote). record { object = p.object; calls = l } ∷ map (calls_given gs) ps) (given_at objects ss gs p.queue p.object have shared)
    ∙ ap (λ l. calls_by objects (map journal_in ss) p ∷ l) (given_calls objects ss gs ps have shared)

-- HOW CALLBACKS ARE TAKEN OUT

lists_stay : (gs : List Lists) (i j : ℕ) (o x : ObjectId) → same_object o x ≡ false → calls_to x (get_or (set gs i (without o (get_or gs i []))) j []) ≡ calls_to x (get_or gs j [])
lists_stay [] i j o x other = refl
lists_stay (g ∷ gs) zero zero o x other = others_stay o x other g
lists_stay (g ∷ gs) zero (suc j) o x other = refl
lists_stay (g ∷ gs) (suc i) zero o x other = refl
lists_stay (g ∷ gs) (suc i) (suc j) o x other = lists_stay gs i j o x other

-- what is to be taken out still is there as it was at first
pub record AreLeft (first left : List Lists) (ps : List Planned) : Type 0 where
  pub apart : AreApart ps
  pub there : AllByRecursion (λ (p : Planned). calls_given left p ≡ calls_given first p) ps

all_there : (gs : List Lists) (ps : List Planned) → AllByRecursion (λ (p : Planned). calls_given gs p ≡ calls_given gs p) ps
all_there gs [] = tt
all_there gs (p ∷ ps) = (refl, all_there gs ps)

pub left_first : (gs : List Lists) (ps : List Planned) → AreApart ps → AreLeft gs gs ps
left_first gs ps apart = record { apart = apart; there = all_there gs ps }

still_there : (first left : List Lists) (p : Planned) (ps : List Planned) → AllByRecursion (λ (q : Planned). same_object p.object q.object ≡ false) ps
    → AllByRecursion (λ (q : Planned). calls_given left q ≡ calls_given first q) ps → AllByRecursion (λ (q : Planned). calls_given (less p left) q ≡ calls_given first q) ps
still_there first left p [] others there = tt
still_there first left p (q ∷ qs) others there = (
  ap (λ (l : List CallNote). record { object = q.object; calls = l }) (lists_stay left p.queue q.queue p.object q.object others.0) ∙ there.0,
  still_there first left p qs others.1 there.1,
)

left_head : (first left : List Lists) (p : Planned) (ps : List Planned) → AreLeft first left (p ∷ ps) → AreLeft first (less p left) ps
left_head first left p ps h = record { apart = h.apart.1; there = still_there first left p ps h.apart.0 h.there.1 }

module _ (first left : List Lists) (objects : List PlannedObject) (i : ℕ) (p : PlannedObject) (within : i < length objects) (here : p ≡ get_or objects i p)
    (h : AreLeft first left (planned_objects (drop i objects))) where
  parted : AreLeft first left (planned_object p ∷ planned_objects (drop (i + 1) objects))
  parted = subst (λ (x : PlannedObject). AreLeft first left (planned_object x ∷ planned_objects (drop (i + 1) objects))) (sym here)
      (subst (λ (xs : List PlannedObject). AreLeft first left (planned_objects xs)) (drop_more objects i p within) h)

  -- one object was taken out
  pub left_next : AreLeft first (less (planned_object p) left) (planned_objects (drop (i + 1) objects))
  left_next = left_head first left (planned_object p) (planned_objects (drop (i + 1) objects)) parted

  pub moved_next : (calls : List (ObjectId × Vec CallNote)) (notes : Vec CallNote) → calls_of calls ≡ map (calls_given first) (planned_objects (take i objects))
      → notes.items ≡ (calls_given left (planned_object p)).calls
      → calls_of (calls ++ (p.object, notes) ∷ []) ≡ map (calls_given first) (planned_objects (take (i + 1) objects))
  moved_next calls notes moved told =
      map-append calls_in calls ((p.object, notes) ∷ [])
      ∙ ap (λ l. l ++ record { object = p.object; calls = notes.items } ∷ []) moved
      ∙ ap (λ (l : List CallNote). map (calls_given first) (planned_objects (take i objects)) ++ record { object = p.object; calls = l } ∷ []) told
      ∙ ap (λ c. map (calls_given first) (planned_objects (take i objects)) ++ c ∷ []) parted.there.0
      ∙ ap (λ (x : PlannedObject). map (calls_given first) (planned_objects (take i objects)) ++ calls_given first (planned_object x) ∷ []) here
      ∙ sym (ap (map (calls_given first)) (map-append planned_object (take i objects) (get_or objects i p ∷ []))
      ∙ map-append (calls_given first) (planned_objects (take i objects)) (planned_object (get_or objects i p) ∷ []))
      ∙ sym (ap (λ (xs : List PlannedObject). map (calls_given first) (planned_objects xs)) (take_more objects i p within))

-- ONE OBJECT'S CALLBACKS

same_default : (gs : List Lists) (q : ℕ) (x y : Lists) → q < length gs → get_or gs q x ≡ get_or gs q y
same_default [] q x y within = absurd (omega (arith, within))
same_default (g ∷ gs) zero x y within = refl
same_default (g ∷ gs) (suc q) x y within = same_default gs q x y (omega (arith, within))

module _ (gs : List Lists) (p : Planned) where
  pub calls_there : (x : Lists) (notes : List CallNote) → p.queue < length gs → x ≡ get_or gs p.queue x → notes ≡ calls_to p.object x → notes ≡ (calls_given gs p).calls
  calls_there x notes within here told = told ∙ ap (calls_to p.object) (here ∙ same_default gs p.queue x [] within)

  pub less_there : (x y : Lists) → p.queue < length gs → x ≡ get_or gs p.queue x → y ≡ without p.object x → set gs p.queue y ≡ less p gs
  less_there x y within here taken = ap (λ (l : Lists). set gs p.queue l) (taken ∙ ap (without p.object) (here ∙ same_default gs p.queue x [] within))

  pub calls_past : (notes : List CallNote) → length gs ≤ p.queue → notes ≡ [] → notes ≡ (calls_given gs p).calls
  calls_past notes past none = none ∙ sym (ap (calls_to p.object) (get_or-eq_default gs [] past))

  pub less_past : length gs ≤ p.queue → gs ≡ less p gs
  less_past past = sym (set_past gs p.queue (without p.object (get_or gs p.queue [])) past)

-- WHAT GROUPS HEARD AND WATCHES NOTED

-- one queue more
pub groups_more : (ss : List Server) (s : Server) (lists : List (ℕ × List GroupNote))
    → lists_put (groups_given (ss ++ s ∷ [])) lists ≡ lists_put (group_lists (orders_in s.objects) s.heard s.groups) (lists_put (groups_given ss) lists)
groups_more ss s lists =
    ap (λ l. lists_put l lists) (flat_map-append (λ (t : Server). group_lists (orders_in t.objects) t.heard t.groups) ss (s ∷ [])
    ∙ ap (λ l. groups_given ss ++ l) (append_nil (group_lists (orders_in s.objects) s.heard s.groups)))
    ∙ put_more (groups_given ss) (group_lists (orders_in s.objects) s.heard s.groups) lists

pub watches_more : (ss : List Server) (s : Server) (lists : List (ℕ × List WatchNote))
    → lists_put (watches_given (ss ++ s ∷ [])) lists ≡ lists_put (watch_lists (orders_in s.objects) s.journal s.watches) (lists_put (watches_given ss) lists)
watches_more ss s lists =
    ap (λ l. lists_put l lists) (flat_map-append (λ (t : Server). watch_lists (orders_in t.objects) t.journal t.watches) ss (s ∷ [])
    ∙ ap (λ l. watches_given ss ++ l) (append_nil (watch_lists (orders_in s.objects) s.journal s.watches)))
    ∙ put_more (watches_given ss) (watch_lists (orders_in s.objects) s.journal s.watches) lists

-- the lists of a vector, and of a record
pub groups_as : (lists : List (ℕ × Vec GroupNote)) → groups_of lists ≡ map (λ (e : ℕ × List GroupNote). record { group = e.0; notes = e.1 }) (numbered lists)
groups_as [] = refl
groups_as (g ∷ gs) = ap (λ l. record { group = g.0; notes = g.1.items } ∷ l) (groups_as gs)

pub watches_as : (lists : List (ℕ × Vec WatchNote)) → watches_of lists ≡ map (λ (e : ℕ × List WatchNote). record { watch = e.0; notes = e.1 }) (numbered lists)
watches_as [] = refl
watches_as (w ∷ ws) = ap (λ l. record { watch = w.0; notes = w.1.items } ∷ l) (watches_as ws)

-- with its queues' seats, which know these objects, and were told all
module _ (objects : List Planned) (ss : List Server) (queues : ℕ) (count : length ss ≡ queues) (shared : map objects_in ss ≡ map (λ (s : Server). objects) ss)
    (told : map heard_in ss ≡ map journal_in ss) where
  abbrev none : Server
  none = record { objects = objects; groups = []; watches = []; journal = []; heard = []; lane = [] }

  abbrev journal_of : ℕ → List (ℕ × QueueNote)
  journal_of q = get_or (map journal_in ss) q []

  objects_at : (q : ℕ) → q < length ss → (get_or ss q none).objects ≡ objects
  objects_at q within = sym (get_or-map objects_in ss q none objects within) ∙ ap (λ (l : List (List Planned)). get_or l q objects) shared ∙ get_or-map (λ (s : Server). objects) ss q none objects within

  journal_at_queue : (q : ℕ) → q < length ss → (get_or ss q none).journal ≡ journal_of q
  journal_at_queue q within = sym (get_or-map journal_in ss q none [] within)

  heard_at_queue : (q : ℕ) → q < length ss → (get_or ss q none).heard ≡ journal_of q
  heard_at_queue q within = sym (get_or-map heard_in ss q none [] within) ∙ ap (λ (l : List (List (ℕ × QueueNote))). get_or l q []) told

  number_there : (q : ℕ) → q < length ss → (q < length (numbers_below queues)) × (get_or (numbers_below queues) q 0 ≡ q)
  number_there q within =
      let small : q < queues = subst (λ n. q < n) count within in
      (subst (λ n. q < n) (sym (numbers_len queues)) small, number_at queues q 0 small)

  elsewhere : (q : ℕ) → queues ≤ q → journal_of q ≡ []
  elsewhere q past = get_or-eq_default (map journal_in ss) [] (let more : length (map journal_in ss) ≤ q = omega (arith, past, count, length-map ss journal_in) in more)

  pub groups_whole : (rows : List GroupRow) → map groups_in ss ≡ groups_on_each queues (groups_from objects 0 rows)
      → lists_put (groups_given ss) (map (λ n. (n, [])) (numbers_below (length (groups_from objects 0 rows))))
      ≡ map (λ (g : Grouped). (g.number, group_notes (orders_in objects) g.members (journal_of g.queue))) (groups_from objects 0 rows)
  groups_whole rows grouped =
      let gs : List Grouped = groups_from objects 0 rows in
      let notes : Grouped → List GroupNote = λ g. group_notes (orders_in objects) g.members (journal_of g.queue) in
      told_by_queues (λ (g : Grouped). g.number) (λ (g : Grouped). g.queue) notes no_group queues gs (groups_numbered objects rows)
      (λ g past. ap (group_notes (orders_in objects) g.members) (elsewhere g.queue past))
      (λ (s : Server). group_lists (orders_in s.objects) s.heard s.groups) none ss count
      (λ q within.
      let x : Server = get_or ss q none in
      let there = number_there q within in
      let own : x.groups ≡ groups_on gs q =
      sym (get_or-map groups_in ss q none [] within) ∙ ap (λ (l : List (List (ℕ × GroupRow))). get_or l q []) grouped
      ∙ get_or-map (groups_on gs) (numbers_below queues) q 0 [] there.0 ∙ ap (groups_on gs) there.1 in
      ap (λ (o : List Planned). group_lists (orders_in o) x.heard x.groups) (objects_at q within)
      ∙ ap (λ (j : List (ℕ × QueueNote)). group_lists (orders_in objects) j x.groups) (heard_at_queue q within)
      ∙ ap (group_lists (orders_in objects) (journal_of q)) own
      ∙ told_by_rows (λ (g : Grouped). g.number) (λ (g : Grouped). g.queue) notes no_group queues gs (groups_numbered objects rows)
      (λ g past. ap (group_notes (orders_in objects) g.members) (elsewhere g.queue past))
      group_row (λ (g : ℕ × GroupRow). (g.0, group_notes (orders_in objects) g.1.members (journal_of q))) q
      (λ g on. ap (λ (k : ℕ). let e : ℕ × List GroupNote = (g.number, group_notes (orders_in objects) g.members (journal_of k)) in e) (sym on)))

  pub watches_whole : (rows : List WatchRow) → map watches_in ss ≡ watches_on_each queues (watches_from objects 0 rows)
      → lists_put (watches_given ss) (map (λ n. (n, [])) (numbers_below (length (watches_from objects 0 rows))))
      ≡ map (λ (w : Watched). (w.number, watch_notes (orders_in objects) w.row (journal_of w.queue))) (watches_from objects 0 rows)
  watches_whole rows watched =
      let ws : List Watched = watches_from objects 0 rows in
      let notes : Watched → List WatchNote = λ w. watch_notes (orders_in objects) w.row (journal_of w.queue) in
      told_by_queues (λ (w : Watched). w.number) (λ (w : Watched). w.queue) notes no_watch queues ws (watches_numbered objects rows)
      (λ w past. ap (watch_notes (orders_in objects) w.row) (elsewhere w.queue past))
      (λ (s : Server). watch_lists (orders_in s.objects) s.journal s.watches) none ss count
      (λ q within.
      let x : Server = get_or ss q none in
      let there = number_there q within in
      let own : x.watches ≡ watches_on ws q =
      sym (get_or-map watches_in ss q none [] within) ∙ ap (λ (l : List (List (ℕ × WatchRow))). get_or l q []) watched
      ∙ get_or-map (watches_on ws) (numbers_below queues) q 0 [] there.0 ∙ ap (watches_on ws) there.1 in
      ap (λ (o : List Planned). watch_lists (orders_in o) x.journal x.watches) (objects_at q within)
      ∙ ap (λ (j : List (ℕ × QueueNote)). watch_lists (orders_in objects) j x.watches) (journal_at_queue q within)
      ∙ ap (watch_lists (orders_in objects) (journal_of q)) own
      ∙ told_by_rows (λ (w : Watched). w.number) (λ (w : Watched). w.queue) notes no_watch queues ws (watches_numbered objects rows)
      (λ w past. ap (watch_notes (orders_in objects) w.row) (elsewhere w.queue past))
      watch_row (λ (w : ℕ × WatchRow). (w.0, watch_notes (orders_in objects) w.1 (journal_of q))) q
      (λ w on. ap (λ (k : ℕ). let e : ℕ × List WatchNote = (w.number, watch_notes (orders_in objects) w.row (journal_of k)) in e) (sym on)))

  -- as the record has them
  pub groups_recorded : (setting : Setting) (rows : List GroupRow) (lists room : List (ℕ × Vec GroupNote)) → objects ≡ setting.objects → map groups_in ss ≡ groups_on_each queues (groups_from objects 0 rows)
      → numbered lists ≡ lists_put (groups_given ss) (numbered room) → numbered room ≡ map (λ n. (n, [])) (numbers_below (length (groups_from objects 0 rows)))
      → groups_of lists ≡ map (group_told setting (map journal_in ss)) (groups_from objects 0 rows)
  groups_recorded setting rows lists room known grouped put empty =
      groups_as lists
      ∙ ap (map (λ (e : ℕ × List GroupNote). record { group = e.0; notes = e.1 })) (put ∙ ap (lists_put (groups_given ss)) empty ∙ groups_whole rows grouped)
      ∙ each (groups_from objects 0 rows)
    where
      each : (gs : List Grouped) → map (λ (e : ℕ × List GroupNote). record { group = e.0; notes = e.1 }) (map (λ (g : Grouped). (g.number, group_notes (orders_in objects) g.members (journal_of g.queue))) gs)
          ≡ map (group_told setting (map journal_in ss)) gs
      each [] = refl
      each (g ∷ gs) =
          ap (λ (o : List Planned). record { group = g.number; notes = group_notes (orders_in o) g.members (journal_of g.queue) }
          ∷ map (λ (e : ℕ × List GroupNote). record { group = e.0; notes = e.1 }) (map (λ (h : Grouped). (h.number, group_notes (orders_in objects) h.members (journal_of h.queue))) gs)) known
          ∙ ap (λ l. group_told setting (map journal_in ss) g ∷ l) (each gs)

  pub watches_recorded : (setting : Setting) (rows : List WatchRow) (lists room : List (ℕ × Vec WatchNote)) → objects ≡ setting.objects → map watches_in ss ≡ watches_on_each queues (watches_from objects 0 rows)
      → numbered lists ≡ lists_put (watches_given ss) (numbered room) → numbered room ≡ map (λ n. (n, [])) (numbers_below (length (watches_from objects 0 rows)))
      → watches_of lists ≡ map (watch_told setting (map journal_in ss)) (watches_from objects 0 rows)
  watches_recorded setting rows lists room known watched put empty =
      watches_as lists
      ∙ ap (map (λ (e : ℕ × List WatchNote). record { watch = e.0; notes = e.1 })) (put ∙ ap (lists_put (watches_given ss)) empty ∙ watches_whole rows watched)
      ∙ each (watches_from objects 0 rows)
    where
      each : (ws : List Watched) → map (λ (e : ℕ × List WatchNote). record { watch = e.0; notes = e.1 }) (map (λ (w : Watched). (w.number, watch_notes (orders_in objects) w.row (journal_of w.queue))) ws)
          ≡ map (watch_told setting (map journal_in ss)) ws
      each [] = refl
      each (w ∷ ws) =
          ap (λ (o : List Planned). record { watch = w.number; notes = watch_notes (orders_in o) w.row (journal_of w.queue) }
          ∷ map (λ (e : ℕ × List WatchNote). record { watch = e.0; notes = e.1 }) (map (λ (v : Watched). (v.number, watch_notes (orders_in objects) v.row (journal_of v.queue))) ws)) known
          ∙ ap (λ l. watch_told setting (map journal_in ss) w ∷ l) (each ws)
