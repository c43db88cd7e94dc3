-- What the groups of a crew's seats heard, put by number, is what all groups hear by the journals of their queues; and their
-- listeners heard that.
use Rattle.std.specs.Prelude.{filter, slice_index_or}
use Rattle.std.specs.List.{All, AllByRecursion, AllZip, flat_map, slice_get}
use Rattle.std.proofs.Common.{◌≡◌, ℕ, zero, suc, ◌+◌, ◌<◌, ◌≤◌, ◌==◌, Bool, true, false, cond, eqb, List, [], ◌∷◌, ◌++◌, length, map, set, get_or, Option, None, Some, unwrap_or, refl, sym, ap, subst, ◌∙◌, append_assoc, length-append, arith}
use Rattle.std.proofs.lemmas.Bool.{eqb-true, eqb-false}
use Rattle.std.proofs.lemmas.List.{take_all}
use Rattle.std.proofs.lemmas.List.Concat.{flat_map-append}
use Rattle.std.proofs.lemmas.List.Elements.{All-from_recursion, recursion_from_All}
use Rattle.mama_journal.specs.Journal.{numbers_below}
use Rattle.mama_edge.specs.declared.gate.GateActor.{GateActor}
use Rattle.mama_edge.specs.declared.gate.GateActor.TheVariants as gate
use Rattle.mama_event.specs.Ports.{clients_of, publishers_of, queues_of}
use Rattle.mama_event.specs.declared.ids.SubId.{SubId}
use Rattle.mama_event.specs.declared.group.GroupNote.{GroupNote}
use Rattle.mama_event.specs.declared.group.GroupRow.{GroupRow}
use Rattle.mama_event.specs.declared.shape.Shape.{Shape}
use Rattle.mama_event.specs.declared.to_queue.QueueNote.{QueueNote}
use Rattle.mama_script.specs.Script.{ScriptData}
use Rattle.mama_record.specs.RunData.{GroupNotes}
use Rattle.mama_rules_queue.specs.Group.{group_notes}
use Rattle.mama_rules_rounds.specs.Client.{Planned}
use Rattle.mama_rules_rounds.specs.Setting.{Grouped, orders_by}
use Rattle.mama_rules_rounds.specs.Sections.{setting_of, planned_in, groups_from}
use Rattle.mama_rules_rounds.specs.Told.{group_told}
use Rattle.mama_plans.specs.Orders.{orders_in}
use Rattle.mama_plans.specs.Lists.{group_row}
use Rattle.mama_plans.specs.Numbered.{lists_put}
use Rattle.mama_plans.proofs.EachLemmas.{numbers_len}
use Rattle.mama_plans.proofs.NumberedLemmas.{no_group, groups_numbered, groups_count, put_by_number}
use Rattle.mama_group.specs.Listener.{GroupListenerData}
use Rattle.mama_group.specs.Table.{GroupData}
use Rattle.mama_crew.specs.Crew.{actors_of, client_actors, publisher_actors, queue_actors}
use Rattle.mama_crew.specs.Hall.{HallValue}
use Rattle.mama_crew.specs.Seat as crew
use Rattle.mama_crew.specs.Seat.{journal_in}
use Rattle.mama_crew.specs.declared.seat.Seat.{Seat}
use Rattle.mama_crew.specs.declared.seat.Seat.TheVariants.{Client, Publisher, Bridge, Timers, Queue}
use Rattle.mama_crew.specs.Journals.{events_in}
use Rattle.mama_grouped.specs.Back.{IsBack}
use Rattle.mama_grouped.specs.Closing.{IsBy, AreFound, AreInOrder}
use Rattle.mama_grouped.specs.Seat.{own_groups, HasHeard, IsHearing}

-- ---- listeners in their places

some_same : {X : Type 0} (x y : X) → Some x ≡ Some y → x ≡ y
some_same x y e = ap (λ o. unwrap_or o x) e

set_same : {X : Type 0} (xs : List X) (i : ℕ) (y x : X) → slice_get xs i ≡ Some x → slice_get (set xs i y) i ≡ Some y
set_same [] i y x at = absurd cc
set_same (z ∷ zs) zero y x at = refl
set_same (z ∷ zs) (suc i) y x at = set_same zs i y x at

set_other : {X : Type 0} (xs : List X) (i k : ℕ) (y : X) → (k ≡ i → ⊥) → slice_get (set xs i y) k ≡ slice_get xs k
set_other [] i k y apart = refl
set_other (z ∷ zs) zero zero y apart = absurd (apart refl)
set_other (z ∷ zs) zero (suc k) y apart = refl
set_other (z ∷ zs) (suc i) zero y apart = refl
set_other (z ∷ zs) (suc i) (suc k) y apart = set_other zs i k y (λ e. apart (ap (λ (n : ℕ). suc n) e))

set_within : {X : Type 0} (xs : List X) (i : ℕ) (y x : X) → slice_get (set xs i y) i ≡ Some x → slice_get (set xs i y) i ≡ Some y
set_within [] i y x at = absurd cc
set_within (z ∷ zs) zero y x at = refl
set_within (z ∷ zs) (suc i) y x at = set_within zs i y x at

module _ {H : Type 0} (view : H → GroupListenerData) (by : ℕ → List GroupNote) where
  pub found_put : (found : List (Option H)) (place : ℕ) (listener : H) → HasHeard place (by place) (view listener) → AreFound view by found → AreFound view by (set found place (Some listener))
  found_put found place listener heard were k l at = go (eqb k place) refl
    where
      go : (b : Bool) → eqb k place ≡ b → HasHeard k (by k) (view l)
      go true e =
          let here : k ≡ place = eqb-true k place e in
          let there : slice_get (set found place (Some listener)) place ≡ Some (Some l) = ap (λ (n : ℕ). slice_get (set found place (Some listener)) n) (sym here) ∙ at in
          let same : listener ≡ l = some_same listener l (some_same (Some listener) (Some l) (sym (set_within found place (Some listener) (Some l) there) ∙ there)) in
          subst (λ (n : ℕ). HasHeard n (by n) (view l)) (sym here) (subst (λ (x : H). HasHeard place (by place) (view x)) same heard)
      go false e = were k l (sym (set_other found place k (Some listener) (eqb-false k place e)) ∙ at)

  pub none_found : (found : List (Option H)) → AllByRecursion (λ (o : Option H). o ≡ None) found → AreFound view by found
  none_found found none k l at = absurd (none_at found none k l at)
    where
      none_at : (found : List (Option H)) → AllByRecursion (λ (o : Option H). o ≡ None) found → (k : ℕ) (l : H) → slice_get found k ≡ Some (Some l) → ⊥
      none_at [] none k l at = absurd cc
      none_at (o ∷ os) none zero l at = let bad : None ≡ Some l = sym none.0 ∙ some_same o (Some l) at in absurd cc
      none_at (o ∷ os) none (suc k) l at = none_at os none.1 k l at

  pub order_more : (n : ℕ) (backs : List (ℕ × H)) (m : ℕ) (l : H) → m ≡ n + length backs → HasHeard m (by m) (view l) → AreInOrder view by n backs → AreInOrder view by n (backs ++ (m, l) ∷ [])
  order_more n [] m l is heard order = let same : m ≡ n = omega (arith, is) in (same, subst (λ (k : ℕ). HasHeard k (by k) (view l)) same heard, tt)
  order_more n (b ∷ bs) m l is heard order = (order.0, order.1, order_more (suc n) bs m l (omega (arith, is)) heard order.2)

pub none_more : {H : Type 0} (found : List (Option H)) → AllByRecursion (λ (o : Option H). o ≡ None) found → AllByRecursion (λ (o : Option H). o ≡ None) (found ++ None ∷ [])
none_more [] none = (refl, tt)
none_more (o ∷ os) none = (none.0, none_more os none.1)

pub seam_is : {H : Type 0} (done : List (ℕ × H)) (l : H) (rest found : List (Option H)) → map (λ (b : ℕ × H). Some b.1) done ++ Some l ∷ rest ≡ found → slice_get found (length done) ≡ Some (Some l)
seam_is done l rest found whole = ap (λ (os : List (Option _)). slice_get os (length done)) (sym whole) ∙ at done
  where
    at : (ds : List (ℕ × _)) → slice_get (map (λ b. Some b.1) ds ++ Some l ∷ rest) (length ds) ≡ Some (Some l)
    at [] = refl
    at (d ∷ ds) = at ds

-- ---- what is counted from one on

abbrev pub IsFrom : ℕ → List ℕ → Type 0
IsFrom k [] = Unit {0}
IsFrom k (x ∷ xs) = (x ≡ k) × IsFrom (suc k) xs

from_more : (k : ℕ) (xs : List ℕ) (n : ℕ) → n ≡ k + length xs → IsFrom k xs → IsFrom k (xs ++ n ∷ [])
from_more k [] n is from = (omega (arith, is), tt)
from_more k (x ∷ xs) n is from = (from.0, from_more (suc k) xs n (omega (arith, is)) from.1)

from_below : (n : ℕ) → IsFrom 0 (numbers_below n)
from_below zero = tt
from_below (suc n) = let long = numbers_len n in from_more 0 (numbers_below n) n (omega (arith, long)) (from_below n)

groups_from_on : (objects : List Planned) (n : ℕ) (rows : List GroupRow) → IsFrom n (map (λ (g : Grouped). g.number) (groups_from objects n rows))
groups_from_on objects n [] = tt
groups_from_on objects n (row ∷ rows) = (refl, groups_from_on objects (suc n) rows)

-- ---- the queues among actors

abbrev queue_in : GateActor → List ℕ
queue_in (gate.Queue n) = n ∷ []
queue_in (gate.Client c) = []
queue_in (gate.Publisher p) = []
queue_in gate.Bridge = []
queue_in gate.Timers = []

none_of : {X : Type 0} (f : GateActor → List X) (actor : ℕ → GateActor) → ((n : ℕ) → f (actor n) ≡ []) → (ns : List ℕ) → flat_map f (map actor ns) ≡ []
none_of f actor none [] = refl
none_of f actor none (n ∷ ns) = ap (λ xs. xs ++ flat_map f (map actor ns)) (none n) ∙ none_of f actor none ns

each_of : {X : Type 0} (f : GateActor → List X) (g : ℕ → List X) → ((n : ℕ) → f (gate.Queue n) ≡ g n) → (ns : List ℕ) → flat_map f (map (λ q. gate.Queue q) ns) ≡ flat_map g ns
each_of f g same [] = refl
each_of f g same (n ∷ ns) = ap (λ xs. xs ++ flat_map f (map (λ q. gate.Queue q) ns)) (same n) ∙ ap (λ xs. g n ++ xs) (each_of f g same ns)

-- what queues alone have, of all actors of a shape
of_queues : {X : Type 0} (f : GateActor → List X) (g : ℕ → List X) → ((n : ℕ) → f (gate.Client n) ≡ []) → ((n : ℕ) → f (gate.Publisher n) ≡ []) → f gate.Bridge ≡ [] → f gate.Timers ≡ []
    → ((n : ℕ) → f (gate.Queue n) ≡ g n) → (shape : Shape) → flat_map f (actors_of shape) ≡ flat_map g (numbers_below (queues_of shape))
of_queues f g client publisher bridge timers queue shape =
    flat_map-append f (client_actors shape) (publisher_actors shape ++ (gate.Bridge ∷ gate.Timers ∷ queue_actors shape))
    ∙ ap (λ xs. xs ++ flat_map f (publisher_actors shape ++ (gate.Bridge ∷ gate.Timers ∷ queue_actors shape))) (none_of f (λ c. gate.Client c) client (numbers_below (clients_of shape)))
    ∙ flat_map-append f (publisher_actors shape) (gate.Bridge ∷ gate.Timers ∷ queue_actors shape)
    ∙ ap (λ xs. xs ++ flat_map f (gate.Bridge ∷ gate.Timers ∷ queue_actors shape)) (none_of f (λ p. gate.Publisher p) publisher (numbers_below (publishers_of shape)))
    ∙ ap (λ xs. xs ++ (f gate.Timers ++ flat_map f (queue_actors shape))) bridge
    ∙ ap (λ xs. xs ++ flat_map f (queue_actors shape)) timers
    ∙ each_of f g queue (numbers_below (queues_of shape))

ones : (ns : List ℕ) → flat_map (λ n. n ∷ []) ns ≡ ns
ones [] = refl
ones (n ∷ ns) = ap (λ xs. n ∷ xs) (ones ns)

queues_in : (shape : Shape) → flat_map queue_in (actors_of shape) ≡ numbers_below (queues_of shape)
queues_in shape = of_queues queue_in (λ n. n ∷ []) (λ n. refl) (λ n. refl) refl refl (λ n. refl) shape ∙ ones (numbers_below (queues_of shape))

-- ---- the journals of the queues, in order

-- what a seat took is the journal of its queue's number
abbrev pub IsAt : {L : Type 0} → List (List (ℕ × QueueNote)) → Seat L → Type 0
IsAt journals (Queue n post) = slice_index_or journals n [] ≡ post.served.journal
IsAt journals (Client c seat) = Unit {0}
IsAt journals (Publisher p post) = Unit {0}
IsAt journals (Bridge post) = Unit {0}
IsAt journals (Timers post) = Unit {0}

at_seam : (before : List (List (ℕ × QueueNote))) (j : List (ℕ × QueueNote)) (after : List (List (ℕ × QueueNote))) → slice_index_or (before ++ j ∷ after) (length before) [] ≡ j
at_seam [] j after = refl
at_seam (b ∷ bs) j after = at_seam bs j after

abbrev pub all_events : {L : Type 0} → List (Seat L) → List (List (ℕ × QueueNote))
all_events seats = flat_map events_in seats

pub journals_at : {L : Type 0} (before : List (List (ℕ × QueueNote))) (seats : List (Seat L)) → IsFrom (length before) (flat_map queue_in (map crew.actor_of seats)) → AllByRecursion (IsAt (before ++ all_events seats)) seats
journals_at before [] from = tt
journals_at {L = L} before (Queue n post ∷ seats) from =
    let j : List (ℕ × QueueNote) = post.served.journal in
    let long : length (before ++ j ∷ []) ≡ suc (length before) = length-append before (j ∷ []) ∙ omega arith in (
      ap (λ (k : ℕ). slice_index_or (before ++ j ∷ all_events seats) k []) from.0 ∙ at_seam before j (all_events seats),
      subst (λ (js : List (List (ℕ × QueueNote))). AllByRecursion (IsAt {L = L} js) seats) (append_assoc before (j ∷ []) (all_events seats))
          (journals_at (before ++ j ∷ []) seats (subst (λ (k : ℕ). IsFrom k (flat_map queue_in (map crew.actor_of seats))) (sym long) from.1)),
    )
journals_at before (Client c seat ∷ seats) from = (tt, journals_at before seats from)
journals_at before (Publisher p post ∷ seats) from = (tt, journals_at before seats from)
journals_at before (Bridge post ∷ seats) from = (tt, journals_at before seats from)
journals_at before (Timers post ∷ seats) from = (tt, journals_at before seats from)

count_events : {L : Type 0} (seats : List (Seat L)) → length (all_events seats) ≡ length (flat_map queue_in (map crew.actor_of seats))
count_events [] = refl
count_events (Queue n post ∷ seats) = ap (λ (k : ℕ). suc k) (count_events seats)
count_events (Client c seat ∷ seats) = count_events seats
count_events (Publisher p post ∷ seats) = count_events seats
count_events (Bridge post ∷ seats) = count_events seats
count_events (Timers post ∷ seats) = count_events seats

past : (journals : List (List (ℕ × QueueNote))) (n : ℕ) → length journals ≤ n → slice_index_or journals n [] ≡ []
past [] n le = refl
past (j ∷ js) zero le = absurd (omega (arith, le))
past (j ∷ js) (suc n) le = past js n (omega (arith, le))

-- ---- what the groups of a script hear

module _ (script : ScriptData) (journals : List (List (ℕ × QueueNote))) where
  abbrev pub all_groups : List Grouped
  all_groups = (setting_of script).groups

  abbrev pub told : Grouped → List GroupNote
  told g = group_notes (orders_by (setting_of script)) g.members (slice_index_or journals g.queue [])

  -- what is heard by the group of a number
  abbrev pub told_by : ℕ → List GroupNote
  told_by k = told (get_or all_groups k no_group)

  abbrev pub on_queue : ℕ → List (ℕ × List GroupNote)
  on_queue q = map (λ (g : Grouped). (g.number, told g)) (filter (λ (g : Grouped). g.queue == q) all_groups)

  -- the groups of a queue's seat that was told all heard what they hear
  abbrev row : GroupData → ℕ × List SubId
  row g = (g.number, g.members)

  abbrev by_row : List (ℕ × QueueNote) → ℕ × List SubId → ℕ × List GroupNote
  by_row journal r = (r.0, group_notes (orders_by (setting_of script)) r.1 journal)

  heard_rows : (journal : List (ℕ × QueueNote)) (gs : List GroupData)
      → map (λ (g : GroupData). g.notes) gs ≡ map (λ (g : GroupData). group_notes (orders_by (setting_of script)) g.members journal) gs → map (λ (g : GroupData). (g.number, g.notes)) gs ≡ map (by_row journal) (map row gs)
  heard_rows journal [] same = refl
  heard_rows journal (g ∷ gs) same =
      ap (λ (ns : List GroupNote). (g.number, ns) ∷ map (λ (g : GroupData). (g.number, g.notes)) gs) (first_same same)
      ∙ ap (λ (xs : List (ℕ × List GroupNote)). by_row journal (row g) ∷ xs) (heard_rows journal gs (rest_same same))
    where
      first_same : {X : Type 0} {x y : X} {xs ys : List X} → x ∷ xs ≡ y ∷ ys → x ≡ y
      first_same e = cc

      rest_same : {X : Type 0} {x y : X} {xs ys : List X} → x ∷ xs ≡ y ∷ ys → xs ≡ ys
      rest_same e = cc

  rows_on_queue : (q : ℕ) (journal : List (ℕ × QueueNote)) → slice_index_or journals q [] ≡ journal → (gs : List Grouped)
      → map (by_row journal) (map (λ (r : ℕ × GroupRow). (r.0, r.1.members)) (map group_row (filter (λ (g : Grouped). g.queue == q) gs))) ≡ map (λ (g : Grouped). (g.number, told g)) (filter (λ (g : Grouped). g.queue == q) gs)
  rows_on_queue q journal at [] = refl
  rows_on_queue q journal at (g ∷ gs) = go (g.queue == q) refl (rows_on_queue q journal at gs)
    where
      rest : List Grouped
      rest = filter (λ (h : Grouped). h.queue == q) gs

      go : (b : Bool) → (g.queue == q) ≡ b → map (by_row journal) (map (λ (r : ℕ × GroupRow). (r.0, r.1.members)) (map group_row rest)) ≡ map (λ (h : Grouped). (h.number, told h)) rest
          → map (by_row journal) (map (λ (r : ℕ × GroupRow). (r.0, r.1.members)) (map group_row (cond b (g ∷ rest) rest))) ≡ map (λ (h : Grouped). (h.number, told h)) (cond b (g ∷ rest) rest)
      go true e more =
          ap (λ (x : ℕ × List GroupNote). x ∷ map (by_row journal) (map (λ (r : ℕ × GroupRow). (r.0, r.1.members)) (map group_row rest)))
          (ap (λ (j : List (ℕ × QueueNote)). (g.number, group_notes (orders_by (setting_of script)) g.members j)) (sym at ∙ ap (λ (n : ℕ). slice_index_or journals n []) (sym (eqb-true g.queue q e))))
          ∙ ap (λ (xs : List (ℕ × List GroupNote)). (g.number, told g) ∷ xs) more
      go false e more = more

  abbrev pub lists_on : GateActor → List (ℕ × List GroupNote)
  lists_on (gate.Queue n) = on_queue n
  lists_on (gate.Client c) = []
  lists_on (gate.Publisher p) = []
  lists_on gate.Bridge = []
  lists_on gate.Timers = []

  -- so it is with each seat
  pub seat_lists : {L : Type 0} (hall : HallValue) (seat : Seat L) (gs : List GroupData) (all : ℕ) → hall.objects ≡ (setting_of script).objects → IsAt journals seat → length (journal_in seat) ≡ all → IsHearing script hall seat gs all
      → map (λ (g : GroupData). (g.number, g.notes)) gs ≡ lists_on (crew.actor_of seat)
  seat_lists hall seat gs all objects at end hears = go seat at rows
    where
      notes : map (λ (g : GroupData). g.notes) gs ≡ map (λ (g : GroupData). group_notes (orders_by (setting_of script)) g.members (journal_in seat)) gs
      notes =
          hears.notes
          ∙ ap (λ (j : List (ℕ × QueueNote)). map (λ (g : GroupData). group_notes (orders_in hall.objects) g.members j) gs) (take_all all (journal_in seat) (omega (arith, end)))
          ∙ ap (λ (os : List Planned). map (λ (g : GroupData). group_notes (orders_in os) g.members (journal_in seat)) gs) objects

      rows : map (λ (g : GroupData). (g.number, g.notes)) gs ≡ map (by_row (journal_in seat)) (own_groups script seat)
      rows = heard_rows (journal_in seat) gs notes ∙ ap (map (by_row (journal_in seat))) hears.rows

      go : {L : Type 0} (s : Seat L) → IsAt journals s → {heard : List (ℕ × List GroupNote)} → heard ≡ map (by_row (journal_in s)) (own_groups script s) → heard ≡ lists_on (crew.actor_of s)
      go (Queue n post) at same = same ∙ rows_on_queue n post.served.journal at all_groups
      go (Client c seat) at same = same
      go (Publisher p post) at same = same
      go (Bridge post) at same = same
      go (Timers post) at same = same

  pub all_lists : (shape : Shape) → flat_map lists_on (actors_of shape) ≡ flat_map on_queue (numbers_below (queues_of shape))
  all_lists shape = of_queues lists_on on_queue (λ n. refl) (λ n. refl) refl refl (λ n. refl) shape

  -- put by number they are all
  pub lists_whole : (shape : Shape) → length journals ≡ queues_of shape
      → lists_put (flat_map lists_on (actors_of shape)) (map (λ n. (n, [])) (numbers_below (length script.groups))) ≡ map (λ (g : Grouped). (g.number, told g)) all_groups
  lists_whole shape long =
      ap (λ (ls : List (ℕ × List GroupNote)). lists_put ls (map (λ n. (n, [])) (numbers_below (length script.groups)))) (all_lists shape)
      ∙ ap (λ (n : ℕ). lists_put (flat_map on_queue (numbers_below (queues_of shape))) (map (λ n. (n, [])) (numbers_below n))) (sym (groups_count (planned_in script) 0 script.groups))
      ∙ put_by_number (λ (g : Grouped). g.number) (λ (g : Grouped). g.queue) told no_group (queues_of shape) all_groups (groups_numbered (planned_in script) script.groups)
      (λ g le. ap (λ (j : List (ℕ × QueueNote)). group_notes (orders_by (setting_of script)) g.members j) (past journals g.queue (omega (arith, long, le))))

  -- ---- by number

  number_from : (n : ℕ) (gs : List Grouped) (of : ℕ → Grouped) → IsFrom n (map (λ (g : Grouped). g.number) gs) → ((i : ℕ) → i < length gs → of (n + i) ≡ get_or gs i no_group)
      → AllByRecursion (λ (g : Grouped). told g ≡ told (of g.number)) gs
  number_from n [] of from at = tt
  number_from n (g ∷ gs) of from at =
      let here : n + 0 ≡ g.number = let e = from.0 in omega (arith, e) in (
        ap told (sym (at 0 (omega arith)) ∙ ap of here),
        number_from (suc n) gs of from.1 (λ i less. let next : suc n + i ≡ n + suc i = omega arith in ap of next ∙ at (suc i) (omega (arith, less))),
      )

  pub by_number : AllByRecursion (λ (g : Grouped). told g ≡ told_by g.number) all_groups
  by_number = number_from 0 all_groups (λ k. get_or all_groups k no_group) (groups_from_on (planned_in script) 0 script.groups) (λ i less. let same : 0 + i ≡ i = omega arith in ap (λ (k : ℕ). get_or all_groups k no_group) same)

  by_on : (q : ℕ) (gs : List Grouped) → AllByRecursion (λ (g : Grouped). told g ≡ told_by g.number) gs
      → AllByRecursion (λ (e : ℕ × List GroupNote). e.1 ≡ told_by e.0) (map (λ (g : Grouped). (g.number, told g)) (filter (λ (g : Grouped). g.queue == q) gs))
  by_on q [] all = tt
  by_on q (g ∷ gs) all = go (g.queue == q) (by_on q gs all.1)
    where
      rest : List Grouped
      rest = filter (λ (h : Grouped). h.queue == q) gs

      go : (b : Bool) → AllByRecursion (λ (e : ℕ × List GroupNote). e.1 ≡ told_by e.0) (map (λ (h : Grouped). (h.number, told h)) rest)
          → AllByRecursion (λ (e : ℕ × List GroupNote). e.1 ≡ told_by e.0) (map (λ (h : Grouped). (h.number, told h)) (cond b (g ∷ rest) rest))
      go true more = (all.0, more)
      go false more = more

  by_actor : (actor : GateActor) → AllByRecursion (λ (e : ℕ × List GroupNote). e.1 ≡ told_by e.0) (lists_on actor)
  by_actor (gate.Queue n) = by_on n all_groups by_number
  by_actor (gate.Client c) = tt
  by_actor (gate.Publisher p) = tt
  by_actor gate.Bridge = tt
  by_actor gate.Timers = tt

  heard_by : (gs : List GroupData) → AllByRecursion (λ (e : ℕ × List GroupNote). e.1 ≡ told_by e.0) (map (λ (g : GroupData). (g.number, g.notes)) gs) → AllByRecursion (λ (g : GroupData). HasHeard g.number g.notes g.listener) gs
      → AllByRecursion (IsBy told_by) gs
  heard_by [] by heard = tt
  heard_by (g ∷ gs) by heard = (subst (λ (ns : List GroupNote). HasHeard g.number ns g.listener) by.0 heard.0, heard_by gs by.1 heard.1)

  pub seat_by : {L : Type 0} (hall : HallValue) (seat : Seat L) (gs : List GroupData) (all : ℕ) → hall.objects ≡ (setting_of script).objects → IsAt journals seat → length (journal_in seat) ≡ all → IsHearing script hall seat gs all → All (IsBy told_by) gs
  seat_by hall seat gs all objects at end hears =
      All-from_recursion (IsBy told_by) gs
      (heard_by gs (subst (AllByRecursion (λ (e : ℕ × List GroupNote). e.1 ≡ told_by e.0)) (sym (seat_lists hall seat gs all objects at end hears)) (by_actor (crew.actor_of seat)))
      (recursion_from_All (λ (g : GroupData). HasHeard g.number g.notes g.listener) gs hears.listeners))

  -- ---- the listeners that came back

  back_from : {H : Type 0} (view : H → GroupListenerData) (n : ℕ) (gs : List Grouped) (backs : List (ℕ × H)) → length gs ≡ length backs → IsFrom n (map (λ (g : Grouped). g.number) gs)
      → AllByRecursion (λ (g : Grouped). told g ≡ told_by g.number) gs → AreInOrder view told_by n backs → AllZip (IsBack view) (map (group_told (setting_of script) journals) gs) backs
  back_from view n [] [] long from by order = tt
  back_from view n [] (b ∷ bs) long from by order = absurd (omega (arith, long))
  back_from view n (g ∷ gs) [] long from by order = absurd (omega (arith, long))
  back_from view n (g ∷ gs) (b ∷ bs) long from by order = (
    record {
      number = order.0 ∙ sym from.0;
      heard = subst (λ (k : ℕ). HasHeard k (told g) (view b.1)) (sym from.0) (subst (λ (ns : List GroupNote). HasHeard n ns (view b.1)) (ap told_by (sym from.0) ∙ sym by.0) order.1);
    },
    back_from view (suc n) gs bs (omega (arith, long)) from.1 by.1 order.2,
  )

  pub all_back : {H : Type 0} (view : H → GroupListenerData) (backs : List (ℕ × H)) → length script.groups ≡ length backs → AreInOrder view told_by 0 backs → AllZip (IsBack view) (map (group_told (setting_of script) journals) all_groups) backs
  all_back view backs long order = back_from view 0 all_groups backs (groups_count (planned_in script) 0 script.groups ∙ long) (groups_from_on (planned_in script) 0 script.groups) by_number order

-- the lists of a record are those that were put
abbrev pub notes_with : ℕ × List GroupNote → GroupNotes
notes_with e = record { group = e.0; notes = e.1 }

pub put_told : (script : ScriptData) (journals : List (List (ℕ × QueueNote))) (gs : List Grouped)
    → map notes_with (map (λ (g : Grouped). (g.number, told script journals g)) gs) ≡ map (group_told (setting_of script) journals) gs
put_told script journals [] = refl
put_told script journals (g ∷ gs) = ap (λ (xs : List GroupNotes). group_told (setting_of script) journals g ∷ xs) (put_told script journals gs)

pub seats_at : {L : Type 0} (script : ScriptData) (seats : List (Seat L)) → map crew.actor_of seats ≡ actors_of script.shape → AllByRecursion (IsAt (all_events seats)) seats
seats_at script seats actors =
    journals_at [] seats (subst (λ (as_listed : List GateActor). IsFrom 0 (flat_map queue_in as_listed)) (sym actors) (subst (IsFrom 0) (sym (queues_in script.shape)) (from_below (queues_of script.shape))))

pub events_count : {L : Type 0} (script : ScriptData) (seats : List (Seat L)) → map crew.actor_of seats ≡ actors_of script.shape → length (all_events seats) ≡ queues_of script.shape
events_count script seats actors =
    count_events seats ∙ ap (λ (actors : List GateActor). length (flat_map queue_in actors)) actors ∙ ap (λ (ns : List ℕ). length ns) (queues_in script.shape) ∙ numbers_len (queues_of script.shape)
