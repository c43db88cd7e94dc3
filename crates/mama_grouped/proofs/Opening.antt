-- The seats of a new crew with the groups of their queues, which have heard nothing.
use Rattle.std.specs.Prelude.{IfSome, OnOk}
use Rattle.std.specs.List.{All, AllByRecursion, flat_map}
use Rattle.std.proofs.Common.{◌≡◌, ℕ, List, [], ◌∷◌, ◌++◌, true, length, map, take, Option, None, Some, Result, Ok, Err, refl, sym, ap, subst, ◌∙◌, arith}
use Rattle.std.proofs.lemmas.List.Concat.{flat_map-append}
use Rattle.std.proofs.lemmas.List.Elements.{All-from_recursion}
use Rattle.mama_journal.specs.Journal.{numbers_below}
use Rattle.mama_edge.specs.declared.gate.GateActor.{GateActor}
use Rattle.mama_edge.specs.declared.gate.GateActor.TheVariants as gate
use Rattle.mama_event.specs.Ports.{clients_of, publishers_of, queues_of}
use Rattle.mama_event.specs.declared.ids.SubId.{SubId}
use Rattle.mama_event.specs.declared.group.GroupNote.{GroupNote}
use Rattle.mama_event.specs.declared.group.GroupRow.{GroupRow}
use Rattle.mama_event.specs.declared.shape.Shape.{Shape}
use Rattle.mama_event.specs.declared.to_queue.QueueNote.{QueueNote}
use Rattle.mama_script.specs.Script.{ScriptData}
use Rattle.mama_script.specs.Within.{IsWithin}
use Rattle.mama_rules_queue.specs.Group.{group_notes}
use Rattle.mama_rules_rounds.specs.Setting.{Grouped}
use Rattle.mama_rules_rounds.specs.Sections.{setting_of, planned_in}
use Rattle.mama_plans.specs.Orders.{orders_in}
use Rattle.mama_plans.specs.Lists.{groups_on, groups_on_each}
use Rattle.mama_group.specs.Listener.{GroupListenerData, HeardOn}
use Rattle.mama_group.specs.Table.{GroupData, AreApart, HaveMembers, are_distinct, all_members, new_groups}
use Rattle.mama_crew.specs.Crew.{actors_of, client_actors, publisher_actors, queue_actors}
use Rattle.mama_crew.specs.Hall.{HallValue}
use Rattle.mama_crew.specs.New as begun
use Rattle.mama_crew.specs.Seat.{actor_of, journal_in}
use Rattle.mama_crew.specs.declared.seat.Seat.{Seat}
use Rattle.mama_crew.specs.declared.seat.Seat.TheVariants.{Client, Publisher, Bridge, Timers, Queue}
use Rattle.mama_grouped.specs.Opening.{rows_of_actor, AreNew}
use Rattle.mama_grouped.specs.Seat.{own_groups, HasHeard, IsHearing, Hears}
use Rattle.mama_grouped.proofs.Grouping.{apart_on, some_on, distinct_on}

-- ---- the lists of groups are those of the queues, in order

no_rows : (groups : List Grouped) (actor : ℕ → GateActor) → ((n : ℕ) → rows_of_actor groups (actor n) ≡ []) → (ns : List ℕ) → flat_map (rows_of_actor groups) (map actor ns) ≡ []
no_rows groups actor none [] = refl
no_rows groups actor none (n ∷ ns) = ap (λ xs. xs ++ flat_map (rows_of_actor groups) (map actor ns)) (none n) ∙ no_rows groups actor none ns

queue_rows : (groups : List Grouped) (ns : List ℕ) → flat_map (rows_of_actor groups) (map (λ q. gate.Queue q) ns) ≡ map (groups_on groups) ns
queue_rows groups [] = refl
queue_rows groups (n ∷ ns) = ap (λ xs. groups_on groups n ∷ xs) (queue_rows groups ns)

pub rows_each : (groups : List Grouped) (shape : Shape) → groups_on_each (queues_of shape) groups ≡ flat_map (rows_of_actor groups) (actors_of shape)
rows_each groups shape =
    let rows = flat_map (rows_of_actor groups) in
    let queues = gate.Bridge ∷ gate.Timers ∷ queue_actors shape in
    sym
    (flat_map-append (rows_of_actor groups) (client_actors shape) (publisher_actors shape ++ queues)
    ∙ ap (λ xs. xs ++ rows (publisher_actors shape ++ queues)) (no_rows groups (λ c. gate.Client c) (λ n. refl) (numbers_below (clients_of shape)))
    ∙ flat_map-append (rows_of_actor groups) (publisher_actors shape) queues
    ∙ ap (λ xs. xs ++ rows queues) (no_rows groups (λ p. gate.Publisher p) (λ n. refl) (numbers_below (publishers_of shape)))
    ∙ queue_rows groups (numbers_below (queues_of shape)))

-- ---- the groups of a queue may stand in one table

first_same : {X : Type 0} {x y : X} {xs ys : List X} → x ∷ xs ≡ y ∷ ys → x ≡ y
first_same e = cc

pub record MayStand (rows : List (ℕ × GroupRow)) : Type 0 where
  pub apart : AreApart rows
  pub members : HaveMembers rows
  pub distinct : are_distinct [] (all_members rows) ≡ true

pub may_stand : (script : ScriptData) (actor : GateActor) (rows : List (ℕ × GroupRow)) → IsWithin script → rows ∷ [] ≡ rows_of_actor (setting_of script).groups actor → MayStand rows
may_stand script (gate.Queue n) rows within is =
    let same : rows ≡ groups_on (setting_of script).groups n = first_same is in
    subst MayStand (sym same)
    (record { apart = apart_on (planned_in script) n 0 script.groups; members = some_on (planned_in script) n 0 script.groups within.members; distinct = distinct_on (planned_in script) n 0 script.groups within.grouped })
may_stand script (gate.Client c) rows within is = absurd cc
may_stand script (gate.Publisher p) rows within is = absurd cc
may_stand script gate.Bridge rows within is = absurd cc
may_stand script gate.Timers rows within is = absurd cc

-- ---- new groups have heard nothing

pub same_length : (rows : List (ℕ × GroupRow)) (ls : List GroupListenerData) → AreNew rows ls → length rows ≡ length ls
same_length [] [] new = refl
same_length [] (l ∷ ls) new = absurd new
same_length (r ∷ rs) [] new = absurd new
same_length (r ∷ rs) (l ∷ ls) new = let e = same_length rs ls new.1 in omega (arith, e)

new_rows : (rows : List (ℕ × GroupRow)) (ls : List GroupListenerData) → AreNew rows ls → map {B = ℕ × List SubId} (λ (g : GroupData). (g.number, g.members)) (new_groups rows ls) ≡ map {B = ℕ × List SubId} (λ (g : ℕ × GroupRow). (g.0, g.1.members)) rows
new_rows [] ls new = refl
new_rows (r ∷ rs) [] new = absurd new
new_rows (r ∷ rs) (l ∷ ls) new = ap (λ (xs : List (ℕ × List SubId)). (r.0, r.1.members) ∷ xs) (new_rows rs ls new.1)

new_notes : (by : List SubId → List GroupNote) → ((members : List SubId) → by members ≡ []) → (rows : List (ℕ × GroupRow)) (ls : List GroupListenerData)
    → map (λ (g : GroupData). g.notes) (new_groups rows ls) ≡ map (λ (g : GroupData). by g.members) (new_groups rows ls)
new_notes by none [] ls = refl
new_notes by none (r ∷ rs) [] = refl
new_notes by none (r ∷ rs) (l ∷ ls) =
    ap (λ (ns : List GroupNote). ns ∷ map (λ (g : GroupData). g.notes) (new_groups rs ls)) (sym (none r.1.members))
    ∙ ap (λ (xs : List (List GroupNote)). by r.1.members ∷ xs) (new_notes by none rs ls)

heard_nothing : (a : Option (List GroupNote)) → HeardOn [] (Some []) a → IfSome a (λ heard. heard ≡ [])
heard_nothing None on = tt
heard_nothing (Some notes) on = on

new_listeners : (rows : List (ℕ × GroupRow)) (ls : List GroupListenerData) → AreNew rows ls → AllByRecursion (λ (g : GroupData). HasHeard g.number g.notes g.listener) (new_groups rows ls)
new_listeners [] ls new = tt
new_listeners (r ∷ rs) [] new = tt
new_listeners (r ∷ rs) (l ∷ ls) new = (record { tag = new.0.tag; calls = new.0.calls; heard = heard_nothing l.heard new.0.heard }, new_listeners rs ls new.1)

nothing_taken : {L : Type 0} (seat : Seat L) → begun.HasDoneNothing seat → journal_in seat ≡ []
nothing_taken (Queue n post) new = new.journal
nothing_taken (Client c seat) new = refl
nothing_taken (Publisher p post) new = refl
nothing_taken (Bridge post) new = refl
nothing_taken (Timers post) new = refl

own_rows : {L : Type 0} (script : ScriptData) (seat : Seat L) (rows : List (ℕ × GroupRow)) → rows ∷ [] ≡ rows_of_actor (setting_of script).groups (actor_of seat)
    → map (λ (g : ℕ × GroupRow). (g.0, g.1.members)) rows ≡ own_groups script seat
own_rows script (Queue n post) rows is = ap (map (λ (g : ℕ × GroupRow). (g.0, g.1.members))) (first_same is)
own_rows script (Client c seat) rows is = absurd cc
own_rows script (Publisher p post) rows is = absurd cc
own_rows script (Bridge post) rows is = absurd cc
own_rows script (Timers post) rows is = absurd cc

take_none : {X : Type 0} (xs : List X) → take 0 xs ≡ []
take_none [] = refl
take_none (x ∷ xs) = refl

pub new_hears : {L : Type 0} (script : ScriptData) (hall : HallValue) (seat : Seat L) (rows : List (ℕ × GroupRow)) (ls : List GroupListenerData)
    → begun.HasDoneNothing seat → rows ∷ [] ≡ rows_of_actor (setting_of script).groups (actor_of seat) → AreNew rows ls → IsHearing script hall seat (new_groups rows ls) 0
new_hears script hall seat rows ls new is listeners =
    let none = ap (λ (es : List (ℕ × QueueNote)). length es) (nothing_taken seat new) in
    record {
      within = omega arith;
      most = omega (arith, none);
      rows = new_rows rows ls listeners ∙ own_rows script seat rows is;
      notes = new_notes (λ (members : List SubId). group_notes (orders_in hall.objects) members (take 0 (journal_in seat))) (λ members. ap (group_notes (orders_in hall.objects) members) (take_none (journal_in seat))) rows ls;
      listeners = All-from_recursion (λ (g : GroupData). HasHeard g.number g.notes g.listener) (new_groups rows ls) (new_listeners rows ls listeners);
    }

-- ---- a seat without groups is no queue's

pub unheard : {L : Type 0} (H : Type 0) (script : ScriptData) (hall : HallValue) (groups : List Grouped) (seat : Seat L) → [] ≡ rows_of_actor groups (actor_of seat)
    → Hears {L = L} {H = H} script hall seat None
unheard H script hall groups (Queue n post) is = absurd cc
unheard H script hall groups (Client c seat) is = tt
unheard H script hall groups (Publisher p post) is = tt
unheard H script hall groups (Bridge post) is = tt
unheard H script hall groups (Timers post) is = tt

-- ---- answers

-- what holds whatever the answer is
pub on_ok_always : {T E P : Type 0} (r : Result T E) → P → OnOk r P
on_ok_always (Ok x) p = p
on_ok_always (Err e) p = tt
