-- What the seats of a crew that has ended give up: the journals of the crew, and what all groups heard.
use Rattle.std.specs.Prelude.{IfSome}
use Rattle.std.specs.List.{All, AllByRecursion, flat_map}
use Rattle.std.proofs.Common.{◌≡◌, ℕ, List, [], ◌∷◌, ◌++◌, length, map, Option, None, Some, refl, sym, ap, subst, ◌∙◌}
use Rattle.std.proofs.lemmas.List.Elements.{All-from_recursion, recursion_from_All}
use Rattle.std.specs.Global.{Vec}
use Rattle.mama_journal.specs.Journal.{numbers_below}
use Rattle.mama_edge.specs.declared.gate.GateActor.{GateActor}
use Rattle.mama_event.specs.declared.group.GroupNote.{GroupNote}
use Rattle.mama_event.specs.declared.to_queue.QueueNote.{QueueNote}
use Rattle.mama_script.specs.Script.{ScriptData}
use Rattle.mama_record.specs.RunData.{GroupNotes}
use Rattle.mama_record.specs.RunView.{groups_of}
use Rattle.mama_rules_rounds.specs.Sections.{setting_of}
use Rattle.mama_rules_rounds.specs.Told.{group_told}
use Rattle.mama_plans.specs.Numbered.{numbered, lists_put}
use Rattle.mama_group.specs.Listener.{GroupListenerData}
use Rattle.mama_group.specs.Table.{GroupData, GroupPart, part_of, part_given}
use Rattle.mama_crew.specs.Crew as crews
use Rattle.mama_crew.specs.Hall.{HallValue}
use Rattle.mama_crew.specs.Seat as crew
use Rattle.mama_crew.specs.Seat.{journal_in}
use Rattle.mama_crew.specs.declared.seat.Seat.{Seat}
use Rattle.mama_crew.specs.declared.seat.Seat.TheVariants.{Client, Publisher, Bridge, Timers, Queue}
use Rattle.mama_grouped.specs.declared.hearing.Hearing.{Hearing}
use Rattle.mama_grouped.specs.declared.seat.GroupedSeat.{GroupedSeat}
use Rattle.mama_grouped.specs.Closing.{lists_of, lists_in, IsBy, AreBy}
use Rattle.mama_grouped.specs.Crew.{IsCrew}
use Rattle.mama_grouped.specs.Seat.{actor_of, Hears, IsSeatOf, HasEnded, HasHeard}
use Rattle.mama_grouped.proofs.Gathered.{IsAt, all_events, lists_on, told, told_by, seat_lists, seat_by, lists_whole, notes_with, put_told, seats_at, events_count}

by_numbers : (ls : List (ℕ × Vec GroupNote)) → groups_of ls ≡ map notes_with (numbered ls)
by_numbers [] = refl
by_numbers (l ∷ ls) = ap (λ (xs : List GroupNotes). notes_with (l.0, l.1.items) ∷ xs) (by_numbers ls)

module _ {L H : Type 0} where
  -- ---- the seats alone

  actors_same : (seats : List (GroupedSeat L H)) → map crew.actor_of (map (λ (s : GroupedSeat L H). s.seat) seats) ≡ map actor_of seats
  actors_same [] = refl
  actors_same (s ∷ ss) = ap (λ (xs : List GateActor). crew.actor_of s.seat ∷ xs) (actors_same ss)

  each_seat : (P : GroupedSeat L H → Type 0) (Q : Seat L → Type 0) → ((s : GroupedSeat L H) → P s → Q s.seat) → (seats : List (GroupedSeat L H)) → AllByRecursion P seats
      → AllByRecursion Q (map (λ (s : GroupedSeat L H). s.seat) seats)
  each_seat P Q f [] all = tt
  each_seat P Q f (s ∷ ss) all = (f s all.0, each_seat P Q f ss all.1)

  pub all_seats : (P : GroupedSeat L H → Type 0) (Q : Seat L → Type 0) → ((s : GroupedSeat L H) → P s → Q s.seat) → (seats : List (GroupedSeat L H)) → All P seats
      → All Q (map (λ (s : GroupedSeat L H). s.seat) seats)
  all_seats P Q f seats all = All-from_recursion Q (map (λ (s : GroupedSeat L H). s.seat) seats) (each_seat P Q f seats (recursion_from_All P seats all))

  pub crew_of : (script : ScriptData) (hall : HallValue) (seats : List (GroupedSeat L H)) → IsCrew script hall seats → crews.IsCrew script hall (map (λ (s : GroupedSeat L H). s.seat) seats)
  crew_of script hall seats crew_is = record {
    hall_is = crew_is.hall_is;
    actors = actors_same seats ∙ crew_is.actors;
    each = all_seats (IsSeatOf script hall) (crew.IsSeatOf script hall) (λ s sits. sits.sits) seats crew_is.each;
  }

  -- ---- what their groups heard

  module _ (script : ScriptData) (hall : HallValue) (objects : hall.objects ≡ (setting_of script).objects) (journals : List (List (ℕ × QueueNote))) where
    heard_lists : (seat : Seat L) (hearing : Option (Hearing H)) → IsAt journals seat → Hears {L = L} {H = H} script hall seat hearing → IfSome hearing (λ h. length (journal_in seat) ≡ h.told)
        → lists_of {H = H} hearing ≡ lists_on script journals (crew.actor_of seat)
    heard_lists seat (Some hearing) at hears end = seat_lists script journals hall seat hearing.groups hearing.told objects at end hears
    heard_lists (Queue n post) None at hears end = absurd hears
    heard_lists (Client c seat) None at hears end = refl
    heard_lists (Publisher p post) None at hears end = refl
    heard_lists (Bridge post) None at hears end = refl
    heard_lists (Timers post) None at hears end = refl

    heard_by : (seat : Seat L) (hearing : Option (Hearing H)) → IsAt journals seat → Hears {L = L} {H = H} script hall seat hearing → IfSome hearing (λ h. length (journal_in seat) ≡ h.told)
        → AreBy {H = H} (told_by script journals) hearing
    heard_by seat None at hears end = tt
    heard_by seat (Some hearing) at hears end = seat_by script journals hall seat hearing.groups hearing.told objects at end hears

    lists_each : (seats : List (GroupedSeat L H)) → AllByRecursion (IsAt journals) (map (λ (s : GroupedSeat L H). s.seat) seats) → AllByRecursion (IsSeatOf script hall) seats → AllByRecursion HasEnded seats
        → flat_map lists_in seats ≡ flat_map (lists_on script journals) (map actor_of seats)
    lists_each [] at sits ended = refl
    lists_each (s ∷ ss) at sits ended =
        ap (λ (xs : List (ℕ × List GroupNote)). xs ++ flat_map lists_in ss) (heard_lists s.seat s.hearing at.0 sits.0.hears ended.0.told)
        ∙ ap (λ (xs : List (ℕ × List GroupNote)). lists_on script journals (actor_of s) ++ xs) (lists_each ss at.1 sits.1 ended.1)

    by_each : (seats : List (GroupedSeat L H)) → AllByRecursion (IsAt journals) (map (λ (s : GroupedSeat L H). s.seat) seats) → AllByRecursion (IsSeatOf script hall) seats → AllByRecursion HasEnded seats
        → AllByRecursion (λ (s : GroupedSeat L H). AreBy {H = H} (told_by script journals) s.hearing) seats
    by_each [] at sits ended = tt
    by_each (s ∷ ss) at sits ended = (heard_by s.seat s.hearing at.0 sits.0.hears ended.0.told, by_each ss at.1 sits.1 ended.1)

  abbrev pub journals_of : List (GroupedSeat L H) → List (List (ℕ × QueueNote))
  journals_of seats = all_events (map (λ (s : GroupedSeat L H). s.seat) seats)

  module _ (script : ScriptData) (hall : HallValue) (seats : List (GroupedSeat L H)) (crew_is : IsCrew script hall seats) (ended : All HasEnded seats) where
    at_all : AllByRecursion (IsAt (journals_of seats)) (map (λ (s : GroupedSeat L H). s.seat) seats)
    at_all = seats_at script (map (λ (s : GroupedSeat L H). s.seat) seats) (actors_same seats ∙ crew_is.actors)

    pub by_all : All (λ (s : GroupedSeat L H). AreBy {H = H} (told_by script (journals_of seats)) s.hearing) seats
    by_all =
        All-from_recursion (λ (s : GroupedSeat L H). AreBy {H = H} (told_by script (journals_of seats)) s.hearing) seats
        (by_each script hall crew_is.hall_is.objects (journals_of seats) seats at_all (recursion_from_All (IsSeatOf script hall) seats crew_is.each) (recursion_from_All HasEnded seats ended))

    pub lists_all : (lists : List (ℕ × Vec GroupNote)) (count : ℕ) → count ≡ length script.groups → numbered lists ≡ lists_put (flat_map lists_in seats) (map (λ n. (n, [])) (numbers_below count))
        → groups_of lists ≡ map (group_told (setting_of script) (journals_of seats)) (setting_of script).groups
    lists_all lists count is put =
        by_numbers lists
        ∙ ap (map notes_with)
        (put
        ∙ ap (λ (n : ℕ). lists_put (flat_map lists_in seats) (map (λ n. (n, [])) (numbers_below n))) is
        ∙ ap (λ (ls : List (ℕ × List GroupNote)). lists_put ls (map (λ n. (n, [])) (numbers_below (length script.groups))))
        (lists_each script hall crew_is.hall_is.objects (journals_of seats) seats at_all (recursion_from_All (IsSeatOf script hall) seats crew_is.each) (recursion_from_All HasEnded seats ended)
        ∙ ap (flat_map (lists_on script (journals_of seats))) crew_is.actors)
        ∙ lists_whole script (journals_of seats) script.shape (events_count script (map (λ (s : GroupedSeat L H). s.seat) seats) (actors_same seats ∙ crew_is.actors)))
        ∙ put_told script (journals_of seats) (setting_of script).groups

-- ---- the parts that a table gives up

pub parts_lists : {H : Type 0} (view : H → GroupListenerData) (parts : List (ℕ × Vec GroupNote × H)) (gs : List GroupData) → map (part_given view) parts ≡ map part_of gs
    → map {B = ℕ × List GroupNote} (λ (p : ℕ × Vec GroupNote × H). (p.0, p.1.items)) parts ≡ map {B = ℕ × List GroupNote} (λ (g : GroupData). (g.number, g.notes)) gs
parts_lists view [] [] same = refl
parts_lists view [] (g ∷ gs) same = absurd cc
parts_lists view (p ∷ ps) [] same = absurd cc
parts_lists view (p ∷ ps) (g ∷ gs) same =
    ap (λ (x : GroupPart). (x.number, x.notes) ∷ map (λ p. (p.0, p.1.items)) ps) (first_same same)
    ∙ ap (λ (xs : List (ℕ × List GroupNote)). (g.number, g.notes) ∷ xs) (parts_lists view ps gs (rest_same same))
  where
    first_same : {X : Type 0} {x y : X} {xs ys : List X} → x ∷ xs ≡ y ∷ ys → x ≡ y
    first_same e = cc

    rest_same : {X : Type 0} {x y : X} {xs ys : List X} → x ∷ xs ≡ y ∷ ys → xs ≡ ys
    rest_same e = cc

pub parts_by : {H : Type 0} (view : H → GroupListenerData) (by : ℕ → List GroupNote) (parts : List (ℕ × Vec GroupNote × H)) (gs : List GroupData) → map (part_given view) parts ≡ map part_of gs
    → AllByRecursion (IsBy by) gs → AllByRecursion (λ (p : ℕ × Vec GroupNote × H). HasHeard p.0 (by p.0) (view p.2)) parts
parts_by view by [] gs same all = tt
parts_by view by (p ∷ ps) [] same all = absurd cc
parts_by view by (p ∷ ps) (g ∷ gs) same all = (
  subst (λ (x : GroupPart). HasHeard x.number (by x.number) x.listener) (sym (first_same same)) all.0,
  parts_by view by ps gs (rest_same same) all.1,
)
  where
    first_same : {X : Type 0} {x y : X} {xs ys : List X} → x ∷ xs ≡ y ∷ ys → x ≡ y
    first_same e = cc

    rest_same : {X : Type 0} {x y : X} {xs ys : List X} → x ∷ xs ≡ y ∷ ys → xs ≡ ys
    rest_same e = cc
