-- A crew whose boards have all told, without the boards, and the images that the readers of the boards then read.
use Rattle.std.specs.List.{All, flat_map}
use Rattle.std.proofs.Common.{◌≡◌, ℕ, List, [], ◌∷◌, ◌++◌, map, refl, sym, ◌∙◌, ap, subst}
use Rattle.std.proofs.lemmas.List.Elements.{All-nil, All-cons, All-head, All-tail, All-weaker}
use Rattle.mama_event.specs.declared.to_queue.QueueNote.{QueueNote}
use Rattle.mama_event.specs.Ports.{queues_of}
use Rattle.mama_edge.specs.declared.gate.GateActor.{GateActor}
use Rattle.mama_event.specs.declared.ids.SubId.{SubId}
use Rattle.mama_event.specs.declared.market.ImageHead.{ImageHead}
use Rattle.mama_msg.specs.Field.{FieldData}
use Rattle.mama_script.specs.Script.{ScriptData}
use Rattle.mama_record.specs.RunData.{RunData}
use Rattle.mama_record.specs.RunView.{images_of}
use Rattle.mama_rules_rounds.specs.Client.{Planned}
use Rattle.mama_rules_rounds.specs.Setting.{Setting}
use Rattle.mama_rules_rounds.specs.Sections.{setting_of}
use Rattle.mama_rules_rounds.specs.Told.{last_image}
use Rattle.mama_crew.specs.Hall.{HallValue}
use Rattle.mama_crew.specs.declared.seat.Seat.{Seat}
use Rattle.mama_crew.specs.Journals.{AreJournalsOf, events_in}
use Rattle.mama_gather.specs.Places.{images_by}
use Rattle.mama_close.proofs.Record.{images_same}
use Rattle.mama_board.specs.Values.{ReaderValue}
use Rattle.mama_grouped.specs.Seat as grouped
use Rattle.mama_grouped.specs.Crew as bare
use Rattle.mama_grouped.specs.declared.seat.GroupedSeat.{GroupedSeat}
use Rattle.mama_shown.specs.declared.seat.ShownSeat.{ShownSeat}
use Rattle.mama_shown.specs.Seat.{actor_of, Shows, IsSeatOf, HasEnded}
use Rattle.mama_shown.specs.Crew.{IsCrew}
use Rattle.mama_shown.specs.Last.{HasLast, ReadsLast}
use Rattle.mama_shown.proofs.Queues.{Pair, pairs, pairs_numbers, pairs_journals, queues_numbered}
use Rattle.mama_shown.proofs.Lasts.{lasts}

mapped_all : {A B : Type 0} (P : B → Type 0) (f : A → B) (xs : List A) → All (λ (x : A). P (f x)) xs → All P (map f xs)
mapped_all P f [] all = All-nil P
mapped_all {A} P f (x ∷ xs) all = All-cons P (f x) (map f xs) (All-head (λ (y : A). P (f y)) x xs all) (mapped_all P f xs (All-tail (λ (y : A). P (f y)) x xs all))

-- ---- the seats without their boards

module _ {L H R : Type 0} where
  abbrev pub bare_seats : List (ShownSeat L H R) → List (GroupedSeat L H)
  bare_seats seats = map (λ (s : ShownSeat L H R). s.seat) seats

  abbrev pub crew_seats : List (ShownSeat L H R) → List (Seat L)
  crew_seats seats = map (λ (s : ShownSeat L H R). s.seat.seat) seats

  actors_bare : (seats : List (ShownSeat L H R)) → map (λ (s : GroupedSeat L H). grouped.actor_of s) (bare_seats seats) ≡ map (λ (s : ShownSeat L H R). actor_of s) seats
  actors_bare [] = refl
  actors_bare (s ∷ seats) = ap (λ (actors : List GateActor). grouped.actor_of s.seat ∷ actors) (actors_bare seats)

  seats_bare : (seats : List (ShownSeat L H R)) → map (λ (s : GroupedSeat L H). s.seat) (bare_seats seats) ≡ crew_seats seats
  seats_bare [] = refl
  seats_bare (s ∷ seats) = ap (λ (ss : List (Seat L)). s.seat.seat ∷ ss) (seats_bare seats)

  pub crew_bare : (script : ScriptData) (hall : HallValue) (seats : List (ShownSeat L H R)) (back : List (GroupedSeat L H)) → back ≡ bare_seats seats → IsCrew script hall seats → bare.IsCrew script hall back
  crew_bare script hall seats back is h = subst (λ (ss : List (GroupedSeat L H)). bare.IsCrew script hall ss) (sym is)
      (record {
        hall_is = h.hall_is;
        actors = actors_bare seats ∙ h.actors;
        each = mapped_all (λ (s : GroupedSeat L H). grouped.IsSeatOf script hall s) (λ (s : ShownSeat L H R). s.seat) seats
            (All-weaker (λ (s : ShownSeat L H R). IsSeatOf script hall s) (λ (s : ShownSeat L H R). grouped.IsSeatOf script hall s.seat) (λ s sits. sits.sits) seats h.each);
      })

  pub ended_bare : (seats : List (ShownSeat L H R)) (back : List (GroupedSeat L H)) → back ≡ bare_seats seats → All (λ (s : ShownSeat L H R). HasEnded s) seats → All (λ (s : GroupedSeat L H). grouped.HasEnded s) back
  ended_bare seats back is h = subst (λ (ss : List (GroupedSeat L H)). All (λ (s : GroupedSeat L H). grouped.HasEnded s) ss) (sym is)
      (mapped_all (λ (s : GroupedSeat L H). grouped.HasEnded s) (λ (s : ShownSeat L H R). s.seat) seats
      (All-weaker (λ (s : ShownSeat L H R). HasEnded s) (λ (s : ShownSeat L H R). grouped.HasEnded s.seat) (λ s ended. ended.seat) seats h))

  pub journals_bare : (seats : List (ShownSeat L H R)) (back : List (GroupedSeat L H)) (run : RunData) → back ≡ bare_seats seats → AreJournalsOf (map (λ (s : GroupedSeat L H). s.seat) back) run → AreJournalsOf (crew_seats seats) run
  journals_bare seats back run is h =
      let whole : map (λ (s : GroupedSeat L H). s.seat) back ≡ crew_seats seats = ap (λ (ss : List (GroupedSeat L H)). map (λ (s : GroupedSeat L H). s.seat) ss) is ∙ seats_bare seats in
      subst (λ (ss : List (Seat L)). AreJournalsOf ss run) whole h

  -- ---- the readers of their boards

  -- readers that learnt what the seals of a crew's boards told read what the journals of its queues give
  reads_last : (script : ScriptData) (hall : HallValue) (seats : List (ShownSeat L H R)) → IsCrew script hall seats → (readers : List ReaderValue)
      → ((objects : List Planned) (journals : List (List (ℕ × QueueNote))) → All (λ (s : ShownSeat L H R). HasLast objects journals s) seats → All (ReadsLast objects journals) readers)
      → All (ReadsLast hall.objects (flat_map events_in (crew_seats seats))) readers
  reads_last script hall seats h readers learnt =
      learnt hall.objects (flat_map events_in (crew_seats seats))
      (subst (λ (js : List (List (ℕ × QueueNote))). All (λ (s : ShownSeat L H R). HasLast hall.objects js s) seats) (pairs_journals seats)
      (lasts hall.objects (queues_of script.shape) [] seats seats refl (pairs_numbers seats ∙ queues_numbered (λ (s : ShownSeat L H R). actor_of s) seats script.shape h.actors)
      (All-weaker (λ (s : ShownSeat L H R). IsSeatOf script hall s) (λ (s : ShownSeat L H R). Shows hall.objects s.seat s.showing) (λ s sits. sits.shows) seats h.each)))

  -- so the images that they read are those of the journals
  images_read : (script : ScriptData) (hall : HallValue) (seats : List (ShownSeat L H R)) → IsCrew script hall seats → (readers : List ReaderValue)
      → ((objects : List Planned) (journals : List (List (ℕ × QueueNote))) → All (λ (s : ShownSeat L H R). HasLast objects journals s) seats → All (ReadsLast objects journals) readers)
      → (plans : List Planned) → plans ≡ hall.objects → (images : List (SubId × ImageHead × List FieldData))
      → ((journals : List (List (ℕ × QueueNote))) → All (ReadsLast plans journals) readers → images_of images ≡ flat_map (images_by plans journals) plans)
      → images_of images ≡ flat_map (images_by hall.objects (flat_map events_in (crew_seats seats))) hall.objects
  images_read script hall seats h readers learnt plans same images found =
      let journals : List (List (ℕ × QueueNote)) = flat_map events_in (crew_seats seats) in
      found journals (subst (λ (objects : List Planned). All (ReadsLast objects journals) readers) (sym same) (reads_last script hall seats h readers learnt))
      ∙ ap (λ (objects : List Planned). flat_map (images_by objects journals) objects) same

  -- and those are the last images that a record of the journals has
  pub images_last : (script : ScriptData) (hall : HallValue) (seats : List (ShownSeat L H R)) (back : List (GroupedSeat L H)) → back ≡ bare_seats seats → IsCrew script hall seats → (readers : List ReaderValue)
      → ((objects : List Planned) (journals : List (List (ℕ × QueueNote))) → All (λ (s : ShownSeat L H R). HasLast objects journals s) seats → All (ReadsLast objects journals) readers)
      → (plans : List Planned) → plans ≡ hall.objects → (images : List (SubId × ImageHead × List FieldData))
      → ((journals : List (List (ℕ × QueueNote))) → All (ReadsLast plans journals) readers → images_of images ≡ flat_map (images_by plans journals) plans)
      → images_of images ≡ flat_map (last_image (setting_of script) (flat_map events_in (map (λ (s : GroupedSeat L H). s.seat) back))) (setting_of script).objects
  images_last script hall seats back is h readers learnt plans same images found =
      let setting : Setting = setting_of script in
      let whole : map (λ (s : GroupedSeat L H). s.seat) back ≡ crew_seats seats = ap (λ (ss : List (GroupedSeat L H)). map (λ (s : GroupedSeat L H). s.seat) ss) is ∙ seats_bare seats in
      images_read script hall seats h readers learnt plans same images found
      ∙ ap (λ (objects : List Planned). flat_map (images_by objects (flat_map events_in (crew_seats seats))) objects) h.hall_is.objects
      ∙ images_same setting (flat_map events_in (crew_seats seats)) setting.objects
      ∙ ap (λ (ss : List (Seat L)). flat_map (last_image setting (flat_map events_in ss)) setting.objects) (sym whole)
