-- A queue's seat that learnt what others have put to it shows what it showed.
use Rattle.std.specs.Prelude.{IfSome}
use Rattle.std.proofs.Common.{◌≡◌, ℕ, List, [], ◌∷◌, length, Option, None, Some, refl, sym, ◌∙◌, ap, subst}
use Rattle.mama_event.specs.declared.to_queue.QueueNote.{QueueNote}
use Rattle.mama_script.specs.Script.{ScriptData}
use Rattle.mama_rules_rounds.specs.Client.{Planned}
use Rattle.mama_lane.specs.Values.{NoteValue}
use Rattle.mama_posts_clients.specs.Queue.{QueuePostValue}
use Rattle.mama_posts_clients.specs.Queue as queue
use Rattle.mama_crew.specs.Hall.{HallValue}
use Rattle.mama_crew.specs.Seat as crew
use Rattle.mama_crew.specs.Seat.{journal_in}
use Rattle.mama_crew.specs.Informed.{informed, queue_told, put_to_queue}
use Rattle.mama_crew.specs.declared.seat.Seat.{Seat}
use Rattle.mama_crew.specs.declared.seat.Seat.TheVariants.{Client, Publisher, Bridge, Timers, Queue}
use Rattle.mama_board.specs.Values.{ToldValue}
use Rattle.mama_grouped.specs.Seat as grouped
use Rattle.mama_grouped.specs.declared.hearing.Hearing.{Hearing}
use Rattle.mama_grouped.specs.declared.seat.GroupedSeat.{GroupedSeat}
use Rattle.mama_shown.specs.declared.showing.Showing.{Showing}
use Rattle.mama_shown.specs.declared.seat.ShownSeat.{ShownSeat}
use Rattle.mama_shown.specs.Images.{all_sets, AreShown}
use Rattle.mama_shown.specs.Seat.{queue_in, HasTold, IsShowing, Shows, IsSeatOf}

informed_actor : {L : Type 0} (teller seat : Seat L) → crew.actor_of (informed teller seat) ≡ crew.actor_of seat
informed_actor teller (Client c seat) = refl
informed_actor teller (Publisher p post) = refl
informed_actor teller (Bridge post) = refl
informed_actor teller (Timers post) = refl
informed_actor teller (Queue q post) = refl

informed_journal : {L : Type 0} (teller seat : Seat L) → journal_in (informed teller seat) ≡ journal_in seat
informed_journal teller (Client c seat) = refl
informed_journal teller (Publisher p post) = refl
informed_journal teller (Bridge post) = refl
informed_journal teller (Timers post) = refl
informed_journal teller (Queue q post) = refl

told_ended : (note : Option (NoteValue QueueNote)) (post : QueuePostValue) → queue.HasEnded post → queue.HasEnded (queue_told note post)
told_ended None post e = record { told = e.told; kept = e.kept; left = e.left }
told_ended (Some note) post e = record { told = e.told; kept = e.kept; left = e.left }

queue_ended : {L : Type 0} (teller seat : Seat L) (q : ℕ) → queue_in (crew.actor_of seat) ≡ q ∷ [] → crew.HasEnded seat → crew.HasEnded (informed teller seat)
queue_ended teller (Client c seat) q is e = absurd (cc is)
queue_ended teller (Publisher p post) q is e = absurd (cc is)
queue_ended teller (Bridge post) q is e = absurd (cc is)
queue_ended teller (Timers post) q is e = absurd (cc is)
queue_ended teller (Queue p post) q is e = told_ended (put_to_queue p teller) post e

-- a seat with its groups after the seat learnt
abbrev pub learnt : {L H : Type 0} → Seat L → GroupedSeat L H → GroupedSeat L H
learnt teller s = record s { seat = informed teller s.seat }

module _ {L H R : Type 0} (objects : List Planned) (teller : Seat L) (seat : GroupedSeat L H) (s : Showing R) where
  learnt_ended : queue_in (grouped.actor_of seat) ≡ s.board.queue ∷ [] → grouped.HasEnded seat → grouped.HasEnded (learnt teller seat)
  learnt_ended queue e = record {
    seat_ended = queue_ended teller seat.seat s.board.queue queue e.seat_ended;
    told = subst (λ (es : List (ℕ × QueueNote)). IfSome seat.hearing (λ (hearing : Hearing H). length es ≡ hearing.told)) (sym (informed_journal teller seat.seat)) e.told;
  }

  learnt_told : queue_in (grouped.actor_of seat) ≡ s.board.queue ∷ [] → (told : Option ToldValue) → IfSome told (λ (t : ToldValue). HasTold seat s t) → IfSome told (λ (t : ToldValue). HasTold (learnt teller seat) s t)
  learnt_told queue None h = tt
  learnt_told queue (Some t) h = record {
    told_is = h.told_is;
    sealed = h.sealed;
    none_waits = h.none_waits;
    all_shown = h.all_shown ∙ sym (ap (λ (es : List (ℕ × QueueNote)). length es) (informed_journal teller seat.seat));
    ended = learnt_ended queue h.ended;
  }

  learnt_showing : IsShowing objects seat s → IsShowing objects (learnt teller seat) s
  learnt_showing h = record {
    queue_is = ap queue_in (informed_actor teller seat.seat) ∙ h.queue_is;
    shows = subst (λ (es : List (ℕ × QueueNote)). AreShown objects es s.shown (all_sets s.board)) (sym (informed_journal teller seat.seat)) h.shows;
    unsealed = h.unsealed;
    told = learnt_told h.queue_is s.told h.told;
  }

learnt_shows : {L H R : Type 0} (objects : List Planned) (teller : Seat L) (seat : GroupedSeat L H) (showing : Option (Showing R)) → Shows objects seat showing → Shows objects (learnt teller seat) showing
learnt_shows objects teller seat None h = ap queue_in (informed_actor teller seat.seat) ∙ h
learnt_shows objects teller seat (Some s) h = learnt_showing objects teller seat s h

-- a seat that learnt sits as it did
pub learnt_sits : {L H R : Type 0} (script : ScriptData) (hall : HallValue) (teller : Seat L) (old : ShownSeat L H R) (seat : GroupedSeat L H) → seat ≡ learnt teller old.seat
    → (grouped.IsSeatOf script hall old.seat → grouped.IsSeatOf script hall seat) → IsSeatOf script hall old → IsSeatOf script hall (record old { seat = seat })
learnt_sits {L} {H} script hall teller old seat is sits h = record {
  sits = sits h.sits;
  shows = subst (λ (x : GroupedSeat L H). Shows hall.objects x old.showing) (sym is) (learnt_shows hall.objects teller old.seat old.showing h.shows);
}
