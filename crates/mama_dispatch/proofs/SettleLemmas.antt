-- What was served stays served where only the room of the seats changes.
use Rattle.std.specs.Prelude.{Option}
use Rattle.std.proofs.Common.{◌≡◌, ℕ, List, [], ◌∷◌, ◌++◌, sym, subst}
use Rattle.mama_event.specs.declared.ids.ObjectId.{ObjectId}
use Rattle.mama_event.specs.declared.order.Order.{Order}
use Rattle.mama_event.specs.declared.to_queue.QueueNote.{QueueNote}
use Rattle.mama_event.specs.Listener.{ListenerData}
use Rattle.mama_rules_queue.specs.Queue.{Deed, QueuePut, served, is_live}
use Rattle.mama_dispatch.specs.declared.turn.Turn.{Turn}
use Rattle.mama_dispatch.specs.Journals.{born}
use Rattle.mama_dispatch.specs.Seats.{SeatData, Fits}
use Rattle.mama_dispatch.specs.Seating.{Seated}
use Rattle.mama_dispatch.specs.Hearing.{HeardAt, PlannedAt}
use Rattle.mama_dispatch.specs.Keeping.{KeptWith}
use Rattle.mama_dispatch.specs.Served.{told_seats}
use Rattle.mama_dispatch.specs.Standing.{Stands, Serves}
use Rattle.mama_dispatch.specs.Answering.{Answers}
use Rattle.mama_dispatch.proofs.ServingLemmas.{fits_told, fits_untold, heard_told, heard_untold, planned_told, planned_untold, seated_told, seated_untold}

fits_alike : (orders : ObjectId → ℕ → List Order) (a b : List SeatData) → told_seats a ≡ told_seats b → Fits orders a → Fits orders b
fits_alike orders a b same fits = fits_untold orders b (subst (Fits orders) same (fits_told orders a fits))

stands_alike : (journal : List (ℕ × QueueNote)) (ds : List Deed) (a b : List SeatData) → told_seats a ≡ told_seats b → Stands journal ds a → Stands journal ds b
stands_alike journal ds a b same stands = record {
  seated = seated_untold (is_live ds) ds (born journal) b (subst (Seated (is_live ds) ds (born journal)) same (seated_told (is_live ds) ds (born journal) a stands.seated));
  live = stands.live;
  quiet = stands.quiet;
  silent = stands.silent;
}

pub serves_settled : (note : QueueNote) (before a b : List SeatData) (put_before put_after : List QueuePut) → told_seats b ≡ told_seats a → Serves note before a put_before put_after → Serves note before b put_before put_after
serves_settled note before a b put_before put_after same serves = record {
  fits = λ orders fits. serves.fits orders (fits_alike orders b a same fits);
  serves = λ orders port journal ds fits stands.
      let at = serves.serves orders port journal ds (fits_alike orders b a same fits) stands in
      record { stands = stands_alike (journal ++ (port, note) ∷ []) (ds ++ served orders journal ds note) a b (sym same) at.stands; puts = at.puts };
}

pub kept_settled : (comes : Option (ObjectId × ListenerData)) (before a b : List SeatData) → told_seats b ≡ told_seats a → KeptWith comes before a → KeptWith comes before b
kept_settled comes before a b same kept = record {
  heard = λ x came apart brings heard. heard_untold x came b (subst (HeardAt x came) (sym same) (heard_told x came a (kept.heard x came apart brings heard)));
  planned = λ x f count apart brings planned. planned_untold x f count b (subst (PlannedAt x f count) (sym same) (planned_told x f count a (kept.planned x f count apart brings planned)));
}

pub answers_settled : {L : Type 0} (view : L → ListenerData) (note : QueueNote) (before a b : List SeatData) (answer : Turn L) → told_seats b ≡ told_seats a → Answers view note before a answer → Answers view note before b answer
answers_settled view note before a b answer same answers = λ orders journal ds fin apart fits stands. answers orders journal ds fin apart (fits_alike orders b a same fits) stands
