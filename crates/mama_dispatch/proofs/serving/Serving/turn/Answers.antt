use Rattle.std.specs.Prelude.{map}
use Rattle.std.specs.Option.{option_to_list}
use Rattle.std.proofs.lemmas.Result.{on_ok_weaker}
use Rattle.std.proofs.Common.{◌≡◌, ℕ, List, [], ◌∷◌, ◌++◌, ap, sym, ◌∙◌, subst}
use Rattle.mama_msg.specs.Field.{FieldData}
use Rattle.mama_event.specs.declared.ids.SubId.{SubId}
use Rattle.mama_event.specs.declared.market.ImageHead.{ImageHead}
use Rattle.mama_event.specs.declared.to_queue.QueueNote.{QueueNote}
use Rattle.mama_event.specs.ToQueue.{note_of}
use Rattle.mama_event.specs.Listener.{told}
use Rattle.mama_rules_queue.specs.Queue.{deeds, is_fin, queue_puts_at}
use Rattle.mama_dispatch.specs.Journals.{may_come}
use Rattle.mama_dispatch.specs.Seats.{SeatData, Fits}
use Rattle.mama_dispatch.specs.Answering.{AnswersTo}
use Rattle.mama_dispatch.specs.Hearing.{brought, HeardAt, PlannedAt}
use Rattle.mama_dispatch.specs.Served.{Served, told_seats}
use Rattle.mama_dispatch.specs.Turns.{put_note}
use Rattle.mama_dispatch.proofs.ServingLemmas.{answers_told, calls_served, heard_told, heard_untold, fits_told, fits_untold, planned_told, planned_untold, puts_next, may_serve, not_fin}
use Rattle.mama_dispatch.proofs.NoteLemmas.{serving_as, serving_roomy}
use Rattle.mama_dispatch.proofs.serving.Serving.turn.Goals as goal
use Rattle.mama_dispatch.proofs.serving.Serving.turn.Goals.{in-Deliver+in-Some-4, in-Deliver+in-None-4, in-Reply+in-Some-4, in-Reply+in-None-4, in-Bad-4, in-BadReply-4, in-Create-4}

pub serve-requires-clause-may : goal.serve-requires-clause-may
serve-requires-clause-may g c =
    may_serve c.self.inside.journal.items c.self.inside.fins c.self.inside.seats (note_of g.L.Tagged.tagged c.args.event) c.self.invariant.served c.apart.ensures
    (ap (λ (s : Served). may_come s.journal (note_of g.L.Tagged.tagged c.args.event)) c.self.view_is ∙ c.requires)

pub invariant_of-self-in-Ok-serve : goal.invariant_of-self-in-Ok-serve
invariant_of-self-in-Ok-serve g c =
    let grown : c.push_reserved.new.self.items ≡ c.self.inside.journal.items ++ (c.args.port, c.in-Ok.note) ∷ [] =
    c.push_reserved.ensures.items ∙ ap (λ (es : List (ℕ × QueueNote)). es ++ (c.args.port, c.in-Ok.note) ∷ []) c.reserve.ensures.items in
    serving_as c.self.inside.journal.items c.push_reserved.new.self.items c.self.inside.fins (brought (told g.L.Tagged.tagged g.L.Listener.calls g.L.Listener.heard g.L.Listener.given g.L.Listener.plan) c.args.event)
    c.args.port c.in-Ok.note (note_of g.L.Tagged.tagged c.args.event) c.self.inside.seats c.serve.new.self c.self.inside.room c.prepare.new.room c.self.inside.images.items c.add_image.new.images.items (option_to_list c.in-Ok-prepare.left) _ _
    grown c.in-Ok.ensures.note c.self.invariant c.apart.ensures c.apart-in-Ok-serve.ensures (ap (λ (n : QueueNote). is_fin (c.args.port, n)) c.in-Ok.ensures.note ∙ not_fin g.L.Tagged.tagged c.args.event c.args.port c.in_default-event.not-Fin) c.in-Ok-serve.ensures.ok c.in-Ok-serve.ensures.kept
    c.prepare.ensures.none c.in-Ok-prepare.ensures.enough c.in-Ok-prepare.ensures.left (c.add_image.ensures ∙ ap (λ (xs : List (SubId × ImageHead × List FieldData)). xs ++ option_to_list c.in-Ok-prepare.left) c.prepare.ensures.images)

pub invariant_of-self-in-Err : goal.invariant_of-self-in-Err
invariant_of-self-in-Err g c =
    serving_roomy c.self.inside.journal.items c.reserve.new.self.items c.self.inside.fins c.self.inside.seats c.serve.new.self c.self.inside.room c.prepare.new.room c.self.inside.images.items c.prepare.new.images.items
    c.reserve.ensures.items c.in-Err.ensures.err c.prepare.ensures.none c.prepare.ensures.capacity c.prepare.ensures.images c.self.invariant

pub invariant_of-self-in-Err-2 : goal.invariant_of-self-in-Err-2
invariant_of-self-in-Err-2 g c =
    serving_roomy c.self.inside.journal.items c.reserve.new.self.items c.self.inside.fins c.self.inside.seats c.serve.new.self c.self.inside.room c.prepare.new.room c.self.inside.images.items c.prepare.new.images.items
    c.reserve.ensures.items c.in-Err.ensures.err c.prepare.ensures.none c.prepare.ensures.capacity c.prepare.ensures.images c.self.invariant

pub invariant_of-self-in-Err-3 : goal.invariant_of-self-in-Err-3
invariant_of-self-in-Err-3 g c =
    serving_roomy c.self.inside.journal.items c.reserve.new.self.items c.self.inside.fins c.self.inside.seats c.serve.new.self c.self.inside.room c.prepare.new.room c.self.inside.images.items c.prepare.new.images.items
    c.reserve.ensures.items c.in-Err.ensures.err c.prepare.ensures.none c.prepare.ensures.capacity c.prepare.ensures.images c.self.invariant

pub invariant_of-self-in-Err-4 : goal.invariant_of-self-in-Err-4
invariant_of-self-in-Err-4 g c =
    serving_roomy c.self.inside.journal.items c.reserve.new.self.items c.self.inside.fins c.self.inside.seats c.serve.new.self c.self.inside.room c.prepare.new.room c.self.inside.images.items c.prepare.new.images.items
    c.reserve.ensures.items c.in-Err.ensures.err c.prepare.ensures.none c.prepare.ensures.capacity c.prepare.ensures.images c.self.invariant

pub invariant_of-self-in-Err-5 : goal.invariant_of-self-in-Err-5
invariant_of-self-in-Err-5 g c =
    serving_roomy c.self.inside.journal.items c.reserve.new.self.items c.self.inside.fins c.self.inside.seats c.serve.new.self c.self.inside.room c.prepare.new.room c.self.inside.images.items c.prepare.new.images.items
    c.reserve.ensures.items c.in-Err.ensures.err c.prepare.ensures.none c.prepare.ensures.capacity c.prepare.ensures.images c.self.invariant

pub invariant_of-self-in-Err-6 : goal.invariant_of-self-in-Err-6
invariant_of-self-in-Err-6 g c =
    serving_roomy c.self.inside.journal.items c.reserve.new.self.items c.self.inside.fins c.self.inside.seats c.serve.new.self c.self.inside.room c.prepare.new.room c.self.inside.images.items c.prepare.new.images.items
    c.reserve.ensures.items c.in-Err.ensures.err c.prepare.ensures.none c.prepare.ensures.capacity c.prepare.ensures.images c.self.invariant

pub invariant_of-self-in-Err-7 : goal.invariant_of-self-in-Err-7
invariant_of-self-in-Err-7 g c =
    serving_roomy c.self.inside.journal.items c.reserve.new.self.items c.self.inside.fins c.self.inside.seats c.serve.new.self c.self.inside.room c.prepare.new.room c.self.inside.images.items c.prepare.new.images.items
    c.reserve.ensures.items c.in-Err.ensures.err c.prepare.ensures.none c.prepare.ensures.capacity c.prepare.ensures.images c.self.invariant

-- the note is let go by cases, after which all is as before
pub returns-in-Err : goal.returns-in-Err
returns-in-Err g c =
    let noted : List (ℕ × QueueNote) → Served = λ (es : List (ℕ × QueueNote)). record { queue = c.self.inside.queue; journal = es; seats = told_seats c.serve.new.self } in
    let seated : List SeatData → Served = λ (ss : List SeatData). record { queue = c.self.inside.queue; journal = c.self.inside.journal.items; seats = ss } in
    let left : c.match-note-10.self ≡ noted c.reserve.new.self.items = elim c.match-note-10.branch [
      | in-Deliver+in-Some-4 w ↦ w.self-is
      | in-Deliver+in-None-4 w ↦ w.self-is
      | in-Reply+in-Some-4 w ↦ w.self-is
      | in-Reply+in-None-4 w ↦ w.self-is
      | in-Bad-4 w ↦ w.self-is
      | in-BadReply-4 w ↦ w.self-is
      | in-Create-4 w ↦ w.self-is
    ] in
    let same : c.match-note-10.self ≡ c.args.self.now = left ∙ ap noted c.reserve.ensures.items ∙ ap seated c.in-Err.ensures.err ∙ c.self.view_is in
    record {
      journal = tt;
      queue = ap (λ (s : Served). s.queue) same;
      puts = tt;
      fits = tt;
      answer = tt;
      calls = tt;
      heard = tt;
      planned = tt;
      err = same;
      appended = tt;
      puts_err = c.in-Err.ensures.puts_err;
      back = c.in-Err.ensures.back;
    }

pub returns-in-Ok-serve-clause-puts : goal.returns-in-Ok-serve-clause-puts
returns-in-Ok-serve-clause-puts g c = λ orders fits.
    let of : QueueNote = note_of g.L.Tagged.tagged c.args.event in
    puts_next c.self.inside.journal.items c.self.inside.fins c.args.port of c.self.inside.seats c.serve.new.self _ _ c.self.invariant.served
    (not_fin g.L.Tagged.tagged c.args.event c.args.port c.in_default-event.not-Fin) c.in-Ok-serve.ensures.ok orders (fits_untold orders c.serve.new.self fits)
    ∙ ap (λ (s : Served). map (put_note g.M.Tagged.tagged) c.args.out.now.items ++ queue_puts_at orders s.journal (c.args.port, of)) c.self.view_is

pub returns-in-Ok-serve-clause-fits : goal.returns-in-Ok-serve-clause-fits
returns-in-Ok-serve-clause-fits g c = λ orders fits.
    subst (λ (s : Served). Fits orders s.seats) c.self.view_is (fits_told orders c.self.inside.seats (c.in-Ok-serve.ensures.ok.fits orders (fits_untold orders c.serve.new.self fits)))

pub returns-in-Ok-serve-clause-planned : goal.returns-in-Ok-serve-clause-planned
returns-in-Ok-serve-clause-planned g c = λ x f count comes planned.
    planned_told x f count c.serve.new.self
    (c.in-Ok-serve.ensures.kept.planned x f count c.apart.ensures comes
    (planned_untold x f count c.self.inside.seats (subst (λ (s : Served). PlannedAt x f count s.seats) (sym c.self.view_is) planned)))

pub returns-in-Ok-serve-clause-answer : goal.returns-in-Ok-serve-clause-answer
returns-in-Ok-serve-clause-answer g c = λ orders fits.
    let of : QueueNote = note_of g.L.Tagged.tagged c.args.event in
    subst (λ (s : Served). AnswersTo (told g.L.Tagged.tagged g.L.Listener.calls g.L.Listener.heard g.L.Listener.given g.L.Listener.plan) orders s.seats s.journal (deeds orders s.journal) of c.in-Ok-serve.turn) c.self.view_is
    (answers_told (told g.L.Tagged.tagged g.L.Listener.calls g.L.Listener.heard g.L.Listener.given g.L.Listener.plan) orders c.self.inside.seats c.self.inside.journal.items (deeds orders c.self.inside.journal.items) of c.in-Ok-serve.turn
    (c.in-Ok-serve.ensures.answer orders c.self.inside.journal.items (deeds orders c.self.inside.journal.items)
    (not_fin g.L.Tagged.tagged c.args.event 0 c.in_default-event.not-Fin) c.apart.ensures
    (fits_untold orders c.serve.new.self fits)
    (c.self.invariant.served.stands orders (c.in-Ok-serve.ensures.ok.fits orders (fits_untold orders c.serve.new.self fits)))))

pub returns-in-Ok-serve-clause-heard : goal.returns-in-Ok-serve-clause-heard
returns-in-Ok-serve-clause-heard g c = λ x came comes heard.
    heard_told x came c.serve.new.self
    (c.in-Ok-serve.ensures.kept.heard x came c.apart.ensures comes
    (heard_untold x came c.self.inside.seats (subst (λ (s : Served). HeardAt x came s.seats) (sym c.self.view_is) heard)))

pub returns-in-Ok-serve-clause-calls : goal.returns-in-Ok-serve-clause-calls
returns-in-Ok-serve-clause-calls g c = calls_served c.push_reserved.new.self.items c.self.inside.fins c.serve.new.self (invariant_of-self-in-Ok-serve g c).served

pub returns-in-Fin-clause-puts : goal.returns-in-Fin-clause-puts
returns-in-Fin-clause-puts g c =
    on_ok_weaker c.finish.result
    (λ puts orders fits.
    puts orders ∙ ap (λ e. map (put_note g.M.Tagged.tagged) c.args.out.now.items ++ queue_puts_at orders c.args.self.now.journal (c.args.port, note_of g.L.Tagged.tagged e)) (sym c.in-Fin.is))
    c.finish.ensures.puts
