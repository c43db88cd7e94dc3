use Rattle.std.specs.Prelude.{map, None, IfOk}
use Rattle.std.proofs.Common.{◌≡◌, List, ap, ◌∙◌, subst}
use Rattle.std.proofs.lemmas.Result.{IfOk-weaker, on_ok_weaker, on_err_weaker}
use Rattle.mama_event.specs.Listener.{told}
use Rattle.mama_dispatch.specs.Seats.{SeatData, with_room}
use Rattle.mama_dispatch.specs.Keeping.{KeptWith}
use Rattle.mama_dispatch.specs.Standing.{Serves}
use Rattle.mama_dispatch.specs.Answering.{Answers}
use Rattle.mama_dispatch.specs.Turns.{put_note}
use Rattle.mama_dispatch.proofs.SettleLemmas.{serves_settled, kept_settled, answers_settled}
use Rattle.mama_dispatch.proofs.entries.serve_read.Goals as goal

pub returns-clause-ok : goal.returns-clause-ok
returns-clause-ok g c =
    on_ok_weaker c.serve_noted-turn.result
    (λ serves.
    serves_settled c.args.note.now c.args.seats.now c.serve_noted-turn.new.seats c.settle.new.self _ _ c.settle.ensures
    (subst (λ (ss : List SeatData). Serves c.args.note.now ss c.serve_noted-turn.new.seats (map (put_note g.M.Tagged.tagged) c.args.out.now.items) (map (put_note g.M.Tagged.tagged) c.serve_noted-turn.new.out.items)) c.seek.ensures serves))
    c.serve_noted-turn.ensures.ok

pub returns-clause-kept : goal.returns-clause-kept
returns-clause-kept g c =
    on_ok_weaker c.serve_noted-turn.result
    (λ kept. kept_settled None c.args.seats.now c.serve_noted-turn.new.seats c.settle.new.self c.settle.ensures (subst (λ (ss : List SeatData). KeptWith None ss c.serve_noted-turn.new.seats) c.seek.ensures kept))
    c.serve_noted-turn.ensures.kept

pub returns-clause-answer : goal.returns-clause-answer
returns-clause-answer g c =
    let view = told g.L.Tagged.tagged g.L.Listener.calls g.L.Listener.heard g.L.Listener.given g.L.Listener.plan in
    IfOk-weaker c.serve_noted-turn.result _ _
    (λ answer answers.
    answers_settled view c.args.note.now c.args.seats.now c.serve_noted-turn.new.seats c.settle.new.self answer c.settle.ensures
    (subst (λ (ss : List SeatData). Answers view c.args.note.now ss c.serve_noted-turn.new.seats answer) c.seek.ensures answers))
    c.serve_noted-turn.ensures.answer

pub returns-clause-err : goal.returns-clause-err
returns-clause-err g c =
    on_err_weaker c.serve_noted-turn.result (λ same. c.settle.ensures ∙ same ∙ ap (map (with_room 0)) c.seek.ensures) c.serve_noted-turn.ensures.err
