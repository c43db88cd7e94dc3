use Rattle.std.specs.Prelude.{not}
use Rattle.std.proofs.Common.{ap, sym, ◌∙◌}
use Rattle.mama_event.specs.declared.ids.ObjectId.TheVariants.{Sub, Timer, Inbox}
use Rattle.mama_event.specs.ToQueue.{note_of}
use Rattle.mama_dispatch.specs.Journals.{is_born, is_live_here, may_come}
use Rattle.mama_dispatch.specs.Served.{Served}
use Rattle.mama_dispatch.proofs.ServingLemmas.{born_there, here_there, delivered_may, replied_may}
use Rattle.mama_dispatch.proofs.serving.Serving.may_take.Goals as goal

pub returns-in-Create : goal.returns-in-Create
returns-in-Create g c =
    ap not (c.has.ensures ∙ born_there c.self.inside.journal.items c.self.inside.fins c.self.inside.seats c.in-Create.object c.self.invariant.served c.apart.ensures)
    ∙ ap (λ (s : Served). not (is_born c.in-Create.object s.journal)) c.self.view_is
    ∙ sym (ap (λ e. may_come c.args.self.now.journal (note_of g.L.Tagged.tagged e)) c.in-Create.is)

pub returns-in-Deliver : goal.returns-in-Deliver
returns-in-Deliver g c =
    c.is_here.ensures ∙ here_there c.self.inside.journal.items c.self.inside.fins c.self.inside.seats (Sub c.in-Deliver.sub) c.self.invariant.served c.apart.ensures
    ∙ ap (λ (s : Served). is_live_here (Sub c.in-Deliver.sub) s.journal) c.self.view_is
    ∙ sym (ap (λ e. may_come c.args.self.now.journal (note_of g.L.Tagged.tagged e)) c.in-Deliver.is ∙ delivered_may c.args.self.now.journal _ c.in-Deliver.sub _)

pub returns-in-Reply : goal.returns-in-Reply
returns-in-Reply g c =
    c.is_here-in-Reply.ensures ∙ here_there c.self.inside.journal.items c.self.inside.fins c.self.inside.seats (Inbox c.in-Reply.inbox) c.self.invariant.served c.apart.ensures
    ∙ ap (λ (s : Served). is_live_here (Inbox c.in-Reply.inbox) s.journal) c.self.view_is
    ∙ sym (ap (λ e. may_come c.args.self.now.journal (note_of g.L.Tagged.tagged e)) c.in-Reply.is ∙ replied_may c.args.self.now.journal _ c.in-Reply.inbox _)

pub returns-in-Tick : goal.returns-in-Tick
returns-in-Tick g c =
    c.is_here-in-Tick.ensures ∙ here_there c.self.inside.journal.items c.self.inside.fins c.self.inside.seats (Timer c.in-Tick.timer) c.self.invariant.served c.apart.ensures
    ∙ ap (λ (s : Served). is_live_here (Timer c.in-Tick.timer) s.journal) c.self.view_is
    ∙ sym (ap (λ e. may_come c.args.self.now.journal (note_of g.L.Tagged.tagged e)) c.in-Tick.is)

pub returns-in-Gone : goal.returns-in-Gone
returns-in-Gone g c =
    c.is_here-in-Gone.ensures ∙ here_there c.self.inside.journal.items c.self.inside.fins c.self.inside.seats c.in-Gone.object c.self.invariant.served c.apart.ensures
    ∙ ap (λ (s : Served). is_live_here c.in-Gone.object s.journal) c.self.view_is
    ∙ sym (ap (λ e. may_come c.args.self.now.journal (note_of g.L.Tagged.tagged e)) c.in-Gone.is)
