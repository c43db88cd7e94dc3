use Rattle.std.specs.Prelude.{map, Option}
use Rattle.std.proofs.Common.{ap, sym, ◌∙◌, subst}
use Rattle.mama_event.specs.Listener.{told, ListenerData}
use Rattle.mama_event.specs.declared.ids.ObjectId.{ObjectId}
use Rattle.mama_event.specs.declared.to_queue.QueueNote.{QueueNote}
use Rattle.mama_dispatch.specs.Turns.{put_note}
use Rattle.mama_dispatch.specs.Keeping.{KeptWith}
use Rattle.mama_dispatch.specs.Standing.{Serves, MayServe, is_making}
use Rattle.mama_dispatch.specs.Answering.{Answers}
use Rattle.mama_dispatch.proofs.ServingLemmas.{makes_none, brings_none}
use Rattle.mama_dispatch.proofs.seats.Seats.serve.Goals as goal

pub serve_read-requires-clause-may : goal.serve_read-requires-clause-may
serve_read-requires-clause-may g c = subst (λ (n : QueueNote). MayServe n c.args.self.now) (sym c.requires.note) c.requires.may

pub serve_read-requires-clause-no_create : goal.serve_read-requires-clause-no_create
serve_read-requires-clause-no_create g c = ap is_making c.requires.note ∙ makes_none g.L.Tagged.tagged c.args.event c.in_default.not-Create

pub returns-in-Ok-clause-ok : goal.returns-in-Ok-clause-ok
returns-in-Ok-clause-ok g c =
    subst (λ (n : QueueNote). Serves n c.args.self.now c.serve_read.new.seats (map (put_note g.M.Tagged.tagged) c.args.out.now.items) (map (put_note g.M.Tagged.tagged) c.serve_read.new.out.items)) c.requires.note c.in-Ok.ensures.ok

pub returns-in-Ok-clause-kept : goal.returns-in-Ok-clause-kept
returns-in-Ok-clause-kept g c =
    subst (λ (comes : Option (ObjectId × ListenerData)). KeptWith comes c.args.self.now c.serve_read.new.seats)
    (sym (brings_none (told g.L.Tagged.tagged g.L.Listener.calls g.L.Listener.heard g.L.Listener.given g.L.Listener.plan) c.args.event c.in_default.not-Create)) c.in-Ok.ensures.kept

pub returns-in-Ok-clause-answer : goal.returns-in-Ok-clause-answer
returns-in-Ok-clause-answer g c =
    subst (λ (n : QueueNote). Answers (told g.L.Tagged.tagged g.L.Listener.calls g.L.Listener.heard g.L.Listener.given g.L.Listener.plan) n c.args.self.now c.serve_read.new.seats c.in-Ok.turn) c.requires.note c.in-Ok.ensures.answer
