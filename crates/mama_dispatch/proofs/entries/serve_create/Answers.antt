use Rattle.mama_event.specs.Listener.{told}
use Rattle.mama_dispatch.proofs.ServeLemmas.{serves_created}
use Rattle.mama_dispatch.proofs.AnswerLemmas.{answers_created}
use Rattle.mama_dispatch.proofs.KeepLemmas.{kept_created}
use Rattle.mama_dispatch.proofs.entries.serve_create.Goals as goal

pub returns-in-Ok-clause-ok : goal.returns-in-Ok-clause-ok
returns-in-Ok-clause-ok g c = serves_created c.args.slot c.args.object c.args.make _ _ c.args.seats.now c.create.new.self _ _ c.in-Ok.ensures.ok c.requires

pub returns-in-Ok-clause-kept : goal.returns-in-Ok-clause-kept
returns-in-Ok-clause-kept g c = kept_created c.args.object c.args.make _ c.args.seats.now c.create.new.self _ _ c.in-Ok.ensures.ok c.requires

pub returns-in-Ok-clause-answer : goal.returns-in-Ok-clause-answer
returns-in-Ok-clause-answer g c = answers_created (told g.L.Tagged.tagged g.L.Listener.calls g.L.Listener.heard g.L.Listener.given g.L.Listener.plan) c.args.slot c.args.object c.args.make (g.L.Tagged.tagged c.args.listener) c.args.seats.now c.create.new.self c.requires
