use Rattle.mama_event.specs.Listener.{told}
use Rattle.mama_dispatch.proofs.ServeLemmas.{serves_ended}
use Rattle.mama_dispatch.proofs.AnswerLemmas.{answers_ended}
use Rattle.mama_dispatch.proofs.KeepLemmas.{kept_with, kept_ended}
use Rattle.mama_dispatch.proofs.entries.serve_gone.Goals as goal

pub returns-clause-ok : goal.returns-clause-ok
returns-clause-ok g c = λ slot. serves_ended slot c.args.object _ c.args.seats.now c.end.new.self _ _ c.in_ok-listener.ensures.ok c.requires

pub returns-clause-kept : goal.returns-clause-kept
returns-clause-kept g c = kept_with c.args.seats.now c.end.new.self (kept_ended c.args.object _ c.args.seats.now c.end.new.self _ _ c.in_ok-listener.ensures.ok)

pub returns-clause-answer : goal.returns-clause-answer
returns-clause-answer g c = λ slot. answers_ended (told g.L.Tagged.tagged g.L.Listener.calls g.L.Listener.heard g.L.Listener.given g.L.Listener.plan) slot c.args.object c.in_ok-listener.listener c.args.seats.now c.end.new.self _ _ c.in_ok-listener.ensures.ok c.requires
