use Rattle.std.proofs.Common.{refl, sym, ◌∙◌}
use Rattle.mama_event.specs.Listener.{told}
use Rattle.mama_dispatch.proofs.ServeLemmas.{serves_delivered, serves_undelivered}
use Rattle.mama_dispatch.proofs.AnswerLemmas.{answers_delivered, mutes_delivered}
use Rattle.mama_dispatch.proofs.KeepLemmas.{kept_with, kept_same}
use Rattle.mama_dispatch.proofs.AppendLemmas.{appended_same}
use Rattle.mama_dispatch.proofs.entries.serve_deliver.Goals as goal

pub returns-then-is_muted-clause-ok : goal.returns-then-is_muted-clause-ok
returns-then-is_muted-clause-ok g c = λ slot. serves_undelivered slot c.args.sub c.args.msg.now c.args.seats.now _ c.requires (sym c.is_muted.ensures ∙ c.if-is_muted.true)

pub returns-then-is_muted-clause-kept : goal.returns-then-is_muted-clause-kept
returns-then-is_muted-clause-kept g c = kept_with c.args.seats.now c.args.seats.now (kept_same c.args.seats.now)

pub returns-then-is_muted-clause-answer : goal.returns-then-is_muted-clause-answer
returns-then-is_muted-clause-answer g c = λ slot. mutes_delivered (told g.L.Tagged.tagged g.L.Listener.calls g.L.Listener.heard g.L.Listener.given g.L.Listener.plan) slot c.args.sub c.args.msg.now c.args.seats.now c.requires (sym c.is_muted.ensures ∙ c.if-is_muted.true)

pub returns-then-is_muted-clause-appended : goal.returns-then-is_muted-clause-appended
returns-then-is_muted-clause-appended g c = appended_same _ _ refl

pub returns-clause-ok : goal.returns-clause-ok
returns-clause-ok g c = λ slot. serves_delivered slot c.args.sub c.args.msg.now c.args.seats.now c.deliver.new.self _ _ c.in_ok-count.count c.in_ok-count.ensures.ok c.requires (sym c.is_muted.ensures ∙ c.if-is_muted.false)

pub returns-clause-kept : goal.returns-clause-kept
returns-clause-kept g c = kept_with c.args.seats.now c.deliver.new.self c.in_ok-count.ensures.ok.kept

pub returns-clause-answer : goal.returns-clause-answer
returns-clause-answer g c = λ slot. answers_delivered (told g.L.Tagged.tagged g.L.Listener.calls g.L.Listener.heard g.L.Listener.given g.L.Listener.plan) slot c.args.sub c.args.msg.now c.args.seats.now c.deliver.new.self _ _ c.in_ok-count.count c.in_ok-count.ensures.ok c.requires (sym c.is_muted.ensures ∙ c.if-is_muted.false)
