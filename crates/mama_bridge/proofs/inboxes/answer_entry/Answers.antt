use Rattle.std.specs.Prelude.{option_to_list}
use Rattle.std.proofs.Common.{ap, sym, ◌∙◌, [], ◌∷◌, map, Some, subst}
use Rattle.std.proofs.lemmas.Result.{on_ok_weaker, on_err_weaker}
use Rattle.std.specs.declared.option.Option.{Option}
use Rattle.mama_event.specs.declared.ids.InboxId.{InboxId}
use Rattle.mama_laws_bridge.specs.Table.{inbox_passed}
use Rattle.mama_bridge.specs.Links.{InboxView, inbox_seen, inbox_emit_outs, EntryAnswers}
use Rattle.mama_bridge.specs.declared.inboxes.InboxLink.{InboxLink}
use Rattle.mama_bridge.proofs.InboxLemmas.{one_answers, none_answers}
use Rattle.mama_bridge.proofs.inboxes.answer_entry.Goals as goal

pub returns-in-Some-clause-ok : goal.returns-in-Some-clause-ok
returns-in-Some-clause-ok g c =
    on_ok_weaker c.answer.result
    (λ step. λ fields same. subst (λ (e : Option InboxLink). EntryAnswers {L = g.row.L.Denot} fields e (Some c.answer.new.link) c.args.out.now.items c.answer.new.out.items) (sym c.in-Some.is)
    (one_answers (inbox_passed fields) (inbox_emit_outs fields) c.in-Some.link c.answer.new.link c.args.out.now.items c.answer.new.out.items (λ row seen. step fields row same seen)))
    c.answer.ensures.ok

pub returns-in-None-clause-ok : goal.returns-in-None-clause-ok
returns-in-None-clause-ok g c fields same =
    subst (λ (e : Option InboxLink). EntryAnswers {L = g.row.L.Denot} fields e e c.args.out.now.items c.args.out.now.items) (sym c.in-None.is)
    (none_answers (inbox_passed fields) (inbox_emit_outs fields) c.args.out.now.items)

pub returns-in-Some-clause-named : goal.returns-in-Some-clause-named
returns-in-Some-clause-named g c =
    ap (λ (i : InboxId). i ∷ []) c.answer.ensures.named ∙ ap (λ (e : Option InboxLink). map (λ (link : InboxLink). link.inbox) (option_to_list e)) (sym c.in-Some.is)

pub returns-in-Some-clause-seen : goal.returns-in-Some-clause-seen
returns-in-Some-clause-seen g c =
    on_err_weaker c.answer.result
    (λ same. ap (λ (v : InboxView). v ∷ []) same ∙ ap (λ (e : Option InboxLink). map inbox_seen (option_to_list e)) (sym c.in-Some.is))
    c.answer.ensures.seen
