use Rattle.std.proofs.lemmas.Result.{IfOk-weaker}
use Rattle.mama_event.specs.declared.ids.ObjectId.TheVariants.{Inbox}
use Rattle.mama_event.specs.declared.callback.Callback.TheVariants as on
use Rattle.mama_event.specs.declared.to_queue.QueueNote.TheVariants as q
use Rattle.mama_dispatch.proofs.ServeLemmas.{telling_reply, serves_what_was_told}
use Rattle.mama_dispatch.proofs.AnswerLemmas.{answers_what_was_told}
use Rattle.mama_dispatch.proofs.KeepLemmas.{kept_each_told}
use Rattle.mama_dispatch.proofs.entries.serve_reply.Goals as goal

pub returns-clause-ok : goal.returns-clause-ok
returns-clause-ok g c = IfOk-weaker c.tell_unmuted.result _ _
    (λ answer was slot. serves_what_was_told (q.Reply slot c.args.inbox c.args.body.now) (Inbox c.args.inbox) (on.Reply c.in_ok-body.body) c.args.seats.now c.tell_unmuted.new.seats _ _ answer (telling_reply slot c.args.inbox c.args.body.now c.in_ok-body.body c.in_ok-body.ensures.equal) c.requires was)
    c.tell_unmuted.ensures.ok

pub returns-clause-kept : goal.returns-clause-kept
returns-clause-kept g c = kept_each_told c.tell_unmuted.result (Inbox c.args.inbox) (on.Reply c.in_ok-body.body) c.args.seats.now c.tell_unmuted.new.seats _ _ c.tell_unmuted.ensures.ok

pub returns-clause-answer : goal.returns-clause-answer
returns-clause-answer g c = IfOk-weaker c.tell_unmuted.result _ _
    (λ answer was slot orders journal ds middle apart fits stands.
    answers_what_was_told (q.Reply slot c.args.inbox c.args.body.now) (Inbox c.args.inbox) (on.Reply c.in_ok-body.body) c.args.seats.now c.tell_unmuted.new.seats _ _ answer (telling_reply slot c.args.inbox c.args.body.now c.in_ok-body.body c.in_ok-body.ensures.equal) c.requires was orders journal ds stands)
    c.tell_unmuted.ensures.ok
