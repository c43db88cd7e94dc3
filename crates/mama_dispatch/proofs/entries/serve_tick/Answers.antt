use Rattle.std.proofs.lemmas.Result.{IfOk-weaker}
use Rattle.mama_event.specs.declared.ids.ObjectId.TheVariants.{Timer}
use Rattle.mama_event.specs.declared.callback.Callback.TheVariants as on
use Rattle.mama_event.specs.declared.to_queue.QueueNote.TheVariants as q
use Rattle.mama_dispatch.proofs.ServeLemmas.{telling_tick, serves_what_was_told}
use Rattle.mama_dispatch.proofs.AnswerLemmas.{answers_what_was_told}
use Rattle.mama_dispatch.proofs.KeepLemmas.{kept_each_told}
use Rattle.mama_dispatch.proofs.entries.serve_tick.Goals as goal

pub returns-clause-ok : goal.returns-clause-ok
returns-clause-ok g c = IfOk-weaker c.tell_unmuted.result _ _
    (λ answer was slot. serves_what_was_told (q.Tick slot c.args.timer c.args.moment) (Timer c.args.timer) (on.Tick c.args.moment) c.args.seats.now c.tell_unmuted.new.seats _ _ answer (telling_tick slot c.args.timer c.args.moment) c.requires was)
    c.tell_unmuted.ensures.ok

pub returns-clause-kept : goal.returns-clause-kept
returns-clause-kept g c = kept_each_told c.tell_unmuted.result (Timer c.args.timer) (on.Tick c.args.moment) c.args.seats.now c.tell_unmuted.new.seats _ _ c.tell_unmuted.ensures.ok

pub returns-clause-answer : goal.returns-clause-answer
returns-clause-answer g c = IfOk-weaker c.tell_unmuted.result _ _
    (λ answer was slot orders journal ds middle apart fits stands.
    answers_what_was_told (q.Tick slot c.args.timer c.args.moment) (Timer c.args.timer) (on.Tick c.args.moment) c.args.seats.now c.tell_unmuted.new.seats _ _ answer (telling_tick slot c.args.timer c.args.moment) c.requires was orders journal ds stands)
    c.tell_unmuted.ensures.ok
