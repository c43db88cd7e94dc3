use Rattle.std.proofs.Common.{ap, ◌∙◌}
use Rattle.mama_event.specs.declared.ids.ObjectId.TheVariants.{Sub, Timer, Inbox}
use Rattle.mama_rules_queue.specs.Queue.{ends}
use Rattle.mama_check_queue.specs.Rows.{seen_in}
use Rattle.mama_check_queue.proofs.RowLemmas.{mutes, mutes_none, ends_sub, ends_timer, ends_inbox, ends_none}
use Rattle.mama_check_queue.proofs.objects.Objects.mute.Goals as goal

pub returns-in-Stop : goal.returns-in-Stop
returns-in-Stop c = λ x. c.silence.ensures x ∙ mutes (Sub c.in-Stop.sub) c.args.order.now (λ y. ap (ends y) c.in-Stop.is ∙ ends_sub c.in-Stop.sub y) x (seen_in c.args.self.now x)

pub returns-in-Disarm : goal.returns-in-Disarm
returns-in-Disarm c = λ x. c.silence-in-Disarm.ensures x ∙ mutes (Timer c.in-Disarm.timer) c.args.order.now (λ y. ap (ends y) c.in-Disarm.is ∙ ends_timer c.in-Disarm.timer y) x (seen_in c.args.self.now x)

pub returns-in-Close : goal.returns-in-Close
returns-in-Close c = λ x. c.silence-in-Close.ensures x ∙ mutes (Inbox c.in-Close.inbox) c.args.order.now (λ y. ap (ends y) c.in-Close.is ∙ ends_inbox c.in-Close.inbox y) x (seen_in c.args.self.now x)

pub returns-in-Ask : goal.returns-in-Ask
returns-in-Ask c = λ x. mutes_none c.args.order.now (λ y. ap (ends y) c.in-Ask.is ∙ ends_none c.in-Ask.inbox c.in-Ask.topic c.in-Ask.fids y) x (seen_in c.args.self.now x)
