use Rattle.mama_event.specs.Wire.{arrival_of, reply_of}
use Rattle.mama_seats.proofs.UntoldLemmas.{sub_delivered, sub_replied}
use Rattle.mama_seats.proofs.served_turn.sub_for.Goals as goal

pub returns-in-Deliver : goal.returns-in-Deliver
returns-in-Deliver c = rw c.in-Deliver.is (sub_delivered c.in-Deliver.slot c.in-Deliver.sub (arrival_of c.in-Deliver.msg))

pub returns-in-Reply : goal.returns-in-Reply
returns-in-Reply c = rw c.in-Reply.is (sub_replied c.in-Reply.slot c.in-Reply.inbox (reply_of c.in-Reply.body))
