use Rattle.mama_record.specs.LogText.{callback_text}
use Rattle.mama_log_line.specs.Entering.{MayHear}
use Rattle.mama_log_read.proofs.Spelled.{plain_call}
use Rattle.mama_log_read.proofs.Taking.{some_next, none_next, next_uncut}
use Rattle.mama_log_read.proofs.calls.next_callback.Goals as goal

pub returns-in-Some-2 : goal.returns-in-Some-2
returns-in-Some-2 c =
    some_next (MayHear c.args.names.now.nums c.args.object) callback_text c.args.text.now c.in-Some.line.now c.in-Some.after.now c.in_ok-call-in-Some.field-0 c.in-Some-2.call c.in-Some.ensures c.in-Some-2.is (rw c.nums.ensures at c.in_ok-call-in-Some.ensures.found)

pub returns-in-None-2 : goal.returns-in-None-2
returns-in-None-2 c =
    none_next (MayHear c.args.names.now.nums c.args.object) callback_text (plain_call c.args.names.now.nums c.args.object) c.args.text.now c.in-Some.line.now c.in-Some.after.now c.in_ok-call-in-Some.field-0 c.in-Some.ensures c.in-None-2.is (rw c.nums.ensures at c.in_ok-call-in-Some.ensures.again)

pub returns-in-None : goal.returns-in-None
returns-in-None c = next_uncut (MayHear c.args.names.now.nums c.args.object) callback_text (plain_call c.args.names.now.nums c.args.object) c.args.text.now c.in-None.ensures
