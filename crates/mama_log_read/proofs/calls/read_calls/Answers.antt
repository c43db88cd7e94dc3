use Rattle.mama_log_read.proofs.Taking.{call_more}
use Rattle.mama_log_read.proofs.calls.read_calls.Goals as goal

pub loop-words-preserved : goal.loop-words-preserved
loop-words-preserved c =
    call_more c.args.names.now c.args.object c.args.text.now c.loop-words.calls.items c.push.new.self.items c.in-Some.call c.loop-words.rest.now c.in-Some.after.now c.loop-words.invariant (rw c.in-Some.is at c.in_ok-call.ensures) c.in_ok-push.ensures.items
