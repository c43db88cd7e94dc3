use Rattle.std.specs.Prelude.{◌≡◌, Some, take}
use Rattle.mama_rules_queue.specs.Queue.{context_of}
use Rattle.mama_check_queue.proofs.seen.folded.Given as goal

-- so many messages were folded
abbrev pub invariant-loop-msg : goal.invariant-loop-msg
invariant-loop-msg l = l.context ≡ context_of (Some l.fn.make) (take l.msg-index l.messages)
