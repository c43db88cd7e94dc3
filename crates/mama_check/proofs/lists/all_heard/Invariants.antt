use Rattle.std.proofs.Common.{◌≡◌, map, take}
use Rattle.mama_check_queue.specs.Served.{groups_heard, group_given}
use Rattle.mama_check.proofs.lists.all_heard.Given as goal

-- the lists of so many queues
abbrev pub invariant-loop-queue : goal.invariant-loop-queue
invariant-loop-queue l = map (λ list. map group_given list.now) l.lists.items ≡ map groups_heard (take l.queue-index l.served)
