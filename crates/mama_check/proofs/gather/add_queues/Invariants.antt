use Rattle.std.proofs.Common.{◌≡◌, ◌++◌, map, take}
use Rattle.mama_check_queue.specs.Served.{bridge_puts}
use Rattle.mama_check.proofs.gather.add_queues.Given as goal

-- what was put by so many is added
abbrev pub invariant-loop-queue : goal.invariant-loop-queue
invariant-loop-queue l = map (λ list. list.now) l.lists.items ≡ map (λ list. list.now) l.initial.lists.items ++ map bridge_puts (take l.queue-index l.queues)
