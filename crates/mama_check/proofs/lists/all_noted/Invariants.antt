use Rattle.std.proofs.Common.{◌≡◌, map, take}
use Rattle.mama_check_queue.specs.Served.{watches_noted, watch_given}
use Rattle.mama_check.proofs.lists.all_noted.Given as goal

-- the lists of so many queues
abbrev pub invariant-loop-queue : goal.invariant-loop-queue
invariant-loop-queue l = map (λ list. map watch_given list.now) l.lists.items ≡ map watches_noted (take l.queue-index l.served)
