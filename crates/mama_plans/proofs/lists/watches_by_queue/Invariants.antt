use Rattle.std.proofs.Common.{◌≡◌, map, take}
use Rattle.mama_event.specs.Ports.{queues_of}
use Rattle.mama_rules_rounds.specs.Sections.{watches_from}
use Rattle.mama_plans.specs.Lists.{watches_on_each}
use Rattle.mama_plans.proofs.lists.watches_by_queue.Given as goal

abbrev pub invariant-loop-number : goal.invariant-loop-number
invariant-loop-number l = map (λ list. list.items) l.lists.items ≡ watches_on_each (queues_of l.script.shape) (watches_from l.plans 0 (take l.number l.script.watches))
