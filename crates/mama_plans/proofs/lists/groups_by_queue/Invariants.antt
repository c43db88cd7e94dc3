use Rattle.std.proofs.Common.{◌≡◌, map, take}
use Rattle.mama_event.specs.Ports.{queues_of}
use Rattle.mama_rules_rounds.specs.Sections.{groups_from}
use Rattle.mama_plans.specs.Lists.{groups_on_each}
use Rattle.mama_plans.proofs.lists.groups_by_queue.Given as goal

abbrev pub invariant-loop-number : goal.invariant-loop-number
invariant-loop-number l = map (λ list. list.items) l.lists.items ≡ groups_on_each (queues_of l.script.shape) (groups_from l.plans 0 (take l.number l.script.groups))
