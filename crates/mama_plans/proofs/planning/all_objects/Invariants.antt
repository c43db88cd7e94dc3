use Rattle.std.proofs.Common.{◌≡◌, ◌++◌, drop}
use Rattle.mama_rules_rounds.specs.Sections.{objects_of}
use Rattle.mama_plans.specs.Plans.{planned_objects}
use Rattle.mama_plans.proofs.planning.all_objects.Given as goal

abbrev pub invariant-loop-number : goal.invariant-loop-number
invariant-loop-number l = planned_objects l.objects.items ++ objects_of l.queues l.number (drop l.number l.clients) ≡ objects_of l.queues 0 l.clients
