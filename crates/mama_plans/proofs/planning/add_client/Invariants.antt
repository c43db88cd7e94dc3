use Rattle.std.proofs.Common.{◌≡◌, ◌++◌, drop, []}
use Rattle.mama_rules_rounds.specs.Client.{objects_from, at_first}
use Rattle.mama_plans.specs.Plans.{planned_objects}
use Rattle.mama_plans.specs.Names.{standing_of}
use Rattle.mama_plans.specs.Room.{HasRoomFor}
use Rattle.mama_plans.proofs.planning.add_client.Given as goal

abbrev pub invariant-loop-line : goal.invariant-loop-line
invariant-loop-line l = record {
  objects :
      planned_objects l.objects.items ++ objects_from l.queues l.number (standing_of l.names []) (drop l.line-index l.lines)
      ≡ planned_objects l.fn.objects.items ++ objects_from l.queues l.number (at_first []) l.lines;
  room : HasRoomFor (drop l.line-index l.lines) l.names;
}
