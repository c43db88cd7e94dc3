use Rattle.std.proofs.Common.{◌≡◌, filter}
use Rattle.mama_rules_rounds.specs.Sections.{is_sub, is_timer, is_inbox}
use Rattle.mama_plans.specs.Plans.{planned_objects}
use Rattle.mama_plans.proofs.planning.by_kind.Given as goal

abbrev pub invariant-loop-planned : goal.invariant-loop-planned
invariant-loop-planned l = record {
  subs : planned_objects l.subs.items ≡ filter is_sub (planned_objects l.yielded);
  timers : planned_objects l.timers.items ≡ filter is_timer (planned_objects l.yielded);
  inboxes : planned_objects l.inboxes.items ≡ filter is_inbox (planned_objects l.yielded);
}
