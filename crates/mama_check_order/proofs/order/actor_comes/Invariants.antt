use Rattle.std.proofs.Common.{◌-◌, length, map, get_or}
use Rattle.mama_check_order.specs.Search.{entries_of, IsReached, NoneIsAsked, GoesOn}
use Rattle.mama_check_order.proofs.order.actor_comes.Given as goal

abbrev pub invariant-loop-made : goal.invariant-loop-made
invariant-loop-made l = record {
  reached : IsReached (map (λ actor. actor.items) l.needs) l.made l.turns.items;
  none : NoneIsAsked l.askers;
  goes_on : GoesOn l.fn.made l.made;
}

abbrev pub decreases-loop-made : goal.decreases-loop-made
decreases-loop-made l = length (entries_of (map (λ actor. actor.items) l.needs) l.actor) - get_or l.made l.actor 0
