use Rattle.std.proofs.Common.{ℕ, ◌<◌, ◌≤◌, length, map, get_or}
use Rattle.mama_check_order.specs.Search.{entries_of, IsReached, NoneIsAsked}
use Rattle.mama_check_order.proofs.order.first_stuck.Given as goal

-- the actors so far have made all their entries
abbrev pub invariant-loop-actor : goal.invariant-loop-actor
invariant-loop-actor l = record {
  reached : IsReached (map (λ actor. actor.items) l.needs) l.made l.turns.items;
  none : NoneIsAsked l.askers;
  whole : (a : ℕ) → a < l.actor → length (entries_of (map (λ actor. actor.items) l.needs) a) ≤ get_or l.made a 0;
}
