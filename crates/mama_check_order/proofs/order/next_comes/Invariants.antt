use Rattle.std.proofs.Common.{◌+◌, ◌*◌, ◌<◌, length, map, get_or}
use Rattle.mama_check_order.specs.Search.{entries_of, IsReached, GoesOn}
use Rattle.mama_check_order.proofs.Searches.{IsSearch, left, free}
use Rattle.mama_check_order.proofs.order.next_comes.Given as goal

abbrev pub invariant-loop-made : goal.invariant-loop-made
invariant-loop-made l = record {
  inside : l.actor < length l.needs;
  next : get_or l.made l.actor 0 < length (entries_of (map (λ actor. actor.items) l.needs) l.actor);
  search : IsSearch (map (λ actor. actor.items) l.needs) l.made l.askers l.wanted l.actor;
  reached : IsReached (map (λ actor. actor.items) l.needs) l.made l.turns.items;
  goes_on : GoesOn l.fn.made l.made;
  -- the entry that is wanted has not had its turn
  wanted : get_or l.made l.wanted 0 < length (entries_of (map (λ actor. actor.items) l.needs) l.wanted);
}

-- a turn makes one entry less that is left, and frees one actor at most; each that is asked is one less that is free
abbrev pub decreases-loop-made : goal.decreases-loop-made
decreases-loop-made l = 2 * left (map (λ actor. actor.items) l.needs) l.made + free l.askers
