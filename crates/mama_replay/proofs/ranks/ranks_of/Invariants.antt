use Rattle.std.proofs.Common.{◌≡◌, length, map, take}
use Rattle.mama_replay.specs.Ranks.{AreRanks}
use Rattle.mama_replay.proofs.ranks.ranks_of.Given as goal

-- the turns so far have their passes
abbrev pub invariant-loop-actor : goal.invariant-loop-actor
invariant-loop-actor l = record {
  as_many : length l.ranks.items ≡ length l.needs;
  ranked : AreRanks (map (λ actor. actor.items) l.needs) (take l.actor-index l.turns) (map (λ own. own.items) l.ranks.items);
}
