use Rattle.std.proofs.Common.{◌≡◌, ℕ, [], length, map}
use Rattle.mama_replay.specs.Ranks.{ranks_at}
use Rattle.mama_replay.proofs.ranks.no_ranks.Given as goal

abbrev pub invariant-loop : goal.invariant-loop
invariant-loop l = record {
  count : length l.ranks.items ≡ l.counter;
  none : (actor : ℕ) → ranks_at (map (λ own. own.items) l.ranks.items) actor ≡ [];
}
