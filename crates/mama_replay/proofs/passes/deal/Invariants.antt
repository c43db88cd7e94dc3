use Rattle.std.proofs.Common.{◌≡◌, ℕ, ◌+◌, ◌-◌, [], length, map}
use Rattle.std.specs.Prelude.{slice_index_or}
use Rattle.mama_replay.proofs.passes.deal.Given as goal

-- lists with nothing in them say no more
abbrev pub invariant-loop-alloc : goal.invariant-loop-alloc
invariant-loop-alloc l = (m : ℕ) → slice_index_or (map (λ pass. pass.items) l.passes.items) m [] ≡ slice_index_or (map (λ pass. pass.items) l.fn.passes.items) m []

abbrev pub decreases-loop-alloc : goal.decreases-loop-alloc
decreases-loop-alloc l = l.rank + 1 - length l.passes.items
