use Rattle.std.specs.Vec.{vec_len}
use Rattle.std.proofs.Common.{◌≤◌}
use Rattle.mama_dispatch.proofs.blocks.add_blocks.Given as goal

abbrev pub invariant-loop-i : goal.invariant-loop-i
invariant-loop-i l = record {
  so_many : l._i ≤ vec_len l.blocks;
  others : vec_len l.initial.blocks ≤ vec_len l.blocks;
}
