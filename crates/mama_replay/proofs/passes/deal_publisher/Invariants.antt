use Rattle.std.proofs.Common.{map, take}
use Rattle.mama_replay.specs.Dealt.{Dealt, publisher_dealt}
use Rattle.mama_replay.proofs.passes.deal_publisher.Given as goal

abbrev pub invariant-loop-k : goal.invariant-loop-k
invariant-loop-k l = Dealt (map (λ pass. pass.items) l.fn.passes.items) (map (λ pass. pass.items) l.passes.items) (publisher_dealt l.publisher (take l.k l.ranks) l.journal)
