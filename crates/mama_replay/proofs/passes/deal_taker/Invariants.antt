use Rattle.std.proofs.Common.{map, take}
use Rattle.mama_replay.specs.Dealt.{Dealt, taker_dealt}
use Rattle.mama_replay.proofs.passes.deal_taker.Given as goal

abbrev pub invariant-loop-k : goal.invariant-loop-k
invariant-loop-k g l = Dealt (map (λ pass. pass.items) l.fn.passes.items) (map (λ pass. pass.items) l.passes.items) (taker_dealt l.actor (take l.k l.ranks) l.journal)
