use Rattle.std.proofs.Common.{map, take}
use Rattle.mama_replay.specs.Dealt.{Dealt, client_dealt}
use Rattle.mama_replay.proofs.passes.deal_client.Given as goal

abbrev pub invariant-loop-rank : goal.invariant-loop-rank
invariant-loop-rank l = Dealt (map (λ pass. pass.items) l.fn.passes.items) (map (λ pass. pass.items) l.passes.items) (client_dealt l.client (take l.rank-index l.ranks))
