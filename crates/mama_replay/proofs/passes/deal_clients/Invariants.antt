use Rattle.std.proofs.Common.{map}
use Rattle.mama_replay.specs.Dealt.{Dealt, clients_dealt}
use Rattle.mama_replay.proofs.passes.deal_clients.Given as goal

abbrev pub invariant-loop-c : goal.invariant-loop-c
invariant-loop-c l = Dealt (map (λ pass. pass.items) l.fn.passes.items) (map (λ pass. pass.items) l.passes.items) (clients_dealt (map (λ own. own.items) l.ranks) l.c)
