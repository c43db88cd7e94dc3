use Rattle.std.proofs.Common.{map}
use Rattle.mama_record.specs.RunView.{events_of}
use Rattle.mama_replay.specs.Dealt.{Dealt, queues_dealt}
use Rattle.mama_replay.proofs.passes.deal_queues.Given as goal

abbrev pub invariant-loop-q : goal.invariant-loop-q
invariant-loop-q l = Dealt (map (λ pass. pass.items) l.fn.passes.items) (map (λ pass. pass.items) l.passes.items) (queues_dealt (map (λ own. own.items) l.ranks) l.first (events_of l.journals) l.q)
