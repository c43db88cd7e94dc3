use Rattle.std.proofs.Common.{map}
use Rattle.mama_record.specs.RunView.{entries_of}
use Rattle.mama_replay.specs.Dealt.{Dealt, publishers_dealt}
use Rattle.mama_replay.proofs.passes.deal_publishers.Given as goal

abbrev pub invariant-loop-p : goal.invariant-loop-p
invariant-loop-p l = Dealt (map (λ pass. pass.items) l.fn.passes.items) (map (λ pass. pass.items) l.passes.items) (publishers_dealt (map (λ own. own.items) l.ranks) l.first (entries_of l.journals) l.p)
