use Rattle.std.proofs.Common.{◌<◌, length, arith, sym, ◌∙◌, below_more}
use Rattle.mama_drive.proofs.RestLemmas.{over_at}
use Rattle.mama_drive.proofs.resting.next_left.Goals as goal

pub loop-next-preserved : goal.loop-next-preserved
loop-next-preserved c = below_more _ _ c.loop-next.invariant
    (λ begins. over_at c.args.seats.now c.loop-next.next c.index-seats-next.result (let h : c.loop-next.next < length c.args.seats.now = omega arith in h) c.index-seats-next.is
    (sym c.is_over.ensures ∙ c.if-not-is_over.false))
