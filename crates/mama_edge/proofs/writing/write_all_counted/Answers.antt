use Rattle.std.proofs.Common.{ℕ, length-take, length-drop, arith}
use Rattle.mama_edge.proofs.ToldLaws.{appended_more, next_front}
use Rattle.mama_edge.proofs.writing.write_all_counted.Goals as goal

pub pieces-preserved : goal.pieces-preserved
pieces-preserved g c =
    let appended = c.in-Ok.ensures.appended in
    let bound = c.in-Ok.ensures.bound in
    let falls = c.in-Ok.ensures.never_falls in (
      omega (arith, length-take {A = ℕ}, length-drop {A = ℕ}),
      appended_more _ _ _ _ _ _ (next_front c.pieces.done c.in-Ok.count c.args.text.now) c.pieces.invariant.1 appended,
      omega arith,
    )
