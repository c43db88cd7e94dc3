use Rattle.std.proofs.Common.{◌≡◌, ◌∷◌, ap, ◌∙◌}
use Rattle.mama_script.specs.declared.line.Line.{Line}
use Rattle.mama_script.specs.declared.line.Line.TheVariants as lines
use Rattle.mama_script.proofs.Standing.{lines_more, sound_more, stand_more}
use Rattle.mama_script.proofs.tree.take_faults.Goals as goal

pub loop-line-preserved : goal.loop-line-preserved
loop-line-preserved c =
    let here = c.loop-line.lines.items in
    let rest = c.pop_front.new.self.items in
    let rows = c.loop-line.rows.items in
    let next = c.push.new.self.items in
    let popped : here ≡ lines.Fault c.in-Fault.row ∷ rest = c.in-Some.ensures.items ∙ ap (λ (x : Line). x ∷ rest) c.in-Fault.is in
    let pushed = c.in_ok-push-in-Fault.ensures.items in
    record {
      lines = lines_more c.args.lines.now.items here rest rows next c.in-Fault.row c.loop-line.invariant.lines popped pushed;
      sound = sound_more rows next c.in-Fault.row here rest c.loop-line.invariant.sound c.loop-line.invariant.stand popped pushed;
      stand = stand_more rows next c.in-Fault.row here rest c.loop-line.invariant.stand popped pushed;
    }
