use Rattle.std.proofs.Common.{sym}
use Rattle.mama_bridge.proofs.ChartLemmas.{firsts_noted}
use Rattle.mama_bridge.proofs.chart.note_first.Goals as goal

pub returns-in_ok-insert : goal.returns-in_ok-insert
returns-in_ok-insert c = λ topics count before.
    firsts_noted topics c.args.topic c.args.number c.args.firsts.now c.insert.new.self count before (sym c.if-not-contains_key.ensures) c.in_ok-insert.ensures.updates.0
