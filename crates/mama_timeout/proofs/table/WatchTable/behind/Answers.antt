use Rattle.std.proofs.Common.{Bool, sym, ◌∙◌}
use Rattle.mama_event.specs.declared.ids.SubId.{SubId}
use Rattle.mama_rules_queue.specs.Queue.{deeds}
use Rattle.mama_rules_queue.specs.Watch.{is_missed}
use Rattle.mama_timeout.proofs.Watched.{watches_behind, wishes_behind}
use Rattle.mama_timeout.proofs.table.WatchTable.behind.Goals as goal

pub returns-then-has_called-clause-notes : goal.returns-then-has_called-clause-notes
returns-then-has_called-clause-notes g c = λ orders fits.
    let missed : SubId → Bool = λ s. is_missed s c.args.serving.now.journal (deeds orders c.args.serving.now.journal) in
    c.after.ensures.notes orders fits
    ∙ watches_behind c.args.tick c.in-Some.timer c.in-Some.moment c.args.turn.now missed c.args.self.now.watches c.in-Some.is (sym c.has_called.ensures ∙ c.if-has_called.true)

pub returns-then-has_called-clause-wish : goal.returns-then-has_called-clause-wish
returns-then-has_called-clause-wish g c = λ tagged orders fits.
    let missed : SubId → Bool = λ s. is_missed s c.args.serving.now.journal (deeds orders c.args.serving.now.journal) in
    c.after.ensures.wish tagged orders fits
    ∙ wishes_behind c.args.tick c.in-Some.timer c.in-Some.moment c.args.turn.now missed c.args.self.now.watches c.in-Some.is (sym c.has_called.ensures ∙ c.if-has_called.true)
