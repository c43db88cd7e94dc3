use Rattle.std.proofs.Common.{Bool, true, false, List, sym, ◌∙◌}
use Rattle.mama_event.specs.declared.ids.SubId.{SubId}
use Rattle.mama_rules_queue.specs.Queue.{deeds}
use Rattle.mama_rules_queue.specs.Watch.{is_missed}
use Rattle.mama_timeout.specs.Table.{WatchData}
use Rattle.mama_timeout.proofs.Placing.{nothing, ticked_alike, wished_alike, ticked_never, wished_never, of_none, of_sub}
use Rattle.mama_timeout.proofs.table.WatchTable.after.Goals as goal

pub returns-in_default-clause-notes : goal.returns-in_default-clause-notes
returns-in_default-clause-notes g c = λ orders fits.
    let missed : SubId → Bool = λ s. is_missed s c.args.serving.now.journal (deeds orders c.args.serving.now.journal) in
    let never : SubId → Bool = λ s. false in
    let watches : List WatchData = c.args.self.now.watches in
    let alike = of_none c.args.timer c.args.moment missed never c.sub_of.result watches (nothing c.sub_of.result c.in_default.not-Some) c.sub_of.ensures.only in
    sym (ticked_alike c.args.timer c.args.moment missed never watches alike ∙ ticked_never c.args.timer c.args.moment watches)

pub returns-in_default-clause-wish : goal.returns-in_default-clause-wish
returns-in_default-clause-wish g c = λ tagged orders fits.
    let missed : SubId → Bool = λ s. is_missed s c.args.serving.now.journal (deeds orders c.args.serving.now.journal) in
    let never : SubId → Bool = λ s. false in
    let watches : List WatchData = c.args.self.now.watches in
    let alike = of_none c.args.timer c.args.moment missed never c.sub_of.result watches (nothing c.sub_of.result c.in_default.not-Some) c.sub_of.ensures.only in
    sym (wished_alike c.args.timer c.args.moment missed never watches alike ∙ wished_never c.args.timer c.args.moment watches)

pub returns-then-not-is_missed_by-clause-notes : goal.returns-then-not-is_missed_by-clause-notes
returns-then-not-is_missed_by-clause-notes g c = λ orders fits.
    let missed : SubId → Bool = λ s. is_missed s c.args.serving.now.journal (deeds orders c.args.serving.now.journal) in
    let never : SubId → Bool = λ s. false in
    let watches : List WatchData = c.args.self.now.watches in
    let alike = of_sub c.args.timer c.args.moment missed never c.in-Some.sub c.sub_of.result watches c.in-Some.is (sym (c.is_missed_by.ensures orders fits) ∙ c.if-not-is_missed_by.true) c.sub_of.ensures.only in
    sym (ticked_alike c.args.timer c.args.moment missed never watches alike ∙ ticked_never c.args.timer c.args.moment watches)

pub returns-then-not-is_missed_by-clause-wish : goal.returns-then-not-is_missed_by-clause-wish
returns-then-not-is_missed_by-clause-wish g c = λ tagged orders fits.
    let missed : SubId → Bool = λ s. is_missed s c.args.serving.now.journal (deeds orders c.args.serving.now.journal) in
    let never : SubId → Bool = λ s. false in
    let watches : List WatchData = c.args.self.now.watches in
    let alike = of_sub c.args.timer c.args.moment missed never c.in-Some.sub c.sub_of.result watches c.in-Some.is (sym (c.is_missed_by.ensures orders fits) ∙ c.if-not-is_missed_by.true) c.sub_of.ensures.only in
    sym (wished_alike c.args.timer c.args.moment missed never watches alike ∙ wished_never c.args.timer c.args.moment watches)

pub returns-clause-notes : goal.returns-clause-notes
returns-clause-notes g c = λ orders fits.
    let missed : SubId → Bool = λ s. is_missed s c.args.serving.now.journal (deeds orders c.args.serving.now.journal) in
    let always : SubId → Bool = λ s. true in
    let watches : List WatchData = c.args.self.now.watches in
    let alike = of_sub c.args.timer c.args.moment missed always c.in-Some.sub c.sub_of.result watches c.in-Some.is (sym (c.is_missed_by.ensures orders fits) ∙ c.if-not-is_missed_by.false) c.sub_of.ensures.only in
    c.count.ensures.notes ∙ sym (ticked_alike c.args.timer c.args.moment missed always watches alike)

pub returns-clause-wish : goal.returns-clause-wish
returns-clause-wish g c = λ tagged orders fits.
    let missed : SubId → Bool = λ s. is_missed s c.args.serving.now.journal (deeds orders c.args.serving.now.journal) in
    let always : SubId → Bool = λ s. true in
    let watches : List WatchData = c.args.self.now.watches in
    let alike = of_sub c.args.timer c.args.moment missed always c.in-Some.sub c.sub_of.result watches c.in-Some.is (sym (c.is_missed_by.ensures orders fits) ∙ c.if-not-is_missed_by.false) c.sub_of.ensures.only in
    c.wish_event.ensures tagged ∙ c.count.ensures.wish ∙ sym (wished_alike c.args.timer c.args.moment missed always watches alike)
