use Rattle.mama_rules_rounds.specs.Sections.{setting_of}
use Rattle.mama_grouped.proofs.Opening.{on_ok_always}
use Rattle.mama_grouped.proofs.crew.next_hearing.Goals as goal

pub hearing_for-requires-clause-new : goal.hearing_for-requires-clause-new
hearing_for-requires-clause-new g c = c.requires.new

pub hearing_for-requires-clause-rows : goal.hearing_for-requires-clause-rows
hearing_for-requires-clause-rows g c = (c.rows_for-rows.ensures (setting_of c.args.script.now).groups c.requires.rows.others c.requires.rows.first).0

pub returns-clause-rows : goal.returns-clause-rows
returns-clause-rows g c = on_ok_always c.hearing_for.result (record { left = λ others first. (c.rows_for-rows.ensures (setting_of c.args.script.now).groups others first).1 })

pub returns-clause-hears : goal.returns-clause-hears
returns-clause-hears g c = c.hearing_for.ensures.hears

pub returns-clause-told : goal.returns-clause-told
returns-clause-told g c = c.hearing_for.ensures.told
