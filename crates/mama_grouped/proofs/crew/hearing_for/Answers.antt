use Rattle.std.proofs.Common.{sym, ap, ◌∙◌}
use Rattle.std.proofs.lemmas.Result.{IfOk-from_err}
use Rattle.mama_rules_rounds.specs.Sections.{setting_of}
use Rattle.mama_grouped.specs.Opening.{rows_given}
use Rattle.mama_grouped.proofs.Opening.{unheard}
use Rattle.mama_grouped.proofs.crew.hearing_for.Goals as goal

pub hearing_of-requires-clause-new : goal.hearing_of-requires-clause-new
hearing_of-requires-clause-new g c = c.requires.new

pub hearing_of-requires-clause-rows : goal.hearing_of-requires-clause-rows
hearing_of-requires-clause-rows g c = ap rows_given (sym c.in-Some.is) ∙ c.requires.rows

pub returns-in_ok-hearing-in-Some-clause-hears : goal.returns-in_ok-hearing-in-Some-clause-hears
returns-in_ok-hearing-in-Some-clause-hears g c = c.in_ok-hearing-in-Some.ensures.hears

pub returns-in_ok-hearing-in-Some-clause-told : goal.returns-in_ok-hearing-in-Some-clause-told
returns-in_ok-hearing-in-Some-clause-told g c = c.in_ok-hearing-in-Some.ensures.told

pub returns-in_err-hearing-in-Some-clause-hears : goal.returns-in_err-hearing-in-Some-clause-hears
returns-in_err-hearing-in-Some-clause-hears g c = IfOk-from_err c.from_residual.result _ c.from_residual.ensures.0

pub returns-in_err-hearing-in-Some-clause-told : goal.returns-in_err-hearing-in-Some-clause-told
returns-in_err-hearing-in-Some-clause-told g c = IfOk-from_err c.from_residual.result _ c.from_residual.ensures.0

pub returns-in-None-clause-hears : goal.returns-in-None-clause-hears
returns-in-None-clause-hears g c =
    unheard g.row.H.Denot c.args.script.now c.args._hall.now (setting_of c.args.script.now).groups c.args._seat.now (ap rows_given (sym c.in-None.is) ∙ c.requires.rows)

pub returns-in-None-clause-told : goal.returns-in-None-clause-told
returns-in-None-clause-told g c = tt
