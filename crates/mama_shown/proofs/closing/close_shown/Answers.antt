use Rattle.std.specs.Prelude.{IfOk}
use Rattle.std.proofs.lemmas.Result.{IfOk-weaker, IfOk-from_err}
use Rattle.mama_shown.proofs.Closed.{crew_bare, ended_bare, journals_bare, images_last}
use Rattle.mama_shown.proofs.closing.close_shown.Goals as goal

pub close_grouped-requires-clause-crew : goal.close_grouped-requires-clause-crew
close_grouped-requires-clause-crew g c = crew_bare c.args.script.now c.args.hall c.args.seats.items c.in_ok-seats.field-0.seats.items c.in_ok-seats.ensures.seats c.requires.crew

pub close_grouped-requires-clause-ended : goal.close_grouped-requires-clause-ended
close_grouped-requires-clause-ended g c = ended_bare c.args.seats.items c.in_ok-seats.field-0.seats.items c.in_ok-seats.ensures.seats c.requires.ended

pub close_grouped-requires-clause-images : goal.close_grouped-requires-clause-images
close_grouped-requires-clause-images g c =
    images_last c.args.script.now c.args.hall c.args.seats.items c.in_ok-seats.field-0.seats.items c.in_ok-seats.ensures.seats c.requires.crew c.in_ok-seats.field-0.readers.items c.in_ok-seats.ensures.readers
    c.plans.result.now c.plans.ensures c.in_ok-images.images.items c.in_ok-images.ensures

pub returns-clause-journals : goal.returns-clause-journals
returns-clause-journals g c =
    IfOk-weaker c.close_grouped.result _ _ (λ r journals. journals_bare c.args.seats.items c.in_ok-seats.field-0.seats.items r.0 c.in_ok-seats.ensures.seats journals) c.close_grouped.ensures.journals

pub returns-clause-legal : goal.returns-clause-legal
returns-clause-legal g c = c.close_grouped.ensures.legal

pub returns-clause-listeners : goal.returns-clause-listeners
returns-clause-listeners g c = c.close_grouped.ensures.listeners

pub returns-clause-groups : goal.returns-clause-groups
returns-clause-groups g c = c.close_grouped.ensures.groups

pub returns-in_err-seats-clause-journals : goal.returns-in_err-seats-clause-journals
returns-in_err-seats-clause-journals g c = IfOk-from_err c.from_residual.result _ c.from_residual.ensures.0

pub returns-in_err-seats-clause-legal : goal.returns-in_err-seats-clause-legal
returns-in_err-seats-clause-legal g c = IfOk-from_err c.from_residual.result _ c.from_residual.ensures.0

pub returns-in_err-seats-clause-listeners : goal.returns-in_err-seats-clause-listeners
returns-in_err-seats-clause-listeners g c = IfOk-from_err c.from_residual.result _ c.from_residual.ensures.0

pub returns-in_err-seats-clause-groups : goal.returns-in_err-seats-clause-groups
returns-in_err-seats-clause-groups g c = IfOk-from_err c.from_residual.result _ c.from_residual.ensures.0

pub returns-in_err-images-clause-journals : goal.returns-in_err-images-clause-journals
returns-in_err-images-clause-journals g c = IfOk-from_err c.from_residual-in_err-images.result _ c.from_residual-in_err-images.ensures.0

pub returns-in_err-images-clause-legal : goal.returns-in_err-images-clause-legal
returns-in_err-images-clause-legal g c = IfOk-from_err c.from_residual-in_err-images.result _ c.from_residual-in_err-images.ensures.0

pub returns-in_err-images-clause-listeners : goal.returns-in_err-images-clause-listeners
returns-in_err-images-clause-listeners g c = IfOk-from_err c.from_residual-in_err-images.result _ c.from_residual-in_err-images.ensures.0

pub returns-in_err-images-clause-groups : goal.returns-in_err-images-clause-groups
returns-in_err-images-clause-groups g c = IfOk-from_err c.from_residual-in_err-images.result _ c.from_residual-in_err-images.ensures.0
