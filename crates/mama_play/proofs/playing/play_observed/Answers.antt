use Rattle.std.proofs.lemmas.Result.{IfOk-from_err}
use Rattle.mama_play.proofs.playing.play_observed.Goals as goal

pub turned_beside-requires-clause-workers : goal.turned_beside-requires-clause-workers
turned_beside-requires-clause-workers g c κs lives = c.requires.workers

pub turned_beside-requires-clause-seats : goal.turned_beside-requires-clause-seats
turned_beside-requires-clause-seats g c κs lives = c.in_ok-hall.ensures.crew.each

pub close_shown-requires-clause-crew : goal.close_shown-requires-clause-crew
close_shown-requires-clause-crew g c = record { hall_is = c.in_ok-hall.ensures.crew.hall_is; actors = c.in_ok-readers.ensures.actors; each = c.in_ok-readers.ensures.seats }

pub close_shown-requires-clause-ended : goal.close_shown-requires-clause-ended
close_shown-requires-clause-ended g c = c.in_ok-readers.ensures.ended

pub returns-clause-legal : goal.returns-clause-legal
returns-clause-legal g c = c.close_shown.ensures.legal

pub returns-clause-listeners : goal.returns-clause-listeners
returns-clause-listeners g c = c.close_shown.ensures.listeners

pub returns-clause-groups : goal.returns-clause-groups
returns-clause-groups g c = c.close_shown.ensures.groups

pub returns-in_err-hall-clause-legal : goal.returns-in_err-hall-clause-legal
returns-in_err-hall-clause-legal g c = IfOk-from_err c.from_residual.result _ c.from_residual.ensures.0

pub returns-in_err-hall-clause-promised : goal.returns-in_err-hall-clause-promised
returns-in_err-hall-clause-promised g c = IfOk-from_err c.from_residual.result _ c.from_residual.ensures.0

pub returns-in_err-hall-clause-listeners : goal.returns-in_err-hall-clause-listeners
returns-in_err-hall-clause-listeners g c = IfOk-from_err c.from_residual.result _ c.from_residual.ensures.0

pub returns-in_err-hall-clause-groups : goal.returns-in_err-hall-clause-groups
returns-in_err-hall-clause-groups g c = IfOk-from_err c.from_residual.result _ c.from_residual.ensures.0

pub returns-in_err-readers-clause-legal : goal.returns-in_err-readers-clause-legal
returns-in_err-readers-clause-legal g c = IfOk-from_err c.from_residual-in_err-readers.result _ c.from_residual-in_err-readers.ensures.0

pub returns-in_err-readers-clause-promised : goal.returns-in_err-readers-clause-promised
returns-in_err-readers-clause-promised g c = IfOk-from_err c.from_residual-in_err-readers.result _ c.from_residual-in_err-readers.ensures.0

pub returns-in_err-readers-clause-listeners : goal.returns-in_err-readers-clause-listeners
returns-in_err-readers-clause-listeners g c = IfOk-from_err c.from_residual-in_err-readers.result _ c.from_residual-in_err-readers.ensures.0

pub returns-in_err-readers-clause-groups : goal.returns-in_err-readers-clause-groups
returns-in_err-readers-clause-groups g c = IfOk-from_err c.from_residual-in_err-readers.result _ c.from_residual-in_err-readers.ensures.0
