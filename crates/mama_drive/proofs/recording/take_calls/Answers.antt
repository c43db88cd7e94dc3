use Rattle.std.proofs.Common.{arith}
use Rattle.mama_plans.specs.Plans.{planned_object}
use Rattle.mama_drive.proofs.RecordingLemmas.{calls_there, less_there, calls_past, less_past}
use Rattle.mama_drive.proofs.recording.take_calls.Goals as goal

pub returns-then-queue-len-clause-calls : goal.returns-then-queue-len-clause-calls
returns-then-queue-len-clause-calls c =
    calls_there c.args.given.now.items (planned_object c.args.planned.now) c.index_mut-lists.result.now c.take.result.items (omega (arith, c.if-queue-len.true, c.args.given.now.ok.0))
    c.index_mut-lists.ensures.value c.take.ensures.calls

pub returns-then-queue-len-clause-rest : goal.returns-then-queue-len-clause-rest
returns-then-queue-len-clause-rest c =
    less_there c.args.given.now.items (planned_object c.args.planned.now) c.index_mut-lists.result.now c.take.new.self (omega (arith, c.if-queue-len.true, c.args.given.now.ok.0))
    c.index_mut-lists.ensures.value c.take.ensures.rest

pub returns-clause-calls : goal.returns-clause-calls
returns-clause-calls c =
    calls_past c.args.given.now.items (planned_object c.args.planned.now) c.new.result.items (omega (arith, c.if-queue-len.false, c.args.given.now.ok.0)) c.new.ensures.items

pub returns-clause-rest : goal.returns-clause-rest
returns-clause-rest c = less_past c.args.given.now.items (planned_object c.args.planned.now) (omega (arith, c.if-queue-len.false, c.args.given.now.ok.0))
