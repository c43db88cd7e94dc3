use Rattle.mama_drive.specs.declared.turn.Turn.TheVariants as turn
use Rattle.mama_drive.proofs.TurnsLemmas.{on_turn}
use Rattle.mama_drive.proofs.turn.next_turn.Goals as goal

pub returns-in-Bridge-clause-on : goal.returns-in-Bridge-clause-on
returns-in-Bridge-clause-on c = on_turn c.args.turn turn.Bridge c.bridge.result c.args.run.now c.bridge.new.run c.in-Bridge.is c.bridge.ensures.on

pub returns-in-Timers-clause-on : goal.returns-in-Timers-clause-on
returns-in-Timers-clause-on c = on_turn c.args.turn turn.Timers c.timers.result c.args.run.now c.timers.new.run c.in-Timers.is c.timers.ensures.on

pub returns-in-Publisher-clause-on : goal.returns-in-Publisher-clause-on
returns-in-Publisher-clause-on c = on_turn c.args.turn (turn.Publisher c.in-Publisher.number) c.publisher.result c.args.run.now c.publisher.new.run c.in-Publisher.is c.publisher.ensures.on

pub returns-in-Queue-clause-on : goal.returns-in-Queue-clause-on
returns-in-Queue-clause-on c = on_turn c.args.turn (turn.Queue c.in-Queue.number) c.queue.result c.args.run.now c.queue.new.run c.in-Queue.is c.queue.ensures.on
