use Rattle.mama_event.specs.declared.callback.Callback.TheVariants as on
use Rattle.mama_tests_queues.proofs.orderer.OrdererListener.on_late.Goals as goal

pub returns : goal.returns
returns c = c.answer.ensures (on.Late c.args.sender c.args.seq)
