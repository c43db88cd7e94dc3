use Rattle.mama_event.specs.declared.callback.Callback.TheVariants as on
use Rattle.mama_tests_queues.proofs.orderer.OrdererListener.on_msg.Goals as goal

pub returns : goal.returns
returns c = c.answer.ensures (on.Msg c.args.msg.now c.args.quality)
