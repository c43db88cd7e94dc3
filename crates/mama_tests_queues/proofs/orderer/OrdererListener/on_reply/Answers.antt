use Rattle.mama_event.specs.declared.callback.Callback.TheVariants as on
use Rattle.mama_tests_queues.proofs.orderer.OrdererListener.on_reply.Goals as goal

pub returns : goal.returns
returns c = c.answer.ensures (on.Reply c.args.body.now)
