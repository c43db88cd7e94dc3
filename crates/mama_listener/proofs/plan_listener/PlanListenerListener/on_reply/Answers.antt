use Rattle.mama_event.specs.declared.callback.Callback.TheVariants as on
use Rattle.mama_listener.proofs.plan_listener.PlanListenerListener.on_reply.Goals as goal

pub returns : goal.returns
returns c = c.hear.ensures (on.Reply c.args.body.now) c.copy_of_reply.ensures
