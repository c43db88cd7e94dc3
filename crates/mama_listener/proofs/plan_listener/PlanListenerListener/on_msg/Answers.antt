use Rattle.mama_event.specs.declared.callback.Callback.TheVariants as on
use Rattle.mama_listener.proofs.plan_listener.PlanListenerListener.on_msg.Goals as goal

pub returns : goal.returns
returns c = c.hear.ensures (on.Msg c.args.msg.now c.args.quality) c.copy_of_msg.ensures
