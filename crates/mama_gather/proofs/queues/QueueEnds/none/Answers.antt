use Rattle.mama_event.specs.Listener.{told}
use Rattle.mama_gather.proofs.Placing.{no_calls, no_listeners}
use Rattle.mama_gather.proofs.queues.QueueEnds.none.Goals as goal

pub returns-clause-calls : goal.returns-clause-calls
returns-clause-calls g c = λ calls. no_calls calls c.args.plans.now c.in_ok-no_values.field-0.items c.in_ok-no_values.ensures

pub returns-clause-listeners : goal.returns-clause-listeners
returns-clause-listeners g c = λ calls.
    no_listeners (told g.L.Tagged.tagged g.L.Listener.calls g.L.Listener.heard g.L.Listener.given g.L.Listener.plan) calls c.args.plans.now c.in_ok-no_values-2.field-0.items c.in_ok-no_values-2.ensures

pub returns-clause-noted : goal.returns-clause-noted
returns-clause-noted g c = c.in_ok-numbered_lists.ensures
