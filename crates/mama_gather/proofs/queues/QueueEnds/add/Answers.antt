use Rattle.std.proofs.Common.{ℕ, List, ◌∙◌, ap}
use Rattle.mama_event.specs.Listener.{told}
use Rattle.mama_event.specs.declared.watch.WatchNote.{WatchNote}
use Rattle.mama_plans.specs.Numbered.{numbered, lists_put}
use Rattle.mama_gather.proofs.Parting.{own_calls, own_listeners}
use Rattle.mama_gather.proofs.queues.QueueEnds.add.Goals as goal

pub returns-clause-calls : goal.returns-clause-calls
returns-clause-calls g c = λ calls same were.
    c.in_ok-put_calls.ensures calls (own_calls c.args.plans.now c.args.number c.args.post c.into_parts-taker.result.notes.calls.items calls c.requires.keeps c.into_parts-taker.ensures.calls same) were

pub returns-clause-listeners : goal.returns-clause-listeners
returns-clause-listeners g c = λ calls same were.
    let view = told g.L.Tagged.tagged g.L.Listener.calls g.L.Listener.heard g.L.Listener.given g.L.Listener.plan in
    c.in_ok-put_listeners.ensures calls (own_listeners view c.args.plans.now c.args.number c.args.post c.into_parts-taker.result.listeners.items calls c.requires.keeps c.into_parts-taker.ensures.listeners same) were

pub returns-clause-noted : goal.returns-clause-noted
returns-clause-noted g c =
    c.put_noted.ensures ∙ ap (λ (lists : List (ℕ × List WatchNote)). lists_put lists (numbered c.args.self.now.noted.items)) c.into_parts-taker.ensures.watches
