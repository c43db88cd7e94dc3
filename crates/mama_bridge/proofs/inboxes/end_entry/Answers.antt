use Rattle.std.specs.Prelude.{option_to_list}
use Rattle.std.proofs.Common.{sym, subst}
use Rattle.std.specs.declared.option.Option.{Option}
use Rattle.mama_bridge.specs.Links.{InboxEndSteps}
use Rattle.mama_bridge.specs.declared.inboxes.InboxLink.{InboxLink}
use Rattle.mama_bridge.proofs.Stepping.{inbox_end_one}
use Rattle.mama_bridge.proofs.inboxes.end_entry.Goals as goal

pub returns-in-Some-clause-ends : goal.returns-in-Some-clause-ends
returns-in-Some-clause-ends g c =
    subst (λ (e : Option InboxLink). InboxEndSteps {L = g.row.L.Denot} (option_to_list e) c.args.bodies.now.items c.end.new.bodies.items c.args.out.now.items c.end.new.out.items) (sym c.in-Some.is)
    (inbox_end_one c.in-Some.link c.args.bodies.now.items c.end.new.bodies.items c.args.out.now.items c.end.new.out.items c.end.ensures.step)
