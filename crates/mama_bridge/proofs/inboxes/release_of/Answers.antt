use Rattle.std.specs.Prelude.{option_to_list}
use Rattle.std.proofs.Common.{sym, subst}
use Rattle.std.proofs.lemmas.Result.{on_ok_weaker}
use Rattle.std.specs.declared.option.Option.{Option}
use Rattle.mama_bridge.specs.declared.inboxes.InboxLink.{InboxLink}
use Rattle.mama_bridge.specs.Held.{Frees}
use Rattle.mama_bridge.specs.Links.{inbox_link_slots}
use Rattle.mama_bridge.proofs.HeldLemmas.{one_freed, none_freed}
use Rattle.mama_bridge.proofs.inboxes.release_of.Goals as goal

pub returns-in-Some-clause-ok : goal.returns-in-Some-clause-ok
returns-in-Some-clause-ok c =
    on_ok_weaker c.release.result
    (λ h. subst (λ (e : Option InboxLink). Frees (λ queue. inbox_link_slots queue (option_to_list e)) c.args.slots.now c.release.new.self) (sym c.in-Some.is)
    (one_freed c.in-Some.link.queue c.in-Some.link.slot c.args.slots.now c.release.new.self h))
    c.release.ensures.ok

pub returns-in-None-clause-ok : goal.returns-in-None-clause-ok
returns-in-None-clause-ok c =
    subst (λ (e : Option InboxLink). Frees (λ queue. inbox_link_slots queue (option_to_list e)) c.args.slots.now c.args.slots.now) (sym c.in-None.is) (none_freed c.args.slots.now)
