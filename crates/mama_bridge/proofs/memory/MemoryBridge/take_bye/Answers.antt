use Rattle.std.specs.Result.{is_err}
use Rattle.std.proofs.Common.{◌≡◌, sym, ◌∙◌, ap, true, false, refl}
use Rattle.mama_rules_services.specs.Bridge.{heard, bridge_puts_at}
use Rattle.mama_event.specs.declared.to_bridge.BridgeNote.TheVariants as b
use Rattle.mama_bridge.specs.Routing.{Routing, is_last_bye}
use Rattle.mama_bridge.proofs.Keeping.{has_flags, quiet_bye, bye_last}
use Rattle.mama_bridge.proofs.memory.MemoryBridge.take_bye.Goals as goal

pub ends_with_bye-requires : goal.ends_with_bye-requires
ends_with_bye-requires g c =
    let i = c.self.inside in
    has_flags i.shape (heard i.shape i.journal.items) i.desk c.putter_of-putter.result c.self.invariant.stands c.putter_of-putter.ensures.there

pub hear_bye-requires-2 : goal.hear_bye-requires-2
hear_bye-requires-2 g c =
    let i = c.self.inside in
    has_flags i.shape (heard i.shape i.journal.items) i.desk c.putter_of-putter.result c.self.invariant.stands c.putter_of-putter.ensures.there

pub returns-then-ends_with_bye-clause-quiet : goal.returns-then-ends_with_bye-clause-quiet
returns-then-ends_with_bye-clause-quiet g c =
    let i = c.self.inside in
    sym (ap (λ (s : Routing). bridge_puts_at s.shape s.journal (c.args.port, b.Bye)) c.self.view_is)
    ∙ quiet_bye c.table_tells.ensures i.shape i.journal.items c.args.port c.putter_of-putter.result c.putter_of-putter.ensures.actor

pub returns-in_err-reserve-clause-quiet : goal.returns-in_err-reserve-clause-quiet
returns-in_err-reserve-clause-quiet g c =
    let i = c.self.inside in
    sym (ap (λ (s : Routing). bridge_puts_at s.shape s.journal (c.args.port, b.Bye)) c.self.view_is)
    ∙ quiet_bye c.table_tells.ensures i.shape i.journal.items c.args.port c.putter_of-putter.result c.putter_of-putter.ensures.actor

pub returns-clause-quiet : goal.returns-clause-quiet
returns-clause-quiet g c =
    let i = c.self.inside in
    sym (ap (λ (s : Routing). bridge_puts_at s.shape s.journal (c.args.port, b.Bye)) c.self.view_is)
    ∙ quiet_bye c.table_tells.ensures i.shape i.journal.items c.args.port c.putter_of-putter.result c.putter_of-putter.ensures.actor

pub returns-then-ends_with_bye-clause-ended : goal.returns-then-ends_with_bye-clause-ended
returns-then-ends_with_bye-clause-ended g c =
    let i = c.self.inside in
    let last : is_last_bye c.args.self.now c.args.port b.Bye ≡ true =
    sym (ap (λ (s : Routing). is_last_bye s c.args.port b.Bye) c.self.view_is)
    ∙ bye_last c.table_grows.ensures c.flags_tell.ensures i.shape i.publishers i.journal.items _ _ i.desk c.args.port c.putter_of-putter.result c.putter_of-putter.ensures.actor c.self.invariant
    ∙ sym c.ends_with_bye.ensures ∙ c.if-ends_with_bye.true in
    (λ h. last, λ h. refl)

pub returns-in_err-reserve-clause-ended : goal.returns-in_err-reserve-clause-ended
returns-in_err-reserve-clause-ended g c =
    let i = c.self.inside in
    let last : is_last_bye c.args.self.now c.args.port b.Bye ≡ false =
    sym (ap (λ (s : Routing). is_last_bye s c.args.port b.Bye) c.self.view_is)
    ∙ bye_last c.table_grows.ensures c.flags_tell.ensures i.shape i.publishers i.journal.items _ _ i.desk c.args.port c.putter_of-putter.result c.putter_of-putter.ensures.actor c.self.invariant
    ∙ sym c.ends_with_bye.ensures ∙ c.if-ends_with_bye.false in
    (λ h. absurd (let bad : false ≡ true = sym (ap is_err h) ∙ c.from_residual.ensures.0 in cc), λ h. absurd (let bad : false ≡ true = sym last ∙ h in cc))

pub returns-clause-ended : goal.returns-clause-ended
returns-clause-ended g c =
    let i = c.self.inside in
    let last : is_last_bye c.args.self.now c.args.port b.Bye ≡ false =
    sym (ap (λ (s : Routing). is_last_bye s c.args.port b.Bye) c.self.view_is)
    ∙ bye_last c.table_grows.ensures c.flags_tell.ensures i.shape i.publishers i.journal.items _ _ i.desk c.args.port c.putter_of-putter.result c.putter_of-putter.ensures.actor c.self.invariant
    ∙ sym c.ends_with_bye.ensures ∙ c.if-ends_with_bye.false in
    (λ h. absurd (cc), λ h. absurd (let bad : false ≡ true = sym last ∙ h in cc))
