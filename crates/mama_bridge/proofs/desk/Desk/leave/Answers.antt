use Rattle.std.specs.List.{flat_map}
use Rattle.std.proofs.Common.{filter, sym, subst}
use Rattle.mama_rules_services.specs.Bridge.{leaves}
use Rattle.mama_laws_bridge.specs.Table.{of_sub, sub_ends}
use Rattle.mama_slots.specs.Slots.{SlotData}
use Rattle.mama_bridge.specs.Held.{AreHeld}
use Rattle.mama_bridge.specs.Links.{end_outs}
use Rattle.mama_bridge.proofs.HeldLemmas.{held_without_sub, on_ok_both, on_err_both}
use Rattle.mama_bridge.proofs.Adding.{says_ends, adds_said}
use Rattle.mama_bridge.proofs.Spellings.{Arrives, IsSpelled, all_filter, spelled_next}
use Rattle.mama_bridge.proofs.desk.Desk.leave.Goals as goal

pub returns-clause-ok : goal.returns-clause-ok
returns-clause-ok g c =
    let laws : Arrives = record { whole = c.packed_messages_arrive.ensures.whole; cut = c.packed_messages_arrive.ensures.cut; whole_replies = c.packed_messages_arrive.ensures.whole_replies; cut_replies = c.packed_messages_arrive.ensures.cut_replies } in
    on_ok_both c.leave.result
    (λ done frees. λ shape table s sound.
    let both = done table.joined table.subs s.subs sound.subs_once in
    record {
      stands = record { opened = s.opened; subs = both.0; inboxes = s.inboxes; slots = held_without_sub (of_sub c.args.sub) table.subs table.inboxes c.args.self.now.slots c.leave.new.slots s.slots (frees table.joined table.subs s.subs); clients = s.clients; sends = s.sends; settled = s.settled; byes = s.byes; spelled = spelled_next shape table (leaves c.args.sub) tt s.spelled; replies_spelled = s.replies_spelled };
      adds = adds_said g.L.Tagged.tagged c.args.out.now.items c.leave.new.out.items (flat_map end_outs (filter (of_sub c.args.sub) table.subs)) (flat_map sub_ends (filter (of_sub c.args.sub) table.subs)) both.1 (says_ends g.L.Tagged.tagged laws (filter (of_sub c.args.sub) table.subs) (all_filter IsSpelled (of_sub c.args.sub) table.subs s.spelled));
    })
    c.leave.ensures.ok c.leave.ensures.frees

pub returns-clause-same : goal.returns-clause-same
returns-clause-same g c =
    on_err_both c.leave.result
    (λ same held. λ table s. record { opened = s.opened; subs = same table.joined table.subs s.subs; inboxes = s.inboxes; slots = subst (λ (slots : SlotData). AreHeld slots table.subs table.inboxes) (sym held) s.slots; clients = s.clients; sends = s.sends; settled = s.settled; byes = s.byes; spelled = s.spelled; replies_spelled = s.replies_spelled })
    c.leave.ensures.same c.leave.ensures.held
