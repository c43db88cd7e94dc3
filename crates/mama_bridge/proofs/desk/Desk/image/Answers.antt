use Rattle.std.specs.List.{flat_map}
use Rattle.std.proofs.Common.{filter}
use Rattle.std.proofs.lemmas.Result.{on_ok_weaker, on_err_weaker}
use Rattle.mama_rules_services.specs.Bridge.{images}
use Rattle.mama_laws_bridge.specs.Table.{sub_passed, of_sub, sub_emits}
use Rattle.mama_bridge.specs.Links.{emit_outs}
use Rattle.mama_bridge.proofs.ByTopic.{pass_keeps_places}
use Rattle.mama_bridge.proofs.HeldLemmas.{held_changed}
use Rattle.mama_bridge.proofs.Adding.{says_emits, adds_said}
use Rattle.mama_bridge.proofs.Spellings.{Arrives, IsSpelled, all_filter, spelled_next}
use Rattle.mama_bridge.proofs.desk.Desk.image.Goals as goal

pub returns-clause-ok : goal.returns-clause-ok
returns-clause-ok g c =
    let laws : Arrives = record { whole = c.packed_messages_arrive.ensures.whole; cut = c.packed_messages_arrive.ensures.cut; whole_replies = c.packed_messages_arrive.ensures.whole_replies; cut_replies = c.packed_messages_arrive.ensures.cut_replies } in
    on_ok_weaker c.image.result
    (λ done. λ shape m piece table s sound.
    let both = done m piece.whole table.joined table.subs s.subs sound.subs_once in
    record {
      stands = record { opened = s.opened; subs = both.0; inboxes = s.inboxes; slots = held_changed (of_sub c.args.sub) (sub_passed m) (pass_keeps_places m) table.subs table.inboxes c.args.self.now.slots s.slots; clients = s.clients; sends = s.sends; settled = s.settled; byes = s.byes; spelled = spelled_next shape table (images c.args.sub m) piece.spelled s.spelled; replies_spelled = s.replies_spelled };
      adds = adds_said g.L.Tagged.tagged c.args.out.now.items c.image.new.out.items (flat_map (emit_outs m) (filter (of_sub c.args.sub) table.subs)) (flat_map (sub_emits m) (filter (of_sub c.args.sub) table.subs)) both.1 (says_emits g.L.Tagged.tagged laws m piece.spelled (filter (of_sub c.args.sub) table.subs) (all_filter IsSpelled (of_sub c.args.sub) table.subs s.spelled));
    })
    c.image.ensures.ok

pub returns-clause-same : goal.returns-clause-same
returns-clause-same g c =
    on_err_weaker c.image.result
    (λ same. λ table s. record { opened = s.opened; subs = same table.joined table.subs s.subs; inboxes = s.inboxes; slots = s.slots; clients = s.clients; sends = s.sends; settled = s.settled; byes = s.byes; spelled = s.spelled; replies_spelled = s.replies_spelled })
    c.image.ensures.same
