use Rattle.std.specs.List.{flat_map}
use Rattle.std.proofs.Common.{ℕ, filter, subst}
use Rattle.std.proofs.lemmas.Result.{on_ok_weaker, on_err_weaker}
use Rattle.mama_rules_services.specs.Bridge.{publishes}
use Rattle.mama_laws_bridge.specs.Table.{is_on_topic_of, sub_emits, sub_passed}
use Rattle.mama_bridge.specs.Links.{emit_outs, row_is_on}
use Rattle.mama_bridge.specs.Live.{LiveDoes}
use Rattle.mama_bridge.proofs.ByTopic.{pass_keeps_places}
use Rattle.mama_bridge.proofs.HeldLemmas.{held_changed}
use Rattle.mama_bridge.proofs.Adding.{says_emits, adds_said}
use Rattle.mama_bridge.proofs.Spellings.{Arrives, IsSpelled, all_filter, spelled_next}
use Rattle.mama_bridge.proofs.desk.Desk.publish.Goals as goal

pub returns-clause-ok : goal.returns-clause-ok
returns-clause-ok g c =
    let laws : Arrives = record { whole = c.packed_messages_arrive.ensures.whole; cut = c.packed_messages_arrive.ensures.cut; whole_replies = c.packed_messages_arrive.ensures.whole_replies; cut_replies = c.packed_messages_arrive.ensures.cut_replies } in
    on_ok_weaker c.publish.result
    (λ done. λ m piece table s sound.
    let done' = subst (λ (n : ℕ). LiveDoes {L = g.row.L.Denot} (row_is_on n) (sub_passed m) (emit_outs m) c.args.self.now.subs c.publish.new.self c.args.out.now.items c.publish.new.out.items) c.at-topic.ensures (done m piece.whole) in
    let both = done' table.joined table.subs s.subs sound.subs_once in
    record {
      stands = record { opened = s.opened; subs = both.0; inboxes = s.inboxes; slots = held_changed (is_on_topic_of c.args.shape.now c.args.publisher) (sub_passed m) (pass_keeps_places m) table.subs table.inboxes c.args.self.now.slots s.slots; clients = s.clients; sends = s.sends; settled = s.settled; byes = s.byes; spelled = spelled_next c.args.shape.now table (publishes c.args.publisher m) piece.spelled s.spelled; replies_spelled = s.replies_spelled };
      adds = adds_said g.L.Tagged.tagged c.args.out.now.items c.publish.new.out.items (flat_map (emit_outs m) (filter (is_on_topic_of c.args.shape.now c.args.publisher) table.subs)) (flat_map (sub_emits m) (filter (is_on_topic_of c.args.shape.now c.args.publisher) table.subs)) both.1 (says_emits g.L.Tagged.tagged laws m piece.spelled (filter (is_on_topic_of c.args.shape.now c.args.publisher) table.subs) (all_filter IsSpelled (is_on_topic_of c.args.shape.now c.args.publisher) table.subs s.spelled));
    })
    c.publish.ensures.ok

pub returns-clause-same : goal.returns-clause-same
returns-clause-same g c =
    on_err_weaker c.publish.result
    (λ same. λ table s. record { opened = s.opened; subs = same table.joined table.subs s.subs; inboxes = s.inboxes; slots = s.slots; clients = s.clients; sends = s.sends; settled = s.settled; byes = s.byes; spelled = s.spelled; replies_spelled = s.replies_spelled })
    c.publish.ensures.same
