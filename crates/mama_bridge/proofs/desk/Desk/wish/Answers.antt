use Rattle.std.specs.Prelude.{nat_lt, nat_le}
use Rattle.std.specs.List.{flat_map}
use Rattle.std.proofs.Common.{◌≡◌, ◌∙◌, List, subst, sym, ap, filter, not, length, true, false, [], ◌&&◌, append-nil}
use Rattle.std.proofs.lemmas.Result.{on_ok_weaker, on_err_weaker}
use Rattle.mama_rules_services.specs.Bridge.{wishes}
use Rattle.mama_laws_bridge.specs.Table.{SubRow, of_sub, sub_wishes, all_set, settling_now}
use Rattle.mama_bridge.specs.Links.{wish_outs, wished_once}
use Rattle.mama_bridge.specs.Held.{AreHeld}
use Rattle.mama_bridge.specs.Live.{IsLive}
use Rattle.mama_bridge.proofs.ByTopic.{wish_keeps_places}
use Rattle.mama_bridge.proofs.HeldLemmas.{held_changed}
use Rattle.mama_bridge.proofs.Adding.{adds_said, says_none}
use Rattle.mama_bridge.proofs.Wishing.{forwards, off_changes, off_puts, on_changes, on_says}
use Rattle.mama_bridge.proofs.Spellings.{spelled_next}
use Rattle.mama_bridge.proofs.desk.Desk.wish.Goals as goal

pub returns-then-not-may_forward-clause-ok : goal.returns-then-not-may_forward-clause-ok
returns-then-not-may_forward-clause-ok g c table s sound =
    let settling : c.is_settling.result ≡ settling_now table = c.is_settling.ensures ∙ ap (λ flags. all_set flags && all_set c.args.self.now.sends) s.clients ∙ ap (λ flags. all_set table.clients && all_set flags) s.sends in
    let off : forwards (settling_now table) c.args.sender c.args.shape.now ≡ false = ap (λ b. not b && (nat_lt 0 c.args.sender && nat_le c.args.sender (length c.args.shape.now.publisher_topics))) (sym settling) ∙ ap (λ n. not c.is_settling.result && (nat_lt 0 c.args.sender && nat_le c.args.sender n)) (sym c.len.ensures) ∙ sym c.if-not-may_forward.ensures in
    record {
      stands = record { opened = s.opened; subs = subst (λ (rows : List SubRow). IsLive table.joined rows c.args.self.now.subs) (sym (off_changes c.args.shape.now (settling_now table) c.args.sender c.args.sub off table.subs)) s.subs; inboxes = s.inboxes; slots = subst (λ (rows : List SubRow). AreHeld c.args.self.now.slots rows table.inboxes) (sym (off_changes c.args.shape.now (settling_now table) c.args.sender c.args.sub off table.subs)) s.slots; clients = s.clients; sends = s.sends; settled = s.settled; byes = s.byes; spelled = spelled_next c.args.shape.now table (wishes c.args.sub c.args.sender) tt s.spelled; replies_spelled = s.replies_spelled };
      adds = rw (off_puts c.args.shape.now (settling_now table) c.args.sender off (filter (of_sub c.args.sub) table.subs)) (adds_said g.L.Tagged.tagged c.args.out.now.items c.args.out.now.items [] [] (sym (append-nil c.args.out.now.items)) (says_none g.L.Tagged.tagged));
    }

pub returns-clause-ok : goal.returns-clause-ok
returns-clause-ok g c =
    on_ok_weaker c.wish.result
    (λ done. λ table s sound.
    let settling : c.is_settling.result ≡ settling_now table = c.is_settling.ensures ∙ ap (λ flags. all_set flags && all_set c.args.self.now.sends) s.clients ∙ ap (λ flags. all_set table.clients && all_set flags) s.sends in
    let on : forwards (settling_now table) c.args.sender c.args.shape.now ≡ true = ap (λ b. not b && (nat_lt 0 c.args.sender && nat_le c.args.sender (length c.args.shape.now.publisher_topics))) (sym settling) ∙ ap (λ n. not c.is_settling.result && (nat_lt 0 c.args.sender && nat_le c.args.sender n)) (sym c.len.ensures) ∙ sym c.if-not-may_forward.ensures in
    let both = done table.joined table.subs s.subs sound.subs_once in
    record {
      stands = record { opened = s.opened; subs = subst (λ (rows : List SubRow). IsLive table.joined rows c.wish.new.self) (sym (on_changes c.args.shape.now (settling_now table) c.args.sender c.args.sub on table.subs)) both.0; inboxes = s.inboxes; slots = subst (λ (rows : List SubRow). AreHeld c.args.self.now.slots rows table.inboxes) (sym (on_changes c.args.shape.now (settling_now table) c.args.sender c.args.sub on table.subs)) (held_changed (of_sub c.args.sub) wished_once wish_keeps_places table.subs table.inboxes c.args.self.now.slots s.slots); clients = s.clients; sends = s.sends; settled = s.settled; byes = s.byes; spelled = spelled_next c.args.shape.now table (wishes c.args.sub c.args.sender) tt s.spelled; replies_spelled = s.replies_spelled };
      adds = adds_said g.L.Tagged.tagged c.args.out.now.items c.wish.new.out.items (flat_map (wish_outs c.args.sender) (filter (of_sub c.args.sub) table.subs)) (flat_map (sub_wishes c.args.shape.now (settling_now table) c.args.sender) (filter (of_sub c.args.sub) table.subs)) both.1 (on_says g.L.Tagged.tagged c.args.shape.now (settling_now table) c.args.sender on (filter (of_sub c.args.sub) table.subs));
    })
    c.wish.ensures.ok

pub returns-clause-same : goal.returns-clause-same
returns-clause-same g c =
    on_err_weaker c.wish.result
    (λ same. λ table s. record { opened = s.opened; subs = same table.joined table.subs s.subs; inboxes = s.inboxes; slots = s.slots; clients = s.clients; sends = s.sends; settled = s.settled; byes = s.byes; spelled = s.spelled; replies_spelled = s.replies_spelled })
    c.wish.ensures.same
