use Rattle.std.specs.Prelude.{position}
use Rattle.std.specs.List.{list_any}
use Rattle.std.proofs.Common.{◌≡◌, ◌∙◌, ◌==◌, ap, not, [], ◌&&◌, ◌++◌, cond}
use Rattle.mama_event.specs.declared.to_publisher.ToPublisher.TheVariants as asked
use Rattle.mama_event.specs.declared.to_publisher.PublisherNote.TheVariants as p
use Rattle.mama_rules_services.specs.Bridge.{to_first}
use Rattle.mama_laws_bridge.specs.Table.{of_inbox, all_set, settling_now}
use Rattle.mama_bridge.specs.Links.{first_outs}
use Rattle.mama_bridge.proofs.Adding.{adds_said}
use Rattle.mama_bridge.proofs.InboxLemmas.{open_same}
use Rattle.mama_bridge.proofs.Wishing.{says_first, says_if}
use Rattle.mama_bridge.proofs.desk.Desk.ask.Goals as goal

pub returns-clause-ok : goal.returns-clause-ok
returns-clause-ok g c table s sound =
    let settling : c.is_settling.result ≡ settling_now table = c.is_settling.ensures ∙ ap (λ flags. all_set flags && all_set c.args.self.now.sends) s.clients ∙ ap (λ flags. all_set table.clients && all_set flags) s.sends in
    let may : c.may_ask-may.result ≡ (list_any (of_inbox c.args.inbox) table.inboxes && not (settling_now table)) =
    c.may_ask-may.ensures ∙ ap (λ b. b && not c.is_settling.result) (c.is_open.ensures ∙ open_same c.args.inbox c.args.self.now.inboxes.links table.inboxes s.inboxes) ∙ ap (λ b. list_any (of_inbox c.args.inbox) table.inboxes && not b) settling in
    let found = position (λ t. t == c.args.topic) c.args.shape.now.publisher_topics in
    record {
      stands = record { opened = s.opened; subs = s.subs; inboxes = s.inboxes; slots = s.slots; clients = s.clients; sends = s.sends; settled = s.settled; byes = s.byes; spelled = s.spelled; replies_spelled = s.replies_spelled };
      adds = adds_said g.L.Tagged.tagged c.args.out.now.items c.put_first_if.new.out.items (cond (list_any (of_inbox c.args.inbox) table.inboxes && not (settling_now table)) (first_outs found (asked.Ask c.args.inbox c.args.fids)) []) (cond (list_any (of_inbox c.args.inbox) table.inboxes && not (settling_now table)) (to_first c.args.shape.now c.args.topic (p.Ask c.args.inbox c.args.fids)) [])
          (c.put_first_if.ensures ∙ ap (λ os. os ++ cond c.may_ask-may.result (first_outs found (asked.Ask c.args.inbox c.args.fids)) []) c.reserve.ensures.items ∙ ap (λ b. c.args.out.now.items ++ cond b (first_outs found (asked.Ask c.args.inbox c.args.fids)) []) may)
          (says_if g.L.Tagged.tagged (list_any (of_inbox c.args.inbox) table.inboxes && not (settling_now table)) (first_outs found (asked.Ask c.args.inbox c.args.fids)) (to_first c.args.shape.now c.args.topic (p.Ask c.args.inbox c.args.fids)) (says_first g.L.Tagged.tagged found (asked.Ask c.args.inbox c.args.fids)));
    }
