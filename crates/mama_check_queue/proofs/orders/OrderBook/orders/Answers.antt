use Rattle.std.proofs.Common.{List, ap, sym, ◌∙◌}
use Rattle.indexmap.specs.IndexMap.{get}
use Rattle.mama_journal.specs.Journal.{first_said}
use Rattle.mama_event.specs.contracts.ids.ObjectIdPartialEq.TheImpl.{eq-value}
use Rattle.mama_event.specs.Object.{same_object}
use Rattle.mama_rules_rounds.specs.Client.{Planned}
use Rattle.mama_rules_rounds.specs.Setting.{plan_in}
use Rattle.mama_dispatch.proofs.Ids.{same_ids}
use Rattle.mama_plans.specs.Orders.{orders_in}
use Rattle.mama_check_queue.proofs.OrderLemmas.{lookup_same, orders_found}
use Rattle.mama_check_queue.proofs.orders.OrderBook.orders.Goals as goal

pub returns-in-Some : goal.returns-in-Some
returns-in-Some c =
    let o = c.args.object.now in
    let map = c.self.inside.by_object in
    c.orders_for.ensures
    ∙ orders_found (get same_object map o) c.in-Some.by_call.now (first_said (plan_in o) c.self.inside.plans.now) c.args.call
    (sym (c.in-Some.ensures.value ∙ lookup_same (eq-value.it o) (same_object o) map.entries (same_ids o))) (c.self.invariant.each o)
    ∙ ap (λ (ps : List Planned). orders_in ps o c.args.call) c.self.view_is
