use Rattle.std.specs.Prelude.{nat_eq}
use Rattle.std.proofs.Common.{List, [], ◌∷◌, ◌++◌, ap, ◌∙◌}
use Rattle.indexmap.specs.IndexMap.{get}
use Rattle.mama_event.specs.declared.order.Order.{Order}
use Rattle.mama_check_queue.proofs.OrderLemmas.{has_room, given_more}
use Rattle.mama_check_queue.proofs.orders.all_for.Goals as goal

pub one_more-orders-requires : goal.one_more-orders-requires
one_more-orders-requires c =
    has_room (λ call. get nat_eq c.loop-row.by_call call) c.args.rows.now c.loop-row.row-index c.row-item.result c.orders_for.result c.loop-row.invariant c.loop-row-test.true c.row-item.is
    c.orders_for.ensures c.requires

pub loop-row-preserved : goal.loop-row-preserved
loop-row-preserved c =
    given_more (λ call. get nat_eq c.loop-row.by_call call) (λ call. get nat_eq c.insert.new.self call) c.args.rows.now c.loop-row.row-index c.row-item.result c.one_more-orders.result
    c.loop-row.invariant c.loop-row-test.true c.row-item.is
    (c.one_more-orders.ensures ∙ ap (λ (orders : List Order). orders ++ c.row-item.result.order ∷ []) c.orders_for.ensures)
    (λ call. c.in_ok-insert.ensures.updates.0 call)
