use Rattle.std.proofs.Common.{◌≡◌, List, subst}
use Rattle.std.specs.Prelude.{◌↔◌, true, Option, IfOk}
use Rattle.std.proofs.lemmas.Result.{IfOk-weaker}
use Rattle.mama_check_order.specs.Order.{HasOrder}
use Rattle.mama_check_order.specs.declared.order.Need.{Need}
use Rattle.mama_check.proofs.WasPutLemmas.{was_put, causal_by_order}
use Rattle.mama_check.proofs.causal.is_causal.Goals as goal

pub returns : goal.returns
returns c =
    let script = c.args.script.now in
    let run = c.args.run.now in
    let edges = c.requires.edges in
    IfOk-weaker c.has_order.result _ _
    (λ found order. causal_by_order script run (was_put script run c.requires.counted.publishers c.requires.counted.queues edges.publishers edges.bridge edges.timers edges.queues) found order)
    (subst (λ (ns : List (List (Option Need))). IfOk c.has_order.result (λ found. (found ≡ true) ↔ HasOrder ns)) c.requires.needs c.has_order.ensures)
