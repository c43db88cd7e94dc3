use Rattle.mama_timer.proofs.Keeping.{kept_new}
use Rattle.mama_timer.proofs.table.Table.new.Goals as goal

pub invariant_of-result : goal.invariant_of-result
invariant_of-result c =
    rw (c.in_ok-copied.ensures, c.new-6.ensures.items, c.new-3.ensures.empty, c.new-4.ensures.empty, c.in_ok-clients_done.ensures, c.in_ok-queues_done.ensures)
    (kept_new c.args.shape.now c.new-5.result c.new-5.ensures)
