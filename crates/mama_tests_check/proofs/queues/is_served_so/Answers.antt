use Rattle.std.proofs.Common.{◌∙◌}
use Rattle.mama_tests_check.proofs.Listed.{none_each}
use Rattle.mama_tests_check.proofs.queues.is_served_so.Goals as goal

pub serve_all-requires-clause-listed : goal.serve_all-requires-clause-listed
serve_all-requires-clause-listed c =
    none_each c.deref.result.now c.deref-2.result.now c.new.result c.new-2.result (c.deref.ensures.value ∙ c.in_ok-groups.ensures) (c.deref-2.ensures.value ∙ c.in_ok-watches.ensures) c.new.ensures.items
    c.new-2.ensures.items
