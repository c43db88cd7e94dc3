use Rattle.std.proofs.Common.{rules, sym, ◌∙◌}
use Rattle.std.proofs.lemmas.List.Sorted.{IsNonDecreasingBy-from_sort_by_key, answers_always}
use Rattle.mama_listener.specs.Plan.{call_of}
use Rattle.mama_listener.proofs.Plans.{on_ok, same_by_call}
use Rattle.mama_listener.proofs.planned.order_rows.Goals as goal

pub returns-clause-sorted : goal.returns-clause-sorted
returns-clause-sorted c ok =
    IsNonDecreasingBy-from_sort_by_key call_of _ (on_ok c.sort_by_key.result (sym c.is_ok.ensures.value ∙ ok) c.sort_by_key.ensures.sorted) (λ a r q k. search rules)

pub returns-clause-same : goal.returns-clause-same
returns-clause-same c = same_by_call _ _ (c.sort_by_key.ensures.stable call_of (answers_always _ _ _ (λ f a r g h. search rules)))
