use Rattle.std.proofs.Common.{rules}
use Rattle.std.proofs.lemmas.List.Sorted.{answers_always}
use Rattle.mama_listener.specs.Plan.{call_of}
use Rattle.mama_listener.proofs.Plans.{ascend_by_pairs}
use Rattle.mama_listener.proofs.planned.are_in_order.Goals as goal

pub returns : goal.returns
returns c = ascend_by_pairs c.args.rows.now c.is_sorted_by_key.result (c.is_sorted_by_key.ensures.cases call_of (answers_always _ _ _ (λ f a r g h. search rules)))
