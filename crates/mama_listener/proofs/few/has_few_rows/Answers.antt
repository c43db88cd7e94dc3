use Rattle.std.specs.Prelude.{nat_eq, Some, if◌then◌else◌}
use Rattle.std.specs.Map.{lookup}
use Rattle.std.proofs.Common.{ℕ, ◌+◌, refl, ap, ◌∙◌, arith}
use Rattle.indexmap.specs.IndexMap.{get}
use Rattle.std.proofs.lemmas.Bool.{false≢true}
use Rattle.mama_listener.proofs.FewLemmas.{counts_none, counts_more, few_counted, one_too_many}
use Rattle.mama_listener.proofs.few.has_few_rows.Goals as goal

pub loop-row-init : goal.loop-row-init
loop-row-init c = counts_none (λ call. get nat_eq c.new-counts.result call) c.args.rows.now (λ call. ap (lookup (nat_eq call)) c.new-counts.ensures.empty)

pub loop-row-preserved : goal.loop-row-preserved
loop-row-preserved c =
    counts_more (λ call. get nat_eq c.loop-row.counts call) (λ call. get nat_eq c.insert.new.self call) c.args.rows.now c.loop-row.row-index c.row-item.result
    c.loop-row.invariant (omega arith) c.row-item.is (omega (arith, c.counted-count.ensures))
    (λ call. c.in_ok-insert.ensures.updates.0 call ∙ ap (λ (n : ℕ). if nat_eq c.row-item.result.call call then Some (n + 1) else get nat_eq c.loop-row.counts call) c.counted-count.ensures)

pub returns : goal.returns
returns c = (λ few. few_counted (λ call. get nat_eq c.loop-row.counts call) c.args.rows.now c.loop-row.row-index c.loop-row.invariant (omega arith), λ few. refl)

pub returns-then-count-ge-MOST_ORDERS : goal.returns-then-count-ge-MOST_ORDERS
returns-then-count-ge-MOST_ORDERS c = (
  λ few. absurd (false≢true few),
  λ few. absurd (one_too_many (λ call. get nat_eq c.loop-row.counts call) c.args.rows.now c.loop-row.row-index c.row-item.result c.loop-row.invariant (omega arith) c.row-item.is (omega (arith, c.counted-count.ensures)) few),
)
