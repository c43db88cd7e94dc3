use Rattle.std.specs.Prelude.{nat_eq}
use Rattle.indexmap.specs.IndexMap.{get}
use Rattle.mama_listener.proofs.FewLemmas.{AreCounts}
use Rattle.mama_listener.proofs.few.has_few_rows.Given as goal

abbrev pub invariant-loop-row : goal.invariant-loop-row
invariant-loop-row l = AreCounts (λ call. get nat_eq l.counts call) l.rows l.row-index
