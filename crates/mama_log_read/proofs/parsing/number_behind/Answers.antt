use Rattle.std.proofs.Common.{◌∷◌, Some, None}
use Rattle.std.proofs.lemmas.Bool.Decides.{Decides-eqb}
use Rattle.std.proofs.lemmas.Slice.Eq.{strip_prefix_is}
use Rattle.mama_edge.specs.Decimal.{decimal}
use Rattle.mama_log_read.proofs.Told.{behind_found, behind_none}
use Rattle.mama_log_read.proofs.parsing.number_behind.Goals as goal

pub returns-in_err-behind-clause-none : goal.returns-in_err-behind-clause-none
returns-in_err-behind-clause-none c =
    rw c.from_residual.ensures (λ n lt same. strip_prefix_is Decides-eqb c.args.line.now c.args.head.now None c.in_err-behind.ensures.cases (32 ∷ decimal n) same)

pub returns-clause-found : goal.returns-clause-found
returns-clause-found c =
    behind_found c.args.head.now c.args.line.now c.in_ok-behind.behind.now c.behind_space.result (strip_prefix_is Decides-eqb c.args.line.now c.args.head.now (Some c.in_ok-behind.behind) c.in_ok-behind.ensures.cases) c.behind_space.ensures

pub returns-clause-none : goal.returns-clause-none
returns-clause-none c =
    behind_none c.args.head.now c.args.line.now c.in_ok-behind.behind.now c.behind_space.result (strip_prefix_is Decides-eqb c.args.line.now c.args.head.now (Some c.in_ok-behind.behind) c.in_ok-behind.ensures.cases) c.behind_space.ensures
