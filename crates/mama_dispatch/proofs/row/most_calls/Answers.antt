use Rattle.std.proofs.Common.{arith}
use Rattle.mama_dispatch.proofs.CallBound.{calls_any}
use Rattle.mama_dispatch.proofs.row.most_calls.Goals as goal

pub returns-in_default-clause-calls : goal.returns-in_default-clause-calls
returns-in_default-clause-calls c = λ msg. omega (arith, calls_any c.args.context.now msg, c.cached.ensures)

pub returns-in_default-clause-few : goal.returns-in_default-clause-few
returns-in_default-clause-few c = omega (arith, c.requires.size, c.requires.within, c.cached.ensures)
