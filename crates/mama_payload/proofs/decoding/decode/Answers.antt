use Rattle.std.proofs.Common.{arith}
use Rattle.mama_payload.proofs.Messages.{found_is, only_is}
use Rattle.mama_payload.proofs.decoding.decode.Goals as goal

pub returns-clause-found : goal.returns-clause-found
returns-clause-found c = found_is c.args.bytes.now c.read.result (λ i. omega (arith, c.type_inv.bytes i)) c.read.ensures

pub returns-clause-only : goal.returns-clause-only
returns-clause-only c = only_is c.args.bytes.now c.read.result c.read.ensures
