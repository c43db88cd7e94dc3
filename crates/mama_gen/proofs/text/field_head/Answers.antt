use Rattle.std.proofs.Common.{arith}
use Rattle.mama_gen.proofs.Written.{bid_text, ask_text, size_text}
use Rattle.mama_gen.proofs.text.field_head.Goals as goal

pub returns-in-0 : goal.returns-in-0
returns-in-0 c = λ value. bid_text c.args.number value c.in-0.is

pub returns-in-1 : goal.returns-in-1
returns-in-1 c = λ value. ask_text c.args.number value c.in-1.is

pub returns-in_default : goal.returns-in_default
returns-in_default c = λ value. size_text c.args.number value (grind (arith, c.in_default))
