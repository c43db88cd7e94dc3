use Rattle.std.proofs.Common.{◌^◌, refl, ◌∙◌, arith}
use Rattle.std.specs.Int.{w16}
use Rattle.mama_words.proofs.Numbers.{int_in_cast, int_in_narrow_none}
use Rattle.mama_words.proofs.value.read_i16.Goals as goal

pub returns-in_err-number : goal.returns-in_err-number
returns-in_err-number c = c.from_residual.ensures ∙ int_in_narrow_none (2 ^ 15) c.args.text.now (omega arith) c.in_err-number.ensures

pub returns : goal.returns
returns c = c.ok.ensures.value ∙ int_in_cast w16 (2 ^ 15) c.args.text.now c.in_ok-number.number c.try_from.result refl c.in_ok-number.ensures c.try_from.ensures
