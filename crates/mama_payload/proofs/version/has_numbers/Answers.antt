use Rattle.std.proofs.Common.{◌≡◌, true, false, sym, ap, ◌∙◌}
use Rattle.mama_msg.specs.declared.value.Value.{Value}
use Rattle.mama_payload.specs.Spelling.{kind_of, is_numbers}
use Rattle.mama_payload.proofs.Loops.{has_found, has_not}
use Rattle.mama_payload.proofs.version.has_numbers.Goals as goal

pub returns-then-is_numbers : goal.returns-then-is_numbers
returns-then-is_numbers c =
    let is : is_numbers (kind_of c.at.result.now.value) ≡ true = ap (λ (v : Value). is_numbers (kind_of v)) (sym c.value.ensures) ∙ ap is_numbers (sym c.of.ensures) ∙ sym c.is_numbers.ensures ∙ c.if-is_numbers.true in
    has_found c.args.msg.now c.loop-i.i c.at.result.now c.at.ensures is

pub loop-i-preserved : goal.loop-i-preserved
loop-i-preserved c =
    let is : is_numbers (kind_of c.at.result.now.value) ≡ false = ap (λ (v : Value). is_numbers (kind_of v)) (sym c.value.ensures) ∙ ap is_numbers (sym c.of.ensures) ∙ sym c.is_numbers.ensures ∙ c.if-is_numbers.false in
    has_not c.args.msg.now c.loop-i.i c.at.result.now c.at.ensures is c.loop-i.invariant
