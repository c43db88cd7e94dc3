use Rattle.std.proofs.Common.{◌≡◌, ◌++◌, append_assoc, length, ◌<◌, arith, ap, ◌∙◌, List, ℕ, ◌∷◌, []}
use Rattle.mama_words.specs.Field.{spaced_field, field_text}
use Rattle.mama_words.proofs.Fronts.{front_more, on_err}
use Rattle.mama_words.proofs.Spaced.{printed_more}
use Rattle.mama_words.proofs.field.put_fields.Goals as goal

pub returns-in_err-put_field-clause-err : goal.returns-in_err-put_field-clause-err
returns-in_err-put_field-clause-err c = on_err _ (front_more _ _ c.loop-i.invariant (front_more _ _ c.in_ok-push.ensures.items c.in_err-put_field.ensures.err))

pub loop-i-preserved : goal.loop-i-preserved
loop-i-preserved c =
    let within : c.loop-i.i < length c.args.msg.now = omega arith in
    let grown : c.put_field.new.out.items ≡ c.loop-i.out.items ++ spaced_field c.at.result.now =
    c.in_ok-put_field.ensures.ok ∙ ap (λ (t : List ℕ). t ++ field_text c.at.result.now) c.in_ok-push.ensures.items ∙ append_assoc c.loop-i.out.items (32 ∷ []) (field_text c.at.result.now) in
    printed_more spaced_field c.args.out.now.items c.loop-i.out.items c.put_field.new.out.items c.args.msg.now c.loop-i.i c.at.result.now within c.at.ensures grown c.loop-i.invariant
