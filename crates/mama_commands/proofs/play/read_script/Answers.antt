use Rattle.std.proofs.Common.{Err, refl, subst}
use Rattle.mama_script.specs.Answer.{Fails}
use Rattle.mama_script.specs.Reading.{script_in}
use Rattle.mama_script.specs.declared.fault.ScriptFault.{ScriptFault}
use Rattle.mama_script.specs.declared.fault.ScriptFault.TheVariants.{OverLimit}
use Rattle.mama_plain.specs.declared.run.NoLog.TheVariants.{Script}
use Rattle.mama_plain.proofs.AnswerLemmas.{cause_at_line}
use Rattle.mama_commands.proofs.play.read_script.Goals as goal

pub returns-in-Err-OverLimit-clause-faulty : goal.returns-in-Err-OverLimit-clause-faulty
returns-in-Err-OverLimit-clause-faulty c =
    let text = c.args.text.now in
    let line = c.in-Err-OverLimit.line in
    let limit = c.in-Err-OverLimit.limit in
    let is : Fails (OverLimit line limit) (script_in text) =
    subst (λ (fault : ScriptFault). Fails fault (script_in text)) c.in-Err-OverLimit.field-0-is c.in-Err-OverLimit.ensures.exact in
    (cause_at_line text (Script (OverLimit line limit)) c.first_fault_is_told.ensures is line limit refl, is)
