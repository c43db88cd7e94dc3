use Rattle.std.proofs.Common.{ap, ◌∙◌}
use Rattle.std.specs.Prelude.{◌++◌, codes}
use Rattle.mama_script.specs.Script.{ScriptData}
use Rattle.mama_script.specs.Tree.{script_text}
use Rattle.mama_words.specs.declared.version.Version.TheVariants.{Two}
use Rattle.mama_record.specs.LogText as texts
use Rattle.mama_plain.proofs.rewrite.log_in_two.Goals as goal

pub returns-in-Ok-print_both-clause-written : goal.returns-in-Ok-print_both-clause-written
returns-in-Ok-print_both-clause-written c =
    let run = c.in-Ok.run' in
    let found = c.in-Ok.ensures.found in
    let written = ap (λ (script : ScriptData). script_text script ++ (texts.line (codes "log") ++ texts.log_text Two script.shape run)) c.into_two.ensures in
    (run, found.0, found.1.0, found.1.1, found.1.2, c.in-Ok-print_both.ensures ∙ written)
