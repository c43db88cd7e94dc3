use Rattle.std.proofs.Common.{List, Result, sym, subst}
use Rattle.mama_script.specs.declared.fault.ScriptFault.{ScriptFault}
use Rattle.mama_script.specs.declared.line.Line.{Line}
use Rattle.mama_script.specs.Answer.{Gives}
use Rattle.mama_script.proofs.Loop.{lines_behind, lines_other, lines_uncut}
use Rattle.mama_script.proofs.parsing.read_lines.Goals as goal

pub returns-in-Some-read_version-clause-exact : goal.returns-in-Some-read_version-clause-exact
returns-in-Some-read_version-clause-exact c =
    subst (λ (r : Result (List Line) ScriptFault). Gives (λ v. v.items) c.read_rest.result r)
    (sym (lines_behind c.args.text.now c.in-Some.first.now c.in-Some.rest.now c.in-Some-read_version.version c.in-Some.ensures c.in-Some-read_version.ensures)) c.read_rest.ensures.exact

pub returns-in-None-read_version-clause-exact : goal.returns-in-None-read_version-clause-exact
returns-in-None-read_version-clause-exact c = lines_other c.args.text.now c.in-Some.first.now c.in-Some.rest.now c.in-Some.ensures c.in-None-read_version.ensures

pub returns-in-None-clause-exact : goal.returns-in-None-clause-exact
returns-in-None-clause-exact c = lines_uncut c.args.text.now c.in-None.ensures
