use Rattle.std.proofs.Common.{◌≡◌, sym, ap, subst, ◌∙◌}
use Rattle.std.proofs.lemmas.Result.{err_from_is_err_and}
use Rattle.mama_script.specs.Script.{ScriptData}
use Rattle.mama_script.specs.Tree.{script_text, IsScript}
use Rattle.mama_script.specs.Taken.{script_of_parts}
use Rattle.mama_script.proofs.Parsed.{found_script, spelled_so, only_that, only_memory}
use Rattle.mama_script.proofs.parsing.parse.Goals as goal

pub returns-in_err-parts-clause-only : goal.returns-in_err-parts-clause-only
returns-in_err-parts-clause-only c = λ s is e.
    let p = err_from_is_err_and c.from_residual.result c.from_residual.ensures.1 in rw (p.1, p.2) (only_memory c.args.text.now s _ c.in_err-parts.ensures.exact is e)

pub returns-clause-found : goal.returns-clause-found
returns-clause-found c =
    subst (λ (s : ScriptData). IsScript s × (c.args.text.now ≡ script_text s)) (sym c.new.ensures)
    (c.in_ok-parts.ensures.script, spelled_so c.args.text.now (script_of_parts c.in_ok-parts.parts) c.in_ok-parts.ensures.exact)

pub returns-clause-only : goal.returns-clause-only
returns-clause-only c = λ s is e.
    only_that c.args.text.now s (script_of_parts c.in_ok-parts.parts) c.in_ok-parts.ensures.script c.in_ok-parts.ensures.exact is e ∙ ap found_script (sym c.new.ensures)
