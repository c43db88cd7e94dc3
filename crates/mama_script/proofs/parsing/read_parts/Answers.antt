use Rattle.mama_script.specs.Taken.{script_of_parts}
use Rattle.mama_script.proofs.Parsed.{lines_are_script}
use Rattle.mama_script.proofs.Whole.{script_found}
use Rattle.mama_script.proofs.parsing.read_parts.Goals as goal

pub returns-clause-script : goal.returns-clause-script
returns-clause-script c = lines_are_script c.args.text.now c.in_ok-lines.lines.items (script_of_parts c.in_ok-parts.parts) c.in_ok-lines.ensures c.in_ok-parts.ensures.lines c.in_ok-parts.ensures.shaped

pub parts_of-requires : goal.parts_of-requires
parts_of-requires c = (script_found c.args.text.now c.in_ok-lines.lines.items c.in_ok-lines.ensures).0
