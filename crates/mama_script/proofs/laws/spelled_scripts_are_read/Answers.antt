use Rattle.std.proofs.Common.{refl}
use Rattle.mama_script.specs.Tree.{script_text}
use Rattle.mama_script.proofs.Parsed.{read_again, read_unrefused, one_spelling}
use Rattle.mama_script.proofs.laws.spelled_scripts_are_read.Goals as goal

pub returns-clause-read : goal.returns-clause-read
returns-clause-read c = λ s is. read_again (script_text s) s is refl

pub returns-clause-unrefused : goal.returns-clause-unrefused
returns-clause-unrefused c = λ text s fault is e. read_unrefused text s fault is e

pub returns-clause-only : goal.returns-clause-only
returns-clause-only c = λ s t ss ts e. one_spelling s t ss ts e
