use Rattle.mama_laws_legal.proofs.AllSent.{lines_done}
use Rattle.mama_laws_legal.proofs.laws.rounds_do_all_lines.Goals as goal

pub returns : goal.returns
returns c = lines_done
