use Rattle.mama_laws_gather.proofs.Gathering.{lines_done}
use Rattle.mama_laws_gather.proofs.laws.gathered_do_lines.Goals as goal

pub returns : goal.returns
returns c = lines_done c.stopped_publishers_sent_out.ensures
