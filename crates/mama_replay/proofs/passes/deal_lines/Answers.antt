use Rattle.mama_replay.proofs.Dealing.{dealt_more}
use Rattle.mama_replay.proofs.passes.deal_lines.Goals as goal

pub returns : goal.returns
returns c = search (dealt_more, c.in_ok-deal_clients.ensures, c.in_ok-deal_publishers.ensures)
