use Rattle.mama_drive.proofs.RestLemmas.{passed_none}
use Rattle.mama_drive.proofs.RunLemmas.{passed_seen}
use Rattle.mama_drive.proofs.run.Run.next_sender.Goals as goal

pub returns-then-not-is_empty : goal.returns-then-not-is_empty
returns-then-not-is_empty c = passed_none c.args.from c.args.self.now

pub returns : goal.returns
returns c = passed_seen c.self.inside.held c.self.inside.system c.args.self.now c.args.from c.next_sender.result c.self.view_is (c.is_empty.ensures c.if-not-is_empty.false) c.next_sender.ensures
