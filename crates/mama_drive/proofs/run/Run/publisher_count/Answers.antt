use Rattle.std.proofs.Common.{◌∙◌}
use Rattle.mama_drive.proofs.RunLemmas.{senders_seen, shape_seen_senders}
use Rattle.mama_drive.proofs.run.Run.publisher_count.Goals as goal

pub returns-clause-number : goal.returns-clause-number
returns-clause-number c = c.publisher_count.ensures.number ∙ senders_seen c.self.inside.held c.self.inside.system c.args.self.now c.self.view_is

pub returns-clause-shape : goal.returns-clause-shape
returns-clause-shape c = c.publisher_count.ensures.shape ∙ shape_seen_senders c.self.inside.held c.self.inside.system c.args.self.now c.self.view_is
