use Rattle.std.proofs.Common.{◌∙◌}
use Rattle.mama_drive.proofs.RunLemmas.{clients_seen, shape_seen_clients}
use Rattle.mama_drive.proofs.run.Run.client_count.Goals as goal

pub returns-clause-number : goal.returns-clause-number
returns-clause-number c = c.client_count.ensures.number ∙ clients_seen c.self.inside.held c.self.inside.system c.args.self.now c.self.view_is

pub returns-clause-shape : goal.returns-clause-shape
returns-clause-shape c = c.client_count.ensures.shape ∙ shape_seen_clients c.self.inside.held c.self.inside.system c.args.self.now c.self.view_is
