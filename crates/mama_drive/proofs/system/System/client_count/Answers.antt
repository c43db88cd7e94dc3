use Rattle.std.proofs.Common.{sym, ap, length, ◌∙◌}
use Rattle.mama_event.specs.Ports.{clients_of}
use Rattle.mama_drive.specs.Scene.{Scene}
use Rattle.mama_drive.proofs.system.System.client_count.Goals as goal

pub returns-clause-number : goal.returns-clause-number
returns-clause-number c = sym c.self.invariant.client_count ∙ ap (λ (s : Scene). length s.clients) c.self.view_is

pub returns-clause-shape : goal.returns-clause-shape
returns-clause-shape c = ap (λ (s : Scene). clients_of s.shape) c.self.view_is
