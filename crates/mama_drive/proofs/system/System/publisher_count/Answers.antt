use Rattle.std.proofs.Common.{arith, sym, ap, length, ◌∙◌}
use Rattle.mama_event.specs.Ports.{publishers_of}
use Rattle.mama_drive.specs.Scene.{Scene}
use Rattle.mama_drive.proofs.system.System.publisher_count.Goals as goal

pub publishers_in-requires : goal.publishers_in-requires
publishers_in-requires c = omega (arith, c.self.invariant.ports)

pub returns-clause-number : goal.returns-clause-number
returns-clause-number c = c.publishers_in.ensures ∙ sym c.self.invariant.sender_count ∙ ap (λ (s : Scene). length s.senders) c.self.view_is

pub returns-clause-shape : goal.returns-clause-shape
returns-clause-shape c = c.publishers_in.ensures ∙ ap (λ (s : Scene). publishers_of s.shape) c.self.view_is
