use Rattle.std.proofs.Common.{arith, ap}
use Rattle.mama_event.specs.Ports.{timers_port_of_bridge}
use Rattle.mama_drive.specs.Scene.{Scene}
use Rattle.mama_drive.proofs.system.System.timers_port.Goals as goal

pub overflow_add-result : goal.overflow_add-result
overflow_add-result c = omega (arith, c.self.invariant.ports)

pub returns : goal.returns
returns c = ap (λ (s : Scene). timers_port_of_bridge s.shape) c.self.view_is
