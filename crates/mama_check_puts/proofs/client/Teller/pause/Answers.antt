use Rattle.std.proofs.Common.{◌+◌, refl}
use Rattle.mama_check_puts.proofs.TellerSteps.{pause_told}
use Rattle.mama_check_puts.proofs.client.Teller.pause.Goals as goal

pub returns : goal.returns
returns c = pause_told c.args.self.now c.args.steps (c.args.self.now.place + 1) refl
