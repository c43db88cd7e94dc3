use Rattle.std.proofs.Common.{refl}
use Rattle.mama_plans.specs.Put.{note_of}
use Rattle.mama_check_puts.proofs.TellerSteps.{line_told}
use Rattle.mama_check_puts.proofs.client.Teller.say.Goals as goal

pub returns : goal.returns
returns c = λ l does.
    line_told c.args.self.now _ l (note_of c.args.put) refl refl refl
    (does.step c.args.self.now.moments.now) (does.after c.args.self.now.moments.now) c.in_ok-add.ensures.bridge c.in_ok-add.ensures.timers
