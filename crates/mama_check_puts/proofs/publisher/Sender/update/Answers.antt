use Rattle.std.specs.List.{flat_map}
use Rattle.mama_rules_rounds.specs.Sections.{sends_in}
use Rattle.mama_check_puts.specs.Sender.{unsent}
use Rattle.mama_check_puts.proofs.SenderSteps.{update_done}
use Rattle.mama_check_puts.proofs.publisher.Sender.update.Goals as goal

pub returns-in-Ok : goal.returns-in-Ok
returns-in-Ok c = λ script journal at.
    update_done c.sending_an_update.ensures script journal c.args.self.now.publisher c.send.new.self (unsent c.args.self.now) (flat_map sends_in c.args.rest.now) c.args.body.now c.in-Ok.msg
    at c.requires c.in-Ok.ensures.ok c.in-Ok.ensures.sent
