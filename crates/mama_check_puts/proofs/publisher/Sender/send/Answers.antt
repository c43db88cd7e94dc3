use Rattle.mama_check_puts.specs.Sender.{unsent}
use Rattle.mama_check_puts.proofs.SenderSteps.{nothing_done}
use Rattle.mama_check_puts.proofs.publisher.Sender.send.Goals as goal

pub returns-in-None : goal.returns-in-None
returns-in-None c = λ script journal at. nothing_done script journal c.args.self.now.publisher (unsent c.args.self.now) at c.in-None.ensures.none
