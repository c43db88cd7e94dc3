use Rattle.mama_check_puts.specs.Sender.{unsent}
use Rattle.mama_check_puts.proofs.SenderSteps.{end_done}
use Rattle.mama_check_puts.proofs.publisher.Sender.put.Goals as goal

pub returns-in-Send : goal.returns-in-Send
returns-in-Send c = rw c.in-Send.is c.send.ensures

pub returns-in-Done : goal.returns-in-Done
returns-in-Done c = λ script journal at. rw c.in-Done.is (end_done c.telling_the_end_of_sends.ensures script journal c.args.self.now.publisher (unsent c.args.self.now) at)

pub returns-in-Took : goal.returns-in-Took
returns-in-Took c = rw c.in-Took.is c.take.ensures
