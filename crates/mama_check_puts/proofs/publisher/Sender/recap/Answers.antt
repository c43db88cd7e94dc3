use Rattle.std.specs.List.{flat_map}
use Rattle.mama_rules_rounds.specs.Sections.{sends_in}
use Rattle.mama_check_puts.specs.Sender.{unsent}
use Rattle.mama_check_puts.proofs.SenderSteps.{recap_done}
use Rattle.mama_check_puts.proofs.publisher.Sender.recap.Goals as goal

pub returns : goal.returns
returns c = λ script journal at.
    recap_done c.sending_a_recap.ensures script journal c.args.self.now.publisher (unsent c.args.self.now) (flat_map sends_in c.args.rest.now) c.in_ok-msg.msg at c.requires c.in_ok-msg.ensures
