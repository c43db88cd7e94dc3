use Rattle.std.proofs.Common.{arith}
use Rattle.mama_log_read.proofs.Sections.{plain_sub, plain_timer, plain_inbox}
use Rattle.mama_log_read.proofs.section.on_one_line.Goals as goal

pub returns-in-Sub-clause-plain : goal.returns-in-Sub-clause-plain
returns-in-Sub-clause-plain c = plain_sub c.args.object c.in-Sub.id c.in-Sub.is (omega arith) (omega arith)

pub returns-in-Timer-clause-plain : goal.returns-in-Timer-clause-plain
returns-in-Timer-clause-plain c = plain_timer c.args.object c.in-Timer.id c.in-Timer.is (omega arith) (omega arith)

pub returns-in-Inbox-clause-plain : goal.returns-in-Inbox-clause-plain
returns-in-Inbox-clause-plain c = plain_inbox c.args.object c.in-Inbox.id c.in-Inbox.is (omega arith) (omega arith)
