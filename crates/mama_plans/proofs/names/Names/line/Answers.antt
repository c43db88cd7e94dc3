use Rattle.mama_plans.proofs.names.Names.line.Goals as goal

pub returns-in_ok-done-in-Sub : goal.returns-in_ok-done-in-Sub
returns-in_ok-done-in-Sub c = rw c.in-Sub.is (c.in_ok-done-in-Sub.ensures c.in-Sub.plan)

pub returns-in_ok-done-in-Timer : goal.returns-in_ok-done-in-Timer
returns-in_ok-done-in-Timer c = rw c.in-Timer.is (c.in_ok-done-in-Timer.ensures c.in-Timer.plan)

pub returns-in_ok-done-in-Inbox : goal.returns-in_ok-done-in-Inbox
returns-in_ok-done-in-Inbox c = rw c.in-Inbox.is (c.in_ok-done-in-Inbox.ensures c.in-Inbox.plan)
