use Rattle.mama_plans.proofs.planning.object_of.Goals as goal

pub returns-in_ok-sub-in-Sub : goal.returns-in_ok-sub-in-Sub
returns-in_ok-sub-in-Sub c = rw c.in-Sub.is (c.in_ok-sub-in-Sub.ensures c.in-Sub.topic c.in-Sub.kind c.in-Sub.cache c.in-Sub.recaps c.in-Sub.faults)

pub returns-in_ok-timer-in-Timer : goal.returns-in_ok-timer-in-Timer
returns-in_ok-timer-in-Timer c = rw c.in-Timer.is (c.in_ok-timer-in-Timer.ensures c.in-Timer.interval)

pub returns-in_ok-inbox-in-Inbox : goal.returns-in_ok-inbox-in-Inbox
returns-in_ok-inbox-in-Inbox c = rw c.in-Inbox.is (c.in_ok-inbox-in-Inbox.ensures c.in-Inbox.faults)
