use Rattle.mama_dispatch.proofs.ComingLaws.{lawful_may_come as entry_may_come, lawful_are_turns}
use Rattle.mama_dispatch.proofs.laws.lawful_may_come.Goals as goal

pub returns-clause-entry : goal.returns-clause-entry
returns-clause-entry c = entry_may_come

pub returns-clause-journal : goal.returns-clause-journal
returns-clause-journal c = lawful_are_turns
