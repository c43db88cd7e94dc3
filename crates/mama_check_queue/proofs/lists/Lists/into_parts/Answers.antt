use Rattle.mama_check_queue.proofs.ListLemmas.{parts_heard, parts_noted}
use Rattle.mama_check_queue.proofs.lists.Lists.into_parts.Goals as goal

pub returns-clause-groups : goal.returns-clause-groups
returns-clause-groups c = parts_heard _ c.into_parts.result.items c.args.self.groups c.into_parts.ensures

pub returns-clause-watches : goal.returns-clause-watches
returns-clause-watches c = parts_noted c.into_notes.result.items c.args.self.watches.watches c.into_notes.ensures
