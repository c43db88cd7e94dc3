use Rattle.mama_dispatch.proofs.JournalLaws.{stands_at_first}
use Rattle.mama_dispatch.proofs.laws.no_objects_at_first.Goals as goal

pub returns : goal.returns
returns c = stands_at_first
