use Rattle.mama_dispatch.proofs.JournalLaws.{standing}
use Rattle.mama_dispatch.proofs.laws.serving_an_entry.Goals as goal

pub returns : goal.returns
returns c = standing
