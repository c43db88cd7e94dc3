use Rattle.mama_link.specs.EqualityLaws.{same_rows-Decides}
use Rattle.mama_link.proofs.laws.faults_are_compared_exactly.Goals as goal

pub returns-clause-faults : goal.returns-clause-faults
returns-clause-faults c = same_rows-Decides
