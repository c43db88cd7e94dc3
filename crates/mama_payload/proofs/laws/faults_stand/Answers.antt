use Rattle.mama_payload.proofs.Places.{decoded-more, decoded-truncated}
use Rattle.mama_payload.proofs.laws.faults_stand.Goals as goal

pub returns-clause-stand : goal.returns-clause-stand
returns-clause-stand c = decoded-more

pub returns-clause-truncated : goal.returns-clause-truncated
returns-clause-truncated c = decoded-truncated
