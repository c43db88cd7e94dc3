use Rattle.mama_laws_bridge.proofs.TableLaws.{flags_tell}
use Rattle.mama_laws_bridge.proofs.laws.flags_tell.Goals as goal

pub returns : goal.returns
returns c = flags_tell
