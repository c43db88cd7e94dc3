use Rattle.mama_laws_bridge.proofs.TableLaws.{rows_are_live}
use Rattle.mama_laws_bridge.proofs.laws.rows_are_live.Goals as goal

pub returns : goal.returns
returns c = rows_are_live
