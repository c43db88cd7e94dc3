use Rattle.mama_laws_bridge.proofs.TableLaws.{table_grows}
use Rattle.mama_laws_bridge.proofs.laws.table_grows.Goals as goal

pub returns : goal.returns
returns c = table_grows
