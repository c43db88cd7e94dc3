use Rattle.mama_laws_bridge.proofs.TableLaws.{table_tells}
use Rattle.mama_laws_bridge.proofs.laws.table_tells.Goals as goal

pub returns : goal.returns
returns c = table_tells
