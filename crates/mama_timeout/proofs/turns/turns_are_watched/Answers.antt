use Rattle.mama_timeout.proofs.Watched.{watched}
use Rattle.mama_timeout.proofs.turns.turns_are_watched.Goals as goal

pub returns : goal.returns
returns g c = λ view orders seats rows before e answer told. watched view orders seats rows before e answer told
