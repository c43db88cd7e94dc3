use Rattle.mama_timeout.proofs.Noted.{noted_turn, wished_turn, unnoted_turn, unwished_turn}
use Rattle.mama_timeout.proofs.laws.watches_note_turn_by_turn.Goals as goal

pub returns-clause-noted : goal.returns-clause-noted
returns-clause-noted c = λ orders w before e t moment tick. noted_turn orders w before e t moment tick

pub returns-clause-wished : goal.returns-clause-wished
returns-clause-wished c = λ orders w before e t moment tick. wished_turn orders w before e t moment tick

pub returns-clause-unnoted : goal.returns-clause-unnoted
returns-clause-unnoted c = λ orders w before e none. unnoted_turn orders w before e none

pub returns-clause-unwished : goal.returns-clause-unwished
returns-clause-unwished c = λ orders w before e none. unwished_turn orders w before e none
