use Rattle.mama_words.proofs.Cuts.{pieces_at_some, pieces_at_none}
use Rattle.mama_words.proofs.laws.pieces_are_cut.Goals as goal

pub returns : goal.returns
returns c = record { cut = pieces_at_some; uncut = pieces_at_none }
