use Rattle.mama_words.proofs.IdLaws.{id_found, id_again}
use Rattle.mama_words.proofs.laws.ids_are_spelled.Goals as goal

pub returns : goal.returns
returns c = record { found = id_found; again = id_again }
