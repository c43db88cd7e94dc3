use Rattle.mama_words.proofs.Quotes.{quoted_in_found, quoted_in_again}
use Rattle.mama_words.proofs.laws.texts_are_spelled.Goals as goal

pub returns : goal.returns
returns c = record { found = quoted_in_found; again = quoted_in_again }
