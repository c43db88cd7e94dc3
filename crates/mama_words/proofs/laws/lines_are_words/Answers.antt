use Rattle.mama_words.proofs.Sentences.{words_joined, parted_found, parted_again}
use Rattle.mama_words.proofs.laws.lines_are_words.Goals as goal

pub returns : goal.returns
returns c = record { joined = words_joined; found = parted_found; again = parted_again }
