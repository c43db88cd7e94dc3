use Rattle.mama_words.proofs.Numbers.{number_in_found, number_in_again, int_in_found, int_in_again}
use Rattle.mama_words.proofs.laws.numbers_are_spelled.Goals as goal

pub returns : goal.returns
returns c = record { found = number_in_found; again = number_in_again; int_found = int_in_found; int_again = int_in_again }
