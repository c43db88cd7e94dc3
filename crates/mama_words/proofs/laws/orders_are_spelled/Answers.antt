use Rattle.mama_words.proofs.OrderLaws.{order_found, order_again}
use Rattle.mama_words.proofs.laws.orders_are_spelled.Goals as goal

pub returns : goal.returns
returns c = record { found = order_found; again = order_again }
