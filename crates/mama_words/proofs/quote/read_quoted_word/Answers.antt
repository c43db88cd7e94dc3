use Rattle.mama_words.proofs.Quotes.{quoted_in_answer}
use Rattle.mama_words.proofs.quote.read_quoted_word.Goals as goal

pub returns : goal.returns
returns c = quoted_in_answer c.args.word.now c.read_quoted.result c.read_quoted.ensures.found c.read_quoted.ensures.none
