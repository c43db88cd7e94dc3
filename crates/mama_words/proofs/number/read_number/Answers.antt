use Rattle.mama_words.proofs.Numbers.{number_in_is}
use Rattle.mama_words.proofs.number.read_number.Goals as goal

pub returns : goal.returns
returns c = number_in_is c.args.text.now c.read_u64.result c.read_u64.ensures.found c.read_u64.ensures.fits c.read_u64.ensures.none
