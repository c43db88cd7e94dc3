use Rattle.mama_words.proofs.Numbers.{int_in_is}
use Rattle.mama_words.proofs.number.read_int.Goals as goal

pub returns : goal.returns
returns c = int_in_is c.args.text.now c.read_i64.result c.read_i64.ensures.found c.read_i64.ensures.fits c.read_i64.ensures.none
