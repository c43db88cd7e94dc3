use Rattle.mama_laws_callbacks.proofs.Words.{last_words_are_true}
use Rattle.mama_laws_callbacks.proofs.laws.last_words_are_true.Goals as goal

pub returns : goal.returns
returns c = last_words_are_true
