use Rattle.std.proofs.Common.{◌≡◌, length}
use Rattle.mama_words.specs.Parting.{pieces}
use Rattle.mama_words.specs.NumberList.{ints_in}
use Rattle.mama_words.proofs.NumberLists.{ahead}
use Rattle.mama_words.proofs.number_list.read_ints.Given as goal

-- the numbers so far and those of the rest are all
abbrev pub invariant-loop-piece : goal.invariant-loop-piece
invariant-loop-piece l = ahead l.numbers.items (ints_in (pieces 44 l.rest)) ≡ ints_in (pieces 44 l.text)

abbrev pub decreases-loop-piece : goal.decreases-loop-piece
decreases-loop-piece l = length l.rest
