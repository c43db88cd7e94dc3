-- inner: what a change of the log makes of a board.
use Rattle.mama_board.specs.declared.change.Change.{Change}
use Rattle.mama_board.specs.declared.change.Change.TheVariants.{Set, Seal}
use Rattle.mama_board.specs.Values.{BoardValue, after_image, with_waiting, after_sealing}

-- a change was shown, and before it the sets that waited
abbrev pub after_shown : BoardValue → Change → BoardValue
after_shown b (Set set) = after_image b set
after_shown b Seal = after_sealing b

-- a change was logged and refused
abbrev pub after_refused : BoardValue → Change → BoardValue
after_refused b (Set set) = with_waiting b set
after_refused b Seal = b
