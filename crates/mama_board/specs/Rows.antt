-- believed: the image of a subscription after some sets of a board.
use Rattle.std.specs.Prelude.{List, Option, Some, None, fold, if◌then◌else◌}
use Rattle.mama_event.specs.declared.ids.SubId.{SubId}
use Rattle.mama_event.specs.Object.{same_sub}
use Rattle.mama_board.specs.declared.image_set.ImageSet.{ImageSet}
use Rattle.mama_board.specs.declared.row.Row.{Row}

-- the head and the body that a set gives
abbrev pub row_in : ImageSet → Row
row_in set = record { head = set.head; body = set.body }

-- the row of the last of these sets that names the subscription, or none
abbrev pub row : SubId → List ImageSet → Option Row
row sub sets = fold (λ found set. if same_sub sub set.sub then Some (row_in set) else found) None sets
