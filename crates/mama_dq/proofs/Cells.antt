-- A table is read cell by cell: what holds in the ten cells of a phase holds for each relation and each kind of message.
use Rattle.std.proofs.Common.{Bool, true, false}
use Rattle.mama_dq.specs.declared.table.Relation.{Relation}
use Rattle.mama_dq.specs.declared.table.Relation.TheVariants.{Next, Same, Old, Ahead, Other}

pub each_cell : (P : Relation → Bool → Type 0)
    → P Next false → P Next true → P Same false → P Same true → P Old false → P Old true → P Ahead false → P Ahead true → P Other false → P Other true
    → (relation : Relation) (update : Bool) → P relation update
each_cell P a b c d e f g h i j Next false = a
each_cell P a b c d e f g h i j Next true = b
each_cell P a b c d e f g h i j Same false = c
each_cell P a b c d e f g h i j Same true = d
each_cell P a b c d e f g h i j Old false = e
each_cell P a b c d e f g h i j Old true = f
each_cell P a b c d e f g h i j Ahead false = g
each_cell P a b c d e f g h i j Ahead true = h
each_cell P a b c d e f g h i j Other false = i
each_cell P a b c d e f g h i j Other true = j
