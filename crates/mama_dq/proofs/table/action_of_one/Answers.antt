-- Each of the 30 cells holds the action of its phase, its relation and its kind of message; the last phase has those of another.
use Rattle.std.proofs.Common.{◌≡◌, ◌+◌, ◌*◌, Bool, List, [], ◌∷◌, slice_index_or, refl}
use Rattle.mama_event.specs.declared.shape.Strategy.TheVariants.{One}
use Rattle.mama_dq.specs.declared.table.Phase.{Phase}
use Rattle.mama_dq.specs.declared.table.Phase.TheVariants.{Await, LiveOk, LiveStale, LiveKept}
use Rattle.mama_dq.specs.declared.table.Relation.{Relation}
use Rattle.mama_dq.specs.declared.table.Action.{Action}
use Rattle.mama_dq.specs.declared.table.Action.TheVariants.{Keep, Start, Apply, ApplyKeep, KeepOnly, Ignore, Gap, Switch, Replace, Heal, Adopt}
use Rattle.mama_dq.specs.Table.{decided}
use Rattle.mama_dq.specs.Cells.{phase_of_one, phase_number, relation_number, kind_number}
use Rattle.mama_dq.proofs.Cells.{each_cell}
use Rattle.mama_dq.proofs.table.action_of_one.Goals as goal

abbrev cells : List Action
cells =
    Start ∷ Keep ∷ Start ∷ Keep ∷ Start ∷ Keep ∷ Start ∷ Keep ∷ Start ∷ Keep ∷
    Replace ∷ Apply ∷ Replace ∷ Ignore ∷ Ignore ∷ Ignore ∷ Replace ∷ Gap ∷ Adopt ∷ Switch ∷
    Heal ∷ ApplyKeep ∷ Heal ∷ KeepOnly ∷ Heal ∷ KeepOnly ∷ Heal ∷ Gap ∷ Adopt ∷ Switch ∷ []

abbrev IsCell : Phase → Relation → Bool → Type 0
IsCell phase relation update = slice_index_or cells (10 * phase_number (phase_of_one phase) + 2 * relation_number relation + kind_number update) Keep ≡ decided One phase relation update

cell_is : (phase : Phase) (relation : Relation) (update : Bool) → IsCell phase relation update
cell_is Await = each_cell (IsCell Await) refl refl refl refl refl refl refl refl refl refl
cell_is LiveOk = each_cell (IsCell LiveOk) refl refl refl refl refl refl refl refl refl refl
cell_is LiveStale = each_cell (IsCell LiveStale) refl refl refl refl refl refl refl refl refl refl
cell_is LiveKept = each_cell (IsCell LiveKept) refl refl refl refl refl refl refl refl refl refl

pub returns : goal.returns
returns c = rw (c.phase_number.ensures, c.phase_of_one-phase.ensures, c.relation_number.ensures, c.kind_number.ensures) (cell_is c.args.phase c.args.relation c.args.update)
