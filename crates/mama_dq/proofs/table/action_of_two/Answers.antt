-- Each of the 40 cells holds the action of its phase, its relation and its kind of message.
use Rattle.std.proofs.Common.{◌≡◌, ◌+◌, ◌*◌, Bool, List, [], ◌∷◌, slice_index_or, refl}
use Rattle.mama_event.specs.declared.shape.Strategy.TheVariants.{Two}
use Rattle.mama_dq.specs.declared.table.Phase.{Phase}
use Rattle.mama_dq.specs.declared.table.Phase.TheVariants.{Await, LiveOk, LiveStale, LiveKept}
use Rattle.mama_dq.specs.declared.table.Relation.{Relation}
use Rattle.mama_dq.specs.declared.table.Action.{Action}
use Rattle.mama_dq.specs.declared.table.Action.TheVariants.{Keep, Apply, ApplyKeep, Ignore, Gap, Switch, Replace, Heal, Adopt, StartKeep, Catch, Late, KeepLate}
use Rattle.mama_dq.specs.Table.{decided}
use Rattle.mama_dq.specs.Cells.{phase_number, relation_number, kind_number}
use Rattle.mama_dq.proofs.Cells.{each_cell}
use Rattle.mama_dq.proofs.table.action_of_two.Goals as goal

abbrev cells : List Action
cells =
    StartKeep ∷ Keep ∷ StartKeep ∷ Keep ∷ StartKeep ∷ Keep ∷ StartKeep ∷ Keep ∷ StartKeep ∷ Keep ∷
    Replace ∷ Apply ∷ Replace ∷ Late ∷ Ignore ∷ Late ∷ Replace ∷ Gap ∷ Adopt ∷ Switch ∷
    Heal ∷ ApplyKeep ∷ Heal ∷ KeepLate ∷ Heal ∷ KeepLate ∷ Heal ∷ Gap ∷ Adopt ∷ Switch ∷
    Replace ∷ Apply ∷ Replace ∷ Late ∷ Ignore ∷ Late ∷ Replace ∷ Catch ∷ Adopt ∷ Switch ∷ []

abbrev IsCell : Phase → Relation → Bool → Type 0
IsCell phase relation update = slice_index_or cells (10 * phase_number phase + 2 * relation_number relation + kind_number update) Keep ≡ decided Two phase relation update

cell_is : (phase : Phase) (relation : Relation) (update : Bool) → IsCell phase relation update
cell_is Await = each_cell (IsCell Await) refl refl refl refl refl refl refl refl refl refl
cell_is LiveOk = each_cell (IsCell LiveOk) refl refl refl refl refl refl refl refl refl refl
cell_is LiveStale = each_cell (IsCell LiveStale) refl refl refl refl refl refl refl refl refl refl
cell_is LiveKept = each_cell (IsCell LiveKept) refl refl refl refl refl refl refl refl refl refl

pub returns : goal.returns
returns c = rw (c.phase_number.ensures, c.relation_number.ensures, c.kind_number.ensures) (cell_is c.args.phase c.args.relation c.args.update)
