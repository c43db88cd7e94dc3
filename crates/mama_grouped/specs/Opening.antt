-- inner: How the seats of a new crew come to the groups of their queues.
use Rattle.std.specs.Prelude.{◌≡◌, ℕ, List, [], ◌∷◌, ◌++◌, Option, None, Some}
use Rattle.std.specs.Global.{Vec}
use Rattle.std.specs.List.{AllZip}
use Rattle.mama_edge.specs.declared.gate.GateActor.{GateActor}
use Rattle.mama_edge.specs.declared.gate.GateActor.TheVariants as gate
use Rattle.mama_event.specs.declared.group.GroupRow.{GroupRow}
use Rattle.mama_rules_rounds.specs.Setting.{Grouped}
use Rattle.mama_plans.specs.Lists.{groups_on}
use Rattle.mama_group.specs.Listener.{GroupListenerData, IsNew}

-- the groups on the queue of an actor, if it is a queue
abbrev pub rows_of_actor : List Grouped → GateActor → List (List (ℕ × GroupRow))
rows_of_actor groups (gate.Queue n) = groups_on groups n ∷ []
rows_of_actor groups (gate.Client c) = []
rows_of_actor groups (gate.Publisher p) = []
rows_of_actor groups gate.Bridge = []
rows_of_actor groups gate.Timers = []

-- some groups, if they were given
abbrev pub rows_given : Option (Vec (ℕ × GroupRow)) → List (List (ℕ × GroupRow))
rows_given None = []
rows_given (Some rows) = rows.items ∷ []

-- what an actor takes from the lists of groups is its own, where that is first among them
abbrev pub TakesRows : GateActor → List (List (ℕ × GroupRow)) → List (List (ℕ × GroupRow)) → List (List (ℕ × GroupRow)) → Type 0
TakesRows actor before given after =
    (groups : List Grouped) (others : List (List (ℕ × GroupRow))) → before ≡ rows_of_actor groups actor ++ others → (given ≡ rows_of_actor groups actor) × (after ≡ others)

-- each group has a new listener
abbrev pub AreNew : List (ℕ × GroupRow) → List GroupListenerData → Type 0
AreNew rows listeners = AllZip (λ (row : ℕ × GroupRow) (l : GroupListenerData). IsNew row.0 l) rows listeners
