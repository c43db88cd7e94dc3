-- inner: The object that a line of a script makes, as it was found.
use Rattle.std.specs.Prelude.{◌≡◌, ℕ, List, [], ◌∷◌, Option, Some, None}
use Rattle.mama_script.specs.declared.client.ClientLine.{ClientLine}
use Rattle.mama_rules_rounds.specs.Client.{Planned, line_object, after_line}
use Rattle.mama_plans.specs.declared.plans.PlannedObject.{PlannedObject}
use Rattle.mama_plans.specs.declared.names.Names.{Names}
use Rattle.mama_plans.specs.Plans.{planned_object}
use Rattle.mama_plans.specs.Names.{standing_of}

-- The line makes these objects, and after it the client has named so much.
pub record Makes (queues number : ℕ) (old new : Names) (line : ClientLine) (made : List Planned) : Type 0 where
  pub objects : line_object queues number (standing_of old []) line ≡ made
  pub after : after_line (standing_of old []) line ≡ standing_of new []

-- what was found is what the line makes: an object and what the client has named then, or nothing
abbrev pub MakesOr : ℕ → ℕ → Names → ClientLine → Option (PlannedObject × Names) → Type 0
MakesOr queues number names line None = Makes queues number names names line []
MakesOr queues number names line (Some made) = Makes queues number names made.1 line (planned_object made.0 ∷ [])
