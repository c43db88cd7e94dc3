-- believed: What waits to be put on lanes.
use Rattle.std.specs.Prelude.{List, ◌∷◌, Option, None, Some}

-- what waits, where the first may stand apart
pub record Queued (T : Type 0) : Type 0 where
  pub apart : Option T
  pub rest : List T

-- a list behind an element, if there is one
abbrev pub led : {T : Type 0} → Option T → List T → List T
led None rest = rest
led (Some first) rest = first ∷ rest

-- all that waits, in order
abbrev pub waits : {T : Type 0} → Queued T → List T
waits w = led w.apart w.rest
