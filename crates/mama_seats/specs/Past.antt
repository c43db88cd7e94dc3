-- believed: Which lines of a script take a step: all but a pause of no steps, which no accepted script has.
use Rattle.std.specs.Prelude.{◌==◌, Bool, false, List, [], ◌∷◌, if◌then◌else◌}
use Rattle.mama_script.specs.declared.client.ClientLine.{ClientLine}
use Rattle.mama_script.specs.declared.client.ClientLine.TheVariants as line
use Rattle.mama_script.specs.declared.publisher.PublisherLine.{PublisherLine}
use Rattle.mama_script.specs.declared.publisher.PublisherLine.TheVariants as send

-- a line of a client that takes no step, and one of a publisher
abbrev pub is_empty_line : ClientLine → Bool
is_empty_line (line.Pause n) = n == 0
is_empty_line _ = false

abbrev pub is_empty_send : PublisherLine → Bool
is_empty_send (send.Pause n) = n == 0
is_empty_send _ = false

-- a list from the first element on that does not pass the test
abbrev pub past : {X : Type 0} → (X → Bool) → List X → List X
past test [] = []
past test (x ∷ xs) = if test x then past test xs else x ∷ xs
