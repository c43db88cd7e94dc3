-- inner: A run that is under way, as `new`, `go` and `into_record` hand it on. What comes of it is told in the words of rounds.
use Rattle.std.specs.Prelude.{ℕ, Bool, false, List, Option}
use Rattle.mama_script.specs.Script.{ScriptData}
use Rattle.mama_rules_rounds.specs.Sections.{setting_of}
use Rattle.mama_seats.specs.Moments.{Answered}
use Rattle.mama_drive.specs.declared.place.Place.{Place}
use Rattle.mama_drive.specs.declared.place.Place.TheVariants as place
use Rattle.mama_drive.specs.Scene.{Scene}
use Rattle.mama_drive.specs.Heard.{left_behind}
use Rattle.mama_drive.specs.Start.{started}
use Rattle.mama_drive.specs.Place.{StandsAt}

-- a run that is under way, and whether it is at its end
pub record Course : Type 0 where
  pub scene : Scene
  pub at : Place
  pub over : Bool

-- a run at its beginning
abbrev pub begun : ScriptData → Course
begun script = record { scene = started (setting_of script).objects script; at = place.Rounds; over = false }

-- A run of this script is under way: if a clock told these moments when it began and answered all that was read since, these
-- are left to it.
abbrev pub IsUnderWay : ScriptData → Option (List ℕ) → Option (List ℕ) → Course → Type 0
IsUnderWay script told left run = StandsAt (started (setting_of script).objects script) told left run.at run.scene

-- A call went on with a run, and the clock answered the moments that the call read. In whatever script the run was under way, it
-- still is; and if a clock had answered all that was read before, and would have answered these moments too, it has answered
-- all that is read now.
pub record IsGoneOn (told left : Option (List ℕ)) (old new : Course) : Type 0 where
  pub heard : List ℕ
  pub answered : Answered told left heard
  pub under_way : (script : ScriptData) (from o : Option (List ℕ)) → Answered o (left_behind heard o) heard → IsUnderWay script from o old → IsUnderWay script from (left_behind heard o) new
