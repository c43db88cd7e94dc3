-- believed: When the next step of a client's seat reads the clock.
use Rattle.std.specs.Prelude.{ℕ, Bool, true, false, ◌&&◌, List, [], ◌∷◌}
use Rattle.mama_rules_queue.specs.Queue.{QueuePut}
use Rattle.mama_script.specs.Script.{ScriptData}
use Rattle.mama_seats.specs.Stand.{reads_next}
use Rattle.mama_posts_clients.specs.Client.{ClientPostValue, stand_at}

-- a client's post, and whether its next step reads the clock
pub record ClientSeatValue : Type 0 where
  pub post : ClientPostValue
  pub reads : Bool

abbrev pub is_clear : List QueuePut → Bool
is_clear [] = true
is_clear (p ∷ ps) = false

-- nothing is left to put, and the next line is one that reads the clock
abbrev pub reads_now : ScriptData → ℕ → ClientPostValue → Bool
reads_now script number post = is_clear post.left && reads_next (stand_at script number post.walk)
