-- believed: What a client's seat keeps.
use Rattle.std.specs.Prelude.{◌≡◌, ℕ, true, false, List, [], ◌∷◌, ◌++◌, length, slice_index_or, if◌then◌else◌}
use Rattle.std.specs.List.{flat_map}
use Rattle.mama_event.specs.declared.to_bridge.BridgeNote.{BridgeNote}
use Rattle.mama_event.specs.declared.to_timers.TimersNote.{TimersNote}
use Rattle.mama_event.specs.Ports.{queues_of}
use Rattle.mama_script.specs.declared.client.ClientLine.{ClientLine}
use Rattle.mama_script.specs.Script.{ScriptData}
use Rattle.mama_rules_queue.specs.Queue.{QueuePut}
use Rattle.mama_rules_rounds.specs.Client.{clock_lines, bridge_part, timers_part}
use Rattle.mama_rules_legal.specs.Edges.{all_steps}
use Rattle.mama_laws_allowed.specs.Allowed.{own_puts}
use Rattle.mama_seats.specs.Stand.{Stand, Walk, stand_of, reads_next, client_left, reading, BeginsWith, Ends, IsStep}
use Rattle.mama_posts_clients.specs.Outlets.{OutletsValue, HasPut}

-- where the client stands in its lines, its ports, and what it has left to put
pub record ClientPostValue : Type 0 where
  pub walk : Walk
  pub ports : OutletsValue
  pub left : List QueuePut

-- the lines of the client of a number
abbrev pub lines_of : ScriptData → ℕ → List ClientLine
lines_of script number = slice_index_or script.clients number []

-- where the client of a number stands
abbrev pub stand_at : ScriptData → ℕ → Walk → Stand
stand_at script number walk = stand_of (lines_of script number) walk

-- The seat of the client of a number. Whatever its clock will tell later: what it put on each lane, then what is left, and
-- then what its steps to come put, is what its lines put. It reads a moment for each of its lines that read the clock.
pub record IsClientOf (script : ScriptData) (number : ℕ) (post : ClientPostValue) : Type 0 where
  pub number_is : post.walk.number ≡ number
  pub queues_are : post.walk.queues ≡ queues_of script.shape
  pub bridge_bounds : post.ports.to_bridge.bounds ≡ script.shape.bounds
  pub timers_bounds : post.ports.to_timers.bounds ≡ script.shape.bounds
  pub put : (moments : List ℕ) → BeginsWith post.walk.read moments
      → HasPut post.ports (post.left ++ all_steps (client_left moments (stand_at script number post.walk))) (own_puts script number moments)
  pub reads : reading (stand_at script number post.walk) ≡ clock_lines (lines_of script number)
  pub ends : Ends (stand_at script number post.walk)

-- where a client of a number begins, where there are so many queues
abbrev pub walk_at_first : ℕ → ℕ → Walk
walk_at_first number queues = record { number = number; queues = queues; over = false; pause = 0; names = record { subs = 0; timers = 0; inboxes = 0; turns = 0 }; line = 0; read = [] }

-- It has ended: it did all its lines and said that it is done, and nothing is left.
pub record HasEnded (post : ClientPostValue) : Type 0 where
  pub over : post.walk.over ≡ true
  pub left : post.left ≡ []

-- Its next line was done, or the last words were said. A line that reads the clock read this moment. A pause was passed
-- as a whole.
pub record DidLine (script : ScriptData) (number moment : ℕ) (old new : Walk) : Type 0 where
  pub going : old.over ≡ false
  pub after : Walk
  pub puts : List QueuePut
  pub step : IsStep (stand_at script number old) (stand_at script number after) puts
  pub read : new.read ≡ old.read ++ (if reads_next (stand_at script number old) then moment ∷ [] else [])
  pub rested : new ≡ record after { pause = new.pause }
  pub awake : new.over ≡ false → new.pause ≡ 0

-- A step: what was left was put, and nothing else changed; or, where nothing was left, a line was done.
pub data MadeStep (script : ScriptData) (number moment : ℕ) (old new : ClientPostValue) : Type 0 where
  finished : (first : QueuePut) (rest : List QueuePut) → old.left ≡ first ∷ rest → new.walk ≡ old.walk → MadeStep script number moment old new
  did : old.left ≡ [] → DidLine script number moment old.walk new.walk → MadeStep script number moment old new

-- What a client has put and read that has done all its lines: on each lane what its lines put, with the moments that it
-- read, which are one for each of its lines that read the clock.
pub record HasDoneAll (script : ScriptData) (number : ℕ) (on_bridge : List BridgeNote) (on_timers : List TimersNote) (read : List ℕ) : Type 0 where
  pub bridge : on_bridge ≡ flat_map bridge_part (own_puts script number read)
  pub timers : on_timers ≡ flat_map timers_part (own_puts script number read)
  pub reads : length read ≡ clock_lines (lines_of script number)
