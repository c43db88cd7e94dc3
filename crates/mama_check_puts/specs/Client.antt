-- believed: What a client puts by its lines, and how one that does its lines again goes on.
use Rattle.std.specs.Prelude.{◌≡◌, ℕ, ◌+◌, List, [], ◌∷◌, ◌++◌}
use Rattle.std.specs.List.{flat_map}
use Rattle.mama_event.specs.declared.to_bridge.BridgeNote.{BridgeNote}
use Rattle.mama_event.specs.declared.to_bridge.BridgeNote.TheVariants as b
use Rattle.mama_event.specs.declared.to_timers.TimersNote.{TimersNote}
use Rattle.mama_event.specs.declared.to_timers.TimersNote.TheVariants as t
use Rattle.mama_script.specs.declared.client.ClientLine.{ClientLine}
use Rattle.mama_rules_queue.specs.Queue.{QueuePut, to_bridge, to_timers}
use Rattle.mama_check_order.specs.Numbered.{parted, steps_numbered, steps_numbered_from}
use Rattle.mama_rules_rounds.specs.Client.{Standing, at_first, line_steps, after_line, bridge_part, timers_part}
use Rattle.mama_plans.specs.Names.{standing_of}
use Rattle.mama_check_puts.specs.declared.client.Teller.{Teller}

-- What a client puts, line by line, and then that it is done. A pause puts nothing, however many steps it takes.
abbrev pub lines_from : ℕ → ℕ → Standing → List ClientLine → List (List QueuePut)
lines_from queues c s [] = (to_timers t.ClientDone ∷ to_bridge b.ClientDone ∷ []) ∷ []
lines_from queues c s (l ∷ ls) = flat_map (λ step. step) (line_steps queues c s l) ∷ lines_from queues c (after_line s l) ls

-- the same of a client with these lines, whose clock tells these moments
abbrev pub line_puts : ℕ → ℕ → List ℕ → List ClientLine → List (List QueuePut)
line_puts queues c moments lines = lines_from queues c (at_first moments) lines

-- what the client of a number put to the bridge and to the timer service, each event with the number of its line

abbrev pub client_put_to_bridge : ℕ → ℕ → List ℕ → List ClientLine → List (ℕ × BridgeNote)
client_put_to_bridge queues number moments lines = parted bridge_part (steps_numbered (line_puts queues number moments lines))

abbrev pub client_put_to_timers : ℕ → ℕ → List ℕ → List ClientLine → List (ℕ × TimersNote)
client_put_to_timers queues number moments lines = parted timers_part (steps_numbered (line_puts queues number moments lines))

-- what it has still to put by these lines
abbrev pub still : Teller → List ClientLine → List (ℕ × QueuePut)
still t lines = steps_numbered_from t.place (lines_from t.queues t.number (standing_of t.names t.moments.now) lines)

-- what it put, and what it has still to put by these lines

abbrev pub to_bridge_in_all : Teller → List ClientLine → List (ℕ × BridgeNote)
to_bridge_in_all t lines = t.puts.to_bridge.items ++ parted bridge_part (still t lines)

abbrev pub to_timers_in_all : Teller → List ClientLine → List (ℕ × TimersNote)
to_timers_in_all t lines = t.puts.to_timers.items ++ parted timers_part (still t lines)

-- It did a line, whatever lines come after it.
pub record Tells (old new : Teller) (line : ClientLine) : Type 0 where
  pub place : new.place ≡ old.place + 1
  pub bridge : (lines : List ClientLine) → to_bridge_in_all new lines ≡ to_bridge_in_all old (line ∷ lines)
  pub timers : (lines : List ClientLine) → to_timers_in_all new lines ≡ to_timers_in_all old (line ∷ lines)
