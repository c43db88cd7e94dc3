-- inner: What each step does to the view of the pass that makes it.
use Rattle.std.specs.Prelude.{ℕ, ◌+◌, List, [], ◌∷◌, ◌++◌, map}
use Rattle.mama_event.specs.declared.shape.Bounds.{Bounds}
use Rattle.mama_lane.specs.declared.view.View.{View}
use Rattle.mama_lane.specs.declared.view.Role.TheVariants.{Taker, Port, Note, Spent}
use Rattle.mama_lane.specs.Values.{PortValue}

module _ {N : Type 0} where
  -- the opener's pass, which goes on as the taker's: nothing was made and taken yet
  abbrev pub opener : View N
  opener = record { role = Taker; bounds = record { topics = 0; queues = 0 }; number = 0; made = 0; put = []; taken = []; learnt = []; closed = [] }

  -- a pass that makes no more steps
  abbrev pub spent : View N
  spent = record { role = Spent; bounds = record { topics = 0; queues = 0 }; number = 0; made = 0; put = []; taken = []; learnt = []; closed = [] }

  -- bind: the opener is told the bounds
  abbrev pub bound : Bounds → View N → View N
  bound bounds v = record v { bounds = bounds }

  -- split: the opener has made one port more
  abbrev pub with_port : View N → View N
  with_port v = record v { made = v.made + 1 }

  -- split: the port that it made, which has put nothing
  abbrev pub next_port : View N → View N
  next_port v = record { role = Port; bounds = v.bounds; number = v.made; made = 0; put = []; taken = []; learnt = []; closed = [] }

  -- the opener after it was told the bounds and has made some ports
  abbrev pub opened : Bounds → ℕ → View N
  opened bounds ports = record { role = Taker; bounds = bounds; number = 0; made = ports; put = []; taken = []; learnt = []; closed = [] }

  -- put: what the port has put grows by the note
  abbrev pub with_put : View N → N → View N
  with_put v note = record v { put = v.put ++ note ∷ [] }

  -- take: what was taken grows by the ports' numbers and the notes
  abbrev pub with_taken : View N → List (ℕ × N) → View N
  with_taken v more = record v { taken = v.taken ++ more }

  -- tell: a note names what the port has put
  abbrev pub noted_port : View N → View N
  noted_port v = record { role = Note; bounds = v.bounds; number = v.number; made = 0; put = v.put; taken = []; learnt = []; closed = [] }

  -- learn: the taker knows what the note names
  abbrev pub with_learnt : View N → View N → View N
  with_learnt v note = record v { learnt = v.learnt ++ (note.number, note.put) ∷ [] }

  -- join: the taker knows all that the port had put
  abbrev pub with_closed : View N → View N → View N
  with_closed v port = record v { closed = v.closed ++ (port.number, port.put) ∷ [] }

  -- the taker after it took in some ports, one after another
  abbrev pub with_ended : View N → List (PortValue N) → View N
  with_ended v ports = record v { closed = v.closed ++ map (λ p. (p.number, p.put)) ports }
