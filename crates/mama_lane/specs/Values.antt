-- believed: What clauses see of a lane, a port, a note and a taker.
use Rattle.std.specs.Prelude.{ℕ, zero, suc, List, [], ◌∷◌, ◌++◌}
use Rattle.std.specs.declared.alloc.Global.{Global}
use Rattle.crossbeam_queue.specs.SegTies.{SegId}
use Rattle.mama_event.specs.declared.shape.Bounds.{Bounds}

-- which lane it is
abbrev pub LaneId : Type 0
LaneId = SegId Global

-- a lane: which it is, the bounds within which its ports put, and how many ports it has
pub record LaneValue : Type 0 where
  pub id : LaneId
  pub bounds : Bounds
  pub ports : ℕ

-- a port: its lane, the bounds within which it puts, its number, and the notes of what it put
pub record PortValue (N : Type 0) : Type 0 where
  pub lane : LaneId
  pub bounds : Bounds
  pub number : ℕ
  pub put : List N

-- a note of a port: its lane, the port's number, and what the port had put
pub record NoteValue (N : Type 0) : Type 0 where
  pub lane : LaneId
  pub number : ℕ
  pub put : List N

-- A taker: its lane, the bounds within which the ports put, how many ports there are, what it took, each with the
-- number of its port, and the notes that it learnt, each with the number of its port.
pub record TakerValue (N : Type 0) : Type 0 where
  pub lane : LaneId
  pub bounds : Bounds
  pub ports : ℕ
  pub taken : List (ℕ × N)
  pub learnt : List (ℕ × List N)

module _ {N : Type 0} where
  -- the port of this number, which has put nothing
  abbrev pub new_port : LaneValue → ℕ → PortValue N
  new_port lane number = record { lane = lane.id; bounds = lane.bounds; number = number; put = [] }

  -- the first n ports of a lane, in the order of their numbers, which have put nothing
  abbrev pub new_ports : LaneValue → ℕ → List (PortValue N)
  new_ports lane zero = []
  new_ports lane (suc n) = new_ports lane n ++ new_port lane n ∷ []

  -- the taker of a lane, which has taken nothing
  abbrev pub new_taker : LaneValue → TakerValue N
  new_taker lane = record { lane = lane.id; bounds = lane.bounds; ports = lane.ports; taken = []; learnt = [] }

  -- the port after it put one event more
  abbrev pub after_put : PortValue N → N → PortValue N
  after_put port note = record port { put = port.put ++ note ∷ [] }

  -- the taker after it took one event more, of this port
  abbrev pub after_take : TakerValue N → ℕ → N → TakerValue N
  after_take taker port note = record taker { taken = taker.taken ++ (port, note) ∷ [] }

  -- the note of what a port has put
  abbrev pub note_of_port : PortValue N → NoteValue N
  note_of_port port = record { lane = port.lane; number = port.number; put = port.put }

  -- the taker after it learnt one note more
  abbrev pub after_learn : TakerValue N → NoteValue N → TakerValue N
  after_learn taker note = record taker { learnt = taker.learnt ++ (note.number, note.put) ∷ [] }
