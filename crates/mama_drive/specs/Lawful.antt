-- inner: A run in which clients put what they may and each lane keeps what was put on it: so a queue gets what it may take.
use Rattle.std.specs.Prelude.{◌≡◌, ℕ, ◌<◌, Bool, true, List, [], length, slice_index_or}
use Rattle.mama_event.specs.Ports.{clients_of, publishers_of}
use Rattle.mama_rules_queue.specs.Queue.{QueuePut}
use Rattle.mama_rules_rounds.specs.Setting.{Setting}
use Rattle.mama_rules_rounds.specs.World.{World}
use Rattle.mama_rules_rounds.specs.Stage.{Stage}
use Rattle.mama_laws_legal.proofs.Whole.{Running}
use Rattle.mama_laws_allowed.specs.Allowed.{ArePutsLawful}
use Rattle.mama_seats.specs.Server.{first_may_come}
use Rattle.mama_drive.specs.Scene.{Scene, setting_in, world_in, stage_in, AreMoments, AreTold}

-- what waits first for the queue of a number, if something does, may come
abbrev pub comes_first : ℕ → World → Bool
comes_first q w = first_may_come (slice_index_or w.queues q []) (slice_index_or w.to_queues q [])

-- On each lane what was taken, and then what waits, is what was put; and all that a client puts in the end it may put.
pub record RunsLawfully (setting : Setting) (s : Stage) : Type 0 where
  pub total : ℕ → List QueuePut
  pub allowed : (c : ℕ) → c < clients_of setting.shape → ArePutsLawful setting.shape.bounds (total c)
  pub running : Running setting total s

-- so it is whatever the clocks will tell later, and groups were told all that was done
pub record IsLawfulRun (s : Scene) : Type 0 where
  pub client_count : length s.clients ≡ clients_of s.shape
  pub sender_count : length s.senders ≡ publishers_of s.shape
  pub heard : AreTold s
  pub runs : (moments : List (List ℕ)) → AreMoments moments s.clients → RunsLawfully (setting_in s) (stage_in moments s)

-- A law: in such a run what waits first for each queue may come.
abbrev pub LawfulRunsServe : Type 0
LawfulRunsServe = (s : Scene) (q : ℕ) → IsLawfulRun s → q < length s.servers → comes_first q (world_in s) ≡ true
