-- believed: the steps of clients and publishers, and the rounds that they make up.
use Rattle.std.specs.Prelude.{◌≡◌, ℕ, zero, suc, true, List, [], ◌∷◌, slice_index_or, slice_set}
use Rattle.std.specs.List.{list_all}
use Rattle.mama_event.specs.declared.publisher_entry.PublisherEntry.{PublisherEntry}
use Rattle.mama_event.specs.Ports.{clients_of, publishers_of, bridge_port_of_client, timers_port_of_client}
use Rattle.mama_rules_queue.specs.Queue.{QueuePut}
use Rattle.mama_rules_rounds.specs.Setting.{Setting}
use Rattle.mama_rules_rounds.specs.World.{World, with_puts, publisher_did, is_empty, IsDrained}

-- a run between two steps: the steps that each client and each publisher has still to make, and the world
pub record Stage : Type 0 where
  pub clients : List (List (List QueuePut))
  pub publishers : List (List (List PublisherEntry))
  pub world : World

-- a client makes its next step, if it has one: what the step puts goes on the lanes
abbrev pub client_stepped : Setting → ℕ → Stage → List (List QueuePut) → Stage
client_stepped setting c s [] = s
client_stepped setting c s (step ∷ rest) = record s {
  clients = slice_set s.clients c rest;
  world = with_puts (bridge_port_of_client setting.shape c) (timers_port_of_client setting.shape c) step s.world;
}

abbrev pub client_step : Setting → ℕ → Stage → Stage
client_step setting c s = client_stepped setting c s (slice_index_or s.clients c [])

-- a publisher makes its next step, if it has one: the entries of the step are done in order
abbrev pub entries_done : Setting → ℕ → World → List PublisherEntry → World
entries_done setting p w [] = w
entries_done setting p w (e ∷ es) = entries_done setting p (publisher_did setting p w e) es

abbrev pub publisher_stepped : Setting → ℕ → Stage → List (List PublisherEntry) → Stage
publisher_stepped setting p s [] = s
publisher_stepped setting p s (step ∷ rest) = record s {
  publishers = slice_set s.publishers p rest;
  world = entries_done setting p s.world step;
}

abbrev pub publisher_step : Setting → ℕ → Stage → Stage
publisher_step setting p s = publisher_stepped setting p s (slice_index_or s.publishers p [])

-- after a step everything is drained
pub record IsStageDrained (setting : Setting) (s after : Stage) : Type 0 where
  pub clients : after.clients ≡ s.clients
  pub publishers : after.publishers ≡ s.publishers
  pub world : IsDrained setting s.world after.world

-- the steps of the actors numbered below n, ascending, each followed by a drain
abbrev pub AreSteps : Setting → (ℕ → Stage → Stage) → ℕ → Stage → Stage → Type 0
AreSteps setting step zero s after = after ≡ s
AreSteps setting step (suc n) s after = (mid : Stage) × AreSteps setting step n s mid × IsStageDrained setting (step n mid) after

-- one round: each client makes a step, and then each publisher
pub record IsOneRound (setting : Setting) (s after : Stage) : Type 0 where
  pub mid : Stage
  pub clients : AreSteps setting (client_step setting) (clients_of setting.shape) s mid
  pub publishers : AreSteps setting (publisher_step setting) (publishers_of setting.shape) mid after

abbrev pub AreRounds : Setting → ℕ → Stage → Stage → Type 0
AreRounds setting zero s after = after ≡ s
AreRounds setting (suc n) s after = (mid : Stage) × AreRounds setting n s mid × IsOneRound setting mid after

-- every client and every publisher has made all its steps
pub record IsOver (s : Stage) : Type 0 where
  pub clients : list_all is_empty s.clients ≡ true
  pub publishers : list_all is_empty s.publishers ≡ true
