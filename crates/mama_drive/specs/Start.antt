-- inner: A system that has done nothing yet.
use Rattle.std.specs.Prelude.{◌≡◌, ℕ, suc, false, List, [], ◌∷◌, map}
use Rattle.mama_event.specs.Ports.{queues_of}
use Rattle.mama_script.specs.declared.client.ClientLine.{ClientLine}
use Rattle.mama_script.specs.declared.publisher.PublisherPart.{PublisherPart}
use Rattle.mama_script.specs.Script.{ScriptData}
use Rattle.mama_rules_rounds.specs.Client.{Planned, clock_lines}
use Rattle.mama_event.specs.declared.group.GroupRow.{GroupRow}
use Rattle.mama_event.specs.declared.watch.WatchRow.{WatchRow}
use Rattle.mama_rules_rounds.specs.Sections.{setting_of, groups_from, watches_from}
use Rattle.mama_rules_rounds.specs.Round.{start}
use Rattle.mama_plans.specs.Lists.{groups_on_each, watches_on_each}
use Rattle.mama_seats.specs.Server.{Server}
use Rattle.mama_seats.specs.Sender.{Sender, script_of}
use Rattle.mama_seats.specs.Stand.{Stand, reading}
use Rattle.mama_drive.specs.Scene.{Scene, setting_in, stage_in, AreMoments, AllEnd}

abbrev pub new_stand : ℕ → ℕ → List ClientLine → Stand
new_stand queues number lines = record { number = number; queues = queues; over = false; pause = 0; names = record { subs = 0; timers = 0; inboxes = 0; turns = 0 }; lines = lines; read = [] }

-- the seats of the clients, which are numbered in order
abbrev pub stands_from : ℕ → ℕ → List (List ClientLine) → List Stand
stands_from queues n [] = []
stands_from queues n (lines ∷ rest) = new_stand queues n lines ∷ stands_from queues (suc n) rest

abbrev pub new_sender : ℕ → PublisherPart → Sender
new_sender number part = record { script = script_of number part.base part.lines; journal = []; lane = []; over = false; pause = 0; lines = part.lines }

-- the seats of the publishers, which are numbered in order
abbrev pub senders_from : ℕ → List PublisherPart → List Sender
senders_from n [] = []
senders_from n (part ∷ rest) = new_sender n part ∷ senders_from (suc n) rest

abbrev pub new_server : List Planned → List (ℕ × GroupRow) → List (ℕ × WatchRow) → Server
new_server objects groups watches = record { objects = objects; groups = groups; watches = watches; journal = []; heard = []; lane = [] }

-- a queue for each list of groups and of watches
abbrev pub new_servers : List Planned → List (List (ℕ × GroupRow)) → List (List (ℕ × WatchRow)) → List Server
new_servers objects [] watches = []
new_servers objects (g ∷ gs) [] = []
new_servers objects (g ∷ gs) (w ∷ ws) = new_server objects g w ∷ new_servers objects gs ws

-- the actors of a script, with the plans of these objects
abbrev pub started : List Planned → ScriptData → Scene
started objects script = record {
  shape = script.shape;
  objects = objects;
  groups = groups_from objects 0 script.groups;
  watches = watches_from objects 0 script.watches;
  clients = stands_from (queues_of script.shape) 0 script.clients;
  senders = senders_from 0 script.publishers;
  servers = new_servers objects (groups_on_each (queues_of script.shape) (groups_from objects 0 script.groups)) (watches_on_each (queues_of script.shape) (watches_from objects 0 script.watches));
  bridge = [];
  timers = [];
  to_bridge = [];
  to_timers = [];
  ready = false;
}

-- a scene is the start of a script's run
pub record Starts (script : ScriptData) (s : Scene) : Type 0 where
  pub setting : setting_in s ≡ setting_of script
  pub stages : (moments : List (List ℕ)) → AreMoments moments s.clients → stage_in moments s ≡ start script moments
  pub told : map reading s.clients ≡ map clock_lines script.clients
  pub ends : AllEnd s.clients
