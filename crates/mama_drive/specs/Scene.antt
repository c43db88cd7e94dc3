-- inner: The system on one thread, as its seats and lanes, and the stage of the run that it is.
use Rattle.std.specs.Prelude.{◌≡◌, ℕ, ◌-◌, ◌^◌, ◌<◌, ◌≤◌, nat_le, Bool, true, false, ◌||◌, List, [], ◌∷◌, ◌++◌, map, length, slice_index_or, slice_set}
use Rattle.std.specs.List.{flat_map, list_all}
use Rattle.std.specs.BTreeSet.{BTreeSet}
use Rattle.mama_journal.specs.Lane.{from_port, by_port}
use Rattle.mama_event.specs.declared.shape.Shape.{Shape}
use Rattle.mama_event.specs.declared.to_bridge.BridgeNote.{BridgeNote}
use Rattle.mama_event.specs.declared.to_timers.TimersNote.{TimersNote}
use Rattle.mama_event.specs.declared.to_queue.QueueNote.{QueueNote}
use Rattle.mama_event.specs.declared.publisher_entry.PublisherEntry.{PublisherEntry}
use Rattle.mama_event.specs.declared.to_publisher.PublisherNote.{PublisherNote}
use Rattle.mama_event.specs.Publisher.{PublisherScript}
use Rattle.mama_event.specs.declared.group.GroupRow.{GroupRow}
use Rattle.mama_event.specs.declared.watch.WatchRow.{WatchRow}
use Rattle.mama_plans.specs.Lists.{groups_on_each, watches_on_each}
use Rattle.mama_event.specs.Ports.{clients_of, publishers_of, queues_of, bridge_ports, timers_port_of_bridge, queue_port_of_bridge, queue_port_of_timers}
use Rattle.mama_rules_services.specs.Bridge.{BridgePut, to_publisher, to_queue}
use Rattle.mama_rules_services.specs.Bridge as bridge
use Rattle.mama_rules_queue.specs.Queue.{QueuePut}
use Rattle.mama_rules_rounds.specs.Client.{Planned}
use Rattle.mama_rules_rounds.specs.Setting.{Setting, Grouped, Watched, publisher_part, queue_part, timer_part}
use Rattle.mama_rules_rounds.specs.World.{World, extended, is_empty, passes, IsQuiet}
use Rattle.mama_rules_rounds.specs.Stage.{Stage, IsStageDrained, AreSteps, AreRounds}
use Rattle.mama_seats.specs.Sender.{Sender, steps_in}
use Rattle.mama_seats.specs.Stand.{Stand, client_left, reading, Ends, BeginsWith}
use Rattle.mama_seats.specs.Server.{Server}
use Rattle.mama_drive.specs.Marks.{AreMarked}

pub record Scene : Type 0 where
  pub shape : Shape
  pub objects : List Planned
  pub groups : List Grouped
  pub watches : List Watched
  pub clients : List Stand
  pub senders : List Sender
  pub servers : List Server
  pub bridge : List (ℕ × BridgeNote)
  pub timers : List (ℕ × TimersNote)
  pub to_bridge : List (ℕ × BridgeNote)
  pub to_timers : List (ℕ × TimersNote)
  -- the mark that the groups surely were told all that was done, so that a record can be made
  pub ready : Bool

abbrev pub objects_in : Server → List Planned
objects_in s = s.objects

abbrev pub groups_in : Server → List (ℕ × GroupRow)
groups_in s = s.groups

abbrev pub watches_in : Server → List (ℕ × WatchRow)
watches_in s = s.watches

abbrev pub script_in : Sender → PublisherScript
script_in s = s.script

abbrev pub entries_in : Sender → List PublisherEntry
entries_in s = s.journal

abbrev pub lane_in : Sender → List PublisherNote
lane_in s = s.lane

abbrev pub journal_in : Server → List (ℕ × QueueNote)
journal_in s = s.journal

abbrev pub heard_in : Server → List (ℕ × QueueNote)
heard_in s = s.heard

abbrev pub waiting_in : Server → List (ℕ × QueueNote)
waiting_in s = s.lane

-- what does not change in it
abbrev pub setting_in : Scene → Setting
setting_in s = record { shape = s.shape; publishers = map script_in s.senders; objects = s.objects; groups = s.groups; watches = s.watches }

-- its journals and lanes
abbrev pub world_in : Scene → World
world_in s = record {
  publishers = map entries_in s.senders;
  bridge = s.bridge;
  timers = s.timers;
  queues = map journal_in s.servers;
  to_bridge = s.to_bridge;
  to_timers = s.to_timers;
  to_publishers = map lane_in s.senders;
  to_queues = map waiting_in s.servers;
}

-- the steps that the clients have still to make, where these are all the moments that their clocks will have told
abbrev pub lefts : List (List ℕ) → List Stand → List (List (List QueuePut))
lefts [] clients = []
lefts (m ∷ ms) [] = []
lefts (m ∷ ms) (c ∷ cs) = client_left m c ∷ lefts ms cs

abbrev pub stage_in : List (List ℕ) → Scene → Stage
stage_in moments s = record { clients = lefts moments s.clients; publishers = map steps_in s.senders; world = world_in s }

-- each client's moments begin with those that it has read
abbrev pub AreMoments : List (List ℕ) → List Stand → Type 0
AreMoments [] [] = Unit {0}
AreMoments [] (c ∷ cs) = ⊥
AreMoments (m ∷ ms) [] = ⊥
AreMoments (m ∷ ms) (c ∷ cs) = BeginsWith c.read m × AreMoments ms cs

-- What a system keeps: the ports have numbers, its actors are those of the shape, its queues know the plans of the same objects and have its groups and watches, and
-- nothing waits for a publisher, or for a queue, that has no mark; and where it has the mark, the groups were told all.
pub record IsSystem (shape bridge_shape timers_shape : Shape) (objects : List Planned) (groups : List Grouped) (watches : List Watched) (clients : List Stand) (senders : List Sender) (servers : List Server) (marked_publishers marked_queues : BTreeSet ℕ) (ready : Bool) : Type 0 where
  pub ports : bridge_ports shape < 2 ^ 32
  pub same_bridge : bridge_shape ≡ shape
  pub same_timers : timers_shape ≡ shape
  pub client_count : length clients ≡ clients_of shape
  pub sender_count : length senders ≡ publishers_of shape
  pub server_count : length servers ≡ queues_of shape
  pub shared : map objects_in servers ≡ map (λ (s : Server). objects) servers
  pub grouped : map groups_in servers ≡ groups_on_each (queues_of shape) groups
  pub watched : map watches_in servers ≡ watches_on_each (queues_of shape) watches
  pub publishers_marked : AreMarked marked_publishers (map lane_in senders)
  pub queues_marked : AreMarked marked_queues (map waiting_in servers)
  pub told : ready ≡ true → map heard_in servers ≡ map journal_in servers

-- each client that is done has no lines left
abbrev pub AllEnd : List Stand → Type 0
AllEnd [] = Unit {0}
AllEnd (c ∷ cs) = Ends c × AllEnd cs

-- the groups of each queue were told all that it did
abbrev pub AreTold : Scene → Type 0
AreTold s = map heard_in s.servers ≡ map journal_in s.servers

-- Nothing but the world has changed, and it is now this one.
pub record Moves (old new : Scene) (world : World) : Type 0 where
  pub setting : setting_in new ≡ setting_in old
  pub clients : new.clients ≡ old.clients
  pub steps : map steps_in new.senders ≡ map steps_in old.senders
  pub sender_count : length new.senders ≡ length old.senders
  pub server_count : length new.servers ≡ length old.servers
  pub heard : AreTold old → AreTold new
  pub now : world_in new ≡ world

-- what the bridge put goes on the lanes
abbrev pub spread : Setting → List BridgePut → World → World
spread setting outs w = record w {
  to_timers = w.to_timers ++ from_port (timers_port_of_bridge setting.shape) (flat_map timer_part outs);
  to_publishers = extended (λ p. flat_map (publisher_part p) outs) 0 w.to_publishers;
  to_queues = extended (λ q. from_port queue_port_of_bridge (flat_map (queue_part q) outs)) 0 w.to_queues;
}

-- what the timer service put goes on the lanes
abbrev pub spread_ticks : List (ℕ × QueueNote) → World → World
spread_ticks outs w = record w { to_queues = extended (λ q. from_port queue_port_of_timers (by_port q outs)) 0 w.to_queues }

-- an event goes at the end of the lane of its number, if there is one
abbrev pub put_on : {V : Type 0} → ℕ → V → List (List V) → List (List V)
put_on n v lanes = slice_set lanes n (slice_index_or lanes n [] ++ v ∷ [])

abbrev pub spread_one : Setting → BridgePut → World → World
spread_one setting (to_publisher p note) w = record w { to_publishers = put_on p note w.to_publishers }
spread_one setting (to_queue q note) w = record w { to_queues = put_on q (queue_port_of_bridge, note) w.to_queues }
spread_one setting (bridge.to_timers note) w = record w { to_timers = w.to_timers ++ (timers_port_of_bridge setting.shape, note) ∷ [] }

abbrev pub tick_one : ℕ × QueueNote → World → World
tick_one e w = record w { to_queues = put_on e.0 (queue_port_of_timers, e.1) w.to_queues }

-- Whatever the clocks will tell later, the stage stands so to what it was.
pub record Advances (R : Setting → Stage → Stage → Type 0) (old new : Scene) : Type 0 where
  pub setting : setting_in new ≡ setting_in old
  pub client_count : length new.clients ≡ length old.clients
  pub sender_count : length new.senders ≡ length old.senders
  pub moments : (moments : List (List ℕ)) → AreMoments moments new.clients → AreMoments moments old.clients
  pub stages : (moments : List (List ℕ)) → AreMoments moments new.clients → R (setting_in old) (stage_in moments old) (stage_in moments new)
  pub told : map reading new.clients ≡ map reading old.clients
  pub ends : AllEnd old.clients → AllEnd new.clients
  pub heard : AreTold old → AreTold new

-- a step was made
abbrev pub Stepped : (Setting → ℕ → Stage → Stage) → ℕ → Setting → Stage → Stage → Type 0
Stepped step n setting s after = after ≡ step setting n s

-- a step was made, and everything was drained
abbrev pub SteppedOut : (Setting → ℕ → Stage → Stage) → ℕ → Setting → Stage → Stage → Type 0
SteppedOut step n setting s after = IsStageDrained setting (step setting n s) after

-- the actors of a kind that are numbered below n made a step each, and everything was drained after each
abbrev pub SteppedAll : (Setting → ℕ → Stage → Stage) → ℕ → Setting → Stage → Stage → Type 0
SteppedAll step n setting s after = AreSteps setting (step setting) n s after

-- so many rounds were made
abbrev pub Rounds : ℕ → Setting → Stage → Stage → Type 0
Rounds n setting s after = AreRounds setting n s after

-- some number of rounds were made
pub record Plays (old new : Scene) : Type 0 where
  pub count : ℕ
  pub rounds : Advances (Rounds count) old new

-- some number of passes were made
pub record Passes (old new : Scene) : Type 0 where
  pub count : ℕ
  pub moves : Moves old new (passes (setting_in old) count (world_in old))

-- everything was drained
pub record Drains (old new : Scene) : Type 0 where
  pub passes : Passes old new
  pub quiet : IsQuiet (world_in new)

-- a seat that passes over so many steps of its pause
abbrev pub rested_stand : ℕ → Stand → Stand
rested_stand k c = record c { pause = c.pause - k }

abbrev pub rested_sender : ℕ → Sender → Sender
rested_sender k p = record p { pause = p.pause - k }

-- nothing waits, and a pause of each client and each publisher that is not done covers so many steps
pub record CanRest (k : ℕ) (s : Scene) : Type 0 where
  pub quiet : IsQuiet (world_in s)
  pub clients : list_all (λ (c : Stand). c.over || nat_le k c.pause) s.clients ≡ true
  pub publishers : list_all (λ (p : Sender). p.over || nat_le k p.pause) s.senders ≡ true

-- From a number on the publishers before another are passed over: where there are any, nothing waits, and none of them has a
-- step left.
pub record ArePassed (from next : ℕ) (s : Scene) : Type 0 where
  pub above : from ≤ next
  pub within : next ≤ publishers_of s.shape
  pub quiet : from < next → IsQuiet (world_in s)
  pub over : (n : ℕ) → n < next → from ≤ n → slice_index_or (map steps_in s.senders) n [] ≡ []

-- each passes over so many steps
abbrev pub rested : ℕ → Scene → Scene
rested k s = record s { clients = map (rested_stand k) s.clients; senders = map (rested_sender k) s.senders }

-- every client and every publisher has made all its steps
pub record IsPlayed (s : Scene) : Type 0 where
  pub clients : list_all (λ (c : Stand). c.over) s.clients ≡ true
  pub publishers : list_all (λ (p : Sender). p.over) s.senders ≡ true
