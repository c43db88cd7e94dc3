-- inner: What an actor put and what is not on its lane yet, and the scene where all of it lies on its lane.
use Rattle.std.specs.Prelude.{ℕ, Bool, true, false, zero, suc, List, [], ◌∷◌, ◌++◌, map, Option, Some, None}
use Rattle.mama_event.specs.declared.to_bridge.BridgeNote.{BridgeNote}
use Rattle.mama_event.specs.declared.to_publisher.PublisherNote.{PublisherNote}
use Rattle.mama_event.specs.declared.to_queue.QueueNote.{QueueNote}
use Rattle.mama_event.specs.Ports.{timers_port_of_bridge, queue_port_of_bridge, queue_port_of_timers}
use Rattle.mama_event.specs.ToBridge.{note_of}
use Rattle.mama_rules_services.specs.Bridge.{BridgePut, to_publisher, to_queue}
use Rattle.mama_rules_services.specs.Bridge as bridge
use Rattle.mama_rules_queue.specs.Queue.{QueuePut}
use Rattle.mama_rules_queue.specs.Queue as queue
use Rattle.mama_bridge.specs.Outs.{put_note}
use Rattle.mama_timer.specs.Out.{out_note}
use Rattle.mama_plans.specs.Put.{own_tag, notes_of}
use Rattle.mama_event.specs.declared.ids.ObjectId.{ObjectId}
use Rattle.mama_event.specs.declared.to_bridge.ToBridge.{ToBridge}
use Rattle.mama_seats.specs.Server.{Server, all_told}
use Rattle.mama_seats.specs.Sender.{Sender}
use Rattle.mama_seats.specs.Waiting.{waits}
use Rattle.mama_drive.specs.Scene.{Scene}
use Rattle.mama_drive.specs.declared.held.Held.{Held}
use Rattle.mama_drive.specs.declared.held.Held.TheVariants as held

-- the element of a number changed, where there is one
abbrev pub changed_at : {A : Type 0} → (A → A) → ℕ → List A → List A
changed_at change n [] = []
changed_at change zero (x ∷ xs) = change x ∷ xs
changed_at change (suc n) (x ∷ xs) = x ∷ changed_at change n xs

-- an event at the end of the lane of a publisher, and of a queue
abbrev pub with_note : PublisherNote → Sender → Sender
with_note note s = record s { lane = s.lane ++ note ∷ [] }

abbrev pub with_event : ℕ × QueueNote → Server → Server
with_event e s = record s { lane = s.lane ++ e ∷ [] }

-- one of the bridge's events on its lane
abbrev pub lay_put : BridgePut → Scene → Scene
lay_put (to_publisher p note) s = record s { senders = changed_at (with_note note) p s.senders }
lay_put (to_queue q note) s = record s { servers = changed_at (with_event (queue_port_of_bridge, note)) q s.servers }
lay_put (bridge.to_timers note) s = record s { to_timers = s.to_timers ++ (timers_port_of_bridge s.shape, note) ∷ [] }

-- one of the timer service's events on its lane
abbrev pub lay_tick : ℕ × QueueNote → Scene → Scene
lay_tick e s = record s { servers = changed_at (with_event (queue_port_of_timers, e.1)) e.0 s.servers }

-- an event of a port on the bridge's lane
abbrev pub lay_event : ℕ → BridgeNote → Scene → Scene
lay_event port note s = record s { to_bridge = s.to_bridge ++ (port, note) ∷ [] }

-- one of a client's or a queue's events on the lane of the bridge or of the timer service, by its ports
abbrev pub lay_out : ℕ → ℕ → QueuePut → Scene → Scene
lay_out bridge_port timers_port (queue.to_bridge note) s = record s { to_bridge = s.to_bridge ++ (bridge_port, note) ∷ [] }
lay_out bridge_port timers_port (queue.to_timers note) s = record s { to_timers = s.to_timers ++ (timers_port, note) ∷ [] }

-- the wish of a watch, if there is one, on the bridge's lane
abbrev pub lay_wish : ℕ → Option (ToBridge ObjectId) → Scene → Scene
lay_wish port None s = s
lay_wish port (Some event) s = lay_event port (note_of own_tag event) s

-- the groups of a queue were told all that it did
abbrev pub lay_told : ℕ → Scene → Scene
lay_told queue s = record s { servers = changed_at all_told queue s.servers }

-- the same, if they are still to be told
abbrev pub lay_untold : Bool → ℕ → Scene → Scene
lay_untold true queue s = lay_told queue s
lay_untold false queue s = s

-- events on their lanes one after another
abbrev pub lay_all : {V : Type 0} → (V → Scene → Scene) → List V → Scene → Scene
lay_all lay [] s = s
lay_all lay (v ∷ vs) s = lay_all lay vs (lay v s)

-- the scene where what is held lies on its lanes
abbrev pub seen : Held → Scene → Scene
seen held.Nothing s = s
seen (held.Routed puts) s = lay_all lay_put (map (put_note own_tag) (waits puts)) s
seen (held.Ticked ticks) s = lay_all lay_tick (map (out_note own_tag) (waits ticks)) s
seen (held.Sent port events) s = lay_all (lay_event port) (map (note_of own_tag) (waits events)) s
seen (held.Served queue bridge_port timers_port outs wish untold) s = lay_untold untold queue (lay_wish bridge_port wish (lay_all (lay_out bridge_port timers_port) (notes_of (waits outs)) s))
seen (held.Given bridge_port timers_port outs) s = lay_all (lay_out bridge_port timers_port) (notes_of (waits outs)) s
