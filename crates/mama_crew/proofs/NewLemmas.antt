-- New seats, by their ends.
use Rattle.std.specs.List.{slice_get, All, AllByRecursion}
use Rattle.std.proofs.Common.{◌≡◌, ℕ, zero, suc, false, ◌+◌, ◌^◌, ◌<◌, ◌≤◌, List, [], ◌∷◌, ◌++◌, length, map, Some, refl, sym, ◌∙◌, ap, subst, arith}
use Rattle.mama_event.specs.declared.shape.Shape.{Shape}
use Rattle.mama_event.specs.declared.to_bridge.BridgeNote.{BridgeNote}
use Rattle.mama_event.specs.declared.to_publisher.PublisherNote.{PublisherNote}
use Rattle.mama_event.specs.declared.to_queue.QueueNote.{QueueNote}
use Rattle.mama_event.specs.declared.to_timers.TimersNote.{TimersNote}
use Rattle.mama_event.specs.Ports.{publishers_of, queues_of, bridge_ports, timers_port_of_bridge, queue_port_of_bridge, queue_port_of_timers, bridge_port_of_publisher, bridge_port_of_queue, timers_port_of_queue}
use Rattle.mama_script.specs.declared.publisher.PublisherPart.{PublisherPart}
use Rattle.mama_script.specs.Script.{ScriptData}
use Rattle.mama_script.specs.Tree.{IsScript, topic_of_part}
use Rattle.mama_script.specs.Within.{IsPublisherWithin, IsWithin}
use Rattle.mama_seats.specs.Stand.{Walk}
use Rattle.mama_dispatch.specs.Served.{Served}
use Rattle.mama_lane.specs.Values.{LaneValue, PortValue, TakerValue, new_port, new_taker}
use Rattle.mama_ends.specs.Inlet.{InletValue}
use Rattle.mama_hall.specs.Ends.{IsLaneOf}
use Rattle.mama_posts_services.specs.Ports.{lanes_of, IsPutting}
use Rattle.mama_posts_clients.specs.Outlets.{OutletsValue}
use Rattle.mama_posts_clients.specs.Client.{ClientPostValue, walk_at_first}
use Rattle.mama_posts_services.specs.Publisher.{PublisherPostValue, IsPublisherOf}
use Rattle.mama_posts_services.specs.Service.{IsNewTaker}
use Rattle.mama_posts_services.specs.Bridge.{BridgePostValue, IsBridgeOf}
use Rattle.mama_posts_services.specs.Timers.{TimersPostValue, IsTimersOf}
use Rattle.std.specs.List.{All, AllByRecursion}
use Rattle.std.proofs.lemmas.List.Elements.{All-from_recursion}
use Rattle.mama_event.specs.declared.watch.WatchRow.{WatchRow}
use Rattle.mama_rules_rounds.specs.Sections.{setting_of}
use Rattle.mama_plans.specs.Lists.{watches_on}
use Rattle.mama_timeout.specs.Table.{WatchData, new_watch}
use Rattle.mama_posts_clients.specs.Queue.{QueuePostValue, rows_of_watches, IsQueueOf}
use Rattle.mama_crew.specs.Hall.{HallValue, IsPortAt, IsLaneAt}
use Rattle.mama_crew.specs.Seat.{IsPublisherIn, IsBridgeIn, IsTimersIn, IsQueueIn, HasNotWalked}
use Rattle.mama_crew.specs.New.{HasTakenNothing, HasNotSent, HasNotBridged, HasNotFired, HasNotDispatched}
use Rattle.mama_crew.proofs.SeatLemmas.{only_one}
use Rattle.mama_crew.proofs.OpeningLemmas.{taker_at, id_at, ports_of_lanes, put_nothing_as}

-- ---- what a script counts

count_topics : (parts : List PublisherPart) → length (map topic_of_part parts) ≡ length parts
count_topics [] = refl
count_topics (part ∷ parts) = ap suc (count_topics parts)

pub publishers_count : (s : ScriptData) → IsScript s → publishers_of s.shape ≡ length s.publishers
publishers_count s is = ap length is.shaped.publishers ∙ count_topics s.publishers

-- the ports of the lanes of both services are few
pub ports_few : (s : ScriptData) (own : Shape) → IsScript s → IsWithin s → own ≡ s.shape → (bridge_ports own < 2 ^ 32) × (timers_port_of_bridge own + 1 < 2 ^ 32)
ports_few s own is within same =
    let publishers = publishers_count s is in
    let clients = is.shaped.clients in
    let few = within.publishers_few in
    subst (λ (shape : Shape). (bridge_ports shape < 2 ^ 32) × (timers_port_of_bridge shape + 1 < 2 ^ 32)) (sym same)
    (omega (arith, within.clients_few, within.queues_few, within.publishers_few), omega (arith, within.clients_few, within.queues_few))

-- a base is small
pub base_small : (topics : ℕ) (parts : List PublisherPart) (k : ℕ) (part : PublisherPart) → AllByRecursion (IsPublisherWithin topics) parts → slice_get parts k ≡ Some part → length part.base ≤ 64
base_small topics [] k part all at = absurd (cc at)
base_small topics (p ∷ ps) zero part all at = let is : p ≡ part = cc in subst (λ (q : PublisherPart). length q.base ≤ 64) is all.0.base
base_small topics (p ∷ ps) (suc k) part all at = base_small topics ps k part all.1 at

-- ---- the ends

pub port_in : {N : Type 0} (lane : LaneValue) (number : ℕ) (port own : PortValue N) → own ≡ port → port ≡ new_port lane number → IsPortAt lane number own
port_in {N} lane number port own is new = record {
  lane_is = ap (λ (p : PortValue N). p.lane) (is ∙ new);
  number_is = ap (λ (p : PortValue N). p.number) (is ∙ new);
}

pub lane_in : {N : Type 0} (lanes : List LaneValue) (k : ℕ) (taker own : TakerValue N) → own ≡ taker → slice_get (map new_taker lanes) k ≡ Some taker → IsLaneAt lanes k own.lane
lane_in {N} lanes k taker own is at =
    let there = taker_at lanes k taker at in
    id_at lanes k there.0 there.1 ∙ ap (λ (t : TakerValue N). Some t.lane) (sym (is ∙ there.2))

pub new_taken : {N : Type 0} (lane : LaneValue) (taker : TakerValue N) (inlet : InletValue N) → inlet ≡ record { taker = taker; kept = [] } → taker ≡ new_taker lane → HasTakenNothing inlet
new_taken {N} lane taker inlet is new =
    let own : inlet.taker ≡ new_taker lane = ap (λ (i : InletValue N). i.taker) is ∙ new in
    record {
      taken = ap (λ (t : TakerValue N). t.taken) own;
      learnt = ap (λ (t : TakerValue N). t.learnt) own;
      kept = ap (λ (i : InletValue N). i.kept) is;
    }

pub new_taken_at : {N : Type 0} (lanes : List LaneValue) (k : ℕ) (taker : TakerValue N) (inlet : InletValue N) → inlet ≡ record { taker = taker; kept = [] } → slice_get (map new_taker lanes) k ≡ Some taker → HasTakenNothing inlet
new_taken_at lanes k taker inlet is at = let there = taker_at lanes k taker at in new_taken there.0 taker inlet is there.2

pub is_new_taker : {N : Type 0} (shape : Shape) (ports : ℕ) (lane : LaneValue) (taker : TakerValue N) → IsLaneOf shape.bounds ports lane → taker ≡ new_taker lane → IsNewTaker shape.bounds ports taker
is_new_taker {N} shape ports lane taker is new = record {
  taken = ap (λ (t : TakerValue N). t.taken) new;
  ports_are = ap (λ (t : TakerValue N). t.ports) new ∙ is.ports_are;
  bounds_are = ap (λ (t : TakerValue N). t.bounds) new ∙ is.bounds_are;
}

-- the bridge's port on the timer service's lane
pub timers_putting : (own shape : Shape) (lane : LaneValue) (ports : ℕ) (port : PortValue TimersNote) → own ≡ shape → IsLaneOf own.bounds ports lane → port ≡ new_port lane (timers_port_of_bridge shape)
    → IsPutting own.bounds (timers_port_of_bridge own) [] [] port
timers_putting own shape lane ports port same is new = record {
  bounds_are = ap (λ (p : PortValue TimersNote). p.bounds) new ∙ is.bounds_are;
  number_is = ap (λ (p : PortValue TimersNote). p.number) new ∙ ap timers_port_of_bridge (sym same);
  put = ap (λ (p : PortValue TimersNote). p.put ++ []) new;
}

-- ---- the seats

pub client_unused : (number queues : ℕ) (post : ClientPostValue) (to_bridge : PortValue BridgeNote) (to_timers : PortValue TimersNote) → post.walk ≡ walk_at_first number queues → post.left ≡ []
    → post.ports ≡ record { to_bridge = to_bridge; to_timers = to_timers } → to_bridge.put ≡ [] → to_timers.put ≡ [] → HasNotWalked post
client_unused number queues post to_bridge to_timers walk left ports bridge timers = record {
  line = ap (λ (w : Walk). w.line) walk;
  read = ap (λ (w : Walk). w.read) walk;
  left = left;
  on_bridge = ap (λ (o : OutletsValue). o.to_bridge.put) ports ∙ bridge;
  on_timers = ap (λ (o : OutletsValue). o.to_timers.put) ports ∙ timers;
}

abbrev publisher_at_first : ℕ → PublisherPart → TakerValue PublisherNote → PortValue BridgeNote → PublisherPostValue
publisher_at_first p part taker port = record { progress = record { publisher = record { number = p; held = part.base; seq = 0 }; journal = []; line = 0; pause = 0; over = false }; inlet = record { taker = taker; kept = [] }; port = port; left = [] }

pub publisher_in : (script : ScriptData) (hall : HallValue) (p : ℕ) (part : PublisherPart) (post : PublisherPostValue) (taker : TakerValue PublisherNote) (port : PortValue BridgeNote) → p < length script.publishers
    → slice_get script.publishers p ≡ Some part → IsPublisherOf part p post → post ≡ publisher_at_first p part taker port → slice_get (map new_taker hall.to_publishers) p ≡ Some taker
    → port ≡ new_port hall.to_bridge (bridge_port_of_publisher script.shape p) → IsPublisherIn script hall p post
publisher_in script hall p part post taker port there at keeps is takes puts = record {
  there = there;
  keeps = λ other is_other. subst (λ (s : PublisherPart). IsPublisherOf s p post) (only_one script.publishers p part other at is_other) keeps;
  lane = lane_in hall.to_publishers p taker post.inlet.taker (ap (λ (v : PublisherPostValue). v.inlet.taker) is) takes;
  on_bridge = port_in hall.to_bridge (bridge_port_of_publisher script.shape p) port post.port (ap (λ (v : PublisherPostValue). v.port) is) puts;
}

pub publisher_unused : (lanes : List LaneValue) (lane : LaneValue) (number p : ℕ) (part : PublisherPart) (post : PublisherPostValue) (taker : TakerValue PublisherNote) (port : PortValue BridgeNote)
    → post ≡ publisher_at_first p part taker port → slice_get (map new_taker lanes) p ≡ Some taker → port ≡ new_port lane number → HasNotSent post
publisher_unused lanes lane number p part post taker port is takes puts = record {
  journal = ap (λ (v : PublisherPostValue). v.progress.journal) is;
  line = ap (λ (v : PublisherPostValue). v.progress.line) is;
  pause = ap (λ (v : PublisherPostValue). v.progress.pause) is;
  over = ap (λ (v : PublisherPostValue). v.progress.over) is;
  inlet = new_taken_at lanes p taker post.inlet (ap (λ (v : PublisherPostValue). v.inlet) is) takes;
  left = ap (λ (v : PublisherPostValue). v.left) is;
  put = ap (λ (v : PublisherPostValue). v.port.put) is ∙ ap (λ (q : PortValue BridgeNote). q.put) puts;
}

abbrev bridge_at_first : Shape → TakerValue BridgeNote → List (PortValue PublisherNote) → List (PortValue QueueNote) → PortValue TimersNote → BridgePostValue
bridge_at_first shape taker publishers queues timers =
    record { service = record { shape = shape; journal = []; inlet = record { taker = taker; kept = [] }; left = [] }; ports = record { publishers = publishers; queues = queues; timers = timers } }

pub bridge_in : (script : ScriptData) (hall : HallValue) (shape : Shape) (post : BridgePostValue) (taker : TakerValue BridgeNote) (publishers : List (PortValue PublisherNote)) (queues : List (PortValue QueueNote))
    (timers : PortValue TimersNote) → shape ≡ script.shape → IsBridgeOf shape post → post ≡ bridge_at_first shape taker publishers queues timers → taker ≡ new_taker hall.to_bridge
    → publishers ≡ map (λ lane. new_port lane 0) hall.to_publishers → queues ≡ map (λ lane. new_port lane queue_port_of_bridge) hall.to_queues
    → timers ≡ new_port hall.to_timers (timers_port_of_bridge script.shape) → IsBridgeIn script hall post
bridge_in script hall shape post taker publishers queues timers same keeps is takes to_publishers to_queues to_timers = record {
  keeps = subst (λ (s : Shape). IsBridgeOf s post) same keeps;
  lane = ap (λ (v : BridgePostValue). v.service.inlet.taker.lane) is ∙ ap (λ (t : TakerValue BridgeNote). t.lane) takes;
  publishers = ap (λ (v : BridgePostValue). lanes_of v.ports.publishers) is ∙ ap lanes_of to_publishers ∙ ports_of_lanes PublisherNote 0 hall.to_publishers;
  queues = ap (λ (v : BridgePostValue). lanes_of v.ports.queues) is ∙ ap lanes_of to_queues ∙ ports_of_lanes QueueNote queue_port_of_bridge hall.to_queues;
  timers = ap (λ (v : BridgePostValue). v.ports.timers.lane) is ∙ ap (λ (q : PortValue TimersNote). q.lane) to_timers;
}

pub bridge_unused : (hall : HallValue) (number : ℕ) (shape : Shape) (post : BridgePostValue) (taker : TakerValue BridgeNote) (publishers : List (PortValue PublisherNote)) (queues : List (PortValue QueueNote))
    (timers : PortValue TimersNote) → post ≡ bridge_at_first shape taker publishers queues timers → taker ≡ new_taker hall.to_bridge → publishers ≡ map (λ lane. new_port lane 0) hall.to_publishers
    → queues ≡ map (λ lane. new_port lane queue_port_of_bridge) hall.to_queues → timers ≡ new_port hall.to_timers number → HasNotBridged post
bridge_unused hall number shape post taker publishers queues timers is takes to_publishers to_queues to_timers = record {
  service = record {
    journal = ap (λ (v : BridgePostValue). v.service.journal) is;
    inlet = new_taken hall.to_bridge taker post.service.inlet (ap (λ (v : BridgePostValue). v.service.inlet) is) takes;
    left = ap (λ (v : BridgePostValue). v.service.left) is;
  };
  publishers = put_nothing_as 0 hall.to_publishers post.ports.publishers (ap (λ (v : BridgePostValue). v.ports.publishers) is ∙ to_publishers);
  queues = put_nothing_as queue_port_of_bridge hall.to_queues post.ports.queues (ap (λ (v : BridgePostValue). v.ports.queues) is ∙ to_queues);
  timers = ap (λ (v : BridgePostValue). v.ports.timers.put) is ∙ ap (λ (q : PortValue TimersNote). q.put) to_timers;
}

abbrev timers_at_first : Shape → TakerValue TimersNote → List (PortValue QueueNote) → TimersPostValue
timers_at_first shape taker queues = record { service = record { shape = shape; journal = []; inlet = record { taker = taker; kept = [] }; left = [] }; queues = queues }

pub timers_in : (script : ScriptData) (hall : HallValue) (shape : Shape) (post : TimersPostValue) (taker : TakerValue TimersNote) (queues : List (PortValue QueueNote)) → shape ≡ script.shape → IsTimersOf shape post
    → post ≡ timers_at_first shape taker queues → taker ≡ new_taker hall.to_timers → queues ≡ map (λ lane. new_port lane queue_port_of_timers) hall.to_queues → IsTimersIn script hall post
timers_in script hall shape post taker queues same keeps is takes to_queues = record {
  keeps = subst (λ (s : Shape). IsTimersOf s post) same keeps;
  lane = ap (λ (v : TimersPostValue). v.service.inlet.taker.lane) is ∙ ap (λ (t : TakerValue TimersNote). t.lane) takes;
  queues = ap (λ (v : TimersPostValue). lanes_of v.queues) is ∙ ap lanes_of to_queues ∙ ports_of_lanes QueueNote queue_port_of_timers hall.to_queues;
}

pub timers_unused : (hall : HallValue) (shape : Shape) (post : TimersPostValue) (taker : TakerValue TimersNote) (queues : List (PortValue QueueNote)) → post ≡ timers_at_first shape taker queues
    → taker ≡ new_taker hall.to_timers → queues ≡ map (λ lane. new_port lane queue_port_of_timers) hall.to_queues → HasNotFired post
timers_unused hall shape post taker queues is takes to_queues = record {
  service = record {
    journal = ap (λ (v : TimersPostValue). v.service.journal) is;
    inlet = new_taken hall.to_timers taker post.service.inlet (ap (λ (v : TimersPostValue). v.service.inlet) is) takes;
    left = ap (λ (v : TimersPostValue). v.service.left) is;
  };
  queues = put_nothing_as queue_port_of_timers hall.to_queues post.queues (ap (λ (v : TimersPostValue). v.queues) is ∙ to_queues);
}

pub queue_in : (script : ScriptData) (hall : HallValue) (q : ℕ) (post : QueuePostValue) (taker : TakerValue QueueNote) (to_bridge : PortValue BridgeNote) (to_timers : PortValue TimersNote) → q < queues_of script.shape
    → IsQueueOf hall.objects q post → post.inlet ≡ record { taker = taker; kept = [] } → post.ports ≡ record { to_bridge = to_bridge; to_timers = to_timers } → slice_get (map new_taker hall.to_queues) q ≡ Some taker
    → to_bridge ≡ new_port hall.to_bridge (bridge_port_of_queue script.shape q) → to_timers ≡ new_port hall.to_timers (timers_port_of_queue script.shape q)
    → rows_of_watches post.watches ≡ watches_on (setting_of script).watches q → IsQueueIn script hall q post
queue_in script hall q post taker to_bridge to_timers there keeps inlet ports takes bridge timers watches = record {
  there = there;
  keeps = keeps;
  watches = watches;
  lane = lane_in hall.to_queues q taker post.inlet.taker (ap (λ (i : InletValue QueueNote). i.taker) inlet) takes;
  on_bridge = port_in hall.to_bridge (bridge_port_of_queue script.shape q) to_bridge post.ports.to_bridge (ap (λ (o : OutletsValue). o.to_bridge) ports) bridge;
  on_timers = port_in hall.to_timers (timers_port_of_queue script.shape q) to_timers post.ports.to_timers (ap (λ (o : OutletsValue). o.to_timers) ports) timers;
}

-- new watches have their rows, and noted nothing
pub new_rows : (rows : List (ℕ × WatchRow)) → rows_of_watches (map new_watch rows) ≡ rows
new_rows [] = refl
new_rows (w ∷ ws) = ap (λ (rs : List (ℕ × WatchRow)). w ∷ rs) (new_rows ws)

new_notes : (rows : List (ℕ × WatchRow)) → AllByRecursion (λ (w : WatchData). w.notes ≡ []) (map new_watch rows)
new_notes [] = tt
new_notes (w ∷ ws) = (refl, new_notes ws)

pub queue_unused : (lanes : List LaneValue) (q : ℕ) (rows : List (ℕ × WatchRow)) (post : QueuePostValue) (taker : TakerValue QueueNote) (to_bridge : PortValue BridgeNote) (to_timers : PortValue TimersNote)
    → post.served ≡ record { queue = q; journal = []; seats = [] } → post.watches ≡ map new_watch rows → post.left ≡ [] → post.back ≡ [] → post.inlet ≡ record { taker = taker; kept = [] }
    → post.ports ≡ record { to_bridge = to_bridge; to_timers = to_timers } → slice_get (map new_taker lanes) q ≡ Some taker → to_bridge.put ≡ [] → to_timers.put ≡ [] → HasNotDispatched post
queue_unused lanes q rows post taker to_bridge to_timers served watches left back inlet ports takes bridge timers = record {
  journal = ap (λ (s : Served). s.journal) served;
  seats = ap (λ (s : Served). s.seats) served;
  watches = let P : WatchData → Type 0 = λ w. w.notes ≡ [] in
      subst (All P) (sym watches) (All-from_recursion P (map new_watch rows) (new_notes rows));
  back = back;
  inlet = new_taken_at lanes q taker post.inlet inlet takes;
  left = left;
  on_bridge = ap (λ (o : OutletsValue). o.to_bridge.put) ports ∙ bridge;
  on_timers = ap (λ (o : OutletsValue). o.to_timers.put) ports ∙ timers;
}
