-- The ends of the lanes of a crew that was taken apart: to which lanes they belong, and what the closing of all lanes tells.
use Rattle.std.specs.List.{All, AllZip}
use Rattle.std.proofs.Common.{◌≡◌, List, [], ◌∷◌, length, map, sym, ◌∙◌, ap, subst}
use Rattle.std.proofs.lemmas.List.Elements.{All-nil, All-cons, All-head, All-weaker}
use Rattle.mama_journal.specs.Journal.{numbers_below}
use Rattle.mama_event.specs.declared.to_bridge.BridgeNote.{BridgeNote}
use Rattle.mama_event.specs.declared.to_timers.TimersNote.{TimersNote}
use Rattle.mama_event.specs.declared.to_publisher.PublisherNote.{PublisherNote}
use Rattle.mama_event.specs.declared.to_queue.QueueNote.{QueueNote}
use Rattle.mama_event.specs.Ports.{publishers_of, queues_of}
use Rattle.mama_event.specs.declared.listener.Listener as listeners
use Rattle.mama_event.specs.declared.stream.Tagged as tags
use Rattle.mama_event.specs.ToBridge as to_bridge
use Rattle.mama_event.specs.ToTimers as to_timers
use Rattle.mama_event.specs.ToPublisher as to_publisher
use Rattle.mama_event.specs.ToQueue as to_queue
use Rattle.mama_script.specs.Script.{ScriptData}
use Rattle.mama_rules_rounds.specs.Client.{Planned}
use Rattle.mama_plans.specs.Orders.{orders_in}
use Rattle.mama_dispatch.specs.Hearing.{ArePlanned}
use Rattle.mama_lane.specs.Values.{PortValue, TakerValue}
use Rattle.mama_posts_services.specs.Ports.{lanes_of, ids_of}
use Rattle.mama_posts_clients.specs.Queue.{IsQueueOf}
use Rattle.mama_crew.specs.Hall.{HallValue, IsLaneAt}
use Rattle.mama_crew.specs.Seat.{IsClientIn, IsPublisherIn, IsQueueIn}
use Rattle.mama_close.specs.Kinds.{Kinds, AreKindsOf}
use Rattle.mama_gather.specs.Edge.{IsEdgeOf}
use Rattle.mama_close.specs.Closed.{AreClosed}
use Rattle.mama_close.specs.Apart.{AreParts, BelongTo, AreEdgesOf}
use Rattle.mama_close.specs.declared.apart.Apart.{Apart}
use Rattle.mama_gather.proofs.Lists.{numbered_len}
use Rattle.mama_close.proofs.LaneSeats.{ports_lane, takers_lanes, edges_seen, pairs_seen}

module _ (script : ScriptData) (hall : HallValue) (kinds : Kinds) (crew : AreKindsOf script hall kinds) where
  pub clients_on_bridge : (ports : List (PortValue BridgeNote)) → ports ≡ map (λ s. s.1.post.ports.to_bridge) kinds.clients → All (λ (p : PortValue BridgeNote). p.lane ≡ hall.to_bridge.id) ports
  clients_on_bridge ports are = ports_lane (λ s. s.1.post.ports.to_bridge) (λ s. IsClientIn script hall s.0 s.1) hall.to_bridge.id kinds.clients ports are crew.clients (λ s sits. sits.on_bridge.lane_is)

  pub clients_on_timers : (ports : List (PortValue TimersNote)) → ports ≡ map (λ s. s.1.post.ports.to_timers) kinds.clients → All (λ (p : PortValue TimersNote). p.lane ≡ hall.to_timers.id) ports
  clients_on_timers ports are = ports_lane (λ s. s.1.post.ports.to_timers) (λ s. IsClientIn script hall s.0 s.1) hall.to_timers.id kinds.clients ports are crew.clients (λ s sits. sits.on_timers.lane_is)

  pub publishers_on_bridge : (ports : List (PortValue BridgeNote)) → ports ≡ map (λ s. s.1.port) kinds.publishers → All (λ (p : PortValue BridgeNote). p.lane ≡ hall.to_bridge.id) ports
  publishers_on_bridge ports are = ports_lane (λ s. s.1.port) (λ s. IsPublisherIn script hall s.0 s.1) hall.to_bridge.id kinds.publishers ports are crew.publishers (λ s sits. sits.on_bridge.lane_is)

  pub queues_on_bridge : (ports : List (PortValue BridgeNote)) → ports ≡ map (λ s. s.1.ports.to_bridge) kinds.queues → All (λ (p : PortValue BridgeNote). p.lane ≡ hall.to_bridge.id) ports
  queues_on_bridge ports are = ports_lane (λ s. s.1.ports.to_bridge) (λ s. IsQueueIn script hall s.0 s.1) hall.to_bridge.id kinds.queues ports are crew.queues (λ s sits. sits.on_bridge.lane_is)

  pub queues_on_timers : (ports : List (PortValue TimersNote)) → ports ≡ map (λ s. s.1.ports.to_timers) kinds.queues → All (λ (p : PortValue TimersNote). p.lane ≡ hall.to_timers.id) ports
  queues_on_timers ports are = ports_lane (λ s. s.1.ports.to_timers) (λ s. IsQueueIn script hall s.0 s.1) hall.to_timers.id kinds.queues ports are crew.queues (λ s sits. sits.on_timers.lane_is)

  pub bridge_on_timers : (ports : List (PortValue TimersNote)) → ports ≡ kinds.bridge.ports.timers ∷ [] → All (λ (p : PortValue TimersNote). p.lane ≡ hall.to_timers.id) ports
  bridge_on_timers ports are =
      let P = λ (p : PortValue TimersNote). p.lane ≡ hall.to_timers.id in
      subst (All P) (sym are) (All-cons P kinds.bridge.ports.timers [] crew.bridge.timers (All-nil P))

  pub bridge_taker : (taker : TakerValue BridgeNote) → taker ≡ kinds.bridge.service.inlet.taker → taker.lane ≡ hall.to_bridge.id
  bridge_taker taker is = ap (λ (t : TakerValue BridgeNote). t.lane) is ∙ crew.bridge.lane

  pub timers_taker : (taker : TakerValue TimersNote) → taker ≡ kinds.timers.service.inlet.taker → taker.lane ≡ hall.to_timers.id
  timers_taker taker is = ap (λ (t : TakerValue TimersNote). t.lane) is ∙ crew.timers.lane

  pub bridge_to_publishers : (ports : List (PortValue PublisherNote)) → ports ≡ kinds.bridge.ports.publishers → lanes_of ports ≡ ids_of hall.to_publishers
  bridge_to_publishers ports are = ap lanes_of are ∙ crew.bridge.publishers

  pub bridge_to_queues : (ports : List (PortValue QueueNote)) → ports ≡ kinds.bridge.ports.queues → lanes_of ports ≡ ids_of hall.to_queues
  bridge_to_queues ports are = ap lanes_of are ∙ crew.bridge.queues

  pub timers_to_queues : (ports : List (PortValue QueueNote)) → ports ≡ kinds.timers.queues → lanes_of ports ≡ ids_of hall.to_queues
  timers_to_queues ports are = ap lanes_of are ∙ crew.timers.queues

  pub publishers_takers : (takers : List (TakerValue PublisherNote)) → takers ≡ map (λ s. s.1.inlet.taker) kinds.publishers → map (λ (t : TakerValue PublisherNote). t.lane) takers ≡ ids_of hall.to_publishers
  publishers_takers takers are =
      takers_lanes (λ s. s.1.inlet.taker) (λ s. s.0) kinds.publishers (publishers_of script.shape) hall.to_publishers takers are crew.publisher_numbers crew.hall_is.lanes.publishers_count
      (All-weaker (λ s. IsPublisherIn script hall s.0 s.1) (λ s. IsLaneAt hall.to_publishers s.0 s.1.inlet.taker.lane) (λ s sits. sits.lane) kinds.publishers crew.publishers)

  pub queues_takers : (takers : List (TakerValue QueueNote)) → takers ≡ map (λ s. s.1.inlet.taker) kinds.queues → map (λ (t : TakerValue QueueNote). t.lane) takers ≡ ids_of hall.to_queues
  queues_takers takers are =
      takers_lanes (λ s. s.1.inlet.taker) (λ s. s.0) kinds.queues (queues_of script.shape) hall.to_queues takers are crew.queue_numbers crew.hall_is.lanes.queues_count
      (All-weaker (λ s. IsQueueIn script hall s.0 s.1) (λ s. IsLaneAt hall.to_queues s.0 s.1.inlet.taker.lane) (λ s sits. sits.lane) kinds.queues crew.queues)

  -- what each queue keeps, where these are the objects of the hall
  pub queues_keep : (objects : List Planned) → objects ≡ hall.objects → All (λ s. IsQueueOf objects s.0 s.1) kinds.queues
  queues_keep objects is =
      All-weaker (λ s. IsQueueIn script hall s.0 s.1) (λ s. IsQueueOf objects s.0 s.1) (λ s sits. subst (λ (os : List Planned). IsQueueOf os s.0 s.1) (sym is) sits.keeps) kinds.queues crew.queues

  -- the numbers of the queues count them
  pub queues_numbered : map (λ s. s.0) kinds.queues ≡ numbers_below (length kinds.queues)
  queues_numbered = crew.queue_numbers ∙ ap numbers_below (sym (numbered_len (λ s. s.0) kinds.queues (queues_of script.shape) crew.queue_numbers))

  pub queues_planned : (objects : List Planned) → objects ≡ hall.objects → All (λ s. ArePlanned (orders_in objects) s.1.served.seats) kinds.queues
  queues_planned objects is =
      All-weaker (λ s. IsQueueOf objects s.0 s.1) (λ s. ArePlanned (orders_in objects) s.1.served.seats) (λ s keeps. keeps.planned) kinds.queues (queues_keep objects is)

  pub belong_to : {L : Type 0} {listener : listeners.Ghosts L} {tagged : tags.Ghosts L} (apart : Apart L listener tagged) → AreParts kinds apart → BelongTo hall.to_bridge hall.to_timers hall.to_publishers hall.to_queues apart
  belong_to apart parts = record {
    clients_bridge = clients_on_bridge apart.clients.to_bridge.items parts.clients_bridge;
    publishers_bridge = publishers_on_bridge apart.publishers.to_bridge.items parts.publishers_bridge;
    queues_bridge = queues_on_bridge apart.queues.to_bridge.items parts.queues_bridge;
    bridge_taker = bridge_taker apart.bridge.taker parts.bridge_taker;
    clients_timers = clients_on_timers apart.clients.to_timers.items parts.clients_timers;
    queues_timers = queues_on_timers apart.queues.to_timers.items parts.queues_timers;
    bridge_timers = ap (λ (p : PortValue TimersNote). p.lane) parts.bridge_timers ∙ crew.bridge.timers;
    timers_taker = timers_taker apart.timers.taker parts.timers_taker;
    bridge_publishers = bridge_to_publishers apart.bridge.publishers.items parts.bridge_publishers;
    publishers_takers = publishers_takers apart.publishers.takers.items parts.publishers_takers;
    bridge_queues = bridge_to_queues apart.bridge.queues.items parts.bridge_queues;
    timers_queues = timers_to_queues apart.timers.queues.items parts.timers_queues;
    queues_takers = queues_takers apart.queues.takers.items parts.queues_takers;
  }

-- ---- all lanes are closed

pub all_closed : (kinds : Kinds) (clients_bridge publishers_bridge queues_bridge : List (PortValue BridgeNote)) (clients_timers queues_timers alone : List (PortValue TimersNote))
    (to_publishers : List (PortValue PublisherNote)) (bridge_queues timers_queues : List (PortValue QueueNote)) (bridge_taker : TakerValue BridgeNote) (timers_taker : TakerValue TimersNote)
    (publisher_takers : List (TakerValue PublisherNote)) (queue_takers : List (TakerValue QueueNote))
    → clients_bridge ≡ map (λ s. s.1.post.ports.to_bridge) kinds.clients → publishers_bridge ≡ map (λ s. s.1.port) kinds.publishers → queues_bridge ≡ map (λ s. s.1.ports.to_bridge) kinds.queues
    → clients_timers ≡ map (λ s. s.1.post.ports.to_timers) kinds.clients → queues_timers ≡ map (λ s. s.1.ports.to_timers) kinds.queues → alone ≡ kinds.bridge.ports.timers ∷ []
    → to_publishers ≡ kinds.bridge.ports.publishers → bridge_queues ≡ kinds.bridge.ports.queues → timers_queues ≡ kinds.timers.queues
    → bridge_taker ≡ kinds.bridge.service.inlet.taker → timers_taker ≡ kinds.timers.service.inlet.taker
    → publisher_takers ≡ map (λ s. s.1.inlet.taker) kinds.publishers → queue_takers ≡ map (λ s. s.1.inlet.taker) kinds.queues
    → All (IsEdgeOf to_bridge.is_last bridge_taker) clients_bridge → All (IsEdgeOf to_bridge.is_last bridge_taker) publishers_bridge → All (IsEdgeOf to_bridge.is_last bridge_taker) queues_bridge
    → All (IsEdgeOf to_timers.is_last timers_taker) clients_timers → All (IsEdgeOf to_timers.is_last timers_taker) queues_timers → All (IsEdgeOf to_timers.is_last timers_taker) alone
    → AllZip (λ port t. IsEdgeOf to_publisher.is_last t port) to_publishers publisher_takers
    → AllZip (λ port t. IsEdgeOf to_queue.is_last t port) bridge_queues queue_takers → AllZip (λ port t. IsEdgeOf to_queue.is_last t port) timers_queues queue_takers
    → AreClosed kinds
all_closed kinds cb pb qb ct qt alone tp bq tq bt tt_ pts qts cb_is pb_is qb_is ct_is qt_is alone_is tp_is bq_is tq_is bt_is tt_is pts_are qts_are e1 e2 e3 e4 e5 e6 e7 e8 e9 = record {
  clients_bridge = edges_seen to_bridge.is_last (λ s. s.1.post.ports.to_bridge) kinds.clients cb bt kinds.bridge.service.inlet.taker cb_is bt_is e1;
  publishers_bridge = edges_seen to_bridge.is_last (λ s. s.1.port) kinds.publishers pb bt kinds.bridge.service.inlet.taker pb_is bt_is e2;
  queues_bridge = edges_seen to_bridge.is_last (λ s. s.1.ports.to_bridge) kinds.queues qb bt kinds.bridge.service.inlet.taker qb_is bt_is e3;
  clients_timers = edges_seen to_timers.is_last (λ s. s.1.post.ports.to_timers) kinds.clients ct tt_ kinds.timers.service.inlet.taker ct_is tt_is e4;
  queues_timers = edges_seen to_timers.is_last (λ s. s.1.ports.to_timers) kinds.queues qt tt_ kinds.timers.service.inlet.taker qt_is tt_is e5;
  bridge_timers = (
      let P = IsEdgeOf to_timers.is_last kinds.timers.service.inlet.taker in
      All-head P kinds.bridge.ports.timers [] (subst (All P) alone_is (subst (λ (t : TakerValue TimersNote). All (IsEdgeOf to_timers.is_last t) alone) tt_is e6))
      );
  publishers = pairs_seen to_publisher.is_last (λ s. s.1.inlet.taker) kinds.publishers tp kinds.bridge.ports.publishers pts pts_are tp_is e7;
  bridge_queues = pairs_seen to_queue.is_last (λ s. s.1.inlet.taker) kinds.queues bq kinds.bridge.ports.queues qts qts_are bq_is e8;
  timers_queues = pairs_seen to_queue.is_last (λ s. s.1.inlet.taker) kinds.queues tq kinds.timers.queues qts qts_are tq_is e9;
}

-- the same of seats that were taken apart
pub closed_of : {L : Type 0} {listener : listeners.Ghosts L} {tagged : tags.Ghosts L} (kinds : Kinds) (apart : Apart L listener tagged) → AreParts kinds apart → AreEdgesOf apart → AreClosed kinds
closed_of kinds apart parts edges =
    all_closed kinds apart.clients.to_bridge.items apart.publishers.to_bridge.items apart.queues.to_bridge.items apart.clients.to_timers.items apart.queues.to_timers.items (apart.bridge.timers ∷ [])
    apart.bridge.publishers.items apart.bridge.queues.items apart.timers.queues.items apart.bridge.taker apart.timers.taker apart.publishers.takers.items apart.queues.takers.items
    parts.clients_bridge parts.publishers_bridge parts.queues_bridge parts.clients_timers parts.queues_timers (ap (λ (p : PortValue TimersNote). p ∷ []) parts.bridge_timers)
    parts.bridge_publishers parts.bridge_queues parts.timers_queues parts.bridge_taker parts.timers_taker parts.publishers_takers parts.queues_takers
    edges.clients_bridge edges.publishers_bridge edges.queues_bridge edges.clients_timers edges.queues_timers edges.bridge_timers edges.publishers edges.bridge_queues edges.timers_queues
