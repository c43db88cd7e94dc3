-- Seats that tell and learn what was put.
use Rattle.std.specs.List.{slice_get}
use Rattle.std.proofs.Common.{◌≡◌, ◌↔◌, ℕ, zero, suc, Bool, true, List, [], ◌∷◌, length, map, Some, refl, sym, ◌∙◌, ap, subst}
use Rattle.mama_event.specs.declared.to_bridge.BridgeNote.{BridgeNote}
use Rattle.mama_event.specs.declared.to_publisher.PublisherNote.{PublisherNote}
use Rattle.mama_event.specs.declared.to_queue.QueueNote.{QueueNote}
use Rattle.mama_event.specs.declared.to_timers.TimersNote.{TimersNote}
use Rattle.mama_rules_rounds.specs.Client.{Planned}
use Rattle.mama_script.specs.declared.publisher.PublisherPart.{PublisherPart}
use Rattle.mama_script.specs.Script.{ScriptData}
use Rattle.mama_lane.specs.Values.{LaneValue, PortValue, NoteValue, note_of_port}
use Rattle.mama_ends.specs.Inlet.{InletValue}
use Rattle.mama_posts_services.specs.Ports.{lanes_of, ids_of}
use Rattle.mama_posts_services.specs.Publisher.{PublisherPostValue, IsPublisherOf}
use Rattle.mama_posts_services.specs.Publisher as publisher
use Rattle.mama_posts_services.specs.Service.{ServiceValue, HasEnded}
use Rattle.mama_posts_services.specs.Bridge.{BridgePostValue, IsBridgeOf}
use Rattle.mama_posts_services.specs.Timers.{TimersPostValue, IsTimersOf}
use Rattle.mama_posts_clients.specs.Queue.{QueuePostValue, rows_of_watches, IsQueueOf}
use Rattle.mama_crew.specs.Hall.{HallValue, IsLaneAt}
use Rattle.mama_crew.specs.declared.seat.Seat.{Seat}
use Rattle.mama_crew.specs.declared.seat.Seat.TheVariants.{Client, Publisher, Bridge, Timers, Queue}
use Rattle.mama_crew.specs.Seat.{IsSeatOf, IsPublisherIn, IsBridgeIn, IsTimersIn, IsQueueIn}
use Rattle.mama_crew.specs.Placed.{HasPortsIn}
use Rattle.mama_crew.specs.Informed.{publisher_told, bridge_told, timers_told, queue_told}

-- a seat of a script has its ports on the lanes of the hall
pub has_ports : {L : Type 0} (script : ScriptData) (hall : HallValue) (seat : Seat L) → IsSeatOf script hall seat → HasPortsIn hall seat
has_ports script hall (Client c seat) sits = (sits.on_bridge.lane_is, sits.on_timers.lane_is)
has_ports script hall (Publisher p post) sits = sits.on_bridge.lane_is
has_ports script hall (Bridge post) sits = (sits.publishers, sits.queues, sits.timers)
has_ports script hall (Timers post) sits = sits.queues
has_ports script hall (Queue q post) sits = (sits.on_bridge.lane_is, sits.on_timers.lane_is)

module _ {N : Type 0} where
  pub as_many_lanes : (ports : List (PortValue N)) (lanes : List LaneValue) → lanes_of ports ≡ ids_of lanes → length ports ≡ length lanes
  as_many_lanes [] [] same = refl
  as_many_lanes [] (lane ∷ lanes) same = absurd (cc same)
  as_many_lanes (port ∷ ports) [] same = absurd (cc same)
  as_many_lanes (port ∷ ports) (lane ∷ lanes) same = let rest : lanes_of ports ≡ ids_of lanes = cc in ap suc (as_many_lanes ports lanes rest)

  -- the note of the port of an index is of the lane of that index
  pub note_lane : (ports : List (PortValue N)) (lanes : List LaneValue) (k : ℕ) (note : NoteValue N) → lanes_of ports ≡ ids_of lanes → slice_get (map note_of_port ports) k ≡ Some note → IsLaneAt lanes k note.lane
  note_lane [] lanes k note same is = absurd (cc is)
  note_lane (p ∷ ps) [] k note same is = absurd (cc same)
  note_lane (p ∷ ps) (lane ∷ lanes) zero note same is =
      let named : note_of_port p ≡ note = cc in
      let first : p.lane ≡ lane.id = cc in
      ap Some (sym first ∙ ap (λ (n : NoteValue N). n.lane) named)
  note_lane (p ∷ ps) (lane ∷ lanes) (suc k) note same is = let rest : lanes_of ps ≡ ids_of lanes = cc in note_lane ps lanes k note rest is

  -- what was taken and put tells whether a service has ended
  pub ended_told : {P : Type 0} (ended : Bool) (over : List (ℕ × N) → Bool) (service : ServiceValue N P) (inlet : InletValue N) → ((ended ≡ true) ↔ HasEnded over service)
      → (ended ≡ true) ↔ HasEnded over (record service { inlet = inlet })
  ended_told ended over service inlet says = (
    (λ is. let h = says.0 is in record { over = h.over; left = h.left }),
    (λ h. says.1 (record { over = h.over; left = h.left })),
  )

-- a publisher that has ended has done so whatever it learns
pub publisher_ended_told : (ended : Bool) (post : PublisherPostValue) (note : NoteValue PublisherNote) → ((ended ≡ true) ↔ publisher.HasEnded post) → (ended ≡ true) ↔ publisher.HasEnded (publisher_told (Some note) post)
publisher_ended_told ended post note says = (
  (λ is. let h = says.0 is in record { told = h.told; over = h.over; kept = h.kept; left = h.left }),
  (λ h. says.1 (record { told = h.told; over = h.over; kept = h.kept; left = h.left })),
)

-- what a seat keeps it keeps whatever it learns
pub publisher_informed : (script : ScriptData) (hall : HallValue) (p : ℕ) (note : NoteValue PublisherNote) (old new : PublisherPostValue) → IsPublisherIn script hall p old
    → ((part : PublisherPart) → IsPublisherOf part p old → IsPublisherOf part p new) → new ≡ publisher_told (Some note) old → IsPublisherIn script hall p new
publisher_informed script hall p note old new was keeps is = record {
  there = was.there;
  keeps = λ part at. keeps part (was.keeps part at);
  lane = was.lane ∙ ap (λ (v : PublisherPostValue). Some v.inlet.taker.lane) (sym is);
  on_bridge = record {
    lane_is = ap (λ (v : PublisherPostValue). v.port.lane) is ∙ was.on_bridge.lane_is;
    number_is = ap (λ (v : PublisherPostValue). v.port.number) is ∙ was.on_bridge.number_is;
  };
}

pub bridge_informed : (script : ScriptData) (hall : HallValue) (note : NoteValue BridgeNote) (old new : BridgePostValue) → IsBridgeIn script hall old → IsBridgeOf script.shape new
    → new ≡ bridge_told (Some note) old → IsBridgeIn script hall new
bridge_informed script hall note old new was keeps is = record {
  keeps = keeps;
  lane = ap (λ (v : BridgePostValue). v.service.inlet.taker.lane) is ∙ was.lane;
  publishers = ap (λ (v : BridgePostValue). lanes_of v.ports.publishers) is ∙ was.publishers;
  queues = ap (λ (v : BridgePostValue). lanes_of v.ports.queues) is ∙ was.queues;
  timers = ap (λ (v : BridgePostValue). v.ports.timers.lane) is ∙ was.timers;
}

pub timers_informed : (script : ScriptData) (hall : HallValue) (note : NoteValue TimersNote) (old new : TimersPostValue) → IsTimersIn script hall old → IsTimersOf script.shape new
    → new ≡ timers_told (Some note) old → IsTimersIn script hall new
timers_informed script hall note old new was keeps is = record {
  keeps = keeps;
  lane = ap (λ (v : TimersPostValue). v.service.inlet.taker.lane) is ∙ was.lane;
  queues = ap (λ (v : TimersPostValue). lanes_of v.queues) is ∙ was.queues;
}

queue_keeps : (objects : List Planned) (q : ℕ) (note : NoteValue QueueNote) (old : QueuePostValue) → IsQueueOf objects q old → IsQueueOf objects q (queue_told (Some note) old)
queue_keeps objects q note old was = record {
  number_is = was.number_is;
  two_ports = was.two_ports;
  taken = was.taken;
  lawful = was.lawful;
  put = was.put;
  noted = was.noted;
  planned = was.planned;
  heard = was.heard;
  unborn = was.unborn;
  gone_are = was.gone_are;
  back = was.back;
}

pub queue_informed : (script : ScriptData) (hall : HallValue) (q : ℕ) (note : NoteValue QueueNote) (old new : QueuePostValue) → IsQueueIn script hall q old → new ≡ queue_told (Some note) old
    → IsQueueIn script hall q new
queue_informed script hall q note old new was is = record {
  there = was.there;
  keeps = subst (IsQueueOf hall.objects q) (sym is) (queue_keeps hall.objects q note old was.keeps);
  watches = ap (λ (v : QueuePostValue). rows_of_watches v.watches) is ∙ was.watches;
  lane = was.lane ∙ ap (λ (v : QueuePostValue). Some v.inlet.taker.lane) (sym is);
  on_bridge = record {
    lane_is = ap (λ (v : QueuePostValue). v.ports.to_bridge.lane) is ∙ was.on_bridge.lane_is;
    number_is = ap (λ (v : QueuePostValue). v.ports.to_bridge.number) is ∙ was.on_bridge.number_is;
  };
  on_timers = record {
    lane_is = ap (λ (v : QueuePostValue). v.ports.to_timers.lane) is ∙ was.on_timers.lane_is;
    number_is = ap (λ (v : QueuePostValue). v.ports.to_timers.number) is ∙ was.on_timers.number_is;
  };
}
