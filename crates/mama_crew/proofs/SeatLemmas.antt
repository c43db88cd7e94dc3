-- Seats after a turn, and the lanes that belong to them.
use Rattle.std.specs.Prelude.{◌&&◌}
use Rattle.std.specs.List.{slice_get}
use Rattle.std.proofs.Common.{◌≡◌, ◌↔◌, Result, Ok, ℕ, zero, suc, ◌<◌, Bool, true, false, List, [], ◌∷◌, length, map, Some, refl, sym, ◌∙◌, ap, subst, arith}
use Rattle.mama_rules_queue.specs.Queue.{QueuePut}
use Rattle.mama_event.specs.declared.to_bridge.BridgeNote.{BridgeNote}
use Rattle.mama_event.specs.declared.to_timers.TimersNote.{TimersNote}
use Rattle.mama_event.specs.declared.to_publisher.PublisherNote.{PublisherNote}
use Rattle.mama_event.specs.declared.to_queue.QueueNote.{QueueNote}
use Rattle.mama_event.specs.declared.shape.Shape.{Shape}
use Rattle.mama_script.specs.declared.publisher.PublisherPart.{PublisherPart}
use Rattle.mama_script.specs.Script.{ScriptData}
use Rattle.mama_lane.specs.Values.{LaneId, LaneValue, PortValue, TakerValue}
use Rattle.mama_ends.specs.declared.pace.Pace.{Pace}
use Rattle.mama_ends.specs.declared.pace.Pace.TheVariants.{Moved, Waiting, Ended}
use Rattle.mama_posts_services.specs.Ports.{place_of}
use Rattle.mama_posts_clients.specs.Outlets.{OutletsValue, with_put}
use Rattle.mama_posts_clients.specs.Client.{ClientPostValue, IsClientOf}
use Rattle.mama_posts_services.specs.Publisher.{PublisherPostValue, IsPublisherOf}
use Rattle.mama_posts_services.specs.Bridge.{BridgePostValue, IsBridgeOf, StayPlaced}
use Rattle.mama_posts_services.specs.Timers.{TimersPostValue, IsTimersOf}
use Rattle.mama_posts_clients.specs.Queue.{QueuePostValue, rows_of_watches, IsQueueOf}
use Rattle.mama_posts_services.proofs.PortsLemmas.{lanes_stay}
use Rattle.mama_crew.specs.Hall.{HallValue, IsLaneAt}
use Rattle.mama_crew.specs.Client.{ClientSeatValue, is_clear, reads_now}
use Rattle.mama_crew.specs.Seat.{IsClientIn, IsPublisherIn, IsBridgeIn, IsTimersIn, IsQueueIn}

-- what a post tells of its next step is what the seat says of it
pub tells_reading : (b : Bool) (left : List QueuePut) (next : Bool) → ((b ≡ true) ↔ ((left ≡ []) × (next ≡ true))) → b ≡ (is_clear left && next)
tells_reading true left next tells =
    let both : (left ≡ []) × (next ≡ true) = tells.0 refl in
    sym (ap (λ (ps : List QueuePut). is_clear ps && next) both.0 ∙ both.1)
tells_reading false [] true tells = tells.1 (refl, refl)
tells_reading false [] false tells = refl
tells_reading false (p ∷ ps) next tells = refl

-- and the other way round
pub reading_tells : (b : Bool) (left : List QueuePut) (next : Bool) → b ≡ (is_clear left && next) → (b ≡ true) ↔ ((left ≡ []) × (next ≡ true))
reading_tells b [] next is = ((λ so. (refl, sym is ∙ so)), (λ both. is ∙ both.1))
reading_tells b (p ∷ ps) next is = ((λ so. absurd (cc (is, so))), (λ both. absurd (cc (both.0))))

pub lane_there : (lanes : List LaneValue) (k : ℕ) (id : LaneId) → IsLaneAt lanes k id → k < length lanes
lane_there [] k id at = absurd (cc at)
lane_there (lane ∷ lanes) zero id at = omega arith
lane_there (lane ∷ lanes) (suc k) id at = let rest : k < length lanes = lane_there lanes k id at in omega arith

-- the lane of an index has the id that is there
pub lane_is : (lanes : List LaneValue) (k : ℕ) (id : LaneId) (lane : LaneValue) → IsLaneAt lanes k id → slice_get lanes k ≡ Some lane → id ≡ lane.id
lane_is [] k id lane at is = absurd (cc at)
lane_is (l ∷ lanes) zero id lane at is =
    let first : l ≡ lane = cc in
    let there : l.id ≡ id = cc in
    sym there ∙ ap (λ (m : LaneValue). m.id) first
lane_is (l ∷ lanes) (suc k) id lane at is = lane_is lanes k id lane at is

-- one element stands at an index
pub only_one : {A : Type 0} (xs : List A) (k : ℕ) (x y : A) → slice_get xs k ≡ Some x → slice_get xs k ≡ Some y → x ≡ y
only_one xs k x y is_x is_y = let both : Some x ≡ Some y = sym is_x ∙ is_y in cc

pub client_turned : (script : ScriptData) (hall : HallValue) (c : ℕ) (inside : ClientPostValue) (old new : ClientSeatValue) → inside ≡ old.post → IsClientIn script hall c old → IsClientOf script c new.post
    → new.post.ports ≡ with_put inside.ports new.post.ports.to_bridge.put new.post.ports.to_timers.put → new.reads ≡ reads_now script c new.post → IsClientIn script hall c new
client_turned script hall c inside old new is was keeps place reads = record {
  there = was.there;
  keeps = keeps;
  on_bridge = record {
    lane_is = ap (λ (o : OutletsValue). o.to_bridge.lane) place ∙ ap (λ (p : ClientPostValue). p.ports.to_bridge.lane) is ∙ was.on_bridge.lane_is;
    number_is = ap (λ (o : OutletsValue). o.to_bridge.number) place ∙ ap (λ (p : ClientPostValue). p.ports.to_bridge.number) is ∙ was.on_bridge.number_is;
  };
  on_timers = record {
    lane_is = ap (λ (o : OutletsValue). o.to_timers.lane) place ∙ ap (λ (p : ClientPostValue). p.ports.to_timers.lane) is ∙ was.on_timers.lane_is;
    number_is = ap (λ (o : OutletsValue). o.to_timers.number) place ∙ ap (λ (p : ClientPostValue). p.ports.to_timers.number) is ∙ was.on_timers.number_is;
  };
  reads = reads;
}

pub publisher_turned : (script : ScriptData) (hall : HallValue) (p : ℕ) (part : PublisherPart) (old new : PublisherPostValue) → slice_get script.publishers p ≡ Some part → IsPublisherIn script hall p old → IsPublisherOf part p new
    → new.port ≡ record old.port { put = new.port.put } → new.inlet.taker ≡ record old.inlet.taker { taken = new.inlet.taker.taken } → IsPublisherIn script hall p new
publisher_turned script hall p part old new is was keeps place taker = record {
  there = was.there;
  keeps = λ other is_other. subst (λ (s : PublisherPart). IsPublisherOf s p new) (only_one script.publishers p part other is is_other) keeps;
  lane = was.lane ∙ ap Some (sym (ap (λ (t : TakerValue PublisherNote). t.lane) taker));
  on_bridge = record {
    lane_is = ap (λ (q : PortValue BridgeNote). q.lane) place ∙ was.on_bridge.lane_is;
    number_is = ap (λ (q : PortValue BridgeNote). q.number) place ∙ was.on_bridge.number_is;
  };
}

pub bridge_turned : (script : ScriptData) (hall : HallValue) (old new : BridgePostValue) → IsBridgeIn script hall old → IsBridgeOf old.service.shape new → StayPlaced old.ports new.ports
    → new.service.inlet.taker ≡ record old.service.inlet.taker { taken = new.service.inlet.taker.taken } → IsBridgeIn script hall new
bridge_turned script hall old new was keeps placed taker = record {
  keeps = subst (λ (s : Shape). IsBridgeOf s new) was.keeps.takes.shape_is keeps;
  lane = ap (λ (t : TakerValue BridgeNote). t.lane) taker ∙ was.lane;
  publishers = lanes_stay new.ports.publishers old.ports.publishers placed.publishers ∙ was.publishers;
  queues = lanes_stay new.ports.queues old.ports.queues placed.queues ∙ was.queues;
  timers = ap (λ (q : PortValue TimersNote). q.lane) placed.timers ∙ was.timers;
}

pub timers_turned : (script : ScriptData) (hall : HallValue) (old new : TimersPostValue) → IsTimersIn script hall old → IsTimersOf old.service.shape new → map place_of new.queues ≡ map place_of old.queues
    → new.service.inlet.taker ≡ record old.service.inlet.taker { taken = new.service.inlet.taker.taken } → IsTimersIn script hall new
timers_turned script hall old new was keeps placed taker = record {
  keeps = subst (λ (s : Shape). IsTimersOf s new) was.keeps.takes.shape_is keeps;
  lane = ap (λ (t : TakerValue TimersNote). t.lane) taker ∙ was.lane;
  queues = lanes_stay new.queues old.queues placed ∙ was.queues;
}

pub queue_turned : (script : ScriptData) (hall : HallValue) (q : ℕ) (old new : QueuePostValue) → IsQueueIn script hall q old → IsQueueOf hall.objects q new
    → new.ports ≡ with_put old.ports new.ports.to_bridge.put new.ports.to_timers.put → new.inlet.taker ≡ record old.inlet.taker { taken = new.inlet.taker.taken }
    → rows_of_watches new.watches ≡ rows_of_watches old.watches → IsQueueIn script hall q new
queue_turned script hall q old new was keeps place taker rows = record {
  there = was.there;
  keeps = keeps;
  watches = rows ∙ was.watches;
  lane = was.lane ∙ ap Some (sym (ap (λ (t : TakerValue QueueNote). t.lane) taker));
  on_bridge = record {
    lane_is = ap (λ (o : OutletsValue). o.to_bridge.lane) place ∙ was.on_bridge.lane_is;
    number_is = ap (λ (o : OutletsValue). o.to_bridge.number) place ∙ was.on_bridge.number_is;
  };
  on_timers = record {
    lane_is = ap (λ (o : OutletsValue). o.to_timers.lane) place ∙ was.on_timers.lane_is;
    number_is = ap (λ (o : OutletsValue). o.to_timers.number) place ∙ was.on_timers.number_is;
  };
}

-- What a turn came to, for any kind of seat: what it keeps, how it grows, when there is nothing to do, when it has ended, and
-- what a step is.
pub record Turned {V E : Type 0} (sits : V → Type 0) (grown : V → V → Type 0) (idle done : V → Type 0) (made : V → V → Type 0) (result : Result Pace E) (old new : V) : Type 0 where
  pub seat : sits new
  pub grows : grown old new
  pub waiting : result ≡ Ok Waiting → (new ≡ old) × idle old
  pub ended : (result ≡ Ok Ended) ↔ done old
  pub over : result ≡ Ok Ended → new ≡ old
  pub moved : result ≡ Ok Moved → made old new

-- the same of the seat's value as it is seen from without
pub seen : {V E : Type 0} (sits : V → Type 0) (grown : V → V → Type 0) (idle done : V → Type 0) (made : V → V → Type 0) (result : Result Pace E) (inside mid old new : V) → inside ≡ old → new ≡ mid
    → Turned sits grown idle done made result inside mid → Turned sits grown idle done made result old new
seen sits grown idle done made result inside mid old new was is turned =
    subst (Turned sits grown idle done made result old) (sym is) (subst (λ v. Turned sits grown idle done made result v mid) was turned)

abbrev seat_of : ClientPostValue → Bool → ClientSeatValue
seat_of post reads = record { post = post; reads = reads }

seats_same : (p q : ClientPostValue) (a b : Bool) → p ≡ q → a ≡ b → seat_of p a ≡ seat_of q b
seats_same p q a b same reads = ap (λ (x : ClientPostValue). seat_of x a) same ∙ ap (λ (y : Bool). seat_of q y) reads

-- a client's seat, by its post and by what it says of its next step
pub client_same : (script : ScriptData) (c : ℕ) (old new : ClientSeatValue) → old.reads ≡ reads_now script c old.post → new.reads ≡ reads_now script c new.post → new.post ≡ old.post → new ≡ old
client_same script c old new was is same = seats_same new.post old.post new.reads old.reads same (is ∙ ap (reads_now script c) same ∙ sym was)

-- of its own shape
pub bridge_own : (script : ScriptData) (hall : HallValue) (inside old : BridgePostValue) → inside ≡ old → IsBridgeIn script hall old → IsBridgeOf inside.service.shape inside
bridge_own script hall inside old is was =
    subst (λ (v : BridgePostValue). IsBridgeOf v.service.shape v) (sym is) (subst (λ (s : Shape). IsBridgeOf s old) (sym was.keeps.takes.shape_is) was.keeps)

pub timers_own : (script : ScriptData) (hall : HallValue) (inside old : TimersPostValue) → inside ≡ old → IsTimersIn script hall old → IsTimersOf inside.service.shape inside
timers_own script hall inside old is was =
    subst (λ (v : TimersPostValue). IsTimersOf v.service.shape v) (sym is) (subst (λ (s : Shape). IsTimersOf s old) (sym was.keeps.takes.shape_is) was.keeps)
