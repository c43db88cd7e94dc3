-- The ends that new seats are given, and the seats that are made of them.
use Rattle.std.specs.List.{slice_get, All}
use Rattle.std.proofs.Common.{◌≡◌, ℕ, zero, suc, ◌+◌, ◌-◌, ◌<◌, List, [], ◌∷◌, ◌++◌, length, map, drop, Some, refl, sym, ◌∙◌, ap, subst, arith, append_assoc, length-drop}
use Rattle.std.proofs.lemmas.Option.{slice_get_within, get_or_from_slice_get}
use Rattle.mama_journal.specs.Journal.{numbers_below}
use Rattle.mama_edge.specs.declared.gate.GateActor.{GateActor}
use Rattle.mama_event.specs.declared.shape.Bounds.{Bounds}
use Rattle.mama_event.specs.declared.shape.Shape.{Shape}
use Rattle.mama_event.specs.Ports.{publishers_of, queues_of, bridge_ports, timers_port_of_bridge}
use Rattle.mama_rules_rounds.specs.Client.{Planned}
use Rattle.mama_lane.specs.Values.{LaneValue, PortValue, TakerValue, new_port, new_taker}
use Rattle.mama_hall.specs.Ends.{ports_from, IsLaneOf}
use Rattle.mama_posts_services.specs.Ports.{lanes_of, ids_of, ArePutting}
use Rattle.mama_crew.specs.Hall.{HallValue, IsLaneAt, AreLanesOf}
use Rattle.mama_crew.specs.New.{HavePutNothing}

-- ---- the next of a list

module _ {A : Type 0} where
  -- the first of what is left stands at the index that was reached
  first_left : (xs : List A) (k : ℕ) (x : A) (rest : List A) → drop k xs ≡ x ∷ rest → (slice_get xs k ≡ Some x) × (rest ≡ drop (k + 1) xs)
  first_left [] zero x rest is = absurd (cc is)
  first_left [] (suc k) x rest is = absurd (cc is)
  first_left (y ∷ ys) zero x rest is =
      let first : y ≡ x = cc in
      let later : rest ≡ ys = cc in
      (ap Some first, later)
  first_left (y ∷ ys) (suc k) x rest is =
      let there = first_left ys k x rest is in
      let same : suc (k + 1) ≡ suc k + 1 = omega arith in
      (there.0, there.1 ∙ ap (λ (n : ℕ). drop n (y ∷ ys)) same)

  pub next_left : (xs : List A) (k : ℕ) (x : A) (old new : List A) → old ≡ drop k xs → old ≡ x ∷ new → (slice_get xs k ≡ Some x) × (new ≡ drop (k + 1) xs)
  next_left xs k x old new was is = first_left xs k x new (sym was ∙ is)

  -- something is left
  pub some_left : (xs : List A) (k : ℕ) (old : List A) → old ≡ drop k xs → k < length xs → 0 < length old
  some_left xs k old was within =
      let count : length old ≡ length xs - k = ap length was ∙ length-drop k xs in
      omega arith

  -- what holds of all holds of each
  pub holds_at : (P : A → Type 0) (xs : List A) (k : ℕ) (x : A) → All P xs → slice_get xs k ≡ Some x → P x
  holds_at P xs k x all at = subst P (get_or_from_slice_get xs k x x at) (all k x (slice_get_within xs k x at))

-- ---- the ends of lanes

pub ports_length : (N : Type 0) (lane : LaneValue) (first n : ℕ) → length (ports_from {N = N} lane first n) ≡ n
ports_length N lane first zero = refl
ports_length N lane first (suc n) = ap suc (ports_length N lane (suc first) n)

pub takers_length : (N : Type 0) (lanes : List LaneValue) → length (map (new_taker {N = N}) lanes) ≡ length lanes
takers_length N [] = refl
takers_length N (lane ∷ lanes) = ap suc (takers_length N lanes)

-- a port of each lane
pub ports_of_lanes : (N : Type 0) (number : ℕ) (lanes : List LaneValue) → lanes_of {N = N} (map (λ lane. new_port lane number) lanes) ≡ ids_of lanes
ports_of_lanes N number [] = refl
ports_of_lanes N number (lane ∷ lanes) = ap (λ ids. lane.id ∷ ids) (ports_of_lanes N number lanes)

count_ports : (N : Type 0) (number : ℕ) (lanes : List LaneValue) → length (map (λ lane. new_port {N = N} lane number) lanes) ≡ length lanes
count_ports N number [] = refl
count_ports N number (lane ∷ lanes) = ap suc (count_ports N number lanes)

module _ {N : Type 0} where
  -- which port of a lane stands at an index
  pub port_at : (lane : LaneValue) (first n k : ℕ) (port : PortValue N) → slice_get (ports_from lane first n) k ≡ Some port → port ≡ new_port lane (first + k)
  port_at lane first zero k port at = absurd (cc at)
  port_at lane first (suc n) zero port at =
      let is : port ≡ new_port lane first = cc in
      let same : first ≡ first + 0 = omega arith in
      is ∙ ap (λ (i : ℕ). new_port lane i) same
  port_at lane first (suc n) (suc k) port at =
      let same : suc first + k ≡ first + suc k = omega arith in
      port_at lane (suc first) n k port at ∙ ap (λ (i : ℕ). new_port lane i) same

  -- the lane whose taker stands at an index
  pub taker_at : (lanes : List LaneValue) (k : ℕ) (taker : TakerValue N) → slice_get (map new_taker lanes) k ≡ Some taker → (lane : LaneValue) × (slice_get lanes k ≡ Some lane) × (taker ≡ new_taker lane)
  taker_at [] k taker at = absurd (cc at)
  taker_at (lane ∷ lanes) zero taker at = let is : taker ≡ new_taker lane = cc in (lane, refl, is)
  taker_at (lane ∷ lanes) (suc k) taker at = taker_at lanes k taker at

  put_nothing : (number : ℕ) (lanes : List LaneValue) → HavePutNothing {N = N} (map (λ lane. new_port lane number) lanes)
  put_nothing number [] k d small = absurd (omega arith)
  put_nothing number (lane ∷ lanes) zero d small = refl
  put_nothing number (lane ∷ lanes) (suc k) d small = put_nothing number lanes k d (omega arith)

  port_of_lane : (number : ℕ) (lanes : List LaneValue) (k : ℕ) (port : PortValue N) → slice_get (map (λ lane. new_port lane number) lanes) k ≡ Some port
      → (lane : LaneValue) × (slice_get lanes k ≡ Some lane) × (port ≡ new_port lane number)
  port_of_lane number [] k port at = absurd (cc at)
  port_of_lane number (lane ∷ lanes) zero port at = let is : port ≡ new_port lane number = cc in (lane, refl, is)
  port_of_lane number (lane ∷ lanes) (suc k) port at = port_of_lane number lanes k port at

  are_putting : (bounds : Bounds) (number ports count : ℕ) (lanes : List LaneValue) → All (IsLaneOf bounds ports) lanes → length lanes ≡ count
      → ArePutting {N = N} bounds number count (λ k. []) (λ k. []) (map (λ lane. new_port lane number) lanes)
  are_putting bounds number ports count lanes all many = record {
    count_is = count_ports N number lanes ∙ many;
    each = λ k port at.
        let there = port_of_lane number lanes k port at in
        let of_lane : IsLaneOf bounds ports there.0 = holds_at (IsLaneOf bounds ports) lanes k there.0 all there.1 in
        record {
          bounds_are = ap (λ (p : PortValue N). p.bounds) there.2 ∙ of_lane.bounds_are;
          number_is = ap (λ (p : PortValue N). p.number) there.2;
          put = ap (λ (p : PortValue N). p.put ++ []) there.2;
        };
  }

  -- the ports that a service has, one of each of some lanes
  pub are_putting_as : (bounds : Bounds) (number ports count : ℕ) (lanes : List LaneValue) (own : List (PortValue N)) → own ≡ map (λ lane. new_port lane number) lanes → All (IsLaneOf bounds ports) lanes
      → length lanes ≡ count → ArePutting bounds number count (λ k. []) (λ k. []) own
  are_putting_as bounds number ports count lanes own is all many =
      subst (λ (ps : List (PortValue N)). ArePutting bounds number count (λ k. []) (λ k. []) ps) (sym is) (are_putting bounds number ports count lanes all many)

  pub put_nothing_as : (number : ℕ) (lanes : List LaneValue) (own : List (PortValue N)) → own ≡ map (λ lane. new_port lane number) lanes → HavePutNothing own
  put_nothing_as number lanes own is = subst (λ (ps : List (PortValue N)). HavePutNothing ps) (sym is) (put_nothing number lanes)

pub id_at : (lanes : List LaneValue) (k : ℕ) (lane : LaneValue) → slice_get lanes k ≡ Some lane → IsLaneAt lanes k lane.id
id_at [] k lane at = absurd (cc at)
id_at (l ∷ ls) zero lane at = let is : l ≡ lane = cc in ap (λ (m : LaneValue). Some m.id) is
id_at (l ∷ ls) (suc k) lane at = id_at ls k lane at

-- ---- the actors of some seats

-- one actor more of a kind
pub actors_more : (actor : ℕ → GateActor) (before mid after : List GateActor) (k : ℕ) → mid ≡ before ++ map actor (numbers_below k) → after ≡ mid ++ actor k ∷ [] → after ≡ before ++ map actor (numbers_below (k + 1))
actors_more actor before mid after k was is =
    is ∙ ap (λ (all : List GateActor). all ++ actor k ∷ []) was ∙ append_assoc before (map actor (numbers_below k)) (actor k ∷ [])
    ∙ ap (λ (all : List GateActor). before ++ all) (sym (more k))
  where
    map_snoc : (ns : List ℕ) (n : ℕ) → map actor (ns ++ n ∷ []) ≡ map actor ns ++ actor n ∷ []
    map_snoc [] n = refl
    map_snoc (m ∷ ms) n = ap (λ (all : List GateActor). actor m ∷ all) (map_snoc ms n)

    more : (n : ℕ) → map actor (numbers_below (n + 1)) ≡ map actor (numbers_below n) ++ actor n ∷ []
    more n = let same : n + 1 ≡ suc n = omega arith in ap (λ (m : ℕ). map actor (numbers_below m)) same ∙ map_snoc (numbers_below n) n

-- the actors of all seats, kind by kind
pub actors_joined : (clients publishers queues : List GateActor) (bridge timers : GateActor) (s0 s1 s2 s3 s4 s5 : List GateActor) → s0 ≡ [] → s1 ≡ s0 ++ clients → s2 ≡ s1 ++ publishers → s3 ≡ s2 ++ bridge ∷ []
    → s4 ≡ s3 ++ timers ∷ [] → s5 ≡ s4 ++ queues → s5 ≡ clients ++ (publishers ++ (bridge ∷ timers ∷ queues))
actors_joined clients publishers queues bridge timers s0 s1 s2 s3 s4 s5 a0 a1 a2 a3 a4 a5 =
    let with_clients : s1 ≡ clients = a1 ∙ ap (λ (s : List GateActor). s ++ clients) a0 in
    let with_publishers : s2 ≡ clients ++ publishers = a2 ∙ ap (λ (s : List GateActor). s ++ publishers) with_clients in
    let with_bridge : s3 ≡ (clients ++ publishers) ++ bridge ∷ [] = a3 ∙ ap (λ (s : List GateActor). s ++ bridge ∷ []) with_publishers in
    let with_timers : s4 ≡ ((clients ++ publishers) ++ bridge ∷ []) ++ timers ∷ [] = a4 ∙ ap (λ (s : List GateActor). s ++ timers ∷ []) with_bridge in
    a5 ∙ ap (λ (s : List GateActor). s ++ queues) with_timers ∙ append_assoc ((clients ++ publishers) ++ bridge ∷ []) (timers ∷ []) queues ∙ append_assoc (clients ++ publishers) (bridge ∷ []) (timers ∷ queues)
    ∙ append_assoc clients publishers (bridge ∷ timers ∷ queues)

-- ---- the lanes of a hall

pub are_lanes : (own shape : Shape) (hall : HallValue) (objects : List Planned) (bridge timers : LaneValue) (publishers queues : List LaneValue) → own ≡ shape
    → hall ≡ record { objects = objects; to_bridge = bridge; to_timers = timers; to_publishers = publishers; to_queues = queues } → IsLaneOf own.bounds (bridge_ports own) bridge
    → IsLaneOf own.bounds (timers_port_of_bridge own + 1) timers → length publishers ≡ publishers_of own → All (IsLaneOf own.bounds 1) publishers → length queues ≡ queues_of own → All (IsLaneOf own.bounds 2) queues
    → AreLanesOf shape hall
are_lanes own shape hall objects bridge timers publishers queues same is to_bridge to_timers publishers_count to_publishers queues_count to_queues =
    subst (AreLanesOf shape) (sym is) (subst (λ (s : Shape). AreLanesOf s (record { objects = objects; to_bridge = bridge; to_timers = timers; to_publishers = publishers; to_queues = queues })) same
    (record { to_bridge = to_bridge; to_timers = to_timers; publishers_count = publishers_count; to_publishers = to_publishers; queues_count = queues_count; to_queues = to_queues }))

-- some ports of a lane are those of the same lane by another name
pub ports_moved : {N : Type 0} (lane there : LaneValue) (own shape : Shape) (first count : Shape → ℕ) (ports : List (PortValue N)) → lane ≡ there → own ≡ shape → ports ≡ ports_from lane (first own) (count own)
    → ports ≡ ports_from there (first shape) (count shape)
ports_moved {N} lane there own shape first count ports lane_is same is =
    is ∙ ap (λ (l : LaneValue). ports_from {N = N} l (first own) (count own)) lane_is ∙ ap (λ (s : Shape). ports_from {N = N} there (first s) (count s)) same
