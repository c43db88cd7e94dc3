-- What the bridge puts, event by event: putting a list of events on the lanes is putting the first, and then the rest.
use Rattle.std.proofs.Common.{◌≡◌, ℕ, zero, suc, ◌+◌, ◌<◌, Bool, true, false, ◌==◌, cond, List, [], ◌∷◌, ◌++◌, refl, sym, ◌∙◌, ap, append_assoc, arith}
use Rattle.std.specs.Prelude.{if◌then◌else◌, slice_index_or, slice_set}
use Rattle.std.specs.List.{flat_map}
use Rattle.std.proofs.lemmas.Grind.{common_steps}
use Rattle.mama_journal.specs.Lane.{from_port, by_port}
use Rattle.mama_event.specs.Ports.{timers_port_of_bridge, queue_port_of_bridge, queue_port_of_timers}
use Rattle.mama_event.specs.declared.to_queue.QueueNote.{QueueNote}
use Rattle.mama_rules_services.specs.Bridge.{BridgePut, to_publisher, to_queue}
use Rattle.mama_rules_services.specs.Bridge as bridge
use Rattle.mama_rules_rounds.specs.Setting.{Setting, publisher_part, queue_part, timer_part}
use Rattle.mama_rules_rounds.specs.World.{World, extended}
use Rattle.mama_drive.specs.Scene.{spread, spread_one, spread_ticks, tick_one, put_on}

pub append_nil : {V : Type 0} → (xs : List V) → xs ++ [] ≡ xs
append_nil [] = refl
append_nil (x ∷ xs) = ap (λ l. x ∷ l) (append_nil xs)

-- lanes on which nothing is put
pub extended_none : {V : Type 0} → (k : ℕ) (lanes : List (List V)) → extended (λ n. []) k lanes ≡ lanes
extended_none k [] = refl
extended_none {V} k (lane ∷ lanes) = ap (λ (l : List V). l ∷ extended (λ n. []) (suc k) lanes) (append_nil lane) ∙ ap (λ l. lane ∷ l) (extended_none (suc k) lanes)

-- what is put on each lane matters, and not how it is said
pub extended_alike : {V : Type 0} → (f g : ℕ → List V) → ((n : ℕ) → f n ≡ g n) → (k : ℕ) (lanes : List (List V)) → extended f k lanes ≡ extended g k lanes
extended_alike f g same k [] = refl
extended_alike {V} f g same k (lane ∷ lanes) =
    ap (λ (l : List V). (lane ++ l) ∷ extended f (suc k) lanes) (same k) ∙ ap (λ l. (lane ++ g k) ∷ l) (extended_alike f g same (suc k) lanes)

-- the event of one lane, put in its place
abbrev pub one_of : {V : Type 0} → ℕ → V → ℕ → List V
one_of r v n = if r == n then v ∷ [] else []

unequal : (a b : ℕ) → a < b → (a == b) ≡ false
unequal a b h = grind (arith, common_steps)

unequal_after : (a b : ℕ) → b < a → (a == b) ≡ false
unequal_after a b h = grind (arith, common_steps)

equal : (a b : ℕ) → a ≡ b → (a == b) ≡ true
equal a b h = grind (arith, common_steps)

-- a lane that is not among these gets nothing
one_past : {V : Type 0} → (r : ℕ) (v : V) (more : ℕ → List V) (k : ℕ) (lanes : List (List V)) → r < k
    → extended (λ n. one_of r v n ++ more n) k lanes ≡ extended more k lanes
one_past r v more k [] h = refl
one_past r v more k (lane ∷ lanes) h =
    ap (λ b. (lane ++ (cond b (v ∷ []) [] ++ more k)) ∷ extended (λ n. one_of r v n ++ more n) (suc k) lanes) (unequal r k h)
    ∙ ap (λ l. (lane ++ more k) ∷ l) (one_past r v more (suc k) lanes (omega arith))

here : {V : Type 0} → (r k : ℕ) (v : V) (more : ℕ → List V) (lane : List V) (lanes : List (List V)) → r ≡ k
    → extended (λ n. one_of r v n ++ more n) k (lane ∷ lanes) ≡ extended more k ((lane ++ v ∷ []) ∷ lanes)
here r k v more lane lanes h =
    ap (λ b. (lane ++ (cond b (v ∷ []) [] ++ more k)) ∷ extended (λ n. one_of r v n ++ more n) (suc k) lanes) (equal r k h)
    ∙ ap (λ l. l ∷ extended (λ n. one_of r v n ++ more n) (suc k) lanes) (sym (append_assoc lane (v ∷ []) (more k)))
    ∙ ap (λ l. ((lane ++ v ∷ []) ++ more k) ∷ l) (one_past r v more (suc k) lanes (omega arith))

there : {V : Type 0} → (r k : ℕ) (v : V) (more : ℕ → List V) (lane : List V) (lanes after : List (List V)) → k < r
    → extended (λ n. one_of r v n ++ more n) (suc k) lanes ≡ extended more (suc k) after
    → extended (λ n. one_of r v n ++ more n) k (lane ∷ lanes) ≡ extended more k (lane ∷ after)
there r k v more lane lanes after h rest =
    ap (λ b. (lane ++ (cond b (v ∷ []) [] ++ more k)) ∷ extended (λ n. one_of r v n ++ more n) (suc k) lanes) (unequal_after r k h)
    ∙ ap (λ l. (lane ++ more k) ∷ l) rest

-- one event first, and then the rest
one_first : {V : Type 0} → (r i k : ℕ) (v : V) (more : ℕ → List V) (lanes : List (List V)) → r ≡ i + k
    → extended (λ n. one_of r v n ++ more n) k lanes ≡ extended more k (slice_set lanes i (slice_index_or lanes i [] ++ v ∷ []))
one_first r i k v more [] h = refl
one_first r zero k v more (lane ∷ lanes) h = here r k v more lane lanes (omega arith)
one_first r (suc i) k v more (lane ∷ lanes) h =
    there r k v more lane lanes _ (omega arith) (one_first r i (suc k) v more lanes (omega arith))

-- one event for a lane, and then the rest
pub put_first : {V : Type 0} → (r : ℕ) (v : V) (more : ℕ → List V) (lanes : List (List V))
    → extended (λ n. one_of r v n ++ more n) 0 lanes ≡ extended more 0 (put_on r v lanes)
put_first r v more lanes = one_first r r 0 v more lanes (omega arith)

-- nothing to put changes nothing
pub spread_nil : (setting : Setting) (w : World) → spread setting [] w ≡ w
spread_nil setting w =
    ap (λ t. record w { to_timers = t; to_publishers = extended (λ p. []) 0 w.to_publishers; to_queues = extended (λ q. []) 0 w.to_queues }) (append_nil w.to_timers)
    ∙ ap (λ t. record w { to_publishers = t; to_queues = extended (λ q. []) 0 w.to_queues }) (extended_none 0 w.to_publishers)
    ∙ ap (λ t. record w { to_queues = t }) (extended_none 0 w.to_queues)

-- an event of one queue, from the bridge's port, before others
from_bridge : (q : ℕ) (note : QueueNote) (rest : List BridgePut) (n : ℕ)
    → from_port queue_port_of_bridge (flat_map (queue_part n) (to_queue q note ∷ rest))
    ≡ one_of q (queue_port_of_bridge, note) n ++ from_port queue_port_of_bridge (flat_map (queue_part n) rest)
from_bridge q note rest n = by_test (q == n)
  where
    by_test : (b : Bool) → from_port queue_port_of_bridge (cond b (note ∷ []) [] ++ flat_map (queue_part n) rest)
        ≡ cond b ((queue_port_of_bridge, note) ∷ []) [] ++ from_port queue_port_of_bridge (flat_map (queue_part n) rest)
    by_test true = refl
    by_test false = refl

-- the first event, and then the rest
pub spread_cons : (setting : Setting) (x : BridgePut) (rest : List BridgePut) (w : World)
    → spread setting (x ∷ rest) w ≡ spread setting rest (spread_one setting x w)
spread_cons setting (to_publisher p note) rest w =
    ap (λ l. record w {
      to_timers = w.to_timers ++ from_port (timers_port_of_bridge setting.shape) (flat_map timer_part rest);
      to_publishers = l;
      to_queues = extended (λ q. from_port queue_port_of_bridge (flat_map (queue_part q) rest)) 0 w.to_queues;
    }) (put_first p note (λ n. flat_map (publisher_part n) rest) w.to_publishers)
spread_cons setting (to_queue q note) rest w =
    ap (λ l. record w {
      to_timers = w.to_timers ++ from_port (timers_port_of_bridge setting.shape) (flat_map timer_part rest);
      to_publishers = extended (λ p. flat_map (publisher_part p) rest) 0 w.to_publishers;
      to_queues = l;
    }) (extended_alike (λ n. from_port queue_port_of_bridge (flat_map (queue_part n) (to_queue q note ∷ rest)))
    (λ n. one_of q (queue_port_of_bridge, note) n ++ from_port queue_port_of_bridge (flat_map (queue_part n) rest))
    (from_bridge q note rest) 0 w.to_queues
    ∙ put_first q (queue_port_of_bridge, note) (λ n. from_port queue_port_of_bridge (flat_map (queue_part n) rest)) w.to_queues)
spread_cons setting (bridge.to_timers note) rest w =
    ap (λ l. record w {
      to_timers = l;
      to_publishers = extended (λ p. flat_map (publisher_part p) rest) 0 w.to_publishers;
      to_queues = extended (λ q. from_port queue_port_of_bridge (flat_map (queue_part q) rest)) 0 w.to_queues;
    }) (sym (append_assoc w.to_timers ((timers_port_of_bridge setting.shape, note) ∷ []) (from_port (timers_port_of_bridge setting.shape) (flat_map timer_part rest))))

-- THE TIMER SERVICE'S EVENTS

pub ticks_nil : (w : World) → spread_ticks [] w ≡ w
ticks_nil w = ap (λ t. record w { to_queues = t }) (extended_none 0 w.to_queues)

from_timers : (q : ℕ) (note : QueueNote) (rest : List (ℕ × QueueNote)) (n : ℕ)
    → from_port queue_port_of_timers (by_port n ((q, note) ∷ rest)) ≡ one_of q (queue_port_of_timers, note) n ++ from_port queue_port_of_timers (by_port n rest)
from_timers q note rest n = by_test (q == n)
  where
    by_test : (b : Bool) → from_port queue_port_of_timers (cond b (note ∷ by_port n rest) (by_port n rest))
        ≡ cond b ((queue_port_of_timers, note) ∷ []) [] ++ from_port queue_port_of_timers (by_port n rest)
    by_test true = refl
    by_test false = refl

pub ticks_cons : (e : ℕ × QueueNote) (rest : List (ℕ × QueueNote)) (w : World) → spread_ticks (e ∷ rest) w ≡ spread_ticks rest (tick_one e w)
ticks_cons e rest w = ap (λ l. record w { to_queues = l })
    (extended_alike (λ n. from_port queue_port_of_timers (by_port n (e ∷ rest))) (λ n. one_of e.0 (queue_port_of_timers, e.1) n ++ from_port queue_port_of_timers (by_port n rest))
    (from_timers e.0 e.1 rest) 0 w.to_queues
    ∙ put_first e.0 (queue_port_of_timers, e.1) (λ n. from_port queue_port_of_timers (by_port n rest)) w.to_queues)
