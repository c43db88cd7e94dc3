-- The numbers of the actors are the places of what they need, and of who puts on a lane.
use Rattle.std.proofs.Common.{◌≡◌, ℕ, suc, ◌+◌, ◌<◌, List, [], ◌∷◌, ◌++◌, length, get_or, refl, ap, ◌∙◌, arith, append_assoc}
use Rattle.std.specs.Prelude.{Option}
use Rattle.std.proofs.lemmas.List.{get_or_append_left, get_or-append-add}
use Rattle.mama_event.specs.declared.shape.Shape.{Shape}
use Rattle.mama_event.specs.Ports.{clients_of, publishers_of, queues_of}
use Rattle.mama_check_order.specs.declared.order.Need.{Need}
use Rattle.mama_script.specs.Script.{ScriptData}
use Rattle.mama_record.specs.RunData.{RunData}
use Rattle.mama_check.specs.Causal.{client_actor, publisher_actor, bridge_actor, queue_actor, of_each, actors_to_bridge, actors_to_timers, client_needs, publisher_needs, bridge_needs, timers_needs, queue_needs, all_needs, AreByNumber, AreByPort}
use Rattle.mama_check.proofs.Causes.{length_of_each, at_of_each}

-- what stands first, and what stands after it
at_left : {V : Type 0} (f : ℕ → V) (n : ℕ) (ys : List V) (k : ℕ) (d : V) → k < n → get_or (of_each n f ++ ys) k d ≡ f k
at_left f n ys k d low =
    let many : length (of_each n f) ≡ n = length_of_each f n in
    let inside : k < length (of_each n f) = omega arith in
    get_or_append_left (of_each n f) ys d k inside ∙ at_of_each f n k d low

at_right : {V : Type 0} (f : ℕ → V) (n : ℕ) (ys : List V) (k m : ℕ) (d : V) → m ≡ n + k → get_or (of_each n f ++ ys) m d ≡ get_or ys k d
at_right {V} f n ys k m d place =
    let many : length (of_each n f) ≡ n = length_of_each f n in
    let there : m ≡ length (of_each n f) + k = omega arith in
    ap (λ (i : ℕ). get_or (of_each n f ++ ys) i d) there ∙ get_or-append-add (of_each n f) ys k d

module _ (script : ScriptData) (run : RunData) where
  queue_part : List (List (Option Need))
  queue_part = of_each (queues_of script.shape) (queue_needs script run)

  after_publishers : List (List (Option Need))
  after_publishers = bridge_needs script run ∷ timers_needs script run ∷ queue_part

  after_clients : List (List (Option Need))
  after_clients = of_each (publishers_of script.shape) (publisher_needs script run) ++ after_publishers

  regrouped : all_needs script run ≡ of_each (clients_of script.shape) (client_needs script) ++ after_clients
  unfolding queue_part after_publishers after_clients
  regrouped =
      let c : List (List (Option Need)) = of_each (clients_of script.shape) (client_needs script) in
      let p : List (List (Option Need)) = of_each (publishers_of script.shape) (publisher_needs script run) in
      let m : List (List (Option Need)) = bridge_needs script run ∷ timers_needs script run ∷ [] in
      append_assoc (c ++ p) m (of_each (queues_of script.shape) (queue_needs script run))
      ∙ append_assoc c p (m ++ of_each (queues_of script.shape) (queue_needs script run))

  at_place : (n k : ℕ) → n ≡ clients_of script.shape + k → get_or (all_needs script run) n [] ≡ get_or after_clients k []
  at_place n k place =
      ap (λ (ls : List (List (Option Need))). get_or ls n []) regrouped ∙ at_right (client_needs script) (clients_of script.shape) after_clients k n [] place

  after_them : (n k : ℕ) → n ≡ clients_of script.shape + (publishers_of script.shape + k) → get_or (all_needs script run) n [] ≡ get_or after_publishers k []
  unfolding after_clients
  after_them n k place =
      at_place n (publishers_of script.shape + k) place
      ∙ at_right (publisher_needs script run) (publishers_of script.shape) after_publishers k (publishers_of script.shape + k) [] refl

  pub are_by_number : AreByNumber script run
  unfolding queue_part after_publishers after_clients
  are_by_number = record {
    clients = λ c low. ap (λ (ls : List (List (Option Need))). get_or ls c []) regrouped ∙ at_left (client_needs script) (clients_of script.shape) after_clients c [] low;
    publishers = λ p low. at_place (clients_of script.shape + p) p refl ∙ at_left (publisher_needs script run) (publishers_of script.shape) after_publishers p [] low;
    bridge = after_them (clients_of script.shape + publishers_of script.shape) 0 (omega arith);
    timers = after_them (clients_of script.shape + publishers_of script.shape + 1) 1 (omega arith);
    queues = λ q low. after_them (clients_of script.shape + publishers_of script.shape + 2 + q) (suc (suc q)) (omega arith) ∙ at_of_each (queue_needs script run) (queues_of script.shape) q [] low;
  }

pub are_by_port : (shape : Shape) → AreByPort shape
are_by_port shape =
    let c : List ℕ = of_each (clients_of shape) (client_actor shape) in
    let p : List ℕ = of_each (publishers_of shape) (publisher_actor shape) in
    let q : List ℕ = of_each (queues_of shape) (queue_actor shape) in
    let b : List ℕ = bridge_actor shape ∷ [] in
    let to_bridge : actors_to_bridge shape ≡ c ++ (p ++ q) = append_assoc c p q in
    let to_timers : actors_to_timers shape ≡ c ++ (q ++ b) = append_assoc c q b in
    record {
      bridge_clients = λ n low. ap (λ (ns : List ℕ). get_or ns n 0) to_bridge ∙ at_left (client_actor shape) (clients_of shape) (p ++ q) n 0 low;
      bridge_publishers = λ n low.
          ap (λ (ns : List ℕ). get_or ns (clients_of shape + n) 0) to_bridge
          ∙ at_right (client_actor shape) (clients_of shape) (p ++ q) n (clients_of shape + n) 0 refl
          ∙ at_left (publisher_actor shape) (publishers_of shape) q n 0 low;
      bridge_queues = λ n low.
          ap (λ (ns : List ℕ). get_or ns (clients_of shape + publishers_of shape + n) 0) to_bridge
          ∙ at_right (client_actor shape) (clients_of shape) (p ++ q) (publishers_of shape + n) (clients_of shape + publishers_of shape + n) 0 (omega arith)
          ∙ at_right (publisher_actor shape) (publishers_of shape) q n (publishers_of shape + n) 0 refl
          ∙ at_of_each (queue_actor shape) (queues_of shape) n 0 low;
      timers_clients = λ n low. ap (λ (ns : List ℕ). get_or ns n 0) to_timers ∙ at_left (client_actor shape) (clients_of shape) (q ++ b) n 0 low;
      timers_queues = λ n low.
          ap (λ (ns : List ℕ). get_or ns (clients_of shape + n) 0) to_timers
          ∙ at_right (client_actor shape) (clients_of shape) (q ++ b) n (clients_of shape + n) 0 refl
          ∙ at_left (queue_actor shape) (queues_of shape) b n 0 low;
      timers_bridge =
          ap (λ (ns : List ℕ). get_or ns (clients_of shape + queues_of shape) 0) to_timers
          ∙ at_right (client_actor shape) (clients_of shape) (q ++ b) (queues_of shape) (clients_of shape + queues_of shape) 0 refl
          ∙ at_right (queue_actor shape) (queues_of shape) b 0 (queues_of shape) 0 (omega arith);
    }
