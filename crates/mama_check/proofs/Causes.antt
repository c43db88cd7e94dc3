-- What the entries of all actors need, put together from the walks over their journals.
use Rattle.std.proofs.Common.{◌≡◌, ℕ, zero, suc, ◌+◌, ◌<◌, inl, inr, List, [], ◌∷◌, ◌++◌, length, map, get_or, refl, ap, sym, ◌∙◌, arith, add-one, append_assoc}
use Rattle.std.specs.Prelude.{Option}
use Rattle.std.proofs.lemmas.Bool.{cases_lt}
use Rattle.std.proofs.lemmas.List.{map-append, get_or_append_left, get_or_push, ext_get_or}
use Rattle.mama_journal.specs.Journal.{numbers_below}
use Rattle.mama_event.specs.declared.shape.Shape.{Shape}
use Rattle.mama_event.specs.declared.to_bridge.BridgeNote.{BridgeNote}
use Rattle.mama_event.specs.declared.to_timers.TimersNote.{TimersNote}
use Rattle.mama_event.specs.Ports.{clients_of, publishers_of, queues_of}
use Rattle.mama_script.specs.Script.{ScriptData}
use Rattle.mama_script.specs.Tree.{IsShaped}
use Rattle.mama_record.specs.RunData.{RunData}
use Rattle.mama_rules_rounds.specs.Client.{bridge_part, timers_part}
use Rattle.mama_check_order.specs.declared.order.Need.{Need}
use Rattle.mama_check_order.proofs.LaneWalk.{length_last}
use Rattle.mama_check_puts.specs.Puts.{AreLists, bridge_put_to_timers}
use Rattle.mama_check_puts.specs.declared.client.ClientPuts.{ClientPuts}
use Rattle.mama_check_queue.specs.Served.{ServedData, bridge_puts, timers_puts}
use Rattle.mama_check.specs.Puts.{to_bridge_in, to_timers_in, client_to_bridge, client_to_timers, publisher_to_bridge, queue_to_bridge, queue_to_timers, AreClientPuts, AreServed}
use Rattle.mama_check.specs.Causal.{client_actor, publisher_actor, bridge_actor, queue_actor, of_each, actors_to_bridge, actors_to_timers, all_to_bridge, all_to_timers, client_needs, publisher_needs, bridge_needs, timers_needs, queue_needs, all_needs}
use Rattle.mama_check.proofs.Lanes.{publishers_are, served_lists}

-- ---- for each of some actors

-- one actor more
pub one_of_each : {V : Type 0} (f : ℕ → V) (n : ℕ) → of_each (n + 1) f ≡ of_each n f ++ f n ∷ []
one_of_each f n = ap (λ (k : ℕ). map f (numbers_below k)) (add-one n) ∙ map-append f (numbers_below n) (n ∷ [])

pub length_of_each : {V : Type 0} (f : ℕ → V) (n : ℕ) → length (of_each n f) ≡ n
length_of_each f zero = refl
length_of_each f (suc n) = ap length (map-append f (numbers_below n) (n ∷ [])) ∙ length_last (of_each n f) (f n) ∙ ap suc (length_of_each f n)

pub at_of_each : {V : Type 0} (f : ℕ → V) (n k : ℕ) (d : V) → k < n → get_or (of_each n f) k d ≡ f k
at_of_each f zero k d h = absurd (omega (arith, h))
at_of_each {V} f (suc n) k d h =
    let many : length (of_each n f) ≡ n = length_of_each f n in
    ap (λ (xs : List V). get_or xs k d) (map-append f (numbers_below n) (n ∷ []))
    ∙ elim (cases_lt k n) [
      | inl below ↦
          let inside : k < length (of_each n f) = omega arith in
          get_or_append_left (of_each n f) (f n ∷ []) d k inside ∙ at_of_each f n k d below
      | inr not_below ↦
          let at : n ≡ k = omega arith in
          get_or_push (of_each n f) (f n) d k (many ∙ at) ∙ ap f at
    ]

same_each : {V : Type 0} (f g : ℕ → V) (n : ℕ) → ((k : ℕ) → f k ≡ g k) → of_each n f ≡ of_each n g
same_each f g zero h = refl
same_each {V} f g (suc n) h =
    map-append f (numbers_below n) (n ∷ [])
    ∙ ap (λ (xs : List V). xs ++ f n ∷ []) (same_each f g n h)
    ∙ ap (λ (x : V). of_each n g ++ x ∷ []) (h n)
    ∙ sym (map-append g (numbers_below n) (n ∷ []))

lists_of_each : {V : Type 0} (lists : List (List V)) (n : ℕ) (f : ℕ → List V) → AreLists lists n f → lists ≡ of_each n f
lists_of_each lists n f are =
    ext_get_or [] lists (of_each n f) (are.as_many ∙ sym (length_of_each f n))
    (λ k h. let low : k < n = omega (arith, are.as_many) in are.each k low ∙ sym (at_of_each f n k [] low))

-- what is there for one actor more is put last
pub added : {V : Type 0} (f : ℕ → V) (n : ℕ) (start now new : List V) (v : V) → now ≡ start ++ of_each n f → new ≡ now ++ v ∷ [] → v ≡ f n → new ≡ start ++ of_each (n + 1) f
added {V} f n start now new v so_far is last =
    is
    ∙ ap (λ (xs : List V). xs ++ v ∷ []) so_far
    ∙ ap (λ (x : V). (start ++ of_each n f) ++ x ∷ []) last
    ∙ append_assoc start (of_each n f) (f n ∷ [])
    ∙ ap (λ (xs : List V). start ++ xs) (sym (one_of_each f n))

-- the same of vectors
pub added_to : {A V : Type 0} (g : A → V) (f : ℕ → V) (n : ℕ) (start : List V) (now new : List A) (x : A) → map g now ≡ start ++ of_each n f → new ≡ now ++ x ∷ [] → g x ≡ f n → map g new ≡ start ++ of_each (n + 1) f
added_to {A} {V} g f n start now new x so_far is last =
    added f n start (map g now) (map g new) (g x) so_far (ap (λ (xs : List A). map g xs) is ∙ map-append g now (x ∷ [])) last

-- ---- the actors behind the ports

pub are_to_bridge : (shape : Shape) (none clients publishers queues : List ℕ) (first_publisher first_queue : ℕ) → none ≡ [] → first_publisher ≡ clients_of shape → first_queue ≡ clients_of shape + publishers_of shape + 2
    → clients ≡ none ++ of_each (clients_of shape) (λ k. 0 + k) → publishers ≡ clients ++ of_each (publishers_of shape) (λ k. first_publisher + k) → queues ≡ publishers ++ of_each (queues_of shape) (λ k. first_queue + k)
    → queues ≡ actors_to_bridge shape
are_to_bridge shape none clients publishers queues first_publisher first_queue empty at_publishers at_queues add_clients add_publishers add_queues =
    add_queues
    ∙ ap (λ (n : ℕ). publishers ++ of_each (queues_of shape) (λ k. n + k)) at_queues
    ∙ ap (λ (xs : List ℕ). xs ++ of_each (queues_of shape) (queue_actor shape))
    (add_publishers
    ∙ ap (λ (n : ℕ). clients ++ of_each (publishers_of shape) (λ k. n + k)) at_publishers
    ∙ ap (λ (xs : List ℕ). xs ++ of_each (publishers_of shape) (publisher_actor shape))
    (add_clients ∙ ap (λ (xs : List ℕ). xs ++ of_each (clients_of shape) (λ k. 0 + k)) empty ∙ same_each (λ k. 0 + k) (client_actor shape) (clients_of shape) (λ k. omega arith)))

pub are_to_timers : (shape : Shape) (none clients queues all : List ℕ) (bridge first_queue : ℕ) → none ≡ [] → bridge ≡ bridge_actor shape → first_queue ≡ clients_of shape + publishers_of shape + 2
    → clients ≡ none ++ of_each (clients_of shape) (λ k. 0 + k) → queues ≡ clients ++ of_each (queues_of shape) (λ k. first_queue + k) → all ≡ queues ++ bridge ∷ []
    → all ≡ actors_to_timers shape
are_to_timers shape none clients queues all bridge first_queue empty at_bridge at_queues add_clients add_queues add_bridge =
    add_bridge
    ∙ ap (λ (b : ℕ). queues ++ b ∷ []) at_bridge
    ∙ ap (λ (xs : List ℕ). xs ++ bridge_actor shape ∷ [])
    (add_queues
    ∙ ap (λ (n : ℕ). clients ++ of_each (queues_of shape) (λ k. n + k)) at_queues
    ∙ ap (λ (xs : List ℕ). xs ++ of_each (queues_of shape) (queue_actor shape))
    (add_clients ∙ ap (λ (xs : List ℕ). xs ++ of_each (clients_of shape) (λ k. 0 + k)) empty ∙ same_each (λ k. 0 + k) (client_actor shape) (clients_of shape) (λ k. omega arith)))

-- ---- what was put on the lanes

pub are_all_to_bridge : (script : ScriptData) (run : RunData) (clients : List ClientPuts) (publishers : List (List (ℕ × BridgeNote))) (served : List ServedData) (lists : List (List (ℕ × BridgeNote)))
    → IsShaped script → length run.queues ≡ queues_of script.shape → AreClientPuts script run clients → AreLists publishers (length script.publishers) (publisher_to_bridge script run) → AreServed script run served
    → lists ≡ (to_bridge_in clients ++ publishers) ++ map bridge_puts served → lists ≡ all_to_bridge script run
are_all_to_bridge script run clients publishers served lists shaped many are_clients are_publishers are_served is =
    let by_clients : to_bridge_in clients ≡ of_each (clients_of script.shape) (client_to_bridge script run) =
    lists_of_each (to_bridge_in clients) (length script.clients) (client_to_bridge script run) are_clients.bridge ∙ ap (λ (n : ℕ). of_each n (client_to_bridge script run)) (sym shaped.clients) in
    let by_publishers : publishers ≡ of_each (publishers_of script.shape) (publisher_to_bridge script run) =
    lists_of_each publishers (length script.publishers) (publisher_to_bridge script run) are_publishers ∙ ap (λ (n : ℕ). of_each n (publisher_to_bridge script run)) (sym (publishers_are script shaped)) in
    let by_queues : map bridge_puts served ≡ of_each (queues_of script.shape) (queue_to_bridge script run) =
    lists_of_each (map bridge_puts served) (queues_of script.shape) (queue_to_bridge script run) (served_lists bridge_part script run served are_served many) in
    is
    ∙ ap (λ (xs : List (List (ℕ × BridgeNote))). (xs ++ publishers) ++ map bridge_puts served) by_clients
    ∙ ap (λ (xs : List (List (ℕ × BridgeNote))). (of_each (clients_of script.shape) (client_to_bridge script run) ++ xs) ++ map bridge_puts served) by_publishers
    ∙ ap (λ (xs : List (List (ℕ × BridgeNote))). (of_each (clients_of script.shape) (client_to_bridge script run) ++ of_each (publishers_of script.shape) (publisher_to_bridge script run)) ++ xs) by_queues

pub are_all_to_timers : (script : ScriptData) (run : RunData) (clients : List ClientPuts) (served : List ServedData) (ticking : List (ℕ × TimersNote)) (lists : List (List (ℕ × TimersNote)))
    → IsShaped script → length run.queues ≡ queues_of script.shape → AreClientPuts script run clients → AreServed script run served → ticking ≡ bridge_put_to_timers script.shape run.bridge
    → lists ≡ (to_timers_in clients ++ map timers_puts served) ++ ticking ∷ [] → lists ≡ all_to_timers script run
are_all_to_timers script run clients served ticking lists shaped many are_clients are_served are_ticking is =
    let by_clients : to_timers_in clients ≡ of_each (clients_of script.shape) (client_to_timers script run) =
    lists_of_each (to_timers_in clients) (length script.clients) (client_to_timers script run) are_clients.timers ∙ ap (λ (n : ℕ). of_each n (client_to_timers script run)) (sym shaped.clients) in
    let by_queues : map timers_puts served ≡ of_each (queues_of script.shape) (queue_to_timers script run) =
    lists_of_each (map timers_puts served) (queues_of script.shape) (queue_to_timers script run) (served_lists timers_part script run served are_served many) in
    is
    ∙ ap (λ (xs : List (List (ℕ × TimersNote))). (xs ++ map timers_puts served) ++ ticking ∷ []) by_clients
    ∙ ap (λ (xs : List (List (ℕ × TimersNote))). (of_each (clients_of script.shape) (client_to_timers script run) ++ xs) ++ ticking ∷ []) by_queues
    ∙ ap (λ (x : List (ℕ × TimersNote)). (of_each (clients_of script.shape) (client_to_timers script run) ++ of_each (queues_of script.shape) (queue_to_timers script run)) ++ x ∷ []) are_ticking

-- ---- all together

pub are_all_needs : (script : ScriptData) (run : RunData) (none clients publishers bridge timers queues : List (List (Option Need))) → IsShaped script → none ≡ []
    → clients ≡ none ++ of_each (length script.clients) (client_needs script) → publishers ≡ clients ++ of_each (length script.publishers) (publisher_needs script run)
    → bridge ≡ publishers ++ bridge_needs script run ∷ [] → timers ≡ bridge ++ timers_needs script run ∷ [] → queues ≡ timers ++ of_each (queues_of script.shape) (queue_needs script run)
    → queues ≡ all_needs script run
are_all_needs script run none clients publishers bridge timers queues shaped empty add_clients add_publishers add_bridge add_timers add_queues =
    let by_clients : clients ≡ of_each (clients_of script.shape) (client_needs script) =
    add_clients
    ∙ ap (λ (xs : List (List (Option Need))). xs ++ of_each (length script.clients) (client_needs script)) empty
    ∙ ap (λ (n : ℕ). of_each n (client_needs script)) (sym shaped.clients) in
    let by_publishers : publishers ≡ of_each (clients_of script.shape) (client_needs script) ++ of_each (publishers_of script.shape) (publisher_needs script run) =
    add_publishers
    ∙ ap (λ (xs : List (List (Option Need))). xs ++ of_each (length script.publishers) (publisher_needs script run)) by_clients
    ∙ ap (λ (n : ℕ). of_each (clients_of script.shape) (client_needs script) ++ of_each n (publisher_needs script run)) (sym (publishers_are script shaped)) in
    add_queues
    ∙ ap (λ (xs : List (List (Option Need))). xs ++ of_each (queues_of script.shape) (queue_needs script run))
    (add_timers
    ∙ ap (λ (xs : List (List (Option Need))). xs ++ timers_needs script run ∷ []) add_bridge
    ∙ append_assoc publishers (bridge_needs script run ∷ []) (timers_needs script run ∷ [])
    ∙ ap (λ (xs : List (List (Option Need))). xs ++ bridge_needs script run ∷ timers_needs script run ∷ []) by_publishers)

-- one vector more
pub one_put : {A V : Type 0} (g : A → V) (now new : List A) (x : A) (v : V) → new ≡ now ++ x ∷ [] → g x ≡ v → map g new ≡ map g now ++ v ∷ []
one_put {A} {V} g now new x v is last = ap (λ (xs : List A). map g xs) is ∙ map-append g now (x ∷ []) ∙ ap (λ (y : V). map g now ++ y ∷ []) last
