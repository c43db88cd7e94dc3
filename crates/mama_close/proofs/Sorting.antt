-- The seats of a crew, sorted by kind.
use Rattle.std.specs.List.{All, flat_map}
use Rattle.std.proofs.Common.{◌≡◌, ℕ, List, [], ◌∷◌, ◌++◌, length, map, refl, sym, ◌∙◌, ap, subst, arith, append-nil}
use Rattle.std.proofs.lemmas.List.{length-append, length-map, map-append}
use Rattle.std.proofs.lemmas.List.Concat.{flat_map-append}
use Rattle.std.proofs.lemmas.List.Elements.{All-nil, All-cons, All-head, All-tail, All-append}
use Rattle.mama_journal.specs.Journal.{numbers_below}
use Rattle.mama_edge.specs.declared.gate.GateActor.{GateActor}
use Rattle.mama_edge.specs.declared.gate.GateActor.TheVariants as gate
use Rattle.mama_event.specs.declared.shape.Shape.{Shape}
use Rattle.mama_event.specs.Ports.{clients_of, publishers_of, queues_of}
use Rattle.mama_script.specs.Script.{ScriptData}
use Rattle.mama_posts_clients.specs.Client as client
use Rattle.mama_posts_services.specs.Publisher.{PublisherPostValue}
use Rattle.mama_posts_services.specs.Publisher as publisher
use Rattle.mama_posts_services.specs.Bridge.{BridgePostValue}
use Rattle.mama_posts_services.specs.Bridge as bridge
use Rattle.mama_posts_services.specs.Timers.{TimersPostValue}
use Rattle.mama_posts_services.specs.Timers as timers
use Rattle.mama_posts_services.specs.Service as service
use Rattle.mama_posts_clients.specs.Queue.{QueuePostValue}
use Rattle.mama_posts_clients.specs.Queue as queue
use Rattle.mama_crew.specs.Client.{ClientSeatValue}
use Rattle.mama_crew.specs.Hall.{HallValue}
use Rattle.mama_crew.specs.Crew.{IsCrew, actors_of, client_actors, publisher_actors, queue_actors}
use Rattle.mama_crew.specs.Seat.{actor_of, IsSeatOf, HasEnded, IsClientIn, IsPublisherIn, IsBridgeIn, IsTimersIn, IsQueueIn}
use Rattle.mama_crew.specs.declared.seat.Seat.{Seat}
use Rattle.mama_crew.specs.declared.seat.Seat.TheVariants.{Client, Publisher, Bridge, Timers, Queue}
use Rattle.mama_crew.specs.Journals as journals
use Rattle.mama_crew.specs.Journals.{AreJournalsOf}
use Rattle.mama_gather.specs.Left.{events_by}
use Rattle.mama_close.specs.Kinds.{client_in, publisher_in, bridge_in, timers_in, queue_in, read_by, entries_by, Kinds, AreKindsOf, record_of}

-- ---- lists of lists

all_flat : {A B : Type 0} (Q : A → Type 0) (P : B → Type 0) (f : A → List B) → ((x : A) → Q x → All P (f x)) → (xs : List A) → All Q xs → All P (flat_map f xs)
all_flat Q P f each [] all = All-nil P
all_flat Q P f each (x ∷ xs) all = All-append P (f x) (flat_map f xs) (each x (All-head Q x xs all)) (all_flat Q P f each xs (All-tail Q x xs all))

flat_same : {A B : Type 0} (f g : A → List B) → ((x : A) → f x ≡ g x) → (xs : List A) → flat_map f xs ≡ flat_map g xs
flat_same f g same [] = refl
flat_same {A} {B} f g same (x ∷ xs) = ap (λ (ys : List B). ys ++ flat_map f xs) (same x) ∙ ap (λ (ys : List B). g x ++ ys) (flat_same f g same xs)

map_flat : {A B C : Type 0} (h : B → C) (f : A → List B) (xs : List A) → map h (flat_map f xs) ≡ flat_map (λ x. map h (f x)) xs
map_flat h f [] = refl
map_flat {A} {B} {C} h f (x ∷ xs) = map-append h (f x) (flat_map f xs) ∙ ap (λ (ys : List C). map h (f x) ++ ys) (map_flat h f xs)

pub flat_of_map : {A B C : Type 0} (f : B → List C) (h : A → B) (xs : List A) → flat_map f (map h xs) ≡ flat_map (λ x. f (h x)) xs
flat_of_map f h [] = refl
flat_of_map {A} {B} {C} f h (x ∷ xs) = ap (λ (ys : List C). f (h x) ++ ys) (flat_of_map f h xs)

flat_none : {A B : Type 0} (f : A → List B) → ((x : A) → f x ≡ []) → (xs : List A) → flat_map f xs ≡ []
flat_none f none [] = refl
flat_none {A} {B} f none (x ∷ xs) = ap (λ (ys : List B). ys ++ flat_map f xs) (none x) ∙ flat_none f none xs

flat_own : (xs : List ℕ) → flat_map (λ (x : ℕ). x ∷ []) xs ≡ xs
flat_own [] = refl
flat_own (x ∷ xs) = ap (λ (ys : List ℕ). x ∷ ys) (flat_own xs)

only_last : {A : Type 0} (rest : List A) (x : A) (xs : List A) → xs ≡ rest ++ x ∷ [] → length xs ≡ 1 → xs ≡ x ∷ []
only_last [] x xs is one = is
only_last (y ∷ rest) x xs is one =
    let more : length xs ≡ length ((y ∷ rest) ++ x ∷ []) = ap length is in
    let sum = length-append rest (x ∷ []) in
    absurd (omega (arith, one, more, sum))

-- ---- the numbers of the actors of one kind

abbrev client_number : GateActor → List ℕ
client_number (gate.Client c) = c ∷ []
client_number (gate.Publisher p) = []
client_number gate.Bridge = []
client_number gate.Timers = []
client_number (gate.Queue q) = []

abbrev publisher_number : GateActor → List ℕ
publisher_number (gate.Client c) = []
publisher_number (gate.Publisher p) = p ∷ []
publisher_number gate.Bridge = []
publisher_number gate.Timers = []
publisher_number (gate.Queue q) = []

abbrev queue_number : GateActor → List ℕ
queue_number (gate.Client c) = []
queue_number (gate.Publisher p) = []
queue_number gate.Bridge = []
queue_number gate.Timers = []
queue_number (gate.Queue q) = q ∷ []

abbrev bridge_number : GateActor → List ℕ
bridge_number (gate.Client c) = []
bridge_number (gate.Publisher p) = []
bridge_number gate.Bridge = 0 ∷ []
bridge_number gate.Timers = []
bridge_number (gate.Queue q) = []

abbrev timers_number : GateActor → List ℕ
timers_number (gate.Client c) = []
timers_number (gate.Publisher p) = []
timers_number gate.Bridge = []
timers_number gate.Timers = 0 ∷ []
timers_number (gate.Queue q) = []

-- what a test of the actors' numbers finds in a shape
in_shape : (number : GateActor → List ℕ) (shape : Shape) (cs ps b t qs : List ℕ) → flat_map number (client_actors shape) ≡ cs → flat_map number (publisher_actors shape) ≡ ps → number gate.Bridge ≡ b → number gate.Timers ≡ t
    → flat_map number (queue_actors shape) ≡ qs → flat_map number (actors_of shape) ≡ cs ++ (ps ++ (b ++ (t ++ qs)))
in_shape number shape cs ps b t qs clients publishers bridge timers queues =
    flat_map-append number (client_actors shape) (publisher_actors shape ++ (gate.Bridge ∷ gate.Timers ∷ queue_actors shape))
    ∙ ap (λ (xs : List ℕ). xs ++ flat_map number (publisher_actors shape ++ (gate.Bridge ∷ gate.Timers ∷ queue_actors shape))) clients
    ∙ ap (λ (xs : List ℕ). cs ++ xs) (flat_map-append number (publisher_actors shape) (gate.Bridge ∷ gate.Timers ∷ queue_actors shape)
    ∙ ap (λ (xs : List ℕ). xs ++ (number gate.Bridge ++ (number gate.Timers ++ flat_map number (queue_actors shape)))) publishers
    ∙ ap (λ (xs : List ℕ). ps ++ (xs ++ (number gate.Timers ++ flat_map number (queue_actors shape)))) bridge
    ∙ ap (λ (xs : List ℕ). ps ++ (b ++ (xs ++ flat_map number (queue_actors shape)))) timers
    ∙ ap (λ (xs : List ℕ). ps ++ (b ++ (t ++ xs))) queues)

own_of : (number : GateActor → List ℕ) (actor : ℕ → GateActor) → ((n : ℕ) → number (actor n) ≡ n ∷ []) → (ns : List ℕ) → flat_map number (map actor ns) ≡ ns
own_of number actor own ns = flat_of_map number actor ns ∙ flat_same (λ n. number (actor n)) (λ n. n ∷ []) own ns ∙ flat_own ns

none_of : (number : GateActor → List ℕ) (actor : ℕ → GateActor) → ((n : ℕ) → number (actor n) ≡ []) → (ns : List ℕ) → flat_map number (map actor ns) ≡ []
none_of number actor none ns = flat_of_map number actor ns ∙ flat_none (λ n. number (actor n)) none ns

shape_clients : (shape : Shape) → flat_map client_number (actors_of shape) ≡ numbers_below (clients_of shape)
shape_clients shape =
    in_shape client_number shape (numbers_below (clients_of shape)) [] [] [] []
    (own_of client_number (λ c. gate.Client c) (λ n. refl) (numbers_below (clients_of shape)))
    (none_of client_number (λ p. gate.Publisher p) (λ n. refl) (numbers_below (publishers_of shape))) refl refl
    (none_of client_number (λ q. gate.Queue q) (λ n. refl) (numbers_below (queues_of shape)))
    ∙ append-nil (numbers_below (clients_of shape))

shape_publishers : (shape : Shape) → flat_map publisher_number (actors_of shape) ≡ numbers_below (publishers_of shape)
shape_publishers shape =
    in_shape publisher_number shape [] (numbers_below (publishers_of shape)) [] [] []
    (none_of publisher_number (λ c. gate.Client c) (λ n. refl) (numbers_below (clients_of shape)))
    (own_of publisher_number (λ p. gate.Publisher p) (λ n. refl) (numbers_below (publishers_of shape))) refl refl
    (none_of publisher_number (λ q. gate.Queue q) (λ n. refl) (numbers_below (queues_of shape)))
    ∙ append-nil (numbers_below (publishers_of shape))

shape_queues : (shape : Shape) → flat_map queue_number (actors_of shape) ≡ numbers_below (queues_of shape)
shape_queues shape =
    in_shape queue_number shape [] [] [] [] (numbers_below (queues_of shape))
    (none_of queue_number (λ c. gate.Client c) (λ n. refl) (numbers_below (clients_of shape)))
    (none_of queue_number (λ p. gate.Publisher p) (λ n. refl) (numbers_below (publishers_of shape))) refl refl
    (own_of queue_number (λ q. gate.Queue q) (λ n. refl) (numbers_below (queues_of shape)))

shape_bridge : (shape : Shape) → flat_map bridge_number (actors_of shape) ≡ 0 ∷ []
shape_bridge shape =
    in_shape bridge_number shape [] [] (0 ∷ []) [] []
    (none_of bridge_number (λ c. gate.Client c) (λ n. refl) (numbers_below (clients_of shape)))
    (none_of bridge_number (λ p. gate.Publisher p) (λ n. refl) (numbers_below (publishers_of shape))) refl refl
    (none_of bridge_number (λ q. gate.Queue q) (λ n. refl) (numbers_below (queues_of shape)))

shape_timers : (shape : Shape) → flat_map timers_number (actors_of shape) ≡ 0 ∷ []
shape_timers shape =
    in_shape timers_number shape [] [] [] (0 ∷ []) []
    (none_of timers_number (λ c. gate.Client c) (λ n. refl) (numbers_below (clients_of shape)))
    (none_of timers_number (λ p. gate.Publisher p) (λ n. refl) (numbers_below (publishers_of shape))) refl refl
    (none_of timers_number (λ q. gate.Queue q) (λ n. refl) (numbers_below (queues_of shape)))

-- ---- one seat

abbrev BridgeEnded : BridgePostValue → Type 0
BridgeEnded post = service.HasEnded (bridge.is_over post.service.shape) post.service

abbrev TimersEnded : TimersPostValue → Type 0
TimersEnded post = service.HasEnded (timers.is_over post.service.shape) post.service

module _ {L : Type 0} where
  client_own : (s : Seat L) → map (λ x. x.0) (client_in s) ≡ client_number (actor_of s)
  client_own (Client c seat) = refl
  client_own (Publisher p post) = refl
  client_own (Bridge post) = refl
  client_own (Timers post) = refl
  client_own (Queue q post) = refl

  publisher_own : (s : Seat L) → map (λ x. x.0) (publisher_in s) ≡ publisher_number (actor_of s)
  publisher_own (Client c seat) = refl
  publisher_own (Publisher p post) = refl
  publisher_own (Bridge post) = refl
  publisher_own (Timers post) = refl
  publisher_own (Queue q post) = refl

  queue_own : (s : Seat L) → map (λ x. x.0) (queue_in s) ≡ queue_number (actor_of s)
  queue_own (Client c seat) = refl
  queue_own (Publisher p post) = refl
  queue_own (Bridge post) = refl
  queue_own (Timers post) = refl
  queue_own (Queue q post) = refl

  bridge_own : (s : Seat L) → map (λ (x : BridgePostValue). 0) (bridge_in s) ≡ bridge_number (actor_of s)
  bridge_own (Client c seat) = refl
  bridge_own (Publisher p post) = refl
  bridge_own (Bridge post) = refl
  bridge_own (Timers post) = refl
  bridge_own (Queue q post) = refl

  timers_own : (s : Seat L) → map (λ (x : TimersPostValue). 0) (timers_in s) ≡ timers_number (actor_of s)
  timers_own (Client c seat) = refl
  timers_own (Publisher p post) = refl
  timers_own (Bridge post) = refl
  timers_own (Timers post) = refl
  timers_own (Queue q post) = refl

  -- what the seats of one kind have as numbers
  numbers : {V : Type 0} (number : V → ℕ) (pick : Seat L → List V) (of_actor : GateActor → List ℕ) (own : (s : Seat L) → map number (pick s) ≡ of_actor (actor_of s)) (seats : List (Seat L)) (actors : List GateActor) (ns : List ℕ)
      → map actor_of seats ≡ actors → flat_map of_actor actors ≡ ns → map number (flat_map pick seats) ≡ ns
  numbers number pick of_actor own seats actors ns is sum =
      map_flat number pick seats ∙ flat_same (λ s. map number (pick s)) (λ s. of_actor (actor_of s)) own seats
      ∙ sym (flat_of_map of_actor actor_of seats) ∙ ap (flat_map of_actor) is ∙ sum

  -- a journal that the record has of a seat, by the seat's kind
  told : {V J : Type 0} (journal : V → J) (pick : Seat L → List V) (give : Seat L → List J) → ((s : Seat L) → map journal (pick s) ≡ give s) → (seats : List (Seat L)) → map journal (flat_map pick seats) ≡ flat_map give seats
  told journal pick give own seats = map_flat journal pick seats ∙ flat_same (λ s. map journal (pick s)) give own seats

  module _ (script : ScriptData) (hall : HallValue) where
    client_sits : (s : Seat L) → IsSeatOf script hall s → All (λ x. IsClientIn script hall x.0 x.1) (client_in s)
    client_sits (Client c seat) sits = All-cons (λ x. IsClientIn script hall x.0 x.1) (c, seat) [] sits (All-nil (λ x. IsClientIn script hall x.0 x.1))
    client_sits (Publisher p post) sits = All-nil (λ x. IsClientIn script hall x.0 x.1)
    client_sits (Bridge post) sits = All-nil (λ x. IsClientIn script hall x.0 x.1)
    client_sits (Timers post) sits = All-nil (λ x. IsClientIn script hall x.0 x.1)
    client_sits (Queue q post) sits = All-nil (λ x. IsClientIn script hall x.0 x.1)

    publisher_sits : (s : Seat L) → IsSeatOf script hall s → All (λ x. IsPublisherIn script hall x.0 x.1) (publisher_in s)
    publisher_sits (Client c seat) sits = All-nil (λ x. IsPublisherIn script hall x.0 x.1)
    publisher_sits (Publisher p post) sits = All-cons (λ x. IsPublisherIn script hall x.0 x.1) (p, post) [] sits (All-nil (λ x. IsPublisherIn script hall x.0 x.1))
    publisher_sits (Bridge post) sits = All-nil (λ x. IsPublisherIn script hall x.0 x.1)
    publisher_sits (Timers post) sits = All-nil (λ x. IsPublisherIn script hall x.0 x.1)
    publisher_sits (Queue q post) sits = All-nil (λ x. IsPublisherIn script hall x.0 x.1)

    queue_sits : (s : Seat L) → IsSeatOf script hall s → All (λ x. IsQueueIn script hall x.0 x.1) (queue_in s)
    queue_sits (Client c seat) sits = All-nil (λ x. IsQueueIn script hall x.0 x.1)
    queue_sits (Publisher p post) sits = All-nil (λ x. IsQueueIn script hall x.0 x.1)
    queue_sits (Bridge post) sits = All-nil (λ x. IsQueueIn script hall x.0 x.1)
    queue_sits (Timers post) sits = All-nil (λ x. IsQueueIn script hall x.0 x.1)
    queue_sits (Queue q post) sits = All-cons (λ x. IsQueueIn script hall x.0 x.1) (q, post) [] sits (All-nil (λ x. IsQueueIn script hall x.0 x.1))

    bridge_sits : (s : Seat L) → IsSeatOf script hall s → All (IsBridgeIn script hall) (bridge_in s)
    bridge_sits (Client c seat) sits = All-nil (IsBridgeIn script hall)
    bridge_sits (Publisher p post) sits = All-nil (IsBridgeIn script hall)
    bridge_sits (Bridge post) sits = All-cons (IsBridgeIn script hall) post [] sits (All-nil (IsBridgeIn script hall))
    bridge_sits (Timers post) sits = All-nil (IsBridgeIn script hall)
    bridge_sits (Queue q post) sits = All-nil (IsBridgeIn script hall)

    timers_sits : (s : Seat L) → IsSeatOf script hall s → All (IsTimersIn script hall) (timers_in s)
    timers_sits (Client c seat) sits = All-nil (IsTimersIn script hall)
    timers_sits (Publisher p post) sits = All-nil (IsTimersIn script hall)
    timers_sits (Bridge post) sits = All-nil (IsTimersIn script hall)
    timers_sits (Timers post) sits = All-cons (IsTimersIn script hall) post [] sits (All-nil (IsTimersIn script hall))
    timers_sits (Queue q post) sits = All-nil (IsTimersIn script hall)

  client_over : (s : Seat L) → HasEnded s → All (λ (x : ℕ × ClientSeatValue). client.HasEnded x.1.post) (client_in s)
  client_over (Client c seat) over = All-cons (λ (x : ℕ × ClientSeatValue). client.HasEnded x.1.post) (c, seat) [] over (All-nil (λ (x : ℕ × ClientSeatValue). client.HasEnded x.1.post))
  client_over (Publisher p post) over = All-nil (λ (x : ℕ × ClientSeatValue). client.HasEnded x.1.post)
  client_over (Bridge post) over = All-nil (λ (x : ℕ × ClientSeatValue). client.HasEnded x.1.post)
  client_over (Timers post) over = All-nil (λ (x : ℕ × ClientSeatValue). client.HasEnded x.1.post)
  client_over (Queue q post) over = All-nil (λ (x : ℕ × ClientSeatValue). client.HasEnded x.1.post)

  publisher_over : (s : Seat L) → HasEnded s → All (λ (x : ℕ × PublisherPostValue). publisher.HasEnded x.1) (publisher_in s)
  publisher_over (Client c seat) over = All-nil (λ (x : ℕ × PublisherPostValue). publisher.HasEnded x.1)
  publisher_over (Publisher p post) over = All-cons (λ (x : ℕ × PublisherPostValue). publisher.HasEnded x.1) (p, post) [] over (All-nil (λ (x : ℕ × PublisherPostValue). publisher.HasEnded x.1))
  publisher_over (Bridge post) over = All-nil (λ (x : ℕ × PublisherPostValue). publisher.HasEnded x.1)
  publisher_over (Timers post) over = All-nil (λ (x : ℕ × PublisherPostValue). publisher.HasEnded x.1)
  publisher_over (Queue q post) over = All-nil (λ (x : ℕ × PublisherPostValue). publisher.HasEnded x.1)

  queue_over : (s : Seat L) → HasEnded s → All (λ (x : ℕ × QueuePostValue). queue.HasEnded x.1) (queue_in s)
  queue_over (Client c seat) over = All-nil (λ (x : ℕ × QueuePostValue). queue.HasEnded x.1)
  queue_over (Publisher p post) over = All-nil (λ (x : ℕ × QueuePostValue). queue.HasEnded x.1)
  queue_over (Bridge post) over = All-nil (λ (x : ℕ × QueuePostValue). queue.HasEnded x.1)
  queue_over (Timers post) over = All-nil (λ (x : ℕ × QueuePostValue). queue.HasEnded x.1)
  queue_over (Queue q post) over = All-cons (λ (x : ℕ × QueuePostValue). queue.HasEnded x.1) (q, post) [] over (All-nil (λ (x : ℕ × QueuePostValue). queue.HasEnded x.1))

  bridge_over : (s : Seat L) → HasEnded s → All BridgeEnded (bridge_in s)
  bridge_over (Client c seat) over = All-nil BridgeEnded
  bridge_over (Publisher p post) over = All-nil BridgeEnded
  bridge_over (Bridge post) over = All-cons BridgeEnded post [] over (All-nil BridgeEnded)
  bridge_over (Timers post) over = All-nil BridgeEnded
  bridge_over (Queue q post) over = All-nil BridgeEnded

  timers_over : (s : Seat L) → HasEnded s → All TimersEnded (timers_in s)
  timers_over (Client c seat) over = All-nil TimersEnded
  timers_over (Publisher p post) over = All-nil TimersEnded
  timers_over (Bridge post) over = All-nil TimersEnded
  timers_over (Timers post) over = All-cons TimersEnded post [] over (All-nil TimersEnded)
  timers_over (Queue q post) over = All-nil TimersEnded

  -- ---- a crew has one bridge and one timer service

  module _ (script : ScriptData) (hall : HallValue) (seats : List (Seat L)) (crew : IsCrew script hall seats) where
    pub bridge_there : (bridges : List BridgePostValue) → bridges ≡ flat_map bridge_in seats → bridges ≡ [] → ⊥
    bridge_there bridges are none =
        let one : map (λ (x : BridgePostValue). 0) (flat_map bridge_in seats) ≡ 0 ∷ [] =
        numbers (λ (x : BridgePostValue). 0) bridge_in bridge_number bridge_own seats (actors_of script.shape) (0 ∷ []) crew.actors (shape_bridge script.shape) in
        let zero : List ℕ = 0 ∷ [] in
        let here : map (λ (x : BridgePostValue). 0) [] ≡ zero = subst (λ (xs : List BridgePostValue). map (λ (x : BridgePostValue). 0) xs ≡ zero) (sym are ∙ none) one in
        cc here

    pub service_there : (services : List TimersPostValue) → services ≡ flat_map timers_in seats → services ≡ [] → ⊥
    service_there services are none =
        let one : map (λ (x : TimersPostValue). 0) (flat_map timers_in seats) ≡ 0 ∷ [] =
        numbers (λ (x : TimersPostValue). 0) timers_in timers_number timers_own seats (actors_of script.shape) (0 ∷ []) crew.actors (shape_timers script.shape) in
        let zero : List ℕ = 0 ∷ [] in
        let here : map (λ (x : TimersPostValue). 0) [] ≡ zero = subst (λ (xs : List TimersPostValue). map (λ (x : TimersPostValue). 0) xs ≡ zero) (sym are ∙ none) one in
        cc here

  -- ---- a crew whose seats have ended

  module _ (script : ScriptData) (hall : HallValue) (seats : List (Seat L)) (crew : IsCrew script hall seats) (ended : All HasEnded seats)
      (bridges : List BridgePostValue) (services : List TimersPostValue) (post : BridgePostValue) (service_post : TimersPostValue)
      (bridges_are : flat_map bridge_in seats ≡ bridges ++ post ∷ []) (services_are : flat_map timers_in seats ≡ services ++ service_post ∷ []) where
    abbrev kinds : Kinds
    kinds = record { clients = flat_map client_in seats; publishers = flat_map publisher_in seats; bridge = post; timers = service_post; queues = flat_map queue_in seats }

    one_bridge : flat_map bridge_in seats ≡ post ∷ []
    one_bridge =
        only_last bridges post (flat_map bridge_in seats) bridges_are
        (sym (length-map (flat_map bridge_in seats) (λ (x : BridgePostValue). 0)) ∙ ap length (numbers (λ (x : BridgePostValue). 0) bridge_in bridge_number bridge_own seats (actors_of script.shape) (0 ∷ []) crew.actors (shape_bridge script.shape)))

    one_service : flat_map timers_in seats ≡ service_post ∷ []
    one_service =
        only_last services service_post (flat_map timers_in seats) services_are
        (sym (length-map (flat_map timers_in seats) (λ (x : TimersPostValue). 0)) ∙ ap length (numbers (λ (x : TimersPostValue). 0) timers_in timers_number timers_own seats (actors_of script.shape) (0 ∷ []) crew.actors (shape_timers script.shape)))

    pub are_kinds : AreKindsOf script hall kinds
    are_kinds = record {
      hall_is = crew.hall_is;
      client_numbers = numbers (λ x. x.0) client_in client_number client_own seats (actors_of script.shape) (numbers_below (clients_of script.shape)) crew.actors (shape_clients script.shape);
      publisher_numbers = numbers (λ x. x.0) publisher_in publisher_number publisher_own seats (actors_of script.shape) (numbers_below (publishers_of script.shape)) crew.actors (shape_publishers script.shape);
      queue_numbers = numbers (λ x. x.0) queue_in queue_number queue_own seats (actors_of script.shape) (numbers_below (queues_of script.shape)) crew.actors (shape_queues script.shape);
      clients = all_flat (IsSeatOf script hall) (λ x. IsClientIn script hall x.0 x.1) client_in (client_sits script hall) seats crew.each;
      publishers = all_flat (IsSeatOf script hall) (λ x. IsPublisherIn script hall x.0 x.1) publisher_in (publisher_sits script hall) seats crew.each;
      bridge = All-head (IsBridgeIn script hall) post [] (subst (All (IsBridgeIn script hall)) one_bridge (all_flat (IsSeatOf script hall) (IsBridgeIn script hall) bridge_in (bridge_sits script hall) seats crew.each));
      timers = All-head (IsTimersIn script hall) service_post [] (subst (All (IsTimersIn script hall)) one_service (all_flat (IsSeatOf script hall) (IsTimersIn script hall) timers_in (timers_sits script hall) seats crew.each));
      queues = all_flat (IsSeatOf script hall) (λ x. IsQueueIn script hall x.0 x.1) queue_in (queue_sits script hall) seats crew.each;
      clients_ended = all_flat HasEnded (λ (x : ℕ × ClientSeatValue). client.HasEnded x.1.post) client_in client_over seats ended;
      publishers_ended = all_flat HasEnded (λ (x : ℕ × PublisherPostValue). publisher.HasEnded x.1) publisher_in publisher_over seats ended;
      bridge_ended = All-head BridgeEnded post [] (subst (All BridgeEnded) one_bridge (all_flat HasEnded BridgeEnded bridge_in bridge_over seats ended));
      timers_ended = All-head TimersEnded service_post [] (subst (All TimersEnded) one_service (all_flat HasEnded TimersEnded timers_in timers_over seats ended));
      queues_ended = all_flat HasEnded (λ (x : ℕ × QueuePostValue). queue.HasEnded x.1) queue_in queue_over seats ended;
    }

    client_told : (s : Seat L) → map read_by (client_in s) ≡ journals.moments_in s
    client_told (Client c seat) = refl
    client_told (Publisher p post) = refl
    client_told (Bridge post) = refl
    client_told (Timers post) = refl
    client_told (Queue q post) = refl

    publisher_told : (s : Seat L) → map entries_by (publisher_in s) ≡ journals.entries_in s
    publisher_told (Client c seat) = refl
    publisher_told (Publisher p post) = refl
    publisher_told (Bridge post) = refl
    publisher_told (Timers post) = refl
    publisher_told (Queue q post) = refl

    queue_told : (s : Seat L) → map events_by (queue_in s) ≡ journals.events_in s
    queue_told (Client c seat) = refl
    queue_told (Publisher p post) = refl
    queue_told (Bridge post) = refl
    queue_told (Timers post) = refl
    queue_told (Queue q post) = refl

    bridge_told : (s : Seat L) → map (λ (x : BridgePostValue). x.service.journal) (bridge_in s) ≡ journals.bridge_in s
    bridge_told (Client c seat) = refl
    bridge_told (Publisher p post) = refl
    bridge_told (Bridge post) = refl
    bridge_told (Timers post) = refl
    bridge_told (Queue q post) = refl

    timers_told : (s : Seat L) → map (λ (x : TimersPostValue). x.service.journal) (timers_in s) ≡ journals.timers_in s
    timers_told (Client c seat) = refl
    timers_told (Publisher p post) = refl
    timers_told (Bridge post) = refl
    timers_told (Timers post) = refl
    timers_told (Queue q post) = refl

    pub are_journals : AreJournalsOf seats (record_of script kinds)
    are_journals = record {
      clients = told read_by client_in journals.moments_in client_told seats;
      publishers = told entries_by publisher_in journals.entries_in publisher_told seats;
      bridge = ap (map (λ (x : BridgePostValue). x.service.journal)) (sym one_bridge) ∙ told (λ (x : BridgePostValue). x.service.journal) bridge_in journals.bridge_in bridge_told seats;
      timers = ap (map (λ (x : TimersPostValue). x.service.journal)) (sym one_service) ∙ told (λ (x : TimersPostValue). x.service.journal) timers_in journals.timers_in timers_told seats;
      queues = told events_by queue_in journals.events_in queue_told seats;
    }

    -- the same of the lists that were sorted
    module _ (clients : List (ℕ × ClientSeatValue)) (publishers : List (ℕ × PublisherPostValue)) (queues : List (ℕ × QueuePostValue))
        (clients_are : clients ≡ flat_map client_in seats) (publishers_are : publishers ≡ flat_map publisher_in seats) (queues_are : queues ≡ flat_map queue_in seats) where
      abbrev sorted : Kinds
      sorted = record { clients = clients; publishers = publishers; bridge = post; timers = service_post; queues = queues }

      same_kinds : sorted ≡ kinds
      same_kinds =
          ap (λ (xs : List (ℕ × ClientSeatValue)). record { clients = xs; publishers = publishers; bridge = post; timers = service_post; queues = queues }) clients_are
          ∙ ap (λ (xs : List (ℕ × PublisherPostValue)). record { clients = flat_map client_in seats; publishers = xs; bridge = post; timers = service_post; queues = queues }) publishers_are
          ∙ ap (λ (xs : List (ℕ × QueuePostValue)). record { clients = flat_map client_in seats; publishers = flat_map publisher_in seats; bridge = post; timers = service_post; queues = xs }) queues_are

      pub sorted_kinds : AreKindsOf script hall sorted
      sorted_kinds = subst (AreKindsOf script hall) (sym same_kinds) are_kinds

      pub sorted_journals : AreJournalsOf seats (record_of script sorted)
      sorted_journals = subst (λ (k : Kinds). AreJournalsOf seats (record_of script k)) (sym same_kinds) are_journals
