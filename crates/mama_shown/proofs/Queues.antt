-- The queues among the seats of a crew, with their journals.
use Rattle.std.specs.Prelude.{slice_index_or}
use Rattle.std.specs.List.{flat_map}
use Rattle.std.proofs.Common.{◌≡◌, ℕ, List, [], ◌∷◌, ◌++◌, map, refl, sym, ◌∙◌, ap, append-nil}
use Rattle.std.proofs.lemmas.List.{map-append}
use Rattle.std.proofs.lemmas.List.Concat.{flat_map-append}
use Rattle.mama_journal.specs.Journal.{numbers_below}
use Rattle.mama_edge.specs.declared.gate.GateActor.{GateActor}
use Rattle.mama_edge.specs.declared.gate.GateActor.TheVariants as gate
use Rattle.mama_event.specs.declared.shape.Shape.{Shape}
use Rattle.mama_event.specs.declared.to_queue.QueueNote.{QueueNote}
use Rattle.mama_event.specs.Ports.{clients_of, publishers_of, queues_of}
use Rattle.mama_crew.specs.Seat as crew
use Rattle.mama_crew.specs.Seat.{journal_in}
use Rattle.mama_crew.specs.Crew.{client_actors, publisher_actors, queue_actors, actors_of}
use Rattle.mama_crew.specs.declared.seat.Seat.{Seat}
use Rattle.mama_crew.specs.declared.seat.Seat.TheVariants.{Client, Publisher, Bridge, Timers, Queue}
use Rattle.mama_crew.specs.Journals.{events_in}
use Rattle.mama_board.specs.Values.{ReaderValue, new_reader}
use Rattle.mama_shown.specs.declared.seat.ShownSeat.{ShownSeat}
use Rattle.mama_shown.specs.Seat.{queue_in, actor_of}

pub flat_of_map : {A B C : Type 0} (f : B → List C) (h : A → B) (xs : List A) → flat_map f (map h xs) ≡ flat_map (λ (x : A). f (h x)) xs
flat_of_map f h [] = refl
flat_of_map {A} {B} {C} f h (x ∷ xs) = ap (λ (ys : List C). f (h x) ++ ys) (flat_of_map f h xs)

-- ---- the numbers of the queues of a shape

none_of : (actor : ℕ → GateActor) → ((n : ℕ) → queue_in (actor n) ≡ []) → (ns : List ℕ) → flat_map queue_in (map actor ns) ≡ []
none_of actor none [] = refl
none_of actor none (n ∷ ns) = ap (λ (xs : List ℕ). xs ++ flat_map queue_in (map actor ns)) (none n) ∙ none_of actor none ns

own_of : (ns : List ℕ) → flat_map queue_in (map (λ (q : ℕ). gate.Queue q) ns) ≡ ns
own_of [] = refl
own_of (n ∷ ns) = ap (λ (xs : List ℕ). n ∷ xs) (own_of ns)

shape_queues : (shape : Shape) → flat_map queue_in (actors_of shape) ≡ numbers_below (queues_of shape)
shape_queues shape =
    let others : List GateActor = gate.Bridge ∷ gate.Timers ∷ queue_actors shape in
    flat_map-append queue_in (client_actors shape) (publisher_actors shape ++ others)
    ∙ ap (λ (xs : List ℕ). xs ++ flat_map queue_in (publisher_actors shape ++ others)) (none_of (λ (c : ℕ). gate.Client c) (λ n. refl) (numbers_below (clients_of shape)))
    ∙ flat_map-append queue_in (publisher_actors shape) others
    ∙ ap (λ (xs : List ℕ). xs ++ flat_map queue_in others) (none_of (λ (p : ℕ). gate.Publisher p) (λ n. refl) (numbers_below (publishers_of shape)))
    ∙ own_of (numbers_below (queues_of shape))

-- the queues among seats of these actors
pub queues_numbered : {A : Type 0} (who : A → GateActor) (seats : List A) (shape : Shape) → map who seats ≡ actors_of shape → flat_map (λ (s : A). queue_in (who s)) seats ≡ numbers_below (queues_of shape)
queues_numbered who seats shape is = sym (flat_of_map queue_in who seats) ∙ ap (flat_map queue_in) is ∙ shape_queues shape

-- ---- the queues with their journals

abbrev pub Pair : Type 0
Pair = ℕ × List (ℕ × QueueNote)

abbrev pub pair_in : {L : Type 0} → Seat L → List Pair
pair_in (Client c seat) = []
pair_in (Publisher p post) = []
pair_in (Bridge post) = []
pair_in (Timers post) = []
pair_in (Queue q post) = (q, post.served.journal) ∷ []

abbrev pub pairs : {L H R : Type 0} → List (ShownSeat L H R) → List Pair
pairs seats = flat_map (λ s. pair_in s.seat.seat) seats

pair_number : {L : Type 0} (seat : Seat L) → map (λ (p : Pair). p.0) (pair_in seat) ≡ queue_in (crew.actor_of seat)
pair_number (Client c seat) = refl
pair_number (Publisher p post) = refl
pair_number (Bridge post) = refl
pair_number (Timers post) = refl
pair_number (Queue q post) = refl

pair_journal : {L : Type 0} (seat : Seat L) → map (λ (p : Pair). p.1) (pair_in seat) ≡ events_in seat
pair_journal (Client c seat) = refl
pair_journal (Publisher p post) = refl
pair_journal (Bridge post) = refl
pair_journal (Timers post) = refl
pair_journal (Queue q post) = refl

-- the seat of a queue is that of its number and journal
pub pair_is : {L : Type 0} (seat : Seat L) (q : ℕ) → queue_in (crew.actor_of seat) ≡ q ∷ [] → pair_in seat ≡ (q, journal_in seat) ∷ []
pair_is (Client c seat) q is = absurd (cc is)
pair_is (Publisher p post) q is = absurd (cc is)
pair_is (Bridge post) q is = absurd (cc is)
pair_is (Timers post) q is = absurd (cc is)
pair_is (Queue p post) q is = let same : p ≡ q = cc in ap (λ (n : ℕ). (n, post.served.journal) ∷ []) same

module _ {L H R : Type 0} where
  pub pairs_numbers : (seats : List (ShownSeat L H R)) → map (λ (p : Pair). p.0) (pairs seats) ≡ flat_map (λ (s : ShownSeat L H R). queue_in (actor_of s)) seats
  pairs_numbers [] = refl
  pairs_numbers (s ∷ seats) =
      map-append (λ (p : Pair). p.0) (pair_in s.seat.seat) (pairs seats)
      ∙ ap (λ (xs : List ℕ). xs ++ map (λ (p : Pair). p.0) (pairs seats)) (pair_number s.seat.seat)
      ∙ ap (λ (xs : List ℕ). queue_in (actor_of s) ++ xs) (pairs_numbers seats)

  pub pairs_journals : (seats : List (ShownSeat L H R)) → map (λ (p : Pair). p.1) (pairs seats) ≡ flat_map events_in (map (λ (s : ShownSeat L H R). s.seat.seat) seats)
  pairs_journals [] = refl
  pairs_journals (s ∷ seats) =
      map-append (λ (p : Pair). p.1) (pair_in s.seat.seat) (pairs seats)
      ∙ ap (λ (xs : List (List (ℕ × QueueNote))). xs ++ map (λ (p : Pair). p.1) (pairs seats)) (pair_journal s.seat.seat)
      ∙ ap (λ (xs : List (List (ℕ × QueueNote))). events_in s.seat.seat ++ xs) (pairs_journals seats)

  -- the queues of some seats, of one more, and of the rest
  pub pairs_at : (front : List (ShownSeat L H R)) (s : ShownSeat L H R) (rest whole : List (ShownSeat L H R)) (q : ℕ) → front ++ s ∷ rest ≡ whole → queue_in (actor_of s) ≡ q ∷ []
      → pairs whole ≡ pairs front ++ (q, journal_in s.seat.seat) ∷ pairs rest
  pairs_at front s rest whole q is number =
      ap (λ (seats : List (ShownSeat L H R)). pairs seats) (sym is)
      ∙ flat_map-append (λ (t : ShownSeat L H R). pair_in t.seat.seat) front (s ∷ rest)
      ∙ ap (λ (ps : List Pair). pairs front ++ (ps ++ pairs rest)) (pair_is s.seat.seat q number)

-- ---- the readers of the queues

-- one reader more, of the queue that an actor is
pub reader_more : (old new : List ReaderValue) (reader : ReaderValue) (number : ℕ) (queues : List ℕ) → new ≡ old ++ reader ∷ [] → reader ≡ new_reader number → number ∷ [] ≡ queues → new ≡ old ++ map new_reader queues
reader_more old new reader number queues more is queue = more ∙ ap (λ (r : ReaderValue). old ++ r ∷ []) is ∙ ap (λ (ns : List ℕ). old ++ map new_reader ns) queue

pub reader_none : (old : List ReaderValue) (queues : List ℕ) → [] ≡ queues → old ≡ old ++ map new_reader queues
reader_none old queues none = sym (append-nil old) ∙ ap (λ (ns : List ℕ). old ++ map new_reader ns) none

-- the readers of the queues among some actors, and of one actor more
pub readers_more : {A : Type 0} (who : A → GateActor) (before : List A) (x : A) (old new : List ReaderValue) → new ≡ old ++ map new_reader (queue_in (who x)) → old ≡ map new_reader (flat_map (λ (y : A). queue_in (who y)) before)
    → new ≡ map new_reader (flat_map (λ (y : A). queue_in (who y)) (before ++ x ∷ []))
readers_more {A} who before x old new more were =
    let queues : A → List ℕ = λ y. queue_in (who y) in
    more ∙ ap (λ (rs : List ReaderValue). rs ++ map new_reader (queues x)) were
    ∙ sym (ap (map new_reader) (flat_map-append queues before (x ∷ []) ∙ ap (λ (ns : List ℕ). flat_map queues before ++ ns) (append-nil (queues x))) ∙ map-append new_reader (flat_map queues before) (queues x))
