-- Ports: who puts by which, and how they are spelled.
use Rattle.std.proofs.Common.{◌≡◌, ℕ, ◌+◌, ◌-◌, ◌<◌, ◌≤◌, ◌^◌, Bool, true, false, ltb, List, ◌∷◌, length, Option, Some, None, Result, Ok, refl, sym, ap, ◌∙◌, arith, eq-eqb}
use Rattle.std.specs.Prelude.{option_and_then}
use Rattle.std.proofs.lemmas.Bool.{ltb-true, lt-ltb, eqb-true, le-leb, le-ltb}
use Rattle.mama_edge.specs.Decimal.{decimal}
use Rattle.mama_event.specs.declared.shape.Shape.{Shape}
use Rattle.mama_event.specs.Ports.{clients_of, publishers_of, queues_of, timers_port_of_bridge}
use Rattle.mama_words.specs.Reading.{◌>>=◌}
use Rattle.mama_words.specs.Number.{below_in}
use Rattle.mama_words.specs.Parting.{is_empty_word}
use Rattle.mama_words.specs.WordForm.{IsWord}
use Rattle.mama_words.proofs.Choices.{ok_is, chosen_some, and_then_some, bind_ok, step_ok}
use Rattle.mama_words.proofs.Numbers.{below_in_again, below_in_found}
use Rattle.mama_words.proofs.Sentences.{is_simple, piece_cons}
use Rattle.mama_words.proofs.Spellings.{decimal_word}
use Rattle.mama_rules_services.specs.Ports.{ByClient, ByPublisher, ByQueue, ByBridge, bridge_putter, timers_putter}
use Rattle.mama_log_line.specs.Journal.{port_of, port_in, came_by}
pub use Rattle.mama_rules_services.proofs.PutterPorts.{by_bridge_port, by_timers_port, by_queue_port}

-- ---- which actor puts by a port

pub bridge_client : (shape : Shape) (c : ℕ) → c < clients_of shape → bridge_putter shape c ≡ ByClient c
bridge_client shape c h = rw (lt-ltb c (clients_of shape) h) refl

pub bridge_publisher : (shape : Shape) (p : ℕ) → p < publishers_of shape → bridge_putter shape (clients_of shape + p) ≡ ByPublisher p
bridge_publisher shape p h =
    let cs : ℕ = clients_of shape in
    let ps : ℕ = publishers_of shape in
    rw (le-ltb (cs + p) cs (omega arith), le-leb cs (cs + p) (omega arith), lt-ltb (cs + p) (cs + ps) (omega (arith, h))) (ap ByPublisher (omega arith))

pub bridge_queue : (shape : Shape) (q : ℕ) → q < queues_of shape → bridge_putter shape (clients_of shape + publishers_of shape + q) ≡ ByQueue q
bridge_queue shape q h =
    let cs : ℕ = clients_of shape in
    let ps : ℕ = publishers_of shape in
    let qs : ℕ = queues_of shape in
    rw (le-ltb (cs + ps + q) cs (omega arith), le-leb cs (cs + ps + q) (omega arith), le-ltb (cs + ps + q) (cs + ps) (omega arith), le-leb (cs + ps) (cs + ps + q) (omega arith), lt-ltb (cs + ps + q) (cs + ps + qs) (omega (arith, h)))
    (ap ByQueue (omega arith))

pub timers_client : (shape : Shape) (c : ℕ) → c < clients_of shape → timers_putter shape c ≡ ByClient c
timers_client shape c h = rw (lt-ltb c (clients_of shape) h) refl

pub timers_queue : (shape : Shape) (q : ℕ) → q < queues_of shape → timers_putter shape (clients_of shape + q) ≡ ByQueue q
timers_queue shape q h =
    let cs : ℕ = clients_of shape in
    let qs : ℕ = queues_of shape in
    rw (le-ltb (cs + q) cs (omega arith), le-leb cs (cs + q) (omega arith), lt-ltb (cs + q) (cs + qs) (omega (arith, h))) (ap ByQueue (omega arith))

pub timers_bridge : (shape : Shape) → timers_putter shape (timers_port_of_bridge shape) ≡ ByBridge
timers_bridge shape =
    let cs : ℕ = clients_of shape in
    let qs : ℕ = queues_of shape in
    rw (le-ltb (cs + qs) cs (omega arith), le-leb cs (cs + qs) (omega arith), le-ltb (cs + qs) (cs + qs) (omega arith), eq-eqb (cs + qs) (cs + qs) refl) refl

-- ---- how a port is spelled

-- what a port that was read is
pub record PortIs (first count : ℕ) (digits : List ℕ) (port : ℕ) : Type 0 where
  pub number : ℕ
  pub there : number < count
  pub digits_are : digits ≡ decimal number
  pub port_is : first + number ≡ port
  pub small : port < 2 ^ 32

pub port_of_found : (first n port : ℕ) → port_of first n ≡ Some port → (first + n ≡ port) × (port < 2 ^ 32)
port_of_found first n port e =
    let q = chosen_some (ltb n (2 ^ 32 - first)) (first + n) port e in
    let lt = ltb-true n (2 ^ 32 - first) q.0 in
    let is = q.1 in
    (is, omega (arith, lt, is))

pub port_of_again : (first n : ℕ) → first + n < 2 ^ 32 → port_of first n ≡ Some (first + n)
port_of_again first n h = rw (lt-ltb n (2 ^ 32 - first) (omega (arith, h))) refl

pub port_found : (first count : ℕ) (digits : List ℕ) (port : ℕ) → port_in first count digits ≡ Some port → PortIs first count digits port
unfolding port_in
port_found first count digits port e =
    let p = and_then_some (port_of first) (below_in count digits) port e in
    let q = port_of_found first p.0 port p.2 in
    let b = below_in_found count digits p.0 p.1 in
    record { number = p.0; there = b.0; digits_are = b.1; port_is = q.0; small = q.1 }

pub port_again : (first count n : ℕ) → n < count → first + n < 2 ^ 32 → port_in first count (decimal n) ≡ Some (first + n)
unfolding port_in
port_again first count n lt small = rw (below_in_again count n lt (omega (arith, small))) (port_of_again first n small)

pub client_port_again : (count n : ℕ) → n < count → n < 2 ^ 32 → port_in 0 count (decimal n) ≡ Some n
client_port_again count n lt small = port_again 0 count n lt (omega (arith, small)) ∙ ap (λ (x : ℕ). Some x) (omega arith)

past_any : (first : ℕ) → 2 ^ 32 ≤ first → (o : Option ℕ) → None ≡ option_and_then (port_of first) o
past_any first h None = refl
past_any first h (Some n) = sym (rw (le-ltb n (2 ^ 32 - first) (omega (arith, h))) refl)

-- no port is where the first of its kind is past the last
pub port_past : (first count : ℕ) (digits : List ℕ) → 2 ^ 32 ≤ first → None ≡ port_in first count digits
unfolding port_in
port_past first count digits h = past_any first h (below_in count digits)

never_true : (b : Bool) → (b ≡ true → ⊥) → b ≡ false
never_true true h = absurd (h refl)
never_true false h = refl

-- a letter with a number is a word
pub numbered_word : (letter n : ℕ) → is_simple letter ≡ true → n < 2 ^ 64 → IsWord (letter ∷ decimal n)
numbered_word letter n simple small = record {
  piece = piece_cons letter (decimal n) simple (decimal_word n small).piece;
  some = never_true (is_empty_word (letter ∷ decimal n)) (λ h. let z : length (letter ∷ decimal n) ≡ 0 = eqb-true (length (letter ∷ decimal n)) 0 h in cc);
}

-- a port with the note that came by it
pub came_found : {A : Type 0} (port : Option ℕ) (r : Result A ℕ) (e : ℕ × A) → came_by port r ≡ Ok e → (port ≡ Some e.0) × (r ≡ Ok e.1)
came_found {A} port r e h =
    let p = step_ok 9 port (λ n. r >>= λ note. Ok (n, note)) e h in
    let q = bind_ok r (λ note. Ok (p.0, note)) e p.2 in
    let pair : ℕ × A = (p.0, q.0) in
    let same : pair ≡ e = ok_is pair e q.2 in
    (p.1 ∙ ap (λ (x : ℕ × A). Some x.0) same, q.1 ∙ ap (λ (x : ℕ × A). Ok x.1) same)

pub came_again : {A : Type 0} (port : Option ℕ) (r : Result A ℕ) (n : ℕ) (note : A) → port ≡ Some n → r ≡ Ok note → came_by port r ≡ Ok (n, note)
came_again port r n note e f = rw (e, f) refl
