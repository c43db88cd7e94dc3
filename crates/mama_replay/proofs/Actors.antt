-- The actors in the order of the passes, and the actor of a number.
use Rattle.std.specs.Prelude.{slice_get, option_map}
use Rattle.std.proofs.Common.{◌≡◌, ℕ, zero, suc, ◌+◌, ◌<◌, List, [], ◌∷◌, ◌++◌, length, map, Some, refl, sym, ◌∙◌, ap, arith, ⊎_elim}
use Rattle.std.proofs.lemmas.Bool.{cases_lt}
use Rattle.std.proofs.lemmas.List.{length-append, map-append, length_push}
use Rattle.mama_journal.specs.Journal.{numbers_below}
use Rattle.mama_event.specs.declared.shape.Shape.{Shape}
use Rattle.mama_event.specs.Ports.{clients_of, publishers_of, queues_of}
use Rattle.mama_check.specs.declared.verdict.Actor.{Actor}
use Rattle.mama_check.specs.declared.verdict.Actor.TheVariants as actor
use Rattle.mama_replay.specs.Passes.{in_order}

-- ---- places of lists

pub count_of_numbers : (n : ℕ) (f : ℕ → Actor) → length (map f (numbers_below n)) ≡ n
count_of_numbers zero f = refl
count_of_numbers (suc n) f = ap (λ (xs : List Actor). length xs) (map-append f (numbers_below n) (n ∷ [])) ∙ length_push (map f (numbers_below n)) (f n) ∙ (let ih = count_of_numbers n f in omega (arith, ih))

-- what stands at a place of two lists one after another
pub first_part : {X : Type 0} (xs ys : List X) (k : ℕ) → k < length xs → slice_get (xs ++ ys) k ≡ slice_get xs k
first_part [] ys k low = absurd (omega arith)
first_part (x ∷ xs) ys zero low = refl
first_part (x ∷ xs) ys (suc k) low = first_part xs ys k (omega arith)

pub later_part : {X : Type 0} (xs ys : List X) (k : ℕ) → slice_get (xs ++ ys) (length xs + k) ≡ slice_get ys k
later_part [] ys k = let place : 0 + k ≡ k = omega arith in ap (slice_get ys) place
later_part (x ∷ xs) ys k = let place : suc (length xs) + k ≡ suc (length xs + k) = omega arith in ap (slice_get (x ∷ (xs ++ ys))) place ∙ later_part xs ys k

-- each number below a count stands at its place
number_at : (n k : ℕ) → k < n → slice_get (numbers_below n) k ≡ Some k
number_at zero k low = absurd (omega arith)
number_at (suc n) k low = ⊎_elim
    (λ less. first_part (numbers_below n) (n ∷ []) k (omega (arith, many n, less)) ∙ number_at n k less)
    (λ more.
    let place : k ≡ length (numbers_below n) + 0 = omega (arith, many n, more, low) in
    let same : n ≡ k = omega (arith, more, low) in
    ap (slice_get (numbers_below n ++ n ∷ [])) place ∙ later_part (numbers_below n) (n ∷ []) 0 ∙ ap (λ (i : ℕ). Some i) same)
    (cases_lt k n)
  where
    many : (n : ℕ) → length (numbers_below n) ≡ n
    many zero = refl
    many (suc n) = length_push (numbers_below n) n ∙ (let ih = many n in omega (arith, ih))

get_mapped : (f : ℕ → Actor) (xs : List ℕ) (k : ℕ) → slice_get (map f xs) k ≡ option_map f (slice_get xs k)
get_mapped f [] k = refl
get_mapped f (x ∷ xs) zero = refl
get_mapped f (x ∷ xs) (suc k) = get_mapped f xs k

pub mapped_number : (f : ℕ → Actor) (n k : ℕ) → k < n → slice_get (map f (numbers_below n)) k ≡ Some (f k)
mapped_number f n k low = get_mapped f (numbers_below n) k ∙ ap (option_map f) (number_at n k low)

pub both_count : (c p : ℕ) (cs ps : List Actor) → length cs ≡ c → length ps ≡ p → length (cs ++ ps) ≡ c + p
both_count c p cs ps many_c many_p = let both : length (cs ++ ps) ≡ length cs + length ps = length-append cs ps in omega (arith, both, many_c, many_p)

first_of : (xs ys : List Actor) (k n : ℕ) → length xs ≡ n → k < n → slice_get (xs ++ ys) k ≡ slice_get xs k
first_of xs ys k n many low = first_part xs ys k (omega (arith, many, low))

later_of : (xs ys : List Actor) (k n : ℕ) → length xs ≡ n → slice_get (xs ++ ys) (n + k) ≡ slice_get ys k
later_of xs ys k n many = ap (λ (m : ℕ). slice_get (xs ++ ys) (m + k)) (sym many) ∙ later_part xs ys k

-- ---- the actor of a number

module _ (shape : Shape) where
  abbrev clients_in : List Actor
  clients_in = map (λ c. actor.Client c) (numbers_below (clients_of shape))

  abbrev publishers_in : List Actor
  publishers_in = map (λ p. actor.Publisher p) (numbers_below (publishers_of shape))

  abbrev others_in : List Actor
  others_in = actor.Bridge ∷ actor.Timers ∷ map (λ q. actor.Queue q) (numbers_below (queues_of shape))

  pub client_at : (c : ℕ) → c < clients_of shape → slice_get (in_order shape) c ≡ Some (actor.Client c)
  client_at c low =
      first_of (clients_in ++ publishers_in) others_in c (clients_of shape + publishers_of shape) (both_count (clients_of shape) (publishers_of shape) clients_in publishers_in (count_of_numbers (clients_of shape) (λ c. actor.Client c)) (count_of_numbers (publishers_of shape) (λ p. actor.Publisher p))) (omega arith)
      ∙ first_of clients_in publishers_in c (clients_of shape) (count_of_numbers (clients_of shape) (λ c. actor.Client c)) low
      ∙ mapped_number (λ c. actor.Client c) (clients_of shape) c low

  pub publisher_at : (p : ℕ) → p < publishers_of shape → slice_get (in_order shape) (clients_of shape + p) ≡ Some (actor.Publisher p)
  publisher_at p low =
      first_of (clients_in ++ publishers_in) others_in (clients_of shape + p) (clients_of shape + publishers_of shape) (both_count (clients_of shape) (publishers_of shape) clients_in publishers_in (count_of_numbers (clients_of shape) (λ c. actor.Client c)) (count_of_numbers (publishers_of shape) (λ p. actor.Publisher p))) (omega arith)
      ∙ later_of clients_in publishers_in p (clients_of shape) (count_of_numbers (clients_of shape) (λ c. actor.Client c))
      ∙ mapped_number (λ p. actor.Publisher p) (publishers_of shape) p low

  other_at : (k : ℕ) → slice_get (in_order shape) (clients_of shape + publishers_of shape + k) ≡ slice_get others_in k
  other_at k = later_of (clients_in ++ publishers_in) others_in k (clients_of shape + publishers_of shape) (both_count (clients_of shape) (publishers_of shape) clients_in publishers_in (count_of_numbers (clients_of shape) (λ c. actor.Client c)) (count_of_numbers (publishers_of shape) (λ p. actor.Publisher p)))

  pub bridge_at : slice_get (in_order shape) (clients_of shape + publishers_of shape) ≡ Some actor.Bridge
  bridge_at =
      let place : clients_of shape + publishers_of shape ≡ clients_of shape + publishers_of shape + 0 = omega arith in
      ap (slice_get (in_order shape)) place ∙ other_at 0

  pub timers_at : slice_get (in_order shape) (clients_of shape + publishers_of shape + 1) ≡ Some actor.Timers
  timers_at = other_at 1

  pub queue_at : (q : ℕ) → q < queues_of shape → slice_get (in_order shape) (clients_of shape + publishers_of shape + 2 + q) ≡ Some (actor.Queue q)
  queue_at q low =
      let place : clients_of shape + publishers_of shape + 2 + q ≡ clients_of shape + publishers_of shape + (suc (suc q)) = omega arith in
      ap (slice_get (in_order shape)) place ∙ other_at (suc (suc q)) ∙ mapped_number (λ q. actor.Queue q) (queues_of shape) q low

-- ---- the same by the number alone

counted : (cs ps qs : List Actor) (b t : Actor) (c p q : ℕ) → length cs ≡ c → length ps ≡ p → length qs ≡ q → length ((cs ++ ps) ++ (b ∷ t ∷ qs)) ≡ c + p + 2 + q
counted cs ps qs b t c p q many_c many_p many_q =
    let whole : length ((cs ++ ps) ++ (b ∷ t ∷ qs)) ≡ length (cs ++ ps) + suc (suc (length qs)) = length-append (cs ++ ps) (b ∷ t ∷ qs) in
    let first : length (cs ++ ps) ≡ length cs + length ps = length-append cs ps in
    omega (arith, whole, first, many_c, many_p, many_q)

pub order_count : (shape : Shape) → length (in_order shape) ≡ clients_of shape + publishers_of shape + 2 + queues_of shape
order_count shape =
    counted (clients_in shape) (publishers_in shape) (map (λ q. actor.Queue q) (numbers_below (queues_of shape))) actor.Bridge actor.Timers (clients_of shape) (publishers_of shape) (queues_of shape)
    (count_of_numbers (clients_of shape) (λ c. actor.Client c)) (count_of_numbers (publishers_of shape) (λ p. actor.Publisher p)) (count_of_numbers (queues_of shape) (λ q. actor.Queue q))

pub is_client : (shape : Shape) (n : ℕ) → n < clients_of shape → slice_get (in_order shape) n ≡ Some (actor.Client n)
is_client shape n low = client_at shape n low

pub is_publisher : (shape : Shape) (n p : ℕ) → n ≡ clients_of shape + p → p < publishers_of shape → slice_get (in_order shape) n ≡ Some (actor.Publisher p)
is_publisher shape n p is low = ap (slice_get (in_order shape)) is ∙ publisher_at shape p low

pub is_bridge : (shape : Shape) (n : ℕ) → n ≡ clients_of shape + publishers_of shape → slice_get (in_order shape) n ≡ Some actor.Bridge
is_bridge shape n is = ap (slice_get (in_order shape)) is ∙ bridge_at shape

pub is_timers : (shape : Shape) (n : ℕ) → n ≡ clients_of shape + publishers_of shape + 1 → slice_get (in_order shape) n ≡ Some actor.Timers
is_timers shape n is = ap (slice_get (in_order shape)) is ∙ timers_at shape

pub is_queue : (shape : Shape) (n q : ℕ) → n ≡ clients_of shape + publishers_of shape + 2 + q → n < length (in_order shape) → slice_get (in_order shape) n ≡ Some (actor.Queue q)
is_queue shape n q is low =
    let inside : q < queues_of shape = omega (arith, is, low, order_count shape) in
    ap (slice_get (in_order shape)) is ∙ queue_at shape q inside
