-- inner: The rule of a lane: what it holds and what its passes know fit together.
use Rattle.std.specs.Prelude.{◌≡◌, ◌≢◌, ℕ, ◌<◌, ◌≤◌, List, [], ◌∷◌, ◌++◌, map, ⊤}
use Rattle.std.specs.List.{AllByRecursion}
use mathlib.Core.List.{IsPrefix}
use mathlib.Core.Option.{some}
use lib.ListN.{get_elem?}
use Rattle.mama_event.specs.declared.shape.Bounds.{Bounds}
use Rattle.mama_journal.specs.Lane.{by_port}
use Rattle.mama_lane.specs.declared.view.View.{View}
use Rattle.mama_lane.specs.declared.view.Role.TheVariants.{Taker, Port, Note}

-- what the lane holds, as plain data
abbrev pub notes_of : {E N : Type 0} → (E → N) → List (ℕ × E) → List (ℕ × N)
notes_of noted items = map (λ x. (x.0, noted x.1)) items

-- the list is not empty
abbrev pub IsThere : {V : Type 0} → List V → Type 0
IsThere [] = ⊥
IsThere (v ∷ vs) = ⊤

module _ {N : Type 0} where
  -- The pass at i is the one pass of its port. The taker made the port and has not closed it, and the pass knows what
  -- the port sent and the bounds.
  pub record IsPort (taker : View N) (seat : ℕ → ℕ) (sent : ℕ → List N) (i : ℕ) (v : View N) : Type 0 where
    pub seated : seat v.number ≡ i
    pub made : v.number < taker.made
    pub put : v.put ≡ sent v.number
    pub bounds : v.bounds ≡ taker.bounds
    pub open_yet : AllByRecursion (λ c. c.0 ≢ v.number) taker.closed

  -- what the pass at i knows, if it is a port's or a note's, is true
  pub record Fits (taker : View N) (seat : ℕ → ℕ) (sent : ℕ → List N) (i : ℕ) (v : View N) : Type 0 where
    pub port : v.role ≡ Port → IsPort taker seat sent i v
    pub note : v.role ≡ Note → IsPrefix v.put (sent v.number)

-- what a taker took from each port is lawful
abbrev pub IsLawfulTaken : {N : Type 0} → (Bounds → ℕ → List N → Type 0) → View N → Type 0
IsLawfulTaken lawful v = (port : ℕ) → lawful v.bounds port (by_port port v.taken)

module _ {E N : Type 0} (noted : E → N) (lawful : Bounds → ℕ → List N → Type 0) where
  -- The rule of a lane, where the taker's view is taker, the lane holds items, and views has the view of each pass:
  -- of each port, what was taken from it and then what the lane holds of it is what it put (flows), which is lawful
  -- (allowed). What the taker learnt and closed, and what ports and notes know, is true.
  pub record Kept (taker : View N) (items : List (ℕ × E)) (views : List (View N)) : Type 0 where
    -- the pass of each port, and what each port put
    pub seat : ℕ → ℕ
    pub sent : ℕ → List N
    pub role : taker.role ≡ Taker
    pub flows : (port : ℕ) → sent port ≡ by_port port (taker.taken ++ notes_of noted items)
    -- ports that were not made have put nothing
    pub unmade : (port : ℕ) → taker.made ≤ port → sent port ≡ []
    pub allowed : (port : ℕ) → lawful taker.bounds port (sent port)
    -- what a note named is a beginning of what its port put; a port that was closed puts no more
    pub learnt : AllByRecursion (λ c. IsPrefix c.1 (sent c.0)) taker.learnt
    pub closed : AllByRecursion (λ c. (c.0 < taker.made) × (c.1 ≡ sent c.0)) taker.closed
    pub fits : (i : ℕ) (v : View N) → get_elem? views i ≡ some v → Fits taker seat sent i v

  -- the rule, as the queue keeps it: there is a pass, and the first is the taker's
  abbrev pub IsKept : List (ℕ × E) → List (View N) → Type 0
  IsKept items views = IsThere views × ((taker : View N) → get_elem? views 0 ≡ some taker → Kept taker items views)

  -- what a take tells: each event came from a port, and what was taken from each port is lawful
  abbrev pub CameFromPorts : View N → List (ℕ × E) → View N → Type 0
  CameFromPorts v events w = AllByRecursion (λ x. x.0 < v.made) events × IsLawfulTaken lawful w

  -- what a look at a lane that holds nothing tells: of each note that was learnt, all that it names was taken
  abbrev pub IsCaughtUp : View N → List (ℕ × E) → Type 0
  IsCaughtUp v items = items ≡ [] → AllByRecursion (λ c. IsPrefix c.1 (by_port c.0 v.taken)) v.learnt

  -- what a look at the end tells: of each port that was joined, what was taken begins what it put, which is lawful
  abbrev pub AreBegun : View N → List (ℕ × E) → Type 0
  AreBegun v items = AllByRecursion (λ c. IsPrefix (by_port c.0 v.taken) c.1 × lawful v.bounds c.0 c.1) v.closed
