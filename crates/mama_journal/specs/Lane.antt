-- believed: what lanes carry: pairs of a port's number and what it put.
use Rattle.std.specs.Prelude.{◌≡◌, ℕ, Bool, true, ◌==◌, List, [], ◌∷◌, ◌++◌, map, if◌then◌else◌, slice_index_or, slice_set}
use Rattle.std.specs.List.{list_any}

-- what came by one port, in order
abbrev pub by_port : {V : Type 0} → ℕ → List (ℕ × V) → List V
by_port port [] = []
by_port port (e ∷ es) = if e.0 == port then e.1 ∷ by_port port es else by_port port es

-- events as one port puts them
abbrev pub from_port : {V : Type 0} → ℕ → List V → List (ℕ × V)
from_port port events = map (λ v. (port, v)) events

-- Nothing is lost or made: of each port, what was taken and then what waits is what it put. puts has the put list
-- of each port, in the order of the ports.
pub record Keeps {V : Type 0} (taken waiting : List (ℕ × V)) (puts : List (List V)) : Type 0 where
  pub each : (port : ℕ) → by_port port taken ++ by_port port waiting ≡ slice_index_or puts port []

-- the put lists after one port put some more
abbrev pub grown : {V : Type 0} → List (List V) → ℕ → List V → List (List V)
grown puts port vs = slice_set puts port (slice_index_or puts port [] ++ vs)

-- An edge is one port of one lane: what was taken begins what was put, and is all of it once the last event was taken.
pub record IsEdge {V : Type 0} (is_last : V → Bool) (taken put : List V) : Type 0 where
  pub rest : List V
  pub prefix : taken ++ rest ≡ put
  pub whole : list_any is_last taken ≡ true → taken ≡ put
