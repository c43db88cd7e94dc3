-- believed: what a port may put: each event fits those before it, and nothing follows a last event.
use Rattle.std.specs.Prelude.{◌≡◌, Bool, true, ◌&&◌, not, List, [], ◌∷◌, ◌++◌}
use Rattle.std.specs.List.{list_any}

-- each event passes a test that sees the events before it; some came before the list
abbrev pub each_fits : {N : Type 0} → (List N → N → Bool) → List N → List N → Bool
each_fits fits before [] = true
each_fits fits before (n ∷ ns) = fits before n && each_fits fits (before ++ n ∷ []) ns

-- an event may follow those before it: none of them was last, and it fits them
abbrev pub may_follow : {N : Type 0} → (N → Bool) → (List N → N → Bool) → List N → N → Bool
may_follow last fits before n = not (list_any last before) && fits before n

-- a list that a port may put
pub record IsLawful {N : Type 0} (last : N → Bool) (fits : List N → N → Bool) (notes : List N) : Type 0 where
  pub each : each_fits (may_follow last fits) [] notes ≡ true
