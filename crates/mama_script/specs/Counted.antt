-- inner: How many objects clients make at most: of each kind so many, and the last client so many timers and inboxes.
use Rattle.std.specs.Prelude.{ℕ, ◌≤◌, List, [], ◌∷◌}
use Rattle.mama_script.specs.declared.names.Made.{Made}

abbrev pub IsCounted : ℕ → ℕ → Made → Type 0
IsCounted subs objects made = (made.subs ≤ subs) × (made.timers ≤ objects) × (made.inboxes ≤ objects)

abbrev pub AreCounted : ℕ → ℕ → ℕ → List Made → Type 0
AreCounted most subs objects [] = Unit {0}
AreCounted most subs objects (m ∷ []) = IsCounted subs objects m
AreCounted most subs objects (m ∷ n ∷ ms) = IsCounted subs most m × AreCounted most subs objects (n ∷ ms)
