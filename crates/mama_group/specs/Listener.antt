-- believed: the listener of a group as contracts see it, and what each of its calls makes of it.
use Rattle.std.specs.Prelude.{◌≡◌, ℕ, List, [], ◌∷◌, ◌++◌, Option, None, Some, IsSomeAnd}
use Rattle.mama_event.specs.declared.group.GroupNote.{GroupNote}
use Rattle.mama_event.specs.Listener.{risen}

-- a listener: the number of its group, how many calls it got, and, where it tells them, what it heard
pub record GroupListenerData : Type 0 where
  pub tag : ℕ
  pub calls : ℕ
  pub heard : Option (List GroupNote)

-- a value of any listener type, by what its type says of it
abbrev pub told : {H : Type 0} → (H → ℕ) → (H → ℕ) → (H → Option (List GroupNote)) → H → GroupListenerData
told tagged calls heard h = record { tag = tagged h; calls = calls h; heard = heard h }

-- what was heard is told after one call more only where it was told before it, and then that is the last
abbrev pub HeardNext : GroupNote → Option (List GroupNote) → Option (List GroupNote) → Type 0
HeardNext note before None = Unit {0}
HeardNext note before (Some after) = IsSomeAnd before (λ notes. after ≡ notes ++ note ∷ [])

-- a listener got this call
pub record Heard (note : GroupNote) (before after : GroupListenerData) : Type 0 where
  pub tag : after.tag ≡ before.tag
  pub calls : after.calls ≡ risen before.calls
  pub heard : HeardNext note before.heard after.heard

-- a listener got these calls, one after the other
abbrev pub HeardOn : List GroupNote → Option (List GroupNote) → Option (List GroupNote) → Type 0
HeardOn notes before None = Unit {0}
HeardOn notes before (Some after) = IsSomeAnd before (λ first. after ≡ first ++ notes)

-- a listener that was just made for a group
pub record IsNew (group : ℕ) (listener : GroupListenerData) : Type 0 where
  pub tag : listener.tag ≡ group
  pub calls : listener.calls ≡ 0
  pub heard : HeardOn [] (Some []) listener.heard
