-- believed: That the listeners of groups came back.
use Rattle.std.specs.Prelude.{◌≡◌, ℕ, List}
use Rattle.std.specs.List.{AllZip}
use Rattle.mama_record.specs.RunData.{GroupNotes}
use Rattle.mama_group.specs.Listener.{GroupListenerData}
use Rattle.mama_grouped.specs.Seat.{HasHeard}

-- the listener of a group came back beside its number, and heard what the group heard
pub record IsBack {H : Type 0} (view : H → GroupListenerData) (notes : GroupNotes) (back : ℕ × H) : Type 0 where
  pub number : back.0 ≡ notes.group
  pub heard : HasHeard notes.group notes.notes (view back.1)

-- each group's listener came back, once, in the order of the groups
abbrev pub HaveHeard : {H : Type 0} → (H → GroupListenerData) → List GroupNotes → List (ℕ × H) → Type 0
HaveHeard view groups back = AllZip (IsBack view) groups back
