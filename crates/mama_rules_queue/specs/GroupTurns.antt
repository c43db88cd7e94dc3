-- believed: what a group hears turn by turn, by what it has heard so far.
use Rattle.std.specs.Prelude.{List, [], ◌∷◌, ◌++◌, map, if◌then◌else◌}
use Rattle.std.specs.List.{flat_map}
use Rattle.mama_event.specs.declared.ids.SubId.{SubId}
use Rattle.mama_event.specs.declared.callback.Callback.{Callback}
use Rattle.mama_event.specs.declared.group.GroupState.{GroupState}
use Rattle.mama_event.specs.declared.group.GroupNote.{GroupNote}
use Rattle.mama_event.specs.declared.group.GroupNote.TheVariants as note
use Rattle.mama_event.specs.Object.{same_sub}
use Rattle.mama_rules_queue.specs.Group.{member_by, state_of, state_told}

-- the callbacks of a member among the notes of its group
abbrev pub told_of : SubId → GroupNote → List Callback
told_of s (note.Call sub call) = if same_sub sub s then call ∷ [] else []
told_of s (note.State now) = []

-- the state of a group that has heard these notes
abbrev pub state_after : List SubId → List GroupNote → GroupState
state_after members notes = state_of (map (λ s. member_by (flat_map (told_of s) notes)) members)

-- some callbacks of one member, as the group hears them
abbrev pub calls_heard : SubId → List Callback → List GroupNote
calls_heard s calls = map (λ call. note.Call s call) calls

-- what a group that has heard these notes hears in a turn in which a member was called back so
abbrev pub turn_notes : List SubId → List GroupNote → SubId → List Callback → List GroupNote
turn_notes members notes s calls = calls_heard s calls ++ state_told (state_after members notes) (state_after members (notes ++ calls_heard s calls))
