-- believed: when two states of a group are one.
use Rattle.std.specs.Prelude.{Bool, true, false}
use Rattle.mama_event.specs.declared.group.GroupState.{GroupState}
use Rattle.mama_event.specs.declared.group.GroupState.TheVariants as state

-- two states are one
abbrev pub same_group_state : GroupState → GroupState → Bool
same_group_state state.Waiting state.Waiting = true
same_group_state state.Fresh state.Fresh = true
same_group_state state.Stale state.Stale = true
same_group_state state.Ended state.Ended = true
same_group_state _ _ = false
