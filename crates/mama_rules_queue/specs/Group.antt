-- believed: A group's rules: what the one listener of some subscriptions of a queue hears, as a function of the queue's journal.
use Rattle.std.specs.Prelude.{ℕ, Bool, true, false, List, [], ◌∷◌, ◌++◌, map, fold, if◌then◌else◌}
use Rattle.std.specs.List.{list_any, list_all, flat_map}
use Rattle.mama_journal.specs.Journal.{puts}
use Rattle.mama_event.specs.declared.ids.SubId.{SubId}
use Rattle.mama_event.specs.declared.ids.ObjectId.{ObjectId}
use Rattle.mama_event.specs.declared.ids.ObjectId.TheVariants.{Sub}
use Rattle.mama_event.specs.declared.market.Quality.{Quality}
use Rattle.mama_event.specs.declared.market.Quality.TheVariants as quality
use Rattle.mama_event.specs.declared.callback.Callback.{Callback}
use Rattle.mama_event.specs.declared.callback.Callback.TheVariants as on
use Rattle.mama_event.specs.declared.order.Order.{Order}
use Rattle.mama_event.specs.declared.group.GroupState.{GroupState}
use Rattle.mama_event.specs.declared.group.GroupState.TheVariants as state
use Rattle.mama_event.specs.declared.group.GroupNote.{GroupNote}
use Rattle.mama_event.specs.declared.group.GroupNote.TheVariants as note
use Rattle.mama_event.specs.declared.to_queue.QueueNote.{QueueNote}
use Rattle.mama_event.specs.Object.{same_sub}
use Rattle.mama_event.specs.GroupStates.{same_group_state}
use Rattle.mama_rules_queue.specs.Queue.{Deed, handled, called, calls_of, deeds, deeds_at}

-- a member of a group: it waits for its first message, or has an image of this quality, or is ended
pub data Member : Type 0 where
  waits : Member
  has : Quality → Member
  ended : Member

-- a member after one callback more: its quality is the one that was told last, by a message or by itself
abbrev pub member_after : Member → Callback → Member
member_after ended call = ended
member_after waits on.Destroy = ended
member_after waits (on.Msg msg quality) = has quality
member_after waits call = waits
member_after (has old) on.Destroy = ended
member_after (has old) (on.Msg msg quality) = has quality
member_after (has old) (on.Quality quality number) = has quality
member_after (has old) call = has old

-- a member by all its callbacks
abbrev pub member_by : List Callback → Member
member_by calls = fold member_after waits calls

abbrev pub is_ended : Member → Bool
is_ended ended = true
is_ended _ = false

abbrev pub is_waiting : Member → Bool
is_waiting waits = true
is_waiting _ = false

abbrev pub is_stale : Member → Bool
is_stale (has quality.Stale) = true
is_stale _ = false

-- the state of a group, by its members
abbrev pub state_of : List Member → GroupState
state_of members =
    if list_all is_ended members then state.Ended
    else (if list_any is_waiting members then state.Waiting
    else (if list_any is_stale members then state.Stale else state.Fresh))

-- a subscription as a member, after some deeds
abbrev pub member_in : List Deed → SubId → Member
member_in ds s = member_by (map (λ c. c.0) (calls_of (Sub s) ds))

abbrev pub group_state : List SubId → List Deed → GroupState
group_state members ds = state_of (map (member_in ds) members)

-- what a group hears of a deed: a callback of a member
abbrev pub heard_of : List SubId → Deed → List GroupNote
heard_of members (called (Sub s) call orders) = if list_any (same_sub s) members then note.Call s call ∷ [] else []
heard_of members (called object call orders) = []
heard_of members (handled sub msg) = []

-- a state, where it is another than before
abbrev pub state_told : GroupState → GroupState → List GroupNote
state_told before after = if same_group_state before after then [] else note.State after ∷ []

-- what a group hears at an entry: the callbacks of its member, and then its state, where that is another than before the entry
abbrev pub group_notes_at : (ObjectId → ℕ → List Order) → List SubId → List (ℕ × QueueNote) → ℕ × QueueNote → List GroupNote
group_notes_at orders members before e =
    flat_map (heard_of members) (deeds_at orders before e)
    ++ state_told (group_state members (deeds orders before)) (group_state members (deeds orders (before ++ e ∷ [])))

-- what a group hears of a whole journal
abbrev pub group_notes : (ObjectId → ℕ → List Order) → List SubId → List (ℕ × QueueNote) → List GroupNote
group_notes orders members journal = puts (group_notes_at orders members) journal
