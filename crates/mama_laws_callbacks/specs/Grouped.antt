-- believed: what is promised of groups: each heard its members' callbacks and was told its state, and where that is fresh, each
-- member that is not ended has its sender's record.
use Rattle.std.specs.Prelude.{◌≡◌, ℕ, false, List, [], ◌∷◌, ◌++◌, fold, slice_index_or}
use Rattle.std.specs.List.{AllByRecursion, AllZip}
use Rattle.mama_journal.specs.Journal.{first_said}
use Rattle.mama_event.specs.Publisher.{PublisherScript}
use Rattle.mama_event.specs.declared.ids.SubId.{SubId}
use Rattle.mama_event.specs.declared.ids.ObjectId.{ObjectId}
use Rattle.mama_event.specs.declared.ids.ObjectId.TheVariants.{Sub}
use Rattle.mama_event.specs.declared.market.Quality.TheVariants as quality
use Rattle.mama_event.specs.declared.order.Order.{Order}
use Rattle.mama_event.specs.declared.group.GroupNote.{GroupNote}
use Rattle.mama_event.specs.declared.group.GroupNote.TheVariants as note
use Rattle.mama_event.specs.declared.group.GroupState.{GroupState}
use Rattle.mama_event.specs.declared.group.GroupState.TheVariants as state
use Rattle.mama_event.specs.declared.to_queue.QueueNote.{QueueNote}
use Rattle.mama_rules_queue.specs.Queue.{make_in, context_of, messages_of, deeds}
use Rattle.mama_rules_queue.specs.Group.{is_ended, member_in, group_state, group_notes}
use Rattle.mama_script.specs.Script.{ScriptData}
use Rattle.mama_record.specs.RunData.{RunData, LastImage, GroupNotes}
use Rattle.mama_rules_rounds.specs.Setting.{Grouped, orders_by}
use Rattle.mama_rules_rounds.specs.Sections.{setting_of, publishers_from}
use Rattle.mama_rules_rounds.specs.Told.{image_in}
use Rattle.mama_laws_genuine.specs.Records.{IsRecord}

-- after some entries of its queue's journal a subscription has an image that is ok, and it is its sender's record at its number
pub record HasRecord (publishers : List PublisherScript) (orders : ObjectId → ℕ → List Order) (front : List (ℕ × QueueNote)) (s : SubId) : Type 0 where
  pub image : LastImage
  pub there : image_in s (context_of (first_said (λ e. make_in (Sub s) e.1) front) (messages_of s (deeds orders front))) ≡ image ∷ []
  pub ok : image.head.quality ≡ quality.Ok
  pub genuine : IsRecord publishers image

-- the state that a group was told last: it waits where none was told
abbrev pub state_now : GroupState → GroupNote → GroupState
state_now now (note.State told) = told
state_now now (note.Call sub call) = now

abbrev pub last_state : List GroupNote → GroupState
last_state notes = fold state_now state.Waiting notes

-- After some entries of its queue's journal the state that a group was told last is its state by its members; and where it is
-- fresh, each member that is not ended has an image that is ok and is its sender's record.
pub record HasTrueState (script : ScriptData) (g : Grouped) (front : List (ℕ × QueueNote)) : Type 0 where
  pub told : last_state (group_notes (orders_by (setting_of script)) g.members front) ≡ group_state g.members (deeds (orders_by (setting_of script)) front)
  pub fresh : last_state (group_notes (orders_by (setting_of script)) g.members front) ≡ state.Fresh
      → AllByRecursion (λ (s : SubId). is_ended (member_in (deeds (orders_by (setting_of script)) front) s) ≡ false → HasRecord (publishers_from 0 script.publishers) (orders_by (setting_of script)) front s) g.members

-- so it is at each place of that journal
abbrev pub HasTrueStates : ScriptData → RunData → Grouped → Type 0
HasTrueStates script run g = (front back : List (ℕ × QueueNote)) → slice_index_or run.queues g.queue [] ≡ front ++ back → HasTrueState script g front

-- A group heard the callbacks of its members and its states as its queue's journal has them, and its states are true.
pub record IsTrueGroup (script : ScriptData) (run : RunData) (g : Grouped) (told : GroupNotes) : Type 0 where
  pub number : told.group ≡ g.number
  pub heard : told.notes ≡ group_notes (orders_by (setting_of script)) g.members (slice_index_or run.queues g.queue [])
  pub states : HasTrueStates script run g

-- so it is with each group of a script
abbrev pub AreTrueGroups : ScriptData → RunData → Type 0
AreTrueGroups script run = AllZip (IsTrueGroup script run) (setting_of script).groups run.groups
