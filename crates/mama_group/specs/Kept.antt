-- inner: What a table keeps beside what contracts see: where each member stands, and how many members wait, are stale and are ended.
use Rattle.std.specs.Prelude.{◌≡◌, ◌==◌, ◌<◌, ◌≤◌, ◌+◌, ◌-◌, ℕ, nat_lt, true, false, List, [], ◌++◌, length, map, Option, Some, None, slice_get, vec_capacity, if◌then◌else◌}
use Rattle.std.specs.Global.{Vec}
use Rattle.std.specs.List.{All, flat_map}
use Rattle.indexmap.specs.IndexMap.{IndexMap, get}
use Rattle.mama_event.specs.Object.{same_sub}
use Rattle.mama_group.specs.declared.group.Group.{Group}
use Rattle.mama_group.specs.declared.group.Change.{Change}
use Rattle.mama_group.specs.declared.table.Place.{Place}
use Rattle.mama_group.specs.Listener.{GroupListenerData}
use Rattle.mama_group.specs.Table.{GroupData, has_member, are_distinct}
use Rattle.mama_journal.specs.Journal.{count_of}
use Rattle.mama_event.specs.declared.ids.SubId.{SubId}
use Rattle.mama_event.specs.declared.callback.Callback.{Callback}
use Rattle.mama_event.specs.declared.market.Quality.TheVariants as quality
use Rattle.mama_event.specs.declared.group.GroupNote.{GroupNote}
use Rattle.mama_event.specs.declared.group.GroupState.{GroupState}
use Rattle.mama_event.specs.declared.group.GroupState.TheVariants as state
use Rattle.mama_rules_queue.specs.Group as rules
use Rattle.mama_rules_queue.specs.Group.{member_by}
use Rattle.mama_rules_queue.specs.GroupTurns.{told_of, turn_notes}
use Rattle.mama_group.specs.declared.member.Member.{Member}
use Rattle.mama_group.specs.declared.member.Member.TheVariants as kept
use Rattle.mama_group.specs.declared.counts.Counts.{Counts}

-- a member as it is kept
abbrev pub member_of : Member → rules.Member
member_of kept.Waiting = rules.waits
member_of kept.Fresh = rules.has quality.Ok
member_of kept.Stale = rules.has quality.Stale
member_of kept.Ended = rules.ended

-- the members of a group by what it heard
abbrev pub members_by : List SubId → List GroupNote → List rules.Member
members_by members notes = map (λ s. member_by (flat_map (told_of s) notes)) members

-- the counts are those of these members
pub record AreCounted (counts : Counts) (counted : List rules.Member) : Type 0 where
  pub members : counts.members ≡ length counted
  pub waiting : counts.waiting ≡ count_of rules.is_waiting counted
  pub stale : counts.stale ≡ count_of rules.is_stale counted
  pub ended : counts.ended ≡ count_of rules.is_ended counted

-- the counts without one member, and with one more
abbrev pub counts_without : Member → Counts → Counts
counts_without kept.Waiting c = record c { waiting = c.waiting - 1 }
counts_without kept.Fresh c = c
counts_without kept.Stale c = record c { stale = c.stale - 1 }
counts_without kept.Ended c = record c { ended = c.ended - 1 }

abbrev pub counts_with : Member → Counts → Counts
counts_with kept.Waiting c = record c { waiting = c.waiting + 1 }
counts_with kept.Fresh c = c
counts_with kept.Stale c = record c { stale = c.stale + 1 }
counts_with kept.Ended c = record c { ended = c.ended + 1 }

-- such a member is counted
abbrev pub IsThere : Member → Counts → Type 0
IsThere kept.Waiting c = 0 < c.waiting
IsThere kept.Fresh c = Unit {0}
IsThere kept.Stale c = 0 < c.stale
IsThere kept.Ended c = 0 < c.ended

-- there are no more of a kind than there are members
pub record AreBounded (c : Counts) : Type 0 where
  pub waiting : c.waiting ≤ c.members
  pub stale : c.stale ≤ c.members
  pub ended : c.ended ≤ c.members

-- the state of a group by its counts
abbrev pub state_by : Counts → GroupState
state_by c =
    if c.ended == c.members then state.Ended
    else (if nat_lt 0 c.waiting then state.Waiting
    else (if nat_lt 0 c.stale then state.Stale else state.Fresh))

-- a group as it is kept
abbrev pub group_of : {H : Type 0} → (H → GroupListenerData) → Group H → GroupData
group_of view g = record { number = g.number; members = g.members; notes = g.notes.items; listener = view g.listener }

-- what a turn makes of a group that has heard these notes, in which this member was called back so
pub record IsChange (members : List SubId) (notes : List GroupNote) (s : SubId) (calls : List Callback) (change : Change) : Type 0 where
  pub heard : change.heard.items ≡ turn_notes members notes s calls
  pub counted : AreCounted change.counts (members_by members (notes ++ change.heard.items))
  pub member : member_of change.member ≡ member_by (flat_map (told_of s) (notes ++ change.heard.items))

-- a member of a group stands as it is kept
abbrev pub IsMember : SubId → Member → List SubId → List GroupNote → Type 0
IsMember s member members notes = (has_member s members ≡ true) × (member_of member ≡ member_by (flat_map (told_of s) notes))

-- its counts are those of its members
abbrev pub IsCounted : {H : Type 0} → Group H → Type 0
IsCounted g = AreCounted g.counts (members_by g.members g.notes.items)

-- the place of a subscription is that of its group, with what it is by what the group heard; or it is in no group
abbrev pub IsPlaceOf : {H : Type 0} → SubId → List (Group H) → Option Place → Type 0
IsPlaceOf {H} s groups None = All (λ (g : Group H). has_member s g.members ≡ false) groups
IsPlaceOf {H} s groups (Some p) =
    (g : Group H) × (slice_get groups p.group ≡ Some g) × (has_member s g.members ≡ true)
    × (member_of p.member ≡ member_by (flat_map (told_of s) g.notes.items)) × (p.heard ≡ length (flat_map (told_of s) g.notes.items))
    × ((k : ℕ) (h : Group H) → slice_get groups k ≡ Some h → has_member s h.members ≡ true → k ≡ p.group)

-- the members of a group are different
abbrev pub AreApart : {H : Type 0} → Group H → Type 0
AreApart g = are_distinct [] g.members ≡ true

-- each member is found, each group is counted, and there is room for what each gives up
pub record IsKept {H T : Type 0} (groups : List (Group H)) (places : IndexMap SubId Place T) (room : Vec (ℕ × Vec GroupNote × H)) : Type 0 where
  pub placed : (s : SubId) → IsPlaceOf s groups (get same_sub places s)
  pub counted : All IsCounted groups
  pub apart : All AreApart groups
  pub none : room.items ≡ []
  pub enough : length groups ≤ vec_capacity room
