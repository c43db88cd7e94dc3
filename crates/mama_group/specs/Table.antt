-- believed: The groups of a queue as contracts see them, and what a turn makes of them.
use Rattle.std.specs.Prelude.{◌≡◌, ℕ, ◌<◌, ◌==◌, Bool, true, false, List, [], ◌∷◌, ◌++◌, length, Option, None, Some, if◌then◌else◌}
use Rattle.std.specs.Global.{Vec}
use Rattle.std.specs.List.{list_any, flat_map, AllByRecursion}
use Rattle.mama_event.specs.declared.ids.SubId.{SubId}
use Rattle.mama_event.specs.declared.callback.Callback.{Callback}
use Rattle.mama_event.specs.declared.group.GroupNote.{GroupNote}
use Rattle.mama_event.specs.declared.group.GroupRow.{GroupRow}
use Rattle.mama_event.specs.declared.group.GroupState.{GroupState}
use Rattle.mama_event.specs.Object.{same_sub}
use Rattle.mama_event.specs.Listener.{reached}
use Rattle.mama_event.specs.declared.ids.ObjectId.TheVariants.{Sub}
use Rattle.mama_rules_queue.specs.Queue.{Deed, calls_of}
use Rattle.mama_rules_queue.specs.GroupTurns.{turn_notes, state_after, told_of}
use Rattle.mama_group.specs.Listener.{GroupListenerData, HeardOn}

-- a group: its number, its members, what it heard, and its listener
pub record GroupData : Type 0 where
  pub number : ℕ
  pub members : List SubId
  pub notes : List GroupNote
  pub listener : GroupListenerData

abbrev pub has_member : SubId → List SubId → Bool
has_member s members = list_any (same_sub s) members

-- these deeds call back no subscription but one
abbrev pub IsOnly : SubId → List Deed → Type 0
IsOnly s ds = (t : SubId) → same_sub t s ≡ false → calls_of (Sub t) ds ≡ []

-- a listener has heard these notes more, in order, and its count has risen by as many
pub record HasHeard (notes : List GroupNote) (before after : GroupListenerData) : Type 0 where
  pub tag : after.tag ≡ before.tag
  pub calls : after.calls ≡ reached before.calls (length notes)
  pub heard : HeardOn notes before.heard after.heard

-- a group heard so much more
pub record GroupHeard (more : List GroupNote) (before after : GroupData) : Type 0 where
  pub number : after.number ≡ before.number
  pub members : after.members ≡ before.members
  pub notes : after.notes ≡ before.notes ++ more
  pub listener : HasHeard more before.listener after.listener

-- what a group hears of a turn in which this subscription was called back so: nothing where it is no member
abbrev pub turn_of : SubId → List Callback → GroupData → List GroupNote
turn_of s calls g = if has_member s g.members then turn_notes g.members g.notes s calls else []

-- each group heard what it hears of the turn
abbrev pub AllHeard : SubId → List Callback → List GroupData → List GroupData → Type 0
AllHeard s calls [] [] = Unit {0}
AllHeard s calls [] (h ∷ hs) = ⊥
AllHeard s calls (g ∷ gs) [] = ⊥
AllHeard s calls (g ∷ gs) (h ∷ hs) = GroupHeard (turn_of s calls g) g h × AllHeard s calls gs hs

-- the state of the group of a number, if it is there
abbrev pub state_in : ℕ → List GroupData → Option GroupState
state_in number [] = None
state_in number (g ∷ gs) = if g.number == number then Some (state_after g.members g.notes) else state_in number gs

-- how many callbacks of a subscription the groups have heard
abbrev pub heard_in : SubId → List GroupData → ℕ
heard_in s gs = length (flat_map (λ (g : GroupData). if has_member s g.members then flat_map (told_of s) g.notes else []) gs)

-- groups that have heard nothing yet, each with its listener
abbrev pub new_group : ℕ × GroupRow → GroupListenerData → GroupData
new_group g listener = record { number = g.0; members = g.1.members; notes = []; listener = listener }

abbrev pub new_groups : List (ℕ × GroupRow) → List GroupListenerData → List GroupData
new_groups [] listeners = []
new_groups (g ∷ gs) [] = []
new_groups (g ∷ gs) (l ∷ ls) = new_group g l ∷ new_groups gs ls

-- no number stands twice
abbrev pub AreApart : List (ℕ × GroupRow) → Type 0
AreApart [] = Unit {0}
AreApart (g ∷ gs) = AllByRecursion (λ (h : ℕ × GroupRow). (h.0 == g.0) ≡ false) gs × AreApart gs

-- no subscription stands twice, in one group or in two
abbrev pub are_distinct : List SubId → List SubId → Bool
are_distinct before [] = true
are_distinct before (s ∷ subs) = if has_member s before then false else are_distinct (before ++ s ∷ []) subs

abbrev pub all_members : List (ℕ × GroupRow) → List SubId
all_members [] = []
all_members (g ∷ gs) = g.1.members ++ all_members gs

-- each group has a member
abbrev pub HaveMembers : List (ℕ × GroupRow) → Type 0
HaveMembers gs = AllByRecursion (λ (g : ℕ × GroupRow). 0 < length g.1.members) gs

-- what comes out of a table: each group's number, what it heard, and its listener
pub record GroupPart : Type 0 where
  pub number : ℕ
  pub notes : List GroupNote
  pub listener : GroupListenerData

abbrev pub part_of : GroupData → GroupPart
part_of g = record { number = g.number; notes = g.notes; listener = g.listener }

abbrev pub part_given : {H : Type 0} → (H → GroupListenerData) → ℕ × Vec GroupNote × H → GroupPart
part_given view p = record { number = p.0; notes = p.1.items; listener = view p.2 }
