-- believed: What a queue's groups and watches keep beside its journal.
use Rattle.std.specs.Prelude.{◌≡◌, ℕ, List, [], ◌∷◌, ◌++◌, length, map, Option, None, Some, true, false}
use Rattle.std.specs.Global.{Vec}
use Rattle.mama_event.specs.declared.ids.SubId.{SubId}
use Rattle.mama_event.specs.declared.order.Order.{Order}
use Rattle.mama_event.specs.declared.ids.ObjectId.{ObjectId}
use Rattle.mama_event.specs.declared.ids.ObjectId.TheVariants.{Sub}
use Rattle.mama_event.specs.Object.{same_sub}
use Rattle.mama_rules_queue.specs.Queue.{calls_of, deeds_at}
use Rattle.mama_event.specs.declared.to_queue.QueueNote.{QueueNote}
use Rattle.mama_event.specs.declared.group.GroupRow.{GroupRow}
use Rattle.mama_event.specs.declared.watch.WatchRow.{WatchRow}
use Rattle.mama_event.specs.declared.group.GroupNote.{GroupNote}
use Rattle.mama_event.specs.declared.watch.WatchNote.{WatchNote}
use Rattle.mama_rules_queue.specs.Group.{group_notes}
use Rattle.mama_rules_queue.specs.Watch.{watch_notes}
use Rattle.mama_group.specs.declared.silent.SilentGroup.{SilentGroup}
use Rattle.mama_group.specs.Table.{GroupData, AreApart, HaveMembers, are_distinct, all_members}
use Rattle.mama_timeout.specs.Table.{WatchData}

abbrev pub group_in : GroupData → ℕ × GroupRow
group_in g = (g.number, record { members = g.members })

abbrev pub watch_in : WatchData → ℕ × WatchRow
watch_in w = (w.number, w.row)

-- what each group has heard, and each watch noted, by a journal
abbrev pub group_lists : (ObjectId → ℕ → List Order) → List (ℕ × QueueNote) → List (ℕ × GroupRow) → List (ℕ × List GroupNote)
group_lists orders journal groups = map (λ (g : ℕ × GroupRow). (g.0, group_notes orders g.1.members journal)) groups

abbrev pub watch_lists : (ObjectId → ℕ → List Order) → List (ℕ × QueueNote) → List (ℕ × WatchRow) → List (ℕ × List WatchNote)
watch_lists orders journal watches = map (λ (w : ℕ × WatchRow). (w.0, watch_notes orders w.1 journal)) watches

-- all but the last
abbrev pub without_last : {A : Type 0} → List A → List A
without_last [] = []
without_last (x ∷ []) = []
without_last (x ∷ y ∷ xs) = x ∷ without_last (y ∷ xs)

-- as much of a journal as the groups were told, where something is still to be told of the last entry or not
abbrev pub heard_of : Option (SubId × ℕ) → List (ℕ × QueueNote) → List (ℕ × QueueNote)
heard_of None journal = journal
heard_of (Some untold) journal = without_last journal

-- what is still to be told is of the last entry: so many callbacks of one subscription, and none of another
abbrev pub IsUntold : (ObjectId → ℕ → List Order) → Option (SubId × ℕ) → List (ℕ × QueueNote) → Type 0
IsUntold orders None journal = Unit {0}
IsUntold orders (Some untold) journal =
    (before : List (ℕ × QueueNote)) × (e : ℕ × QueueNote) × (journal ≡ before ++ e ∷ [])
    × (untold.1 ≡ length (calls_of (Sub untold.0) (deeds_at orders before e)))
    × ((s : SubId) → same_sub s untold.0 ≡ false → calls_of (Sub s) (deeds_at orders before e) ≡ [])

-- Each group has heard its list by what was told, and each watch has noted its list by the journal.
pub record AreKept (orders : ObjectId → ℕ → List Order) (journal : List (ℕ × QueueNote)) (untold : Option (SubId × ℕ)) (groups : List GroupData) (watches : List WatchData) : Type 0 where
  pub last : IsUntold orders untold journal
  pub groups_heard : map (λ (g : GroupData). (g.number, g.notes)) groups ≡ group_lists orders (heard_of untold journal) (map group_in groups)
  pub watches_noted : map (λ (w : WatchData). (w.number, w.notes)) watches ≡ watch_lists orders journal (map watch_in watches)

-- what comes out of the tables: a number with a list
abbrev pub heard_in : ℕ × Vec GroupNote × SilentGroup → ℕ × List GroupNote
heard_in part = (part.0, part.1.items)

abbrev pub noted_in : ℕ × Vec WatchNote → ℕ × List WatchNote
noted_in part = (part.0, part.1.items)

-- groups that a queue can have: no number twice, each with members, and no subscription twice
pub record IsGroupList (groups : List (ℕ × GroupRow)) : Type 0 where
  pub apart : AreApart groups
  pub members : HaveMembers groups
  pub distinct : are_distinct [] (all_members groups) ≡ true
