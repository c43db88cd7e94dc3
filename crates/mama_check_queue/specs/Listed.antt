-- believed: The groups and the watches that a queue can have.
use Rattle.std.specs.Prelude.{◌≡◌, ℕ, true, List, [], slice_index_or}
use Rattle.mama_event.specs.declared.group.GroupRow.{GroupRow}
use Rattle.mama_event.specs.declared.watch.WatchRow.{WatchRow}
use Rattle.mama_group.specs.Table as group_table
use Rattle.mama_group.specs.Table.{HaveMembers, are_distinct, all_members}
use Rattle.mama_timeout.specs.Table as watch_table

-- No number stands twice, each group has members, and no subscription is in two groups. No two watches are of one subscription
-- or of one timer.
pub record AreListed (grouped : List (ℕ × GroupRow)) (watched : List (ℕ × WatchRow)) : Type 0 where
  pub groups : group_table.AreApart grouped
  pub members : HaveMembers grouped
  pub distinct : are_distinct [] (all_members grouped) ≡ true
  pub watches : watch_table.AreApart watched

-- so it is with those of each queue
abbrev pub AreAllListed : List (List (ℕ × GroupRow)) → List (List (ℕ × WatchRow)) → Type 0
AreAllListed groups watches = (q : ℕ) → AreListed (slice_index_or groups q []) (slice_index_or watches q [])
