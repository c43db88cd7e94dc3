-- believed: The groups and the watches of a script, queue by queue.
use Rattle.std.specs.Prelude.{ℕ, ◌==◌, List, map, filter}
use Rattle.mama_journal.specs.Journal.{numbers_below}
use Rattle.mama_event.specs.declared.group.GroupRow.{GroupRow}
use Rattle.mama_event.specs.declared.watch.WatchRow.{WatchRow}
use Rattle.mama_rules_rounds.specs.Setting.{Grouped, Watched, is_on}

-- a group and a watch with its number
abbrev pub group_row : Grouped → ℕ × GroupRow
group_row g = (g.number, record { members = g.members })

abbrev pub watch_row : Watched → ℕ × WatchRow
watch_row w = (w.number, w.row)

-- those of a queue, and of each of so many queues
abbrev pub groups_on : List Grouped → ℕ → List (ℕ × GroupRow)
groups_on groups q = map group_row (filter (λ (g : Grouped). g.queue == q) groups)

abbrev pub watches_on : List Watched → ℕ → List (ℕ × WatchRow)
watches_on watches q = map watch_row (filter (is_on q) watches)

abbrev pub groups_on_each : ℕ → List Grouped → List (List (ℕ × GroupRow))
groups_on_each queues groups = map (groups_on groups) (numbers_below queues)

abbrev pub watches_on_each : ℕ → List Watched → List (List (ℕ × WatchRow))
watches_on_each queues watches = map (watches_on watches) (numbers_below queues)
