-- inner: What the post of a queue leaves.
use Rattle.std.specs.Prelude.{ℕ, List, [], map}
use Rattle.mama_event.specs.declared.to_queue.QueueNote.{QueueNote}
use Rattle.mama_event.specs.declared.watch.WatchNote.{WatchNote}
use Rattle.mama_timeout.specs.Table.{part_of}
use Rattle.mama_posts_clients.specs.Queue.{QueuePostValue}

-- the journal of a queue
abbrev pub events_by : ℕ × QueuePostValue → List (ℕ × QueueNote)
events_by s = s.1.served.journal

-- what the watches of a queue noted, each list with its number
abbrev pub noted_by : ℕ × QueuePostValue → List (ℕ × List WatchNote)
noted_by s = map part_of s.1.watches

-- nothing that the watch of a number noted
abbrev pub none_noted : ℕ → ℕ × List WatchNote
none_noted n = (n, [])
