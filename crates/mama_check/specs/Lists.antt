-- inner: What is left of lists of which the first is taken, and the notes on a list.
use Rattle.std.specs.Prelude.{ℕ, List, [], ◌∷◌, drop, slice_index_or, slice_set}
use Rattle.mama_event.specs.declared.group.GroupNote.{GroupNote}
use Rattle.mama_event.specs.declared.watch.WatchNote.{WatchNote}
use Rattle.mama_record.specs.RunData.{GroupNotes, WatchNotes}

-- these lists, where the first item of the list of a number is taken
abbrev pub without_first : {X : Type 0} → ℕ → List (List X) → List (List X)
without_first number lists = slice_set lists number (drop 1 (slice_index_or lists number []))

-- what the first group of a list heard, and what the first watch noted
abbrev pub first_heard : List GroupNotes → List GroupNote
first_heard [] = []
first_heard (g ∷ gs) = g.notes

abbrev pub first_noted : List WatchNotes → List WatchNote
first_noted [] = []
first_noted (w ∷ ws) = w.notes
