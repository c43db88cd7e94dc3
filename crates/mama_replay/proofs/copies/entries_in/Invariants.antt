use Rattle.std.proofs.Common.{◌≡◌, take}
use Rattle.mama_record.specs.RunView.{entries_of}
use Rattle.mama_replay.proofs.copies.entries_in.Given as goal

abbrev pub invariant-loop-journal : goal.invariant-loop-journal
invariant-loop-journal l = entries_of l.copy.items ≡ entries_of (take l.journal-index l.publishers)
