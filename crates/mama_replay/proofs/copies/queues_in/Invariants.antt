use Rattle.std.proofs.Common.{◌≡◌, take}
use Rattle.mama_record.specs.RunView.{events_of}
use Rattle.mama_replay.proofs.copies.queues_in.Given as goal

abbrev pub invariant-loop-journal : goal.invariant-loop-journal
invariant-loop-journal l = events_of l.copy.items ≡ events_of (take l.journal-index l.queues)
