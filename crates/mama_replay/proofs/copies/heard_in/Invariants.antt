use Rattle.std.proofs.Common.{◌≡◌, take}
use Rattle.mama_replay.proofs.copies.heard_in.Given as goal

abbrev pub invariant-loop-note : goal.invariant-loop-note
invariant-loop-note l = l.copy.items ≡ take l.note-index l.notes
