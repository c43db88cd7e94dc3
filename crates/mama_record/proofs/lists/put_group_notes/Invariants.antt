use Rattle.std.proofs.Common.{◌≡◌, ◌++◌, take}
use Rattle.std.specs.List.{flat_map}
use Rattle.mama_record.specs.LogText.{group_note_line}
use Rattle.mama_record.proofs.lists.put_group_notes.Given as goal

abbrev pub invariant-loop-note : goal.invariant-loop-note
invariant-loop-note l = l.out.items ≡ l.fn.out.items ++ flat_map group_note_line (take l.note-index l.notes)
