use Rattle.std.specs.Vec.{vec_len, vec_capacity}
use Rattle.std.proofs.Common.{◌≡◌, ◌+◌, ◌≤◌, ◌++◌, length}
use Rattle.mama_group.specs.Listener.{told}
use Rattle.mama_group.specs.Table.{HasHeard}
use Rattle.mama_group.proofs.group.Group.hear.Given as goal

abbrev pub invariant-loop-note : goal.invariant-loop-note
invariant-loop-note g l = record {
  whole : l.yielded ++ l.note-iterator.rest.items ≡ l.fn.change.heard.items;
  number : l.self.number ≡ l.initial.self.number;
  members : l.self.members ≡ l.initial.self.members;
  notes : l.self.notes.items ≡ l.initial.self.notes.items ++ l.yielded;
  listener : HasHeard l.yielded (told g.H.GroupListener.tagged g.H.GroupListener.calls g.H.GroupListener.heard l.initial.self.listener) (told g.H.GroupListener.tagged g.H.GroupListener.calls g.H.GroupListener.heard l.self.listener);
  room : vec_len l.self.notes + length l.note-iterator.rest.items ≤ vec_capacity l.self.notes;
}
