use Rattle.std.proofs.Common.{◌≡◌, ◌++◌, List, [], ◌∷◌, rules, append_assoc, sym, ◌∙◌, ap}
use Rattle.mama_event.specs.declared.group.GroupNote.{GroupNote}
use Rattle.mama_group.proofs.Placing.{one_heard}
use Rattle.mama_group.proofs.group.Group.hear.Goals as goal

pub loop-note-preserved : goal.loop-note-preserved
loop-note-preserved g c =
    let inv = c.loop-note.invariant in
    let before : List GroupNote = c.loop-note.yielded in
    let first : c.loop-note.note-iterator.rest.items ≡ c.in-Some.note ∷ c.next.new.self.rest.items = search rules in
    record {
      whole = append_assoc before (c.in-Some.note ∷ []) c.next.new.self.rest.items ∙ ap (λ (xs : List GroupNote). before ++ xs) (sym first) ∙ inv.whole;
      number = inv.number;
      members = inv.members;
      notes = c.push_reserved.ensures.items ∙ ap (λ (xs : List GroupNote). xs ++ c.in-Some.note ∷ []) inv.notes ∙ append_assoc c.args.self.now.notes.items before (c.in-Some.note ∷ []);
      listener = one_heard before c.in-Some.note _ _ _ inv.listener c.tell.ensures;
      room = search rules;
    }
