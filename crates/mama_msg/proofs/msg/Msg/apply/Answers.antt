-- The empty message comes to be the update.
use Rattle.std.proofs.Common.{◌≡◌, List, [], ap, sym, ◌∙◌}
use Rattle.mama_msg.specs.Field.{FieldData}
use Rattle.mama_msg.specs.Message.{apply}
use Rattle.mama_msg.proofs.Applying.{apply-from_nil}
use Rattle.mama_msg.proofs.msg.Msg.apply.Goals as goal

pub returns-then-is_empty-clause-ok : goal.returns-then-is_empty-clause-ok
returns-then-is_empty-clause-ok c =
    let other : List FieldData = c.args.other.now in
    let none : c.args.self.now ≡ [] = c.is_empty.ensures.0 c.if-is_empty.true in
    c.in_ok-self.ensures.equal ∙ sym (ap (λ (m : List FieldData). apply m other) none ∙ apply-from_nil other)
