-- Into nothing, the others are all.
use Rattle.std.proofs.Common.{Option, Global, ap, sym, ◌∙◌}
use Rattle.std.specs.declared.sync.Arc.{Arc}
use Rattle.mama_msg.specs.declared.body.Body.{Body}
use Rattle.mama_msg.specs.Message.{apply}
use Rattle.mama_msg.specs.Shared.{fields_of}
use Rattle.mama_msg.proofs.Applying.{apply-from_nil}
use Rattle.mama_msg.proofs.body.put_fields.Goals as goal

pub returns-in_ok-body-in-None-clause-ok : goal.returns-in_ok-body-in-None-clause-ok
returns-in_ok-body-in-None-clause-ok c =
    let others = c.args.others.items in
    c.in_ok-body-in-None.ensures ∙ sym (apply-from_nil others) ∙ sym (ap (λ (b : Option (Arc Body Global)). apply (fields_of b) others) c.in-None.is)
