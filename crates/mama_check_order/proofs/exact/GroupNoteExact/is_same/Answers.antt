use Rattle.std.proofs.Common.{sym, ◌∙◌}
use Rattle.mama_event.specs.EqualityLaws.{same_group_note-Decides}
use Rattle.mama_check_order.proofs.exact.GroupNoteExact.is_same.Goals as goal

pub returns : goal.returns
returns c =
    let exact = same_group_note-Decides c.args.self.now c.args.other.now in
    (λ h. exact.0 (sym c.eq.ensures ∙ h), λ e. c.eq.ensures ∙ exact.1 e)
