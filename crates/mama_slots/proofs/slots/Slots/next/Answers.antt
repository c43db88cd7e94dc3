use Rattle.std.proofs.Common.{sym, ◌∙◌}
use Rattle.mama_slots.proofs.Least.{least_free-is}
use Rattle.mama_slots.proofs.slots.Slots.next.Goals as goal

pub returns-in-Some-clause-least : goal.returns-in-Some-clause-least
returns-in-Some-clause-least c = λ used h.
    sym (least_free-is used c.in-Some.slot
    (sym (h c.in-Some.slot) ∙ sym (c.in_ok-prepare.ensures.same c.args.queue c.in-Some.slot) ∙ c.in-Some.ensures.free)
    (λ k less. sym (h k) ∙ sym (c.in_ok-prepare.ensures.same c.args.queue k) ∙ c.in-Some.ensures.least k less))
