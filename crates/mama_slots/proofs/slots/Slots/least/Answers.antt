use Rattle.std.proofs.Common.{ap, sym, ◌∙◌}
use Rattle.mama_slots.specs.Slots.{SlotData, in_use, is_freed}
use Rattle.mama_slots.proofs.Places.{used_below}
use Rattle.mama_slots.proofs.slots.Slots.least.Goals as goal

pub returns-in-Some-clause-least : goal.returns-in-Some-clause-least
returns-in-Some-clause-least c = λ k less.
    sym (ap (λ (s : SlotData). in_use s c.args.queue k) c.self.view_is)
    ∙ used_below (record { tops = c.self.inside.tops.entries; freed = c.self.inside.freed.keys }) c.args.queue c.in-Some.slot c.self.invariant
    (ap (λ (s : SlotData). is_freed s c.args.queue c.in-Some.slot) c.self.view_is ∙ c.in-Some.ensures.freed)
    (λ j below. ap (λ (s : SlotData). is_freed s c.args.queue j) c.self.view_is ∙ c.in-Some.ensures.least j below) k less
