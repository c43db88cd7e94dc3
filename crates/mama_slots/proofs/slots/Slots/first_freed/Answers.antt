use Rattle.std.proofs.Common.{ap, sym, ◌∙◌}
use Rattle.mama_slots.specs.Slots.{is_freed, SlotData}
use Rattle.mama_slots.proofs.Places.{range_first, range_none}
use Rattle.mama_slots.proofs.slots.Slots.first_freed.Goals as goal

pub returns-in-Some-clause-least : goal.returns-in-Some-clause-least
returns-in-Some-clause-least c = λ k less.
    sym (ap (λ (s : SlotData). is_freed s c.args.queue k) c.self.view_is)
    ∙ range_first c.self.inside.freed c.args.queue _ _ c.in-Some.field-0.now (c.range-of_queue.ensures.in_range tt) c.in-Some.ensures.steps k less

pub returns-in-None-clause-none : goal.returns-in-None-clause-none
returns-in-None-clause-none c = λ k small.
    sym (ap (λ (s : SlotData). is_freed s c.args.queue k) c.self.view_is)
    ∙ range_none c.self.inside.freed c.args.queue _ (c.range-of_queue.ensures.in_range tt) c.in-None.ensures.steps.0 k small
