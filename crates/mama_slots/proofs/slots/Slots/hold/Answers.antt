use Rattle.std.proofs.Common.{◌||◌, ◌&&◌, ◌==◌, ap, sym, ◌∙◌}
use Rattle.mama_slots.specs.Slots.{SlotData, in_use, is_freed}
use Rattle.mama_slots.proofs.Places.{taken_again, below_still}
use Rattle.mama_slots.proofs.slots.Slots.hold.Goals as goal

pub invariant_of-self : goal.invariant_of-self
invariant_of-self c = record {
  each = λ queue slot h. c.self.invariant.each queue slot (below_still _ _ _ (c.if-remove.ensures.updates.0 (queue, slot)) h);
}

pub returns-then-remove : goal.returns-then-remove
returns-then-remove c = λ of k.
    taken_again (record { tops = c.self.inside.tops.entries; freed = c.self.inside.freed.keys })
    (λ q s. is_freed (record { tops = c.self.inside.tops.entries; freed = c.remove.new.self.keys }) q s)
    c.args.queue c.args.slot c.self.invariant (sym c.if-remove.ensures.test) (λ q s. c.if-remove.ensures.updates.0 (q, s)) of k
    ∙ ap (λ (s : SlotData). in_use s of k || (of == c.args.queue && k == c.args.slot)) c.self.view_is
