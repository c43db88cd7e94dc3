use Rattle.std.proofs.Common.{◌<◌, not, ◌&&◌, ◌==◌, ap, sym, subst, ◌∙◌}
use Rattle.mama_slots.specs.Slots.{SlotData, in_use, is_freed, top_of}
use Rattle.mama_slots.proofs.Places.{gone_free, below_with}
use Rattle.mama_slots.proofs.slots.Slots.release.Goals as goal

pub invariant_of-self : goal.invariant_of-self
invariant_of-self c = record {
  each = λ of k h. below_with (record { tops = c.self.inside.tops.entries; freed = c.self.inside.freed.keys }) c.args.queue c.args.slot
      (subst (λ n. c.args.slot < n) (c.top.ensures ∙ sym (ap (λ (s : SlotData). top_of s c.args.queue) c.self.view_is)) c.if-slot-top.true)
      c.self.invariant _ of k (c.in_ok-insert.ensures.updates.0 (of, k)) h;
}

pub returns-in_ok-insert-clause-ok : goal.returns-in_ok-insert-clause-ok
returns-in_ok-insert-clause-ok c = λ of k.
    gone_free (record { tops = c.self.inside.tops.entries; freed = c.self.inside.freed.keys })
    (λ q s. is_freed (record { tops = c.self.inside.tops.entries; freed = c.insert.new.self.keys }) q s)
    c.args.queue c.args.slot (λ q s. c.in_ok-insert.ensures.updates.0 (q, s)) of k
    ∙ ap (λ (s : SlotData). in_use s of k && not (of == c.args.queue && k == c.args.slot)) c.self.view_is
