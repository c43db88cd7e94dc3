use Rattle.std.proofs.Common.{ℕ, ◌+◌, ap, ◌∙◌, arith}
use Rattle.mama_client.specs.Group.{Turning}
use Rattle.mama_client.proofs.Turns.{turned_over, turned}
use Rattle.mama_client.proofs.queue_group.QueueGroup.next.Goals as goal
use Rattle.mama_client.proofs.queue_group.QueueGroup.next.Goals.{then-after-self, else-after-self}

pub returns-clause-turns : goal.returns-clause-turns
returns-clause-turns c turns here =
    let queues : ℕ = c.args.self.now.queues in
    let next : ℕ = c.args.self.now.next in
    let same_queues = ap (λ (g : Turning). g.queues) c.self.view_is in
    let same_next = ap (λ (g : Turning). g.next) c.self.view_is in
    elim c.if-after-self.branch [
      | then-after-self w ↦ w.self-is ∙ turned_over turns queues next here (omega (arith, same_queues, same_next, w.if-after-self.true))
      | else-after-self w ↦
          w.self-is ∙ ap (λ (n : ℕ). n + 1) same_next
          ∙ turned turns queues next here (omega (arith, same_queues, same_next, w.if-after-self.false, c.self.invariant))
    ]
