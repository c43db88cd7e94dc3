use Rattle.std.proofs.Common.{◌+◌, ◌<◌, ◌^◌, sym, subst}
use Rattle.std.specs.Prelude.{IfSome}
use Rattle.mama_event.specs.Ports.{queues_of}
use Rattle.mama_drive.specs.Marks.{IsNextOf}
use Rattle.mama_drive.specs.Scene.{Scene, world_in}
use Rattle.mama_drive.proofs.LawfulLemmas.{lawful_same}
use Rattle.mama_drive.proofs.run.Run.next_queue.Goals as goal

pub returns-clause-next : goal.returns-clause-next
returns-clause-next c = subst (λ (s : Scene). IsNextOf (world_in s).to_queues c.args.from c.next_queue.result) (sym (c.in_ok-settle.ensures.clear c.settle.new.system)) c.next_queue.ensures.next

pub returns-clause-within : goal.returns-clause-within
returns-clause-within c = subst (λ (s : Scene). IfSome c.next_queue.result (λ n. (n < queues_of s.shape) × (n + 1 < 2 ^ 32))) (sym (c.in_ok-settle.ensures.clear c.settle.new.system)) c.next_queue.ensures.within

pub invariant_of-self : goal.invariant_of-self
invariant_of-self c = lawful_same _ _ c.settle.ensures.same c.self.invariant

pub invariant_of-self-2 : goal.invariant_of-self-2
invariant_of-self-2 c = lawful_same _ _ c.settle.ensures.same c.self.invariant
