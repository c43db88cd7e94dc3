use Rattle.std.proofs.Common.{◌∙◌, ◌+◌, ◌<◌, ◌^◌, map, length, sym, subst, ap}
use Rattle.std.proofs.lemmas.List.{length-map}
use Rattle.mama_drive.specs.Scene.{Scene, waiting_in}
use Rattle.mama_drive.specs.Marks.{IsNextOf}
use Rattle.mama_drive.proofs.MarkLemmas.{next_of}
use Rattle.mama_drive.proofs.system.System.next_queue.Goals as goal

pub returns-clause-next : goal.returns-clause-next
returns-clause-next c = subst (λ (s : Scene). IsNextOf (map waiting_in s.servers) c.args.from c.next_marked.result) c.self.view_is
    (next_of _ _ c.args.from c.queue_count-count.result c.next_marked.result c.self.invariant.queues_marked
    (c.queue_count-count.ensures.number ∙ sym (ap (λ (s : Scene). length s.servers) c.self.view_is) ∙ sym (length-map _ waiting_in)) c.next_marked.ensures.next c.next_marked.ensures.none)
