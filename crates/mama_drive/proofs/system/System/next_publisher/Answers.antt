use Rattle.std.proofs.Common.{◌∙◌, ◌+◌, ◌<◌, ◌^◌, map, length, sym, subst, ap}
use Rattle.std.proofs.lemmas.List.{length-map}
use Rattle.mama_drive.specs.Scene.{Scene, lane_in}
use Rattle.mama_drive.specs.Marks.{IsNextOf}
use Rattle.mama_drive.proofs.MarkLemmas.{next_of}
use Rattle.mama_drive.proofs.system.System.next_publisher.Goals as goal

pub returns-clause-next : goal.returns-clause-next
returns-clause-next c = subst (λ (s : Scene). IsNextOf (map lane_in s.senders) c.args.from c.next_marked.result) c.self.view_is
    (next_of _ _ c.args.from c.publisher_count-count.result c.next_marked.result c.self.invariant.publishers_marked
    (c.publisher_count-count.ensures.number ∙ sym (ap (λ (s : Scene). length s.senders) c.self.view_is) ∙ sym (length-map _ lane_in)) c.next_marked.ensures.next c.next_marked.ensures.none)
