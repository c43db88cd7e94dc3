use Rattle.std.proofs.Common.{ap, ◌∙◌}
use Rattle.mama_check_queue.specs.Seen.{at, begun}
use Rattle.mama_check_queue.proofs.RowLemmas.{changed}
use Rattle.mama_check_queue.proofs.objects.Objects.begin.Goals as goal

pub returns : goal.returns
returns c = λ x.
    changed c.self.inside.places.keys c.self.inside.rows.items c.in_ok-place.place c.index_mut.result.now c.begin_at.new.row c.args.object.now (begun c.args.call.now) c.open.new.self c.self.view_is
    c.in_ok-place.ensures.some c.in_ok-place.ensures.within c.index_mut.ensures.value c.begin_at.ensures x
    ∙ ap (at c.args.object.now x (begun c.args.call.now)) (c.in_ok-place.ensures.same x)
