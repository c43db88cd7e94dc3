use Rattle.std.proofs.Common.{ap, ◌∙◌}
use Rattle.std.proofs.lemmas.Result.{on_ok_weaker}
use Rattle.mama_check_queue.specs.Seen.{at, made_as}
use Rattle.mama_check_queue.proofs.RowLemmas.{changed}
use Rattle.mama_check_queue.proofs.objects.Objects.make.Goals as goal

pub returns : goal.returns
returns c =
    on_ok_weaker c.make_at.result (λ row x.
    changed c.self.inside.places.keys c.self.inside.rows.items c.in_ok-place.place c.index_mut.result.now c.make_at.new.row c.args.object.now (made_as c.args.make) c.open.new.self c.self.view_is
    c.in_ok-place.ensures.some c.in_ok-place.ensures.within c.index_mut.ensures.value row x
    ∙ ap (at c.args.object.now x (made_as c.args.make)) (c.in_ok-place.ensures.same x))
    c.make_at.ensures
