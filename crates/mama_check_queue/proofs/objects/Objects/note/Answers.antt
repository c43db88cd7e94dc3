use Rattle.std.proofs.Common.{ap, ◌∙◌}
use Rattle.std.proofs.lemmas.Result.{on_ok_weaker}
use Rattle.mama_check_queue.specs.Seen.{at, called_so}
use Rattle.mama_check_queue.proofs.RowLemmas.{changed}
use Rattle.mama_check_queue.proofs.objects.Objects.note.Goals as goal

pub returns : goal.returns
returns c =
    on_ok_weaker c.note_at.result (λ row x.
    changed c.self.inside.places.keys c.self.inside.rows.items c.in_ok-place.place c.index_mut.result.now c.note_at.new.row c.args.object.now (called_so c.args.call c.args.orders) c.open.new.self c.self.view_is
    c.in_ok-place.ensures.some c.in_ok-place.ensures.within c.index_mut.ensures.value row x
    ∙ ap (at c.args.object.now x (called_so c.args.call c.args.orders)) (c.in_ok-place.ensures.same x))
    c.note_at.ensures
