use Rattle.std.proofs.Common.{◌++◌, ap, sym, ◌∙◌}
use Rattle.std.proofs.lemmas.Result.{on_ok_weaker}
use Rattle.mama_event.specs.declared.ids.ObjectId.TheVariants.{Sub}
use Rattle.mama_dq.specs.Strategy.{callbacks_of}
use Rattle.mama_check_queue.specs.Seen.{SeenData, at, handling}
use Rattle.mama_check_queue.proofs.RowLemmas.{changed, row_there}
use Rattle.mama_check_queue.proofs.objects.Objects.handle.Goals as goal

pub returns-clause-seen : goal.returns-clause-seen
returns-clause-seen c =
    on_ok_weaker c.handle_at.result (λ row x.
    changed c.self.inside.places.keys c.self.inside.rows.items c.in_ok-place.place c.index_mut.result.now c.handle_at.new.row (Sub c.args.sub) (handling c.args.msg.now) c.open.new.self c.self.view_is
    c.in_ok-place.ensures.some c.in_ok-place.ensures.within c.index_mut.ensures.value row x
    ∙ ap (at (Sub c.args.sub) x (handling c.args.msg.now)) (c.in_ok-place.ensures.same x))
    c.handle_at.ensures.row

pub returns-clause-calls : goal.returns-clause-calls
returns-clause-calls c =
    let was = row_there c.self.inside.places.keys c.self.inside.rows.items c.in_ok-place.place c.index_mut.result.now (Sub c.args.sub) c.open.new.self c.self.view_is
    c.in_ok-place.ensures.some c.in_ok-place.ensures.within c.index_mut.ensures.value in
    on_ok_weaker c.handle_at.result (λ more.
    more ∙ ap (λ (x : SeenData). c.args.calls.now ++ callbacks_of x.context c.args.msg.now) (sym was ∙ c.in_ok-place.ensures.same (Sub c.args.sub)))
    c.handle_at.ensures.calls
