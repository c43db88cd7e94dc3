use Rattle.std.proofs.Common.{ap, sym, ◌∙◌}
use Rattle.mama_check_queue.specs.Seen.{SeenData}
use Rattle.mama_check_queue.proofs.RowLemmas.{row_there, row_none}
use Rattle.mama_check_queue.proofs.objects.Objects.calls.Goals as goal

pub returns-in-Some : goal.returns-in-Some
returns-in-Some c =
    c.as_slice.ensures.value
    ∙ sym (ap (λ (s : SeenData). s.calls)
    (row_there c.self.inside.places.keys c.self.inside.rows.items c.in-Some.place c.index.result.now c.args.object.now c.args.self.now c.self.view_is c.in-Some.ensures.some c.in-Some.ensures.within c.index.ensures))

pub returns-in-None : goal.returns-in-None
returns-in-None c = sym (ap (λ (s : SeenData). s.calls) (row_none c.args.object.now c.args.self.now c.in-None.ensures.none))
