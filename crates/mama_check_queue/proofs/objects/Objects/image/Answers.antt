use Rattle.std.proofs.Common.{ap, sym, ◌∙◌}
use Rattle.mama_event.specs.declared.ids.ObjectId.TheVariants.{Sub}
use Rattle.mama_dispatch.specs.Journals.{image_in}
use Rattle.mama_check_queue.specs.Seen.{SeenData}
use Rattle.mama_check_queue.proofs.RowLemmas.{row_there, row_none}
use Rattle.mama_check_queue.proofs.objects.Objects.image.Goals as goal

pub returns-in-Some : goal.returns-in-Some
returns-in-Some c =
    c.image_of.ensures
    ∙ sym (ap (λ (s : SeenData). image_in s.context)
    (row_there c.self.inside.places.keys c.self.inside.rows.items c.in-Some.place c.index.result.now (Sub c.args.sub) c.args.self.now c.self.view_is c.in-Some.ensures.some c.in-Some.ensures.within c.index.ensures))

pub returns-in-None : goal.returns-in-None
returns-in-None c = sym (ap (λ (s : SeenData). image_in s.context) (row_none (Sub c.args.sub) c.args.self.now c.in-None.ensures.none))
