use Rattle.std.proofs.Common.{ap, sym, ◌∙◌}
use Rattle.mama_event.specs.declared.ids.ObjectId.TheVariants.{Sub}
use Rattle.mama_check_queue.specs.Lists.{is_missed_row}
use Rattle.mama_check_queue.proofs.RowLemmas.{row_there, row_none}
use Rattle.mama_check_queue.proofs.objects.Objects.is_missed.Goals as goal

pub returns-in-Some : goal.returns-in-Some
returns-in-Some c =
    c.is_missed_at.ensures
    ∙ sym (ap is_missed_row
    (row_there c.self.inside.places.keys c.self.inside.rows.items c.in-Some.place c.index.result.now (Sub c.args.sub) c.args.self.now c.self.view_is c.in-Some.ensures.some c.in-Some.ensures.within c.index.ensures))

pub returns-in-None : goal.returns-in-None
returns-in-None c = sym (ap is_missed_row (row_none (Sub c.args.sub) c.args.self.now c.in-None.ensures.none))
