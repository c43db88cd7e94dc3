use Rattle.mama_check_queue.specs.Seen.{silenced}
use Rattle.mama_check_queue.proofs.RowLemmas.{changed, unchanged_none}
use Rattle.mama_check_queue.proofs.objects.Objects.silence.Goals as goal

pub returns-in-Some : goal.returns-in-Some
returns-in-Some c =
    changed c.self.inside.places.keys c.self.inside.rows.items c.in-Some.place c.index_mut.result.now c.silence_at.new.row c.args.object.now silenced c.args.self.now c.self.view_is
    c.in-Some.ensures.some c.in-Some.ensures.within c.index_mut.ensures.value c.silence_at.ensures

pub returns-in-None : goal.returns-in-None
returns-in-None c = unchanged_none c.args.object.now c.args.self.now c.in-None.ensures.none
