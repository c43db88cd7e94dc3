use Rattle.crossbeam_utils.specs.Seq.{cell_view}
use Rattle.mama_pool.proofs.Shares.{noted_is}
use Rattle.mama_pool.proofs.hand.push_at.Goals as goal

pub learn_at-requires-clause-plain : goal.learn_at-requires-clause-plain
learn_at-requires-clause-plain g c = noted_is (cell_view c.count.new.pass) (cell_view c.tell-note.result) c.tell-note.ensures.note.2
