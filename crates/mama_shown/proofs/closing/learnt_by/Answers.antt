use Rattle.std.specs.Prelude.{IfSome}
use Rattle.std.proofs.Common.{subst}
use Rattle.mama_shown.specs.Last.{TellsLast}
use Rattle.mama_shown.proofs.Lasts.{learns_last}
use Rattle.mama_shown.proofs.closing.learnt_by.Goals as goal

pub learn-requires : goal.learn-requires
learn-requires c = c.are_of_one_queue.ensures c.if-not-are_of_one_queue.false

pub returns : goal.returns
returns c = λ objects journals h.
    learns_last objects journals c.in-Some.reader c.learn.new.self c.in-Some-told.told (c.are_of_one_queue.ensures c.if-not-are_of_one_queue.false) c.learn.ensures.learnt
    (subst (λ o. IfSome o (λ t. TellsLast objects journals t)) c.in-Some-told.is h)
