use Rattle.mama_drive.proofs.RunLemmas.{rests_plays, rests_hear, rests_keep}
use Rattle.std.proofs.Common.{refl}
use Rattle.mama_drive.proofs.LawfulLemmas.{played_lawful}
use Rattle.mama_drive.proofs.run.Run.rests.Goals as goal

pub returns-clause-rounds : goal.returns-clause-rounds
returns-clause-rounds c = λ t. rests_plays c.self.inside.held c.self.inside.system c.rest.new.self c.args.self.now c.pause-rounds.result c.self.view_is
    (c.is_empty.ensures c.if-not-is_empty.false) c.rest.ensures.rounds

pub returns-clause-clock : goal.returns-clause-clock
returns-clause-clock c = λ t o. rests_hear c.self.inside.held c.self.inside.system c.rest.new.self c.args.self.now c.pause-rounds.result o c.self.view_is
    (c.is_empty.ensures c.if-not-is_empty.false) (c.can_rest.ensures c.if-not-can_rest.false).clients c.rest.ensures.clients

pub returns-clause-journals : goal.returns-clause-journals
returns-clause-journals c = rests_keep c.self.inside.held c.self.inside.system c.rest.new.self c.args.self.now c.self.view_is (c.is_empty.ensures c.if-not-is_empty.false) c.rest.ensures.journals

pub invariant_of-self : goal.invariant_of-self
invariant_of-self c =
    played_lawful _ _
    (rests_plays c.self.inside.held c.self.inside.system c.rest.new.self _ c.pause-rounds.result refl (c.is_empty.ensures c.if-not-is_empty.false) c.rest.ensures.rounds)
    c.self.invariant
