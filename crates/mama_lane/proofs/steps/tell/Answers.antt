use Rattle.std.proofs.Common.{rules, refl}
use Rattle.mama_lane.proofs.Kept.{tells, whole_begins, nothing_begins}
use Rattle.mama_lane.proofs.steps.tell.Goals as goal

-- A note of nothing would keep the rule too: it is the clause of `tell` on its note that refuses one.
pub another-requires-clause-rule : goal.another-requires-clause-rule
another-requires-clause-rule g c =
    tells g.E.Stream.noted g.E.Stream.lawful _ _ _ c.requires.role refl refl (search (rules, whole_begins, nothing_begins))
