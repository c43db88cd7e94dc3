use Rattle.std.proofs.Common.{ℕ, List, ◌∙◌}
use Rattle.std.specs.List.{AllByRecursion}
use mathlib.Core.List.{IsPrefix}
use Rattle.mama_journal.specs.Lane.{by_port}
use Rattle.mama_lane.specs.declared.view.View.{View}
use Rattle.mama_lane.proofs.Batches.{found_none}
use Rattle.mama_lane.proofs.Kept.{takes, looks, admits}
use Rattle.mama_lane.proofs.steps.claim.Goals as goal

pub returns-in-Ok-clause-caught_up : goal.returns-in-Ok-clause-caught_up
returns-in-Ok-clause-caught_up g c =
    found_none (λ (v : View g.row.E-Note.Denot). AllByRecursion (λ (note : ℕ × List g.row.E-Note.Denot). IsPrefix note.1 (by_port note.0 v.taken)) v.learnt) _ _ _ c.args.pass.now.me.view.client c.head-head.new.pass.me.view.client _
    c.in-Ok.ensures.done (c.head-head.ensures.1.0.2 ∙ c.loop.invariant.view)

pub try_pop_batch-requires-clause-rule : goal.try_pop_batch-requires-clause-rule
try_pop_batch-requires-clause-rule g c =
    rw (c.head-head.ensures.0.2, c.loop.invariant.pass.1) (λ n _ _. takes g.E.Stream.noted g.E.Stream.lawful g.met.E.Stream.lawful_prefix _ n, looks g.E.Stream.noted g.E.Stream.lawful _, admits g.E.Stream.noted g.E.Stream.lawful)
