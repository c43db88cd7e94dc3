use Rattle.std.proofs.Common.{List, ◌∙◌, ap}
use Rattle.mama_rules_rounds.specs.Client.{Planned}
use Rattle.mama_drive.specs.Start.{started}
use Rattle.mama_drive.proofs.LawfulLemmas.{lawful_same, started_lawful}
use Rattle.mama_drive.proofs.run.Run.new.Goals as goal

pub invariant_of-result : goal.invariant_of-result
invariant_of-result c =
    lawful_same _ _
    (c.in_ok-system.ensures ∙ ap (λ (o : List Planned). started o c.args.script.now) (c.in_ok-shared.ensures.ok ∙ c.in_ok-plans.ensures))
    (started_lawful c.client_puts_are_lawful.ensures c.client_puts_are_its_own.ensures c.args.script.now c.shape-shape.ensures.script c.shape-shape.ensures.within)

pub returns : goal.returns
returns c = c.in_ok-system.ensures ∙ ap (λ (o : List Planned). started o c.args.script.now) (c.in_ok-shared.ensures.ok ∙ c.in_ok-plans.ensures)
