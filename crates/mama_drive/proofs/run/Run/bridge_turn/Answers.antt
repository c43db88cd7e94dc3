use Rattle.std.proofs.Common.{◌∙◌, ap}
use Rattle.mama_rules_rounds.specs.World.{bridge_turn}
use Rattle.mama_drive.proofs.StageLemmas.{on_err}
use Rattle.mama_drive.proofs.RunLemmas.{turn_then}
use Rattle.mama_drive.specs.Held.{seen}
use Rattle.mama_drive.proofs.LawfulLemmas.{lawful_same, lawful_settled, bridge_lawful}
use Rattle.mama_drive.proofs.run.Run.bridge_turn.Goals as goal

pub returns-clause-turn : goal.returns-clause-turn
returns-clause-turn c = turn_then bridge_turn c.settle.new.held c.settle.new.system _ c.args.self.now _ c.self.view_is c.settle.ensures.same c.in_ok-settle.ensures.clear c.in_ok-held.ensures.turn

pub returns-in_err-settle-clause-err : goal.returns-in_err-settle-clause-err
returns-in_err-settle-clause-err c = on_err c.from_residual.result (c.settle.ensures.same ∙ c.self.view_is)

pub returns-in_err-held-clause-err : goal.returns-in_err-held-clause-err
returns-in_err-held-clause-err c = on_err c.from_residual-in_err-held.result (ap (seen c.settle.new.held) c.in_err-held.ensures.err ∙ c.settle.ensures.same ∙ c.self.view_is)

pub invariant_of-self : goal.invariant_of-self
invariant_of-self c = lawful_same _ _ c.settle.ensures.same c.self.invariant

pub invariant_of-self-in_err-held : goal.invariant_of-self-in_err-held
invariant_of-self-in_err-held c = lawful_same _ _ (ap (seen c.settle.new.held) c.in_err-held.ensures.err ∙ c.settle.ensures.same) c.self.invariant

pub invariant_of-self-2 : goal.invariant_of-self-2
invariant_of-self-2 c = bridge_lawful _ _ c.in_ok-held.ensures.turn (lawful_settled c.settle.new.held c.settle.new.system _ c.settle.ensures.same c.in_ok-settle.ensures.clear c.self.invariant)
