use Rattle.std.proofs.Common.{sym, subst, ◌<◌, length, ◌∙◌, ap}
use Rattle.mama_rules_rounds.specs.Stage.{client_step}
use Rattle.mama_drive.specs.Scene.{Scene, Stepped}
use Rattle.mama_drive.proofs.RunLemmas.{step_then, heard_then}
use Rattle.mama_drive.proofs.HeldLemmas.{settled}
use Rattle.mama_drive.proofs.LawfulLemmas.{lawful_same, lawful_settled, client_lawful}
use Rattle.mama_drive.specs.Held.{seen}
use Rattle.mama_drive.proofs.run.Run.client_turn.Goals as goal

pub client_turn-requires : goal.client_turn-requires
client_turn-requires g c = subst (λ (s : Scene). c.args.number < length s.clients) (sym (settled c.settle.new.held c.settle.new.system _ c.args.self.now c.self.view_is c.settle.ensures.same c.in_ok-settle.ensures.clear)) c.requires

pub returns-clause-step : goal.returns-clause-step
returns-clause-step g c = step_then (Stepped client_step c.args.number) c.settle.new.held c.settle.new.system _ c.args.self.now _ c.self.view_is c.settle.ensures.same c.in_ok-settle.ensures.clear c.in_ok-held.ensures.step

pub returns-clause-clock : goal.returns-clause-clock
returns-clause-clock g c = heard_then c.args.number _ _ c.settle.new.held c.settle.new.system _ c.args.self.now _ c.self.view_is c.settle.ensures.same c.in_ok-settle.ensures.clear c.in_ok-held.ensures.clock

pub invariant_of-self : goal.invariant_of-self
invariant_of-self g c = lawful_same _ _ c.settle.ensures.same c.self.invariant

pub invariant_of-self-in_err-held : goal.invariant_of-self-in_err-held
invariant_of-self-in_err-held g c = lawful_same _ _ (ap (seen c.settle.new.held) c.in_err-held.ensures.err ∙ c.settle.ensures.same) c.self.invariant

pub invariant_of-self-2 : goal.invariant_of-self-2
invariant_of-self-2 g c = client_lawful c.args.number _ _
    (subst (λ (s : Scene). c.args.number < length s.clients) (sym (settled c.settle.new.held c.settle.new.system _ c.args.self.now c.self.view_is c.settle.ensures.same c.in_ok-settle.ensures.clear)) c.requires)
    c.in_ok-held.ensures.step (lawful_settled c.settle.new.held c.settle.new.system _ c.settle.ensures.same c.in_ok-settle.ensures.clear c.self.invariant)
