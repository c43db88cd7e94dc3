use Rattle.std.proofs.Common.{◌∙◌, ap, sym, subst, ◌<◌, length}
use Rattle.mama_rules_rounds.specs.Stage.{publisher_step}
use Rattle.mama_drive.specs.Scene.{Scene, Stepped}
use Rattle.mama_drive.proofs.RunLemmas.{step_then}
use Rattle.mama_drive.proofs.HeldLemmas.{settled}
use Rattle.mama_drive.proofs.LawfulLemmas.{lawful_same, lawful_settled, sender_lawful}
use Rattle.mama_drive.specs.Held.{seen}
use Rattle.mama_drive.proofs.run.Run.sender_turn.Goals as goal

pub sender_turn-requires : goal.sender_turn-requires
sender_turn-requires c = subst (λ (s : Scene). c.args.number < length s.senders) (sym (settled c.settle.new.held c.settle.new.system _ c.args.self.now c.self.view_is c.settle.ensures.same c.in_ok-settle.ensures.clear)) c.requires

pub returns-clause-step : goal.returns-clause-step
returns-clause-step c = step_then (Stepped publisher_step c.args.number) c.settle.new.held c.settle.new.system _ c.args.self.now _ c.self.view_is c.settle.ensures.same c.in_ok-settle.ensures.clear c.in_ok-held.ensures.step

pub returns-clause-clients : goal.returns-clause-clients
returns-clause-clients c = c.in_ok-held.ensures.clients ∙ ap (λ (s : Scene). s.clients) (settled c.settle.new.held c.settle.new.system _ c.args.self.now c.self.view_is c.settle.ensures.same c.in_ok-settle.ensures.clear)

pub invariant_of-self : goal.invariant_of-self
invariant_of-self c = lawful_same _ _ c.settle.ensures.same c.self.invariant

pub invariant_of-self-in_err-held : goal.invariant_of-self-in_err-held
invariant_of-self-in_err-held c = lawful_same _ _ (ap (seen c.settle.new.held) c.in_err-held.ensures.err ∙ c.settle.ensures.same) c.self.invariant

pub invariant_of-self-2 : goal.invariant_of-self-2
invariant_of-self-2 c = sender_lawful c.args.number _ _
    (subst (λ (s : Scene). c.args.number < length s.senders) (sym (settled c.settle.new.held c.settle.new.system _ c.args.self.now c.self.view_is c.settle.ensures.same c.in_ok-settle.ensures.clear)) c.requires)
    c.in_ok-held.ensures.step (lawful_settled c.settle.new.held c.settle.new.system _ c.settle.ensures.same c.in_ok-settle.ensures.clear c.self.invariant)
