use Rattle.std.proofs.Common.{sym, subst, ◌<◌, length, ◌∙◌, ap}
use Rattle.mama_rules_rounds.specs.World.{queue_turn}
use Rattle.mama_drive.specs.Scene.{Scene}
use Rattle.mama_drive.proofs.RunLemmas.{turn_then}
use Rattle.mama_drive.proofs.HeldLemmas.{settled}
use Rattle.mama_drive.proofs.LawfulLemmas.{lawful_same, lawful_settled, queue_lawful}
use Rattle.mama_drive.specs.Held.{seen}
use Rattle.mama_drive.proofs.run.Run.queue_turn.Goals as goal

pub queue_turn-requires-clause-number : goal.queue_turn-requires-clause-number
queue_turn-requires-clause-number c = subst (λ (s : Scene). c.args.number < length s.servers) (sym (settled c.settle.new.held c.settle.new.system _ c.args.self.now c.self.view_is c.settle.ensures.same c.in_ok-settle.ensures.clear)) c.requires

pub queue_turn-requires-clause-comes : goal.queue_turn-requires-clause-comes
queue_turn-requires-clause-comes c =
    c.lawful_runs_serve.ensures c.settle.new.system c.args.number
    (lawful_settled c.settle.new.held c.settle.new.system _ c.settle.ensures.same c.in_ok-settle.ensures.clear c.self.invariant)
    (subst (λ (s : Scene). c.args.number < length s.servers) (sym (settled c.settle.new.held c.settle.new.system _ c.args.self.now c.self.view_is c.settle.ensures.same c.in_ok-settle.ensures.clear)) c.requires)

pub queue_turn-requires-clause-heard : goal.queue_turn-requires-clause-heard
queue_turn-requires-clause-heard c = (lawful_settled c.settle.new.held c.settle.new.system _ c.settle.ensures.same c.in_ok-settle.ensures.clear c.self.invariant).heard

pub returns-clause-turn : goal.returns-clause-turn
returns-clause-turn c = turn_then (λ setting w. queue_turn setting c.args.number w) c.settle.new.held c.settle.new.system _ c.args.self.now _ c.self.view_is c.settle.ensures.same c.in_ok-settle.ensures.clear c.in_ok-held.ensures.turn

pub invariant_of-self : goal.invariant_of-self
invariant_of-self c = lawful_same _ _ c.settle.ensures.same c.self.invariant

pub invariant_of-self-in_err-held : goal.invariant_of-self-in_err-held
invariant_of-self-in_err-held c = lawful_same _ _ (ap (seen c.settle.new.held) c.in_err-held.ensures.err ∙ c.settle.ensures.same) c.self.invariant

pub invariant_of-self-2 : goal.invariant_of-self-2
invariant_of-self-2 c = queue_lawful c.args.number _ _
    (subst (λ (s : Scene). c.args.number < length s.servers) (sym (settled c.settle.new.held c.settle.new.system _ c.args.self.now c.self.view_is c.settle.ensures.same c.in_ok-settle.ensures.clear)) c.requires)
    c.in_ok-held.ensures.turn (lawful_settled c.settle.new.held c.settle.new.system _ c.settle.ensures.same c.in_ok-settle.ensures.clear c.self.invariant)
