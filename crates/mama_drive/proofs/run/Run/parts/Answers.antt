use Rattle.std.proofs.Common.{◌∙◌, ap, sym, subst, true}
use Rattle.mama_drive.specs.Scene.{Scene}
use Rattle.mama_drive.specs.Parts.{ArePartsOf}
use Rattle.mama_drive.proofs.HeldLemmas.{settled}
use Rattle.mama_drive.proofs.PartsLemmas.{parts_ready}
use Rattle.mama_drive.proofs.LawfulLemmas.{lawful_same, lawful_settled, ready_lawful}
use Rattle.mama_drive.proofs.run.Run.parts.Goals as goal

pub make_ready-requires : goal.make_ready-requires
make_ready-requires c = (lawful_settled c.settle.new.held c.settle.new.system _ c.settle.ensures.same c.in_ok-settle.ensures.clear c.self.invariant).heard

pub invariant_of-self : goal.invariant_of-self
invariant_of-self c = lawful_same _ _ c.settle.ensures.same c.self.invariant

pub invariant_of-self-in_err-parts : goal.invariant_of-self-in_err-parts
invariant_of-self-in_err-parts c = lawful_same _ _ c.settle.ensures.same c.self.invariant

pub invariant_of-self-2 : goal.invariant_of-self-2
invariant_of-self-2 c =
    lawful_same _ _ (c.in_ok-settle.ensures.clear c.make_ready.new.self ∙ c.make_ready.ensures)
    (ready_lawful _ (lawful_settled c.settle.new.held c.settle.new.system _ c.settle.ensures.same c.in_ok-settle.ensures.clear c.self.invariant))

pub returns-clause-parts : goal.returns-clause-parts
returns-clause-parts c =
    subst (λ (s : Scene). ArePartsOf s c.in_ok-parts.parts) (sym (c.in_ok-settle.ensures.clear c.make_ready.new.self ∙ c.make_ready.ensures)) (parts_ready c.settle.new.system c.in_ok-parts.parts c.in_ok-parts.ensures)

pub returns-clause-ok : goal.returns-clause-ok
returns-clause-ok c =
    c.in_ok-settle.ensures.clear c.make_ready.new.self ∙ c.make_ready.ensures
    ∙ ap (λ (s : Scene). record s { ready = true }) (settled c.settle.new.held c.settle.new.system _ c.args.self.now c.self.view_is c.settle.ensures.same c.in_ok-settle.ensures.clear)
