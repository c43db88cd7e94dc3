use Rattle.std.proofs.Common.{◌≡◌, Err, subst}
use Rattle.mama_replay.specs.declared.step.ReplayFault.{ReplayFault}
use Rattle.mama_plain.proofs.replay.follow_legal.Goals as goal

pub returns-in-Err-NotCausal-clause-cause : goal.returns-in-Err-NotCausal-clause-cause
returns-in-Err-NotCausal-clause-cause c =
    let is = subst (λ (fault : ReplayFault). c.replay.result ≡ Err fault) c.in-Err-NotCausal.field-0-is c.in-Err-NotCausal.is in
    let told = c.replay.ensures.not_causal c.in-Err-NotCausal.actor c.in-Err-NotCausal.entry is in (c.requires, told.0, told.1)
