use Rattle.std.proofs.Common.{◌≡◌}
use Rattle.mama_replay.specs.declared.step.ReplayFault.TheVariants.{NotCausal}
use Rattle.mama_replay.proofs.replaying.replay.Goals as goal

pub returns-clause-not_causal : goal.returns-clause-not_causal
returns-clause-not_causal c = λ actor entry is. let same : c.where_stuck.result ≡ NotCausal actor entry = cc in c.where_stuck.ensures actor entry same
