use Rattle.mama_laws_causal.proofs.Rounds.{rounds_are_causal}
use Rattle.mama_laws_causal.proofs.laws.rounds_are_causal.Goals as goal

pub returns : goal.returns
returns c = rounds_are_causal
