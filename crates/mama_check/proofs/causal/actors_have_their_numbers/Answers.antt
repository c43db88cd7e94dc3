use Rattle.mama_check.proofs.Numbers.{are_by_number, are_by_port}
use Rattle.mama_check.proofs.causal.actors_have_their_numbers.Goals as goal

pub returns : goal.returns
returns c = record { needs = are_by_number; ports = are_by_port }
