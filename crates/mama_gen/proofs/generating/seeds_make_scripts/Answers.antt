use Rattle.mama_gen.proofs.Accepted.{seed_is_script}
use Rattle.mama_gen.proofs.generating.seeds_make_scripts.Goals as goal

pub returns : goal.returns
returns c = seed_is_script
