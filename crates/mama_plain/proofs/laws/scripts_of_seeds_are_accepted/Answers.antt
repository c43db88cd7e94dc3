use Rattle.std.proofs.Common.{refl}
use Rattle.mama_gen.specs.Generated.{script_of_seed}
use Rattle.mama_plain.proofs.laws.scripts_of_seeds_are_accepted.Goals as goal

pub returns : goal.returns
returns c = λ seed. record { script = script_of_seed seed; accepted = c.seeds_make_scripts.ensures seed; spelled = refl }
