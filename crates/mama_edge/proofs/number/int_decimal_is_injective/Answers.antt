use Rattle.std.proofs.lemmas.Fmt.{signed_decimal_injective}
use Rattle.mama_edge.proofs.DecimalLaws.{mag_fits}
use Rattle.mama_edge.proofs.number.int_decimal_is_injective.Goals as goal

pub returns : goal.returns
returns c = λ m n fits_m fits_n e. signed_decimal_injective m n (mag_fits m fits_m) (mag_fits n fits_n) e
