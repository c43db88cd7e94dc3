-- inner: the test of two keys is exact: it holds where the keys are one, and nowhere else.
use Rattle.std.specs.Prelude.{◌≡◌}
use Rattle.std.specs.Bool.{Decides}
use Rattle.std.specs.Cmp.{IsEquivalence, decided}
use Rattle.std.proofs.Common.{ap, sym, true≢false}
use Rattle.std.proofs.lemmas.Bool.Decides.{Decides-eqb}
use Rattle.std.proofs.lemmas.Slice.Eq.{bytes_eq-Decides}
use Rattle.mama_msg.specs.declared.field.Key.{Key}
use Rattle.mama_msg.specs.declared.field.Key.TheVariants.{Numbered, Named}
use Rattle.mama_msg.specs.Field.{same_key}

pub same_key-Decides : (a b : Key) → Decides (same_key a b) (a ≡ b)
same_key-Decides (Numbered a) (Numbered b) = (λ h. ap Numbered ((Decides-eqb a b).0 h), λ e. (Decides-eqb a b).1 (cc))
same_key-Decides (Named a) (Named b) = (λ h. ap Named ((bytes_eq-Decides a b).0 h), λ e. (bytes_eq-Decides a b).1 (cc))
same_key-Decides (Numbered a) (Named b) = (λ h. absurd (true≢false (sym h)), λ e. cc)
same_key-Decides (Named a) (Numbered b) = (λ h. absurd (true≢false (sym h)), λ e. cc)

-- so it is an equivalence
pub same_key_equivalence : IsEquivalence same_key
same_key_equivalence = decided same_key same_key-Decides
