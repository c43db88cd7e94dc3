-- inner: the tests of faults and rows hold exactly where both sides are one, so they are equivalences.
use Rattle.std.specs.Prelude.{◌≡◌, ◌==◌, List, refl}
use Rattle.std.specs.Bool.{Decides}
use Rattle.std.specs.Cmp.{IsEquivalence, decided}
use Rattle.std.specs.Cmp.Lexicographic.{pointwise_decides}
use Rattle.std.proofs.Common.{ap, sym, true≢false}
use Rattle.std.proofs.lemmas.Bool.{and_parts, and_from}
use Rattle.std.proofs.lemmas.Bool.Decides.{Decides-eqb}
use Rattle.mama_link.specs.declared.faults.Fault.{Fault}
use Rattle.mama_link.specs.declared.faults.Fault.TheVariants.{Lose, Dup, Hold, Cut}
use Rattle.mama_link.specs.declared.faults.FaultRow.{FaultRow}
use Rattle.mama_link.specs.Equality.{same_fault, same_row, same_rows}

pub same_fault-Decides : (a b : Fault) → Decides (same_fault a b) (a ≡ b)
same_fault-Decides Lose Lose = (λ h. refl, λ e. refl)
same_fault-Decides Dup Dup = (λ h. refl, λ e. refl)
same_fault-Decides (Hold by) (Hold by') = (λ h. ap Hold ((Decides-eqb by by').0 h), λ e. (Decides-eqb by by').1 (cc))
same_fault-Decides (Cut keep) (Cut keep') = (λ h. ap Cut ((Decides-eqb keep keep').0 h), λ e. (Decides-eqb keep keep').1 (cc))
same_fault-Decides _ _ = (λ h. absurd (true≢false (sym h)), λ e. cc)

pub same_row-Decides : (a b : FaultRow) → Decides (same_row a b) (a ≡ b)
same_row-Decides a b = (
  λ h.
      let parts = and_parts (a.index == b.index) (same_fault a.fault b.fault) h in
      let index : a.index ≡ b.index = (Decides-eqb a.index b.index).0 parts.0 in
      let fault : a.fault ≡ b.fault = (same_fault-Decides a.fault b.fault).0 parts.1 in
      λ i. record { index = index i; fault = fault i },
  λ e. and_from (a.index == b.index) (same_fault a.fault b.fault)
      ((Decides-eqb a.index b.index).1 (ap (λ (row : FaultRow). row.index) e))
      ((same_fault-Decides a.fault b.fault).1 (ap (λ (row : FaultRow). row.fault) e)),
)

pub same_rows-Decides : (a b : List FaultRow) → Decides (same_rows a b) (a ≡ b)
same_rows-Decides a b = pointwise_decides same_row-Decides a b

pub same_rows_equivalence : IsEquivalence same_rows
same_rows_equivalence = decided same_rows same_rows-Decides
