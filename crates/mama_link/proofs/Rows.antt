-- Small links, worked out: the definitions compute to what a reader expects.
use Rattle.std.proofs.Common.{◌≡◌, ℕ, min, [], ◌∷◌, refl}
use Rattle.mama_link.specs.declared.faults.Fault.{Fault}
use Rattle.mama_link.specs.declared.faults.Fault.TheVariants.{Lose, Dup, Hold, Cut}
use Rattle.mama_link.specs.declared.faults.FaultRow.{FaultRow}
use Rattle.mama_link.specs.Link.{emit, rest, through}

abbrev row : ℕ → Fault → FaultRow
row i fault = record { index = i; fault = fault }

-- a cut of a number keeps no more than it is told
abbrev lower : ℕ → ℕ → ℕ
lower keep n = min n keep

-- a lost message does not come out
pub lost : through {T = ℕ} lower (row 2 Lose ∷ []) (10 ∷ 20 ∷ 30 ∷ []) ≡ 10 ∷ 30 ∷ []
lost = refl

-- a repeated one comes out twice
pub repeated : through {T = ℕ} lower (row 2 Dup ∷ []) (10 ∷ 20 ∷ 30 ∷ []) ≡ 10 ∷ 20 ∷ 20 ∷ 30 ∷ []
repeated = refl

-- a held one comes out after the own output of the message that is one later, which is repeated
pub past_repeated : emit {T = ℕ} lower (row 1 (Hold 1) ∷ row 2 Dup ∷ []) (10 ∷ 20 ∷ 30 ∷ []) 2 ≡ 20 ∷ 20 ∷ 10 ∷ []
past_repeated = refl

-- lost
pub past_lost : emit {T = ℕ} lower (row 1 (Hold 1) ∷ row 2 Lose ∷ []) (10 ∷ 20 ∷ 30 ∷ []) 2 ≡ 10 ∷ []
past_lost = refl

-- or held itself
pub past_held : through {T = ℕ} lower (row 1 (Hold 1) ∷ row 2 (Hold 1) ∷ []) (10 ∷ 20 ∷ 30 ∷ []) ≡ 10 ∷ 30 ∷ 20 ∷ []
past_held = refl

-- two at one place come out in order of number, whatever the order of the rows
pub two_at_one_place : emit {T = ℕ} lower (row 2 (Hold 1) ∷ row 1 (Hold 2) ∷ []) (10 ∷ 20 ∷ 30 ∷ []) 3 ≡ 30 ∷ 10 ∷ 20 ∷ []
two_at_one_place = refl

-- what never comes due comes out at the end, in order of number and not of place
pub at_the_end : rest {T = ℕ} (row 1 (Hold 9) ∷ row 2 (Hold 3) ∷ []) (10 ∷ 20 ∷ 30 ∷ []) ≡ 10 ∷ 20 ∷ []
at_the_end = refl

-- rows for messages that never come do nothing
pub never_came : through {T = ℕ} lower (row 7 Lose ∷ row 4 (Hold 1) ∷ []) (10 ∷ 20 ∷ 30 ∷ []) ≡ 10 ∷ 20 ∷ 30 ∷ []
never_came = refl

-- a cut message stands in its place with what is left of it, and one that has no more is whole
pub cut_short : through {T = ℕ} lower (row 2 (Cut 5) ∷ row 3 (Cut 50) ∷ []) (10 ∷ 20 ∷ 30 ∷ []) ≡ 10 ∷ 5 ∷ 30 ∷ []
cut_short = refl
