-- The queues in turn, by how many turns there were.
use Rattle.std.proofs.Common.{◌≡◌, ℕ, suc, ◌+◌, ◌*◌, ◌/◌, ◌%◌, ◌<◌, ap, sym, ◌∙◌, arith}
use Rattle.std.proofs.lemmas.Nat.{div-add-mod', mod-mul-add}
use Rattle.std.proofs.Math.Nat.{suc-mul}

-- after the last queue the first comes
pub turned_over : (turns q n : ℕ) → n ≡ turns % q → n + 1 ≡ q → 0 ≡ suc turns % q
turned_over turns q n here last =
    let whole : turns / q * q + turns % q ≡ turns = div-add-mod' turns q in
    let next : suc (turns / q) * q + 0 ≡ suc turns = omega (arith, suc-mul (turns / q) q) in
    sym (mod-mul-add (suc (turns / q)) q 0 (omega arith)) ∙ ap (λ (t : ℕ). t % q) next

-- after another queue the one above it comes
pub turned : (turns q n : ℕ) → n ≡ turns % q → n + 1 < q → n + 1 ≡ suc turns % q
turned turns q n here more =
    let whole : turns / q * q + turns % q ≡ turns = div-add-mod' turns q in
    let next : turns / q * q + (n + 1) ≡ suc turns = omega arith in
    sym (mod-mul-add (turns / q) q (n + 1) more) ∙ ap (λ (t : ℕ). t % q) next
