use Rattle.std.specs.Prelude.{if◌then◌else◌}
use Rattle.std.proofs.Common.{◌≡◌, ℕ, suc, ◌+◌, Bool, ap, sym, ◌∙◌, arith}
use Rattle.mama_check_queue.proofs.serving.counted.Goals as goal

pub returns-then-is_last : goal.returns-then-is_last
returns-then-is_last c = λ port.
    let n : ℕ = c.args.fins in
    let one : n + 1 ≡ suc n = omega arith in
    one ∙ sym (ap (λ (b : Bool). if b then suc n else n) (sym (c.is_last.ensures port) ∙ c.if-is_last.true))

pub returns-else-is_last : goal.returns-else-is_last
returns-else-is_last c = λ port.
    let n : ℕ = c.args.fins in
    sym (ap (λ (b : Bool). if b then suc n else n) (sym (c.is_last.ensures port) ∙ c.if-is_last.false))
