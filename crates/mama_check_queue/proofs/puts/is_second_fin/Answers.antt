use Rattle.std.proofs.Common.{Bool, ◌&&◌, ◌==◌, ap, sym, ◌∙◌}
use Rattle.mama_check_queue.proofs.puts.is_second_fin.Goals as goal

pub returns-then-is_last : goal.returns-then-is_last
returns-then-is_last c = λ port. sym (ap (λ (b : Bool). b && c.args.fins == 1) (sym (c.is_last.ensures port) ∙ c.if-is_last.true))

pub returns-else-is_last : goal.returns-else-is_last
returns-else-is_last c = λ port. c.if-is_last.false ∙ sym (ap (λ (b : Bool). b && c.args.fins == 1) (sym (c.is_last.ensures port) ∙ c.if-is_last.false))
