use Rattle.std.proofs.Common.{sym, ◌∙◌}
use Rattle.std.proofs.lemmas.Result.{on_ok_weaker}
use Rattle.mama_check_queue.proofs.PutLemmas.{bye_said, bye_left}
use Rattle.mama_check_queue.proofs.puts.Puts.put_end.Goals as goal

pub returns-then-is_second_fin : goal.returns-then-is_second_fin
returns-then-is_second_fin c =
    on_ok_weaker c.put_bye.result
    (λ is. bye_said c.args.entry c.args.fins c.args.note.now c.args.self.now c.put_bye.new.self (λ port. sym c.if-is_second_fin.true ∙ c.is_second_fin.ensures port) is)
    c.put_bye.ensures

pub returns : goal.returns
returns c = bye_left c.args.entry c.args.fins c.args.note.now c.args.self.now (λ port. sym c.if-is_second_fin.false ∙ c.is_second_fin.ensures port)
