use Rattle.std.proofs.Common.{sym, ◌∙◌}
use Rattle.std.specs.Result.{OnOk}
use Rattle.std.proofs.Common.{Result, Ok, Err}
use Rattle.mama_timer.proofs.Keeping.{puts_late}
use Rattle.mama_timer.proofs.Words.{notes_none}
use Rattle.mama_timer.proofs.table.Table.now.Goals as goal

on_ok : {T E : Type 0} (r : Result T E) (P : Type 0) → P → OnOk r P
on_ok (Ok x) P h = h
on_ok (Err e) P h = _

pub returns-then-has_ended-clause-puts : goal.returns-then-has_ended-clause-puts
returns-then-has_ended-clause-puts g c =
    on_ok c.now_late.result _ (notes_none g.L.Tagged.tagged c.args.out.now.items _
    (puts_late c.args.self.now.shape c.args.self.now.journal c.args.port c.args.note c.args.moment c.requires (sym c.has_ended.ensures ∙ c.if-has_ended.true)))
