use Rattle.std.proofs.Common.{sym, ◌∙◌, length}
use Rattle.std.proofs.lemmas.List.{length-map}
use Rattle.std.proofs.lemmas.Result.{IfOk-weaker}
use Rattle.mama_check_queue.proofs.ListLemmas.{table_new}
use Rattle.mama_check_queue.proofs.lists.table_of.Goals as goal

pub returns : goal.returns
returns c =
    IfOk-weaker c.new.result _ _
    (λ table is. table_new c.args.groups.now c.in_ok-rows.rows.items _ table c.in_ok-rows.ensures (sym c.in_ok-listeners.ensures ∙ sym (length-map c.in_ok-listeners.listeners.items _)) is)
    c.new.ensures
