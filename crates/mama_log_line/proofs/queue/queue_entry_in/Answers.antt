use Rattle.std.proofs.Common.{◌≡◌, [], ◌∷◌, ◌++◌}
use Rattle.mama_record.specs.LogText.{queue_entry_line}
use Rattle.mama_log_line.specs.Entering.{MayEnterQueue}
use Rattle.mama_log_line.specs.Journal.{queue_line_in}
use Rattle.mama_log_line.proofs.LineLaws.{if_found, if_again}
use Rattle.mama_log_line.proofs.QueueLaws.{queue_found, queue_again}
use Rattle.mama_log_line.proofs.queue.queue_entry_in.Goals as goal

pub returns-clause-found : goal.returns-clause-found
returns-clause-found c =
    if_found (λ e. MayEnterQueue c.args.names.now e × (c.args.line.now ++ 10 ∷ [] ≡ queue_entry_line e)) (queue_line_in c.args.names.now c.args.line.now) c.without_fault.result (c.without_fault.ensures (queue_line_in c.args.names.now c.args.line.now) c.read_line.ensures)
    (λ e is. queue_found c.args.names.now c.args.line.now e is)

pub returns-clause-again : goal.returns-clause-again
returns-clause-again c =
    if_again (λ e. MayEnterQueue c.args.names.now e) (λ e. c.args.line.now ++ 10 ∷ [] ≡ queue_entry_line e) (queue_line_in c.args.names.now c.args.line.now) c.without_fault.result (c.without_fault.ensures (queue_line_in c.args.names.now c.args.line.now) c.read_line.ensures)
    (λ e may same. queue_again c.args.names.now c.args.line.now e may same)
