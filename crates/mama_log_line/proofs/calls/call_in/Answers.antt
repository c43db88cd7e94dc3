use Rattle.std.proofs.Common.{◌≡◌, [], ◌∷◌, ◌++◌}
use Rattle.mama_record.specs.LogText.{line, callback_text}
use Rattle.mama_log_line.specs.Entering.{MayHear}
use Rattle.mama_log_line.specs.Calls.{call_line_in}
use Rattle.mama_log_line.proofs.CallLaws.{call_found, call_again}
use Rattle.mama_log_line.proofs.LineLaws.{if_found, if_again}
use Rattle.mama_log_line.proofs.calls.call_in.Goals as goal

pub returns-clause-found : goal.returns-clause-found
returns-clause-found c =
    if_found (λ e. (MayHear c.args.nums c.args.object e) × (c.args.line.now ++ 10 ∷ [] ≡ line (callback_text e))) (call_line_in c.args.nums c.args.object c.args.line.now) c.without_fault.result (c.without_fault.ensures (call_line_in c.args.nums c.args.object c.args.line.now) c.call_line.ensures)
    (λ e is. call_found c.args.nums c.args.object c.args.line.now e is)

pub returns-clause-again : goal.returns-clause-again
returns-clause-again c =
    if_again (λ e. MayHear c.args.nums c.args.object e) (λ e. c.args.line.now ++ 10 ∷ [] ≡ line (callback_text e)) (call_line_in c.args.nums c.args.object c.args.line.now) c.without_fault.result (c.without_fault.ensures (call_line_in c.args.nums c.args.object c.args.line.now) c.call_line.ensures)
    (λ e may same. call_again c.args.nums c.args.object c.args.line.now e may same)
