use Rattle.std.proofs.Common.{◌≡◌, ◌<◌, ◌^◌, [], ◌∷◌, ◌++◌}
use Rattle.mama_record.specs.LogText.{clock_line}
use Rattle.mama_log_line.specs.Calls.{clock_line_in}
use Rattle.mama_log_line.proofs.OtherLaws.{clock_found, clock_again}
use Rattle.mama_log_line.proofs.LineLaws.{if_found, if_again}
use Rattle.mama_log_line.proofs.calls.clock_in.Goals as goal

pub returns-clause-found : goal.returns-clause-found
returns-clause-found c =
    if_found (λ e. (e < 2 ^ 64) × (c.args.line.now ++ 10 ∷ [] ≡ clock_line e)) (clock_line_in c.args.line.now) c.without_fault.result (c.without_fault.ensures (clock_line_in c.args.line.now) c.clock_line.ensures)
    (λ e is. clock_found c.args.line.now e is)

pub returns-clause-again : goal.returns-clause-again
returns-clause-again c =
    if_again (λ e. e < 2 ^ 64) (λ e. c.args.line.now ++ 10 ∷ [] ≡ clock_line e) (clock_line_in c.args.line.now) c.without_fault.result (c.without_fault.ensures (clock_line_in c.args.line.now) c.clock_line.ensures)
    (λ e may same. clock_again c.args.line.now e may same)
