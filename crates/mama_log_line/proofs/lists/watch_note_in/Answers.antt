use Rattle.std.proofs.Common.{◌≡◌, [], ◌∷◌, ◌++◌}
use Rattle.mama_record.specs.LogText.{watch_note_line}
use Rattle.mama_log_line.specs.Entering.{MayNote}
use Rattle.mama_log_line.specs.Lists.{watch_line_in}
use Rattle.mama_log_line.proofs.ListLaws.{watch_found, watch_again}
use Rattle.mama_log_line.proofs.LineLaws.{if_found, if_again}
use Rattle.mama_log_line.proofs.lists.watch_note_in.Goals as goal

pub returns-clause-found : goal.returns-clause-found
returns-clause-found c =
    if_found (λ n. MayNote n × (c.args.line.now ++ 10 ∷ [] ≡ watch_note_line n)) (watch_line_in c.args.line.now) c.without_fault.result (c.without_fault.ensures (watch_line_in c.args.line.now) c.watch_line.ensures) (λ n is. watch_found c.args.line.now n is)

pub returns-clause-again : goal.returns-clause-again
returns-clause-again c =
    if_again (λ n. MayNote n) (λ n. c.args.line.now ++ 10 ∷ [] ≡ watch_note_line n) (watch_line_in c.args.line.now) c.without_fault.result (c.without_fault.ensures (watch_line_in c.args.line.now) c.watch_line.ensures) (λ n may same. watch_again c.args.line.now n may same)
