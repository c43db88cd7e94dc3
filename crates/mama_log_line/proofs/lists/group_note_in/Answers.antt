use Rattle.std.proofs.Common.{◌≡◌, [], ◌∷◌, ◌++◌}
use Rattle.mama_record.specs.LogText.{group_note_line}
use Rattle.mama_log_line.specs.Entering.{MayHearGroup}
use Rattle.mama_log_line.specs.Lists.{group_line_in}
use Rattle.mama_log_line.proofs.ListLaws.{group_found, group_again}
use Rattle.mama_log_line.proofs.LineLaws.{if_found, if_again}
use Rattle.mama_log_line.proofs.lists.group_note_in.Goals as goal

pub returns-clause-found : goal.returns-clause-found
returns-clause-found c =
    if_found (λ n. MayHearGroup c.args.names.now n × (c.args.line.now ++ 10 ∷ [] ≡ group_note_line n)) (group_line_in c.args.names.now c.args.line.now) c.without_fault.result (c.without_fault.ensures (group_line_in c.args.names.now c.args.line.now) c.group_line.ensures) (λ n is. group_found c.args.names.now c.args.line.now n is)

pub returns-clause-again : goal.returns-clause-again
returns-clause-again c =
    if_again (λ n. MayHearGroup c.args.names.now n) (λ n. c.args.line.now ++ 10 ∷ [] ≡ group_note_line n) (group_line_in c.args.names.now c.args.line.now) c.without_fault.result (c.without_fault.ensures (group_line_in c.args.names.now c.args.line.now) c.group_line.ensures) (λ n may same. group_again c.args.names.now c.args.line.now n may same)
