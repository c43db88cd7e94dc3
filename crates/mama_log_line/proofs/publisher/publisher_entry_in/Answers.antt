use Rattle.std.proofs.Common.{◌≡◌, [], ◌∷◌, ◌++◌}
use Rattle.mama_record.specs.LogText.{publisher_entry_line}
use Rattle.mama_log_line.specs.Entering.{MayEnterPublisher}
use Rattle.mama_log_line.specs.Journal.{publisher_line_in}
use Rattle.mama_log_line.proofs.LineLaws.{if_found, if_again}
use Rattle.mama_log_line.proofs.PublisherLaws.{publisher_found, publisher_again}
use Rattle.mama_log_line.proofs.publisher.publisher_entry_in.Goals as goal

pub returns-clause-found : goal.returns-clause-found
returns-clause-found c =
    if_found (λ e. MayEnterPublisher c.args.names.now e × (c.args.line.now ++ 10 ∷ [] ≡ publisher_entry_line e)) (publisher_line_in c.args.names.now c.args.line.now) c.entry_of.result c.entry_of.ensures
    (λ e is. publisher_found c.args.names.now c.args.line.now e is)

pub returns-clause-again : goal.returns-clause-again
returns-clause-again c =
    if_again (λ e. MayEnterPublisher c.args.names.now e) (λ e. c.args.line.now ++ 10 ∷ [] ≡ publisher_entry_line e) (publisher_line_in c.args.names.now c.args.line.now) c.entry_of.result c.entry_of.ensures
    (λ e may same. publisher_again c.args.names.now c.args.line.now e may same)
