use Rattle.std.proofs.Common.{◌≡◌, [], ◌∷◌, ◌++◌}
use Rattle.mama_record.specs.RunView.{image_in}
use Rattle.mama_record.specs.LogText.{image_line}
use Rattle.mama_log_line.specs.Entering.{IsLastImage}
use Rattle.mama_log_line.specs.Calls.{image_line_in}
use Rattle.mama_log_line.proofs.LineLaws.{if_found_seen, if_again_seen}
use Rattle.mama_log_line.proofs.OtherLaws.{image_found, image_again}
use Rattle.mama_log_line.proofs.image.image_in.Goals as goal

pub returns-clause-found : goal.returns-clause-found
returns-clause-found c =
    if_found_seen image_in (λ e. IsLastImage c.args.names.now e × (c.args.line.now ++ 10 ∷ [] ≡ image_line e)) (image_line_in c.args.names.now c.args.line.now) c.image_of.result c.image_of.ensures
    (λ e is. image_found c.args.names.now c.args.line.now e is)

pub returns-clause-again : goal.returns-clause-again
returns-clause-again c =
    if_again_seen image_in (λ e. IsLastImage c.args.names.now e) (λ e. c.args.line.now ++ 10 ∷ [] ≡ image_line e) (image_line_in c.args.names.now c.args.line.now) c.image_of.result c.image_of.ensures
    (λ e may same. image_again c.args.names.now c.args.line.now e may same)
