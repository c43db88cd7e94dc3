use Rattle.std.proofs.Common.{◌++◌, List, ℕ, sym, ap, ◌∙◌, append_assoc}
use Rattle.std.specs.List.{flat_map}
use Rattle.mama_script.specs.declared.line.Line.TheVariants as lines
use Rattle.mama_script.specs.Line.{ended}
use Rattle.mama_script.specs.Text.{send_text}
use Rattle.mama_script.proofs.Texts.{publisher_text_is}
use Rattle.mama_script.proofs.printing.put_publisher.Goals as goal

pub returns : goal.returns
returns c =
    rw (c.in_ok-put_sends.ensures, c.in_ok-put_base.ensures, c.as_slice.ensures) (append_assoc c.args.out.now.items (ended (lines.Publisher c.args.part.now.topic c.args.part.now.base)) (flat_map send_text c.args.part.now.lines) ∙ ap (λ (t : List ℕ). c.args.out.now.items ++ t) (sym (publisher_text_is c.args.part.now)))
