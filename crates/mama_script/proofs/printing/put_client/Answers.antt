use Rattle.std.proofs.Common.{◌++◌, List, ℕ, sym, ap, ◌∙◌, append_assoc}
use Rattle.std.specs.List.{flat_map}
use Rattle.mama_script.specs.declared.line.Line.TheVariants as lines
use Rattle.mama_script.specs.Line.{ended}
use Rattle.mama_script.specs.Text.{step_text}
use Rattle.mama_script.proofs.Texts.{client_text_is}
use Rattle.mama_script.proofs.printing.put_client.Goals as goal

pub returns : goal.returns
returns c =
    rw (c.in_ok-put_steps.ensures, c.in_ok-extend_from_slice.ensures.items, c.as_slice.ensures) (append_assoc c.args.out.now.items (ended lines.Client) (flat_map step_text c.args.client.now) ∙ ap (λ (t : List ℕ). c.args.out.now.items ++ t) (sym (client_text_is c.args.client.now)))
