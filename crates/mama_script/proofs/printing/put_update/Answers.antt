use Rattle.mama_script.proofs.Texts.{update_text}
use Rattle.mama_script.proofs.printing.put_update.Goals as goal

pub returns : goal.returns
returns c =
    rw (c.in_ok-push.ensures.items, c.in_ok-print_fields.ensures.ok, c.in_ok-extend_from_slice.ensures.items) (update_text c.args.out.now.items c.args.update.now)
