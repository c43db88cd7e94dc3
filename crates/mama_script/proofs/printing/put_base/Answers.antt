use Rattle.mama_script.proofs.Texts.{base_text}
use Rattle.mama_script.proofs.printing.put_base.Goals as goal

pub returns : goal.returns
returns c =
    rw (c.in_ok-push.ensures.items, c.in_ok-print_fields.ensures.ok, c.in_ok-put_number.ensures, c.in_ok-extend_from_slice.ensures.items, c.from.ensures) (base_text c.args.out.now.items c.args.topic c.args.base.now)
