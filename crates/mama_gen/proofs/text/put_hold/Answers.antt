use Rattle.mama_gen.proofs.Written.{hold_text}
use Rattle.mama_gen.proofs.text.put_hold.Goals as goal

pub returns : goal.returns
returns c = rw (c.in_ok-push.ensures.items, c.in_ok-put_number-2.ensures, c.in_ok-put_number.ensures, c.in_ok-extend_from_slice.ensures.items) (hold_text c.args.out.now.items c.args.index c.args.by)
