use Rattle.mama_script.proofs.Texts.{group_text_is}
use Rattle.mama_script.proofs.printing.put_group.Goals as goal

pub returns : goal.returns
returns c = rw (c.in_ok-push.ensures.items, c.in_ok-put_members.ensures, c.in_ok-extend_from_slice.ensures.items, c.as_slice.ensures) (group_text_is c.args.out.now.items c.args.row.now)
