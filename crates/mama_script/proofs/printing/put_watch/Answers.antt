use Rattle.mama_script.proofs.Texts.{watch_text_is}
use Rattle.mama_script.proofs.printing.put_watch.Goals as goal

pub returns : goal.returns
returns c = rw (c.in_ok-push-2.ensures.items, c.in_ok-put_number.ensures, c.in_ok-print_timer_id.ensures.ok, c.in_ok-push.ensures.items, c.in_ok-print_sub_id.ensures.ok, c.in_ok-extend_from_slice.ensures.items, c.from.ensures) (watch_text_is c.args.out.now.items c.args.row.now)
