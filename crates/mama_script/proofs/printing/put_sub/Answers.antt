use Rattle.mama_script.specs.Tree.{queue_name}
use Rattle.mama_script.proofs.Texts.{sub_text}
use Rattle.mama_script.proofs.printing.put_sub.Goals as goal

pub returns : goal.returns
returns c =
    rw (c.in_ok-push-2.ensures.items, c.in_ok-put_number-3.ensures, c.in_ok-put_number-2.ensures, c.in_ok-put_queue.ensures, c.in_ok-print_sub_kind.ensures.ok, c.in_ok-push.ensures.items, c.in_ok-put_number.ensures, c.in_ok-extend_from_slice.ensures.items, c.from.ensures, c.from-2.ensures, c.from-3.ensures) (sub_text c.args.out.now.items c.args.topic c.args.kind (queue_name c.args.queue) c.args.cache c.args.recaps)
