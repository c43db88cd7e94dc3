use Rattle.mama_words.specs.Order.{word_of}
use Rattle.mama_script.proofs.Texts.{at_text}
use Rattle.mama_script.proofs.printing.put_at.Goals as goal

pub returns : goal.returns
returns c =
    rw (c.in_ok-push-2.ensures.items, c.in_ok-print_order.ensures.ok, c.in_ok-push.ensures.items, c.in_ok-put_number.ensures, c.in_ok-extend_from_slice.ensures.items, c.from.ensures) (at_text c.args.out.now.items c.args.row.now.call (word_of c.args.row.now.order))
