use Rattle.mama_words.specs.Order.{word_of}
use Rattle.mama_script.proofs.Texts.{order_line_text}
use Rattle.mama_script.proofs.printing.put_order_line.Goals as goal

pub returns : goal.returns
returns c =
    rw (c.in_ok-push.ensures.items, c.in_ok-print_order.ensures.ok) (order_line_text c.args.out.now.items (word_of c.args.order.now))
