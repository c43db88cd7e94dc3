use Rattle.mama_words.specs.Sentence.{spaced}
use Rattle.mama_edge.specs.Decimal.{decimal}
use Rattle.mama_script.proofs.Texts.{long_text}
use Rattle.mama_script.proofs.printing.put_long_fault.Goals as goal

pub returns : goal.returns
returns c =
    rw (c.in_ok-push.ensures.items, c.in_ok-put_number-2.ensures, c.in_ok-put_number.ensures, c.in_ok-extend_from_slice.ensures.items, c.from.ensures, c.from-2.ensures) (long_text c.args.out.now.items c.args.head.now (spaced (decimal c.args.index)) (spaced (decimal c.args.number)))
