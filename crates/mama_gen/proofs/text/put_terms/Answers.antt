use Rattle.mama_gen.proofs.Written.{terms_text}
use Rattle.mama_gen.proofs.text.put_terms.Goals as goal

pub returns : goal.returns
returns c = rw (c.in_ok-put_kind.ensures, c.in_ok-put_number.ensures, c.in_ok-extend_from_slice.ensures.items) (terms_text c.args.out.now.items c.args.topic)
