use Rattle.std.proofs.Common.{arith}
use Rattle.mama_edge.proofs.QuotedLaws.{character_put}
use Rattle.mama_edge.proofs.quotation.take_plain.Goals as goal

pub returns : goal.returns
returns c = character_put c.args.byte c.args.text.now.items c.push.new.self.items c.if-byte-eq34.false c.if-byte-eq92.false (omega arith) (omega arith) c.in_ok-push.ensures.items
