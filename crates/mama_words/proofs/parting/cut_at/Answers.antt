use Rattle.mama_words.specs.Parting.{cut_at}
use Rattle.mama_words.proofs.Cuts.{onto_cut-nil, cut_at_found, cut_at_more, cut_at_none}
use Rattle.mama_words.proofs.parting.cut_at.Goals as goal

pub loop-i-init : goal.loop-i-init
loop-i-init c = onto_cut-nil (cut_at c.args.byte c.args.text.now)

pub returns-then-b-byte : goal.returns-then-b-byte
returns-then-b-byte c = cut_at_found c.args.byte c.args.text.now c.loop-i.i c.loop-i-test.true c.if-b-byte.true c.loop-i.invariant

pub loop-i-preserved : goal.loop-i-preserved
loop-i-preserved c = cut_at_more c.args.byte c.args.text.now c.loop-i.i c.loop-i-test.true c.if-b-byte.false c.loop-i.invariant

pub returns : goal.returns
returns c = cut_at_none c.args.byte c.args.text.now c.loop-i.i c.loop-i-test.false c.loop-i.invariant
