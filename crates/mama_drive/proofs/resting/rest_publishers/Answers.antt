use Rattle.std.proofs.Common.{◌∙◌, arith}
use Rattle.std.proofs.lemmas.List.{length-set}
use Rattle.mama_drive.specs.Scene.{rested_sender}
use Rattle.mama_drive.proofs.RestLemmas.{upto_step, upto_end}
use Rattle.mama_drive.proofs.resting.rest_publishers.Goals as goal

pub loop-i-preserved : goal.loop-i-preserved
loop-i-preserved c = record {
  rested = upto_step (rested_sender c.args.steps) c.loop-i.i c.args.seats.now.items c.loop-i.seats.items c.index_mut.result.now c.rest.new.self
      c.loop-i.invariant.rested c.index_mut.ensures.value c.rest.ensures;
  counted = length-set c.loop-i.seats.items c.loop-i.i c.rest.new.self ∙ c.loop-i.invariant.counted;
}

pub returns : goal.returns
returns c = upto_end (rested_sender c.args.steps) c.loop-i.i c.args.seats.now.items c.loop-i.seats.items c.loop-i.invariant.rested (omega (arith, c.args.seats.now.ok.0))
