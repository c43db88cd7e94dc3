use Rattle.mama_payload.proofs.Places.{stop-within}
use Rattle.mama_payload.proofs.decoding.read.Goals as goal

pub answer-requires : goal.answer-requires
answer-requires c = stop-within c.args.bytes.now c.in-Err.stop c.in-Err.ensures
