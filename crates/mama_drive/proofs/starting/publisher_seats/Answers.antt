use Rattle.std.proofs.Common.{arith}
use Rattle.mama_drive.proofs.StartLemmas.{small_base}
use Rattle.mama_drive.proofs.starting.publisher_seats.Goals as goal

pub new-requires-clause-base : goal.new-requires-clause-base
new-requires-clause-base c = small_base c.args.parts.now c.loop-number.number c.index-parts-number.result (omega arith) c.index-parts-number.is c.requires.within
