use Rattle.mama_crew.proofs.SeatLemmas.{tells_reading}
use Rattle.mama_crew.proofs.client.is_reading.Goals as goal

pub returns : goal.returns
returns g c = tells_reading _ _ _ c.reads_clock.ensures
