use Rattle.std.proofs.Common.{◌∙◌}
use Rattle.mama_dispatch.proofs.RowLemmas.{has_at}
use Rattle.mama_dispatch.proofs.seats.Seats.has.Goals as goal

pub returns : goal.returns
returns g c = c.is_some.ensures ∙ has_at c.args.object.now c.place.result c.args.self.now c.place.ensures.some c.place.ensures.none
