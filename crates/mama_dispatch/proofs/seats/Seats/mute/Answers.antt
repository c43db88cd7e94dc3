use Rattle.std.proofs.Common.{◌∙◌}
use Rattle.mama_dispatch.proofs.PlaceLemmas.{muted_there, muted_nowhere}
use Rattle.mama_dispatch.proofs.seats.Seats.mute.Goals as goal

pub returns-in-Some : goal.returns-in-Some
returns-in-Some g c = c.silence.ensures ∙ muted_there c.args.order.now c.in-Some.object c.in-Some.ensures c.args.self.now

pub returns-in-None : goal.returns-in-None
returns-in-None g c = muted_nowhere c.args.order.now c.in-None.ensures c.args.self.now
