use Rattle.std.proofs.Common.{arith}
use Rattle.mama_drive.specs.declared.place.Place.TheVariants as place
use Rattle.mama_drive.proofs.PlaceLemmas.{hearing_step, hearing_none, clients_end}
use Rattle.mama_drive.proofs.place.client.Goals as goal

pub returns-then-number-client_count-clause-on : goal.returns-then-number-client_count-clause-on
returns-then-number-client_count-clause-on g c = hearing_step c.args.number _ _ c.args.run.now c.client_turn.new.self
    (omega (arith, c.client_count.ensures.shape, c.if-number-client_count.true)) c.in_ok-client_turn.ensures.step c.in_ok-client_turn.ensures.clock

pub returns-clause-on : goal.returns-clause-on
returns-clause-on g c = hearing_none (g.C.Clock.left c.args.clock.now) (place.Client c.args.number) (place.Publisher 0) c.args.run.now c.args.run.now
    (λ k. clients_end c.args.number c.client_count.result k c.args.run.now c.if-number-client_count.false c.client_count.ensures.number c.client_count.ensures.shape)
