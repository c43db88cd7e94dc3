use Rattle.std.proofs.Common.{sym, subst, List, ℕ}
use Rattle.std.specs.Prelude.{Option}
use Rattle.mama_drive.specs.declared.place.Place.{Place}
use Rattle.mama_drive.specs.declared.place.Place.TheVariants as place
use Rattle.mama_drive.specs.Place.{GoesHearing}
use Rattle.mama_drive.proofs.PlaceLemmas.{at_place, at_place_of, hearing_none}
use Rattle.mama_drive.proofs.place.next_place.Goals as goal

pub returns-in-Rounds-clause-on : goal.returns-in-Rounds-clause-on
returns-in-Rounds-clause-on g c =
    let left : Option (List ℕ) = g.C.Clock.left c.args.clock.now in
    subst (λ (p : Place). GoesHearing left left p c.args.run.now c.begin_round.result c.begin_round.new.run) (sym c.in-Rounds.is)
    (hearing_none left place.Rounds c.begin_round.result c.args.run.now c.begin_round.new.run c.begin_round.ensures)

pub returns-in-Client-clause-on : goal.returns-in-Client-clause-on
returns-in-Client-clause-on g c = at_place _ _ c.args.place (place.Client c.in-Client.number) c.client.result c.args.run.now c.client.new.run c.in-Client.is c.client.ensures.on

pub returns-in-AfterClient-clause-on : goal.returns-in-AfterClient-clause-on
returns-in-AfterClient-clause-on g c = at_place_of _ c.args.place (place.AfterClient c.in-AfterClient.next c.in-AfterClient.turn) c.after_client.result c.args.run.now c.after_client.new.run c.in-AfterClient.is c.after_client.ensures.on

pub returns-in-Publisher-clause-on : goal.returns-in-Publisher-clause-on
returns-in-Publisher-clause-on g c = at_place_of _ c.args.place (place.Publisher c.in-Publisher.number) c.publisher.result c.args.run.now c.publisher.new.run c.in-Publisher.is c.publisher.ensures.on

pub returns-in-AfterPublisher-clause-on : goal.returns-in-AfterPublisher-clause-on
returns-in-AfterPublisher-clause-on g c = at_place_of _ c.args.place (place.AfterPublisher c.in-AfterPublisher.next c.in-AfterPublisher.turn) c.after_publisher.result c.args.run.now c.after_publisher.new.run c.in-AfterPublisher.is c.after_publisher.ensures.on
