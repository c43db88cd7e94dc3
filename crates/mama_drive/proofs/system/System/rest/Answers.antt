use Rattle.std.proofs.Common.{◌∙◌, ap, length, map}
use Rattle.std.proofs.lemmas.List.{length-map}
use Rattle.mama_drive.specs.Scene.{Scene, lane_in, rested_stand, rested_sender}
use Rattle.mama_drive.proofs.RestLemmas.{rests_to, lanes_rest, journals_rest}
use Rattle.mama_drive.proofs.SystemLemmas.{with_seats}
use Rattle.mama_drive.proofs.system.System.rest.Goals as goal

pub invariant_of-self : goal.invariant_of-self
invariant_of-self c = with_seats _ _ _ _ _ _ _ _ _ _ _ _ c.self.invariant c.rest_clients.new.seats.items c.rest_publishers.new.seats.items
    (ap length c.rest_clients.ensures ∙ length-map c.self.inside.clients.items (rested_stand c.args.rounds))
    (ap length c.rest_publishers.ensures ∙ length-map c.self.inside.publishers.items (rested_sender c.args.rounds))
    (ap (map lane_in) c.rest_publishers.ensures ∙ lanes_rest c.args.rounds c.self.inside.publishers.items)

pub returns-clause-rounds : goal.returns-clause-rounds
returns-clause-rounds c = rests_to _ c.args.self.now c.args.rounds c.rest_clients.new.seats.items c.rest_publishers.new.seats.items c.self.view_is c.self.invariant.client_count c.self.invariant.sender_count
    c.requires c.rest_clients.ensures c.rest_publishers.ensures

pub returns-clause-clients : goal.returns-clause-clients
returns-clause-clients c = c.rest_clients.ensures ∙ ap (λ (s : Scene). map (rested_stand c.args.rounds) s.clients) c.self.view_is

pub returns-clause-journals : goal.returns-clause-journals
returns-clause-journals c = journals_rest _ c.args.self.now c.args.rounds c.rest_clients.new.seats.items c.rest_publishers.new.seats.items c.self.view_is c.rest_publishers.ensures
