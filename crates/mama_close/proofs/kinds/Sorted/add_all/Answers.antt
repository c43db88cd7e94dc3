use Rattle.std.proofs.Common.{◌≡◌, [], ◌∷◌, ap, ◌∙◌, rules, arith}
use Rattle.std.proofs.lemmas.Grind.{common_steps}
use Rattle.std.proofs.lemmas.List.{nil_from_length}
use Rattle.std.specs.List.{flat_map}
use Rattle.mama_close.specs.Kinds.{client_in, publisher_in, bridge_in, timers_in, queue_in}
use Rattle.mama_gather.proofs.Lists.{flat_more, whole_more, whole_all}
use Rattle.mama_close.proofs.kinds.Sorted.add_all.Goals as goal

pub loop-seat-init : goal.loop-seat-init
loop-seat-init g c = record {
  whole = first_of (search rules, grind (arith, common_steps));
  clients = c.requires.clients;
  publishers = c.requires.publishers;
  bridges = c.requires.bridges;
  services = c.requires.services;
  queues = c.requires.queues;
}

pub loop-seat-preserved : goal.loop-seat-preserved
loop-seat-preserved g c =
    let i = c.loop-seat.invariant in
    let e = c.in_ok-add.ensures in
    let first : c.loop-seat.seat-iterator.rest.items ≡ c.in-Some.seat ∷ c.next.new.self.rest.items = search rules in
    record {
      whole = whole_more c.loop-seat.yielded c.in-Some.seat c.loop-seat.seat-iterator.rest.items c.next.new.self.rest.items c.args.seats.items first i.whole;
      clients = flat_more client_in c.loop-seat.yielded c.in-Some.seat c.loop-seat.self.clients.items c.add.new.self.clients.items e.clients i.clients;
      publishers = flat_more publisher_in c.loop-seat.yielded c.in-Some.seat c.loop-seat.self.publishers.items c.add.new.self.publishers.items e.publishers i.publishers;
      bridges = flat_more bridge_in c.loop-seat.yielded c.in-Some.seat c.loop-seat.self.bridges.items c.add.new.self.bridges.items e.bridges i.bridges;
      services = flat_more timers_in c.loop-seat.yielded c.in-Some.seat c.loop-seat.self.services.items c.add.new.self.services.items e.services i.services;
      queues = flat_more queue_in c.loop-seat.yielded c.in-Some.seat c.loop-seat.self.queues.items c.add.new.self.queues.items e.queues i.queues;
    }

pub returns-clause-clients : goal.returns-clause-clients
returns-clause-clients g c =
    let none : c.loop-seat.seat-iterator.rest.items ≡ [] = nil_from_length c.loop-seat.seat-iterator.rest.items (omega (arith, c.in-None.ensures.steps.0, c.loop-seat.seat-iterator.rest.ok.0)) in
    c.loop-seat.invariant.clients ∙ ap (flat_map client_in) (whole_all c.loop-seat.yielded c.loop-seat.seat-iterator.rest.items c.args.seats.items none c.loop-seat.invariant.whole)

pub returns-clause-publishers : goal.returns-clause-publishers
returns-clause-publishers g c =
    let none : c.loop-seat.seat-iterator.rest.items ≡ [] = nil_from_length c.loop-seat.seat-iterator.rest.items (omega (arith, c.in-None.ensures.steps.0, c.loop-seat.seat-iterator.rest.ok.0)) in
    c.loop-seat.invariant.publishers ∙ ap (flat_map publisher_in) (whole_all c.loop-seat.yielded c.loop-seat.seat-iterator.rest.items c.args.seats.items none c.loop-seat.invariant.whole)

pub returns-clause-bridges : goal.returns-clause-bridges
returns-clause-bridges g c =
    let none : c.loop-seat.seat-iterator.rest.items ≡ [] = nil_from_length c.loop-seat.seat-iterator.rest.items (omega (arith, c.in-None.ensures.steps.0, c.loop-seat.seat-iterator.rest.ok.0)) in
    c.loop-seat.invariant.bridges ∙ ap (flat_map bridge_in) (whole_all c.loop-seat.yielded c.loop-seat.seat-iterator.rest.items c.args.seats.items none c.loop-seat.invariant.whole)

pub returns-clause-services : goal.returns-clause-services
returns-clause-services g c =
    let none : c.loop-seat.seat-iterator.rest.items ≡ [] = nil_from_length c.loop-seat.seat-iterator.rest.items (omega (arith, c.in-None.ensures.steps.0, c.loop-seat.seat-iterator.rest.ok.0)) in
    c.loop-seat.invariant.services ∙ ap (flat_map timers_in) (whole_all c.loop-seat.yielded c.loop-seat.seat-iterator.rest.items c.args.seats.items none c.loop-seat.invariant.whole)

pub returns-clause-queues : goal.returns-clause-queues
returns-clause-queues g c =
    let none : c.loop-seat.seat-iterator.rest.items ≡ [] = nil_from_length c.loop-seat.seat-iterator.rest.items (omega (arith, c.in-None.ensures.steps.0, c.loop-seat.seat-iterator.rest.ok.0)) in
    c.loop-seat.invariant.queues ∙ ap (flat_map queue_in) (whole_all c.loop-seat.yielded c.loop-seat.seat-iterator.rest.items c.args.seats.items none c.loop-seat.invariant.whole)
