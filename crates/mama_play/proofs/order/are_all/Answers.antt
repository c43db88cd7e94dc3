use Rattle.std.proofs.Common.{ℕ, map, ap, ◌∙◌}
use Rattle.mama_journal.specs.Journal.{numbers_below}
use Rattle.mama_edge.specs.declared.gate.GateActor.TheVariants as gate
use Rattle.mama_shown.specs.Seat.{actor_of}
use Rattle.mama_play.proofs.OrderLemmas.{parted}
use Rattle.mama_play.proofs.order.are_all.Goals as goal

pub returns : goal.returns
returns g c = λ yes.
    let clients = c.in-Some.ensures.cases in
    let publishers = c.in-Some-split_at_checked.ensures.cases in
    let services = c.in-Some-split_at_checked-2.ensures.cases in
    parted actor_of c.args.seats.now c.in-Some.clients.now c.in-Some.rest.now _ _ _ clients
    (c.are_numbered.ensures c.if-not-are_numbered.false ∙ ap (λ (n : ℕ). map (λ k. gate.Client k) (numbers_below n)) clients.3)
    (parted actor_of c.in-Some.rest.now c.in-Some-split_at_checked.publishers.now c.in-Some-split_at_checked.rest.now _ _ _ publishers
    (c.are_numbered-2.ensures c.if-not-are_numbered-2.false ∙ ap (λ (n : ℕ). map (λ k. gate.Publisher k) (numbers_below n)) (publishers.3 ∙ c.len.ensures))
    (parted actor_of c.in-Some-split_at_checked.rest.now c.in-Some-split_at_checked-2.services.now c.in-Some-split_at_checked-2.queues.now _ _ _ services
    (c.are_services.ensures yes)
    (c.are_numbered-3.ensures c.if-not-are_numbered-3.false ∙ ap (λ (n : ℕ). map (λ k. gate.Queue k) (numbers_below n)) c.if-queues-shape.false)))
