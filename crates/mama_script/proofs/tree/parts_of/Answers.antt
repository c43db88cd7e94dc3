use Rattle.std.proofs.Common.{◌<◌, ◌+◌, ◌^◌, ℕ, length, map, List, sym, subst, ap, ◌∙◌, refl, arith}
use Rattle.mama_script.specs.Reading.{AreAccepted}
use Rattle.mama_script.specs.Tree.{topic_of_part, HasStrategy}
use Rattle.mama_script.proofs.Standing.{taken_few}
use Rattle.mama_script.proofs.Senders.{senders_are}
use Rattle.mama_script.specs.declared.client.ClientLine.{ClientLine}
use Rattle.mama_script.specs.declared.publisher.PublisherPart.{PublisherPart}
use Rattle.mama_script.proofs.tree.parts_of.Goals as goal

pub shape_of-requires-clause-few_topics : goal.shape_of-requires-clause-few_topics
shape_of-requires-clause-few_topics c =
    let strategy = c.take_strategy-version in
    let few = taken_few strategy.result.0 strategy.result.1 c.from-lines.result.items strategy.new.lines.items c.take_queues-queues.new.lines.items c.take_topics.new.lines.items c.take_publishers.new.lines.items c.take_clients.new.lines.items
    c.take_queues-queues.result c.in_ok-topics.topics.items c.in_ok-publishers.publishers.items c.in_ok-clients.clients.items
    (subst AreAccepted (sym c.from-lines.ensures.0) c.requires) strategy.ensures.lines
    c.take_queues-queues.ensures.lines c.in_ok-topics.ensures.lines c.in_ok-publishers.ensures.lines c.in_ok-clients.ensures.lines in
    subst (λ (n : ℕ). n < 2 ^ 32) (sym (ap (λ (xs : List (List ℕ)). length xs) c.deref.ensures.value)) (omega (arith, few.topics_few))

pub shape_of-requires-clause-few_clients : goal.shape_of-requires-clause-few_clients
shape_of-requires-clause-few_clients c =
    let strategy = c.take_strategy-version in
    let few = taken_few strategy.result.0 strategy.result.1 c.from-lines.result.items strategy.new.lines.items c.take_queues-queues.new.lines.items c.take_topics.new.lines.items c.take_publishers.new.lines.items c.take_clients.new.lines.items
    c.take_queues-queues.result c.in_ok-topics.topics.items c.in_ok-publishers.publishers.items c.in_ok-clients.clients.items
    (subst AreAccepted (sym c.from-lines.ensures.0) c.requires) strategy.ensures.lines
    c.take_queues-queues.ensures.lines c.in_ok-topics.ensures.lines c.in_ok-publishers.ensures.lines c.in_ok-clients.ensures.lines in
    subst (λ (n : ℕ). n < 2 ^ 32) (sym (ap (λ (xs : List (List ClientLine)). length xs) c.deref-3.ensures.value)) (omega (arith, few.clients_few))

pub of-requires-clause-few : goal.of-requires-clause-few
of-requires-clause-few c =
    let strategy = c.take_strategy-version in
    let few = taken_few strategy.result.0 strategy.result.1 c.from-lines.result.items strategy.new.lines.items c.take_queues-queues.new.lines.items c.take_topics.new.lines.items c.take_publishers.new.lines.items c.take_clients.new.lines.items
    c.take_queues-queues.result c.in_ok-topics.topics.items c.in_ok-publishers.publishers.items c.in_ok-clients.clients.items
    (subst AreAccepted (sym c.from-lines.ensures.0) c.requires) strategy.ensures.lines
    c.take_queues-queues.ensures.lines c.in_ok-topics.ensures.lines c.in_ok-publishers.ensures.lines c.in_ok-clients.ensures.lines in
    subst (λ (n : ℕ). n + 1 < 2 ^ 32) (sym (ap (λ (xs : List PublisherPart). length xs) c.deref-5.ensures.value)) (omega (arith, few.publishers_few))

pub of-requires-clause-within : goal.of-requires-clause-within
of-requires-clause-within c =
    let strategy = c.take_strategy-version in
    let few = taken_few strategy.result.0 strategy.result.1 c.from-lines.result.items strategy.new.lines.items c.take_queues-queues.new.lines.items c.take_topics.new.lines.items c.take_publishers.new.lines.items c.take_clients.new.lines.items
    c.take_queues-queues.result c.in_ok-topics.topics.items c.in_ok-publishers.publishers.items c.in_ok-clients.clients.items
    (subst AreAccepted (sym c.from-lines.ensures.0) c.requires) strategy.ensures.lines
    c.take_queues-queues.ensures.lines c.in_ok-topics.ensures.lines c.in_ok-publishers.ensures.lines c.in_ok-clients.ensures.lines in
    rw (c.deref-4.ensures.value, c.deref-5.ensures.value) few.topics_are

pub returns-clause-shaped : goal.returns-clause-shaped
returns-clause-shaped c =
    let strategy = c.take_strategy-version in
    let few = taken_few strategy.result.0 strategy.result.1 c.from-lines.result.items strategy.new.lines.items c.take_queues-queues.new.lines.items c.take_topics.new.lines.items c.take_publishers.new.lines.items c.take_clients.new.lines.items
    c.take_queues-queues.result c.in_ok-topics.topics.items c.in_ok-publishers.publishers.items c.in_ok-clients.clients.items
    (subst AreAccepted (sym c.from-lines.ensures.0) c.requires) strategy.ensures.lines
    c.take_queues-queues.ensures.lines c.in_ok-topics.ensures.lines c.in_ok-publishers.ensures.lines c.in_ok-clients.ensures.lines in
    record {
      clients = c.in_ok-shape.ensures.clients ∙ ap (λ (xs : List (List ClientLine)). length xs) c.deref-3.ensures.value;
      topics = c.in_ok-shape.ensures.topics ∙ ap (λ (xs : List (List ℕ)). length xs) c.deref.ensures.value;
      publishers = c.in_ok-shape.ensures.publishers ∙ ap (map topic_of_part) c.deref-2.ensures.value;
      strategy = subst (λ s. HasStrategy strategy.result.0 s) (sym c.in_ok-shape.ensures.strategy) strategy.ensures.strategy;
      senders =
          senders_are (length c.in_ok-topics.topics.items) c.in_ok-publishers.publishers.items c.in_ok-clients.clients.items c.in_ok-watches.watches.items c.in_ok-senders.senders.first.items
          (map (λ v. v.items) c.in_ok-senders.senders.topics.items) c.in_ok-shape.shape.publisher_topics few.topics_are
          (c.in_ok-senders.ensures.first ∙ rw (c.deref-4.ensures.value, c.deref-5.ensures.value) refl)
          (c.in_ok-senders.ensures.topics ∙ rw c.deref-6.ensures.value refl)
          (c.in_ok-shape.ensures.publishers ∙ ap (map topic_of_part) c.deref-2.ensures.value)
          c.in_ok-watches.ensures.senders;
    }
