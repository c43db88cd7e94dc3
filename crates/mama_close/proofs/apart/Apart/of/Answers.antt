use Rattle.mama_close.proofs.apart.Apart.of.Goals as goal

pub returns-clause-parts : goal.returns-clause-parts
returns-clause-parts g c = record {
  clients_bridge = c.in_ok-senders.ensures.clients_bridge;
  clients_timers = c.in_ok-senders.ensures.clients_timers;
  moments = c.in_ok-senders.ensures.moments;
  publishers_takers = c.in_ok-senders.ensures.publishers_takers;
  publishers_bridge = c.in_ok-senders.ensures.publishers_bridge;
  entries = c.in_ok-senders.ensures.entries;
  queues_takers = c.in_ok-queues.ensures.takers;
  queues_bridge = c.in_ok-queues.ensures.to_bridge;
  queues_timers = c.in_ok-queues.ensures.to_timers;
  events = c.in_ok-queues.ensures.journals;
  bridge_taker = c.services_apart-services.ensures.bridge_taker;
  bridge_publishers = c.services_apart-services.ensures.bridge_publishers;
  bridge_queues = c.services_apart-services.ensures.bridge_queues;
  bridge_timers = c.services_apart-services.ensures.bridge_timers;
  bridge_journal = c.services_apart-services.ensures.bridge_journal;
  timers_taker = c.services_apart-services.ensures.timers_taker;
  timers_queues = c.services_apart-services.ensures.timers_queues;
  timers_journal = c.services_apart-services.ensures.timers_journal;
}

pub of-requires : goal.of-requires
of-requires g c = record { numbers = c.requires.numbers; keeps = c.requires.keeps; few = c.requires.few }

pub returns-clause-calls : goal.returns-clause-calls
returns-clause-calls g c = c.in_ok-queues.ensures.calls

pub returns-clause-listeners : goal.returns-clause-listeners
returns-clause-listeners g c = c.in_ok-queues.ensures.listeners

pub returns-clause-noted : goal.returns-clause-noted
returns-clause-noted g c = c.in_ok-queues.ensures.noted
