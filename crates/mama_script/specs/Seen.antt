-- inner: What a context says, without where it lies in memory.
use Rattle.mama_script.specs.declared.context.Context.{Context}
use Rattle.mama_script.specs.Before.{Before}

abbrev pub seen : Context → Before
seen c = record {
  version = c.version;
  place = c.place;
  queues = c.queues;
  topics = c.topics;
  publishers = c.publishers;
  clients = c.clients;
  subs = c.subs;
  objects = c.objects;
  held = c.held;
  topic = c.topic;
  weights = c.weights.entries;
  weight = c.weight;
  indexes = c.indexes.keys;
  calls = c.calls.entries;
}
