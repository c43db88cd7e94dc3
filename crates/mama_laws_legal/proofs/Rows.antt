-- A small run, worked out by hand: one client that joins one subscription, one queue, no publisher.
use Rattle.std.specs.Prelude.{◌≡◌, [], ◌∷◌, slice_index_or}
use Rattle.std.proofs.Common.{refl}
use Rattle.mama_journal.specs.Lane.{by_port}
use Rattle.mama_words.specs.declared.version.Version.TheVariants as version
use Rattle.mama_event.specs.declared.ids.SubId.{SubId}
use Rattle.mama_event.specs.declared.ids.ObjectId.TheVariants.{Sub}
use Rattle.mama_event.specs.declared.market.SubKind.TheVariants.{Basic}
use Rattle.mama_event.specs.declared.callback.Callback.TheVariants as on
use Rattle.mama_event.specs.declared.to_bridge.SubTerms.{SubTerms}
use Rattle.mama_event.specs.declared.to_bridge.BridgeNote.TheVariants as b
use Rattle.mama_event.specs.declared.to_timers.TimersNote.TheVariants as t
use Rattle.mama_event.specs.declared.to_queue.Make.TheVariants as make
use Rattle.mama_event.specs.declared.to_queue.QueueNote.TheVariants as q
use Rattle.mama_event.specs.declared.shape.Strategy.TheVariants as strategy
use Rattle.mama_rules_services.specs.Ports.{bridge_putter, timers_putter, queue_putter}
use Rattle.mama_script.specs.declared.client.ClientLine.TheVariants as line
use Rattle.mama_script.specs.declared.client.QueueWord.TheVariants.{Number}
use Rattle.mama_script.specs.Script.{ScriptData}
use Rattle.mama_record.specs.RunData.{RunData}
use Rattle.mama_rules_rounds.specs.World.{passes}
use Rattle.mama_rules_rounds.specs.Stage.{Stage, client_step}
use Rattle.mama_rules_rounds.specs.Sections.{setting_of}
use Rattle.mama_rules_rounds.specs.Round.{start, record_of}
use Rattle.mama_rules_legal.specs.Edges.{client_puts, put_on_bridge, put_on_timers, put_on_queue}
use Rattle.mama_rules_legal.specs.Streams.{events_of}

abbrev s : SubId
s = record { client = 0; number = 0 }

abbrev terms : SubTerms
terms = record { topic = 0; kind = Basic; queue = 0; cache = 0; recaps = 0; faults = [] }

abbrev script : ScriptData
script = record {
  version = version.One;
  shape = record { clients = 1; publisher_topics = []; bounds = record { topics = 1; queues = 1 }; strategy = strategy.One };
  topics = [];
  publishers = [];
  clients = (line.Sub 0 Basic (Number 0) 0 0 [] [] ∷ []) ∷ [];
  groups = [];
  watches = [];
}

-- its record: the client's ClientDone brings the ending, which ends the subscription
abbrev run : RunData
run = record {
  clients = [] ∷ [];
  publishers = [];
  bridge = (0, b.Join s terms (Sub s)) ∷ (0, b.ClientDone) ∷ (1, b.Bye) ∷ [];
  timers = (0, t.ClientDone) ∷ (2, t.Fin) ∷ (1, t.Bye) ∷ [];
  queues = ((0, q.Create 0 (Sub s) (make.Sub Basic 0 strategy.One) (Sub s)) ∷ (0, q.Gone 0 (Sub s)) ∷ (0, q.Fin) ∷ (1, q.Fin) ∷ []) ∷ [];
  calls = record { object = Sub s; calls = record { call = on.Create; orders = [] } ∷ record { call = on.Destroy; orders = [] } ∷ [] } ∷ [];
  images = [];
  groups = [];
  watches = [];
}

-- it is what two steps of the client leave, each with the passes that drain it
abbrev joined : Stage
joined = client_step (setting_of script) 0 (start script ([] ∷ []))

abbrev done : Stage
done = client_step (setting_of script) 0 (record { clients = joined.clients; publishers = joined.publishers; world = passes (setting_of script) 2 joined.world })

pub played : record_of (setting_of script) ([] ∷ []) (passes (setting_of script) 4 done.world) ≡ run
played = refl

-- every edge is whole
pub from_client : by_port 0 run.bridge ≡ put_on_bridge (setting_of script) (client_puts script run.clients) run.publishers run.queues (bridge_putter script.shape 0)
from_client = refl

pub from_queue : by_port 1 run.bridge ≡ put_on_bridge (setting_of script) (client_puts script run.clients) run.publishers run.queues (bridge_putter script.shape 1)
from_queue = refl

pub fin_to_timers : by_port 2 run.timers ≡ put_on_timers (setting_of script) (client_puts script run.clients) run.queues run.bridge (timers_putter script.shape 2)
fin_to_timers = refl

pub from_bridge : by_port 0 (slice_index_or run.queues 0 []) ≡ put_on_queue script.shape run.bridge run.timers 0 (queue_putter 0)
from_bridge = refl

pub from_timers : by_port 1 (slice_index_or run.queues 0 []) ≡ put_on_queue script.shape run.bridge run.timers 0 (queue_putter 1)
from_timers = refl

-- and the subscription got its Create and its Gone
pub got : events_of (Sub s) (slice_index_or run.queues 0 []) ≡ q.Create 0 (Sub s) (make.Sub Basic 0 strategy.One) (Sub s) ∷ q.Gone 0 (Sub s) ∷ []
got = refl
