-- believed: What is promised of a run, line by line: each is a law of every legal record, whichever thread ran what when.
use Rattle.std.specs.Prelude.{List}
use Rattle.std.specs.List.{AllZip}
use Rattle.mama_event.specs.Publisher.{PublisherScript}
use Rattle.mama_record.specs.RunData.{RunData, ObjectCalls}
use Rattle.mama_script.specs.Script.{ScriptData}
use Rattle.mama_rules_rounds.specs.Client.{Planned}
use Rattle.mama_rules_rounds.specs.Sections.{setting_of, publishers_from}
use Rattle.mama_rules_legal.specs.Streams.{AreSubStreams, AreInboxStreams}
use Rattle.mama_rules_legal.specs.Ticks.{AreTimerStreams}
use Rattle.mama_rules_legal.specs.Last.{HaveLast}
use Rattle.mama_laws_callbacks.specs.Told.{IsToldObject}
use Rattle.mama_laws_callbacks.specs.Plain.{ArePlainlyTold}
use Rattle.mama_laws_callbacks.specs.Grouped.{AreTrueGroups}
use Rattle.mama_laws_callbacks.specs.Watched.{AreTrueWatches}
use Rattle.mama_laws_genuine.specs.Sent.{AreSent, AreGivenSent}
use Rattle.mama_laws_genuine.specs.Records.{AreRecords}
use Rattle.mama_laws_genuine.specs.Gaps.{HasTrueGaps}
use Rattle.mama_laws_genuine.specs.CalmLinks.{HasCalmCalls}
use Rattle.mama_laws_genuine.specs.GivenAll.{HasAllGiven}

-- of each object of the script, with the callbacks that the record has of it
abbrev pub OfEachObject : ScriptData → RunData → (Planned → ObjectCalls → Type 0) → Type 0
OfEachObject script run Holds = AllZip Holds (setting_of script).objects run.calls

-- the publishers of a script, by whose lines a message, a reply or an image is genuine
abbrev pub senders_of : ScriptData → List PublisherScript
senders_of script = publishers_from 0 script.publishers

-- THE PROMISES

pub record KeepsPromises (script : ScriptData) (run : RunData) : Type 0 where
  -- Of each subscription that the script joins: its queue took of it its Create, what its link lets through of what was
  -- sent while it was live, and its Gone, and nothing else.
  pub subs : AreSubStreams script run
  -- Of each timer that the script arms: its Create, its ticks, and its Gone.
  pub timers : AreTimerStreams script run
  -- Of each inbox that the script opens: its Create, what its link lets through of the replies that were put while it was
  -- open, and its Gone.
  pub inboxes : AreInboxStreams script run
  -- Of each port of each lane: the last event was taken that comes by it.
  pub last : HaveLast script run
  -- Of each object: between its create and its destroy notice it is told exactly what is meant for it, in order, each once,
  -- and at once, up to an order that mutes it: a subscription what its strategy makes of what its link lets through, a
  -- timer its ticks, an inbox the replies that its link lets through. Nothing follows the notice.
  pub told : OfEachObject script run (IsToldObject script run)
  -- Of each object that is a subscription: each gap, each change of quality and each recap that it is told of is true of
  -- the messages that it handled.
  pub gaps : OfEachObject script run (HasTrueGaps (setting_of script) run.queues)
  -- Of each object that is a subscription without fault rows, on a topic that exactly one publisher has: it is told no gap,
  -- no change of quality and no late update, and no callback of it asks for a recap, as a watch may.
  pub calm : OfEachObject script run (HasCalmCalls script)
  -- Of each object that is a market subscription so: it is given each update that was sent to it while it was live, with a
  -- number above its first image's, once; unless it was muted.
  pub updates : OfEachObject script run (HasAllGiven script run)
  -- Of each market subscription so: its strategy makes of what its link lets through just the messages from the first image
  -- on, each once and as ok.
  pub plainly : ArePlainlyTold script run
  -- Of each message and each reply that a queue took, and of each that a listener was given: it is its sender's own.
  pub sent : AreSent (senders_of script) run.queues
  pub given : AreGivenSent (senders_of script) run.calls
  -- Of each last image that is ok: it is its sender's record at its number.
  pub images : AreRecords (senders_of script) run.images
  -- Of each group of the script: it heard the callbacks of its members and its states as its queue's journal has them; at each
  -- place of that journal the state told last is its state by its members; and where that is fresh each of its members that is
  -- not ended has an image that is ok, its sender's record at its number.
  pub groups : AreTrueGroups script run
  -- Of each watch of the script: it noted a timeout only at a tick of its timer behind which its subscription was live, was not
  -- muted and had no image, after as many such ticks as it has retries; at most one, and no more retries than its row has, as many where
  -- it noted a timeout.
  pub watches : AreTrueWatches script run
