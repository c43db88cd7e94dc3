-- believed: A run followed step by step on one thread: what a step does, and which record some steps lead to.
use Rattle.std.specs.Prelude.{ℕ, ◌==◌, Bool, true, false, not, List, [], ◌∷◌, map, filter, slice_index_or, if◌then◌else◌, Option, None, Some}
use Rattle.mama_journal.specs.Lane.{by_port}
use Rattle.mama_event.specs.Ports.{queues_of}
use Rattle.mama_script.specs.declared.client.ClientLine.{ClientLine}
use Rattle.mama_script.specs.declared.client.ClientLine.TheVariants as client
use Rattle.mama_script.specs.declared.publisher.PublisherLine.{PublisherLine}
use Rattle.mama_script.specs.declared.publisher.PublisherLine.TheVariants as publisher
use Rattle.mama_script.specs.Script.{ScriptData}
use Rattle.mama_record.specs.RunData.{RunData}
use Rattle.mama_rules_rounds.specs.Setting.{Setting}
use Rattle.mama_rules_rounds.specs.World.{World, bridge_took, timers_took, queue_took, publisher_turn}
use Rattle.mama_rules_rounds.specs.Stage.{Stage, client_step, publisher_step}
use Rattle.mama_rules_rounds.specs.Sections.{all_client_steps, setting_of}
use Rattle.mama_rules_rounds.specs.Round.{publisher_steps, no_journals, record_of}
use Rattle.mama_check.specs.declared.verdict.Actor.{Actor}
use Rattle.mama_check.specs.declared.verdict.Actor.TheVariants as actor
use Rattle.mama_replay.specs.declared.step.Step.{Step}

-- A LINE THAT ONLY WAITS IS NO STEP

abbrev pub is_pause : ClientLine → Bool
is_pause (client.Pause n) = true
is_pause _ = false

abbrev pub is_sending_pause : PublisherLine → Bool
is_sending_pause (publisher.Pause n) = true
is_sending_pause _ = false

-- the lines of a client, and of a publisher, without those that only wait
abbrev pub moving : List ClientLine → List ClientLine
moving lines = filter (λ l. not (is_pause l)) lines

abbrev pub sending : List PublisherLine → List PublisherLine
sending lines = filter (λ l. not (is_sending_pause l)) lines

-- before the first step: all lines of each client and publisher are to be done, each client's clock tells the moments of its
-- number, and nothing was done
abbrev pub at_start : ScriptData → List (List ℕ) → Stage
at_start script moments = record {
  clients = all_client_steps (queues_of script.shape) 0 moments (map moving script.clients);
  publishers = map (λ s. publisher_steps (sending s.lines)) script.publishers;
  world = no_journals script;
}

-- AN EDGE is what one port put on a lane and was not taken

-- a lane without the first event of a port
abbrev pub without_first : {V : Type 0} → ℕ → List (ℕ × V) → List (ℕ × V)
without_first port [] = []
without_first port (e ∷ es) = if e.0 == port then es else e ∷ without_first port es

-- the first of some events with its port before the rest, and nothing where there is none
abbrev pub in_front : {V : Type 0} → ℕ → List V → List (ℕ × V) → List (ℕ × V)
in_front port [] rest = []
in_front port (v ∷ vs) rest = (port, v) ∷ rest

-- the first event of a port, and then the rest of the lane; nothing at all where nothing of that port waits
abbrev pub first_by : {V : Type 0} → ℕ → List (ℕ × V) → List (ℕ × V)
first_by port lane = in_front port (by_port port lane) (without_first port lane)

-- STEPS

-- an actor takes the first event of an edge: its journal grows by it, and what it puts at that entry goes on the lanes; a
-- publisher has one port, whatever port is named
abbrev pub took : Setting → Actor → ℕ → World → World
took setting (actor.Client c) port w = w
took setting (actor.Publisher p) port w = publisher_turn setting p w
took setting actor.Bridge port w = bridge_took setting w (first_by port w.to_bridge)
took setting actor.Timers port w = timers_took setting w (first_by port w.to_timers)
took setting (actor.Queue q) port w = queue_took setting q w (first_by port (slice_index_or w.to_queues q []))
took setting (actor.Object o) port w = w
took setting (actor.Group g) port w = w
took setting (actor.Watch g) port w = w

-- a client or a publisher does its next line, or says that it is done
abbrev pub did_own : Setting → Actor → Stage → Stage
did_own setting (actor.Client c) s = client_step setting c s
did_own setting (actor.Publisher p) s = publisher_step setting p s
did_own setting _ s = s

-- a step: without a port what an actor does by itself, with one the first event of that edge
abbrev pub did : Setting → Stage → Actor → Option ℕ → Stage
did setting s who None = did_own setting who s
did setting s who (Some port) = record s { world = took setting who port s.world }

-- the stage after some steps
abbrev pub after_steps : Setting → Stage → List Step → Stage
after_steps setting s [] = s
after_steps setting s (step ∷ steps) = after_steps setting (did setting s step.actor step.port) steps

-- the record of a script that some steps lead to, where each client's clock tells these moments; they stand in it whole, also
-- those that no step has told
abbrev pub followed : ScriptData → List (List ℕ) → List Step → RunData
followed script moments steps = record_of (setting_of script) moments (after_steps (setting_of script) (at_start script moments) steps).world
