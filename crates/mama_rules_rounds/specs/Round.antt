-- believed: the run of a script in rounds, and its record.
use Rattle.std.specs.Prelude.{◌≡◌, ℕ, ◌+◌, List, [], ◌∷◌, ◌++◌, map, length, replicate}
use Rattle.std.specs.List.{flat_map}
use Rattle.mama_journal.specs.Journal.{numbers_below}
use Rattle.mama_event.specs.Ports.{queues_of}
use Rattle.mama_event.specs.declared.publisher_entry.PublisherEntry.{PublisherEntry}
use Rattle.mama_event.specs.declared.publisher_entry.PublisherEntry.TheVariants.{Send, Done}
use Rattle.mama_rules_rounds.specs.Client.{clock_lines}
use Rattle.mama_script.specs.declared.publisher.PublisherLine.{PublisherLine}
use Rattle.mama_script.specs.declared.publisher.PublisherLine.TheVariants as line
use Rattle.mama_script.specs.Script.{ScriptData}
use Rattle.mama_rules_rounds.specs.Stage.{Stage, AreRounds, IsOver}
use Rattle.mama_record.specs.RunData.{RunData}
use Rattle.mama_rules_rounds.specs.Setting.{Setting}
use Rattle.mama_rules_rounds.specs.Sections.{all_client_steps, setting_of}
use Rattle.mama_rules_rounds.specs.Told.{object_calls, last_image, group_told, watch_told}
use Rattle.mama_rules_rounds.specs.World.{World}

-- the steps of a publisher: each line that sends is a step, a pause takes as many steps as it says, and then it is done
abbrev pub publisher_line_steps : PublisherLine → List (List PublisherEntry)
publisher_line_steps (line.Update u) = (Send ∷ []) ∷ []
publisher_line_steps line.Recap = (Send ∷ []) ∷ []
publisher_line_steps (line.Pause n) = replicate n []

abbrev pub publisher_steps : List PublisherLine → List (List PublisherEntry)
publisher_steps lines = flat_map publisher_line_steps lines ++ (Done ∷ []) ∷ []

-- before the first round nothing was done
abbrev pub no_journals : ScriptData → World
no_journals script = record {
  publishers = map (λ s. []) script.publishers;
  bridge = [];
  timers = [];
  queues = map (λ q. []) (numbers_below (queues_of script.shape));
  to_bridge = [];
  to_timers = [];
  to_publishers = map (λ s. []) script.publishers;
  to_queues = map (λ q. []) (numbers_below (queues_of script.shape));
}

abbrev pub start : ScriptData → List (List ℕ) → Stage
start script moments = record {
  clients = all_client_steps (queues_of script.shape) 0 moments script.clients;
  publishers = map (λ s. publisher_steps s.lines) script.publishers;
  world = no_journals script;
}

-- the record of a world
abbrev pub record_of : Setting → List (List ℕ) → World → RunData
record_of setting moments w = record {
  clients = moments;
  publishers = w.publishers;
  bridge = w.bridge;
  timers = w.timers;
  queues = w.queues;
  calls = map (object_calls setting w.queues) setting.objects;
  images = flat_map (last_image setting w.queues) setting.objects;
  groups = map (group_told setting w.queues) setting.groups;
  watches = map (watch_told setting w.queues) setting.watches;
}

-- A record is that of the rounds of a script: as many as it takes until every client and publisher has made its steps.
-- Each client read one moment for each of its lines that read the clock.
pub record IsRound (script : ScriptData) (run : RunData) : Type 0 where
  pub moments : map length run.clients ≡ map clock_lines script.clients
  pub count : ℕ
  pub last : Stage
  pub rounds : AreRounds (setting_of script) count (start script run.clients) last
  pub over : IsOver last
  pub told : run ≡ record_of (setting_of script) run.clients last.world
