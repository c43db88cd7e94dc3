-- believed: what a record says beside its journals: how many there are of each, the callbacks, the last images, and what groups
-- heard and watches noted.
use Rattle.std.specs.Prelude.{◌≡◌, length, map}
use Rattle.std.specs.List.{flat_map}
use Rattle.mama_event.specs.Ports.{queues_of}
use Rattle.mama_script.specs.Script.{ScriptData}
use Rattle.mama_record.specs.RunData.{RunData}
use Rattle.mama_rules_rounds.specs.Client.{clock_lines}
use Rattle.mama_rules_rounds.specs.Sections.{setting_of}
use Rattle.mama_rules_rounds.specs.Told.{object_calls, last_image, group_told, watch_told}

-- A record has a journal of each publisher and queue of the script, and the moments of each client, who read one for
-- each of its lines that read the clock.
pub record IsShapedFor (script : ScriptData) (run : RunData) : Type 0 where
  pub publishers : length run.publishers ≡ length script.publishers
  pub queues : length run.queues ≡ queues_of script.shape
  pub moments : map length run.clients ≡ map clock_lines script.clients

-- The callbacks of each object of the script are those that its queue makes by its journal, with the orders of the
-- plan, and the images are those that the strategy leaves.
pub record AreCalls (script : ScriptData) (run : RunData) : Type 0 where
  pub calls : run.calls ≡ map (object_calls (setting_of script) run.queues) (setting_of script).objects
  pub images : run.images ≡ flat_map (last_image (setting_of script) run.queues) (setting_of script).objects

-- Each group of the script heard what it hears by its queue's journal, and each watch noted what it notes by it.
pub record AreLists (script : ScriptData) (run : RunData) : Type 0 where
  pub groups : run.groups ≡ map (group_told (setting_of script) run.queues) (setting_of script).groups
  pub watches : run.watches ≡ map (watch_told (setting_of script) run.queues) (setting_of script).watches
