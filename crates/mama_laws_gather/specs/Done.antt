-- believed: when the lines of a script were done, by what each actor did of its own accord, and that its record tells so.
use Rattle.std.specs.Prelude.{◌≡◌, ℕ, ◌<◌, [], ◌∷◌, ◌++◌, length, map, slice_index_or}
use Rattle.mama_event.specs.declared.publisher_entry.PublisherEntry.TheVariants.{Send, Done}
use Rattle.mama_script.specs.Script.{ScriptData}
use Rattle.mama_record.specs.RunData.{RunData}
use Rattle.mama_rules_rounds.specs.Client.{clock_lines}
use Rattle.mama_rules_rounds.specs.Setting.{no_section}
use Rattle.mama_rules_rounds.specs.Sections.{setting_of}
use Rattle.mama_rules_legal.specs.Lines.{AreLines}
use Rattle.mama_laws_legal.specs.Laws.{IsOrderly}
use Rattle.mama_laws_allowed.specs.Allowed.{own_by, StopsInTime}
use Rattle.mama_laws_gather.specs.Gathered.{AreGathered, HaveEnded}

-- Each client read a moment for each of its lines that read the clock. Each publisher made, of its own accord, a Send for
-- each of its lines that send, and then was done; and it stopped in time.
pub record HaveDoneLines (script : ScriptData) (run : RunData) : Type 0 where
  pub clients : map length run.clients ≡ map clock_lines script.clients
  pub own : (p : ℕ) → p < length script.publishers
      → own_by (slice_index_or run.publishers p []) ≡ map (λ l. Send) (slice_index_or (setting_of script).publishers p no_section).lines ++ Done ∷ []
  pub stops : (p : ℕ) → p < length script.publishers → StopsInTime (slice_index_or run.publishers p [])

-- Whichever thread ran what when: where what was taken begins what was put, all that take have ended, and the lines were done,
-- the journals tell so.
abbrev pub GatheredDoLines : Type 0
GatheredDoLines = (script : ScriptData) (run : RunData) → IsOrderly script → HaveDoneLines script run → AreGathered script run → HaveEnded script run → AreLines script run
