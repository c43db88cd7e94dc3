-- believed: each line of a script was done.
use Rattle.std.specs.Prelude.{◌≡◌, ℕ, ◌<◌, Bool, true, false, List, [], ◌∷◌, ◌++◌, length, map, slice_index_or}
use Rattle.std.specs.List.{list_any, list_all}
use Rattle.mama_journal.specs.Journal.{count_of}
use Rattle.mama_event.specs.declared.to_publisher.PublisherNote.TheVariants.{Settle, Fin}
use Rattle.mama_event.specs.declared.publisher_entry.PublisherEntry.{PublisherEntry}
use Rattle.mama_event.specs.declared.publisher_entry.PublisherEntry.TheVariants.{Done, Took}
use Rattle.mama_event.specs.Publisher.{is_send}
use Rattle.mama_script.specs.Script.{ScriptData}
use Rattle.mama_record.specs.RunData.{RunData}
use Rattle.mama_rules_rounds.specs.Client.{clock_lines}
use Rattle.mama_rules_rounds.specs.Setting.{no_section}
use Rattle.mama_rules_rounds.specs.Sections.{setting_of}

-- an entry that takes an event
abbrev pub is_take : PublisherEntry → Bool
is_take (Took note) = true
is_take _ = false

abbrev pub is_done : PublisherEntry → Bool
is_done Done = true
is_done _ = false

abbrev pub takes_settle : PublisherEntry → Bool
takes_settle (Took Settle) = true
takes_settle _ = false

-- The journal of a publisher with n lines that send: a Send for each, one Done after the last of them and before any
-- Settle, then what else it took, and Settle and Fin at the end.
pub record IsSentOut (n : ℕ) (journal : List PublisherEntry) : Type 0 where
  pub before : List PublisherEntry
  pub between : List PublisherEntry
  pub whole : journal ≡ before ++ (Done ∷ (between ++ (Took Settle ∷ Took Fin ∷ [])))
  pub sends : count_of is_send before ≡ n
  pub first_done : list_any is_done before ≡ false
  pub first_settle : list_any takes_settle before ≡ false
  pub takes : list_all is_take between ≡ true

-- Each client read a moment for each of its lines that read the clock, and each publisher sent all its lines.
pub record AreLines (script : ScriptData) (run : RunData) : Type 0 where
  pub clients : map length run.clients ≡ map clock_lines script.clients
  pub publishers : (p : ℕ) → p < length script.publishers
      → IsSentOut (length (slice_index_or (setting_of script).publishers p no_section).lines) (slice_index_or run.publishers p [])
