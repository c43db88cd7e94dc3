-- believed: The records that a log of a script can tell, in either version.
use Rattle.std.specs.Prelude.{◌≡◌, ℕ, ◌^◌, ◌<◌, ◌≤◌, [], length}
use Rattle.std.specs.List.{All}
use Rattle.mama_event.specs.declared.ids.ObjectId.{ObjectId}
use Rattle.mama_event.specs.declared.callback.CallNote.{CallNote}
use Rattle.mama_words.specs.declared.version.Version.{Version}
use Rattle.mama_words.specs.declared.version.Version.TheVariants as version
use Rattle.mama_script.specs.Script.{ScriptData}
use Rattle.mama_record.specs.RunData.{RunData, ObjectCalls, GroupNotes, WatchNotes}
use Rattle.mama_rules_legal.specs.Form.{IsFormed}
use Rattle.mama_log_line.specs.Names.{NamesData, names_of}
use Rattle.mama_log_line.specs.Entering.{MayEnterPublisher, MayEnterBridge, MayEnterTimers, MayEnterQueue, MayHear, MayOrder, MayHearGroup, MayNote, IsLastImage}

-- the versions that the logs of a script have: a script of version 1 has none of version 2, and one with groups or watches has
-- none of version 1
abbrev pub HasLog : ScriptData → Version → Type 0
HasLog script version.One = (script.groups ≡ []) × (script.watches ≡ [])
HasLog script version.Two = script.version ≡ version.Two

-- a moment, as its type has it
abbrev pub IsMoment : ℕ → Type 0
IsMoment moment = moment < 2 ^ 64

-- a callback that this object may hear, with at most 8 orders of the script's objects and topics
pub record MayCall (names : NamesData) (object : ObjectId) (n : CallNote) : Type 0 where
  pub call : MayHear names.nums object n.call
  pub orders : All (MayOrder names) n.orders
  pub few : length n.orders ≤ 8

abbrev pub MayHearAll : NamesData → ObjectCalls → Type 0
MayHearAll names o = All (MayCall names o.object) o.calls

abbrev pub MayHearNotes : NamesData → GroupNotes → Type 0
MayHearNotes names g = All (MayHearGroup names) g.notes

abbrev pub MayNoteAll : WatchNotes → Type 0
MayNoteAll w = All MayNote w.notes

-- A record that a log of the script can tell: it has the form of the script's records, and each entry of a journal, each
-- callback, each order, each image, and each note of a group or a watch is one that a log of the script may have.
pub record IsLogged (script : ScriptData) (run : RunData) : Type 0 where
  pub formed : IsFormed script run
  pub clients : All (All IsMoment) run.clients
  pub publishers : All (All (MayEnterPublisher (names_of script))) run.publishers
  pub bridge : All (MayEnterBridge (names_of script)) run.bridge
  pub timers : All (MayEnterTimers (names_of script)) run.timers
  pub queues : All (All (MayEnterQueue (names_of script))) run.queues
  pub calls : All (MayHearAll (names_of script)) run.calls
  pub images : All (IsLastImage (names_of script)) run.images
  pub groups : All (MayHearNotes (names_of script)) run.groups
  pub watches : All MayNoteAll run.watches
