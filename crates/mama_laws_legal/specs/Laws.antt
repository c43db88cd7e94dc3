-- believed: what the laws of this crate say.
use Rattle.std.specs.Prelude.{◌≡◌, ℕ, ◌<◌, false, List, Some}
use Rattle.mama_journal.specs.Journal.{first_said}
use Rattle.mama_event.specs.declared.ids.SubId.{SubId}
use Rattle.mama_event.specs.declared.ids.InboxId.{InboxId}
use Rattle.mama_event.specs.declared.ids.TimerId.{TimerId}
use Rattle.mama_event.specs.declared.ids.ObjectId.TheVariants.{Sub, Inbox}
use Rattle.mama_event.specs.declared.shape.Shape.{Shape}
use Rattle.mama_event.specs.declared.to_bridge.SubTerms.{SubTerms}
use Rattle.mama_event.specs.declared.to_bridge.InboxTerms.{InboxTerms}
use Rattle.mama_event.specs.declared.to_bridge.BridgeNote.{BridgeNote}
use Rattle.mama_event.specs.declared.to_timers.TimersNote.{TimersNote}
use Rattle.mama_rules_services.specs.Bridge.{heard, is_live, is_open, terms_in, inbox_terms_in, window, reply_window, bridge_puts}
use Rattle.mama_event.specs.Ports.{queues_of}
use Rattle.mama_rules_services.specs.Timers.{timers_puts}
use Rattle.mama_rules_services.specs.Timers as timing
use Rattle.mama_script.specs.Script.{ScriptData}
use Rattle.mama_script.specs.Tree.{IsShaped}
use Rattle.mama_script.specs.Within.{IsWithin}
use Rattle.mama_record.specs.RunData.{RunData}
use Rattle.mama_rules_rounds.specs.Round.{IsRound}
use Rattle.mama_rules_legal.specs.Edges.{AreEdges}
use Rattle.mama_rules_legal.specs.Lines.{AreLines}
use Rattle.mama_rules_legal.specs.Streams.{WasAlive, IsSubStream, IsInboxStream, stream_of, terms_of, inbox_terms_of}
use Rattle.mama_rules_legal.specs.Ticks.{ticks, timer_stream, IsTimerStream, arming_of}
use Rattle.mama_rules_legal.specs.HaveStreams.{HaveStreams}
use Rattle.mama_rules_legal.specs.Legal.{IsLegal}
use Rattle.mama_rules_legal.specs.Calls.{IsShapedFor, AreCalls}

-- in the record of a run in rounds every edge is whole
abbrev pub RoundsAreWhole : Type 0
RoundsAreWhole = (script : ScriptData) (run : RunData) → IsRound script run → AreEdges script run

-- it has the journals and the moments that the script asks for
abbrev pub RoundsAreShaped : Type 0
RoundsAreShaped = (script : ScriptData) (run : RunData) → IsRound script run → IsShapedFor script run

-- and the callbacks and images are those of the journals
abbrev pub RoundsTellCalls : Type 0
RoundsTellCalls = (script : ScriptData) (run : RunData) → IsRound script run → AreCalls script run

-- a script and the moments that its clients read have one record
abbrev pub RoundsGiveOneRecord : Type 0
RoundsGiveOneRecord = (script : ScriptData) (run other : RunData) → IsRound script run → IsRound script other → run.clients ≡ other.clients → run ≡ other

-- where the shape of the script counts what the script has, as it does of every script that a text spells, each client
-- and each publisher has done all its lines
abbrev pub RoundsDoAllLines : Type 0
RoundsDoAllLines = (script : ScriptData) (run : RunData) → IsShaped script → IsRound script run → AreLines script run

-- The shape of a script counts what the script has, and it is within its bounds: so it is of every script that a text
-- spells, as the contract of Script::shape says.
pub record IsOrderly (script : ScriptData) : Type 0 where
  pub shaped : IsShaped script
  pub within : IsWithin script

-- Of the bridge's rules alone, for every journal: a subscription that was live and is so no more has had its Create, what
-- its link lets through of its window, and its Gone, and nothing else.
abbrev pub SubsGetTheirStreams : Type 0
SubsGetTheirStreams = (shape : Shape) (journal : List (ℕ × BridgeNote)) (s : SubId) (terms : SubTerms) → WasAlive (is_live shape s) (heard shape journal) → is_live shape s (heard shape journal) ≡ false
    → first_said (terms_in s) (heard shape journal) ≡ Some terms → IsSubStream shape.strategy s terms (window shape s (heard shape journal)) (stream_of (Sub s) (bridge_puts shape journal))

-- the same of inboxes, of the bridge's rules alone and of a record
abbrev pub InboxesGetTheirStreams : Type 0
InboxesGetTheirStreams = (shape : Shape) (journal : List (ℕ × BridgeNote)) (i : InboxId) (terms : InboxTerms) → WasAlive (is_open shape i) (heard shape journal) → is_open shape i (heard shape journal) ≡ false
    → first_said (inbox_terms_in i) (heard shape journal) ≡ Some terms → IsInboxStream i terms (reply_window shape i (heard shape journal)) (stream_of (Inbox i) (bridge_puts shape journal))

-- and of timers, of the service's rules alone
abbrev pub TimersGetTheirStreams : Type 0
TimersGetTheirStreams = (shape : Shape) (journal : List (ℕ × TimersNote)) (timer : TimerId) (terms : ℕ × ℕ) → WasAlive (timing.is_live shape timer) (timing.heard shape journal) → timing.is_live shape timer (timing.heard shape journal) ≡ false
    → first_said (timing.terms_in timer) (timing.heard shape journal) ≡ Some terms → IsTimerStream timer terms.0 (ticks shape timer (timing.heard shape journal)) (timer_stream timer (timers_puts shape journal))

-- Whichever thread ran what when: in a legal record each object got its stream, and every last event was taken.
abbrev pub LegalRecordsHaveStreams : Type 0
LegalRecordsHaveStreams = (script : ScriptData) (run : RunData) → IsOrderly script → IsLegal script run → HaveStreams script run

-- the record of a run in rounds is legal
abbrev pub RoundsAreLegal : Type 0
RoundsAreLegal = (script : ScriptData) (run : RunData) → IsOrderly script → IsRound script run → IsLegal script run

-- the queues on which the lines of a script put objects are there
pub record AreQueuesThere (script : ScriptData) (run : RunData) : Type 0 where
  pub subs : (s : SubId) (terms : SubTerms) → terms_of script run s ≡ Some terms → terms.queue < queues_of script.shape
  pub timers : (timer : TimerId) (terms : ℕ × ℕ) → arming_of script run timer ≡ Some terms → terms.0 < queues_of script.shape
  pub inboxes : (i : InboxId) (terms : InboxTerms) → inbox_terms_of script run i ≡ Some terms → terms.queue < queues_of script.shape

abbrev pub QueuesAreThere : Type 0
QueuesAreThere = (script : ScriptData) (run : RunData) → IsWithin script → AreQueuesThere script run
