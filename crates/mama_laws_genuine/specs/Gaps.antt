-- believed: what a run promises of gaps, of quality, of recaps and of late updates.
use Rattle.std.specs.Prelude.{◌≡◌, ℕ, List, [], Option, slice_index_or}
use Rattle.std.specs.List.{AllByRecursion, AllZip}
use Rattle.mama_journal.specs.Journal.{first_said}
use Rattle.mama_event.specs.declared.ids.ObjectId.{ObjectId}
use Rattle.mama_event.specs.declared.ids.ObjectId.TheVariants.{Sub, Timer, Inbox}
use Rattle.mama_event.specs.declared.market.MarketMsg.{MarketMsg}
use Rattle.mama_event.specs.declared.callback.CallNote.{CallNote}
use Rattle.mama_event.specs.declared.to_queue.Make.{Make}
use Rattle.mama_event.specs.declared.to_queue.QueueNote.{QueueNote}
use Rattle.mama_rules_queue.specs.Queue.{deeds, messages_of, make_in}
use Rattle.mama_record.specs.RunData.{RunData, ObjectCalls}
use Rattle.mama_script.specs.Script.{ScriptData}
use Rattle.mama_rules_rounds.specs.Client.{Planned}
use Rattle.mama_rules_rounds.specs.Setting.{Setting, orders_by}
use Rattle.mama_rules_rounds.specs.Sections.{setting_of}
use Rattle.mama_rules_legal.specs.Calls.{AreCalls}
use Rattle.mama_laws_genuine.specs.Told.{TellsOf, strategy_of, kind_of, size_of}

-- what each of some callbacks tells is true of the messages, for a subscription made in this way
abbrev pub TellOf : Option Make → List MarketMsg → List CallNote → Type 0
TellOf how messages calls = AllByRecursion (λ (n : CallNote). TellsOf (strategy_of how) (kind_of how) (size_of how) messages n.call) calls

-- what the callbacks of a subscription tell is true of the messages it handled, by the journal of its queue
abbrev pub TellTrueGaps : Setting → List (ℕ × QueueNote) → ObjectId → List CallNote → Type 0
TellTrueGaps setting journal (Sub s) calls =
    TellOf (first_said (λ e. make_in (Sub s) e.1) journal) (messages_of s (deeds (orders_by setting) journal)) calls
TellTrueGaps setting journal (Timer t) calls = Unit {0}
TellTrueGaps setting journal (Inbox i) calls = Unit {0}

-- the callbacks that a record has of an object of the script
pub record HasTrueGaps (setting : Setting) (queues : List (List (ℕ × QueueNote))) (p : Planned) (c : ObjectCalls) : Type 0 where
  pub object : c.object ≡ p.object
  pub gaps : TellTrueGaps setting (slice_index_or queues p.queue []) p.object c.calls

-- in a record of a script whose callbacks are those that its queues make, what a subscription's listener is told of gaps,
-- of quality, of recaps and of late updates is true of the messages it handled
abbrev pub ToldGapsAreTrue : Type 0
ToldGapsAreTrue = (script : ScriptData) (run : RunData) → AreCalls script run
    → AllZip (HasTrueGaps (setting_of script) run.queues) (setting_of script).objects run.calls
