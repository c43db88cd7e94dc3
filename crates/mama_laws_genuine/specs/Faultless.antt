-- believed: what a subscription over a link without faults is told, where one publisher alone feeds it.
use Rattle.std.specs.Prelude.{◌≡◌, ℕ, ◌<◌, false, [], length, Some}
use Rattle.std.specs.List.{AllByRecursion}
use Rattle.mama_journal.specs.Journal.{first_said}
use Rattle.mama_event.specs.Ports.{queues_of}
use Rattle.mama_event.specs.declared.ids.SubId.{SubId}
use Rattle.mama_event.specs.declared.ids.ObjectId.TheVariants.{Sub}
use Rattle.mama_event.specs.declared.callback.Callback.{Callback}
use Rattle.mama_event.specs.declared.callback.Callback.TheVariants as on
use Rattle.mama_event.specs.declared.callback.CallNote.{CallNote}
use Rattle.mama_event.specs.declared.to_bridge.SubTerms.{SubTerms}
use Rattle.mama_rules_services.specs.Bridge.{heard, is_live, terms_in}
use Rattle.mama_record.specs.RunData.{RunData}
use Rattle.mama_script.specs.Script.{ScriptData}
use Rattle.mama_rules_rounds.specs.Client.{Planned}
use Rattle.mama_rules_rounds.specs.Sections.{setting_of}
use Rattle.mama_rules_rounds.specs.Told.{object_calls}
use Rattle.mama_rules_legal.specs.Calls.{IsShapedFor}
use Rattle.mama_rules_legal.specs.Edges.{AreEdges}
use Rattle.mama_rules_legal.specs.Streams.{WasAlive}
use Rattle.mama_laws_genuine.specs.Order.{IsFedBy}

-- the callback tells no gap, no change of quality, no late update and no error, and asks for no recap
abbrev pub IsCalm : Callback → Type 0
IsCalm (on.Gap first to) = ⊥
IsCalm (on.Quality q n) = ⊥
IsCalm (on.RecapRequest s) = ⊥
IsCalm on.Create = Unit {0}
IsCalm (on.Msg m q) = Unit {0}
IsCalm (on.Late s n) = ⊥
IsCalm (on.Error e) = ⊥
IsCalm on.Destroy = Unit {0}
IsCalm (on.Tick t) = Unit {0}
IsCalm (on.Reply b) = Unit {0}

-- Where every edge of a record is whole, a subscription without fault rows that one publisher alone feeds, and that came
-- and went, is told no gap, no change of quality, no late update and no error, and asks for no recap.
abbrev pub FaultlessLinksAreCalm : Type 0
FaultlessLinksAreCalm = (script : ScriptData) (run : RunData) → IsShapedFor script run → AreEdges script run
    → (s : SubId) (terms : SubTerms) (p : ℕ) → first_said (terms_in s) (heard script.shape run.bridge) ≡ Some terms → terms.faults ≡ []
    → p < length script.publishers → IsFedBy script.shape s terms.topic p run.bridge
    → WasAlive (is_live script.shape s) (heard script.shape run.bridge) → is_live script.shape s (heard script.shape run.bridge) ≡ false
    → (o : Planned) → o.object ≡ Sub s → o.queue < queues_of script.shape
    → AllByRecursion (λ (n : CallNote). IsCalm n.call) (object_calls (setting_of script) run.queues o).calls
