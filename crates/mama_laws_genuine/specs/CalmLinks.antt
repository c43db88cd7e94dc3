-- believed: what a run tells a subscription whose link has no faults, and whose topic has one publisher.
use Rattle.std.specs.Prelude.{◌≡◌, ℕ, ◌==◌, List, [], Option, Some}
use Rattle.std.specs.List.{AllByRecursion, AllZip}
use Rattle.mama_journal.specs.Journal.{count_of, first_said}
use Rattle.mama_event.specs.declared.ids.SubId.{SubId}
use Rattle.mama_event.specs.declared.ids.ObjectId.{ObjectId}
use Rattle.mama_event.specs.declared.ids.ObjectId.TheVariants.{Sub, Timer, Inbox}
use Rattle.mama_event.specs.declared.callback.CallNote.{CallNote}
use Rattle.mama_event.specs.declared.shape.Shape.{Shape}
use Rattle.mama_event.specs.declared.to_bridge.SubTerms.{SubTerms}
use Rattle.mama_record.specs.RunData.{RunData, ObjectCalls}
use Rattle.mama_script.specs.Script.{ScriptData}
use Rattle.mama_rules_rounds.specs.Client.{Planned}
use Rattle.mama_rules_rounds.specs.Sections.{setting_of}
use Rattle.mama_rules_legal.specs.Edges.{client_puts}
use Rattle.mama_rules_legal.specs.Streams.{terms_put}
use Rattle.mama_laws_genuine.specs.Faultless.{IsCalm}

-- how many publishers a topic has
abbrev pub publishers_on : Shape → ℕ → ℕ
publishers_on shape topic = count_of (λ t. t == topic) shape.publisher_topics

-- the terms with which the lines of a script join a subscription, which no moment changes that a client reads
abbrev pub joined_terms : ScriptData → SubId → Option SubTerms
joined_terms script s = first_said (terms_put s) (client_puts script [] s.client)

-- The line that joins a subscription has no fault rows, and exactly one publisher has its topic.
pub record HasPlainLink (script : ScriptData) (s : SubId) : Type 0 where
  pub terms : SubTerms
  pub joined : joined_terms script s ≡ Some terms
  pub faultless : terms.faults ≡ []
  pub alone : publishers_on script.shape terms.topic ≡ 1

-- where an object is such a subscription, its callbacks tell no gap, no change of quality, no late update and no error, nor a wish for a recap
abbrev pub AreCalmFor : ScriptData → ObjectId → List CallNote → Type 0
AreCalmFor script (Sub s) calls = HasPlainLink script s → AllByRecursion (λ (n : CallNote). IsCalm n.call) calls
AreCalmFor script (Timer t) calls = Unit {0}
AreCalmFor script (Inbox i) calls = Unit {0}

-- the callbacks that a record has of an object of the script
pub record HasCalmCalls (script : ScriptData) (p : Planned) (c : ObjectCalls) : Type 0 where
  pub object : c.object ≡ p.object
  pub calm : AreCalmFor script p.object c.calls

-- In a run a subscription without fault rows, on a topic that exactly one publisher has, is told no gap, no change of
-- quality, no late update and no error, and no callback of it asks for a recap, as a watch may.
abbrev pub AreLinksCalm : ScriptData → RunData → Type 0
AreLinksCalm script run = AllZip (HasCalmCalls script) (setting_of script).objects run.calls
