-- believed: The verdict on a record: legal, or the first rule that is broken, and for it the first actor.
use Rattle.std.specs.Prelude.{◌≡◌, ◌↔◌, ℕ, ◌<◌, ⊤, true, length, Option, None, Some, slice_get}
use Rattle.std.specs.List.{AllZip}
use Rattle.mama_event.specs.declared.ids.ObjectId.{ObjectId}
use Rattle.mama_event.specs.declared.ids.ObjectId.TheVariants.{Sub, Timer, Inbox}
use Rattle.mama_event.specs.Ports.{queues_of}
use Rattle.mama_script.specs.Script.{ScriptData}
use Rattle.mama_script.specs.Tree.{IsScript}
use Rattle.mama_record.specs.RunData.{RunData}
use Rattle.mama_rules_rounds.specs.Client.{Planned}
use Rattle.mama_rules_rounds.specs.Sections.{setting_of, publishers_from}
use Rattle.mama_rules_legal.specs.HaveStreams.{HaveStreams}
use Rattle.mama_rules_legal.specs.Legal.{IsLegal}
use Rattle.mama_laws_callbacks.specs.Told.{AreTold}
use Rattle.mama_laws_callbacks.specs.Plain.{ArePlainlyTold}
use Rattle.mama_laws_callbacks.specs.Grouped.{AreTrueGroups}
use Rattle.mama_laws_callbacks.specs.Watched.{AreTrueWatches}
use Rattle.mama_laws_genuine.specs.Sent.{AreSent, AreGivenSent}
use Rattle.mama_laws_genuine.specs.Records.{AreRecords}
use Rattle.mama_laws_genuine.specs.Gaps.{HasTrueGaps}
use Rattle.mama_laws_genuine.specs.CalmLinks.{AreLinksCalm}
use Rattle.mama_laws_genuine.specs.GivenAll.{AreAllGiven}
use Rattle.mama_check.specs.First.{IsFirst}
use Rattle.mama_check.specs.Rules.{KeepsMoments, KeepsLines, KeepsPublisherEdge, KeepsBridgeEdges, KeepsTimersEdges, KeepsQueueEdges, KeepsCalls, KeepsGroup, KeepsWatch}
use Rattle.mama_check.specs.Images.{KeepsImage}
use Rattle.mama_check.specs.Causal.{IsCausal}
use Rattle.mama_check.specs.declared.verdict.Actor.{Actor}
use Rattle.mama_check.specs.declared.verdict.Actor.TheVariants as actor
use Rattle.mama_check.specs.declared.verdict.Verdict.{Verdict}
use Rattle.mama_check.specs.declared.verdict.Verdict.TheVariants as verdict

-- ALL KEEP A RULE

abbrev pub KeepMoments : ScriptData → RunData → Type 0
KeepMoments script run = (c : ℕ) → c < length script.clients → KeepsMoments script run c

abbrev pub KeepLines : ScriptData → RunData → Type 0
KeepLines script run = (p : ℕ) → p < length script.publishers → KeepsLines script run p

abbrev pub KeepPublisherEdges : ScriptData → RunData → Type 0
KeepPublisherEdges script run = (p : ℕ) → p < length script.publishers → KeepsPublisherEdge script run p

abbrev pub KeepQueueEdges : ScriptData → RunData → Type 0
KeepQueueEdges script run = (q : ℕ) → q < queues_of script.shape → KeepsQueueEdges script run q

abbrev pub KeepCalls : ScriptData → RunData → Type 0
KeepCalls script run = (k : ℕ) → k < length (setting_of script).objects → KeepsCalls script run k

abbrev pub KeepImages : ScriptData → RunData → Type 0
KeepImages script run = (k : ℕ) → k < length (setting_of script).objects → KeepsImage script run k

-- all lines were done
pub record KeepAllLines (script : ScriptData) (run : RunData) : Type 0 where
  pub moments : KeepMoments script run
  pub lines : KeepLines script run

-- the callbacks and images of all objects are those that the journals say
pub record KeepObjects (script : ScriptData) (run : RunData) : Type 0 where
  pub calls : KeepCalls script run
  pub images : KeepImages script run

-- groups heard and watches noted what the journals say
pub record KeepLists (script : ScriptData) (run : RunData) : Type 0 where
  pub groups : (k : ℕ) → k < length script.groups → KeepsGroup script run k
  pub watches : (k : ℕ) → k < length script.watches → KeepsWatch script run k

-- all edges are whole
pub record KeepEdges (script : ScriptData) (run : RunData) : Type 0 where
  pub publishers : KeepPublisherEdges script run
  pub bridge : KeepsBridgeEdges script run
  pub timers : KeepsTimersEdges script run
  pub queues : KeepQueueEdges script run

-- THE FIRST THAT IS BROKEN

-- the number of the rule on the callbacks of an object: 5 for a subscription, 6 for a timer, 7 for an inbox
abbrev pub rule_of : ObjectId → ℕ
rule_of (Sub s) = 5
rule_of (Timer t) = 6
rule_of (Inbox i) = 7

-- The first rule that a record breaks, and the first actor that breaks it: 1 the moments that a client read, 2 the lines
-- of a publisher, 3 the edges, under the actor that took, 5 to 7 the callbacks, 8 the images, 10 what a group heard, 11 what a
-- watch noted. The rules on the streams of
-- objects (4) and on last events and slots (9) follow from whole edges, and are never the first.
pub data IsBroken (script : ScriptData) (run : RunData) : ℕ → Actor → Type 0 where
  moments : (c : ℕ) → IsFirst (KeepsMoments script run) (length script.clients) (Some c) → IsBroken script run 1 (actor.Client c)
  lines : (p : ℕ) → KeepMoments script run → IsFirst (KeepsLines script run) (length script.publishers) (Some p) → IsBroken script run 2 (actor.Publisher p)
  publishers : (p : ℕ) → KeepMoments script run → KeepLines script run
      → IsFirst (KeepsPublisherEdge script run) (length script.publishers) (Some p) → IsBroken script run 3 (actor.Publisher p)
  bridge : KeepMoments script run → KeepLines script run → KeepPublisherEdges script run
      → (KeepsBridgeEdges script run → ⊥) → IsBroken script run 3 actor.Bridge
  timers : KeepMoments script run → KeepLines script run → KeepPublisherEdges script run → KeepsBridgeEdges script run
      → (KeepsTimersEdges script run → ⊥) → IsBroken script run 3 actor.Timers
  queues : (q : ℕ) → KeepMoments script run → KeepLines script run → KeepPublisherEdges script run → KeepsBridgeEdges script run
      → KeepsTimersEdges script run → IsFirst (KeepsQueueEdges script run) (queues_of script.shape) (Some q) → IsBroken script run 3 (actor.Queue q)
  calls : (k : ℕ) (p : Planned) → KeepMoments script run → KeepLines script run → KeepEdges script run
      → IsFirst (KeepsCalls script run) (length (setting_of script).objects) (Some k) → slice_get (setting_of script).objects k ≡ Some p
      → IsBroken script run (rule_of p.object) (actor.Object p.object)
  images : (k : ℕ) (p : Planned) → KeepMoments script run → KeepLines script run → KeepEdges script run → KeepCalls script run
      → IsFirst (KeepsImage script run) (length (setting_of script).objects) (Some k) → slice_get (setting_of script).objects k ≡ Some p
      → IsBroken script run 8 (actor.Object p.object)
  groups : (k : ℕ) → KeepMoments script run → KeepLines script run → KeepEdges script run → KeepObjects script run
      → IsFirst (KeepsGroup script run) (length script.groups) (Some k) → IsBroken script run 10 (actor.Group k)
  watches : (k : ℕ) → KeepMoments script run → KeepLines script run → KeepEdges script run → KeepObjects script run
      → ((k : ℕ) → k < length script.groups → KeepsGroup script run k)
      → IsFirst (KeepsWatch script run) (length script.watches) (Some k) → IsBroken script run 11 (actor.Watch k)

-- what a search tells that goes rule by rule: the first that is broken, or else that these are kept
abbrev pub Finds : ScriptData → RunData → Type 0 → Option (ℕ × Actor) → Type 0
Finds script run kept None = kept
Finds script run kept (Some broken) = IsBroken script run broken.0 broken.1

-- what a verdict says of a record
abbrev pub Judges : ScriptData → RunData → Verdict → Type 0
Judges script run (verdict.Legal causal) = IsLegal script run × ((causal ≡ true) ↔ IsCausal script run)
Judges script run (verdict.NotLegal rule actor) = (IsLegal script run → ⊥) × IsBroken script run rule actor

-- What a legal record promises: each object got its stream, and every last event was taken; each object is told what is
-- meant for it; each message that was delivered, or given to a listener, is its sender's own; each image that is ok is its
-- sender's record at its number; and each gap that was told is true. Where the line of a subscription has no fault rows,
-- and exactly one publisher has its topic, it is told no gap and no change of quality; and if it is a market subscription,
-- it is told just the messages from its first image on, each once and as ok, and so each update that the bridge took while
-- it was joined with a number above that image's, unless it was muted. Each group heard its members' callbacks and was told its state, and where that is fresh
-- each of its members that is not ended has its sender's record; and each watch told its timeout only after its retries, at a
-- tick that found no image, and once.
pub record IsTrue (script : ScriptData) (run : RunData) : Type 0 where
  pub streams : HaveStreams script run
  pub told : AreTold script run
  pub sent : AreSent (publishers_from 0 script.publishers) run.queues
  pub given : AreGivenSent (publishers_from 0 script.publishers) run.calls
  pub images : AreRecords (publishers_from 0 script.publishers) run.images
  pub gaps : AllZip (HasTrueGaps (setting_of script) run.queues) (setting_of script).objects run.calls
  pub plainly : ArePlainlyTold script run
  pub calm : AreLinksCalm script run
  pub updates : AreAllGiven script run
  pub groups : AreTrueGroups script run
  pub watches : AreTrueWatches script run

-- A law: a legal record of a script that a text spells is true.
abbrev pub LegalIsTrue : Type 0
LegalIsTrue = (script : ScriptData) (run : RunData) → IsScript script → IsLegal script run → IsTrue script run

-- a fact of a record that was found legal
abbrev pub OnLegal : Verdict → Type 0 → Type 0
OnLegal (verdict.Legal causal) P = P
OnLegal (verdict.NotLegal rule actor) P = ⊤
