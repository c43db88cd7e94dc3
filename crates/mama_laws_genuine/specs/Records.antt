-- believed: what the images of a run promise.
use Rattle.std.specs.Prelude.{◌≡◌, ℕ, ◌+◌, ◌≤◌, List, length, Some, slice_get}
use Rattle.std.specs.List.{AllByRecursion}
use Rattle.mama_msg.specs.Field.{FieldData}
use Rattle.mama_event.specs.declared.market.Quality.TheVariants as quality
use Rattle.mama_event.specs.Publisher.{PublisherScript, updates_of}
use Rattle.mama_event.specs.Record.{record_after}
use Rattle.mama_record.specs.RunData.{RunData, LastImage}
use Rattle.mama_script.specs.Script.{ScriptData}
use Rattle.mama_rules_rounds.specs.Sections.{publishers_from}
use Rattle.mama_rules_legal.specs.Calls.{IsShapedFor, AreCalls}
use Rattle.mama_rules_legal.specs.Edges.{AreEdges}

-- the record of a publisher at a number: its base with that many of its updates applied, in order
abbrev pub record_numbered : PublisherScript → ℕ → List FieldData
record_numbered publisher n = record_after publisher.base (updates_of publisher.lines) n

-- An image is its sender's record at its number. The sender is one of the publishers, by its place and 1 more, and it
-- has as many updates as the number says.
pub record IsRecord (publishers : List PublisherScript) (image : LastImage) : Type 0 where
  pub place : ℕ
  pub publisher : PublisherScript
  pub stands : slice_get publishers place ≡ Some publisher
  pub sender : image.head.sender ≡ place + 1
  pub number : image.head.last ≤ length (updates_of publisher.lines)
  pub body : image.body ≡ record_numbered publisher image.head.last

-- each image that is ok is its sender's record at its number
abbrev pub AreRecords : List PublisherScript → List LastImage → Type 0
AreRecords publishers images = AllByRecursion (λ (image : LastImage). image.head.quality ≡ quality.Ok → IsRecord publishers image) images

-- in a record of a script whose edges are whole and whose images are those that its queues leave, each image that is ok
-- is the record of one of the script's publishers
abbrev pub OkImagesAreRecords : Type 0
OkImagesAreRecords = (script : ScriptData) (run : RunData) → IsShapedFor script run → AreEdges script run → AreCalls script run
    → AreRecords (publishers_from 0 script.publishers) run.images
