-- believed: A script as contracts see it.
use Rattle.std.specs.Prelude.{List}
use Rattle.mama_event.specs.declared.shape.Shape.{Shape}
use Rattle.mama_event.specs.declared.group.GroupRow.{GroupRow}
use Rattle.mama_event.specs.declared.watch.WatchRow.{WatchRow}
use Rattle.mama_msg.specs.declared.text.TextValue.{TextValue}
use Rattle.mama_words.specs.declared.version.Version.{Version}
use Rattle.mama_script.specs.declared.publisher.PublisherPart.{PublisherPart}
use Rattle.mama_script.specs.declared.client.ClientLines.{ClientLines}

-- a script without where it lies in memory
pub record ScriptData : Type 0 where
  pub version : Version
  pub shape : Shape
  pub topics : List TextValue
  pub publishers : List PublisherPart
  pub clients : List ClientLines
  pub groups : List GroupRow
  pub watches : List WatchRow
