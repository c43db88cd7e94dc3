-- believed: what follows of every legal record: each object got its stream, and every last event was taken.
use Rattle.mama_script.specs.Script.{ScriptData}
use Rattle.mama_record.specs.RunData.{RunData}
use Rattle.mama_rules_legal.specs.Streams.{AreSubStreams, AreInboxStreams}
use Rattle.mama_rules_legal.specs.Ticks.{AreTimerStreams}
use Rattle.mama_rules_legal.specs.Last.{HaveLast}

-- The journal of its queue has of each subscription its Create, what its link lets through of its window, and its Gone; of
-- each timer its Create, its ticks, and its Gone; of each inbox its Create, what its link lets through of its replies, and
-- its Gone; and by every port the last event was taken.
pub record HaveStreams (script : ScriptData) (run : RunData) : Type 0 where
  pub subs : AreSubStreams script run
  pub timers : AreTimerStreams script run
  pub inboxes : AreInboxStreams script run
  pub last : HaveLast script run
