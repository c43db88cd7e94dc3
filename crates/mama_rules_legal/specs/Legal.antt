-- believed: when a record is a legal run of a script.
use Rattle.mama_script.specs.Script.{ScriptData}
use Rattle.mama_record.specs.RunData.{RunData}
use Rattle.mama_rules_legal.specs.Edges.{AreEdges}
use Rattle.mama_rules_legal.specs.Lines.{AreLines}
use Rattle.mama_rules_legal.specs.Calls.{IsShapedFor, AreCalls, AreLists}

-- A legal record leaves nothing out and has nothing made up: every line was done; on every edge what was taken is all that
-- was put, in order; its callbacks are those that its queue makes, with the plan's orders; the images are those that
-- the strategy leaves; and groups heard and watches noted what they do by their queues' journals. What each actor puts is a
-- function of its journal, of the slots that were free and, of a queue, of its watches, so the rest
-- follows: each object got its stream, in the least slot that was free, and every last event was taken. That is a law of
-- every legal record (HaveStreams, by legal_records_have_streams) and no part of what legal is.
pub record IsLegal (script : ScriptData) (run : RunData) : Type 0 where
  pub shaped : IsShapedFor script run
  pub lines : AreLines script run
  pub edges : AreEdges script run
  pub calls : AreCalls script run
  pub lists : AreLists script run
