-- inner: The puts of all actors together.
use Rattle.std.specs.Prelude.{length, map}
use Rattle.mama_event.specs.Ports.{queues_of}
use Rattle.mama_script.specs.Script.{ScriptData}
use Rattle.mama_record.specs.RunData.{RunData}
use Rattle.mama_check_puts.specs.Puts.{AreLists, timers_put_to}
use Rattle.mama_check.specs.Puts.{AreClientPuts, AreBridgePuts, AreServed, publisher_to_bridge}
use Rattle.mama_check.specs.declared.all.AllPuts.{AllPuts}

-- these are the puts of all actors by a record
pub record AreAllPuts (script : ScriptData) (run : RunData) (puts : AllPuts) : Type 0 where
  pub clients : AreClientPuts script run puts.clients.items
  pub publishers : AreLists (map (λ list. list.items) puts.publishers.items) (length script.publishers) (publisher_to_bridge script run)
  pub bridge : AreBridgePuts script run puts.bridge
  pub timers : AreLists (map (λ list. list.items) puts.timers.items) (queues_of script.shape) (timers_put_to script.shape run.timers)
  pub queues : AreServed script run puts.queues.items
