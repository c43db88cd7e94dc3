-- inner: What a queue that was served again keeps.
use Rattle.std.specs.Prelude.{◌≡◌, ℕ, List, map}
use Rattle.std.specs.Global.{Vec}
use Rattle.mama_event.specs.declared.group.GroupNote.{GroupNote}
use Rattle.mama_event.specs.declared.watch.WatchNote.{WatchNote}
use Rattle.mama_group.specs.declared.silent.SilentGroup.{SilentGroup}
use Rattle.mama_rules_queue.specs.Queue.{deeds}
use Rattle.mama_plans.specs.Orders.{orders_in}
use Rattle.mama_check_queue.specs.Served.{ServedData, bridge_puts, timers_puts, groups_heard, watches_noted, group_given, watch_given}
use Rattle.mama_check_queue.specs.Puts.{PutData}
use Rattle.mama_check_queue.specs.Rows.{SeenObjects, AreSeen}

-- the objects are those that the journal and its deeds tell, what was put is kept by its way, and so is what groups heard and
-- watches noted
pub record IsKept (s : ServedData) (rows : SeenObjects) (puts : PutData) (told : List (ℕ × Vec GroupNote × SilentGroup)) (marked : List (ℕ × Vec WatchNote)) : Type 0 where
  pub seen : AreSeen s.journal (deeds (orders_in s.objects) s.journal) rows
  pub bridge : puts.bridge ≡ bridge_puts s
  pub timers : puts.timers ≡ timers_puts s
  pub heard : map group_given told ≡ groups_heard s
  pub noted : map watch_given marked ≡ watches_noted s
