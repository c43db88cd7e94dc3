use Rattle.std.proofs.Common.{◌≡◌, ◌+◌, ◌-◌, ◌≤◌, ◌++◌, map, take, drop}
use Rattle.mama_event.specs.declared.to_queue.ToQueue.TheVariants as queued
use Rattle.mama_bridge.specs.declared.out.BridgeOut.TheVariants as out
use Rattle.mama_bridge.proofs.out.deliver.Given as goal

abbrev pub invariant-loop : goal.invariant-loop
invariant-loop g l = record {
  out : l.out.items ++ map (λ m. out.Queue l.queue (queued.Deliver l.slot l.sub m)) (take (l.count - l.counter) l.msgs.items)
      ≡ l.initial.out.items ++ map (λ m. out.Queue l.queue (queued.Deliver l.slot l.sub m)) (take l.count l.initial.msgs.items);
  msgs : drop (l.count - l.counter) l.msgs.items ≡ drop l.count l.initial.msgs.items;
  room : l.count ≤ l.out.spare + l.counter;
  spare : l.initial.out.spare ≤ l.out.spare + l.counter;
  msgs_spare : l.initial.msgs.spare ≤ l.msgs.spare;
}
