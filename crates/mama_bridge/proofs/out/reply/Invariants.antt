use Rattle.std.proofs.Common.{◌≡◌, ◌+◌, ◌-◌, ◌≤◌, ◌++◌, map, take, drop}
use Rattle.mama_event.specs.declared.to_queue.ToQueue.TheVariants as queued
use Rattle.mama_bridge.specs.declared.out.BridgeOut.TheVariants as out
use Rattle.mama_bridge.proofs.out.reply.Given as goal

abbrev pub invariant-loop : goal.invariant-loop
invariant-loop g l = record {
  out : l.out.items ++ map (λ body. out.Queue l.queue (queued.Reply l.slot l.inbox body)) (take (l.count - l.counter) l.bodies.items)
      ≡ l.initial.out.items ++ map (λ body. out.Queue l.queue (queued.Reply l.slot l.inbox body)) (take l.count l.initial.bodies.items);
  bodies : drop (l.count - l.counter) l.bodies.items ≡ drop l.count l.initial.bodies.items;
  room : l.count ≤ l.out.spare + l.counter;
  spare : l.initial.out.spare ≤ l.out.spare + l.counter;
  bodies_spare : l.initial.bodies.spare ≤ l.bodies.spare;
}
