use Rattle.std.specs.Prelude.{map, Option}
use Rattle.std.proofs.Common.{List, ◌++◌, refl, ap, ◌∙◌, arith}
use Rattle.mama_event.specs.Listener.{ListenerData}
use Rattle.mama_rules_queue.specs.Queue.{QueuePut, order_put}
use Rattle.mama_dispatch.specs.Seats.{listener_in, room_in, at, called_with, muted_by_all}
use Rattle.mama_dispatch.proofs.PlaceLemmas.{heard_is, heard_same}
use Rattle.mama_dispatch.proofs.CallLemmas.{room_after}
use Rattle.mama_dispatch.proofs.AppendLemmas.{appended_by, appended_then}
use Rattle.mama_dispatch.proofs.seats.Seats.call_put.Goals as goal

pub returns-clause-once : goal.returns-clause-once
returns-clause-once g c =
    let o = c.args.object.now in
    let call = c.args.call in
    let os = c.call-orders.result in
    let l = heard_is call (listener_in o c.args.self.now) (listener_in o c.call-orders.new.self) os c.call-orders.ensures.heard in
    record {
      orders = os;
      listener = l.0;
      heard = heard_same call _ _ _ _ os refl l.1 c.call-orders.ensures.heard;
      seats = c.call-orders.ensures.seats ∙ ap (λ (x : Option ListenerData). map (muted_by_all os) (map (at o (called_with call os x)) c.args.self.now)) l.1;
      here = l.1;
      puts = c.put_orders.ensures.puts ∙ ap (λ (ps : List QueuePut). ps ++ map order_put os) c.put_wish.ensures.puts;
    }

pub returns-clause-room : goal.returns-clause-room
returns-clause-room g c =
    let less = ap (room_in c.args.object.now) c.call-orders.ensures.seats ∙ room_after c.args.object.now c.args.call c.call-orders.result _ c.args.self.now in
    omega (arith, less, c.requires.room)

pub returns-clause-appended : goal.returns-clause-appended
returns-clause-appended g c = appended_then _ _ _ c.put_wish.ensures.appended (appended_by _ _ _ c.put_orders.ensures.items)
