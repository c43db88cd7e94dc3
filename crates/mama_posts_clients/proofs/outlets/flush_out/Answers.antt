use Rattle.std.proofs.Common.{map, ap}
use Rattle.mama_carry.specs.declared.carried.Carried.{Carried}
use Rattle.mama_dispatch.specs.Turns.{put_note}
use Rattle.mama_seats.specs.Waiting.{waits}
use Rattle.mama_posts_clients.proofs.OutletLemmas.{first_may}
use Rattle.mama_posts_clients.proofs.outlets.flush_out.Goals as goal

pub put-requires-clause-lawful : goal.put-requires-clause-lawful
put-requires-clause-lawful g c =
    let note = put_note {L = Carried g.row.L.Denot g.L.Listener g.L.Tagged} (λ (e : Carried g.row.L.Denot g.L.Listener g.L.Tagged). g.L.Tagged.tagged e.listener) in
    first_may c.args.ports.now c.loop-event.ports (map note (waits c.args.left.now)) (map note (waits c.loop-event.left)) c.loop-event.invariant
    (note c.in-Some.event) (map note (waits c.take_first.new.self)) (ap (map note) c.in-Some.ensures.some) c.requires.lawful
