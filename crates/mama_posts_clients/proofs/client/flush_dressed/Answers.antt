use Rattle.mama_carry.specs.declared.carried.Carried.{Carried}
use Rattle.mama_dispatch.specs.Turns.{put_note}
use Rattle.mama_seats.specs.Waiting.{waits}
use Rattle.mama_posts_clients.proofs.OutletLemmas.{first_may, first_found}
use Rattle.mama_posts_clients.proofs.client.flush_dressed.Goals as goal

pub put-requires-clause-lawful : goal.put-requires-clause-lawful
put-requires-clause-lawful g c =
    let note = put_note {L = Carried g.row.L.Denot g.L.Listener g.L.Tagged} (λ (e : Carried g.row.L.Denot g.L.Listener g.L.Tagged). g.L.Tagged.tagged e.listener) in
    first_may c.args.ports.now c.loop-event.ports (waits c.args.left.now) (waits c.loop-event.left) c.loop-event.invariant (note c.in-Some.event) (waits c.take_first.new.self)
    (first_found note c.in_ok-event.field-0 c.in-Some.event (waits c.loop-event.left) (waits c.take_first.new.self) c.in-Some.is c.in_ok-event.ensures.some) c.requires.lawful
