use Rattle.std.proofs.Common.{◌<◌, length, ap, ◌∙◌, refl, arith}
use Rattle.std.proofs.Math.ListN.{set}
use Rattle.std.proofs.lemmas.Option.{slice_get_read}
use Rattle.mama_ends.proofs.Answered.{on_ok}
use Rattle.mama_posts_services.proofs.PortsLemmas.{lane_at, set_put, put_past}
use Rattle.mama_posts_services.proofs.ports.put_to.Goals as goal

pub returns-then-number-len-clause-ok : goal.returns-then-number-len-clause-ok
returns-then-number-len-clause-ok g c = put_past c.args.number (g.E.Stream.noted c.args.event) c.args.ports.now.items (omega (arith, c.args.ports.now.ok.0))

pub put-requires-clause-lane : goal.put-requires-clause-lane
put-requires-clause-lane g c =
    lane_at c.args.number c.args.ports.now.items c.args.lanes.now c.index_mut-port.result.now c.index-lanes-number.result c.requires.lanes (omega (arith, c.args.ports.now.ok.0)) c.index_mut-port.ensures.value c.index-lanes-number.is

pub put-requires-clause-lawful : goal.put-requires-clause-lawful
put-requires-clause-lawful g c =
    let port = c.index_mut-port.result.now in
    c.requires.lawful port (slice_get_read c.args.ports.now.items (length c.args.ports.now.items) c.args.number port refl (omega (arith, c.args.ports.now.ok.0)) c.index_mut-port.ensures.value)

pub returns-clause-ok : goal.returns-clause-ok
returns-clause-ok g c =
    let within : c.args.number < length c.args.ports.now.items = omega (arith, c.args.ports.now.ok.0) in
    on_ok c.put.result
    (λ is. ap (set c.args.ports.now.items c.args.number) is ∙ set_put c.args.number (g.E.Stream.noted c.args.event) c.args.ports.now.items c.index_mut-port.result.now within c.index_mut-port.ensures.value)
    c.put.ensures.ok
