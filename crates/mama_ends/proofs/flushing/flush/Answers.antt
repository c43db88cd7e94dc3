use Rattle.mama_ends.proofs.Left.{first_lawful}
use Rattle.mama_ends.proofs.flushing.flush.Goals as goal

pub put-requires-clause-lawful : goal.put-requires-clause-lawful
put-requires-clause-lawful g c =
    let i = c.loop-event.invariant in
    first_lawful g.E.Stream.lawful g.met.E.Stream.lawful_prefix g.E.Stream.noted _ _ _ _ _ _ i.place i.puts c.in-Some.ensures.some c.requires.lawful
