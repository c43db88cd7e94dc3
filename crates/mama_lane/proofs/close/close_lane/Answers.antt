use Rattle.std.proofs.Common.{◌∙◌, ap, subst}
use Rattle.std.specs.List.{All}
use Rattle.mama_journal.specs.Lane.{by_port, IsEdge}
use Rattle.mama_lane.specs.Values.{TakerValue}
use Rattle.mama_lane.proofs.Edges.{are_edges}
use Rattle.mama_lane.proofs.close.close_lane.Goals as goal

pub returns : goal.returns
returns g c =
    subst (λ (t : TakerValue g.row.E-Note.Denot). All (λ p. IsEdge g.E.Stream.last (by_port p.number t.taken) p.put) c.args.ports.items) c.taker.view_is
    (are_edges g.E.Stream.last g.E.Stream.lawful g.met.E.Stream.lawful_end _ _ _ _ _ (ap (λ (t : TakerValue g.row.E-Note.Denot). t.taken) c.looker.view_is ∙ c.taker.invariant.0.parts)
    c.end_all.ensures.view c.looker.invariant.0.unclosed c.compare.ensures)
