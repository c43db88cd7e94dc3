use Rattle.std.proofs.Common.{filter, ap, sym, ◌∙◌}
use Rattle.mama_bridge.specs.Placed.{Placed, is_place_of, present}
use Rattle.mama_bridge.proofs.TheOne.{none_taken}
use Rattle.mama_bridge.proofs.places.Places.find.Goals as goal

pub returns-in-None : goal.returns-in-None
returns-in-None c =
    sym (none_taken (is_place_of c.args.sub) (present c.self.inside.entries.items) c.in-None.ensures)
    ∙ ap (λ (p : Placed). filter (is_place_of c.args.sub) p.live) c.self.view_is
