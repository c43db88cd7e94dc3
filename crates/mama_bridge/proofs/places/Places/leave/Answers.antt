use Rattle.std.proofs.Common.{ap, sym, ◌∙◌}
use Rattle.mama_laws_bridge.specs.Table.{without}
use Rattle.mama_bridge.specs.Placed.{Placed, is_place_of, present}
use Rattle.mama_bridge.proofs.TheOne.{none_without}
use Rattle.mama_bridge.proofs.places.Places.leave.Goals as goal

pub returns-in-None-clause-live : goal.returns-in-None-clause-live
returns-in-None-clause-live c =
    sym (none_without (is_place_of c.args.sub) (present c.self.inside.entries.items) c.in-None.ensures ∙ ap (λ (p : Placed). p.live) c.self.view_is)
    ∙ ap (λ (p : Placed). without (is_place_of c.args.sub) p.live) c.self.view_is
