use Rattle.std.proofs.Common.{ap, ◌∙◌}
use Rattle.mama_bridge.specs.Ids.{is_sub_among}
use Rattle.mama_bridge.specs.Placed.{Placed}
use Rattle.mama_bridge.proofs.PlaceLemmas.{among}
use Rattle.mama_bridge.proofs.places.Places.has_joined.Goals as goal

pub returns : goal.returns
returns c = c.contains_key.ensures ∙ among c.self.inside.indexes c.args.sub ∙ ap (λ (p : Placed). is_sub_among p.joined c.args.sub) c.self.view_is
