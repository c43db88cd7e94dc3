-- Behind the clients stand groups, and behind the groups watches.
use Rattle.std.proofs.Common.{false, true, List, [], ◌∷◌}
use Rattle.std.proofs.lemmas.Bool.{false≢true}
use Rattle.mama_words.specs.declared.order.OrderWord.TheVariants as orders
use Rattle.mama_script.specs.declared.head.Place.TheVariants as places
use Rattle.mama_script.specs.declared.line.Line.{Line}
use Rattle.mama_script.specs.declared.line.Line.TheVariants as lines
use Rattle.mama_script.specs.Standing.{Stand, AreWatches, AreGroups}

pub watches_stand : (ls : List Line) → Stand places.Watches [] ls → AreWatches ls
watches_stand [] h = tt
watches_stand (lines.Watch sub timer retries ∷ ls) h = (h.1.0, h.1.1, watches_stand ls h.3)
watches_stand (lines.Order (orders.Stop id) ∷ ls) h = absurd (false≢true h.0)
watches_stand (lines.Order (orders.Disarm id) ∷ ls) h = absurd (false≢true h.0)
watches_stand (lines.Order (orders.Close id) ∷ ls) h = absurd (false≢true h.0)
watches_stand (lines.Order (orders.Ask inbox topic fids) ∷ ls) h = absurd (false≢true h.0)
watches_stand (_ ∷ ls) h = absurd (false≢true h.0)

pub groups_stand : (ls : List Line) → Stand places.Groups [] ls → AreGroups ls
groups_stand [] h = tt
groups_stand (lines.Group ids ∷ ls) h = (h.1, groups_stand ls h.3)
groups_stand (lines.Watch sub timer retries ∷ ls) h = (h.1.0, h.1.1, watches_stand ls h.3)
groups_stand (lines.Order (orders.Stop id) ∷ ls) h = absurd (false≢true h.0)
groups_stand (lines.Order (orders.Disarm id) ∷ ls) h = absurd (false≢true h.0)
groups_stand (lines.Order (orders.Close id) ∷ ls) h = absurd (false≢true h.0)
groups_stand (lines.Order (orders.Ask inbox topic fids) ∷ ls) h = absurd (false≢true h.0)
groups_stand (_ ∷ ls) h = absurd (false≢true h.0)
