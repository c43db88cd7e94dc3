use Rattle.std.proofs.Common.{map, sym, ◌∙◌, ap}
use Rattle.std.proofs.lemmas.List.Sorted.{All-permutation}
use Rattle.mama_crew.specs.Crew.{actors_of}
use Rattle.mama_shown.specs.Seat.{actor_of, IsSeatOf, HasEnded}
use Rattle.mama_play.proofs.order.in_order.Goals as goal

pub returns-then-are_all-clause-seats : goal.returns-then-are_all-clause-seats
returns-then-are_all-clause-seats g c =
    All-permutation (IsSeatOf c.args.script.now c.args._hall.now) _ _ c.sort_unstable_by_key.ensures.permutation c.requires.seats

pub returns-then-are_all-clause-ended : goal.returns-then-are_all-clause-ended
returns-then-are_all-clause-ended g c =
    All-permutation HasEnded _ _ c.sort_unstable_by_key.ensures.permutation c.requires.ended

pub returns-then-are_all-clause-actors : goal.returns-then-are_all-clause-actors
returns-then-are_all-clause-actors g c =
    ap (map actor_of) (sym c.deref.ensures.value) ∙ c.are_all.ensures c.if-are_all.true ∙ ap actors_of c.shape.ensures.value
