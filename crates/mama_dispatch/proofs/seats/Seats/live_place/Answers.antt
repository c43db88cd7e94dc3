use Rattle.std.specs.Prelude.{Option, is_some}
use Rattle.std.specs.Option.{option_and_then}
use Rattle.std.proofs.Common.{ap, sym, ◌∙◌}
use Rattle.std.proofs.lemmas.Bool.{false≢true}
use Rattle.mama_dispatch.specs.Seats.{SeatData}
use Rattle.mama_dispatch.proofs.PlaceLemmas.{none_seated}
use Rattle.mama_dispatch.proofs.seats.Seats.live_place.Goals as goal

pub unreachable-requires : goal.unreachable-requires
unreachable-requires g c = absurd (false≢true (sym (ap (λ (s : Option SeatData). is_some (option_and_then (λ (x : SeatData). x.listener) s)) (none_seated c.args.object.now c.args.self.now c.in-None.ensures.none)) ∙ c.requires))
