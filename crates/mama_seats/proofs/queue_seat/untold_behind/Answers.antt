use Rattle.std.specs.Option.{option_map}
use Rattle.std.proofs.Common.{ℕ, ap, ◌∙◌}
use Rattle.mama_event.specs.declared.ids.SubId.{SubId}
use Rattle.mama_seats.proofs.queue_seat.untold_behind.Goals as goal

pub returns : goal.returns
returns g c = c.with_calls.ensures ∙ ap (λ (count : ℕ). option_map (λ (s : SubId). (s, count)) c.args.sub) c.calls_in.ensures
