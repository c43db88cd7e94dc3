use Rattle.std.specs.List.{flat_map}
use Rattle.std.specs.Vec.Iter.{into_iter_items}
use Rattle.std.proofs.Common.{◌≡◌, map, rules, sym, ap, ◌∙◌}
use Rattle.std.proofs.lemmas.List.Elements.{All-weaker}
use Rattle.std.proofs.lemmas.Result.{IfOk-from_err}
use Rattle.mama_rules_rounds.specs.Sections.{setting_of}
use Rattle.mama_grouped.specs.Crew.{HasDoneNothing}
use Rattle.mama_grouped.specs.New.{IsNewSeatOf}
use Rattle.mama_grouped.specs.Opening.{rows_of_actor}
use Rattle.mama_grouped.specs.Seat.{IsSeatOf}
use Rattle.mama_grouped.proofs.Opening.{rows_each}
use Rattle.mama_grouped.proofs.crew.open_grouped.Goals as goal

pub with_groups-requires-clause-groups : goal.with_groups-requires-clause-groups
with_groups-requires-clause-groups g c =
    let groups = (setting_of c.args.script.now).groups in
    let held : into_iter_items c.into_iter-lists.result ≡ c.in_ok-groups.groups.items = search (c.into_iter-lists, rules) in
    record { rows = ap (map (λ list. list.items)) held ∙ c.in_ok-groups.ensures ∙ rows_each groups c.args.script.now.shape ∙ ap (flat_map (rows_of_actor groups)) (sym c.in_ok-crew.ensures.crew.actors) }

pub returns-in_err-crew-clause-crew : goal.returns-in_err-crew-clause-crew
returns-in_err-crew-clause-crew g c = IfOk-from_err c.from_residual.result _ c.from_residual.ensures.0

pub returns-in_err-crew-clause-new : goal.returns-in_err-crew-clause-new
returns-in_err-crew-clause-new g c = IfOk-from_err c.from_residual.result _ c.from_residual.ensures.0

pub returns-in_err-groups-clause-crew : goal.returns-in_err-groups-clause-crew
returns-in_err-groups-clause-crew g c = IfOk-from_err c.from_residual-in_err-groups.result _ c.from_residual-in_err-groups.ensures.0

pub returns-in_err-groups-clause-new : goal.returns-in_err-groups-clause-new
returns-in_err-groups-clause-new g c = IfOk-from_err c.from_residual-in_err-groups.result _ c.from_residual-in_err-groups.ensures.0

pub returns-in_err-seats-clause-crew : goal.returns-in_err-seats-clause-crew
returns-in_err-seats-clause-crew g c = IfOk-from_err c.from_residual-in_err-seats.result _ c.from_residual-in_err-seats.ensures.0

pub returns-in_err-seats-clause-new : goal.returns-in_err-seats-clause-new
returns-in_err-seats-clause-new g c = IfOk-from_err c.from_residual-in_err-seats.result _ c.from_residual-in_err-seats.ensures.0

pub returns-clause-crew : goal.returns-clause-crew
returns-clause-crew g c = record {
  hall_is = c.in_ok-crew.ensures.crew.hall_is;
  actors = c.in_ok-seats.ensures.actors ∙ c.in_ok-crew.ensures.crew.actors;
  each = All-weaker (IsNewSeatOf c.args.script.now c.in_ok-crew.crew.hall) (IsSeatOf c.args.script.now c.in_ok-crew.crew.hall) (λ seat is. is.sits) _ c.in_ok-seats.ensures.seats;
}

pub with_groups-requires-clause-sits : goal.with_groups-requires-clause-sits
with_groups-requires-clause-sits g c = c.in_ok-crew.ensures.crew.each

pub with_groups-requires-clause-new : goal.with_groups-requires-clause-new
with_groups-requires-clause-new g c = c.in_ok-crew.ensures.new

pub returns-clause-new : goal.returns-clause-new
returns-clause-new g c = All-weaker (IsNewSeatOf c.args.script.now c.in_ok-crew.crew.hall) HasDoneNothing (λ seat is. is.new) _ c.in_ok-seats.ensures.seats
