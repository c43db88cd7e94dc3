use Rattle.std.specs.List.{All, flat_map}
use Rattle.std.proofs.Common.{◌≡◌, ℕ, List, length, map, sym, ap, subst, ◌∙◌, arith}
use Rattle.std.proofs.lemmas.Result.{IfOk-from_err}
use Rattle.mama_rules_rounds.specs.Sections.{setting_of}
use Rattle.mama_rules_rounds.specs.Told.{group_told, last_image}
use Rattle.mama_group.specs.Listener.{told}
use Rattle.mama_crew.specs.Journals.{AreJournalsOf, events_in}
use Rattle.mama_crew.specs.Crew as crews
use Rattle.mama_crew.specs.Seat as crew
use Rattle.mama_grouped.specs.Seat.{HasEnded}
use Rattle.mama_grouped.specs.Back.{IsBack, HaveHeard}
use Rattle.mama_grouped.proofs.Gathered.{all_events, all_back, told_by}
use Rattle.mama_grouped.proofs.GatheredSeats.{all_seats, crew_of, journals_of, lists_all, by_all}
use Rattle.mama_shown.proofs.closing.close_grouped.Goals as goal

pub of-requires : goal.of-requires
of-requires g c =
    let few = c.shape.ensures.within.groups_few in
    omega (arith, few, ap (λ gs. length gs) c.groups-count.ensures)

pub close_imaged-requires-clause-crew : goal.close_imaged-requires-clause-crew
close_imaged-requires-clause-crew g c =
    subst (crews.IsCrew c.args.script.now c.args.hall) (sym c.in_ok-heard.ensures.seats) (crew_of c.args.script.now c.args.hall c.args.seats.items c.requires.crew)

pub close_imaged-requires-clause-ended : goal.close_imaged-requires-clause-ended
close_imaged-requires-clause-ended g c =
    subst (All crew.HasEnded) (sym c.in_ok-heard.ensures.seats) (all_seats HasEnded crew.HasEnded (λ s ended. ended.seat_ended) c.args.seats.items c.requires.ended)

pub close_imaged-requires-clause-groups : goal.close_imaged-requires-clause-groups
close_imaged-requires-clause-groups g c =
    let script = c.args.script.now in
    let count = ap (λ gs. length gs) c.groups-count.ensures in
    lists_all script c.args.hall c.args.seats.items c.requires.crew c.requires.ended c.in_ok-heard.heard.lists.items (length c.groups-count.result.now) count c.in_ok-heard.ensures.lists
    ∙ ap (λ seats. map (group_told (setting_of script) (all_events seats)) (setting_of script).groups) (sym c.in_ok-heard.ensures.seats)

pub close_imaged-requires-clause-images : goal.close_imaged-requires-clause-images
close_imaged-requires-clause-images g c =
    c.requires.images
    ∙ ap (λ seats. flat_map (last_image (setting_of c.args.script.now) (flat_map events_in seats)) (setting_of c.args.script.now).objects) (sym c.in_ok-heard.ensures.seats)

pub listeners_in_order-requires : goal.listeners_in_order-requires
listeners_in_order-requires g c =
    let few = c.shape.ensures.within.groups_few in
    omega (arith, few, ap (λ gs. length gs) c.groups-count.ensures, c.in_ok-heard.ensures.long)

pub returns-clause-journals : goal.returns-clause-journals
returns-clause-journals g c = subst (λ seats. AreJournalsOf seats c.in_ok-run.run') c.in_ok-heard.ensures.seats c.in_ok-run.ensures.journals

pub returns-clause-groups : goal.returns-clause-groups
returns-clause-groups g c =
    let script = c.args.script.now in
    let view = told g.H.GroupListener.tagged g.H.GroupListener.calls g.H.GroupListener.heard in
    let journals = journals_of c.args.seats.items in
    let count = ap (λ gs. length gs) c.groups-count.ensures in
    let lists = lists_all script c.args.hall c.args.seats.items c.requires.crew c.requires.ended c.in_ok-heard.heard.lists.items (length c.groups-count.result.now) count c.in_ok-heard.ensures.lists in
    let long : length script.groups ≡ length c.in_ok-listeners.listeners.items = sym (c.in_ok-listeners.ensures.long ∙ c.in_ok-heard.ensures.long ∙ count) in
    let order = c.in_ok-listeners.ensures.listeners (told_by script journals) (c.in_ok-heard.ensures.listeners (told_by script journals) (by_all script c.args.hall c.args.seats.items c.requires.crew c.requires.ended)) in
    subst (λ gs. HaveHeard view gs c.in_ok-listeners.listeners.items) (sym (c.in_ok-run.ensures.groups ∙ lists))
    (all_back script journals view c.in_ok-listeners.listeners.items long order)

pub returns-clause-images : goal.returns-clause-images
returns-clause-images g c = c.in_ok-run.ensures.images

pub returns-clause-legal : goal.returns-clause-legal
returns-clause-legal g c = c.in_ok-run.ensures.legal

pub returns-clause-listeners : goal.returns-clause-listeners
returns-clause-listeners g c = c.in_ok-run.ensures.listeners

pub returns-in_err-heard-clause-journals : goal.returns-in_err-heard-clause-journals
returns-in_err-heard-clause-journals g c = IfOk-from_err c.from_residual.result _ c.from_residual.ensures.0

pub returns-in_err-heard-clause-legal : goal.returns-in_err-heard-clause-legal
returns-in_err-heard-clause-legal g c = IfOk-from_err c.from_residual.result _ c.from_residual.ensures.0

pub returns-in_err-heard-clause-images : goal.returns-in_err-heard-clause-images
returns-in_err-heard-clause-images g c = IfOk-from_err c.from_residual.result _ c.from_residual.ensures.0

pub returns-in_err-heard-clause-listeners : goal.returns-in_err-heard-clause-listeners
returns-in_err-heard-clause-listeners g c = IfOk-from_err c.from_residual.result _ c.from_residual.ensures.0

pub returns-in_err-heard-clause-groups : goal.returns-in_err-heard-clause-groups
returns-in_err-heard-clause-groups g c = IfOk-from_err c.from_residual.result _ c.from_residual.ensures.0

pub returns-in_err-listeners-clause-journals : goal.returns-in_err-listeners-clause-journals
returns-in_err-listeners-clause-journals g c = IfOk-from_err c.from_residual-in_err-listeners.result _ c.from_residual-in_err-listeners.ensures.0

pub returns-in_err-listeners-clause-legal : goal.returns-in_err-listeners-clause-legal
returns-in_err-listeners-clause-legal g c = IfOk-from_err c.from_residual-in_err-listeners.result _ c.from_residual-in_err-listeners.ensures.0

pub returns-in_err-listeners-clause-images : goal.returns-in_err-listeners-clause-images
returns-in_err-listeners-clause-images g c = IfOk-from_err c.from_residual-in_err-listeners.result _ c.from_residual-in_err-listeners.ensures.0

pub returns-in_err-listeners-clause-listeners : goal.returns-in_err-listeners-clause-listeners
returns-in_err-listeners-clause-listeners g c = IfOk-from_err c.from_residual-in_err-listeners.result _ c.from_residual-in_err-listeners.ensures.0

pub returns-in_err-listeners-clause-groups : goal.returns-in_err-listeners-clause-groups
returns-in_err-listeners-clause-groups g c = IfOk-from_err c.from_residual-in_err-listeners.result _ c.from_residual-in_err-listeners.ensures.0

pub returns-in_err-run-clause-journals : goal.returns-in_err-run-clause-journals
returns-in_err-run-clause-journals g c = IfOk-from_err c.from_residual-in_err-run.result _ c.from_residual-in_err-run.ensures.0

pub returns-in_err-run-clause-legal : goal.returns-in_err-run-clause-legal
returns-in_err-run-clause-legal g c = IfOk-from_err c.from_residual-in_err-run.result _ c.from_residual-in_err-run.ensures.0

pub returns-in_err-run-clause-images : goal.returns-in_err-run-clause-images
returns-in_err-run-clause-images g c = IfOk-from_err c.from_residual-in_err-run.result _ c.from_residual-in_err-run.ensures.0

pub returns-in_err-run-clause-listeners : goal.returns-in_err-run-clause-listeners
returns-in_err-run-clause-listeners g c = IfOk-from_err c.from_residual-in_err-run.result _ c.from_residual-in_err-run.ensures.0

pub returns-in_err-run-clause-groups : goal.returns-in_err-run-clause-groups
returns-in_err-run-clause-groups g c = IfOk-from_err c.from_residual-in_err-run.result _ c.from_residual-in_err-run.ensures.0
