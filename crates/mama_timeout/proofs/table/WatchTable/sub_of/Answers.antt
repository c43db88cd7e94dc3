use Rattle.std.specs.List.{AllByRecursion}
use Rattle.std.proofs.Common.{◌≡◌, ℕ, true, Option, None, Some, sym, ap, subst, ◌∙◌}
use Rattle.std.proofs.lemmas.Option.{get_or_from_slice_get}
use Rattle.mama_event.specs.Object.{same_timer}
use Rattle.mama_timeout.specs.declared.table.Watch.{Watch}
use Rattle.mama_timeout.specs.Table.{WatchData, TableData, first_sub}
use Rattle.mama_timeout.specs.Kept.{IsPlaceOf}
use Rattle.mama_timeout.proofs.Placing.{unplaced, sub_unplaced, only_unplaced, sub_placed, only_placed}
use Rattle.mama_timeout.proofs.table.WatchTable.sub_of.Goals as goal

pub returns-in_default-clause-first : goal.returns-in_default-clause-first
returns-in_default-clause-first c =
    let watches = c.self.inside.watches.items in
    let none = unplaced c.args.timer watches c.place_of.result c.in_default.not-Some (subst (λ (o : Option ℕ). IsPlaceOf c.args.timer watches o) (sym c.place_of.ensures) (c.self.invariant.placed c.args.timer)) in
    sub_unplaced c.args.timer watches none ∙ ap (λ (d : TableData). first_sub c.args.timer d.watches) c.self.view_is

pub returns-in_default-clause-only : goal.returns-in_default-clause-only
returns-in_default-clause-only c =
    let watches = c.self.inside.watches.items in
    let none = unplaced c.args.timer watches c.place_of.result c.in_default.not-Some (subst (λ (o : Option ℕ). IsPlaceOf c.args.timer watches o) (sym c.place_of.ensures) (c.self.invariant.placed c.args.timer)) in
    subst (λ (d : TableData). AllByRecursion (λ (w : WatchData). same_timer w.row.timer c.args.timer ≡ true → None ≡ Some w.row.sub) d.watches) c.self.view_is (only_unplaced c.args.timer watches none)

pub returns-clause-first : goal.returns-clause-first
returns-clause-first c =
    let watches = c.self.inside.watches.items in
    let now = c.index-watch.result.now in
    let placed = subst (λ (o : Option ℕ). IsPlaceOf c.args.timer watches o) (sym c.place_of.ensures ∙ c.in-Some.is) (c.self.invariant.placed c.args.timer) in
    let is : now ≡ placed.0 = c.index-watch.ensures ∙ get_or_from_slice_get watches c.in-Some.place placed.0 now placed.1 in
    sub_placed c.args.timer watches c.in-Some.place now (placed.1 ∙ ap (λ x. Some x) (sym is)) (ap (λ (w : Watch). same_timer w.row.timer c.args.timer) is ∙ placed.2) placed.3
    ∙ ap (λ (d : TableData). first_sub c.args.timer d.watches) c.self.view_is

pub returns-clause-only : goal.returns-clause-only
returns-clause-only c =
    let watches = c.self.inside.watches.items in
    let now = c.index-watch.result.now in
    let placed = subst (λ (o : Option ℕ). IsPlaceOf c.args.timer watches o) (sym c.place_of.ensures ∙ c.in-Some.is) (c.self.invariant.placed c.args.timer) in
    let is : now ≡ placed.0 = c.index-watch.ensures ∙ get_or_from_slice_get watches c.in-Some.place placed.0 now placed.1 in
    subst (λ (d : TableData). AllByRecursion (λ (w : WatchData). same_timer w.row.timer c.args.timer ≡ true → Some now.row.sub ≡ Some w.row.sub) d.watches) c.self.view_is
    (only_placed c.args.timer watches c.in-Some.place now (placed.1 ∙ ap (λ x. Some x) (sym is)) placed.3)
