use Rattle.std.specs.Prelude.{vec_len, vec_capacity}
use Rattle.std.specs.List.{flat_map}
use Rattle.std.proofs.Common.{◌≡◌, ℕ, ◌<◌, map, Option, None, Some, sym, ap, subst, ◌∙◌, arith}
use Rattle.std.proofs.lemmas.Option.{get_or_from_slice_get, slice_get_within}
use Rattle.mama_event.specs.Object.{same_timer}
use Rattle.mama_timeout.specs.declared.table.Watch.{Watch}
use Rattle.mama_timeout.specs.Table.{WatchData, TableData, counted_at, count_wishes}
use Rattle.mama_timeout.specs.Kept.{IsPlaceOf, IsKept}
use Rattle.mama_timeout.proofs.Placing.{no_place, unplaced, count_unplaced, wish_unplaced, count_placed, wish_placed, kept_used}
use Rattle.mama_timeout.proofs.table.WatchTable.count.Goals as goal

pub returns-in_default-clause-notes : goal.returns-in_default-clause-notes
returns-in_default-clause-notes c =
    let watches = c.self.inside.watches.items in
    let none = unplaced c.args.timer watches c.place_of.result c.in_default.not-Some (subst (λ (o : Option ℕ). IsPlaceOf c.args.timer watches o) (sym c.place_of.ensures) (c.self.invariant.placed c.args.timer)) in
    subst (λ (d : TableData). d.watches ≡ map (counted_at c.args.timer c.args.moment) d.watches) c.self.view_is (count_unplaced c.args.timer c.args.moment watches none)

pub returns-in_default-clause-wish : goal.returns-in_default-clause-wish
returns-in_default-clause-wish c =
    let watches = c.self.inside.watches.items in
    let none = unplaced c.args.timer watches c.place_of.result c.in_default.not-Some (subst (λ (o : Option ℕ). IsPlaceOf c.args.timer watches o) (sym c.place_of.ensures) (c.self.invariant.placed c.args.timer)) in
    wish_unplaced c.args.timer c.args.moment watches none ∙ ap (λ (d : TableData). flat_map (count_wishes c.args.timer c.args.moment) d.watches) c.self.view_is

pub index_mut-watch-requires : goal.index_mut-watch-requires
index_mut-watch-requires c =
    let watches = c.self.inside.watches.items in
    let placed = subst (λ (o : Option ℕ). IsPlaceOf c.args.timer watches o) (sym c.place_of.ensures ∙ c.in-Some.is) (c.self.invariant.placed c.args.timer) in
    let within = slice_get_within watches c.in-Some.place placed.0 placed.1 in
    omega (arith, within, c.self.inside.watches.ok.0)

pub tick-requires : goal.tick-requires
tick-requires c =
    let watches = c.self.inside.watches.items in
    let now = c.index_mut-watch.result.now in
    let placed = subst (λ (o : Option ℕ). IsPlaceOf c.args.timer watches o) (sym c.place_of.ensures ∙ c.in-Some.is) (c.self.invariant.placed c.args.timer) in
    let is : now ≡ placed.0 = c.index_mut-watch.ensures.value ∙ get_or_from_slice_get watches c.in-Some.place placed.0 now placed.1 in
    let unused : c.self.inside.used ≡ None = no_place c.self.inside.used (ap (λ (d : TableData). d.ready) c.self.view_is ∙ c.requires) in
    subst (λ (w : Watch). vec_len w.notes < vec_capacity w.notes) (sym is)
    (c.self.invariant.ready c.in-Some.place placed.0 placed.1 (λ e. let bad : None ≡ Some c.in-Some.place = sym unused ∙ e in cc))

pub invariant_of-self : goal.invariant_of-self
invariant_of-self c =
    let watches = c.self.inside.watches.items in
    let now = c.index_mut-watch.result.now in
    let placed = subst (λ (o : Option ℕ). IsPlaceOf c.args.timer watches o) (sym c.place_of.ensures ∙ c.in-Some.is) (c.self.invariant.placed c.args.timer) in
    let is : now ≡ placed.0 = c.index_mut-watch.ensures.value ∙ get_or_from_slice_get watches c.in-Some.place placed.0 now placed.1 in
    let unused : c.self.inside.used ≡ None = no_place c.self.inside.used (ap (λ (d : TableData). d.ready) c.self.view_is ∙ c.requires) in
    kept_used watches c.in-Some.place now c.tick.new.self (placed.1 ∙ ap (λ x. Some x) (sym is)) (ap (λ (d : WatchData). d.row) c.tick.ensures.watch) c.self.inside.places c.self.inside.room
    (subst (λ (u : Option ℕ). IsKept watches c.self.inside.places u c.self.inside.room) unused c.self.invariant)

pub returns-clause-notes : goal.returns-clause-notes
returns-clause-notes c =
    let watches = c.self.inside.watches.items in
    let now = c.index_mut-watch.result.now in
    let placed = subst (λ (o : Option ℕ). IsPlaceOf c.args.timer watches o) (sym c.place_of.ensures ∙ c.in-Some.is) (c.self.invariant.placed c.args.timer) in
    let is : now ≡ placed.0 = c.index_mut-watch.ensures.value ∙ get_or_from_slice_get watches c.in-Some.place placed.0 now placed.1 in
    count_placed c.args.timer c.args.moment watches c.in-Some.place now c.tick.new.self (placed.1 ∙ ap (λ x. Some x) (sym is)) (ap (λ (w : Watch). same_timer w.row.timer c.args.timer) is ∙ placed.2) placed.3 c.tick.ensures.watch
    ∙ ap (λ (d : TableData). map (counted_at c.args.timer c.args.moment) d.watches) c.self.view_is

pub returns-clause-wish : goal.returns-clause-wish
returns-clause-wish c =
    let watches = c.self.inside.watches.items in
    let now = c.index_mut-watch.result.now in
    let placed = subst (λ (o : Option ℕ). IsPlaceOf c.args.timer watches o) (sym c.place_of.ensures ∙ c.in-Some.is) (c.self.invariant.placed c.args.timer) in
    let is : now ≡ placed.0 = c.index_mut-watch.ensures.value ∙ get_or_from_slice_get watches c.in-Some.place placed.0 now placed.1 in
    c.tick.ensures.wish
    ∙ wish_placed c.args.timer c.args.moment watches c.in-Some.place now (placed.1 ∙ ap (λ x. Some x) (sym is)) (ap (λ (w : Watch). same_timer w.row.timer c.args.timer) is ∙ placed.2) placed.3
    ∙ ap (λ (d : TableData). flat_map (count_wishes c.args.timer c.args.moment) d.watches) c.self.view_is
