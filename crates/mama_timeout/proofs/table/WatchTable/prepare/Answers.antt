use Rattle.std.proofs.Common.{ℕ, List, length, set, Option, Some, refl, sym, ap, subst, ◌∙◌, arith}
use Rattle.std.proofs.lemmas.Option.{slice_get_read}
use Rattle.mama_event.specs.declared.watch.WatchNote.{WatchNote}
use Rattle.mama_timeout.specs.declared.table.Watch.{Watch}
use Rattle.mama_timeout.specs.Table.{TableData}
use Rattle.mama_timeout.specs.Kept.{IsKept}
use Rattle.mama_timeout.proofs.Placing.{kept_ready, kept_unready, same_watches}
use Rattle.mama_timeout.proofs.table.WatchTable.prepare.Goals as goal

pub invariant_of-self : goal.invariant_of-self
invariant_of-self c =
    let watches = c.self.inside.watches.items in
    let now = c.index_mut-watch.result.now in
    let after : Watch = record { number = now.number; row = now.row; notes = c.reserve.new.self } in
    let at = slice_get_read watches (length watches) c.in-Some.place now refl (c.self.invariant.within c.in-Some.place c.in-Some.is) c.index_mut-watch.ensures.value in
    subst (λ (u : Option ℕ). IsKept (set watches c.in-Some.place after) c.self.inside.places u c.self.inside.room) (sym c.in-Some.is)
    (kept_unready watches c.in-Some.place now after at refl c.self.inside.places c.self.inside.room
    (subst (λ (u : Option ℕ). IsKept watches c.self.inside.places u c.self.inside.room) c.in-Some.is c.self.invariant))

pub invariant_of-self-2 : goal.invariant_of-self-2
invariant_of-self-2 c =
    let watches = c.self.inside.watches.items in
    let now = c.index_mut-watch.result.now in
    let after : Watch = record { number = now.number; row = now.row; notes = c.reserve.new.self } in
    let at = slice_get_read watches (length watches) c.in-Some.place now refl (c.self.invariant.within c.in-Some.place c.in-Some.is) c.index_mut-watch.ensures.value in
    kept_ready watches c.in-Some.place now after at refl c.self.inside.places c.self.inside.room (omega (arith, c.in_ok-reserve.ensures.ok, c.in_ok-reserve.ensures.capacity, c.in_ok-reserve.ensures.len))
    (subst (λ (u : Option ℕ). IsKept watches c.self.inside.places u c.self.inside.room) c.in-Some.is c.self.invariant)

pub returns-in_err-reserve-clause-watches : goal.returns-in_err-reserve-clause-watches
returns-in_err-reserve-clause-watches c =
    let watches = c.self.inside.watches.items in
    let now = c.index_mut-watch.result.now in
    let after : Watch = record { number = now.number; row = now.row; notes = c.reserve.new.self } in
    let at = slice_get_read watches (length watches) c.in-Some.place now refl (c.self.invariant.within c.in-Some.place c.in-Some.is) c.index_mut-watch.ensures.value in
    same_watches watches c.in-Some.place now after at refl (ap (λ (ns : List WatchNote). record { number = now.number; row = now.row; notes = ns }) c.reserve.ensures.items)
    ∙ ap (λ (d : TableData). d.watches) c.self.view_is

pub returns-clause-watches : goal.returns-clause-watches
returns-clause-watches c =
    let watches = c.self.inside.watches.items in
    let now = c.index_mut-watch.result.now in
    let after : Watch = record { number = now.number; row = now.row; notes = c.reserve.new.self } in
    let at = slice_get_read watches (length watches) c.in-Some.place now refl (c.self.invariant.within c.in-Some.place c.in-Some.is) c.index_mut-watch.ensures.value in
    same_watches watches c.in-Some.place now after at refl (ap (λ (ns : List WatchNote). record { number = now.number; row = now.row; notes = ns }) c.reserve.ensures.items)
    ∙ ap (λ (d : TableData). d.watches) c.self.view_is
