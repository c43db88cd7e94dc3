use Rattle.std.specs.List.{flat_map}
use Rattle.std.proofs.Common.{◌≡◌, ℕ, ◌+◌, true, cond, List, [], ◌++◌, length, map, set, Option, None, Some, Result, Ok, Err, refl, sym, ap, subst, ◌∙◌, arith}
use Rattle.std.specs.Result.{OnErr}
use Rattle.std.proofs.lemmas.List.{length-map}
use Rattle.std.proofs.lemmas.Option.{get_or_from_slice_get, slice_get_within}
use Rattle.mama_event.specs.declared.ids.SubId.{SubId}
use Rattle.mama_event.specs.declared.callback.Callback.{Callback}
use Rattle.mama_event.specs.declared.callback.CallNote.{CallNote}
use Rattle.mama_event.specs.declared.group.GroupNote.{GroupNote}
use Rattle.mama_rules_queue.specs.Group.{member_by}
use Rattle.mama_rules_queue.specs.GroupTurns.{told_of, turn_notes}
use Rattle.mama_group.specs.declared.group.Group.{Group}
use Rattle.mama_group.specs.declared.table.Place.{Place}
use Rattle.mama_group.specs.Listener.{told}
use Rattle.mama_group.specs.Table.{GroupData, GroupHeard, AllHeard, has_member, turn_of}
use Rattle.mama_group.specs.Kept.{group_of, IsCounted, AreApart, IsPlaceOf}
use Rattle.mama_group.proofs.Keeping.{kept_unheard, kept_heard}
use Rattle.mama_group.proofs.Placing.{all_at, all_heard, all_unheard, none_at, same_still, sum_few}
use Rattle.mama_group.proofs.table.GroupTable.after.Goals as goal

on_err : {A E P : Type 0} (r : Result A E) → P → OnErr r P
on_err (Ok x) p = tt
on_err (Err e) p = p

-- where it is in no group
unplaced : {H : Type 0} (s : SubId) (groups : List (Group H)) (o : Option Place) → ((p : Place) → o ≡ Some p → ⊥) → IsPlaceOf s groups o → IsPlaceOf s groups None
unplaced s groups None not placed = placed
unplaced s groups (Some p) not placed = absurd (not p refl)

pub returns-in_default-clause-ok : goal.returns-in_default-clause-ok
returns-in_default-clause-ok g c =
    let groups = c.self.inside.groups.items in
    let placed = subst (λ (o : Option Place). IsPlaceOf c.args.sub groups o) (sym c.place_of.ensures) (c.self.invariant.placed c.args.sub) in
    let none = unplaced c.args.sub groups c.place_of.result c.in_default.not-Some placed in
    subst (λ (gs : List GroupData). AllHeard c.args.sub (map (λ (n : CallNote). n.call) c.args.notes.now) gs gs) c.self.view_is
    (all_unheard (told g.H.GroupListener.tagged g.H.GroupListener.calls g.H.GroupListener.heard) c.args.sub (map (λ (n : CallNote). n.call) c.args.notes.now) groups (none_at c.args.sub groups none))

pub index_mut-group-requires : goal.index_mut-group-requires
index_mut-group-requires g c =
    let groups = c.self.inside.groups.items in
    let placed = subst (λ (o : Option Place). IsPlaceOf c.args.sub groups o) (sym c.place_of.ensures ∙ c.in-Some.is) (c.self.invariant.placed c.args.sub) in
    let within = slice_get_within groups c.in-Some.place.group placed.0 placed.1 in
    omega (arith, within, c.self.inside.groups.ok.0)

pub change-requires-clause-counted : goal.change-requires-clause-counted
change-requires-clause-counted g c =
    let groups = c.self.inside.groups.items in
    let now = c.index_mut-group.result.now in
    let placed = subst (λ (o : Option Place). IsPlaceOf c.args.sub groups o) (sym c.place_of.ensures ∙ c.in-Some.is) (c.self.invariant.placed c.args.sub) in
    let is : now ≡ placed.0 = c.index_mut-group.ensures.value ∙ get_or_from_slice_get groups c.in-Some.place.group placed.0 now placed.1 in
    all_at IsCounted groups c.in-Some.place.group now (placed.1 ∙ ap (λ x. Some x) (sym is)) c.self.invariant.counted

pub change-requires-clause-apart : goal.change-requires-clause-apart
change-requires-clause-apart g c =
    let groups = c.self.inside.groups.items in
    let now = c.index_mut-group.result.now in
    let placed = subst (λ (o : Option Place). IsPlaceOf c.args.sub groups o) (sym c.place_of.ensures ∙ c.in-Some.is) (c.self.invariant.placed c.args.sub) in
    let is : now ≡ placed.0 = c.index_mut-group.ensures.value ∙ get_or_from_slice_get groups c.in-Some.place.group placed.0 now placed.1 in
    all_at AreApart groups c.in-Some.place.group now (placed.1 ∙ ap (λ x. Some x) (sym is)) c.self.invariant.apart

pub change-requires-clause-member : goal.change-requires-clause-member
change-requires-clause-member g c =
    let groups = c.self.inside.groups.items in
    let now = c.index_mut-group.result.now in
    let placed = subst (λ (o : Option Place). IsPlaceOf c.args.sub groups o) (sym c.place_of.ensures ∙ c.in-Some.is) (c.self.invariant.placed c.args.sub) in
    let is : now ≡ placed.0 = c.index_mut-group.ensures.value ∙ get_or_from_slice_get groups c.in-Some.place.group placed.0 now placed.1 in (
      ap (λ x. has_member c.args.sub x.members) is ∙ placed.2,
      placed.3 ∙ ap (λ x. member_by (flat_map (told_of c.args.sub) x.notes.items)) (sym is),
    )

pub invariant_of-self : goal.invariant_of-self
invariant_of-self g c =
    let groups = c.self.inside.groups.items in
    let now = c.index_mut-group.result.now in
    let placed = subst (λ (o : Option Place). IsPlaceOf c.args.sub groups o) (sym c.place_of.ensures ∙ c.in-Some.is) (c.self.invariant.placed c.args.sub) in
    let is : now ≡ placed.0 = c.index_mut-group.ensures.value ∙ get_or_from_slice_get groups c.in-Some.place.group placed.0 now placed.1 in
    kept_unheard groups c.in-Some.place.group now c.change.new.self c.self.inside.room (placed.1 ∙ ap (λ x. Some x) (sym is)) (ap (λ x. x.members) c.change.ensures.same)
    c.self.inside.places (ap (λ x. x.counts) c.change.ensures.same) c.change.ensures.notes c.self.invariant

pub returns-in_err-change-clause-err : goal.returns-in_err-change-clause-err
returns-in_err-change-clause-err g c =
    let view = told g.H.GroupListener.tagged g.H.GroupListener.calls g.H.GroupListener.heard in
    let groups = c.self.inside.groups.items in
    let now = c.index_mut-group.result.now in
    let new = c.change.new.self in
    let placed = subst (λ (o : Option Place). IsPlaceOf c.args.sub groups o) (sym c.place_of.ensures ∙ c.in-Some.is) (c.self.invariant.placed c.args.sub) in
    let is : now ≡ placed.0 = c.index_mut-group.ensures.value ∙ get_or_from_slice_get groups c.in-Some.place.group placed.0 now placed.1 in
    let same : group_of view new ≡ group_of view now =
    ap (λ (ns : List GroupNote). record { number = new.number; members = new.members; notes = ns; listener = view new.listener }) c.change.ensures.notes ∙ ap (group_of view) c.change.ensures.same in
    on_err c.from_residual.result (same_still view groups c.in-Some.place.group now new (placed.1 ∙ ap (λ x. Some x) (sym is)) same ∙ c.self.view_is)

pub overflow_add-heard : goal.overflow_add-heard
overflow_add-heard g c =
    let groups = c.self.inside.groups.items in
    let now = c.index_mut-group.result.now in
    let new = c.hear-member.new.self in
    let placed = subst (λ (o : Option Place). IsPlaceOf c.args.sub groups o) (sym c.place_of.ensures ∙ c.in-Some.is) (c.self.invariant.placed c.args.sub) in
    let is : now ≡ placed.0 = c.index_mut-group.ensures.value ∙ get_or_from_slice_get groups c.in-Some.place.group placed.0 now placed.1 in
    let notes : new.notes.items ≡ now.notes.items ++ c.in_ok-change.change.heard.items = c.hear-member.ensures.heard.notes ∙ ap (λ (ns : List GroupNote). ns ++ c.in_ok-change.change.heard.items) c.change.ensures.notes in
    let few = sum_few now.members now.notes.items c.in_ok-change.change.heard.items new.notes.items c.args.sub (map (λ (n : CallNote). n.call) c.args.notes.now) c.in-Some.place.heard
    (placed.4 ∙ ap (λ x. length (flat_map (told_of c.args.sub) x.notes.items)) (sym is)) c.in_ok-change.ensures.change.heard notes in
    let long = length-map c.args.notes.now (λ (n : CallNote). n.call) in
    omega (arith, few, long, new.notes.ok.0, new.notes.ok.1, new.notes.small)

pub invariant_of-self-2 : goal.invariant_of-self-2
invariant_of-self-2 g c =
    let groups = c.self.inside.groups.items in
    let now = c.index_mut-group.result.now in
    let new = c.hear-member.new.self in
    let change = c.in_ok-change.change in
    let calls : List Callback = map (λ (n : CallNote). n.call) c.args.notes.now in
    let place : Place = c.in-Some.place in
    let next : Place = record { group = place.group; member = c.hear-member.result; heard = place.heard + length c.args.notes.now } in
    let placed = subst (λ (o : Option Place). IsPlaceOf c.args.sub groups o) (sym c.place_of.ensures ∙ c.in-Some.is) (c.self.invariant.placed c.args.sub) in
    let is : now ≡ placed.0 = c.index_mut-group.ensures.value ∙ get_or_from_slice_get groups place.group placed.0 now placed.1 in
    let notes : new.notes.items ≡ now.notes.items ++ change.heard.items = c.hear-member.ensures.heard.notes ∙ ap (λ (ns : List GroupNote). ns ++ change.heard.items) c.change.ensures.notes in
    kept_heard groups place.group now new c.self.inside.room (placed.1 ∙ ap (λ x. Some x) (sym is)) (c.hear-member.ensures.heard.members ∙ ap (λ x. x.members) c.change.ensures.same)
    c.self.inside.places c.set_place.new.places c.args.sub calls place next change (sym c.place_of.ensures ∙ c.in-Some.is) c.set_place.ensures refl refl c.hear-member.ensures.member
    (ap (λ (n : ℕ). place.heard + n) (sym (length-map c.args.notes.now (λ (n : CallNote). n.call)))) (placed.4 ∙ ap (λ x. length (flat_map (told_of c.args.sub) x.notes.items)) (sym is))
    c.in_ok-change.ensures.change c.hear-member.ensures.counts notes c.self.invariant

pub returns-clause-ok : goal.returns-clause-ok
returns-clause-ok g c =
    let view = told g.H.GroupListener.tagged g.H.GroupListener.calls g.H.GroupListener.heard in
    let groups = c.self.inside.groups.items in
    let now = c.index_mut-group.result.now in
    let old = c.change.new.self in
    let new = c.hear-member.new.self in
    let change = c.in_ok-change.change in
    let s : SubId = c.args.sub in
    let calls : List Callback = map (λ (n : CallNote). n.call) c.args.notes.now in
    let i : ℕ = c.in-Some.place.group in
    let placed = subst (λ (o : Option Place). IsPlaceOf s groups o) (sym c.place_of.ensures ∙ c.in-Some.is) (c.self.invariant.placed s) in
    let is : now ≡ placed.0 = c.index_mut-group.ensures.value ∙ get_or_from_slice_get groups i placed.0 now placed.1 in
    let same : group_of view old ≡ group_of view now =
    ap (λ (ns : List GroupNote). record { number = old.number; members = old.members; notes = ns; listener = view old.listener }) c.change.ensures.notes ∙ ap (group_of view) c.change.ensures.same in
    let has : has_member s now.members ≡ true = ap (λ x. has_member s x.members) is ∙ placed.2 in
    let turn : change.heard.items ≡ turn_of s calls (group_of view now) =
    c.in_ok-change.ensures.change.heard ∙ sym (ap (λ b. cond b (turn_notes now.members now.notes.items s calls) []) has) in
    let heard : GroupHeard (turn_of s calls (group_of view now)) (group_of view now) (group_of view new) =
    subst (λ (ns : List GroupNote). GroupHeard ns (group_of view now) (group_of view new)) turn
    (subst (λ (d : GroupData). GroupHeard change.heard.items d (group_of view new)) same c.hear-member.ensures.heard) in
    subst (λ (gs : List GroupData). AllHeard s calls gs (map (group_of view) (set groups i new))) c.self.view_is
    (all_heard view s calls groups i now new (placed.1 ∙ ap (λ x. Some x) (sym is)) heard placed.5)
