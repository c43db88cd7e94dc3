use Rattle.std.proofs.Common.{◌≡◌, true, length, Option, subst, sym, ap, ◌∙◌}
use Rattle.std.specs.List.{AllByRecursion, flat_map}
use Rattle.mama_rules_queue.specs.GroupTurns.{told_of}
use Rattle.mama_group.specs.declared.table.Place.{Place}
use Rattle.mama_group.specs.Listener.{told}
use Rattle.mama_group.specs.Table.{GroupData, has_member, heard_in}
use Rattle.mama_group.specs.Kept.{IsPlaceOf}
use Rattle.mama_group.proofs.Placing.{heard_placed, heard_unplaced, own_placed, own_unplaced}
use Rattle.mama_group.proofs.table.GroupTable.heard.Goals as goal

pub returns-in-Some-clause-count : goal.returns-in-Some-clause-count
returns-in-Some-clause-count g c =
    let placed = subst (λ (o : Option Place). IsPlaceOf c.args.sub c.self.inside.groups.items o) (sym c.place_of.ensures ∙ c.in-Some.is) (c.self.invariant.placed c.args.sub) in
    heard_placed (told g.H.GroupListener.tagged g.H.GroupListener.calls g.H.GroupListener.heard) c.args.sub c.self.inside.groups.items c.in-Some.place placed
    ∙ ap (heard_in c.args.sub) c.self.view_is

pub returns-in-Some-clause-own : goal.returns-in-Some-clause-own
returns-in-Some-clause-own g c =
    let placed = subst (λ (o : Option Place). IsPlaceOf c.args.sub c.self.inside.groups.items o) (sym c.place_of.ensures ∙ c.in-Some.is) (c.self.invariant.placed c.args.sub) in
    subst (AllByRecursion (λ (d : GroupData). has_member c.args.sub d.members ≡ true → c.in-Some.place.heard ≡ length (flat_map (told_of c.args.sub) d.notes))) c.self.view_is
    (own_placed (told g.H.GroupListener.tagged g.H.GroupListener.calls g.H.GroupListener.heard) c.args.sub c.self.inside.groups.items c.in-Some.place placed)

pub returns-in-None-clause-count : goal.returns-in-None-clause-count
returns-in-None-clause-count g c =
    let placed = subst (λ (o : Option Place). IsPlaceOf c.args.sub c.self.inside.groups.items o) (sym c.place_of.ensures ∙ c.in-None.is) (c.self.invariant.placed c.args.sub) in
    heard_unplaced (told g.H.GroupListener.tagged g.H.GroupListener.calls g.H.GroupListener.heard) c.args.sub c.self.inside.groups.items placed
    ∙ ap (heard_in c.args.sub) c.self.view_is

pub returns-in-None-clause-own : goal.returns-in-None-clause-own
returns-in-None-clause-own g c =
    let placed = subst (λ (o : Option Place). IsPlaceOf c.args.sub c.self.inside.groups.items o) (sym c.place_of.ensures ∙ c.in-None.is) (c.self.invariant.placed c.args.sub) in
    subst (AllByRecursion (λ (d : GroupData). has_member c.args.sub d.members ≡ true → 0 ≡ length (flat_map (told_of c.args.sub) d.notes))) c.self.view_is
    (own_unplaced (told g.H.GroupListener.tagged g.H.GroupListener.calls g.H.GroupListener.heard) c.args.sub 0 c.self.inside.groups.items placed)
