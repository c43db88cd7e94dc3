use Rattle.std.proofs.Common.{◌≡◌, ℕ, ◌+◌, ◌++◌, ◌∷◌, true, cond, List, [], length, map, Some, rules, sym, ap, subst, ◌∙◌, length-append, arith}
use Rattle.indexmap.specs.IndexMap.{get}
use Rattle.mama_event.specs.declared.ids.SubId.{SubId}
use Rattle.mama_event.specs.declared.group.GroupRow.{GroupRow}
use Rattle.mama_event.specs.Object.{same_sub}
use Rattle.mama_group.specs.declared.member.Member.TheVariants as kept
use Rattle.mama_group.specs.Listener.{told}
use Rattle.mama_group.specs.Table.{GroupData, has_member, are_distinct, all_members, new_groups}
use Rattle.mama_group.specs.Kept.{group_of}
use Rattle.mama_group.proofs.Adding.{IsBegun, members_in, begun_more, distinct_next, put_next}
use Rattle.mama_group.proofs.table.GroupTable.new.Goals as goal

pub loop-group-preserved : goal.loop-group-preserved
loop-group-preserved g c =
    let inv = c.loop-group.invariant in
    let view = told g.H.GroupListener.tagged g.H.GroupListener.calls g.H.GroupListener.heard in
    let done = c.loop-group.kept.items in
    let row : ℕ × GroupRow = c.in-Some.group in
    let rows : List (ℕ × GroupRow) = c.next.new.self.rest.items in
    let listener = c.in-Some-next.listener in
    let left = c.next-in-loop-group.new.self.rest.items in
    let new = c.new.result in
    let first : c.loop-group.group-iterator.rest.items ≡ row ∷ rows = search rules in
    let second : c.loop-group.left.rest.items ≡ listener ∷ left = search rules in
    let behind : List SubId = all_members rows in
    let members : new.members ≡ row.1.members = ap (λ (d : GroupData). d.members) c.new.ensures.group in
    let fresh : new.notes.items ≡ [] = ap (λ (d : GroupData). d.notes) c.new.ensures.group in
    let counts : new.counts ≡ record { members = length new.members; waiting = length new.members; stale = 0; ended = 0 } =
    c.new.ensures.counts ∙ ap (λ (ms : List SubId). record { members = length ms; waiting = length ms; stale = 0; ended = 0 }) (sym members) in
    let at : c.len-in-loop-group.result ≡ length done = omega (arith, c.len-in-loop-group.ensures, c.loop-group.kept.ok.0) in
    let written : (s : SubId) → get same_sub c.add_places.new.places s ≡ cond (has_member s new.members) (Some record { group = length done; member = kept.Waiting; heard = 0 }) (get same_sub c.loop-group.places s) =
    (λ s. c.in_ok-add_places.ensures s
    ∙ ap (λ (ms : List SubId). cond (has_member s ms) (Some record { group = c.len-in-loop-group.result; member = kept.Waiting; heard = 0 }) (get same_sub c.loop-group.places s)) (c.as_slice.ensures ∙ sym members)
    ∙ ap (λ (n : ℕ). cond (has_member s new.members) (Some record { group = n; member = kept.Waiting; heard = 0 }) (get same_sub c.loop-group.places s)) at) in
    let distinct : are_distinct (members_in done) (new.members ++ behind) ≡ true =
    ap (λ (ms : List SubId). are_distinct (members_in done) (ms ++ behind)) members ∙ ap (λ (gs : List (ℕ × GroupRow)). are_distinct (members_in done) (all_members gs)) (sym first) ∙ inv.distinct in
    let pushed : c.push.new.self.items ≡ done ++ new ∷ [] = c.in_ok-push.ensures.items in
    let one = ap length first in
    let two = ap length second in
    let three = ap length pushed ∙ length-append done (new ∷ []) in
    record {
      begun = subst (λ gs. IsBegun gs c.add_places.new.places) (sym pushed) (begun_more done new c.loop-group.places c.add_places.new.places behind fresh counts written distinct inv.begun);
      distinct = ap (λ gs. are_distinct (members_in gs) behind) pushed ∙ distinct_next done new c.loop-group.places c.add_places.new.places behind distinct;
      paired = omega (arith, one, two, inv.paired);
      whole =
          ap (λ gs. map (group_of view) gs ++ new_groups rows (map view left)) pushed
          ∙ put_next view done new row rows (view listener) (map view left) (new_groups c.args.groups.items (map view c.args.listeners.items)) c.new.ensures.group
          (ap (λ (gs : List (ℕ × GroupRow)). map (group_of view) done ++ new_groups gs (map view (listener ∷ left))) (sym first)
          ∙ ap (λ ls. map (group_of view) done ++ new_groups c.loop-group.group-iterator.rest.items (map view ls)) (sym second)
          ∙ inv.whole);
      long = omega (arith, one, three, inv.long);
    }
