use Rattle.std.proofs.Common.{Some, List, cond, refl, ap, ◌∙◌}
use Rattle.std.proofs.lemmas.List.{take_all}
use Rattle.indexmap.specs.IndexMap.{get}
use Rattle.mama_event.specs.declared.ids.SubId.{SubId}
use Rattle.mama_event.specs.Object.{same_sub}
use Rattle.mama_group.specs.declared.member.Member.TheVariants as kept
use Rattle.mama_group.specs.declared.table.Place.{Place}
use Rattle.mama_group.specs.Table.{has_member}
use Rattle.mama_group.proofs.Placing.{places_more}
use Rattle.mama_group.proofs.table.add_places.Goals as goal

pub loop-sub-init : goal.loop-sub-init
loop-sub-init c = λ s. refl

pub loop-sub-preserved : goal.loop-sub-preserved
loop-sub-preserved c = λ s.
    let place : Place = record { group = c.args.group; member = kept.Waiting; heard = 0 } in
    places_more c.args.members.now c.loop-sub.sub-index _ s (Some place) (get same_sub c.args.places.now s) (get same_sub c.loop-sub.places s) (get same_sub c.insert.new.self s)
    c.loop-sub-test.true (c.in_ok-insert.ensures.updates.0 s) (c.loop-sub.invariant s)

pub returns : goal.returns
returns c = λ s.
    let place : Place = record { group = c.args.group; member = kept.Waiting; heard = 0 } in
    c.loop-sub.invariant s
    ∙ ap (λ (ms : List SubId). cond (has_member s ms) (Some place) (get same_sub c.args.places.now s)) (take_all c.loop-sub.sub-index c.args.members.now c.loop-sub-test.false)
