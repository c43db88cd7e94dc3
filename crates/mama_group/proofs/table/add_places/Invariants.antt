use Rattle.std.proofs.Common.{◌≡◌, cond, Some, take}
use Rattle.indexmap.specs.IndexMap.{get}
use Rattle.mama_event.specs.declared.ids.SubId.{SubId}
use Rattle.mama_event.specs.Object.{same_sub}
use Rattle.mama_group.specs.declared.member.Member.TheVariants as kept
use Rattle.mama_group.specs.Table.{has_member}
use Rattle.mama_group.proofs.table.add_places.Given as goal

abbrev pub invariant-loop-sub : goal.invariant-loop-sub
invariant-loop-sub l =
    (s : SubId) → get same_sub l.places s ≡ cond (has_member s (take l.sub-index l.members)) (Some record { group = l.group; member = kept.Waiting; heard = 0 }) (get same_sub l.initial.places s)
