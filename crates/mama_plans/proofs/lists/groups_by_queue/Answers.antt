use Rattle.std.proofs.Common.{◌≡◌, ◌<◌, ℕ, List, ◌++◌, ◌∷◌, [], set, get_or, take, length, ap, sym, ◌∙◌, arith}
use Rattle.mama_event.specs.Ports.{queues_of}
use Rattle.mama_event.specs.declared.group.GroupRow.{GroupRow}
use Rattle.mama_event.specs.declared.ids.SubId.{SubId}
use Rattle.mama_rules_rounds.specs.Setting.{Grouped}
use Rattle.mama_rules_rounds.specs.Sections.{groups_from}
use Rattle.mama_rules_rounds.specs.Client.{Planned}
use Rattle.mama_plans.specs.Lists.{group_row, groups_on_each}
use Rattle.mama_plans.proofs.EachLemmas.{grouped, groups_more, each_added}
use Rattle.mama_plans.proofs.lists.groups_by_queue.Goals as goal

abbrev row_with : ℕ → List SubId → ℕ × GroupRow
row_with k members = (k, record { members = members })

pub loop-number-preserved : goal.loop-number-preserved
loop-number-preserved c =
    let k : ℕ = c.loop-number.number in
    let rows : List GroupRow = c.args.script.now.groups in
    let row : GroupRow = c.row-item.result in
    let objects : List Planned = c.args.plans.now in
    let queues : ℕ = queues_of c.args.script.now.shape in
    let place : ℕ = c.queue_of_members-queue.result in
    let are : c.groups-row-items.result.now ≡ rows = c.groups-row-items.ensures in
    let within : k < length rows = omega (arith, c.loop-number-test.true, ap length are) in
    let is : row ≡ get_or rows k row = c.row-item.is ∙ ap (λ (rs : List GroupRow). get_or rs k row) are in
    let before : List Grouped = groups_from objects 0 (take k rows) in
    let lists : List (List (ℕ × GroupRow)) = groups_on_each queues before in
    c.in_ok-add_to.ensures
    ∙ ap (λ (ls : List (List (ℕ × GroupRow))). set ls place (get_or ls place [] ++ row_with k c.in_ok-members.members ∷ [])) c.loop-number.invariant
    ∙ ap (λ (members : List SubId). set lists place (get_or lists place [] ++ row_with k members ∷ [])) c.in_ok-members.ensures.equal
    ∙ each_added (λ (g : Grouped). g.queue) group_row before (grouped objects k row) queues place c.queue_of_members-queue.ensures
    ∙ ap (groups_on_each queues) (sym (groups_more objects rows k row within is))
