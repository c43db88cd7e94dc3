use Rattle.std.proofs.Common.{◌≡◌, ◌<◌, List, length, map, get_or, sym, ap, subst, ◌∙◌, arith, below_more, true≢false}
use Rattle.std.specs.Prelude.{slice_get, Some}
use Rattle.mama_event.specs.declared.group.GroupRow.{GroupRow}
use Rattle.mama_record.specs.RunData.{GroupNotes}
use Rattle.mama_record.specs.RunView as view
use Rattle.mama_rules_rounds.specs.Client.{Planned}
use Rattle.mama_rules_rounds.specs.Sections.{queue_of_members}
use Rattle.mama_check_queue.specs.Served.{group_given, groups_heard}
use Rattle.mama_check.proofs.ListLemmas.{groups_left, group_heard, group_left, group_kept, group_back, lists_many, lists_told, many_more, stands_at, recorded_many}
use Rattle.mama_check.proofs.lists.first_of_groups.Goals as goal

pub loop-k-init : goal.loop-k-init
loop-k-init c =
    let script = c.args.script.now in
    let run = c.args.run.now in
    let lists = c.in_ok-lists.lists.items in
    record {
      kept = λ j low. absurd (omega (arith, low));
      left = groups_left script run c.args.served.now c.requires.served group_given (map (λ list. list.now) lists) (lists_told (λ list. list.now) group_given groups_heard c.args.served.now lists c.in_ok-lists.ensures);
      many = lists_many (λ list. list.now) group_given groups_heard script run c.args.served.now lists c.requires.served c.in_ok-lists.ensures;
    }

pub bounds-recorded-k : goal.bounds-recorded-k
bounds-recorded-k c =
    let script = c.args.script.now in
    let run = c.args.run.now in
    omega (
      arith,
      c.loop-k-test.true,
      ap length c.groups-groups.ensures,
      recorded_many view.group_in (λ (g : GroupNotes). g.group) run.groups c.groups-recorded.result.now (length script.groups) c.groups-recorded.ensures c.requires.formed.counted.groups,
    )

pub loop-k-preserved : goal.loop-k-preserved
loop-k-preserved c =
    let script = c.args.script.now in
    let run = c.args.run.now in
    let k = c.loop-k.k in
    let row = c.index-groups-k.result in
    let entry = c.index-recorded-k.result in
    let lists = map (λ list. list.now) c.loop-k.lists.items in
    let after = map (λ list. list.now) c.next_heard-heard.new.lists.items in
    let within : k < length script.groups = subst (λ (rows : List GroupRow). k < length rows) c.groups-groups.ensures c.loop-k-test.true in
    let here : row ≡ get_or script.groups k row = c.index-groups-k.is ∙ ap (λ (rows : List GroupRow). get_or rows k row) c.groups-groups.ensures in
    let in_recorded : k < length c.groups-recorded.result.now =
    omega (arith, within, recorded_many view.group_in (λ (g : GroupNotes). g.group) run.groups c.groups-recorded.result.now (length script.groups) c.groups-recorded.ensures c.requires.formed.counted.groups) in
    let there : slice_get run.groups k ≡ Some (view.group_in entry) = stands_at view.group_in run.groups c.groups-recorded.result.now k entry c.groups-recorded.ensures in_recorded c.index-recorded-k.is in
    let queue = c.queue_of_members.ensures ∙ ap (λ (ps : List Planned). queue_of_members ps row.members) c.requires.plans in
    let told = group_heard script run k group_given lists after c.loop-k.invariant.many row within here c.loop-k.invariant.left c.queue_of_members.result c.next_heard-heard.result.now queue c.next_heard-heard.ensures.next in
    record {
      kept = below_more _ _ c.loop-k.invariant.kept
          (group_kept script run k row within here c.requires.formed.counted.groups (view.group_in entry) there
          (sym c.deref.ensures.value ∙ c.are_same_group_notes.ensures.0 c.if-not-are_same_group_notes.false ∙ told));
      left = group_left script run k group_given lists after c.loop-k.invariant.many row within here c.loop-k.invariant.left c.queue_of_members.result queue c.next_heard-heard.ensures.rest;
      many = many_more c.queue_of_members.result (length run.queues) lists after c.loop-k.invariant.many c.next_heard-heard.ensures.rest;
    }

pub returns-then-not-are_same_group_notes : goal.returns-then-not-are_same_group_notes
returns-then-not-are_same_group_notes c =
    let script = c.args.script.now in
    let run = c.args.run.now in
    let k = c.loop-k.k in
    let row = c.index-groups-k.result in
    let entry = c.index-recorded-k.result in
    let lists = map (λ list. list.now) c.loop-k.lists.items in
    let after = map (λ list. list.now) c.next_heard-heard.new.lists.items in
    let within : k < length script.groups = subst (λ (rows : List GroupRow). k < length rows) c.groups-groups.ensures c.loop-k-test.true in
    let here : row ≡ get_or script.groups k row = c.index-groups-k.is ∙ ap (λ (rows : List GroupRow). get_or rows k row) c.groups-groups.ensures in
    let in_recorded : k < length c.groups-recorded.result.now =
    omega (arith, within, recorded_many view.group_in (λ (g : GroupNotes). g.group) run.groups c.groups-recorded.result.now (length script.groups) c.groups-recorded.ensures c.requires.formed.counted.groups) in
    let there : slice_get run.groups k ≡ Some (view.group_in entry) = stands_at view.group_in run.groups c.groups-recorded.result.now k entry c.groups-recorded.ensures in_recorded c.index-recorded-k.is in
    let queue = c.queue_of_members.ensures ∙ ap (λ (ps : List Planned). queue_of_members ps row.members) c.requires.plans in
    let told = group_heard script run k group_given lists after c.loop-k.invariant.many row within here c.loop-k.invariant.left c.queue_of_members.result c.next_heard-heard.result.now queue c.next_heard-heard.ensures.next in (
      within,
      (λ keeps. true≢false (sym (c.are_same_group_notes.ensures.1
          (c.deref.ensures.value ∙ group_back script run k row within here c.requires.formed.counted.groups (view.group_in entry) there keeps ∙ sym told))
          ∙ c.if-not-are_same_group_notes.true)),
      c.loop-k.invariant.kept,
    )

pub returns : goal.returns
returns c =
    λ j low. c.loop-k.invariant.kept j (omega (arith, low, c.loop-k-test.false, ap length c.groups-groups.ensures))
