use Rattle.std.proofs.Common.{◌≡◌, ◌<◌, List, length, map, get_or, sym, ap, subst, ◌∙◌, arith, below_more, true≢false}
use Rattle.std.specs.Prelude.{slice_get, Some}
use Rattle.std.proofs.lemmas.List.{get_or_default}
use Rattle.mama_event.specs.declared.ids.ObjectId.TheVariants.{Timer}
use Rattle.mama_event.specs.declared.watch.WatchRow.{WatchRow}
use Rattle.mama_record.specs.RunData.{WatchNotes}
use Rattle.mama_record.specs.RunView as view
use Rattle.mama_rules_rounds.specs.Client.{Planned}
use Rattle.mama_rules_rounds.specs.Sections.{queue_of}
use Rattle.mama_check_queue.specs.Served.{watch_given, watches_noted}
use Rattle.mama_check.proofs.ListLemmas.{watches_left, watch_noted, watch_left, watch_kept, watch_back, lists_many, lists_told, many_more, stands_at, recorded_many}
use Rattle.mama_check.proofs.lists.first_of_watches.Goals as goal

pub loop-k-init : goal.loop-k-init
loop-k-init c =
    let script = c.args.script.now in
    let run = c.args.run.now in
    let lists = c.in_ok-lists.lists.items in
    record {
      kept = λ j low. absurd (omega (arith, low));
      left = watches_left script run c.args.served.now c.requires.served watch_given (map (λ list. list.now) lists) (lists_told (λ list. list.now) watch_given watches_noted c.args.served.now lists c.in_ok-lists.ensures);
      many = lists_many (λ list. list.now) watch_given watches_noted script run c.args.served.now lists c.requires.served c.in_ok-lists.ensures;
    }

pub bounds-recorded-k : goal.bounds-recorded-k
bounds-recorded-k c =
    let script = c.args.script.now in
    let run = c.args.run.now in
    omega (
      arith,
      c.loop-k-test.true,
      ap length c.watches-watches.ensures,
      recorded_many view.watch_in (λ (g : WatchNotes). g.watch) run.watches c.watches-recorded.result.now (length script.watches) c.watches-recorded.ensures c.requires.formed.counted.watches,
    )

pub loop-k-preserved : goal.loop-k-preserved
loop-k-preserved c =
    let script = c.args.script.now in
    let run = c.args.run.now in
    let k = c.loop-k.k in
    let none : WatchRow = record { sub = record { client = 0; number = 0 }; timer = record { client = 0; number = 0 }; retries = 0; sender = 0 } in
    let row : WatchRow = get_or c.watches-watches.result.now k none in
    let entry = c.index-recorded-k.result in
    let lists = map (λ list. list.now) c.loop-k.lists.items in
    let after = map (λ list. list.now) c.next_noted-noted.new.lists.items in
    let within : k < length script.watches = subst (λ (rows : List WatchRow). k < length rows) c.watches-watches.ensures c.loop-k-test.true in
    let here : row ≡ get_or script.watches k row = ap (λ (rows : List WatchRow). get_or rows k none) c.watches-watches.ensures ∙ get_or_default script.watches k none row within in
    let in_recorded : k < length c.watches-recorded.result.now =
    omega (arith, within, recorded_many view.watch_in (λ (g : WatchNotes). g.watch) run.watches c.watches-recorded.result.now (length script.watches) c.watches-recorded.ensures c.requires.formed.counted.watches) in
    let there : slice_get run.watches k ≡ Some (view.watch_in entry) = stands_at view.watch_in run.watches c.watches-recorded.result.now k entry c.watches-recorded.ensures in_recorded c.index-recorded-k.is in
    let queue = c.queue_of_watch.ensures ∙ ap (λ (ps : List Planned). queue_of ps (Timer row.timer)) c.requires.plans in
    let told = watch_noted script run k watch_given lists after c.loop-k.invariant.many row within here c.loop-k.invariant.left c.queue_of_watch.result c.next_noted-noted.result.now queue c.next_noted-noted.ensures.next in
    record {
      kept = below_more _ _ c.loop-k.invariant.kept
          (watch_kept script run k row within here c.requires.formed.counted.watches (view.watch_in entry) there
          (sym c.deref.ensures.value ∙ c.are_same_watch_notes.ensures.0 c.if-not-are_same_watch_notes.false ∙ told));
      left = watch_left script run k watch_given lists after c.loop-k.invariant.many row within here c.loop-k.invariant.left c.queue_of_watch.result queue c.next_noted-noted.ensures.rest;
      many = many_more c.queue_of_watch.result (length run.queues) lists after c.loop-k.invariant.many c.next_noted-noted.ensures.rest;
    }

pub returns-then-not-are_same_watch_notes : goal.returns-then-not-are_same_watch_notes
returns-then-not-are_same_watch_notes c =
    let script = c.args.script.now in
    let run = c.args.run.now in
    let k = c.loop-k.k in
    let none : WatchRow = record { sub = record { client = 0; number = 0 }; timer = record { client = 0; number = 0 }; retries = 0; sender = 0 } in
    let row : WatchRow = get_or c.watches-watches.result.now k none in
    let entry = c.index-recorded-k.result in
    let lists = map (λ list. list.now) c.loop-k.lists.items in
    let after = map (λ list. list.now) c.next_noted-noted.new.lists.items in
    let within : k < length script.watches = subst (λ (rows : List WatchRow). k < length rows) c.watches-watches.ensures c.loop-k-test.true in
    let here : row ≡ get_or script.watches k row = ap (λ (rows : List WatchRow). get_or rows k none) c.watches-watches.ensures ∙ get_or_default script.watches k none row within in
    let in_recorded : k < length c.watches-recorded.result.now =
    omega (arith, within, recorded_many view.watch_in (λ (g : WatchNotes). g.watch) run.watches c.watches-recorded.result.now (length script.watches) c.watches-recorded.ensures c.requires.formed.counted.watches) in
    let there : slice_get run.watches k ≡ Some (view.watch_in entry) = stands_at view.watch_in run.watches c.watches-recorded.result.now k entry c.watches-recorded.ensures in_recorded c.index-recorded-k.is in
    let queue = c.queue_of_watch.ensures ∙ ap (λ (ps : List Planned). queue_of ps (Timer row.timer)) c.requires.plans in
    let told = watch_noted script run k watch_given lists after c.loop-k.invariant.many row within here c.loop-k.invariant.left c.queue_of_watch.result c.next_noted-noted.result.now queue c.next_noted-noted.ensures.next in (
      within,
      (λ keeps. true≢false (sym (c.are_same_watch_notes.ensures.1
          (c.deref.ensures.value ∙ watch_back script run k row within here c.requires.formed.counted.watches (view.watch_in entry) there keeps ∙ sym told))
          ∙ c.if-not-are_same_watch_notes.true)),
      c.loop-k.invariant.kept,
    )

pub returns : goal.returns
returns c =
    λ j low. c.loop-k.invariant.kept j (omega (arith, low, c.loop-k-test.false, ap length c.watches-watches.ensures))
