use Rattle.std.proofs.Common.{◌≡◌, ◌<◌, ℕ, List, ◌++◌, ◌∷◌, [], set, get_or, take, length, ap, sym, ◌∙◌, arith}
use Rattle.std.proofs.lemmas.List.{get_or_default}
use Rattle.mama_event.specs.Ports.{queues_of}
use Rattle.mama_event.specs.declared.watch.WatchRow.{WatchRow}
use Rattle.mama_rules_rounds.specs.Setting.{Watched}
use Rattle.mama_rules_rounds.specs.Sections.{watches_from}
use Rattle.mama_rules_rounds.specs.Client.{Planned}
use Rattle.mama_plans.specs.Lists.{watch_row, watches_on_each}
use Rattle.mama_plans.proofs.EachLemmas.{watched, watches_more, each_added}
use Rattle.mama_plans.proofs.lists.watches_by_queue.Goals as goal

pub loop-number-preserved : goal.loop-number-preserved
loop-number-preserved c =
    let k : ℕ = c.loop-number.number in
    let rows : List WatchRow = c.args.script.now.watches in
    let none : WatchRow = record { sub = record { client = 0; number = 0 }; timer = record { client = 0; number = 0 }; retries = 0; sender = 0 } in
    let row : WatchRow = get_or c.watches-row-items.result.now k none in
    let objects : List Planned = c.args.plans.now in
    let queues : ℕ = queues_of c.args.script.now.shape in
    let place : ℕ = c.queue-queue.result in
    let are : c.watches-row-items.result.now ≡ rows = c.watches-row-items.ensures in
    let within : k < length rows = omega (arith, c.loop-number-test.true, ap length are) in
    let is : row ≡ get_or rows k row = ap (λ (rs : List WatchRow). get_or rs k none) are ∙ get_or_default rows k none row within in
    let before : List Watched = watches_from objects 0 (take k rows) in
    c.in_ok-add_to.ensures
    ∙ ap (λ (ls : List (List (ℕ × WatchRow))). set ls place (get_or ls place [] ++ (k, row) ∷ [])) c.loop-number.invariant
    ∙ each_added (λ (w : Watched). w.queue) watch_row before (watched objects k row) queues place c.queue-queue.ensures
    ∙ ap (watches_on_each queues) (sym (watches_more objects rows k row within is))
