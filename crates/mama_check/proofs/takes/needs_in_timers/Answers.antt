use Rattle.std.proofs.Common.{◌≡◌, ℕ, List, [], ◌∷◌, ◌++◌, map, ap, sym, subst, ◌∙◌}
use Rattle.std.specs.Prelude.{Option, IfSome}
use Rattle.std.specs.Borrow.{Bor}
use Rattle.std.specs.Global.{Vec}
use Rattle.mama_journal.specs.Lane.{by_port}
use Rattle.mama_event.specs.declared.shape.Shape.{Shape}
use Rattle.mama_event.specs.declared.to_timers.TimersNote.{TimersNote}
use Rattle.mama_check_order.specs.declared.order.Need.{Need}
use Rattle.mama_check_order.specs.Taken.{needs_of}
use Rattle.mama_check_queue.specs.Served.{timers_puts}
use Rattle.mama_check.specs.Puts.{to_timers_in}
use Rattle.mama_check.specs.Causal.{actors_to_timers, all_to_timers}
use Rattle.mama_check.proofs.Lanes.{timers_lane}
use Rattle.mama_check.proofs.Causes.{are_all_to_timers}
use Rattle.mama_check.proofs.takes.needs_in_timers.Goals as goal

pub returns-clause-whole : goal.returns-clause-whole
returns-clause-whole c =
    let now = λ (list : Bor (List (ℕ × TimersNote))). list.now in
    let lists : List (List (ℕ × TimersNote)) = map now c.deref-2.result.now in
    let ticking : List (ℕ × TimersNote) = c.as_slice.result.now in
    let is : lists ≡ (to_timers_in c.args.clients.now ++ map timers_puts c.args.queues.now) ++ ticking ∷ [] =
    ap (λ (ls : List (Bor (List (ℕ × TimersNote)))). map now ls) c.deref-2.ensures.value ∙ c.in_ok-lists.ensures in
    let lane = timers_lane c.args.script.now c.args.run.now c.args.clients.now c.args.queues.now ticking lists
    c.requires.shaped c.requires.journals c.requires.clients c.requires.queues (c.as_slice.ensures.value ∙ c.requires.bridge.timers) is in (
      λ yes port. ap (λ (j : List (ℕ × TimersNote)). by_port port j) (sym c.timers.ensures) ∙ c.in_ok-needs.ensures.whole.0 yes port ∙ lane port,
      λ keeps. c.in_ok-needs.ensures.whole.1 (λ port. ap (λ (j : List (ℕ × TimersNote)). by_port port j) c.timers.ensures ∙ keeps port ∙ sym (lane port)),
    )

pub returns-clause-needs : goal.returns-clause-needs
returns-clause-needs c =
    let script = c.args.script.now in
    let run = c.args.run.now in
    let now = λ (list : Bor (List (ℕ × TimersNote))). list.now in
    let lists : List (List (ℕ × TimersNote)) = map now c.deref-2.result.now in
    let ticking : List (ℕ × TimersNote) = c.as_slice.result.now in
    let is : lists ≡ (to_timers_in c.args.clients.now ++ map timers_puts c.args.queues.now) ++ ticking ∷ [] =
    ap (λ (ls : List (Bor (List (ℕ × TimersNote)))). map now ls) c.deref-2.ensures.value ∙ c.in_ok-lists.ensures in
    let all : lists ≡ all_to_timers script run = are_all_to_timers script run c.args.clients.now c.args.queues.now ticking lists
    c.requires.shaped c.requires.journals c.requires.clients c.requires.queues (c.as_slice.ensures.value ∙ c.requires.bridge.timers) is in
    let actors : c.deref.result.now ≡ actors_to_timers script.shape =
    c.deref.ensures.value ∙ c.in_ok-actors.ensures ∙ ap (λ (s : Shape). actors_to_timers s) c.shape.ensures.value in
    subst (λ (needs : List (Option Need)). IfSome c.in_ok-needs.needs (λ (found : Vec (Option Need)). found.items ≡ needs))
    (ap (λ (a : List ℕ). needs_of a lists c.timers.result.now) actors
    ∙ ap (λ (ls : List (List (ℕ × TimersNote))). needs_of (actors_to_timers script.shape) ls c.timers.result.now) all
    ∙ ap (λ (j : List (ℕ × TimersNote)). needs_of (actors_to_timers script.shape) (all_to_timers script run) j) c.timers.ensures)
    c.in_ok-needs.ensures.needs
