use Rattle.std.proofs.Common.{◌≡◌, ℕ, List, ◌++◌, map, ap, sym, subst, ◌∙◌}
use Rattle.std.specs.Prelude.{Option, IfSome}
use Rattle.std.specs.Borrow.{Bor}
use Rattle.std.specs.Global.{Vec}
use Rattle.mama_journal.specs.Lane.{by_port}
use Rattle.mama_event.specs.declared.shape.Shape.{Shape}
use Rattle.mama_event.specs.declared.to_bridge.BridgeNote.{BridgeNote}
use Rattle.mama_check_order.specs.declared.order.Need.{Need}
use Rattle.mama_check_order.specs.Taken.{needs_of}
use Rattle.mama_check_queue.specs.Served.{bridge_puts}
use Rattle.mama_check.specs.Puts.{to_bridge_in}
use Rattle.mama_check.specs.Causal.{actors_to_bridge, all_to_bridge}
use Rattle.mama_check.proofs.Lanes.{bridge_lane}
use Rattle.mama_check.proofs.Causes.{are_all_to_bridge}
use Rattle.mama_check.proofs.takes.needs_in_bridge.Goals as goal

pub returns-clause-whole : goal.returns-clause-whole
returns-clause-whole c =
    let now = λ (list : Bor (List (ℕ × BridgeNote))). list.now in
    let lists : List (List (ℕ × BridgeNote)) = map now c.deref-2.result.now in
    let publishers : List (List (ℕ × BridgeNote)) = map (λ (list : Vec (ℕ × BridgeNote)). list.items) c.args.publishers.now in
    let is : lists ≡ (to_bridge_in c.args.clients.now ++ publishers) ++ map bridge_puts c.args.queues.now =
    ap (λ (ls : List (Bor (List (ℕ × BridgeNote)))). map now ls) c.deref-2.ensures.value ∙ c.in_ok-lists.ensures in
    let lane = bridge_lane c.args.script.now c.args.run.now c.args.clients.now publishers c.args.queues.now lists
    c.requires.shaped c.requires.journals c.requires.clients c.requires.publishers c.requires.queues is in (
      λ yes port. ap (λ (j : List (ℕ × BridgeNote)). by_port port j) (sym c.bridge.ensures) ∙ c.in_ok-needs.ensures.whole.0 yes port ∙ lane port,
      λ keeps. c.in_ok-needs.ensures.whole.1 (λ port. ap (λ (j : List (ℕ × BridgeNote)). by_port port j) c.bridge.ensures ∙ keeps port ∙ sym (lane port)),
    )

pub returns-clause-needs : goal.returns-clause-needs
returns-clause-needs c =
    let script = c.args.script.now in
    let run = c.args.run.now in
    let now = λ (list : Bor (List (ℕ × BridgeNote))). list.now in
    let lists : List (List (ℕ × BridgeNote)) = map now c.deref-2.result.now in
    let publishers : List (List (ℕ × BridgeNote)) = map (λ (list : Vec (ℕ × BridgeNote)). list.items) c.args.publishers.now in
    let is : lists ≡ (to_bridge_in c.args.clients.now ++ publishers) ++ map bridge_puts c.args.queues.now =
    ap (λ (ls : List (Bor (List (ℕ × BridgeNote)))). map now ls) c.deref-2.ensures.value ∙ c.in_ok-lists.ensures in
    let all : lists ≡ all_to_bridge script run = are_all_to_bridge script run c.args.clients.now publishers c.args.queues.now lists
    c.requires.shaped c.requires.journals c.requires.clients c.requires.publishers c.requires.queues is in
    let actors : c.deref.result.now ≡ actors_to_bridge script.shape =
    c.deref.ensures.value ∙ c.in_ok-actors.ensures ∙ ap (λ (s : Shape). actors_to_bridge s) c.shape.ensures.value in
    subst (λ (needs : List (Option Need)). IfSome c.in_ok-needs.needs (λ (found : Vec (Option Need)). found.items ≡ needs))
    (ap (λ (a : List ℕ). needs_of a lists c.bridge.result.now) actors
    ∙ ap (λ (ls : List (List (ℕ × BridgeNote))). needs_of (actors_to_bridge script.shape) ls c.bridge.result.now) all
    ∙ ap (λ (j : List (ℕ × BridgeNote)). needs_of (actors_to_bridge script.shape) (all_to_bridge script run) j) c.bridge.ensures)
    c.in_ok-needs.ensures.needs
