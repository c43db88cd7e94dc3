use Rattle.std.proofs.Common.{◌≡◌, ℕ, List, [], ◌∷◌, refl, ap, sym, subst, ◌∙◌}
use Rattle.std.specs.Prelude.{Option, IfSome, slice_index_or}
use Rattle.std.specs.Global.{Vec}
use Rattle.mama_journal.specs.Lane.{by_port}
use Rattle.mama_event.specs.declared.shape.Shape.{Shape}
use Rattle.mama_event.specs.declared.to_queue.QueueNote.{QueueNote}
use Rattle.mama_check_order.specs.declared.order.Need.{Need}
use Rattle.mama_check_order.specs.Taken.{needs_of}
use Rattle.mama_check_puts.specs.Puts.{bridge_put_to_queue}
use Rattle.mama_check.specs.Causal.{bridge_actor, timers_actor, actors_to_queue, all_to_queue}
use Rattle.mama_check.proofs.LineLemmas.{list_is, list_known}
use Rattle.mama_check.proofs.Lanes.{queue_lane}
use Rattle.mama_check.proofs.takes.needs_in_queue.Goals as goal

pub returns-clause-whole : goal.returns-clause-whole
returns-clause-whole c =
    let q = c.args.queue in
    let run = c.args.run.now in
    let from_bridge = c.list_at-from_bridge.result.now in
    let from_timers = c.list_at-from_timers.result.now in
    let journal : c.list_at-journal.result.now ≡ slice_index_or run.queues q [] = list_known _ run.queues q _ c.queues.ensures c.list_at-journal.ensures in
    let lane = queue_lane c.args.script.now run q from_bridge from_timers (from_bridge ∷ from_timers ∷ [])
    (list_is _ c.args.bridge.now.to_queues.items _ _ q from_bridge c.as_slice.ensures.value c.requires.bridge.queues c.requires.queue c.list_at-from_bridge.ensures)
    (c.list_at-from_timers.ensures ∙ c.requires.timers.each q c.requires.queue) refl in (
      λ yes port. ap (λ (j : List (ℕ × QueueNote)). by_port port j) (sym journal) ∙ c.in_ok-needs.ensures.whole.0 yes port ∙ lane port,
      λ keeps. c.in_ok-needs.ensures.whole.1 (λ port. ap (λ (j : List (ℕ × QueueNote)). by_port port j) journal ∙ keeps port ∙ sym (lane port)),
    )

pub returns-clause-needs : goal.returns-clause-needs
returns-clause-needs c =
    let q = c.args.queue in
    let script = c.args.script.now in
    let run = c.args.run.now in
    let from_bridge = c.list_at-from_bridge.result.now in
    let from_timers = c.list_at-from_timers.result.now in
    let journal = c.list_at-journal.result.now in
    subst (λ (needs : List (Option Need)). IfSome c.in_ok-needs.needs (λ (found : Vec (Option Need)). found.items ≡ needs))
    (ap (λ (a : ℕ). needs_of (a ∷ c.places_in-places.result.timers ∷ []) (from_bridge ∷ from_timers ∷ []) journal)
    (c.places_in-places.ensures.bridge ∙ ap (λ (s : Shape). bridge_actor s) c.shape.ensures.value)
    ∙ ap (λ (a : ℕ). needs_of (bridge_actor script.shape ∷ a ∷ []) (from_bridge ∷ from_timers ∷ []) journal)
    (c.places_in-places.ensures.timers ∙ ap (λ (s : Shape). timers_actor s) c.shape.ensures.value)
    ∙ ap (λ (l : List (ℕ × QueueNote)). needs_of (actors_to_queue script.shape) (l ∷ from_timers ∷ []) journal)
    (list_is _ c.args.bridge.now.to_queues.items _ _ q from_bridge c.as_slice.ensures.value c.requires.bridge.queues c.requires.queue c.list_at-from_bridge.ensures)
    ∙ ap (λ (l : List (ℕ × QueueNote)). needs_of (actors_to_queue script.shape) (bridge_put_to_queue script.shape run.bridge q ∷ l ∷ []) journal)
    (c.list_at-from_timers.ensures ∙ c.requires.timers.each q c.requires.queue)
    ∙ ap (λ (j : List (ℕ × QueueNote)). needs_of (actors_to_queue script.shape) (all_to_queue script run q) j)
    (list_known _ run.queues q _ c.queues.ensures c.list_at-journal.ensures))
    c.in_ok-needs.ensures.needs
