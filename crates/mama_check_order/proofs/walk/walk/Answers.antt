use Rattle.std.proofs.Common.{◌≡◌, ◌≢◌, ℕ, ◌+◌, ◌<◌, List, [], ◌∷◌, ◌++◌, length, map, take, drop, sym, ap, subst, ◌∙◌, true≢false}
use Rattle.std.specs.Prelude.{Option, Some, slice_index_or, slice_set}
use Rattle.std.specs.Borrow.{Bor}
use Rattle.std.proofs.lemmas.List.{length-map, map-set}
use Rattle.mama_check_order.specs.declared.order.Need.{Need}
use Rattle.mama_check_order.proofs.LaneWalk.{IsWalked, walked_at, stuck_at}
use Rattle.mama_check_order.proofs.walk.walk.Goals as goal

pub returns-in-None-clause-whole : goal.returns-in-None-clause-whole
returns-in-None-clause-whole g c =
    let now = λ (list : Bor (List (ℕ × g.row.N.Denot))). list.now in
    let x = c.loop-port-item.result in (
      λ e. absurd (true≢false (sym e)),
      λ w. absurd (stuck_at c.args.actors.now (map now c.args.lists.now) c.args.journal.now c.loop-port.port-index x (map now c.loop-port.left.items) c.loop-port.needs.items c.loop-port-test.true c.loop-port-item.is c.loop-port.invariant
          (subst (λ (xs : List (Bor (List (ℕ × g.row.N.Denot)))). (k : ℕ) (tail : List (ℕ × g.row.N.Denot)) → slice_index_or (map now xs) x.0 [] ≢ (k, x.1) ∷ tail) c.deref.ensures.value c.in-None.ensures.none) w),
    )

pub loop-port-preserved : goal.loop-port-preserved
loop-port-preserved g c =
    let now = λ (list : Bor (List (ℕ × g.row.N.Denot))). list.now in
    let x = c.loop-port-item.result in
    let left = c.loop-port.left.items in
    let next : slice_index_or (map now left) x.0 [] ≡ (c.in-Some.entry, x.1) ∷ c.in-Some.rest.now = subst (λ (xs : List (Bor (List (ℕ × g.row.N.Denot)))). slice_index_or (map now xs) x.0 [] ≡ (c.in-Some.entry, x.1) ∷ c.in-Some.rest.now) c.deref.ensures.value c.in-Some.ensures.next in
    let inside : x.0 < length (map now left) = subst (λ (n : ℕ). x.0 < n) (ap (λ (xs : List (Bor (List (ℕ × g.row.N.Denot)))). length xs) c.deref.ensures.value ∙ sym (length-map left now)) c.in-Some.ensures.within in
    let step = walked_at c.args.actors.now (map now c.args.lists.now) c.args.journal.now c.loop-port.port-index x (map now left) c.loop-port.needs.items c.in-Some.entry c.in-Some.rest.now c.loop-port-test.true c.loop-port-item.is c.loop-port.invariant inside next in
    subst (λ (ls : List (List (ℕ × g.row.N.Denot))). IsWalked c.args.actors.now (map now c.args.lists.now) c.args.journal.now (take (c.loop-port.port-index + 1) c.args.journal.now) (drop (c.loop-port.port-index + 1) c.args.journal.now) ls c.push.new.self.items)
    (sym (map-set now left x.0 c.in-Some.rest))
    (subst (λ (ns : List (Option Need)). IsWalked c.args.actors.now (map now c.args.lists.now) c.args.journal.now (take (c.loop-port.port-index + 1) c.args.journal.now) (drop (c.loop-port.port-index + 1) c.args.journal.now) (slice_set (map now left) x.0 c.in-Some.rest.now) ns)
    (ap (λ (a : ℕ). c.loop-port.needs.items ++ Some (record { actor = a; entry = c.in-Some.entry }) ∷ []) (sym c.actor_of-actor.ensures) ∙ sym c.in_ok-push-in-Some.ensures.items)
    step)
