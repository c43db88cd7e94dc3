use Rattle.std.specs.Prelude.{map}
use Rattle.std.proofs.Common.{◌≡◌, ℕ, ◌<◌, List, [], ◌∷◌, ◌++◌, length, take, refl, ap, sym, ◌∙◌, arith}
use Rattle.std.proofs.lemmas.List.{take_more, take_all}
use Rattle.mama_event.specs.declared.order.Order.{Order}
use Rattle.mama_dispatch.specs.Seats.{listener_in, at, called_with, muted_by, muted_by_all}
use Rattle.mama_event.specs.Listener.{ListenerData}
use Rattle.std.specs.Prelude.{Option}
use Rattle.mama_dispatch.proofs.PlaceLemmas.{muted_none, muted_more, listener_muted, heard_same}
use Rattle.mama_dispatch.proofs.seats.Seats.call.Goals as goal

pub loop-order-init : goal.loop-order-init
loop-order-init g c = muted_none c.make-orders.new.self

pub loop-order-preserved : goal.loop-order-preserved
loop-order-preserved g c =
    let os = c.as_slice-order-items.result.now in
    let i : ℕ = c.loop-order.order-index in
    let order = c.order-item.result in
    let within : i < length os = omega arith in
    c.mute.ensures
    ∙ ap (map (muted_by order)) c.loop-order.invariant
    ∙ muted_more (take i os) order c.make-orders.new.self
    ∙ ap (λ (xs : List Order). map (muted_by_all xs) c.make-orders.new.self) (ap (λ (x : Order). take i os ++ x ∷ []) c.order-item.is ∙ sym (take_more os i order within))

pub returns-clause-heard : goal.returns-clause-heard
returns-clause-heard g c =
    heard_same c.args.call _ _ _ _ c.make-orders.result refl
    (sym (ap (listener_in c.args.object.now) c.loop-order.invariant ∙ listener_muted c.args.object.now _ c.make-orders.new.self))
    c.make-orders.ensures.heard

pub returns-clause-seats : goal.returns-clause-seats
returns-clause-seats g c =
    let os = c.as_slice-order-items.result.now in
    let same : listener_in c.args.object.now c.make-orders.new.self ≡ listener_in c.args.object.now c.loop-order.self =
    sym (ap (listener_in c.args.object.now) c.loop-order.invariant ∙ listener_muted c.args.object.now _ c.make-orders.new.self) in
    c.loop-order.invariant
    ∙ ap (λ (xs : List Order). map (muted_by_all xs) c.make-orders.new.self) (take_all c.loop-order.order-index os c.loop-order-test.false ∙ c.as_slice-order-items.ensures)
    ∙ ap (map (muted_by_all c.make-orders.result)) (c.make-orders.ensures.seats ∙ ap (λ (l : Option ListenerData). map (at c.args.object.now (called_with c.args.call c.make-orders.result l)) c.args.self.now) same)
