use Rattle.std.proofs.Common.{◌≡◌, ℕ, ◌<◌, [], ◌∷◌, ◌++◌, length, take, ap, sym, ◌∙◌, arith}
use Rattle.mama_event.specs.Plan.{planned}
use Rattle.mama_listener.specs.Plan.{call_of}
use Rattle.mama_listener.proofs.Plans.{on_ok, planned_taken, planned_left, room_for_planned}
use Rattle.mama_listener.proofs.planned.give_by_look.Goals as goal
use Rattle.mama_listener.proofs.planned.give_by_look.Goals.{then-row-call, else-row-call}

pub loop-row-preserved : goal.loop-row-preserved
loop-row-preserved c =
    let rows = c.args.rows.now in
    let i : ℕ = c.loop-row.row-index in
    let row = c.row-item.result in
    let within : i < length rows = omega arith in
    elim c.if-row-call.branch [
      | then-row-call w ↦
          let same : row.call ≡ c.args.call = w.if-row-call.true in
          let here = ap call_of (sym c.row-item.is) ∙ same in
          let room : length c.loop-row.orders < 8 = omega (arith, ap length c.loop-row.invariant, room_for_planned rows i row c.args.call c.requires.few within here) in
          w.orders-is ∙ on_ok w.push.result (w.push.ensures.room.1 room) w.push.ensures.ok
          ∙ ap (λ os. os ++ row.order ∷ []) c.loop-row.invariant
          ∙ ap (λ r. planned (take i rows) c.args.call ++ r.order ∷ []) c.row-item.is
          ∙ sym (planned_taken rows i row c.args.call within here)
      | else-row-call w ↦
          w.orders-is ∙ c.loop-row.invariant
          ∙ sym (planned_left rows i row c.args.call within (λ same. w.if-row-call.false (ap call_of c.row-item.is ∙ same)))
    ]
