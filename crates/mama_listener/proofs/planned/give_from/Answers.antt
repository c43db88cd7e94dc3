use Rattle.std.proofs.Common.{◌≡◌, ℕ, ◌+◌, ◌<◌, [], ◌∷◌, ◌++◌, length, take, ap, sym, ◌∙◌, arith}
use Rattle.mama_event.specs.Plan.{planned}
use Rattle.mama_listener.specs.Plan.{call_of}
use Rattle.mama_listener.proofs.Plans.{on_ok, planned_taken, planned_left, planned_passed, planned_before, room_for_planned, passed_more, passed_later}
use Rattle.mama_listener.proofs.planned.give_from.Goals as goal
use Rattle.mama_listener.proofs.planned.give_from.Goals.{then-row-call-2, else-row-call-2}

pub loop-i-init : goal.loop-i-init
loop-i-init c = record {
  within = c.requires.from;
  given = c.requires.empty ∙ sym (planned_passed c.args.rows.now c.args.from c.args.call c.requires.passed);
  passed = passed_later c.args.rows.now c.args.from c.args.call (c.args.call + 1) c.requires.passed (omega arith);
}

pub returns-then-row-call-clause-given : goal.returns-then-row-call-clause-given
returns-then-row-call-clause-given c =
    let rows = c.args.rows.now in
    let row = c.index-rows-i.result in
    c.loop-i.invariant.given
    ∙ planned_before rows c.loop-i.i row c.args.call c.requires.ascend c.loop-i-test.true (omega (arith, ap call_of c.index-rows-i.is))

pub loop-i-preserved : goal.loop-i-preserved
loop-i-preserved c =
    let rows = c.args.rows.now in
    let i : ℕ = c.loop-i.i in
    let row = c.index-rows-i.result in
    let within : i < length rows = c.loop-i-test.true in
    record {
      within = omega arith;
      given = elim c.if-row-call-2.branch [
        | then-row-call-2 w ↦
            let same : row.call ≡ c.args.call = w.if-row-call-2.true in
            let here = ap call_of (sym c.index-rows-i.is) ∙ same in
            let room : length c.loop-i.orders < 8 = omega (arith, ap length c.loop-i.invariant.given, room_for_planned rows i row c.args.call c.requires.few within here) in
            w.orders-is ∙ on_ok w.push.result (w.push.ensures.room.1 room) w.push.ensures.ok
            ∙ ap (λ os. os ++ row.order ∷ []) c.loop-i.invariant.given
            ∙ ap (λ r. planned (take i rows) c.args.call ++ r.order ∷ []) c.index-rows-i.is
            ∙ sym (planned_taken rows i row c.args.call within here)
        | else-row-call-2 w ↦
            w.orders-is ∙ c.loop-i.invariant.given
            ∙ sym (planned_left rows i row c.args.call within (λ same. w.if-row-call-2.false (ap call_of c.index-rows-i.is ∙ same)))
      ];
      passed = passed_more rows i (c.args.call + 1) row c.loop-i.invariant.passed within c.index-rows-i.is (omega arith);
    }
