use Rattle.std.proofs.Common.{ℕ, ◌+◌, ◌≤◌, List, ◌∷◌, [], length, map, drop, arith, ap, sym, ◌∙◌, subst}
use Rattle.std.proofs.lemmas.List.{take_all, length-append}
use Rattle.mama_record.specs.RunView.{calls_of}
use Rattle.mama_plans.specs.declared.plans.PlannedObject.{PlannedObject}
use Rattle.mama_plans.specs.Plans.{planned_objects}
use Rattle.mama_drive.specs.Given.{Lists, calls_given}
use Rattle.mama_drive.proofs.RecordingLemmas.{AreLeft, left_first, left_next, moved_next}
use Rattle.mama_drive.proofs.recording.all_calls.Goals as goal

pub loop-planned-init : goal.loop-planned-init
loop-planned-init c = record {
  moved = ap calls_of c.requires.none;
  still = left_first c.args.given.items (planned_objects c.args.objects.now) c.requires.apart;
  count = ap length c.requires.none;
  room = c.requires.enough;
}

pub push_reserved-requires : goal.push_reserved-requires
push_reserved-requires c = omega (arith, c.loop-planned.invariant.count, c.loop-planned.invariant.room, c.loop-planned-test.true, c.loop-planned.calls.ok.0)

pub loop-planned-preserved : goal.loop-planned-preserved
loop-planned-preserved c =
    let inv = c.loop-planned.invariant in
    let first : List Lists = c.args.given.items in
    let i : ℕ = c.loop-planned.planned-index in
    record {
      moved = ap calls_of c.push_reserved.ensures.items
          ∙ moved_next first c.loop-planned.left.items c.args.objects.now i c.planned-item.result c.loop-planned-test.true c.planned-item.is inv.still
          c.loop-planned.calls.items c.take_calls-notes.result inv.moved c.take_calls-notes.ensures.calls;
      still = subst (λ (l : List Lists). AreLeft first l (planned_objects (drop (i + 1) c.args.objects.now))) (sym c.take_calls-notes.ensures.rest)
          (left_next first c.loop-planned.left.items c.args.objects.now i c.planned-item.result c.loop-planned-test.true c.planned-item.is inv.still);
      count = ap length c.push_reserved.ensures.items ∙ length-append c.loop-planned.calls.items ((c.planned-item.result.object, c.take_calls-notes.result) ∷ []) ∙ ap (λ (n : ℕ). n + 1) inv.count;
      room = subst (λ (n : ℕ). length c.args.objects.now ≤ n) (sym c.push_reserved.ensures.capacity) inv.room;
    }

pub returns : goal.returns
returns c =
    c.loop-planned.invariant.moved
    ∙ ap (λ (ps : List PlannedObject). map (calls_given c.args.given.items) (planned_objects ps)) (take_all c.loop-planned.planned-index c.args.objects.now c.loop-planned-test.false)
