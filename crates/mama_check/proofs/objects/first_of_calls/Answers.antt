use Rattle.std.proofs.Common.{◌≡◌, ◌<◌, ℕ, List, length, sym, subst, ◌∙◌, arith, below_more, true≢false}
use Rattle.mama_event.specs.declared.callback.CallNote.{CallNote}
use Rattle.mama_rules_rounds.specs.Sections.{setting_of}
use Rattle.mama_rules_rounds.specs.Told.{object_calls}
use Rattle.mama_plans.specs.Plans.{planned_object, planned_objects}
use Rattle.mama_check.proofs.CallLemmas.{as_planned, planned_within, recorded_within, calls_kept, calls_back, told_calls}
use Rattle.mama_check.proofs.objects.first_of_calls.Goals as goal

pub bounds-recorded-k : goal.bounds-recorded-k
bounds-recorded-k c =
    recorded_within c.args.script.now c.args.run.now c.calls-recorded.result.now c.objects-objects.result.now c.loop-k.k c.calls-recorded.ensures (c.objects-objects.ensures ∙ c.requires.plans) c.requires.objects
    c.loop-k-test.true

pub loop-k-preserved : goal.loop-k-preserved
loop-k-preserved c =
    let script = c.args.script.now in
    let run = c.args.run.now in
    let x = c.index-objects-k.result in
    let calls : List CallNote = c.calls_on-calls.result.now in
    let planned : planned_objects c.objects-objects.result.now ≡ (setting_of script).objects = c.objects-objects.ensures ∙ c.requires.plans in
    let told : calls ≡ (object_calls (setting_of script) run.queues (planned_object x)).calls =
    told_calls script run c.args.plans.now c.args.served.now (planned_object x) calls c.requires.plans c.requires.served.journals c.calls_on-calls.ensures in
    below_more _ _ c.loop-k.invariant
    (calls_kept script run c.calls-recorded.result.now c.objects-objects.result.now c.loop-k.k c.index-recorded-k.result x c.calls-recorded.ensures planned c.requires.objects c.loop-k-test.true
    c.index-recorded-k.is c.index-objects-k.is calls told
    (sym c.deref.ensures.value ∙ c.are_same_calls.ensures.0 c.if-not-are_same_calls.false))

pub returns-then-not-are_same_calls : goal.returns-then-not-are_same_calls
returns-then-not-are_same_calls c =
    let script = c.args.script.now in
    let run = c.args.run.now in
    let x = c.index-objects-k.result in
    let calls : List CallNote = c.calls_on-calls.result.now in
    let planned : planned_objects c.objects-objects.result.now ≡ (setting_of script).objects = c.objects-objects.ensures ∙ c.requires.plans in
    let told : calls ≡ (object_calls (setting_of script) run.queues (planned_object x)).calls =
    told_calls script run c.args.plans.now c.args.served.now (planned_object x) calls c.requires.plans c.requires.served.journals c.calls_on-calls.ensures in (
      planned_within script c.objects-objects.result.now c.loop-k.k planned c.loop-k-test.true,
      (λ keeps. true≢false (sym (c.are_same_calls.ensures.1
          (c.deref.ensures.value
          ∙ calls_back script run c.calls-recorded.result.now c.objects-objects.result.now c.loop-k.k c.index-recorded-k.result x c.calls-recorded.ensures planned c.requires.objects c.loop-k-test.true
          c.index-recorded-k.is c.index-objects-k.is calls told keeps))
          ∙ c.if-not-are_same_calls.true)),
      c.loop-k.invariant,
    )

pub returns : goal.returns
returns c =
    let planned : planned_objects c.objects-objects.result.now ≡ (setting_of c.args.script.now).objects = c.objects-objects.ensures ∙ c.requires.plans in
    λ k low.
    let inside : k < length c.objects-objects.result.now = subst (λ (n : ℕ). k < n) (sym (as_planned c.args.script.now c.objects-objects.result.now planned)) low in
    let below : k < c.loop-k.k = omega (arith, inside, c.loop-k-test.false) in
    c.loop-k.invariant k below
