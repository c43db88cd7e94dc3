use Rattle.std.proofs.Common.{[], inl, inr, sym, subst}
use Rattle.mama_record.specs.RunData.{RunData}
use Rattle.mama_log_read.specs.Reading.{AreRead}
use Rattle.mama_log_read.proofs.Reading.{nothing_read, next_read, all_read, stuck_head, stuck_end, miscounted_at, tally_known, none_left, some_left}
use Rattle.mama_log_read.proofs.parsing.read_sections.Goals as goal

pub loop-section-init : goal.loop-section-init
loop-section-init c =
    let P : RunData → Type 0 = λ run. AreRead c.args.version c.args.names.now c.args.objects.now [] c.args.text.now run c.args.text.now in
    subst P (sym c.new-built.ensures) (nothing_read c.args.version c.args.names.now c.args.objects.now c.args.text.now)

pub loop-section-preserved : goal.loop-section-preserved
loop-section-preserved c =
    next_read c.args.version c.args.names.now c.args.objects.now c.args.sections.now c.loop-section.section-index _ c.args.text.now c.loop-section.built c.read.new.self c.loop-section.rest.now c.in-Some.entries.now c.in_ok-after-in-Some.after.now c.in-Some.told
    c.loop-section-test.true c.loop-section.invariant (rw c.in-Some.is at c.in_ok-told.ensures.found) c.in_ok-after-in-Some.ensures
    (tally_known c.in-Some.told c.in-Some.entries.now c.in_ok-after-in-Some.after.now c.miscounted.result c.in_default.not-Some c.miscounted.ensures.none)

pub returns-in-Some-miscounted : goal.returns-in-Some-miscounted
returns-in-Some-miscounted c =
    inr (
    miscounted_at c.args.version c.args.names.now c.args.objects.now c.args.sections.now c.loop-section.section-index _ c.args.text.now c.loop-section.built c.read.new.self c.loop-section.rest.now c.in-Some.entries.now c.in_ok-after-in-Some.after.now c.in-Some-miscounted.stop.now
    c.in-Some.told c.line_number-line.result c.loop-section-test.true c.loop-section.invariant (rw c.in-Some.is at c.in_ok-told.ensures.found) c.in_ok-after-in-Some.ensures (rw c.in-Some-miscounted.is at c.miscounted.ensures.some) c.line_number-line.ensures.value)

pub returns-in-None : goal.returns-in-None
returns-in-None c =
    inl (
    stuck_head c.args.version c.args.names.now c.args.objects.now c.args.sections.now c.loop-section.section-index _ c.args.text.now c.loop-section.built c.loop-section.rest.now c.line_number-line-in-None.result c.loop-section-test.true c.loop-section.invariant
    (rw c.in-None.is at c.in_ok-told.ensures.none) c.line_number-line-in-None.ensures.value)

pub returns-then-not-is_empty : goal.returns-then-not-is_empty
returns-then-not-is_empty c =
    inl (
    stuck_end c.args.version c.args.names.now c.args.objects.now c.args.sections.now c.loop-section.section-index c.args.text.now c.loop-section.built c.loop-section.rest.now c.line_number-line-then-not-is_empty.result c.loop-section-test.false
    (some_left c.loop-section.rest.now c.if-not-is_empty.ensures) c.loop-section.invariant c.line_number-line-then-not-is_empty.ensures.value)

pub returns : goal.returns
returns c =
    let P : RunData → Type 0 = λ run. AreRead c.args.version c.args.names.now c.args.objects.now c.args.sections.now c.args.text.now run [] in
    subst P (sym c.finish.ensures) (
    all_read c.args.version c.args.names.now c.args.objects.now c.args.sections.now c.loop-section.section-index c.args.text.now c.loop-section.built c.loop-section.rest.now c.loop-section-test.false
    (none_left c.loop-section.rest.now c.if-not-is_empty.ensures) c.loop-section.invariant)
