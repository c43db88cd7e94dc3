use Rattle.std.proofs.Common.{refl}
use Rattle.mama_drive.proofs.PlaceLemmas.{to_same, hearing_none, hearing_then, hearing_refused, hearing_parts, end_parts}
use Rattle.mama_drive.proofs.serial_run.play.Goals as goal

pub loop-init : goal.loop-init
loop-init g c = hearing_none (g.C.Clock.left c.args.clock.now) c.args.place.now c.args.place.now c.args.run.now c.args.run.now (λ k. to_same k c.args.place.now c.args.run.now c.args.run.now refl)

pub loop-preserved : goal.loop-preserved
loop-preserved g c = hearing_then _ _ _ c.args.place.now c.loop.place _ c.args.run.now c.loop.run c.next_place.new.run c.loop.invariant c.in_ok-place.ensures.on

pub returns-in_err-place-clause-on : goal.returns-in_err-place-clause-on
returns-in_err-place-clause-on g c = hearing_refused _ _ _ c.args.place.now c.loop.place c.args.run.now c.loop.run c.next_place.new.run c.loop.invariant c.in_err-place.ensures.err c.in_err-place.ensures.clock_err

pub returns-then-is_played-clause-on : goal.returns-then-is_played-clause-on
returns-then-is_played-clause-on g c = hearing_parts c.parts.result _ _ c.args.place.now c.loop.place c.args.run.now c.loop.run c.parts.new.self c.loop.invariant
    (c.is_played.ensures.rounds c.if-is_played.true) c.parts.ensures.ok c.parts.ensures.err

pub returns-then-is_played-clause-end : goal.returns-then-is_played-clause-end
returns-then-is_played-clause-end g c = end_parts c.parts.result c.loop.place c.loop.run c.parts.new.self (c.is_played.ensures.rounds c.if-is_played.true) (c.is_played.ensures.played c.if-is_played.true)
    c.parts.ensures.ok c.parts.ensures.parts
