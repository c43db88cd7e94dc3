use Rattle.std.proofs.Common.{List, ℕ}
use Rattle.std.specs.Prelude.{Option}
use Rattle.mama_drive.specs.Heard.{left_behind}
use Rattle.mama_drive.proofs.ClockLemmas.{answered_own, heard_own}
use Rattle.mama_drive.proofs.playing.serial.Goals as goal

pub returns-clause-rounds : goal.returns-clause-rounds
returns-clause-rounds g c =
    let told : Option (List ℕ) = g.C.Clock.left c.args.clock.now in
    let went = c.go.ensures.gone_on in
    c.in-Ok.ensures.rounds c.args.script.now told (left_behind went.heard told)
    (went.under_way c.args.script.now told told (answered_own told (g.C.Clock.left c.go.new.clock) went.heard went.answered) (c.in_ok-run.ensures.under_way told))

pub returns-clause-clock : goal.returns-clause-clock
returns-clause-clock g c =
    let told : Option (List ℕ) = g.C.Clock.left c.args.clock.now in
    let left : Option (List ℕ) = g.C.Clock.left c.go.new.clock in
    let went = c.go.ensures.gone_on in
    heard_own _ _ told left went.heard went.answered
    (c.in-Ok.ensures.clock c.args.script.now told (left_behind went.heard told)
    (went.under_way c.args.script.now told told (answered_own told left went.heard went.answered) (c.in_ok-run.ensures.under_way told)))
