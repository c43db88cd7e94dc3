use Rattle.std.proofs.Common.{◌∙◌, ap, sym, Bool}
use Rattle.std.specs.Prelude.{is_some}
use Rattle.mama_drive.specs.Course.{Course}
use Rattle.mama_drive.proofs.PlaceLemmas.{end_of, end_is_round, end_is_heard}
use Rattle.mama_drive.proofs.serial_run.SerialRun.into_record.Goals as goal

pub record_with-requires-clause-parts : goal.record_with-requires-clause-parts
record_with-requires-clause-parts c = (end_of c.self.inside.parts c.in-Some.parts c.self.inside.run c.self.inside.place c.in-Some.is c.self.invariant).parts_are

pub record_with-requires-clause-ready : goal.record_with-requires-clause-ready
record_with-requires-clause-ready c = (end_of c.self.inside.parts c.in-Some.parts c.self.inside.run c.self.inside.place c.in-Some.is c.self.invariant).ready

pub returns-in-Some-clause-rounds : goal.returns-in-Some-clause-rounds
returns-in-Some-clause-rounds c =
    let end = end_of c.self.inside.parts c.in-Some.parts c.self.inside.run c.self.inside.place c.in-Some.is c.self.invariant in
    λ script told left h. end_is_round script told left c.self.inside.run c.self.inside.place (is_some c.self.inside.parts) c.args.self c.self.view_is c.record_with.result
    end.rounds end.played c.record_with.ensures h

pub returns-in-Some-clause-clock : goal.returns-in-Some-clause-clock
returns-in-Some-clause-clock c =
    let end = end_of c.self.inside.parts c.in-Some.parts c.self.inside.run c.self.inside.place c.in-Some.is c.self.invariant in
    λ script told left h. end_is_heard script told left c.self.inside.run c.self.inside.place (is_some c.self.inside.parts) c.args.self c.self.view_is c.record_with.result
    end.rounds end.played c.record_with.ensures h

pub returns-in-Some-clause-end : goal.returns-in-Some-clause-end
returns-in-Some-clause-end c = sym (ap (λ (r : Course). r.over) c.self.view_is) ∙ ap is_some c.in-Some.is

pub returns-in-None-clause-going : goal.returns-in-None-clause-going
returns-in-None-clause-going c = sym (ap (λ (r : Course). r.over) c.self.view_is) ∙ ap is_some c.in-None.is

pub returns-in-None-clause-back : goal.returns-in-None-clause-back
returns-in-None-clause-back c =
    let with : Bool → Course = λ b. record { scene = c.self.inside.run; at = c.self.inside.place; over = b } in
    sym (ap with (ap is_some c.in-None.is)) ∙ c.self.view_is
