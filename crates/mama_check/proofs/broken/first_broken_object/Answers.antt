use Rattle.std.proofs.Common.{length}
use Rattle.mama_rules_rounds.specs.Sections.{setting_of}
use Rattle.mama_check.specs.Rules.{KeepsCalls}
use Rattle.mama_check.proofs.BrokenLemmas.{none_breaks, broken_calls, broken_images}
use Rattle.mama_check.proofs.broken.first_broken_object.Goals as goal

pub returns-in-Some : goal.returns-in-Some
returns-in-Some c =
    let script = c.args.script.now in
    let run = c.args.run.now in
    broken_calls script run c.args.plans.now c.in-Some.k c.object_at-object.result c.requires.lines c.requires.edges c.requires.plans c.object_at-object.ensures c.rule_of.result c.rule_of.ensures
    c.in-Some.ensures

pub returns-in-Some-first_of_images : goal.returns-in-Some-first_of_images
returns-in-Some-first_of_images c =
    let script = c.args.script.now in
    let run = c.args.run.now in
    broken_images script run c.args.plans.now c.in-Some-first_of_images.k c.object_at.result c.requires.lines c.requires.edges c.requires.plans c.object_at.ensures
    (none_breaks (KeepsCalls script run) (length (setting_of script).objects) c.first_of_calls.result c.in_default.not-Some c.first_of_calls.ensures)
    c.in-Some-first_of_images.ensures
