use Rattle.std.proofs.Common.{length, sym, subst}
use Rattle.mama_check.specs.declared.verdict.Actor.{Actor}
use Rattle.mama_check.specs.Rules.{KeepsGroup, KeepsWatch}
use Rattle.mama_check.specs.Verdict.{IsBroken, groups, watches}
use Rattle.mama_check.proofs.BrokenLemmas.{first_at, none_breaks}
use Rattle.mama_check.proofs.broken.first_broken_list.Goals as goal

pub returns-in-Some : goal.returns-in-Some
returns-in-Some c =
    let script = c.args.script.now in
    let run = c.args.run.now in
    subst (λ (a : Actor). IsBroken script run 10 a) (sym c.group_of.ensures)
    (groups c.in-Some.g c.requires.lines.moments c.requires.lines.lines c.requires.edges c.requires.objects
    (first_at (KeepsGroup script run) (length script.groups) c.in_ok-g.field-0 c.in-Some.g c.in-Some.is c.in_ok-g.ensures))

pub returns-in-Some-2 : goal.returns-in-Some-2
returns-in-Some-2 c =
    let script = c.args.script.now in
    let run = c.args.run.now in
    subst (λ (a : Actor). IsBroken script run 11 a) (sym c.watch_of.ensures)
    (watches c.in-Some-2.w c.requires.lines.moments c.requires.lines.lines c.requires.edges c.requires.objects
    (none_breaks (KeepsGroup script run) (length script.groups) c.in_ok-g.field-0 c.in_default.not-Some c.in_ok-g.ensures)
    (first_at (KeepsWatch script run) (length script.watches) c.in_ok-w.field-0 c.in-Some-2.w c.in-Some-2.is c.in_ok-w.ensures))
