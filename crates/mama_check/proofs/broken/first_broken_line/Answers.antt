use Rattle.std.proofs.Common.{length, sym, subst}
use Rattle.mama_check.specs.declared.verdict.Actor.{Actor}
use Rattle.mama_check.specs.Rules.{KeepsMoments}
use Rattle.mama_check.specs.Verdict.{IsBroken, moments, lines}
use Rattle.mama_check.proofs.BrokenLemmas.{none_breaks}
use Rattle.mama_check.proofs.broken.first_broken_line.Goals as goal

pub returns-in-Some : goal.returns-in-Some
returns-in-Some c = subst (λ (a : Actor). IsBroken c.args.script.now c.args.run.now 1 a) (sym c.client_of.ensures) (moments c.in-Some.c c.in-Some.ensures)

pub returns-in-Some-first_of_lines : goal.returns-in-Some-first_of_lines
returns-in-Some-first_of_lines c =
    subst (λ (a : Actor). IsBroken c.args.script.now c.args.run.now 2 a) (sym c.publisher_of.ensures)
    (lines c.in-Some-first_of_lines.p
    (none_breaks (KeepsMoments c.args.script.now c.args.run.now) (length c.args.script.now.clients) c.first_of_moments.result c.in_default.not-Some c.first_of_moments.ensures)
    c.in-Some-first_of_lines.ensures)
