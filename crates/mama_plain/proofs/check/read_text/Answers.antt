use Rattle.std.proofs.Common.{ℕ, List, IfOk, sym, subst, arith}
use Rattle.mama_plain.specs.Judging.{IsToldBy}
use Rattle.mama_plain.proofs.PartLemmas.{cut_makes_text}
use Rattle.mama_plain.proofs.VerdictLemmas.{parts_within, checked_parts, checked_has_log}
use Rattle.mama_plain.proofs.check.read_text.Goals as goal

pub read_parts-requires : goal.read_parts-requires
read_parts-requires c = omega (arith, parts_within c.args.text.now c.in-Some.front.now c.in-Some.log.now c.in-Some.ensures)

pub returns-in-Some-clause-read : goal.returns-in-Some-clause-read
returns-in-Some-clause-read c =
    subst (λ (text : List ℕ). IfOk c.read_parts.result (λ read. IsToldBy text read.0 read.1)) (sym (cut_makes_text c.args.text.now c.in-Some.front.now c.in-Some.log.now (sym c.in-Some.ensures)))
    c.read_parts.ensures.read

pub returns-in-Some-clause-fitting : goal.returns-in-Some-clause-fitting
returns-in-Some-clause-fitting c = λ checked.
    let p = checked_parts c.args.text.now c.in-Some.front.now c.in-Some.log.now c.in-Some.ensures checked in c.read_parts.ensures.fitting p.script p.run p.accepted p.spelled p.logged p.version p.known p.whole

pub returns-in-None-clause-fitting : goal.returns-in-None-clause-fitting
returns-in-None-clause-fitting c = λ checked. absurd (checked_has_log c.args.text.now c.in-None.ensures checked)
