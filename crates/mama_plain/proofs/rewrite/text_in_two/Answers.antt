use Rattle.std.proofs.Common.{arith}
use Rattle.std.proofs.lemmas.Result.{IfOk-weaker}
use Rattle.mama_plain.proofs.VerdictLemmas.{parts_within}
use Rattle.mama_plain.proofs.RewriteLemmas.{text_alone, text_both, cut_has_log, taken_parts}
use Rattle.mama_plain.proofs.rewrite.text_in_two.Goals as goal

pub both_in_two-requires : goal.both_in_two-requires
both_in_two-requires c = omega (arith, parts_within c.args.text.now c.in-Some.front.now c.in-Some.log.now c.in-Some.ensures)

pub returns-in-Some-clause-alone : goal.returns-in-Some-clause-alone
returns-in-Some-clause-alone c = λ none line. absurd (cut_has_log c.args.text.now c.in-Some.front.now c.in-Some.log.now c.in-Some.ensures none)

pub returns-in-Some-clause-fitting : goal.returns-in-Some-clause-fitting
returns-in-Some-clause-fitting c = λ taken.
    let p = taken_parts c.args.text.now c.in-Some.front.now c.in-Some.log.now c.in-Some.ensures taken in
    c.both_in_two.ensures.fitting p.script p.run p.accepted p.spelled p.logged p.version p.known p.whole

pub returns-in-Some-clause-written : goal.returns-in-Some-clause-written
returns-in-Some-clause-written c =
    IfOk-weaker c.both_in_two.result _ _ (λ out w. text_both c.args.text.now c.in-Some.front.now c.in-Some.log.now out.items c.in-Some.ensures w) c.both_in_two.ensures.written

pub returns-in-None-clause-written : goal.returns-in-None-clause-written
returns-in-None-clause-written c = IfOk-weaker c.script_in_two.result _ _ (λ out w. text_alone c.args.text.now out.items c.in-None.ensures w) c.script_in_two.ensures.written
