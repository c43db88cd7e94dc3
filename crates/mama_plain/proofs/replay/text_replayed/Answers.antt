use Rattle.std.proofs.Common.{ℕ, List, IfOk, sym, subst, arith}
use Rattle.mama_plain.specs.Replayed.{IsReplayed}
use Rattle.mama_plain.proofs.PartLemmas.{cut_makes_text}
use Rattle.mama_plain.proofs.VerdictLemmas.{parts_within, checked_parts, checked_has_log}
use Rattle.mama_plain.proofs.ReplayLemmas.{no_replay_of_text, no_log_of_text}
use Rattle.mama_plain.proofs.replay.text_replayed.Goals as goal

pub log_replayed-requires : goal.log_replayed-requires
log_replayed-requires c = omega (arith, parts_within c.args.text.now c.in-Some.front.now c.in-Some.log.now c.in-Some.ensures)

pub returns-in-Some-clause-out : goal.returns-in-Some-clause-out
returns-in-Some-clause-out c =
    subst (λ (text : List ℕ). IfOk c.log_replayed.result (λ out. IsReplayed text out.items)) (sym (cut_makes_text c.args.text.now c.in-Some.front.now c.in-Some.log.now (sym c.in-Some.ensures)))
    c.log_replayed.ensures.out

pub returns-in-Some-clause-cause : goal.returns-in-Some-clause-cause
returns-in-Some-clause-cause c = no_replay_of_text c.args.text.now c.in-Some.front.now c.in-Some.log.now c.log_replayed.result c.in-Some.ensures c.log_replayed.ensures.cause

pub returns-in-Some-clause-fitting : goal.returns-in-Some-clause-fitting
returns-in-Some-clause-fitting c = λ checked.
    let p = checked_parts c.args.text.now c.in-Some.front.now c.in-Some.log.now c.in-Some.ensures checked in c.log_replayed.ensures.fitting p.script p.run p.accepted p.spelled p.logged p.version p.known p.whole

pub returns-in-None-clause-cause : goal.returns-in-None-clause-cause
returns-in-None-clause-cause c = no_log_of_text c.args.text.now c.without_log.result c.in-None.ensures c.without_log.ensures

pub returns-in-None-clause-fitting : goal.returns-in-None-clause-fitting
returns-in-None-clause-fitting c = λ checked. absurd (checked_has_log c.args.text.now c.in-None.ensures checked)
