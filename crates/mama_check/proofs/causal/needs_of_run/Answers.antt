use Rattle.mama_laws_legal.specs.Laws.{IsOrderly}
use Rattle.mama_rules_legal.specs.Form.{IsFormed}
use Rattle.mama_check.specs.Kept.{AreKept}
use Rattle.mama_check.specs.Verdict.{KeepEdges}
use Rattle.mama_check.proofs.CheckLemmas.{unbroken}
use Rattle.mama_check.proofs.causal.needs_of_run.Goals as goal

pub first_broken_edge-requires-clause-lines : goal.first_broken_edge-requires-clause-lines
first_broken_edge-requires-clause-lines c =
    let script = c.args.script.now in
    let run = c.args.run.now in
    let orderly : IsOrderly script = record { shaped = c.shape-shape.ensures.script.shaped; within = c.shape-shape.ensures.within } in
    let formed : IsFormed script run = c.legal_records_are_formed.ensures script run c.requires in
    let kept : AreKept script run = (c.kept_rules_are_legal.ensures script run orderly formed.counted).1 c.requires in
    record { moments = kept.moments; lines = kept.lines }

pub returns : goal.returns
returns c =
    let script = c.args.script.now in
    let run = c.args.run.now in
    let orderly : IsOrderly script = record { shaped = c.shape-shape.ensures.script.shaped; within = c.shape-shape.ensures.within } in
    let formed : IsFormed script run = c.legal_records_are_formed.ensures script run c.requires in
    unbroken script run c.kept_rules_are_legal.ensures orderly formed (KeepEdges script run) _ c.in_ok-_broken._broken c.requires c.in_ok-_broken.ensures.broken c.in_ok-_broken.ensures.needs
