use Rattle.std.proofs.Common.{List, map, ap, ◌∙◌}
use Rattle.std.specs.Prelude.{Option}
use Rattle.std.specs.Global.{Vec}
use Rattle.mama_check_order.specs.declared.order.Need.{Need}
use Rattle.mama_laws_legal.specs.Laws.{IsOrderly}
use Rattle.mama_check.specs.Verdict.{KeepAllLines, KeepEdges, KeepObjects, KeepLists}
use Rattle.mama_check.proofs.BrokenLemmas.{if_none}
use Rattle.mama_check.proofs.CheckLemmas.{found_at, found_none, judged_broken, judged_legal, true_of_legal}
use Rattle.mama_check.proofs.judging.check.Goals as goal

pub returns-in-Some-clause-exact : goal.returns-in-Some-clause-exact
returns-in-Some-clause-exact c =
    let orderly : IsOrderly c.args.script.now = record { shaped = c.shape-shape.ensures.script.shaped; within = c.shape-shape.ensures.within } in
    judged_broken c.args.script.now c.args.run.now c.kept_rules_are_legal.ensures orderly c.requires c.in-Some.broken c.not_legal.result c.not_legal.ensures c.in-Some.ensures

pub returns-in-Some-2-clause-exact : goal.returns-in-Some-2-clause-exact
returns-in-Some-2-clause-exact c =
    let script = c.args.script.now in
    let run = c.args.run.now in
    let orderly : IsOrderly script = record { shaped = c.shape-shape.ensures.script.shaped; within = c.shape-shape.ensures.within } in
    judged_broken script run c.kept_rules_are_legal.ensures orderly c.requires c.in-Some-2.broken c.not_legal-in-Some-2.result c.not_legal-in-Some-2.ensures
    (found_at script run (KeepEdges script run) c.in_ok-broken.field-0 c.in-Some-2.broken c.in-Some-2.is c.in_ok-broken.ensures.broken)

pub returns-in-Some-first_broken_object-clause-exact : goal.returns-in-Some-first_broken_object-clause-exact
returns-in-Some-first_broken_object-clause-exact c =
    let script = c.args.script.now in
    let run = c.args.run.now in
    let orderly : IsOrderly script = record { shaped = c.shape-shape.ensures.script.shaped; within = c.shape-shape.ensures.within } in
    judged_broken script run c.kept_rules_are_legal.ensures orderly c.requires c.in-Some-first_broken_object.broken c.not_legal-in-Some-first_broken_object.result c.not_legal-in-Some-first_broken_object.ensures c.in-Some-first_broken_object.ensures

pub returns-in-Some-3-clause-exact : goal.returns-in-Some-3-clause-exact
returns-in-Some-3-clause-exact c =
    let script = c.args.script.now in
    let run = c.args.run.now in
    let orderly : IsOrderly script = record { shaped = c.shape-shape.ensures.script.shaped; within = c.shape-shape.ensures.within } in
    judged_broken script run c.kept_rules_are_legal.ensures orderly c.requires c.in-Some-3.broken c.not_legal-in-Some-3.result c.not_legal-in-Some-3.ensures
    (found_at script run (KeepLists script run) c.in_ok-broken-2.field-0 c.in-Some-3.broken c.in-Some-3.is c.in_ok-broken-2.ensures)

pub is_causal-requires-clause-needs : goal.is_causal-requires-clause-needs
is_causal-requires-clause-needs c =
    ap (λ (vs : List (Vec (Option Need))). map (λ (v : Vec (Option Need)). v.items) vs) c.as_slice.ensures.value
    ∙ if_none c.in_ok-broken.field-0 _ c.in_default-2.not-Some c.in_ok-broken.ensures.needs

pub returns-clause-exact : goal.returns-clause-exact
returns-clause-exact c =
    let script = c.args.script.now in
    let run = c.args.run.now in
    let orderly : IsOrderly script = record { shaped = c.shape-shape.ensures.script.shaped; within = c.shape-shape.ensures.within } in
    judged_legal script run c.kept_rules_are_legal.ensures orderly c.requires
    (found_none script run (KeepAllLines script run) c.first_broken_line.result c.in_default.not-Some c.first_broken_line.ensures)
    (found_none script run (KeepEdges script run) c.in_ok-broken.field-0 c.in_default-2.not-Some c.in_ok-broken.ensures.broken)
    (found_none script run (KeepObjects script run) c.first_broken_object.result c.in_default-first_broken_object.not-Some c.first_broken_object.ensures)
    (found_none script run (KeepLists script run) c.in_ok-broken-2.field-0 c.in_default-3.not-Some c.in_ok-broken-2.ensures)
    c.in_ok-causal.causal c.in_ok-causal.ensures

pub returns-clause-legal : goal.returns-clause-legal
returns-clause-legal c =
    let script = c.args.script.now in
    let run = c.args.run.now in
    let orderly : IsOrderly script = record { shaped = c.shape-shape.ensures.script.shaped; within = c.shape-shape.ensures.within } in
    true_of_legal script run c.kept_rules_are_legal.ensures orderly c.requires c.shape-shape.ensures.script c.legal_records_are_true.ensures
    (found_none script run (KeepAllLines script run) c.first_broken_line.result c.in_default.not-Some c.first_broken_line.ensures)
    (found_none script run (KeepEdges script run) c.in_ok-broken.field-0 c.in_default-2.not-Some c.in_ok-broken.ensures.broken)
    (found_none script run (KeepObjects script run) c.first_broken_object.result c.in_default-first_broken_object.not-Some c.first_broken_object.ensures)
    (found_none script run (KeepLists script run) c.in_ok-broken-2.field-0 c.in_default-3.not-Some c.in_ok-broken-2.ensures)
