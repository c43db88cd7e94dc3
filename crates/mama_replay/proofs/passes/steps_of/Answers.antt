use Rattle.std.proofs.Common.{ℕ, ◌≤◌, ◌+◌, ◌++◌, [], List, length, map, ap, sym, ◌∙◌, arith}
use Rattle.std.specs.Prelude.{slice_index_or}
use Rattle.std.specs.List.{flat_map}
use Rattle.std.specs.Global.{Vec}
use Rattle.std.proofs.lemmas.List.{length-map, get_or_past}
use Rattle.mama_journal.specs.Journal.{numbers_below}
use Rattle.mama_journal.specs.Lane.{by_port}
use Rattle.mama_replay.specs.declared.step.Step.{Step}
use Rattle.mama_replay.specs.Dealt.{all_dealt}
use Rattle.mama_replay.proofs.Dealing.{numbers_more, numbers_same, listed}
use Rattle.mama_replay.proofs.passes.steps_of.Goals as goal

pub loop-pass-preserved : goal.loop-pass-preserved
loop-pass-preserved c =
    let passes = c.deref-pass-items.result.now in
    let k = c.loop-pass.pass-index in
    let steps = λ (m : ℕ). slice_index_or (map (λ (pass : Vec Step). pass.items) passes) m [] in
    let here = c.as_slice.ensures.value ∙ listed passes k c.pass-item.result c.loop-pass-test.true c.pass-item.is in
    c.in_ok-extend_from_slice.ensures.items
    ∙ ap (λ (xs : List Step). xs ++ c.as_slice.result.now) c.loop-pass.invariant
    ∙ ap (λ (xs : List Step). flat_map steps (numbers_below k) ++ xs) here
    ∙ sym (numbers_more steps k)

pub returns : goal.returns
returns c =
    let items = λ (pass : Vec Step). pass.items in
    let passes = c.in_ok-passes.passes.items in
    let count = c.loop-pass.pass-index in
    let dealt = all_dealt c.args.clients c.args.run.now (map (λ (own : Vec ℕ). own.items) c.args.ranks.now) in
    let same = λ (m : ℕ). ap (λ (ps : List (Vec Step)). slice_index_or (map items ps) m []) c.deref-pass-items.ensures.value ∙ c.in_ok-passes.ensures m in
    let long : length (map items passes) ≤ count = omega (arith, length-map passes items, ap (λ (ps : List (Vec Step)). length ps) c.deref-pass-items.ensures.value) in (
      count,
      c.loop-pass.invariant ∙ numbers_same (λ (m : ℕ). slice_index_or (map items c.deref-pass-items.result.now) m []) (λ (m : ℕ). by_port m dealt) same count,
      λ m high. sym (c.in_ok-passes.ensures m) ∙ get_or_past (map items passes) m [] (omega (arith, long, high)),
    )
