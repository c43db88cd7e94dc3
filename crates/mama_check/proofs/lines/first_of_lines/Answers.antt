use Rattle.std.proofs.Common.{◌<◌, ℕ, List, [], length, sym, subst, ◌∙◌, below_more, true≢false}
use Rattle.std.specs.Prelude.{slice_index_or}
use Rattle.std.specs.List.{flat_map}
use Rattle.mama_rules_rounds.specs.Setting.{no_section}
use Rattle.mama_rules_rounds.specs.Sections.{sends_in, publishers_from}
use Rattle.mama_rules_legal.specs.Lines.{IsSentOut}
use Rattle.mama_check.proofs.LineLemmas.{sends_at, items_at, carried}
use Rattle.mama_check.proofs.lines.first_of_lines.Goals as goal

pub loop-p-preserved : goal.loop-p-preserved
loop-p-preserved c =
    let x = c.index-publishers-p.result in
    let v = c.index-journals-p.result in
    let within : c.loop-p.p < length c.args.script.now.publishers = subst (λ (ps : List _). c.loop-p.p < length ps) c.publishers-publishers.ensures c.loop-p-test.true in
    let has = subst (λ (n : ℕ). c.loop-p.p < n) (sym c.requires) within in
    below_more _ _ c.loop-p.invariant
    (carried IsSentOut (length (flat_map sends_in x.lines)) (length (slice_index_or (publishers_from 0 c.args.script.now.publishers) c.loop-p.p no_section).lines) c.deref.result.now (slice_index_or c.args.run.now.publishers c.loop-p.p [])
    (sends_at c.publishers-publishers.result.now c.args.script.now.publishers c.loop-p.p x c.publishers-publishers.ensures within c.index-publishers-p.is)
    (c.deref.ensures.value ∙ items_at c.publishers-journals.result.now c.args.run.now.publishers c.loop-p.p v c.publishers-journals.ensures has c.index-journals-p.is)
    (c.has_done.ensures.0 c.if-not-has_done.false))

pub returns-then-not-has_done : goal.returns-then-not-has_done
returns-then-not-has_done c =
    let x = c.index-publishers-p.result in
    let v = c.index-journals-p.result in
    let within : c.loop-p.p < length c.args.script.now.publishers = subst (λ (ps : List _). c.loop-p.p < length ps) c.publishers-publishers.ensures c.loop-p-test.true in
    let has = subst (λ (n : ℕ). c.loop-p.p < n) (sym c.requires) within in (
      within,
      (λ keeps. true≢false (sym (c.has_done.ensures.1
          (carried IsSentOut (length (slice_index_or (publishers_from 0 c.args.script.now.publishers) c.loop-p.p no_section).lines) (length (flat_map sends_in x.lines)) (slice_index_or c.args.run.now.publishers c.loop-p.p []) c.deref.result.now
          (sym (sends_at c.publishers-publishers.result.now c.args.script.now.publishers c.loop-p.p x c.publishers-publishers.ensures within c.index-publishers-p.is))
          (sym (c.deref.ensures.value ∙ items_at c.publishers-journals.result.now c.args.run.now.publishers c.loop-p.p v c.publishers-journals.ensures has c.index-journals-p.is))
          keeps)) ∙ c.if-not-has_done.true)),
      c.loop-p.invariant,
    )
