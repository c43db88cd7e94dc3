use Rattle.std.proofs.Common.{◌≡◌, ℕ, List, ◌++◌, sym, ap, ◌∙◌, arith}
use Rattle.std.specs.List.{flat_map}
use Rattle.mama_script.specs.Line.{ended}
use Rattle.mama_script.specs.Tree.{publisher_line}
use Rattle.mama_gen.specs.Generated.{update}
use Rattle.mama_gen.proofs.Each.{made, behind, behind_none, text_none, text_more, state_more}
use Rattle.mama_gen.proofs.Written.{line_text}
use Rattle.mama_gen.proofs.text.put_updates.Goals as goal

pub loop-init : goal.loop-init
loop-init c = record {
  text = text_none (λ n. update) (λ u. ended (publisher_line u)) c.args.draws.now c.args.out.now.items;
  state = sym (behind_none (λ n. update) c.args.draws.now);
}

pub loop-preserved : goal.loop-preserved
loop-preserved c =
    let l = c.loop in
    record {
      text = c.in_ok-put_update.ensures.text ∙ text_more (λ n. update) (λ u. ended (publisher_line u)) l.counter c.args.draws.now l.draws c.args.out.now.items l.out.items l.invariant.text l.invariant.state;
      state = c.in_ok-put_update.ensures.state ∙ state_more (λ n. update) l.counter c.args.draws.now l.draws l.invariant.state;
    }

pub returns-clause-text : goal.returns-clause-text
returns-clause-text c =
    let l = c.loop in
    let all : l.counter ≡ 250 = omega (arith, c.loop-test.false, l.auto.counter-end) in
    l.invariant.text ∙ ap (λ (k : ℕ). c.args.out.now.items ++ flat_map (λ u. ended (publisher_line u)) (made (λ n. update) k c.args.draws.now)) all
    ∙ ap (λ (t : List ℕ). c.args.out.now.items ++ t) (sym (line_text publisher_line (made (λ n. update) 250 c.args.draws.now)))

pub returns-clause-state : goal.returns-clause-state
returns-clause-state c =
    let l = c.loop in
    let all : l.counter ≡ 250 = omega (arith, c.loop-test.false, l.auto.counter-end) in
    l.invariant.state ∙ ap (λ (k : ℕ). behind (λ n. update) k c.args.draws.now) all
