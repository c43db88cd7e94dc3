use Rattle.std.proofs.Common.{◌≡◌, ℕ, List, ◌++◌, sym, ap, ◌∙◌, arith}
use Rattle.std.specs.List.{flat_map}
use Rattle.mama_script.specs.Line.{ended}
use Rattle.mama_script.specs.Tree.{step_lines}
use Rattle.mama_gen.specs.Generated.{subscription}
use Rattle.mama_gen.proofs.Each.{made, behind, behind_none, text_none, text_more, state_more}
use Rattle.mama_gen.proofs.Written.{lines_text}
use Rattle.mama_gen.proofs.text.put_subscriptions.Goals as goal

pub loop-topic-init : goal.loop-topic-init
loop-topic-init c = record {
  text = text_none (subscription) (λ s. flat_map ended (step_lines s)) c.args.draws.now c.args.out.now.items;
  state = sym (behind_none (subscription) c.args.draws.now);
}

pub loop-topic-preserved : goal.loop-topic-preserved
loop-topic-preserved c =
    let l = c.loop-topic in
    record {
      text = c.in_ok-put_subscription.ensures.text ∙ text_more (subscription) (λ s. flat_map ended (step_lines s)) l.topic c.args.draws.now l.draws c.args.out.now.items l.out.items l.invariant.text l.invariant.state;
      state = c.in_ok-put_subscription.ensures.state ∙ state_more (subscription) l.topic c.args.draws.now l.draws l.invariant.state;
    }

pub returns-clause-text : goal.returns-clause-text
returns-clause-text c =
    let l = c.loop-topic in
    let all : l.topic ≡ 16 = omega (arith, c.loop-topic-test.false, l.auto.topic-end) in
    l.invariant.text ∙ ap (λ (k : ℕ). c.args.out.now.items ++ flat_map (λ s. flat_map ended (step_lines s)) (made (subscription) k c.args.draws.now)) all
    ∙ ap (λ (t : List ℕ). c.args.out.now.items ++ t) (sym (lines_text step_lines (made (subscription) 16 c.args.draws.now)))

pub returns-clause-state : goal.returns-clause-state
returns-clause-state c =
    let l = c.loop-topic in
    let all : l.topic ≡ 16 = omega (arith, c.loop-topic-test.false, l.auto.topic-end) in
    l.invariant.state ∙ ap (λ (k : ℕ). behind (subscription) k c.args.draws.now) all
