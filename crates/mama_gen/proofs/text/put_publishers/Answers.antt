use Rattle.std.proofs.Common.{◌≡◌, ℕ, List, ◌++◌, sym, ap, ◌∙◌, arith}
use Rattle.std.specs.List.{flat_map}
use Rattle.mama_script.specs.Line.{ended}
use Rattle.mama_script.specs.Tree.{publisher_lines}
use Rattle.mama_gen.specs.Generated.{publisher}
use Rattle.mama_gen.proofs.Each.{made, behind, behind_none, text_none, text_more, state_more}
use Rattle.mama_gen.proofs.Written.{lines_text}
use Rattle.mama_gen.proofs.text.put_publishers.Goals as goal

pub loop-topic-init : goal.loop-topic-init
loop-topic-init c = record {
  text = text_none (publisher) (λ p. flat_map ended (publisher_lines p)) c.args.draws.now c.args.out.now.items;
  state = sym (behind_none (publisher) c.args.draws.now);
}

pub loop-topic-preserved : goal.loop-topic-preserved
loop-topic-preserved c =
    let l = c.loop-topic in
    record {
      text = c.in_ok-put_publisher.ensures.text ∙ text_more (publisher) (λ p. flat_map ended (publisher_lines p)) l.topic c.args.draws.now l.draws c.args.out.now.items l.out.items l.invariant.text l.invariant.state;
      state = c.in_ok-put_publisher.ensures.state ∙ state_more (publisher) l.topic c.args.draws.now l.draws l.invariant.state;
    }

pub returns-clause-text : goal.returns-clause-text
returns-clause-text c =
    let l = c.loop-topic in
    let all : l.topic ≡ 16 = omega (arith, c.loop-topic-test.false, l.auto.topic-end) in
    l.invariant.text ∙ ap (λ (k : ℕ). c.args.out.now.items ++ flat_map (λ p. flat_map ended (publisher_lines p)) (made (publisher) k c.args.draws.now)) all
    ∙ ap (λ (t : List ℕ). c.args.out.now.items ++ t) (sym (lines_text publisher_lines (made (publisher) 16 c.args.draws.now)))

pub returns-clause-state : goal.returns-clause-state
returns-clause-state c =
    let l = c.loop-topic in
    let all : l.topic ≡ 16 = omega (arith, c.loop-topic-test.false, l.auto.topic-end) in
    l.invariant.state ∙ ap (λ (k : ℕ). behind (publisher) k c.args.draws.now) all
