use Rattle.std.proofs.Common.{◌≡◌, ℕ, List, ◌++◌, sym, ap, ◌∙◌, arith}
use Rattle.std.specs.List.{flat_map}
use Rattle.mama_script.specs.Line.{ended}
use Rattle.mama_script.specs.Tree.{client_lines}
use Rattle.mama_gen.specs.Generated.{client}
use Rattle.mama_gen.proofs.Each.{made, behind, behind_none, text_none, text_more, state_more}
use Rattle.mama_gen.proofs.Written.{lines_text}
use Rattle.mama_gen.proofs.text.put_clients.Goals as goal

pub loop-init : goal.loop-init
loop-init c = record {
  text = text_none (λ n. client) (λ t. flat_map ended (client_lines t)) c.args.draws.now c.args.out.now.items;
  state = sym (behind_none (λ n. client) c.args.draws.now);
}

pub loop-preserved : goal.loop-preserved
loop-preserved c =
    let l = c.loop in
    record {
      text = c.in_ok-put_client.ensures.text ∙ text_more (λ n. client) (λ t. flat_map ended (client_lines t)) l.counter c.args.draws.now l.draws c.args.out.now.items l.out.items l.invariant.text l.invariant.state;
      state = c.in_ok-put_client.ensures.state ∙ state_more (λ n. client) l.counter c.args.draws.now l.draws l.invariant.state;
    }

pub returns-clause-text : goal.returns-clause-text
returns-clause-text c =
    let l = c.loop in
    let all : l.counter ≡ 4 = omega (arith, c.loop-test.false, l.auto.counter-end) in
    l.invariant.text ∙ ap (λ (k : ℕ). c.args.out.now.items ++ flat_map (λ t. flat_map ended (client_lines t)) (made (λ n. client) k c.args.draws.now)) all
    ∙ ap (λ (t : List ℕ). c.args.out.now.items ++ t) (sym (lines_text client_lines (made (λ n. client) 4 c.args.draws.now)))

pub returns-clause-state : goal.returns-clause-state
returns-clause-state c =
    let l = c.loop in
    let all : l.counter ≡ 4 = omega (arith, c.loop-test.false, l.auto.counter-end) in
    l.invariant.state ∙ ap (λ (k : ℕ). behind (λ n. client) k c.args.draws.now) all
