use Rattle.std.proofs.Common.{◌∙◌, ℕ, ◌+◌, ap, sym, refl, drop, List}
use Rattle.std.proofs.lemmas.List.{drop_all}
use Rattle.mama_script.specs.declared.client.ClientLine.{ClientLine}
use Rattle.mama_rules_rounds.specs.Client.{bridge_part, timers_part}
use Rattle.mama_check_puts.specs.Client.{to_bridge_in_all, to_timers_in_all}
use Rattle.mama_check_puts.proofs.TellerSteps.{next_line, starts}
use Rattle.mama_check_puts.proofs.client.puts_of_client.Goals as goal

pub loop-line-init : goal.loop-line-init
loop-line-init c = record {
  place = refl;
  bridge = starts bridge_part c.args.queues c.args.number c.args.moments.now c.args.lines.now c.none.result c.new.result.items c.new.ensures.items c.none.ensures;
  timers = starts timers_part c.args.queues c.args.number c.args.moments.now c.args.lines.now c.none.result c.new-2.result.items c.new-2.ensures.items c.none.ensures;
}

pub loop-line-preserved : goal.loop-line-preserved
loop-line-preserved c =
    let rest = drop (c.loop-line.line-index + 1) c.args.lines.now in
    let left = next_line c.args.lines.now c.loop-line.line-index c.line-item.result c.loop-line-test.true c.line-item.is in
    record {
      place = c.in_ok-tell.ensures.place ∙ ap (λ (n : ℕ). n + 1) c.loop-line.invariant.place;
      bridge = c.in_ok-tell.ensures.bridge rest ∙ ap (λ (ls : List ClientLine). to_bridge_in_all c.loop-line.teller ls) (sym left) ∙ c.loop-line.invariant.bridge;
      timers = c.in_ok-tell.ensures.timers rest ∙ ap (λ (ls : List ClientLine). to_timers_in_all c.loop-line.teller ls) (sym left) ∙ c.loop-line.invariant.timers;
    }

pub returns : goal.returns
returns c =
    let none = drop_all c.loop-line.line-index c.args.lines.now c.loop-line-test.false in
    record {
      bridge = c.in_ok-last_words.ensures.bridge ∙ ap (λ (ls : List ClientLine). to_bridge_in_all c.loop-line.teller ls) (sym none) ∙ c.loop-line.invariant.bridge;
      timers = c.in_ok-last_words.ensures.timers ∙ ap (λ (ls : List ClientLine). to_timers_in_all c.loop-line.teller ls) (sym none) ∙ c.loop-line.invariant.timers;
    }
