use Rattle.std.proofs.Common.{◌≡◌, true, sym, ◌∙◌, ap, eq-eqb}
use Rattle.mama_bridge.specs.Links.{SubView, row_is_on}
use Rattle.mama_bridge.proofs.subs.pass_if.Goals as goal

pub returns-then-link-topic-clause-step : goal.returns-then-link-topic-clause-step
returns-then-link-topic-clause-step g c row m same holds none =
    let on : row_is_on c.args.topic row ≡ true = eq-eqb c.args.topic row.terms.topic (sym c.if-link-topic.true ∙ ap (λ (v : SubView). v.topic) same) in
    let here = holds (eq-eqb c.args.link.now.topic c.args.topic c.if-link-topic.true) in
    rw on (c.pass.ensures.passed row m same here, c.pass.ensures.out row m same here none, c.pass.ensures.msgs row m same here none)
