use Rattle.std.proofs.Common.{ℕ, List, map, ap, sym, subst, ◌∙◌}
use Rattle.std.specs.Prelude.{Option}
use Rattle.std.specs.Global.{Vec}
use Rattle.mama_event.specs.declared.shape.Shape.{Shape}
use Rattle.mama_check_order.specs.declared.order.Need.{Need}
use Rattle.mama_check_order.specs.Turns.{IsWhole}
use Rattle.mama_replay.specs.Ranks.{AreRanks}
use Rattle.mama_replay.proofs.Replays.{AreInPasses, followed_all, causal_all}
use Rattle.mama_replay.proofs.replaying.follow.Goals as goal

pub returns-clause-followed : goal.returns-clause-followed
returns-clause-followed c =
    let g = λ (own : Vec ℕ). own.items in
    let turns = c.args.turns.now in
    let ranks = map g c.in_ok-ranks.ranks.items in
    let whole = subst (λ (needs : List (List (Option Need))). IsWhole needs turns) c.requires.needs c.requires.turns in
    let ranked = subst (λ (needs : List (List (Option Need))). AreRanks needs turns ranks) c.requires.needs c.in_ok-ranks.ensures in
    let dealt = subst (λ (clients : ℕ). AreInPasses clients c.args.run.now ranks c.in_ok-steps.steps.items) (ap (λ (s : Shape). s.clients) c.shape-shape.ensures.value)
    (subst (λ (lists : List (Vec ℕ)). AreInPasses c.shape-shape.result.now.clients c.args.run.now (map g lists) c.in_ok-steps.steps.items) c.deref.ensures.value c.in_ok-steps.ensures) in
    c.in_ok-record.ensures ∙ sym (followed_all c.args.script.now c.args.run.now c.shape-shape.ensures.script.shaped c.requires.legal turns ranks whole ranked c.in_ok-steps.steps.items dealt).1

pub returns-clause-steps : goal.returns-clause-steps
returns-clause-steps c =
    let g = λ (own : Vec ℕ). own.items in
    let turns = c.args.turns.now in
    let ranks = map g c.in_ok-ranks.ranks.items in
    let whole = subst (λ (needs : List (List (Option Need))). IsWhole needs turns) c.requires.needs c.requires.turns in
    let ranked = subst (λ (needs : List (List (Option Need))). AreRanks needs turns ranks) c.requires.needs c.in_ok-ranks.ensures in
    let dealt = subst (λ (clients : ℕ). AreInPasses clients c.args.run.now ranks c.in_ok-steps.steps.items) (ap (λ (s : Shape). s.clients) c.shape-shape.ensures.value)
    (subst (λ (lists : List (Vec ℕ)). AreInPasses c.shape-shape.result.now.clients c.args.run.now (map g lists) c.in_ok-steps.steps.items) c.deref.ensures.value c.in_ok-steps.ensures) in
    (followed_all c.args.script.now c.args.run.now c.shape-shape.ensures.script.shaped c.requires.legal turns ranks whole ranked c.in_ok-steps.steps.items dealt).0

pub returns-clause-causal : goal.returns-clause-causal
returns-clause-causal c =
    let turns = c.args.turns.now in
    causal_all c.args.script.now c.args.run.now c.shape-shape.ensures.script.shaped c.requires.legal turns
    (subst (λ (needs : List (List (Option Need))). IsWhole needs turns) c.requires.needs c.requires.turns)
