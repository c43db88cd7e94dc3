use Rattle.std.proofs.Common.{◌≡◌, ◌||◌, ◌&&◌, ◌==◌, not, Bool, false, get_or, List, ℕ, ◌<◌, length, arith, ap, ◌∙◌, sym}
use Rattle.std.specs.List.{count_by}
use Rattle.std.proofs.lemmas.Bool.Decides.{nat_tests}
use Rattle.std.proofs.lemmas.List.{get_or_default}
use Rattle.mama_timer.proofs.Rolls.{full_with}
use Rattle.mama_timer.proofs.roll.Roll.is_full_with.Goals as goal

one_left : (xs : List Bool) (one left : ℕ) (said full : Bool) → full ≡ (left == 0 || (left == 1 && not (get_or xs one false))) → (left ≡ 0 → ⊥) → left ≡ 1 → said ≡ get_or xs one said → one < length xs → not said ≡ full
one_left xs one left said full f zero one_more is within =
    let there : get_or xs one said ≡ get_or xs one false = get_or_default xs one said false within in
    sym (f ∙ ap (λ (n : ℕ). n == 0 || (n == 1 && not (get_or xs one false))) one_more ∙ ap not (sym (is ∙ there)))

pub returns-then-self-eq0 : goal.returns-then-self-eq0
returns-then-self-eq0 c =
    let full = full_with c.args.self.now c.args.one c.self.inside.left c.requires (c.self.invariant ∙ ap (count_by not) c.self.view_is) in
    grind (arith, nat_tests, full)

pub returns-then-self-eq1 : goal.returns-then-self-eq1
returns-then-self-eq1 c =
    let full = full_with c.args.self.now c.args.one c.self.inside.left c.requires (c.self.invariant ∙ ap (count_by not) c.self.view_is) in
    one_left _ _ _ _ _ full (c.if-self-eq0.false) (c.if-self-eq1.true) (c.index.ensures ∙ ap (λ (xs : List Bool). get_or xs c.args.one c.index.result.now) c.self.view_is) c.requires

pub returns-else-self-eq1 : goal.returns-else-self-eq1
returns-else-self-eq1 c =
    let full = full_with c.args.self.now c.args.one c.self.inside.left c.requires (c.self.invariant ∙ ap (count_by not) c.self.view_is) in
    grind (arith, nat_tests, full)
