use Rattle.std.proofs.Common.{◌≡◌, ◌<◌, List, length, [], ◌∷◌, get_or, drop, sym, ap, rules, arith}
use Rattle.std.proofs.lemmas.Grind.{common_steps}
use Rattle.mama_tests_crew.proofs.turning.first_out.Goals as goal

-- the first of a list before what is left once it is taken out
taken_out : {X : Type 0} (all : List X) (first : X) → 0 < length all → first ≡ get_or all 0 first → all ≡ first ∷ drop 1 all
taken_out [] first some at = absurd (omega (arith, some))
taken_out {X} (x ∷ xs) first some at = ap (λ (y : X). y ∷ xs) (sym at)

pub returns : goal.returns
returns g c =
    let some : 0 < length c.args.items.now.items = first_of (search rules, grind (arith, common_steps)) in
    rw c.remove.ensures.items (taken_out c.args.items.now.items c.remove.result some c.remove.ensures.value)
