use Rattle.std.proofs.Common.{ℕ, List, [], length, map, get_or, sym, ap, ◌∙◌, true≢false, below_more}
use Rattle.std.specs.Prelude.{◌==◌}
use Rattle.std.specs.Borrow.{Bor}
use Rattle.std.proofs.lemmas.Bool.{eqb-true}
use Rattle.std.proofs.lemmas.List.{get_or-map, nil_from_length}
use Rattle.mama_check_order.proofs.walk.are_empty.Goals as goal

pub returns-then-not-is_empty : goal.returns-then-not-is_empty
returns-then-not-is_empty g c =
    let here = get_or-map (λ (list : Bor (List (ℕ × g.row.N.Denot))). list.now) c.args.left.now c.loop-list.list-index c.list-item.result [] c.loop-list-test.true ∙ sym (ap (λ (list : Bor (List (ℕ × g.row.N.Denot))). list.now) c.list-item.is) in
    (λ e. absurd (true≢false (sym e)), λ h. sym (sym c.is_empty.ensures ∙ c.if-not-is_empty.true) ∙ ap (λ (xs : List (ℕ × g.row.N.Denot)). length xs == 0) (sym here ∙ h c.loop-list.list-index))

pub loop-list-preserved : goal.loop-list-preserved
loop-list-preserved g c =
    let here = get_or-map (λ (list : Bor (List (ℕ × g.row.N.Denot))). list.now) c.args.left.now c.loop-list.list-index c.list-item.result [] c.loop-list-test.true ∙ sym (ap (λ (list : Bor (List (ℕ × g.row.N.Denot))). list.now) c.list-item.is) in
    below_more _ _ c.loop-list.invariant (here ∙ nil_from_length c.list-item.result.now (eqb-true (length c.list-item.result.now) 0 (sym c.is_empty.ensures ∙ c.if-not-is_empty.false)))
