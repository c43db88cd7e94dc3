use Rattle.std.proofs.Common.{◌≡◌, List, [], ◌∷◌, ◌++◌, ap, ◌∙◌, subst}
use Rattle.std.specs.List.{All}
use Rattle.std.proofs.lemmas.List.Elements.{All-head, All-tail}
use Rattle.mama_journal.specs.Lane.{by_port, IsEdge}
use Rattle.mama_lane.specs.Values.{PortValue}
use Rattle.mama_lane.proofs.tests.close_both.Goals as goal

-- the two ports were handed in
both_items : {A : Type 0} (zero one : A) (room first second : List A) → room ≡ [] → first ≡ room ++ zero ∷ [] → second ≡ first ++ one ∷ [] → second ≡ zero ∷ (one ∷ [])
both_items {A} zero one room first second none a b = b ∙ ap (λ (l : List A). l ++ one ∷ []) (a ∙ ap (λ (l : List A). l ++ zero ∷ []) none)

pub returns-clause-zero : goal.returns-clause-zero
returns-clause-zero g c =
    let P : PortValue g.row.E-Note.Denot → Type 0 = λ port. IsEdge g.E.Stream.last (by_port port.number c.args.taker.taken) port.put in
    let zero = c.args.zero in let one = c.args.one in
    (All-head P zero (one ∷ []) (subst (All P) (both_items zero one _ _ _ c.requires.room.0 c.push_reserved.ensures.items c.push_reserved-2.ensures.items) c.close_lane.ensures)).whole

pub returns-clause-one : goal.returns-clause-one
returns-clause-one g c =
    let P : PortValue g.row.E-Note.Denot → Type 0 = λ port. IsEdge g.E.Stream.last (by_port port.number c.args.taker.taken) port.put in
    let zero = c.args.zero in let one = c.args.one in
    (All-head P one [] (All-tail P zero (one ∷ []) (subst (All P) (both_items zero one _ _ _ c.requires.room.0 c.push_reserved.ensures.items c.push_reserved-2.ensures.items) c.close_lane.ensures))).whole
