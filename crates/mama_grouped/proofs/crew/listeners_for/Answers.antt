use Rattle.std.proofs.Common.{◌≡◌, ◌+◌, ◌++◌, ◌∷◌, ℕ, [], map, take, sym, ap, subst, ◌∙◌, arith}
use Rattle.std.proofs.lemmas.List.{take_more, map-append}
use Rattle.mama_event.specs.declared.group.GroupRow.{GroupRow}
use Rattle.mama_group.specs.Listener.{GroupListenerData, IsNew, told}
use Rattle.mama_gather.proofs.LaneEnds.{zip_more}
use Rattle.mama_grouped.specs.Opening.{AreNew}
use Rattle.mama_grouped.proofs.crew.listeners_for.Goals as goal

pub loop-row-preserved : goal.loop-row-preserved
loop-row-preserved g c =
    let view = told g.H.GroupListener.tagged g.H.GroupListener.calls g.H.GroupListener.heard in
    let rows = c.args.rows.now in
    let i = c.loop-row.row-index in
    let row = c.row-item.result in
    let done = c.loop-row.listeners.items in
    let listener = c.in_ok-listener.listener in
    let next : take (i + 1) rows ≡ take i rows ++ row ∷ [] = take_more rows i row (omega arith) ∙ ap (λ r. take i rows ++ r ∷ []) (sym c.row-item.is) in
    let pushed : c.push.new.self.items ≡ done ++ listener ∷ [] = c.in_ok-push.ensures.items in
    let seen : map view c.push.new.self.items ≡ map view done ++ view listener ∷ [] = ap (λ ls. map view ls) pushed ∙ map-append view done (listener ∷ []) in
    subst (λ rs. AreNew rs (map view c.push.new.self.items)) (sym next)
    (subst (λ ls. AreNew (take i rows ++ row ∷ []) ls) (sym seen)
    (zip_more (λ (r : ℕ × GroupRow) (l : GroupListenerData). IsNew r.0 l) (take i rows) row (map view done) (view listener) c.loop-row.invariant c.in_ok-listener.ensures))
