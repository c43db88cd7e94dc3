use Rattle.std.proofs.Common.{◌≡◌, ◌+◌, ◌++◌, ◌∷◌, ℕ, List, [], Some, length, map, rules, sym, ap, subst, ◌∙◌, append_assoc, length-append, arith}
use Rattle.std.proofs.lemmas.List.{map-append, length-map}
use Rattle.mama_group.specs.Listener.{told}
use Rattle.mama_grouped.specs.Closing.{AreInOrder}
use Rattle.mama_grouped.specs.Seat.{HasHeard}
use Rattle.mama_grouped.proofs.Gathered.{seam_is, order_more}
use Rattle.mama_grouped.proofs.heard.listeners_in_order.Goals as goal

pub overflow_cast-number : goal.overflow_cast-number
overflow_cast-number g c =
    let first : c.loop-place.place-iterator.rest.items ≡ c.in-Some.place ∷ c.next.new.self.rest.items = search rules in
    let one = ap length c.loop-place.invariant.whole in
    let two = length-append (map (λ b. Some b.1) c.loop-place.listeners.items) c.loop-place.place-iterator.rest.items in
    let three = length-map c.loop-place.listeners.items (λ b. Some b.1) in
    omega (arith, one, two, three, c.requires, c.len-number.ensures, c.loop-place.listeners.ok.0)

pub loop-place-preserved : goal.loop-place-preserved
loop-place-preserved g c =
    let view = told g.H.GroupListener.tagged g.H.GroupListener.calls g.H.GroupListener.heard in
    let done = c.loop-place.listeners.items in
    let rest = c.next.new.self.rest.items in
    let listener = c.in-Some-place.listener in
    let number : ℕ = c.len-number.result in
    let first : c.loop-place.place-iterator.rest.items ≡ c.in-Some.place ∷ rest = search rules in
    let whole : map (λ b. Some b.1) done ++ Some listener ∷ rest ≡ c.args.found.items =
    ap (λ o. map (λ b. Some b.1) done ++ o ∷ rest) (sym c.in-Some-place.is) ∙ ap (λ os. map (λ b. Some b.1) done ++ os) (sym first) ∙ c.loop-place.invariant.whole in
    let at : number ≡ length done = omega (arith, c.len-number.ensures, c.loop-place.listeners.ok.0) in
    let pushed : c.push.new.self.items ≡ done ++ (number, listener) ∷ [] = c.in_ok-push.ensures.items in
    record {
      order = (λ by found.
          let heard : HasHeard number (by number) (view listener) =
          subst (λ (n : ℕ). HasHeard n (by n) (view listener)) (sym at)
          (found (length done) listener (seam_is done listener rest c.args.found.items whole)) in
          subst (λ bs. AreInOrder view by 0 bs) (sym pushed) (order_more view by 0 done number listener (omega (arith, at)) heard (c.loop-place.invariant.order by found)));
      whole =
          ap (λ bs. map (λ b. Some b.1) bs ++ rest) pushed
          ∙ ap (λ os. os ++ rest) (map-append (λ b. Some b.1) done ((number, listener) ∷ []))
          ∙ append_assoc (map (λ b. Some b.1) done) (Some listener ∷ []) rest
          ∙ whole;
    }
