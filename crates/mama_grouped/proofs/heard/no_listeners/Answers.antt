use Rattle.std.specs.List.{AllByRecursion}
use Rattle.std.proofs.Common.{◌≡◌, ◌++◌, ◌∷◌, [], None, length, sym, ap, subst, length-append, arith}
use Rattle.mama_group.specs.Listener.{told}
use Rattle.mama_grouped.proofs.Gathered.{none_found, none_more}
use Rattle.mama_grouped.proofs.heard.no_listeners.Goals as goal

pub loop-place-preserved : goal.loop-place-preserved
loop-place-preserved g c =
    let pushed : c.push.new.self.items ≡ c.loop-place.listeners.items ++ None ∷ [] = c.in_ok-push.ensures.items in
    let more = ap length pushed in
    let one = length-append c.loop-place.listeners.items (None ∷ []) in
    record {
      none = subst (AllByRecursion (λ o. o ≡ None)) (sym pushed) (none_more c.loop-place.listeners.items c.loop-place.invariant.none);
      long = omega (arith, more, one, c.loop-place.invariant.long);
    }

pub returns-clause-listeners : goal.returns-clause-listeners
returns-clause-listeners g c = λ by. none_found (told g.H.GroupListener.tagged g.H.GroupListener.calls g.H.GroupListener.heard) by c.loop-place.listeners.items c.loop-place.invariant.none
