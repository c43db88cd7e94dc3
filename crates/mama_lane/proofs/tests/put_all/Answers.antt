use Rattle.std.proofs.Common.{◌≡◌, List, [], ◌∷◌, ◌++◌, map, sym, ap, ◌∙◌, subst, append_assoc}
use Rattle.mama_lane.proofs.tests.put_all.Goals as goal

-- the first of the events that are left may be put
first_lawful : {A N : Type 0} (lawful : List N → Type 0) (prefix : (front back : List N) → lawful (front ++ back) → lawful front) (noted : A → N) (put : List N) (event : A) (rest all : List A) → all ≡ event ∷ rest
    → lawful (put ++ map noted all) → lawful (put ++ noted event ∷ [])
first_lawful {A} {N} lawful prefix noted put event rest all is may =
    prefix (put ++ noted event ∷ []) (map noted rest) (subst lawful (ap (λ (l : List A). put ++ map noted l) is ∙ sym (append_assoc put (noted event ∷ []) (map noted rest))) may)

pub put-requires-clause-lawful : goal.put-requires-clause-lawful
put-requires-clause-lawful g c =
    let i = c.loop-event.invariant in
    first_lawful (g.E.Stream.lawful _ _) (g.met.E.Stream.lawful_prefix _ _) g.E.Stream.noted _ _ _ _ c.in-Some.ensures.steps.0
    (rw (i.bounds, i.number, i.put, c.into_iter-event-iterator.ensures.into_iter_gives.0) c.requires.lawful)
