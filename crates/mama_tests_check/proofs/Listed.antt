-- A queue without groups and watches can be served.
use Rattle.std.specs.Prelude.{◌≡◌, ℕ, zero, suc, List, [], ◌∷◌, map, slice_index_or}
use Rattle.std.specs.Global.{Vec}
use Rattle.std.proofs.Common.{refl, ap, sym, subst, ◌∙◌}
use Rattle.mama_event.specs.declared.group.GroupRow.{GroupRow}
use Rattle.mama_event.specs.declared.watch.WatchRow.{WatchRow}
use Rattle.mama_check_queue.specs.Listed.{AreListed, AreAllListed}

none_listed : AreListed [] []
none_listed = record { groups = tt; members = tt; distinct = refl; watches = tt }

one_listed : (q : ℕ) → AreListed (slice_index_or ([] ∷ []) q []) (slice_index_or ([] ∷ []) q [])
one_listed zero = none_listed
one_listed (suc q) = none_listed

-- where each has one list, which is empty
pub none_each : (groups : List (Vec (ℕ × GroupRow))) (watches : List (Vec (ℕ × WatchRow))) (g : Vec (ℕ × GroupRow)) (w : Vec (ℕ × WatchRow))
    → groups ≡ g ∷ [] → watches ≡ w ∷ [] → g.items ≡ [] → w.items ≡ [] → AreAllListed (map (λ list. list.items) groups) (map (λ list. list.items) watches)
none_each groups watches g w one_group one_watch no_groups no_watches =
    let of_groups : map (λ (list : Vec (ℕ × GroupRow)). list.items) groups ≡ [] ∷ [] =
    ap (map (λ (list : Vec (ℕ × GroupRow)). list.items)) one_group ∙ ap (λ (rows : List (ℕ × GroupRow)). rows ∷ []) no_groups in
    let of_watches : map (λ (list : Vec (ℕ × WatchRow)). list.items) watches ≡ [] ∷ [] =
    ap (map (λ (list : Vec (ℕ × WatchRow)). list.items)) one_watch ∙ ap (λ (rows : List (ℕ × WatchRow)). rows ∷ []) no_watches in
    subst (λ (gs : List (List (ℕ × GroupRow))). AreAllListed gs (map (λ (list : Vec (ℕ × WatchRow)). list.items) watches)) (sym of_groups)
    (subst (λ (ws : List (List (ℕ × WatchRow))). AreAllListed ([] ∷ []) ws) (sym of_watches) one_listed)
