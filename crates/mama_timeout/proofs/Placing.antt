-- A tick that counts changes the one watch of its timer, and no other.
use Rattle.std.proofs.Common.{◌≡◌, ℕ, zero, suc, ◌+◌, ◌<◌, Bool, true, false, cond, eqb, List, [], ◌∷◌, ◌++◌, length, map, set, Option, None, Some, unwrap_or, refl, sym, ap, subst, ◌∙◌, append-nil, arith}
use Rattle.std.specs.Prelude.{◌||◌, slice_get, is_none, vec_len, vec_capacity}
use Rattle.std.specs.Global.{Vec}
use Rattle.std.specs.List.{flat_map, list_any, AllByRecursion}
use Rattle.std.proofs.lemmas.Bool.{eqb-true, eqb-false, or_parts}
use Rattle.std.proofs.lemmas.List.{length-set}
use Rattle.indexmap.specs.IndexMap.{IndexMap, get}
use Rattle.mama_event.specs.declared.ids.TimerId.{TimerId}
use Rattle.mama_event.specs.declared.ids.SubId.{SubId}
use Rattle.mama_event.specs.declared.watch.WatchNote.{WatchNote}
use Rattle.mama_event.specs.Object.{same_timer}
use Rattle.mama_rules_queue.specs.Queue.{QueuePut}
use Rattle.mama_rules_queue.specs.Watch.{wish_in}
use Rattle.mama_timeout.specs.declared.table.Watch.{Watch}
use Rattle.mama_timeout.specs.Table.{WatchData, next_notes, ticked, tick_wishes, counted_at, count_wishes, first_sub}
use Rattle.mama_timeout.specs.Kept.{watch_of, IsPlaceOf, IsKept}

-- ---- lists

set_same : {X : Type 0} (xs : List X) (i : ℕ) (y x : X) → slice_get xs i ≡ Some x → slice_get (set xs i y) i ≡ Some y
set_same [] i y x at = absurd cc
set_same (z ∷ zs) zero y x at = refl
set_same (z ∷ zs) (suc i) y x at = set_same zs i y x at

set_other : {X : Type 0} (xs : List X) (i k : ℕ) (y : X) → (k ≡ i → ⊥) → slice_get (set xs i y) k ≡ slice_get xs k
set_other [] i k y apart = refl
set_other (z ∷ zs) zero zero y apart = absurd (apart refl)
set_other (z ∷ zs) zero (suc k) y apart = refl
set_other (z ∷ zs) (suc i) zero y apart = refl
set_other (z ∷ zs) (suc i) (suc k) y apart = set_other zs i k y (λ e. apart (ap (λ (n : ℕ). suc n) e))

pub some_same : {X : Type 0} (x y : X) → Some x ≡ Some y → x ≡ y
some_same x y e = ap (λ o. unwrap_or o x) e

pub no_place : (o : Option ℕ) → is_none o ≡ true → o ≡ None
no_place None e = refl
no_place (Some k) e = absurd cc

pub nothing : {X : Type 0} (o : Option X) → ((x : X) → o ≡ Some x → ⊥) → o ≡ None
nothing None not = refl
nothing (Some x) not = absurd (not x refl)

-- where no place was found there is none
pub unplaced : (t : TimerId) (watches : List Watch) (o : Option ℕ) → ((k : ℕ) → o ≡ Some k → ⊥) → IsPlaceOf t watches o → IsPlaceOf t watches None
unplaced t watches None not placed = placed
unplaced t watches (Some k) not placed = absurd (not k refl)

out : (b : Bool) → (b ≡ true → ⊥) → b ≡ false
out true never = absurd (never refl)
out false never = refl

-- ---- the watches of other timers

abbrev no_puts : List QueuePut
no_puts = []

module _ (t : TimerId) (moment : ℕ) where
  -- it depends on nothing but whether the subscription of the timer's watch is missed
  pub ticked_alike : (f g : SubId → Bool) (ws : List WatchData) → AllByRecursion (λ (w : WatchData). same_timer w.row.timer t ≡ true → f w.row.sub ≡ g w.row.sub) ws
      → map (ticked t moment f) ws ≡ map (ticked t moment g) ws
  ticked_alike f g [] alike = refl
  ticked_alike f g (w ∷ ws) alike =
      ap (λ (x : WatchData). x ∷ map (ticked t moment f) ws) (by (same_timer w.row.timer t) alike.0) ∙ ap (λ (xs : List WatchData). ticked t moment g w ∷ xs) (ticked_alike f g ws alike.1)
    where
      by : (b : Bool) → (b ≡ true → f w.row.sub ≡ g w.row.sub)
          → cond b (cond (f w.row.sub) (record w { notes = w.notes ++ next_notes w moment }) w) w ≡ cond b (cond (g w.row.sub) (record w { notes = w.notes ++ next_notes w moment }) w) w
      by true h = ap (λ (x : Bool). cond x (record w { notes = w.notes ++ next_notes w moment }) w) (h refl)
      by false h = refl

  pub wished_alike : (f g : SubId → Bool) (ws : List WatchData) → AllByRecursion (λ (w : WatchData). same_timer w.row.timer t ≡ true → f w.row.sub ≡ g w.row.sub) ws
      → flat_map (tick_wishes t moment f) ws ≡ flat_map (tick_wishes t moment g) ws
  wished_alike f g [] alike = refl
  wished_alike f g (w ∷ ws) alike =
      ap (λ (x : List QueuePut). x ++ flat_map (tick_wishes t moment f) ws) (by (same_timer w.row.timer t) alike.0) ∙ ap (λ (xs : List QueuePut). tick_wishes t moment g w ++ xs) (wished_alike f g ws alike.1)
    where
      by : (b : Bool) → (b ≡ true → f w.row.sub ≡ g w.row.sub)
          → cond b (cond (f w.row.sub) (flat_map (wish_in w.row) (next_notes w moment)) []) [] ≡ cond b (cond (g w.row.sub) (flat_map (wish_in w.row) (next_notes w moment)) []) []
      by true h = ap (λ (x : Bool). cond x (flat_map (wish_in w.row) (next_notes w moment)) []) (h refl)
      by false h = refl

  pub ticked_never : (ws : List WatchData) → map (ticked t moment (λ s. false)) ws ≡ ws
  ticked_never [] = refl
  ticked_never (w ∷ ws) = ap (λ (x : WatchData). x ∷ map (ticked t moment (λ s. false)) ws) (by (same_timer w.row.timer t)) ∙ ap (λ (xs : List WatchData). w ∷ xs) (ticked_never ws)
    where
      by : (b : Bool) → cond b w w ≡ w
      by true = refl
      by false = refl

  pub wished_never : (ws : List WatchData) → flat_map (tick_wishes t moment (λ s. false)) ws ≡ []
  wished_never [] = refl
  wished_never (w ∷ ws) = ap (λ (x : List QueuePut). x ++ flat_map (tick_wishes t moment (λ s. false)) ws) (by (same_timer w.row.timer t)) ∙ wished_never ws
    where
      by : (b : Bool) → cond b no_puts no_puts ≡ no_puts
      by true = refl
      by false = refl

  -- each watch of the timer is of one subscription
  pub of_sub : (f g : SubId → Bool) (sub : SubId) (found : Option SubId) (ws : List WatchData) → found ≡ Some sub → f sub ≡ g sub
      → AllByRecursion (λ (w : WatchData). same_timer w.row.timer t ≡ true → found ≡ Some w.row.sub) ws
      → AllByRecursion (λ (w : WatchData). same_timer w.row.timer t ≡ true → f w.row.sub ≡ g w.row.sub) ws
  of_sub f g sub found [] is same only = tt
  of_sub f g sub found (w ∷ ws) is same only = (
    λ here. let at : sub ≡ w.row.sub = some_same sub w.row.sub (sym is ∙ only.0 here) in subst (λ (s : SubId). f s ≡ g s) at same,
    of_sub f g sub found ws is same only.1,
  )

  pub of_none : (f g : SubId → Bool) (found : Option SubId) (ws : List WatchData) → found ≡ None
      → AllByRecursion (λ (w : WatchData). same_timer w.row.timer t ≡ true → found ≡ Some w.row.sub) ws
      → AllByRecursion (λ (w : WatchData). same_timer w.row.timer t ≡ true → f w.row.sub ≡ g w.row.sub) ws
  of_none f g found [] is only = tt
  of_none f g found (w ∷ ws) is only = (λ here. let bad : None ≡ Some w.row.sub = sym is ∙ only.0 here in absurd cc, of_none f g found ws is only.1)

-- ---- the watch of a timer, by its place

module _ (t : TimerId) where
  pub sub_unplaced : (watches : List Watch) → list_any (λ (w : Watch). same_timer w.row.timer t) watches ≡ false → None ≡ first_sub t (map watch_of watches)
  sub_unplaced [] none = refl
  sub_unplaced (w ∷ ws) none =
      let p = or_parts (same_timer w.row.timer t) (list_any (λ (w : Watch). same_timer w.row.timer t) ws) none in
      sub_unplaced ws p.1 ∙ sym (ap (λ (b : Bool). cond b (Some w.row.sub) (first_sub t (map watch_of ws))) p.0)

  pub only_unplaced : (watches : List Watch) → list_any (λ (w : Watch). same_timer w.row.timer t) watches ≡ false
      → AllByRecursion (λ (w : WatchData). same_timer w.row.timer t ≡ true → None ≡ Some w.row.sub) (map watch_of watches)
  only_unplaced [] none = tt
  only_unplaced (w ∷ ws) none =
      let p = or_parts (same_timer w.row.timer t) (list_any (λ (w : Watch). same_timer w.row.timer t) ws) none in
      (λ here. let bad : true ≡ false = sym here ∙ p.0 in absurd cc, only_unplaced ws p.1)

  pub sub_placed : (watches : List Watch) (k : ℕ) (w : Watch) → slice_get watches k ≡ Some w → same_timer w.row.timer t ≡ true
      → ((j : ℕ) (v : Watch) → slice_get watches j ≡ Some v → same_timer v.row.timer t ≡ true → j ≡ k) → Some w.row.sub ≡ first_sub t (map watch_of watches)
  sub_placed [] k w at same only = absurd cc
  sub_placed (v ∷ vs) zero w at same only =
      let is : v ≡ w = some_same v w at in
      let here : same_timer v.row.timer t ≡ true = ap (λ (x : Watch). same_timer x.row.timer t) is ∙ same in
      ap (λ (x : Watch). Some x.row.sub) (sym is) ∙ sym (ap (λ (b : Bool). cond b (Some v.row.sub) (first_sub t (map watch_of vs))) here)
  sub_placed (v ∷ vs) (suc k) w at same only =
      let here : same_timer v.row.timer t ≡ false = out (same_timer v.row.timer t) (λ e. let bad : 0 ≡ suc k = only 0 v refl e in absurd (omega (arith, bad))) in
      sub_placed vs k w at same (λ j x found e. let more : suc j ≡ suc k = only (suc j) x found e in omega (arith, more))
      ∙ sym (ap (λ (b : Bool). cond b (Some v.row.sub) (first_sub t (map watch_of vs))) here)

  all_apart : (o : Option SubId) (watches : List Watch) → ((j : ℕ) (v : Watch) → slice_get watches j ≡ Some v → same_timer v.row.timer t ≡ true → ⊥)
      → AllByRecursion (λ (w : WatchData). same_timer w.row.timer t ≡ true → o ≡ Some w.row.sub) (map watch_of watches)
  all_apart o [] never = tt
  all_apart o (w ∷ ws) never = (λ e. absurd (never 0 w refl e), all_apart o ws (λ j v found e. never (suc j) v found e))

  pub only_placed : (watches : List Watch) (k : ℕ) (w : Watch) → slice_get watches k ≡ Some w
      → ((j : ℕ) (v : Watch) → slice_get watches j ≡ Some v → same_timer v.row.timer t ≡ true → j ≡ k)
      → AllByRecursion (λ (v : WatchData). same_timer v.row.timer t ≡ true → Some w.row.sub ≡ Some v.row.sub) (map watch_of watches)
  only_placed [] k w at only = tt
  only_placed (v ∷ vs) zero w at only = (
    λ e. ap (λ (x : Watch). Some x.row.sub) (sym (some_same v w at)),
    all_apart (Some w.row.sub) vs (λ j x found e. let bad : suc j ≡ 0 = only (suc j) x found e in absurd (omega (arith, bad))),
  )
  only_placed (v ∷ vs) (suc k) w at only = (
    λ e. let bad : 0 ≡ suc k = only 0 v refl e in absurd (omega (arith, bad)),
    only_placed vs k w at (λ j x found e. let more : suc j ≡ suc k = only (suc j) x found e in omega (arith, more)),
  )

  module _ (moment : ℕ) where
    unticked : (watches : List Watch) → ((j : ℕ) (v : Watch) → slice_get watches j ≡ Some v → same_timer v.row.timer t ≡ true → ⊥) → map watch_of watches ≡ map (counted_at t moment) (map watch_of watches)
    unticked [] never = refl
    unticked (v ∷ vs) never =
        let here : same_timer v.row.timer t ≡ false = out (same_timer v.row.timer t) (λ e. never 0 v refl e) in
        ap (λ (xs : List WatchData). watch_of v ∷ xs) (unticked vs (λ j x found e. never (suc j) x found e))
        ∙ ap (λ (b : Bool). cond b (record (watch_of v) { notes = v.notes.items ++ next_notes (watch_of v) moment }) (watch_of v) ∷ map (counted_at t moment) (map watch_of vs)) (sym here)

    unwished : (watches : List Watch) → ((j : ℕ) (v : Watch) → slice_get watches j ≡ Some v → same_timer v.row.timer t ≡ true → ⊥) → [] ≡ flat_map (count_wishes t moment) (map watch_of watches)
    unwished [] never = refl
    unwished (v ∷ vs) never =
        let here : same_timer v.row.timer t ≡ false = out (same_timer v.row.timer t) (λ e. never 0 v refl e) in
        unwished vs (λ j x found e. never (suc j) x found e)
        ∙ ap (λ (b : Bool). cond b (flat_map (wish_in v.row) (next_notes (watch_of v) moment)) [] ++ flat_map (count_wishes t moment) (map watch_of vs)) (sym here)

    none_of : (watches : List Watch) → list_any (λ (w : Watch). same_timer w.row.timer t) watches ≡ false → (j : ℕ) (v : Watch) → slice_get watches j ≡ Some v → same_timer v.row.timer t ≡ true → ⊥
    none_of [] none j v found e = cc
    none_of (w ∷ ws) none zero v found e =
        let p = or_parts (same_timer w.row.timer t) (list_any (λ (w : Watch). same_timer w.row.timer t) ws) none in
        let is : w ≡ v = some_same w v found in
        let bad : true ≡ false = sym (ap (λ (x : Watch). same_timer x.row.timer t) is ∙ e) ∙ p.0 in
        cc
    none_of (w ∷ ws) none (suc j) v found e =
        let p = or_parts (same_timer w.row.timer t) (list_any (λ (w : Watch). same_timer w.row.timer t) ws) none in
        none_of ws p.1 j v found e

    pub count_unplaced : (watches : List Watch) → list_any (λ (w : Watch). same_timer w.row.timer t) watches ≡ false → map watch_of watches ≡ map (counted_at t moment) (map watch_of watches)
    count_unplaced watches none = unticked watches (none_of watches none)

    pub wish_unplaced : (watches : List Watch) → list_any (λ (w : Watch). same_timer w.row.timer t) watches ≡ false → [] ≡ flat_map (count_wishes t moment) (map watch_of watches)
    wish_unplaced watches none = unwished watches (none_of watches none)

    pub count_placed : (watches : List Watch) (k : ℕ) (w after : Watch) → slice_get watches k ≡ Some w → same_timer w.row.timer t ≡ true
        → ((j : ℕ) (v : Watch) → slice_get watches j ≡ Some v → same_timer v.row.timer t ≡ true → j ≡ k)
        → watch_of after ≡ record (watch_of w) { notes = w.notes.items ++ next_notes (watch_of w) moment }
        → map watch_of (set watches k after) ≡ map (counted_at t moment) (map watch_of watches)
    count_placed [] k w after at same only is = absurd cc
    count_placed (v ∷ vs) zero w after at same only is =
        let same_one : v ≡ w = some_same v w at in
        let here : same_timer v.row.timer t ≡ true = ap (λ (x : Watch). same_timer x.row.timer t) same_one ∙ same in
        ap (λ (xs : List WatchData). watch_of after ∷ xs) (unticked vs (λ j x found e. let bad : suc j ≡ 0 = only (suc j) x found e in absurd (omega (arith, bad))))
        ∙ ap (λ (x : WatchData). x ∷ map (counted_at t moment) (map watch_of vs))
        (is
        ∙ ap (λ (x : Watch). record (watch_of x) { notes = x.notes.items ++ next_notes (watch_of x) moment }) (sym same_one)
        ∙ ap (λ (b : Bool). cond b (record (watch_of v) { notes = v.notes.items ++ next_notes (watch_of v) moment }) (watch_of v)) (sym here))
    count_placed (v ∷ vs) (suc k) w after at same only is =
        let here : same_timer v.row.timer t ≡ false = out (same_timer v.row.timer t) (λ e. let bad : 0 ≡ suc k = only 0 v refl e in absurd (omega (arith, bad))) in
        ap (λ (xs : List WatchData). watch_of v ∷ xs) (count_placed vs k w after at same (λ j x found e. let more : suc j ≡ suc k = only (suc j) x found e in omega (arith, more)) is)
        ∙ ap (λ (b : Bool). cond b (record (watch_of v) { notes = v.notes.items ++ next_notes (watch_of v) moment }) (watch_of v) ∷ map (counted_at t moment) (map watch_of vs)) (sym here)

    pub wish_placed : (watches : List Watch) (k : ℕ) (w : Watch) → slice_get watches k ≡ Some w → same_timer w.row.timer t ≡ true
        → ((j : ℕ) (v : Watch) → slice_get watches j ≡ Some v → same_timer v.row.timer t ≡ true → j ≡ k)
        → flat_map (wish_in w.row) (next_notes (watch_of w) moment) ≡ flat_map (count_wishes t moment) (map watch_of watches)
    wish_placed [] k w at same only = absurd cc
    wish_placed (v ∷ vs) zero w at same only =
        let same_one : v ≡ w = some_same v w at in
        let here : same_timer v.row.timer t ≡ true = ap (λ (x : Watch). same_timer x.row.timer t) same_one ∙ same in
        let own : List QueuePut = flat_map (wish_in v.row) (next_notes (watch_of v) moment) in
        ap (λ (x : Watch). flat_map (wish_in x.row) (next_notes (watch_of x) moment)) (sym same_one)
        ∙ sym (append-nil own)
        ∙ ap (λ (xs : List QueuePut). own ++ xs) (unwished vs (λ j x found e. let bad : suc j ≡ 0 = only (suc j) x found e in absurd (omega (arith, bad))))
        ∙ ap (λ (b : Bool). cond b own [] ++ flat_map (count_wishes t moment) (map watch_of vs)) (sym here)
    wish_placed (v ∷ vs) (suc k) w at same only =
        let here : same_timer v.row.timer t ≡ false = out (same_timer v.row.timer t) (λ e. let bad : 0 ≡ suc k = only 0 v refl e in absurd (omega (arith, bad))) in
        wish_placed vs k w at same (λ j x found e. let more : suc j ≡ suc k = only (suc j) x found e in omega (arith, more))
        ∙ ap (λ (b : Bool). cond b (flat_map (wish_in v.row) (next_notes (watch_of v) moment)) [] ++ flat_map (count_wishes t moment) (map watch_of vs)) (sym here)

-- ---- the table is kept while one of its watches changes

module _ (watches : List Watch) (k : ℕ) (w after : Watch) (at : slice_get watches k ≡ Some w) (row : after.row ≡ w.row) where
  only_more : (t : TimerId) (place : ℕ) → ((j : ℕ) (v : Watch) → slice_get watches j ≡ Some v → same_timer v.row.timer t ≡ true → j ≡ place)
      → (j : ℕ) (v : Watch) → slice_get (set watches k after) j ≡ Some v → same_timer v.row.timer t ≡ true → j ≡ place
  only_more t place only j v found same = by (eqb j k) refl
    where
      by : (b : Bool) → eqb j k ≡ b → j ≡ place
      by true e =
          let here : j ≡ k = eqb-true j k e in
          let is : after ≡ v = some_same after v (sym (set_same watches k after w at) ∙ ap (λ (n : ℕ). slice_get (set watches k after) n) (sym here) ∙ found) in
          only j w (ap (λ (n : ℕ). slice_get watches n) here ∙ at) (ap (λ (r : _). same_timer r.timer t) (sym row) ∙ ap (λ (x : Watch). same_timer x.row.timer t) is ∙ same)
      by false e = only j v (sym (set_other watches k j after (eqb-false j k e)) ∙ found) same

  none_more : (t : TimerId) (vs : List Watch) (i : ℕ) → slice_get vs i ≡ Some w → list_any (λ (v : Watch). same_timer v.row.timer t) vs ≡ false → list_any (λ (v : Watch). same_timer v.row.timer t) (set vs i after) ≡ false
  none_more t [] i found none = refl
  none_more t (v ∷ vs) zero found none =
      let p = or_parts (same_timer v.row.timer t) (list_any (λ (w : Watch). same_timer w.row.timer t) vs) none in
      let here : same_timer after.row.timer t ≡ false = ap (λ (r : _). same_timer r.timer t) row ∙ ap (λ (x : Watch). same_timer x.row.timer t) (sym (some_same v w found)) ∙ p.0 in
      ap (λ (b : Bool). b || list_any (λ (w : Watch). same_timer w.row.timer t) vs) here ∙ p.1
  none_more t (v ∷ vs) (suc i) found none =
      let p = or_parts (same_timer v.row.timer t) (list_any (λ (w : Watch). same_timer w.row.timer t) vs) none in
      ap (λ (b : Bool). b || list_any (λ (w : Watch). same_timer w.row.timer t) (set vs i after)) p.0 ∙ none_more t vs i found p.1

  placed_still : (t : TimerId) (place : Option ℕ) → IsPlaceOf t watches place → IsPlaceOf t (set watches k after) place
  placed_still t None none = none_more t watches k at none
  placed_still t (Some i) (v, there, same, only) = by (eqb i k) refl
    where
      by : (b : Bool) → eqb i k ≡ b → IsPlaceOf t (set watches k after) (Some i)
      by true e =
          let here : i ≡ k = eqb-true i k e in
          let is : v ≡ w = some_same v w (sym there ∙ ap (λ (n : ℕ). slice_get watches n) here ∙ at) in (
            after,
            ap (λ (n : ℕ). slice_get (set watches k after) n) here ∙ set_same watches k after w at,
            ap (λ (r : _). same_timer r.timer t) row ∙ ap (λ (x : Watch). same_timer x.row.timer t) (sym is) ∙ same,
            only_more t i only,
          )
      by false e = (v, set_other watches k i after (eqb-false i k e) ∙ there, same, only_more t i only)

  pub same_watches : watch_of after ≡ watch_of w → map watch_of (set watches k after) ≡ map watch_of watches
  same_watches is = go watches k at
    where
      go : (vs : List Watch) (i : ℕ) → slice_get vs i ≡ Some w → map watch_of (set vs i after) ≡ map watch_of vs
      go [] i found = refl
      go (v ∷ vs) zero found = ap (λ (x : WatchData). x ∷ map watch_of vs) (is ∙ ap watch_of (sym (some_same v w found)))
      go (v ∷ vs) (suc i) found = ap (λ (xs : List WatchData). watch_of v ∷ xs) (go vs i found)

  module _ {T : Type 0} (places : IndexMap TimerId ℕ T) (room : Vec (ℕ × Vec WatchNote)) where
    -- its room was used
    pub kept_used : IsKept watches places None room → IsKept (set watches k after) places (Some k) room
    kept_used kept = record {
      placed = λ t. placed_still t (get same_timer places t) (kept.placed t);
      ready = λ j v found apart. kept.ready j v (sym (set_other watches k j after (λ e. apart (ap (λ (n : ℕ). Some n) (sym e)))) ∙ found) (λ e. cc);
      within = λ j e. let is : k ≡ j = some_same k j e in let within : k < length watches = inside watches k w at in let long = length-set watches k after in omega (arith, is, within, long);
      none = kept.none;
      enough = let long = length-set watches k after in let enough = kept.enough in omega (arith, long, enough);
    }
      where
        inside : {X : Type 0} (xs : List X) (i : ℕ) (x : X) → slice_get xs i ≡ Some x → i < length xs
        inside [] i x found = absurd cc
        inside (y ∷ ys) zero x found = omega arith
        inside (y ∷ ys) (suc i) x found = let less = inside ys i x found in omega (arith, less)

    -- it has room again
    pub kept_ready : vec_len after.notes < vec_capacity after.notes → IsKept watches places (Some k) room → IsKept (set watches k after) places None room
    kept_ready roomy kept = record {
      placed = λ t. placed_still t (get same_timer places t) (kept.placed t);
      ready = λ j v found apart. by j v found (eqb j k) refl;
      within = λ j e. cc;
      none = kept.none;
      enough = let long = length-set watches k after in let enough = kept.enough in omega (arith, long, enough);
    }
      where
        by : (j : ℕ) (v : Watch) → slice_get (set watches k after) j ≡ Some v → (b : Bool) → eqb j k ≡ b → vec_len v.notes < vec_capacity v.notes
        by j v found true e =
            let here : j ≡ k = eqb-true j k e in
            let is : after ≡ v = some_same after v (sym (set_same watches k after w at) ∙ ap (λ (n : ℕ). slice_get (set watches k after) n) (sym here) ∙ found) in
            subst (λ (x : Watch). vec_len x.notes < vec_capacity x.notes) is roomy
        by j v found false e =
            kept.ready j v (sym (set_other watches k j after (eqb-false j k e)) ∙ found) (λ same. eqb-false j k e (sym (some_same k j same)))

    -- it was given no room
    pub kept_unready : IsKept watches places (Some k) room → IsKept (set watches k after) places (Some k) room
    kept_unready kept = record {
      placed = λ t. placed_still t (get same_timer places t) (kept.placed t);
      ready = λ j v found apart. kept.ready j v (sym (set_other watches k j after (λ e. apart (ap (λ (n : ℕ). Some n) (sym e)))) ∙ found) apart;
      within = λ j e. let within = kept.within j e in let long = length-set watches k after in omega (arith, within, long);
      none = kept.none;
      enough = let long = length-set watches k after in let enough = kept.enough in omega (arith, long, enough);
    }
