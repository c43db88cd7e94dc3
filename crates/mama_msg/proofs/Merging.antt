-- The laws of putting one list of keyed things into another.
use Rattle.std.specs.Prelude.{◌≡◌, ℕ, zero, suc, ◌+◌, Bool, true, false, not, ◌||◌, List, [], ◌∷◌, ◌++◌, length, map, fold, count_by, Option, Some, unwrap_or, refl, if◌then◌else◌, slice_get}
use Rattle.std.specs.Bool.{Decides}
use Rattle.std.proofs.Common.{ap, sym, ◌∙◌, true≢false, append_assoc, length-append}
use Rattle.std.proofs.lemmas.Bool.{or_parts, or_from, or_left, or_right}
use Rattle.std.proofs.lemmas.List.{map-append, length-map}
use Rattle.std.proofs.lemmas.List.Elements.{filter-append}
use Rattle.std.proofs.lemmas.List.Folds.{list_any-append}
use Rattle.std.proofs.lemmas.List.Sums.{length-filter}
use Rattle.mama_msg.proofs.KeyedLists.{split, has, at_key, Apart, swapped, put, over, fresh, merged, same_symm, same_refl, key-swapped, map_swapped_absent, at_key_absent, at_key-put, key-over, has-map_over, fold_put}

append_nil : {X : Type 0} → (xs : List X) → xs ++ [] ≡ xs
append_nil [] = refl
append_nil {X} (x ∷ xs) = ap (λ (r : List X). x ∷ r) (append_nil xs)

-- what stands before the end of a list stays in its place where more follows
slice_get_front : {X : Type 0} → (xs ys : List X) (i : ℕ) (x : X) → slice_get xs i ≡ Some x → slice_get (xs ++ ys) i ≡ Some x
slice_get_front [] ys i x h = cc
slice_get_front (y ∷ xs) ys zero x h = h
slice_get_front (y ∷ xs) ys (suc i) x h = slice_get_front xs ys i x h

slice_get_mapped : {X Y : Type 0} (f : X → Y) → (xs : List X) (i : ℕ) (x : X) → slice_get xs i ≡ Some x → slice_get (map f xs) i ≡ Some (f x)
slice_get_mapped f [] i x h = cc
slice_get_mapped f (y ∷ xs) zero x h = let one : y ≡ x = cc in ap (λ z. Some (f z)) one
slice_get_mapped f (y ∷ xs) (suc i) x h = slice_get_mapped f xs i x h

module _ {F K : Type 0} (key : F → K) (same : K → K → Bool) (exact : (a b : K) → Decides (same a b) (a ≡ b)) where
  -- ---- what is new
  has-fresh_absent : (k : K) (m u : List F) → has key same exact k u ≡ false → has key same exact k (fresh key same exact m u) ≡ false
  has-fresh_absent k m [] h = refl
  has-fresh_absent k m (x ∷ xs) h =
      let parts = or_parts (same (key x) k) (has key same exact k xs) h in
      let rest = has-fresh_absent k m xs parts.1 in
      split (has key same exact (key x) m)
      (λ e. ap (λ b. has key same exact k (if not b then x ∷ fresh key same exact m xs else fresh key same exact m xs)) e ∙ rest)
      (λ e. ap (λ b. has key same exact k (if not b then x ∷ fresh key same exact m xs else fresh key same exact m xs)) e ∙ or_from (same (key x) k) (has key same exact k (fresh key same exact m xs)) parts.0 rest)

  has-fresh : (k : K) (m u : List F) → has key same exact k m ≡ false → has key same exact k (fresh key same exact m u) ≡ has key same exact k u
  has-fresh k m [] h = refl
  has-fresh k m (x ∷ xs) h =
      let rest = has-fresh k m xs h in
      split (has key same exact (key x) m)
      (λ e.
      let other : same (key x) k ≡ false =
      split (same (key x) k)
      (λ s. absurd (true≢false (sym (ap (λ a. has key same exact a m) (sym ((exact (key x) k).0 s)) ∙ e) ∙ h)))
      (λ s. s) in
      ap (λ b. has key same exact k (if not b then x ∷ fresh key same exact m xs else fresh key same exact m xs)) e ∙ rest ∙ sym (ap (λ c. c || has key same exact k xs) other))
      (λ e. ap (λ b. has key same exact k (if not b then x ∷ fresh key same exact m xs else fresh key same exact m xs)) e ∙ ap (λ b. same (key x) k || b) rest)

  fresh-map_swapped : (f : F) (m u : List F) → fresh key same exact m (map (swapped key same exact f) u) ≡ map (swapped key same exact f) (fresh key same exact m u)
  fresh-map_swapped f m [] = refl
  fresh-map_swapped f m (x ∷ xs) =
      let rest = fresh-map_swapped f m xs in
      let sw = swapped key same exact f in
      let others = fresh key same exact m (map sw xs) in
      ap (λ a. if not (has key same exact a m) then sw x ∷ others else others) (key-swapped key same exact f x)
      ∙ split (has key same exact (key x) m)
      (λ e. ap (λ b. if not b then sw x ∷ others else others) e ∙ rest ∙ sym (ap (λ b. map sw (if not b then x ∷ fresh key same exact m xs else fresh key same exact m xs)) e))
      (λ e. ap (λ b. if not b then sw x ∷ others else others) e ∙ ap (λ (r : List F). sw x ∷ r) rest ∙ sym (ap (λ b. map sw (if not b then x ∷ fresh key same exact m xs else fresh key same exact m xs)) e))

  -- ---- one more put in
  swapped_over : (f : F) (u : List F) (g : F) → swapped key same exact f (over key same exact u g) ≡ over key same exact (put key same exact u f) g
  swapped_over f u g =
      ap (λ a. if same a (key f) then f else over key same exact u g) (key-over key same exact u g)
      ∙ ap (λ b. if b then f else over key same exact u g) (same_symm key same exact (key g) (key f))
      ∙ sym (ap (λ (o : Option F). unwrap_or o g) (at_key-put key same exact (key g) u f)
      ∙ split (same (key f) (key g))
      (λ e. ap (λ b. unwrap_or (if b then Some f else at_key key same exact (key g) u) g) e ∙ sym (ap (λ b. if b then f else over key same exact u g) e))
      (λ e. ap (λ b. unwrap_or (if b then Some f else at_key key same exact (key g) u) g) e ∙ sym (ap (λ b. if b then f else over key same exact u g) e)))

  swapped_over_map : (f : F) (u m : List F) → map (swapped key same exact f) (map (over key same exact u) m) ≡ map (over key same exact (put key same exact u f)) m
  swapped_over_map f u [] = refl
  swapped_over_map f u (g ∷ gs) =
      ap (λ x. x ∷ map (swapped key same exact f) (map (over key same exact u) gs)) (swapped_over f u g)
      ∙ ap (λ (r : List F). over key same exact (put key same exact u f) g ∷ r) (swapped_over_map f u gs)

  -- what is put in after u is put in, is put into u
  put_merged : (m u : List F) (f : F) → put key same exact (merged key same exact m u) f ≡ merged key same exact m (put key same exact u f)
  put_merged m u f =
      split (has key same exact (key f) m)
      (λ hm.
      let there : has key same exact (key f) (a ++ b) ≡ true = found ∙ or_left (has key same exact (key f) m) (has key same exact (key f) b) hm in
      stays there
      ∙ split (has key same exact (key f) u)
      (λ hu. ap (λ (r : List F). map over_new m ++ r) (sym (fresh-map_swapped f m u)) ∙ sym (ap (λ c. map over_new m ++ fresh key same exact m (if c then map sw u else u ++ f ∷ [])) hu))
      (λ hu.
      ap (λ (r : List F). map over_new m ++ r) (map_swapped_absent key same exact f b (has-fresh_absent (key f) m u hu))
      ∙ sym (ap (λ c. map over_new m ++ fresh key same exact m (if c then map sw u else u ++ f ∷ [])) hu
      ∙ ap (λ (r : List F). map over_new m ++ r) (filter-append (λ x. not (has key same exact (key x) m)) u (f ∷ []) ∙ ap (λ c. b ++ (if not c then f ∷ [] else [])) hm ∙ append_nil b))))
      (λ hm.
      split (has key same exact (key f) u)
      (λ hu.
      let there : has key same exact (key f) (a ++ b) ≡ true = found ∙ or_right (has key same exact (key f) m) (has key same exact (key f) b) (has-fresh (key f) m u hm ∙ hu) in
      stays there
      ∙ ap (λ (r : List F). map over_new m ++ r) (sym (fresh-map_swapped f m u)) ∙ sym (ap (λ c. map over_new m ++ fresh key same exact m (if c then map sw u else u ++ f ∷ [])) hu))
      (λ hu.
      let gone : has key same exact (key f) (a ++ b) ≡ false = found ∙ or_from (has key same exact (key f) m) (has key same exact (key f) b) hm (has-fresh (key f) m u hm ∙ hu) in
      ap (λ c. if c then map sw (a ++ b) else (a ++ b) ++ f ∷ []) gone
      ∙ append_assoc a b (f ∷ [])
      ∙ ap (λ (r : List F). r ++ (b ++ f ∷ [])) (sym (map_swapped_absent key same exact f a (has-map_over key same exact (key f) u m ∙ hm)) ∙ swapped_over_map f u m)
      ∙ sym (ap (λ c. map over_new m ++ fresh key same exact m (if c then map sw u else u ++ f ∷ [])) hu
      ∙ ap (λ (r : List F). map over_new m ++ r) (filter-append (λ x. not (has key same exact (key x) m)) u (f ∷ []) ∙ ap (λ c. b ++ (if not c then f ∷ [] else [])) hm))))
    where
      sw : F → F
      sw = swapped key same exact f

      a : List F
      a = map (over key same exact u) m

      b : List F
      b = fresh key same exact m u

      over_new : F → F
      over_new = over key same exact (put key same exact u f)

      found : has key same exact (key f) (a ++ b) ≡ (has key same exact (key f) m || has key same exact (key f) b)
      found = list_any-append (λ g. same (key g) (key f)) a b ∙ ap (λ c. c || has key same exact (key f) b) (has-map_over key same exact (key f) u m)

      stays : has key same exact (key f) (a ++ b) ≡ true → put key same exact (a ++ b) f ≡ map over_new m ++ map sw b
      stays there =
          ap (λ c. if c then map sw (a ++ b) else (a ++ b) ++ f ∷ []) there
          ∙ map-append sw a b ∙ ap (λ (r : List F). r ++ map sw b) (swapped_over_map f u m)

  -- ---- the laws
  fold_merged : (m u v : List F) → fold (put key same exact) (merged key same exact m u) v ≡ merged key same exact m (fold (put key same exact) u v)
  fold_merged m u [] = refl
  fold_merged m u (f ∷ fs) = ap (λ (r : List F). fold (put key same exact) r fs) (put_merged m u f) ∙ fold_merged m (put key same exact u f) fs

  -- two in turn are one
  pub merged_merged : (m u v : List F) → Apart key same exact v → merged key same exact (merged key same exact m u) v ≡ merged key same exact m (merged key same exact u v)
  merged_merged m u v d =
      sym (fold_put key same exact (merged key same exact m u) v d) ∙ fold_merged m u v ∙ ap (merged key same exact m) (fold_put key same exact u v d)

  -- into nothing
  pub merged_from_nil : (u : List F) → merged key same exact [] u ≡ u
  merged_from_nil [] = refl
  merged_from_nil (x ∷ xs) = ap (λ (r : List F). x ∷ r) (merged_from_nil xs)

  -- every element of the second list, read by its key, is there
  over_self : (front : List F) (m : List F) → ((g : F) → has key same exact (key g) m ≡ true → has key same exact (key g) front ≡ false) → Apart key same exact m → map (over key same exact (front ++ m)) m ≡ m
  over_self front [] apart d = refl
  over_self front (g ∷ gs) apart d =
      let own : same (key g) (key g) ≡ true = same_refl key same exact (key g) in
      let there : has key same exact (key g) (g ∷ gs) ≡ true = or_left (same (key g) (key g)) (has key same exact (key g) gs) own in
      let found : at_key key same exact (key g) (front ++ g ∷ gs) ≡ Some g = past front (apart g there) own in
      let shifted : front ++ g ∷ gs ≡ (front ++ g ∷ []) ++ gs = sym (append_assoc front (g ∷ []) gs) in
      ap (λ (o : Option F). unwrap_or o g ∷ map (over key same exact (front ++ g ∷ gs)) gs) found
      ∙ ap (λ (xs : List F). g ∷ map (over key same exact xs) gs) shifted
      ∙ ap (λ (r : List F). g ∷ r) (over_self (front ++ g ∷ []) gs
      (λ x h.
      let old : has key same exact (key x) front ≡ false = apart x (or_right (same (key g) (key x)) (has key same exact (key x) gs) h) in
      let other : same (key g) (key x) ≡ false =
      split (same (key g) (key x))
      (λ s. absurd (true≢false (sym h ∙ ap (λ a. has key same exact a gs) (sym ((exact (key g) (key x)).0 s)) ∙ d.0)))
      (λ s. s) in
      list_any-append (λ y. same (key y) (key x)) front (g ∷ []) ∙ or_from (has key same exact (key x) front) (same (key g) (key x) || false) old (or_from (same (key g) (key x)) false other refl))
      d.1)
    where
      past : (front : List F) → has key same exact (key g) front ≡ false → same (key g) (key g) ≡ true → at_key key same exact (key g) (front ++ g ∷ gs) ≡ Some g
      past [] absent own = ap (λ c. if c then Some g else at_key key same exact (key g) gs) own
      past (y ∷ ys) absent own =
          let parts = or_parts (same (key y) (key g)) (has key same exact (key g) ys) absent in
          ap (λ c. if c then Some y else at_key key same exact (key g) (ys ++ g ∷ gs)) parts.0 ∙ past ys parts.1 own

  -- nothing is new in what is a part of the list
  fresh_self : (front m : List F) → fresh key same exact (front ++ m) m ≡ []
  fresh_self front [] = refl
  fresh_self front (g ∷ gs) =
      let there : has key same exact (key g) (front ++ g ∷ gs) ≡ true =
      list_any-append (λ y. same (key y) (key g)) front (g ∷ gs)
      ∙ or_right (has key same exact (key g) front) (same (key g) (key g) || has key same exact (key g) gs) (or_left (same (key g) (key g)) (has key same exact (key g) gs) (same_refl key same exact (key g))) in
      let shifted : front ++ g ∷ gs ≡ (front ++ g ∷ []) ++ gs = sym (append_assoc front (g ∷ []) gs) in
      ap (λ c. if not c then g ∷ fresh key same exact (front ++ g ∷ gs) gs else fresh key same exact (front ++ g ∷ gs) gs) there
      ∙ ap (λ (xs : List F). fresh key same exact xs gs) shifted ∙ fresh_self (front ++ g ∷ []) gs

  -- into itself
  pub merged_self : (m : List F) → Apart key same exact m → merged key same exact m m ≡ m
  merged_self m d =
      ap (λ (r : List F). map (over key same exact m) m ++ r) (fresh_self [] m)
      ∙ append_nil (map (over key same exact m) m)
      ∙ over_self [] m (λ g h. refl) d

  -- an element whose key is not named stays, in its place
  pub slice_get-merged_kept : (m u : List F) (i : ℕ) (f : F) → slice_get m i ≡ Some f → has key same exact (key f) u ≡ false → slice_get (merged key same exact m u) i ≡ Some f
  slice_get-merged_kept m u i f h absent =
      slice_get_front (map (over key same exact u) m) (fresh key same exact m u) i (over key same exact u f) (slice_get_mapped (over key same exact u) m i f h)
      ∙ ap (λ (o : Option F). Some (unwrap_or o f)) (at_key_absent key same exact (key f) u absent)

  -- an element whose key is named is replaced, in its place
  pub slice_get-merged_replaced : (m u : List F) (i : ℕ) (f g : F) → slice_get m i ≡ Some f → at_key key same exact (key f) u ≡ Some g → slice_get (merged key same exact m u) i ≡ Some g
  slice_get-merged_replaced m u i f g h found =
      slice_get_front (map (over key same exact u) m) (fresh key same exact m u) i (over key same exact u f) (slice_get_mapped (over key same exact u) m i f h)
      ∙ ap (λ (o : Option F). Some (unwrap_or o f)) found

  pub length-merged : (m u : List F) → length (merged key same exact m u) ≡ length m + count_by (λ f. not (has key same exact (key f) m)) u
  length-merged m u =
      length-append (map (over key same exact u) m) (fresh key same exact m u)
      ∙ ap (λ n. n + length (fresh key same exact m u)) (length-map m (over key same exact u))
      ∙ ap (λ n. length m + n) (length-filter (λ f. not (has key same exact (key f) m)) u)
