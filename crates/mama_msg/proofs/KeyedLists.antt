-- Lists of things that are told apart by keys: replacing, adding and looking up.
use Rattle.std.specs.Prelude.{◌≡◌, Bool, true, false, not, ◌||◌, List, [], ◌∷◌, ◌++◌, map, filter, fold, Option, Some, None, unwrap_or, find, refl, if◌then◌else◌}
use Rattle.std.specs.Bool.{Decides}
use Rattle.std.specs.List.{list_any}
use Rattle.std.specs.Cmp.{both_ways}
use Rattle.std.proofs.Common.{ap, sym, ◌∙◌, true≢false, arith, subst, append_assoc}
use Rattle.std.proofs.lemmas.Bool.{or_parts, or_from}
use Rattle.std.proofs.lemmas.List.{map-append}
use Rattle.std.proofs.lemmas.List.Folds.{list_any-append}

-- either answer of a test
pub split : {P : Type 0} (b : Bool) → (b ≡ true → P) → (b ≡ false → P) → P
split true f g = f refl
split false f g = g refl

module _ {F K : Type 0} (key : F → K) (same : K → K → Bool) (exact : (a b : K) → Decides (same a b) (a ≡ b)) where
  -- some element has this key
  abbrev pub has : K → List F → Bool
  has k xs = list_any (λ g. same (key g) k) xs

  -- the first element with this key
  abbrev pub at_key : K → List F → Option F
  at_key k xs = find (λ g. same (key g) k) xs

  -- no two elements have one key
  abbrev pub Apart : List F → Type 0
  Apart [] = Unit {0}
  Apart (f ∷ fs) = (has (key f) fs ≡ false) × Apart fs

  -- f in the place of g where they have one key
  abbrev pub swapped : F → F → F
  swapped f g = if same (key g) (key f) then f else g

  -- f in the place of the elements with its key, or last where there is none
  abbrev pub put : List F → F → List F
  put m f = if has (key f) m then map (swapped f) m else m ++ f ∷ []

  -- g, or what u has at its key
  abbrev pub over : List F → F → F
  over u g = unwrap_or (at_key (key g) u) g

  -- what u has under new keys
  abbrev pub fresh : List F → List F → List F
  fresh m u = filter (λ f. not (has (key f) m)) u

  -- m with all of u put in
  abbrev pub merged : List F → List F → List F
  merged m u = map (over u) m ++ fresh m u

  pub same_symm : (a b : K) → same a b ≡ same b a
  same_symm a b = both_ways (same a b) (same b a) (λ h. (exact b a).1 (sym ((exact a b).0 h))) (λ h. (exact a b).1 (sym ((exact b a).0 h)))

  pub same_refl : (a : K) → same a a ≡ true
  same_refl a = (exact a a).1 refl

  -- ---- one element put in
  pub key-swapped : (f g : F) → key (swapped f g) ≡ key g
  key-swapped f g =
      split (same (key g) (key f))
      (λ h. ap (λ c. key (if c then f else g)) h ∙ sym ((exact (key g) (key f)).0 h))
      (λ h. ap (λ c. key (if c then f else g)) h)

  pub has-map_swapped : (k : K) (f : F) (m : List F) → has k (map (swapped f) m) ≡ has k m
  has-map_swapped k f [] = refl
  has-map_swapped k f (g ∷ gs) =
      ap (λ a. same a k || has k (map (swapped f) gs)) (key-swapped f g) ∙ ap (λ b. same (key g) k || b) (has-map_swapped k f gs)

  pub has_push : (k : K) (m : List F) (f : F) → has k (m ++ f ∷ []) ≡ (has k m || same (key f) k)
  has_push k m f = grind (arith, list_any-append (λ g. same (key g) k) m (f ∷ []))

  pub has-put : (k : K) (m : List F) (f : F) → has k (put m f) ≡ (has k m || same (key f) k)
  has-put k m f =
      split (has (key f) m)
      (λ h. ap (λ c. has k (if c then map (swapped f) m else m ++ f ∷ [])) h ∙ has-map_swapped k f m
      ∙ split (same (key f) k)
      (λ e. let there : has k m ≡ true = ap (λ a. has a m) (sym ((exact (key f) k).0 e)) ∙ h in grind arith)
      (λ e. grind arith))
      (λ h. ap (λ c. has k (if c then map (swapped f) m else m ++ f ∷ [])) h ∙ has_push k m f)

  pub Apart-map_swapped : (f : F) (m : List F) → Apart m → Apart (map (swapped f) m)
  Apart-map_swapped f [] d = tt
  Apart-map_swapped f (g ∷ gs) d =
      (ap (λ a. has a (map (swapped f) gs)) (key-swapped f g) ∙ has-map_swapped (key g) f gs ∙ d.0, Apart-map_swapped f gs d.1)

  pub Apart_push : (m : List F) (f : F) → Apart m → has (key f) m ≡ false → Apart (m ++ f ∷ [])
  Apart_push [] f d new = (refl, tt)
  Apart_push (g ∷ gs) f d new =
      let parts = or_parts (same (key g) (key f)) (has (key f) gs) new in
      (has_push (key g) gs f ∙ or_from (has (key g) gs) (same (key f) (key g)) d.0 (same_symm (key f) (key g) ∙ parts.0), Apart_push gs f d.1 parts.1)

  pub Apart-put : (m : List F) (f : F) → Apart m → Apart (put m f)
  Apart-put m f d =
      split (has (key f) m)
      (λ h. subst (λ c. Apart (if c then map (swapped f) m else m ++ f ∷ [])) (sym h) (Apart-map_swapped f m d))
      (λ h. subst (λ c. Apart (if c then map (swapped f) m else m ++ f ∷ [])) (sym h) (Apart_push m f d h))

  -- where no element has its key, nothing is swapped
  pub map_swapped_absent : (f : F) (m : List F) → has (key f) m ≡ false → map (swapped f) m ≡ m
  map_swapped_absent f [] h = refl
  map_swapped_absent f (g ∷ gs) h =
      let parts = or_parts (same (key g) (key f)) (has (key f) gs) h in
      ap (λ c. (if c then f else g) ∷ map (swapped f) gs) parts.0 ∙ ap (λ (xs : List F). g ∷ xs) (map_swapped_absent f gs parts.1)

  -- ---- look-ups
  pub at_key_absent : (k : K) (m : List F) → has k m ≡ false → at_key k m ≡ None
  at_key_absent k [] h = refl
  at_key_absent k (g ∷ gs) h =
      let parts = or_parts (same (key g) k) (has k gs) h in
      ap (λ c. if c then Some g else at_key k gs) parts.0 ∙ at_key_absent k gs parts.1

  -- what is found has the key that was asked for
  pub key-at_key : (k : K) (m : List F) (g : F) → at_key k m ≡ Some g → key g ≡ k
  key-at_key k [] g e = cc
  key-at_key k (x ∷ xs) g e =
      split (same (key x) k)
      (λ h.
      let found : Some x ≡ Some g = sym (ap (λ c. if c then Some x else at_key k xs) h) ∙ e in
      let one : x ≡ g = cc in
      ap key (sym one) ∙ (exact (key x) k).0 h)
      (λ h. key-at_key k xs g (sym (ap (λ c. if c then Some x else at_key k xs) h) ∙ e))

  pub at_key-map_swapped_other : (k : K) (f : F) (m : List F) → same (key f) k ≡ false → at_key k (map (swapped f) m) ≡ at_key k m
  at_key-map_swapped_other k f [] h = refl
  at_key-map_swapped_other k f (g ∷ gs) h =
      let rest = at_key-map_swapped_other k f gs h in
      split (same (key g) (key f))
      (λ e.
      let other : same (key g) k ≡ false = ap (λ a. same a k) ((exact (key g) (key f)).0 e) ∙ h in
      ap (λ c. if same (key (if c then f else g)) k then Some (if c then f else g) else at_key k (map (swapped f) gs)) e
      ∙ ap (λ c. if c then Some f else at_key k (map (swapped f) gs)) h
      ∙ rest ∙ sym (ap (λ c. if c then Some g else at_key k gs) other))
      (λ e.
      ap (λ c. if same (key (if c then f else g)) k then Some (if c then f else g) else at_key k (map (swapped f) gs)) e
      ∙ ap (λ o. if same (key g) k then Some g else o) rest)

  pub at_key-map_swapped : (f : F) (m : List F) → has (key f) m ≡ true → at_key (key f) (map (swapped f) m) ≡ Some f
  at_key-map_swapped f [] h = absurd (true≢false (sym h))
  at_key-map_swapped f (g ∷ gs) h =
      split (same (key g) (key f))
      (λ e.
      ap (λ c. if same (key (if c then f else g)) (key f) then Some (if c then f else g) else at_key (key f) (map (swapped f) gs)) e
      ∙ ap (λ c. if c then Some f else at_key (key f) (map (swapped f) gs)) (same_refl (key f)))
      (λ e.
      ap (λ c. if same (key (if c then f else g)) (key f) then Some (if c then f else g) else at_key (key f) (map (swapped f) gs)) e
      ∙ ap (λ c. if c then Some g else at_key (key f) (map (swapped f) gs)) e
      ∙ at_key-map_swapped f gs (sym (ap (λ c. c || has (key f) gs) e) ∙ h))

  pub at_key_push : (k : K) (m : List F) (f : F) → has k m ≡ false → at_key k (m ++ f ∷ []) ≡ (if same (key f) k then Some f else None)
  at_key_push k [] f h = refl
  at_key_push k (g ∷ gs) f h =
      let parts = or_parts (same (key g) k) (has k gs) h in
      ap (λ c. if c then Some g else at_key k (gs ++ f ∷ [])) parts.0 ∙ at_key_push k gs f parts.1

  at_key_push_other : (k : K) (m : List F) (f : F) → same (key f) k ≡ false → at_key k (m ++ f ∷ []) ≡ at_key k m
  at_key_push_other k [] f h = ap (λ c. if c then Some f else None) h
  at_key_push_other k (g ∷ gs) f h = ap (λ o. if same (key g) k then Some g else o) (at_key_push_other k gs f h)

  -- after one is put in, its key has it, and each other key has what it had
  pub at_key-put : (k : K) (m : List F) (f : F) → at_key k (put m f) ≡ (if same (key f) k then Some f else at_key k m)
  at_key-put k m f =
      split (same (key f) k)
      (λ e.
      let one : key f ≡ k = (exact (key f) k).0 e in
      split (has (key f) m)
      (λ h. ap (λ c. at_key k (if c then map (swapped f) m else m ++ f ∷ [])) h ∙ ap (λ a. at_key a (map (swapped f) m)) (sym one) ∙ at_key-map_swapped f m h)
      (λ h. ap (λ c. at_key k (if c then map (swapped f) m else m ++ f ∷ [])) h ∙ at_key_push k m f (ap (λ a. has a m) (sym one) ∙ h) ∙ ap (λ c. if c then Some f else None) e)
      ∙ sym (ap (λ c. if c then Some f else at_key k m) e))
      (λ e.
      split (has (key f) m)
      (λ h. ap (λ c. at_key k (if c then map (swapped f) m else m ++ f ∷ [])) h ∙ at_key-map_swapped_other k f m e)
      (λ h. ap (λ c. at_key k (if c then map (swapped f) m else m ++ f ∷ [])) h ∙ at_key_push_other k m f e)
      ∙ sym (ap (λ c. if c then Some f else at_key k m) e))

  -- ---- many put in
  pub key-over : (u : List F) (g : F) → key (over u g) ≡ key g
  key-over u g = by (at_key (key g) u) refl
    where
      by : (o : Option F) → at_key (key g) u ≡ o → key (unwrap_or (at_key (key g) u) g) ≡ key g
      by None e = ap (λ (o : Option F). key (unwrap_or o g)) e
      by (Some x) e = ap (λ (o : Option F). key (unwrap_or o g)) e ∙ key-at_key (key g) u x e

  pub has-map_over : (k : K) (u m : List F) → has k (map (over u) m) ≡ has k m
  has-map_over k u [] = refl
  has-map_over k u (g ∷ gs) = ap (λ a. same a k || has k (map (over u) gs)) (key-over u g) ∙ ap (λ b. same (key g) k || b) (has-map_over k u gs)

  -- over f and the others, where no other has its key
  over_cons : (f : F) (fs : List F) (g : F) → has (key f) fs ≡ false → over fs (swapped f g) ≡ over (f ∷ fs) g
  over_cons f fs g absent =
      split (same (key g) (key f))
      (λ e.
      let back : same (key f) (key g) ≡ true = same_symm (key f) (key g) ∙ e in
      ap (λ c. over fs (if c then f else g)) e
      ∙ ap (λ (o : Option F). unwrap_or o f) (at_key_absent (key f) fs absent)
      ∙ sym (ap (λ c. unwrap_or (if c then Some f else at_key (key g) fs) g) back))
      (λ e.
      let back : same (key f) (key g) ≡ false = same_symm (key f) (key g) ∙ e in
      ap (λ c. over fs (if c then f else g)) e
      ∙ sym (ap (λ c. unwrap_or (if c then Some f else at_key (key g) fs) g) back))

  over_cons_map : (f : F) (fs m : List F) → has (key f) fs ≡ false → map (over fs) (map (swapped f) m) ≡ map (over (f ∷ fs)) m
  over_cons_map f fs [] absent = refl
  over_cons_map f fs (g ∷ gs) absent = ap (λ x. x ∷ map (over fs) (map (swapped f) gs)) (over_cons f fs g absent) ∙ ap (λ (xs : List F). over (f ∷ fs) g ∷ xs) (over_cons_map f fs gs absent)

  -- what is new beside m with f put in, where none of it has the key of f
  fresh_apart : (f : F) (m fs : List F) → has (key f) fs ≡ false → fresh (put m f) fs ≡ fresh m fs
  fresh_apart f m [] absent = refl
  fresh_apart f m (x ∷ xs) absent =
      let parts = or_parts (same (key x) (key f)) (has (key f) xs) absent in
      let other : same (key f) (key x) ≡ false = same_symm (key f) (key x) ∙ parts.0 in
      let test : has (key x) (put m f) ≡ has (key x) m = has-put (key x) m f ∙ ap (λ b. has (key x) m || b) other ∙ or_false (has (key x) m) in
      ap (λ b. if not b then x ∷ fresh (put m f) xs else fresh (put m f) xs) test
      ∙ ap (λ (r : List F). if not (has (key x) m) then x ∷ r else r) (fresh_apart f m xs parts.1)
    where
      or_false : (b : Bool) → (b || false) ≡ b
      or_false true = refl
      or_false false = refl

  pub merged_cons : (m : List F) (f : F) (fs : List F) → has (key f) fs ≡ false → merged (put m f) fs ≡ merged m (f ∷ fs)
  merged_cons m f fs absent =
      split (has (key f) m)
      (λ h.
      ap (λ (r : List F). map (over fs) (put m f) ++ r) (fresh_apart f m fs absent)
      ∙ ap (λ c. map (over fs) (if c then map (swapped f) m else m ++ f ∷ []) ++ fresh m fs) h
      ∙ ap (λ (r : List F). r ++ fresh m fs) (over_cons_map f fs m absent)
      ∙ sym (ap (λ c. map (over (f ∷ fs)) m ++ (if not c then f ∷ fresh m fs else fresh m fs)) h))
      (λ h.
      let alone : over fs f ≡ f = ap (λ (o : Option F). unwrap_or o f) (at_key_absent (key f) fs absent) in
      let front : map (over fs) m ≡ map (over (f ∷ fs)) m = ap (map (over fs)) (sym (map_swapped_absent f m h)) ∙ over_cons_map f fs m absent in
      ap (λ (r : List F). map (over fs) (put m f) ++ r) (fresh_apart f m fs absent)
      ∙ ap (λ c. map (over fs) (if c then map (swapped f) m else m ++ f ∷ []) ++ fresh m fs) h
      ∙ ap (λ (r : List F). r ++ fresh m fs) (map-append (over fs) m (f ∷ []))
      ∙ append_assoc (map (over fs) m) (over fs f ∷ []) (fresh m fs)
      ∙ ap (λ x. map (over fs) m ++ (x ∷ fresh m fs)) alone
      ∙ ap (λ (r : List F). r ++ (f ∷ fresh m fs)) front
      ∙ sym (ap (λ c. map (over (f ∷ fs)) m ++ (if not c then f ∷ fresh m fs else fresh m fs)) h))

  pub merged_nil : (m : List F) → merged m [] ≡ m
  merged_nil m = append_nil (map (over []) m) ∙ same_all m
    where
      append_nil : (xs : List F) → xs ++ [] ≡ xs
      append_nil [] = refl
      append_nil (x ∷ xs) = ap (λ (r : List F). x ∷ r) (append_nil xs)

      same_all : (xs : List F) → map (over []) xs ≡ xs
      same_all [] = refl
      same_all (x ∷ xs) = ap (λ (r : List F). x ∷ r) (same_all xs)

  -- put in one after another, or all at once
  pub fold_put : (m u : List F) → Apart u → fold put m u ≡ merged m u
  fold_put m [] d = sym (merged_nil m)
  fold_put m (f ∷ fs) d = fold_put (put m f) fs d.1 ∙ merged_cons m f fs d.0

  pub Apart-fold_put : (m u : List F) → Apart m → Apart (fold put m u)
  Apart-fold_put m [] d = d
  Apart-fold_put m (f ∷ fs) d = Apart-fold_put (put m f) fs (Apart-put m f d)

  pub Apart-merged : (m u : List F) → Apart m → Apart u → Apart (merged m u)
  Apart-merged m u d e = subst Apart (fold_put m u e) (Apart-fold_put m u d)

  -- the key k after all of u is put in
  pub at_key-merged : (k : K) (m u : List F) → Apart u → at_key k (merged m u) ≡ (if has k u then at_key k u else at_key k m)
  at_key-merged k m u d = ap (at_key k) (sym (fold_put m u d)) ∙ by m u d
    where
      by : (m u : List F) → Apart u → at_key k (fold put m u) ≡ (if has k u then at_key k u else at_key k m)
      by m [] d = refl
      by m (f ∷ fs) d =
          by (put m f) fs d.1 ∙
          split (same (key f) k)
          (λ e.
          let none : has k fs ≡ false = ap (λ a. has a fs) (sym ((exact (key f) k).0 e)) ∙ d.0 in
          ap (λ c. if c then at_key k fs else at_key k (put m f)) none ∙ at_key-put k m f ∙ ap (λ c. if c then Some f else at_key k m) e
          ∙ sym (ap (λ c. if c || has k fs then (if c then Some f else at_key k fs) else at_key k m) e))
          (λ e.
          ap (λ (o : Option F). if has k fs then at_key k fs else o) (at_key-put k m f ∙ ap (λ c. if c then Some f else at_key k m) e)
          ∙ sym (ap (λ c. if c || has k fs then (if c then Some f else at_key k fs) else at_key k m) e))
