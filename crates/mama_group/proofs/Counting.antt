-- A turn changes one member of a group, and so the counts.
use Rattle.std.proofs.Common.{◌≡◌, ℕ, suc, ◌+◌, ◌-◌, Bool, true, false, cond, List, [], ◌∷◌, ◌++◌, map, refl, sym, ap, ◌∙◌, append-nil, arith}
use Rattle.std.specs.Prelude.{◌||◌, fold}
use Rattle.std.specs.List.{flat_map, list_any}
use Rattle.std.proofs.lemmas.Bool.{or_parts}
use Rattle.std.proofs.lemmas.List.Concat.{flat_map-append}
use Rattle.std.proofs.lemmas.List.Folds.{list_any-append}
use Rattle.mama_journal.specs.Journal.{count_of}
use Rattle.mama_event.specs.declared.ids.SubId.{SubId}
use Rattle.mama_event.specs.declared.callback.Callback.{Callback}
use Rattle.mama_event.specs.declared.group.GroupNote.{GroupNote}
use Rattle.mama_event.specs.declared.group.GroupNote.TheVariants as note
use Rattle.mama_event.specs.Object.{same_sub}
use Rattle.mama_event.specs.EqualityLaws.{same_sub-Decides}
use Rattle.mama_rules_queue.specs.Group.{Member, member_after, member_by}
use Rattle.mama_rules_queue.specs.GroupTurns.{told_of, calls_heard}
use Rattle.mama_group.specs.Table.{has_member, are_distinct}

-- ---- what the callbacks of one member make of each

pub told_same : (s : SubId) (calls : List Callback) → flat_map (told_of s) (calls_heard s calls) ≡ calls
told_same s [] = refl
told_same s (c ∷ cs) = let same = (same_sub-Decides s s).1 refl in rw same (ap (λ (x : List Callback). c ∷ x) (told_same s cs))

pub told_other : (s m : SubId) (calls : List Callback) → same_sub s m ≡ false → flat_map (told_of m) (calls_heard s calls) ≡ []
told_other s m [] other = refl
told_other s m (c ∷ cs) other = rw other (told_other s m cs other)

fold_more : (m : Member) (xs ys : List Callback) → fold member_after m (xs ++ ys) ≡ fold member_after (fold member_after m xs) ys
fold_more m [] ys = refl
fold_more m (x ∷ xs) ys = fold_more (member_after m x) xs ys

-- the member that was called back
pub member_called : (s : SubId) (notes : List GroupNote) (calls : List Callback) → member_by (flat_map (told_of s) (notes ++ calls_heard s calls)) ≡ fold member_after (member_by (flat_map (told_of s) notes)) calls
member_called s notes calls =
    ap member_by (flat_map-append (told_of s) notes (calls_heard s calls) ∙ ap (λ (x : List Callback). flat_map (told_of s) notes ++ x) (told_same s calls))
    ∙ fold_more _ (flat_map (told_of s) notes) calls

-- each other one
pub member_uncalled : (s m : SubId) (notes : List GroupNote) (calls : List Callback) → same_sub s m ≡ false → member_by (flat_map (told_of m) (notes ++ calls_heard s calls)) ≡ member_by (flat_map (told_of m) notes)
member_uncalled s m notes calls other =
    ap member_by (flat_map-append (told_of m) notes (calls_heard s calls) ∙ ap (λ (x : List Callback). flat_map (told_of m) notes ++ x) (told_other s m calls other) ∙ append-nil (flat_map (told_of m) notes))

-- ---- counts

abbrev one_if : Bool → ℕ
one_if b = cond b 1 0

same_maps : (f g : SubId → Member) (s : SubId) (ms : List SubId) → ((m : SubId) → same_sub s m ≡ false → g m ≡ f m) → has_member s ms ≡ false → map g ms ≡ map f ms
same_maps f g s [] alike none = refl
same_maps f g s (m ∷ ms) alike none =
    let p = or_parts (same_sub s m) (has_member s ms) none in
    ap (λ (x : Member). x ∷ map g ms) (alike m p.0) ∙ ap (λ (x : List Member). f m ∷ x) (same_maps f g s ms alike p.1)

-- where each stands once, only the count of the one that changed moves
abbrev pub IsOnce : SubId → List SubId → Type 0
IsOnce s [] = ⊥
IsOnce s (m ∷ ms) = cond (same_sub s m) (has_member s ms ≡ false) (IsOnce s ms)

count_step : (test : Member → Bool) (f g : SubId → Member) (s m : SubId) (ms : List SubId) (here : Bool) → same_sub s m ≡ here → ((m : SubId) → same_sub s m ≡ false → g m ≡ f m) → cond here (has_member s ms ≡ false) (IsOnce s ms)
    → (IsOnce s ms → count_of test (map g ms) + one_if (test (f s)) ≡ count_of test (map f ms) + one_if (test (g s)))
    → one_if (test (g m)) + count_of test (map g ms) + one_if (test (f s)) ≡ one_if (test (f m)) + count_of test (map f ms) + one_if (test (g s))
count_step test f g s m ms true e alike once more =
    let at : s ≡ m = (same_sub-Decides s m).0 e in
    let same = ap (count_of test) (same_maps f g s ms alike once) in
    let a : one_if (test (g m)) ≡ one_if (test (g s)) = ap (λ (x : SubId). one_if (test (g x))) (sym at) in
    let b : one_if (test (f m)) ≡ one_if (test (f s)) = ap (λ (x : SubId). one_if (test (f x))) (sym at) in
    omega (arith, same, a, b)
count_step test f g s m ms false e alike once more =
    let a : one_if (test (g m)) ≡ one_if (test (f m)) = ap (λ (x : Member). one_if (test x)) (alike m e) in
    let b = more once in
    omega (arith, a, b)

counts_are : (test : Member → Bool) (x : Member) (xs : List Member) → count_of test (x ∷ xs) ≡ one_if (test x) + count_of test xs
counts_are test x xs = by (test x)
  where
    by : (b : Bool) → cond b (suc (count_of test xs)) (count_of test xs) ≡ one_if b + count_of test xs
    by true = omega arith
    by false = omega arith

pub count_moved : (test : Member → Bool) (f g : SubId → Member) (s : SubId) (ms : List SubId) → ((m : SubId) → same_sub s m ≡ false → g m ≡ f m) → IsOnce s ms
    → count_of test (map g ms) + one_if (test (f s)) ≡ count_of test (map f ms) + one_if (test (g s))
count_moved test f g s [] alike once = absurd once
count_moved test f g s (m ∷ ms) alike once =
    let step = count_step test f g s m ms (same_sub s m) refl alike once (count_moved test f g s ms alike) in
    let a = counts_are test (g m) (map g ms) in
    let b = counts_are test (f m) (map f ms) in
    omega (arith, step, a, b)

-- ---- different members stand once

hidden_step : (s m : SubId) (ms before : List SubId) → has_member s before ≡ true → (here : Bool) → same_sub s m ≡ here → (twice : Bool) → cond twice false (are_distinct (before ++ m ∷ []) ms) ≡ true
    → has_member m before ≡ twice → (has_member s (before ++ m ∷ []) ≡ true → are_distinct (before ++ m ∷ []) ms ≡ true → has_member s ms ≡ false) → (here || has_member s ms) ≡ false
hidden_step s m ms before inside here e true distinct f more = absurd cc
hidden_step s m ms before inside true e false distinct f more =
    let at : s ≡ m = (same_sub-Decides s m).0 e in
    let there : has_member m before ≡ true = ap (λ (x : SubId). has_member x before) (sym at) ∙ inside in
    let bad : true ≡ false = sym there ∙ f in
    absurd cc
hidden_step s m ms before inside false e false distinct f more =
    more (list_any-append (same_sub s) before (m ∷ []) ∙ ap (λ (t : Bool). t || has_member s (m ∷ [])) inside) distinct

-- what stands before does not stand again
pub hidden : (s : SubId) (ms before : List SubId) → has_member s before ≡ true → are_distinct before ms ≡ true → has_member s ms ≡ false
hidden s [] before inside distinct = refl
hidden s (m ∷ ms) before inside distinct = hidden_step s m ms before inside (same_sub s m) refl (has_member m before) distinct refl (hidden s ms (before ++ m ∷ []))

last_is : (a b : Bool) → b ≡ true → (a || (b || false)) ≡ true
last_is true b e = refl
last_is false true e = refl
last_is false false e = e

once_step : (before : List SubId) (s m : SubId) (ms : List SubId) (here : Bool) → same_sub s m ≡ here → (are_distinct (before ++ m ∷ []) ms ≡ true) → (here || has_member s ms) ≡ true
    → (has_member s ms ≡ true → IsOnce s ms) → cond here (has_member s ms ≡ false) (IsOnce s ms)
once_step before s m ms true e distinct has more =
    hidden s ms (before ++ m ∷ []) (list_any-append (same_sub s) before (m ∷ []) ∙ last_is (has_member s before) (same_sub s m) e) distinct
once_step before s m ms false e distinct has more = more has

once_from : (before : List SubId) (s : SubId) (ms : List SubId) → are_distinct before ms ≡ true → has_member s ms ≡ true → IsOnce s ms
once_from before s [] distinct has = cc
once_from before s (m ∷ ms) distinct has = once_step before s m ms (same_sub s m) refl (rest (has_member m before) distinct) has (once_from (before ++ m ∷ []) s ms (rest (has_member m before) distinct))
  where
    rest : (b : Bool) → cond b false (are_distinct (before ++ m ∷ []) ms) ≡ true → are_distinct (before ++ m ∷ []) ms ≡ true
    rest true e = absurd cc
    rest false e = e

pub once : (s : SubId) (ms : List SubId) → are_distinct [] ms ≡ true → has_member s ms ≡ true → IsOnce s ms
once s ms distinct has = once_from [] s ms distinct has
