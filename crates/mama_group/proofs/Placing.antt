-- One group of a table heard a turn, and the place of its member was written: the table is kept, and all others are as they were.
use Rattle.std.proofs.Common.{◌≡◌, ℕ, zero, suc, ◌+◌, ◌<◌, ◌≤◌, Bool, true, false, cond, eqb, List, [], ◌∷◌, ◌++◌, length, map, set, take, drop, get_or, Option, None, Some, unwrap_or, refl, sym, ap, subst, ◌∙◌, append-nil, append_assoc, length-append, arith}
use Rattle.std.specs.Prelude.{slice_get, ◌||◌}
use Rattle.std.specs.List.{All, AllByRecursion, flat_map}
use Rattle.std.proofs.lemmas.Bool.{eqb-true, eqb-false}
use Rattle.std.proofs.lemmas.List.{drop_more, take_more}
use Rattle.std.proofs.lemmas.List.Concat.{flat_map-append}
use Rattle.std.proofs.lemmas.List.Folds.{list_any-append}
use Rattle.std.proofs.lemmas.List.Elements.{All-set}
use Rattle.std.proofs.lemmas.Option.{get_or_from_slice_get, slice_get_within}
use Rattle.mama_event.specs.declared.ids.SubId.{SubId}
use Rattle.mama_event.specs.declared.callback.Callback.{Callback}
use Rattle.mama_event.specs.declared.group.GroupNote.{GroupNote}
use Rattle.mama_event.specs.declared.group.GroupState.{GroupState}
use Rattle.mama_event.specs.declared.group.GroupNote.TheVariants as note
use Rattle.mama_event.specs.Listener.{reached, risen}
use Rattle.mama_event.specs.Object.{same_sub}
use Rattle.mama_event.specs.EqualityLaws.{same_sub-Decides}
use Rattle.mama_rules_queue.specs.Group.{member_by, state_told}
use Rattle.mama_rules_queue.specs.GroupTurns.{told_of, calls_heard, state_after, turn_notes}
use Rattle.mama_group.specs.declared.group.Group.{Group}
use Rattle.mama_group.specs.declared.table.Place.{Place}
use Rattle.mama_group.specs.Listener.{GroupListenerData, Heard, HeardNext, HeardOn}
use Rattle.mama_group.specs.Table.{GroupData, HasHeard, GroupHeard, AllHeard, has_member, turn_of, heard_in, state_in}
use Rattle.mama_group.specs.Kept.{member_of, group_of, IsPlaceOf, state_by}
use Rattle.mama_group.proofs.Told.{told_state}
use Rattle.mama_group.proofs.Counting.{told_same, told_other}

-- ---- lists

pub set_same : {X : Type 0} (xs : List X) (i : ℕ) (y x : X) → slice_get xs i ≡ Some x → slice_get (set xs i y) i ≡ Some y
set_same [] i y x at = absurd cc
set_same (z ∷ zs) zero y x at = refl
set_same (z ∷ zs) (suc i) y x at = set_same zs i y x at

pub set_other : {X : Type 0} (xs : List X) (i k : ℕ) (y : X) → (k ≡ i → ⊥) → slice_get (set xs i y) k ≡ slice_get xs k
set_other [] i k y apart = refl
set_other (z ∷ zs) zero zero y apart = absurd (apart refl)
set_other (z ∷ zs) zero (suc k) y apart = refl
set_other (z ∷ zs) (suc i) zero y apart = refl
set_other (z ∷ zs) (suc i) (suc k) y apart = set_other zs i k y (λ e. apart (ap (λ (n : ℕ). suc n) e))

pub some_same : {X : Type 0} (x y : X) → Some x ≡ Some y → x ≡ y
some_same x y e = ap (λ o. unwrap_or o x) e

pub all_at : {X : Type 0} (P : X → Type 0) (xs : List X) (i : ℕ) (x : X) → slice_get xs i ≡ Some x → All P xs → P x
all_at P xs i x at all = subst P (get_or_from_slice_get xs i x x at) (all i x (slice_get_within xs i x at))

-- ---- what a turn tells of the members

turn_with : (m : SubId) (members : List SubId) (notes : List GroupNote) (s : SubId) (calls : List Callback)
    → flat_map (told_of m) (turn_notes members notes s calls) ≡ flat_map (told_of m) (calls_heard s calls)
turn_with m members notes s calls =
    let a = state_after members notes in
    let b = state_after members (notes ++ calls_heard s calls) in
    flat_map-append (told_of m) (calls_heard s calls) (state_told a b)
    ∙ ap (λ (x : List Callback). flat_map (told_of m) (calls_heard s calls) ++ x) (told_state m a b)
    ∙ append-nil (flat_map (told_of m) (calls_heard s calls))

pub turn_own : (members : List SubId) (notes heard : List GroupNote) (s : SubId) (calls : List Callback) → heard ≡ turn_notes members notes s calls
    → flat_map (told_of s) (notes ++ heard) ≡ flat_map (told_of s) notes ++ calls
turn_own members notes heard s calls is =
    flat_map-append (told_of s) notes heard
    ∙ ap (λ (x : List Callback). flat_map (told_of s) notes ++ x) (ap (flat_map (told_of s)) is ∙ turn_with s members notes s calls ∙ told_same s calls)

pub turn_other : (members : List SubId) (notes heard : List GroupNote) (s m : SubId) (calls : List Callback) → heard ≡ turn_notes members notes s calls → same_sub s m ≡ false
    → flat_map (told_of m) (notes ++ heard) ≡ flat_map (told_of m) notes
turn_other members notes heard s m calls is other =
    flat_map-append (told_of m) notes heard
    ∙ ap (λ (x : List Callback). flat_map (told_of m) notes ++ x) (ap (flat_map (told_of m)) is ∙ turn_with m members notes s calls ∙ told_other s m calls other)
    ∙ append-nil (flat_map (told_of m) notes)

-- no more callbacks of one were heard than notes
pub told_few : (s : SubId) (notes : List GroupNote) → length (flat_map (told_of s) notes) ≤ length notes
told_few s [] = omega arith
told_few s (n ∷ ns) =
    let more = length-append (told_of s n) (flat_map (told_of s) ns) in
    let one = few n in
    let rest = told_few s ns in
    omega (arith, more, one, rest)
  where
    test : (same : Bool) (call : Callback) → length (cond same (call ∷ []) []) ≤ 1
    test true call = omega arith
    test false call = omega arith

    few : (n : GroupNote) → length (told_of s n) ≤ 1
    few (note.Call sub call) = test (same_sub sub s) call
    few (note.State after) = omega arith

-- and so no more callbacks of one are heard in all than there are notes
pub sum_few : (members : List SubId) (notes heard after : List GroupNote) (s : SubId) (calls : List Callback) (n : ℕ) → n ≡ length (flat_map (told_of s) notes) → heard ≡ turn_notes members notes s calls → after ≡ notes ++ heard
    → n + length calls ≤ length after
sum_few members notes heard after s calls n counted is behind =
    let own = ap (λ (cs : List Callback). length cs) (ap (flat_map (told_of s)) behind ∙ turn_own members notes heard s calls is) ∙ length-append (flat_map (told_of s) notes) calls in
    let few = told_few s after in
    omega (arith, own, few, counted)

-- a subscription without a place is in no group
pub none_at : {H : Type 0} (s : SubId) (groups : List (Group H)) → IsPlaceOf s groups None → (k : ℕ) (x : Group H) → slice_get groups k ≡ Some x → has_member s x.members ≡ true → ⊥
none_at {H} s groups none k x found has =
    let here : has_member s x.members ≡ false = all_at (λ (y : Group H). has_member s y.members ≡ false) groups k x found none in
    let bad : true ≡ false = sym has ∙ here in
    cc

-- ---- the places

module _ {H : Type 0} (groups : List (Group H)) (i : ℕ) (g h : Group H) (at : slice_get groups i ≡ Some g) (members : h.members ≡ g.members) where
  only_more : (s : SubId) (place : ℕ) → ((k : ℕ) (x : Group H) → slice_get groups k ≡ Some x → has_member s x.members ≡ true → k ≡ place)
      → (k : ℕ) (x : Group H) → slice_get (set groups i h) k ≡ Some x → has_member s x.members ≡ true → k ≡ place
  only_more s place only k x there has = by (eqb k i) refl
    where
      by : (b : Bool) → eqb k i ≡ b → k ≡ place
      by true e =
          let same : k ≡ i = eqb-true k i e in
          let is : h ≡ x = some_same h x (sym (set_same groups i h g at) ∙ ap (λ (n : ℕ). slice_get (set groups i h) n) (sym same) ∙ there) in
          only k g (ap (λ (n : ℕ). slice_get groups n) same ∙ at) (ap (has_member s) (sym members) ∙ ap (λ (y : Group H). has_member s y.members) is ∙ has)
      by false e = only k x (sym (set_other groups i k h (eqb-false k i e)) ∙ there) has

  -- a subscription of which the group heard nothing stands as it did
  pub placed_other : (s : SubId) (place : Option Place) → flat_map (told_of s) h.notes.items ≡ flat_map (told_of s) g.notes.items → IsPlaceOf s groups place → IsPlaceOf s (set groups i h) place
  placed_other s None told none =
      let P : Group H → Type 0 = λ x. has_member s x.members ≡ false in
      All-set P groups i h (ap (has_member s) members ∙ all_at P groups i g at none) none
  placed_other s (Some p) told (q, there, has, member, heard, only) = by (eqb p.group i) refl
    where
      by : (b : Bool) → eqb p.group i ≡ b → IsPlaceOf s (set groups i h) (Some p)
      by true e =
          let same : p.group ≡ i = eqb-true p.group i e in
          let is : q ≡ g = some_same q g (sym there ∙ ap (λ (n : ℕ). slice_get groups n) same ∙ at) in
          let alike : flat_map (told_of s) q.notes.items ≡ flat_map (told_of s) h.notes.items = ap (λ (x : Group H). flat_map (told_of s) x.notes.items) is ∙ sym told in (
            h,
            ap (λ (n : ℕ). slice_get (set groups i h) n) same ∙ set_same groups i h g at,
            ap (has_member s) members ∙ ap (λ (x : Group H). has_member s x.members) (sym is) ∙ has,
            member ∙ ap member_by alike,
            heard ∙ ap (λ (xs : List Callback). length xs) alike,
            only_more s p.group only,
          )
      by false e = (q, set_other groups i p.group h (eqb-false p.group i e) ∙ there, has, member, heard, only_more s p.group only)

  -- the one that was called back stands at its new place
  pub placed_own : (s : SubId) (p q : Place) → p.group ≡ i → q.group ≡ i → member_of q.member ≡ member_by (flat_map (told_of s) h.notes.items) → q.heard ≡ length (flat_map (told_of s) h.notes.items)
      → IsPlaceOf s groups (Some p) → IsPlaceOf s (set groups i h) (Some q)
  placed_own s p q was is member heard (x, there, has, old_member, old_heard, only) =
      let same : x ≡ g = some_same x g (sym there ∙ ap (λ (n : ℕ). slice_get groups n) was ∙ at) in (
        h,
        ap (λ (n : ℕ). slice_get (set groups i h) n) is ∙ set_same groups i h g at,
        ap (has_member s) members ∙ ap (λ (y : Group H). has_member s y.members) (sym same) ∙ has,
        member,
        heard,
        only_more s q.group (λ k y found y_has. only k y found y_has ∙ was ∙ sym is),
      )

  -- the places after one was written
  pub placed_all : (s : SubId) (p q : Place) (old new : SubId → Option Place) → old s ≡ Some p → ((t : SubId) → new t ≡ cond (same_sub s t) (Some q) (old t))
      → p.group ≡ i → q.group ≡ i → member_of q.member ≡ member_by (flat_map (told_of s) h.notes.items) → q.heard ≡ length (flat_map (told_of s) h.notes.items)
      → ((t : SubId) → same_sub s t ≡ false → flat_map (told_of t) h.notes.items ≡ flat_map (told_of t) g.notes.items)
      → ((t : SubId) → IsPlaceOf t groups (old t)) → (t : SubId) → IsPlaceOf t (set groups i h) (new t)
  placed_all s p q old new found written was is member heard others placed t = by (same_sub s t) refl
    where
      by : (b : Bool) → same_sub s t ≡ b → IsPlaceOf t (set groups i h) (new t)
      by true e =
          let own : s ≡ t = (same_sub-Decides s t).0 e in
          subst (λ (x : SubId). IsPlaceOf x (set groups i h) (new x)) own
          (subst (IsPlaceOf s (set groups i h)) (sym (written s ∙ ap (λ (b : Bool). cond b (Some q) (old s)) ((same_sub-Decides s s).1 refl)))
          (placed_own s p q was is member heard (subst (IsPlaceOf s groups) found (placed s))))
      by false e =
          subst (IsPlaceOf t (set groups i h)) (sym (written t ∙ ap (λ (b : Bool). cond b (Some q) (old t)) e)) (placed_other t (old t) (others t e) (placed t))

-- ---- what listeners have heard

heard_on : (xs : List GroupNote) (x : GroupNote) (a b c : Option (List GroupNote)) → HeardOn xs a b → HeardNext x b c → HeardOn (xs ++ x ∷ []) a c
heard_on xs x a b None was next = tt
heard_on xs x a None (Some after) was next = absurd next
heard_on xs x None (Some between) (Some after) was next = absurd was
heard_on xs x (Some first) (Some between) (Some after) was next = next ∙ ap (λ (ns : List GroupNote). ns ++ x ∷ []) was ∙ append_assoc first xs (x ∷ [])

heard_nothing : (a : Option (List GroupNote)) → HeardOn [] a a
heard_nothing None = tt
heard_nothing (Some notes) = sym (append-nil notes)

pub none_heard : (a : GroupListenerData) → HasHeard [] a a
none_heard a = record { tag = refl; calls = refl; heard = heard_nothing a.heard }

pub one_heard : (xs : List GroupNote) (x : GroupNote) (a b c : GroupListenerData) → HasHeard xs a b → Heard x b c → HasHeard (xs ++ x ∷ []) a c
one_heard xs x a b c was next =
    let more : suc (length xs) ≡ length (xs ++ x ∷ []) = let e = length-append xs (x ∷ []) in omega (arith, e) in
    record {
      tag = next.tag ∙ was.tag;
      calls = next.calls ∙ ap risen was.calls ∙ ap (reached a.calls) more;
      heard = heard_on xs x a.heard b.heard c.heard was.heard next.heard;
    }

-- ---- the whole table

unheard : (s : SubId) (calls : List Callback) (g : GroupData) → has_member s g.members ≡ false → GroupHeard (turn_of s calls g) g g
unheard s calls g none =
    let nothing : turn_of s calls g ≡ [] = ap (λ (b : Bool). cond b (turn_notes g.members g.notes s calls) []) none in
    subst (λ (ns : List GroupNote). GroupHeard ns g g) (sym nothing) (record { number = refl; members = refl; notes = sym (append-nil g.notes); listener = none_heard g.listener })

out : (b : Bool) → (b ≡ true → ⊥) → b ≡ false
out true never = absurd (never refl)
out false never = refl

module _ {H : Type 0} (view : H → GroupListenerData) (s : SubId) (calls : List Callback) where
  pub all_unheard : (groups : List (Group H)) → ((k : ℕ) (x : Group H) → slice_get groups k ≡ Some x → has_member s x.members ≡ true → ⊥)
      → AllHeard s calls (map (group_of view) groups) (map (group_of view) groups)
  all_unheard [] none = tt
  all_unheard (x ∷ xs) none = (unheard s calls (group_of view x) (out (has_member s x.members) (none 0 x refl)), all_unheard xs (λ k y found has. none (suc k) y found has))

  pub all_heard : (groups : List (Group H)) (i : ℕ) (g h : Group H) → slice_get groups i ≡ Some g → GroupHeard (turn_of s calls (group_of view g)) (group_of view g) (group_of view h)
      → ((k : ℕ) (x : Group H) → slice_get groups k ≡ Some x → has_member s x.members ≡ true → k ≡ i)
      → AllHeard s calls (map (group_of view) groups) (map (group_of view) (set groups i h))
  all_heard [] i g h at heard only = absurd cc
  all_heard (x ∷ xs) zero g h at heard only = (
    subst (λ (y : Group H). GroupHeard (turn_of s calls (group_of view y)) (group_of view y) (group_of view h)) (sym (some_same x g at)) heard,
    all_unheard xs (λ k y found has. let bad : suc k ≡ 0 = only (suc k) y found has in absurd (omega (arith, bad))),
  )
  all_heard (x ∷ xs) (suc i) g h at heard only = (
    unheard s calls (group_of view x) (out (has_member s x.members) (λ has. let bad : 0 ≡ suc i = only 0 x refl has in absurd (omega (arith, bad)))),
    all_heard xs i g h at heard (λ k y found has. let e : suc k ≡ suc i = only (suc k) y found has in omega (arith, e)),
  )

-- what is told of a group that was given room is what was told of it
module _ {H : Type 0} (view : H → GroupListenerData) where
  pub same_still : (groups : List (Group H)) (i : ℕ) (g h : Group H) → slice_get groups i ≡ Some g → group_of view h ≡ group_of view g → map (group_of view) (set groups i h) ≡ map (group_of view) groups
  same_still [] i g h at same = refl
  same_still (x ∷ xs) zero g h at same = ap (λ (y : GroupData). y ∷ map (group_of view) xs) (same ∙ ap (group_of view) (sym (some_same x g at)))
  same_still (x ∷ xs) (suc i) g h at same = ap (λ (ys : List GroupData). group_of view x ∷ ys) (same_still xs i g h at same)

-- ---- how many callbacks of one were heard

abbrev told_in : SubId → GroupData → List Callback
told_in s g = cond (has_member s g.members) (flat_map (told_of s) g.notes) []

module _ {H : Type 0} (view : H → GroupListenerData) (s : SubId) where
  heard_none : (groups : List (Group H)) → ((k : ℕ) (x : Group H) → slice_get groups k ≡ Some x → has_member s x.members ≡ true → ⊥) → flat_map (told_in s) (map (group_of view) groups) ≡ []
  heard_none [] none = refl
  heard_none (x ∷ xs) none =
      let here : has_member s x.members ≡ false = out (has_member s x.members) (λ has. none 0 x refl has) in
      ap (λ (b : Bool). cond b (flat_map (told_of s) x.notes.items) [] ++ flat_map (told_in s) (map (group_of view) xs)) here ∙ heard_none xs (λ k y found has. none (suc k) y found has)

  heard_at : (groups : List (Group H)) (i : ℕ) (g : Group H) → slice_get groups i ≡ Some g → has_member s g.members ≡ true
      → ((k : ℕ) (x : Group H) → slice_get groups k ≡ Some x → has_member s x.members ≡ true → k ≡ i)
      → flat_map (told_in s) (map (group_of view) groups) ≡ flat_map (told_of s) g.notes.items
  heard_at [] i g at has only = absurd cc
  heard_at (x ∷ xs) zero g at has only =
      let same : x ≡ g = some_same x g at in
      let here : has_member s x.members ≡ true = ap (λ (y : Group H). has_member s y.members) same ∙ has in
      ap (λ (b : Bool). cond b (flat_map (told_of s) x.notes.items) [] ++ flat_map (told_in s) (map (group_of view) xs)) here
      ∙ ap (λ (cs : List Callback). flat_map (told_of s) x.notes.items ++ cs) (heard_none xs (λ k y found y_has. let bad : suc k ≡ 0 = only (suc k) y found y_has in absurd (omega (arith, bad))))
      ∙ append-nil (flat_map (told_of s) x.notes.items)
      ∙ ap (λ (y : Group H). flat_map (told_of s) y.notes.items) same
  heard_at (x ∷ xs) (suc i) g at has only =
      let here : has_member s x.members ≡ false = out (has_member s x.members) (λ x_has. let bad : 0 ≡ suc i = only 0 x refl x_has in absurd (omega (arith, bad))) in
      ap (λ (b : Bool). cond b (flat_map (told_of s) x.notes.items) [] ++ flat_map (told_in s) (map (group_of view) xs)) here
      ∙ heard_at xs i g at has (λ k y found y_has. let e : suc k ≡ suc i = only (suc k) y found y_has in omega (arith, e))

  pub heard_placed : (groups : List (Group H)) (p : Place) → IsPlaceOf s groups (Some p) → p.heard ≡ heard_in s (map (group_of view) groups)
  heard_placed groups p (q, there, has, member, heard, only) = heard ∙ sym (ap (λ (cs : List Callback). length cs) (heard_at groups p.group q there has only))

  pub heard_unplaced : (groups : List (Group H)) → IsPlaceOf s groups None → 0 ≡ heard_in s (map (group_of view) groups)
  heard_unplaced groups none =
      let P : Group H → Type 0 = λ x. has_member s x.members ≡ false in
      sym (ap (λ (cs : List Callback). length cs)
      (heard_none groups (λ k x found has. let here : has_member s x.members ≡ false = all_at P groups k x found none in let bad : true ≡ false = sym has ∙ here in absurd cc)))

  never_own : (count : ℕ) (groups : List (Group H)) → ((k : ℕ) (x : Group H) → slice_get groups k ≡ Some x → has_member s x.members ≡ true → ⊥)
      → AllByRecursion (λ (d : GroupData). has_member s d.members ≡ true → count ≡ length (flat_map (told_of s) d.notes)) (map (group_of view) groups)
  never_own count [] none = tt
  never_own count (x ∷ xs) none = (λ has. absurd (none 0 x refl has), never_own count xs (λ k y found has. none (suc k) y found has))

  own_at : (groups : List (Group H)) (i : ℕ) (g : Group H) → slice_get groups i ≡ Some g → ((k : ℕ) (x : Group H) → slice_get groups k ≡ Some x → has_member s x.members ≡ true → k ≡ i)
      → AllByRecursion (λ (d : GroupData). has_member s d.members ≡ true → length (flat_map (told_of s) g.notes.items) ≡ length (flat_map (told_of s) d.notes)) (map (group_of view) groups)
  own_at [] i g at only = absurd cc
  own_at (x ∷ xs) zero g at only = (
    λ has. ap (λ (y : Group H). length (flat_map (told_of s) y.notes.items)) (sym (some_same x g at)),
    never_own (length (flat_map (told_of s) g.notes.items)) xs (λ k y found has. let bad : suc k ≡ 0 = only (suc k) y found has in absurd (omega (arith, bad))),
  )
  own_at (x ∷ xs) (suc i) g at only = (
    λ has. let bad : 0 ≡ suc i = only 0 x refl has in absurd (omega (arith, bad)),
    own_at xs i g at (λ k y found has. let e : suc k ≡ suc i = only (suc k) y found has in omega (arith, e)),
  )

  -- so many callbacks of one were heard by each group that it is in
  pub own_placed : (groups : List (Group H)) (p : Place) → IsPlaceOf s groups (Some p)
      → AllByRecursion (λ (d : GroupData). has_member s d.members ≡ true → p.heard ≡ length (flat_map (told_of s) d.notes)) (map (group_of view) groups)
  own_placed groups p (q, there, has, member, heard, only) =
      subst (λ (n : ℕ). AllByRecursion (λ (d : GroupData). has_member s d.members ≡ true → n ≡ length (flat_map (told_of s) d.notes)) (map (group_of view) groups)) (sym heard) (own_at groups p.group q there only)

  pub own_unplaced : (count : ℕ) (groups : List (Group H)) → IsPlaceOf s groups None
      → AllByRecursion (λ (d : GroupData). has_member s d.members ≡ true → count ≡ length (flat_map (told_of s) d.notes)) (map (group_of view) groups)
  own_unplaced count groups none =
      let P : Group H → Type 0 = λ x. has_member s x.members ≡ false in
      never_own count groups (λ k x found has. let here : has_member s x.members ≡ false = all_at P groups k x found none in let bad : true ≡ false = sym has ∙ here in absurd cc)

-- ---- the places of a group's members, one by one

swap_step : (a b : SubId) (x y : Bool) → same_sub a b ≡ x → same_sub b a ≡ y → x ≡ y
swap_step a b true true e f = refl
swap_step a b false false e f = refl
swap_step a b true false e f = let at : a ≡ b = (same_sub-Decides a b).0 e in let bad : true ≡ false = sym ((same_sub-Decides b a).1 (sym at)) ∙ f in absurd cc
swap_step a b false true e f = let at : b ≡ a = (same_sub-Decides b a).0 f in let bad : true ≡ false = sym ((same_sub-Decides a b).1 (sym at)) ∙ e in absurd cc

sub_swap : (a b : SubId) → same_sub a b ≡ same_sub b a
sub_swap a b = swap_step a b (same_sub a b) (same_sub b a) refl refl

pick_step : {X : Type 0} (a b : Bool) (p old : X) → cond b p (cond a p old) ≡ cond (a || (b || false)) p old
pick_step true true p old = refl
pick_step true false p old = refl
pick_step false true p old = refl
pick_step false false p old = refl

-- the place of one member more is written
pub placed_more : {X : Type 0} (s sub : SubId) (before : List SubId) (p old : X) → cond (same_sub sub s) p (cond (has_member s before) p old) ≡ cond (has_member s (before ++ sub ∷ [])) p old
placed_more s sub before p old =
    ap (λ (b : Bool). cond b p (cond (has_member s before) p old)) (sub_swap sub s)
    ∙ pick_step (has_member s before) (same_sub s sub) p old
    ∙ ap (λ (b : Bool). cond b p old) (sym (list_any-append (same_sub s) before (sub ∷ [])))

pub places_more : {X : Type 0} (all : List SubId) (i : ℕ) (d s : SubId) (p old between now : X) → i < length all → now ≡ cond (same_sub (get_or all i d) s) p between
    → between ≡ cond (has_member s (take i all)) p old → now ≡ cond (has_member s (take (i + 1) all)) p old
places_more all i d s p old between now lt written before =
    written
    ∙ ap (λ (o : _). cond (same_sub (get_or all i d) s) p o) before
    ∙ placed_more s (get_or all i d) (take i all) p old
    ∙ ap (λ (ms : List SubId). cond (has_member s ms) p old) (sym (take_more all i d lt))

-- ---- the state of the group of a number

next_group : {X : Type 0} (xs : List X) (i : ℕ) (x : X) → i < length xs → x ≡ get_or xs i x → drop i xs ≡ x ∷ drop (i + 1) xs
next_group xs i x lt is = drop_more xs i x lt ∙ ap (λ (y : _). y ∷ drop (i + 1) xs) (sym is)

module _ {H : Type 0} (view : H → GroupListenerData) (number : ℕ) (groups : List (Group H)) (i : ℕ) (x : Group H) (lt : i < length groups) (is : x ≡ get_or groups i x) where
  at_here : state_in number (map (group_of view) (drop i groups)) ≡ cond (eqb x.number number) (Some (state_after x.members x.notes.items)) (state_in number (map (group_of view) (drop (i + 1) groups)))
  at_here = ap (λ (gs : List (Group H)). state_in number (map (group_of view) gs)) (next_group groups i x lt is)

  -- it is the group of the number, and its state is by its counts
  pub state_found : (all : Option GroupState) → eqb x.number number ≡ true → state_by x.counts ≡ state_after x.members x.notes.items
      → state_in number (map (group_of view) (drop i groups)) ≡ all → Some (state_by x.counts) ≡ all
  state_found all e counted before =
      ap (λ (s : GroupState). Some s) counted
      ∙ sym (ap (λ (b : Bool). cond b (Some (state_after x.members x.notes.items)) (state_in number (map (group_of view) (drop (i + 1) groups)))) e)
      ∙ sym at_here ∙ before

  pub state_next : (all : Option GroupState) → eqb x.number number ≡ false → state_in number (map (group_of view) (drop i groups)) ≡ all
      → state_in number (map (group_of view) (drop (i + 1) groups)) ≡ all
  state_next all e before =
      sym (ap (λ (b : Bool). cond b (Some (state_after x.members x.notes.items)) (state_in number (map (group_of view) (drop (i + 1) groups)))) e)
      ∙ sym at_here ∙ before

drop_none : {X : Type 0} (xs : List X) (i : ℕ) → length xs ≤ i → drop i xs ≡ []
drop_none [] zero h = refl
drop_none [] (suc i) h = refl
drop_none (x ∷ xs) zero h = absurd (omega (arith, h))
drop_none (x ∷ xs) (suc i) h = drop_none xs i (omega (arith, h))

pub state_none : {H : Type 0} (view : H → GroupListenerData) (number : ℕ) (groups : List (Group H)) (i : ℕ) (all : Option GroupState) → length groups ≤ i
    → state_in number (map (group_of view) (drop i groups)) ≡ all → None ≡ all
state_none view number groups i all long before = sym (ap (λ (gs : List (Group _)). state_in number (map (group_of view) gs)) (drop_none groups i long)) ∙ before
