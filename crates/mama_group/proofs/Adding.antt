-- A group is put behind the others of a new table: its members wait at its place, and all others stand as they did.
use Rattle.std.proofs.Common.{◌≡◌, ℕ, zero, suc, Bool, true, false, cond, List, [], ◌∷◌, ◌++◌, length, map, Option, None, Some, refl, sym, ap, subst, ◌∙◌, append-nil, append_assoc}
use Rattle.std.specs.Prelude.{slice_get, ◌||◌}
use Rattle.std.specs.List.{All, flat_map, list_any}
use Rattle.std.proofs.lemmas.Bool.{or_parts}
use Rattle.std.proofs.lemmas.List.Elements.{All-push, All-nil, All-cons}
use Rattle.std.proofs.lemmas.List.{map-append}
use Rattle.std.proofs.lemmas.List.Concat.{flat_map-append}
use Rattle.std.proofs.lemmas.List.Folds.{list_any-append}
use Rattle.indexmap.specs.IndexMap.{IndexMap, get}
use Rattle.mama_journal.specs.Journal.{count_of}
use Rattle.mama_event.specs.declared.ids.SubId.{SubId}
use Rattle.mama_event.specs.declared.group.GroupNote.{GroupNote}
use Rattle.mama_event.specs.declared.group.GroupRow.{GroupRow}
use Rattle.mama_event.specs.Object.{same_sub}
use Rattle.mama_rules_queue.specs.Group as rules
use Rattle.mama_rules_queue.specs.Group.{member_by}
use Rattle.mama_rules_queue.specs.GroupTurns.{told_of}
use Rattle.mama_group.specs.declared.group.Group.{Group}
use Rattle.mama_group.specs.declared.counts.Counts.{Counts}
use Rattle.mama_group.specs.declared.member.Member.TheVariants as kept
use Rattle.mama_group.specs.declared.table.Place.{Place}
use Rattle.mama_group.specs.Listener.{GroupListenerData}
use Rattle.mama_group.specs.Table.{GroupData, has_member, are_distinct, new_group, new_groups}
use Rattle.mama_group.specs.Kept.{group_of, members_by, AreCounted, IsPlaceOf, IsCounted, AreApart}
use Rattle.mama_group.proofs.Counting.{hidden}
use Rattle.mama_group.proofs.Placing.{all_at, some_same}

-- ---- what stands at a place of a list with one more

split_at : {X : Type 0} (xs : List X) (y : X) (k : ℕ) (x : X) → slice_get (xs ++ y ∷ []) k ≡ Some x → (R : Type 0) → (slice_get xs k ≡ Some x → R) → (k ≡ length xs → y ≡ x → R) → R
split_at [] y zero x at R left right = right refl (some_same y x at)
split_at [] y (suc k) x at R left right = absurd cc
split_at (z ∷ zs) y zero x at R left right = left at
split_at (z ∷ zs) y (suc k) x at R left right = split_at zs y k x at R left (λ e f. right (ap (λ (n : ℕ). suc n) e) f)

at_last : {X : Type 0} (xs : List X) (y : X) → slice_get (xs ++ y ∷ []) (length xs) ≡ Some y
at_last [] y = refl
at_last (x ∷ xs) y = at_last xs y

at_before : {X : Type 0} (xs : List X) (y : X) (k : ℕ) (x : X) → slice_get xs k ≡ Some x → slice_get (xs ++ y ∷ []) k ≡ Some x
at_before [] y k x at = absurd cc
at_before (z ∷ zs) y zero x at = at
at_before (z ∷ zs) y (suc k) x at = at_before zs y k x at

-- ---- the places

module _ {H : Type 0} (groups : List (Group H)) (h : Group H) (fresh : h.notes.items ≡ []) (s : SubId) where
  own : has_member s h.members ≡ true → All (λ (g : Group H). has_member s g.members ≡ false) groups
      → IsPlaceOf s (groups ++ h ∷ []) (Some record { group = length groups; member = kept.Waiting; heard = 0 })
  own has none =
      let P : Group H → Type 0 = λ g. has_member s g.members ≡ false in (
        h,
        at_last groups h,
        has,
        ap (λ (ns : List GroupNote). member_by (flat_map (told_of s) ns)) (sym fresh),
        ap (λ (ns : List GroupNote). length (flat_map (told_of s) ns)) (sym fresh),
        λ k x found x_has.
            split_at groups h k x found (k ≡ length groups)
            (λ at. let here : has_member s x.members ≡ false = all_at P groups k x at none in let bad : true ≡ false = sym x_has ∙ here in absurd cc)
            (λ e f. e),
      )

  other : (old : Option Place) → has_member s h.members ≡ false → IsPlaceOf s groups old → IsPlaceOf s (groups ++ h ∷ []) old
  other None lacks none = All-push (λ (g : Group H). has_member s g.members ≡ false) groups h none lacks
  other (Some p) lacks (q, there, has, member, heard, only) = (
    q,
    at_before groups h p.group q there,
    has,
    member,
    heard,
    λ k x found x_has.
        split_at groups h k x found (k ≡ p.group) (λ at. only k x at x_has)
        (λ e f. let bad : false ≡ true = sym lacks ∙ ap (λ (g : Group H). has_member s g.members) f ∙ x_has in absurd cc),
  )

  pub placed_new : (old : Option Place) → (has_member s h.members ≡ true → All (λ (g : Group H). has_member s g.members ≡ false) groups) → IsPlaceOf s groups old
      → IsPlaceOf s (groups ++ h ∷ []) (cond (has_member s h.members) (Some record { group = length groups; member = kept.Waiting; heard = 0 }) old)
  placed_new old apart placed = by (has_member s h.members) refl
    where
      by : (b : Bool) → has_member s h.members ≡ b → IsPlaceOf s (groups ++ h ∷ []) (cond b (Some record { group = length groups; member = kept.Waiting; heard = 0 }) old)
      by true e = own e (apart e)
      by false e = other old e placed

-- ---- the counts of a new group

all_wait : (members : List SubId) → count_of rules.is_waiting (members_by members []) ≡ length members
all_wait [] = refl
all_wait (m ∷ ms) = ap (λ (n : ℕ). suc n) (all_wait ms)

none_stale : (members : List SubId) → count_of rules.is_stale (members_by members []) ≡ 0
none_stale [] = refl
none_stale (m ∷ ms) = none_stale ms

none_ended : (members : List SubId) → count_of rules.is_ended (members_by members []) ≡ 0
none_ended [] = refl
none_ended (m ∷ ms) = none_ended ms

long : (members : List SubId) → length (members_by members []) ≡ length members
long [] = refl
long (m ∷ ms) = ap (λ (n : ℕ). suc n) (long ms)

pub counted_new : (members : List SubId) → AreCounted record { members = length members; waiting = length members; stale = 0; ended = 0 } (members_by members [])
counted_new members = record {
  members = sym (long members);
  waiting = sym (all_wait members);
  stale = sym (none_stale members);
  ended = sym (none_ended members);
}

-- ---- different members

distinct_step : (before : List SubId) (x : SubId) (xs ys : List SubId) (b : Bool) → has_member x before ≡ b → cond b false (are_distinct (before ++ x ∷ []) (xs ++ ys)) ≡ true
    → (are_distinct (before ++ x ∷ []) (xs ++ ys) ≡ true → are_distinct ((before ++ x ∷ []) ++ xs) ys ≡ true) → are_distinct (before ++ x ∷ xs) ys ≡ true
distinct_step before x xs ys true e distinct more = absurd cc
distinct_step before x xs ys false e distinct more = ap (λ (ms : List SubId). are_distinct ms ys) (sym (append_assoc before (x ∷ []) xs)) ∙ more distinct

distinct_from : (before xs ys : List SubId) → are_distinct before (xs ++ ys) ≡ true → are_distinct (before ++ xs) ys ≡ true
distinct_from before [] ys distinct = ap (λ (ms : List SubId). are_distinct ms ys) (append-nil before) ∙ distinct
distinct_from before (x ∷ xs) ys distinct = distinct_step before x xs ys (has_member x before) refl distinct (distinct_from (before ++ x ∷ []) xs ys)

-- what stands in a list behind others stands in none of them
pub apart_from : (s : SubId) (before members : List SubId) (behind : List SubId) → are_distinct before (members ++ behind) ≡ true → has_member s members ≡ true → has_member s before ≡ false
apart_from s before members behind distinct has = by (has_member s before) refl
  where
    by : (b : Bool) → has_member s before ≡ b → b ≡ false
    by true e =
        let none : has_member s (members ++ behind) ≡ false = hidden s (members ++ behind) before e distinct in
        let bad : true ≡ false = sym (list_any-append (same_sub s) members behind ∙ ap (λ (b : Bool). b || has_member s behind) has) ∙ none in
        absurd cc
    by false e = refl

inside_step : (a b c : Bool) → (a ≡ true → b ≡ true) → (a || c) ≡ true → (b || c) ≡ true
inside_step true b c more e = ap (λ (t : Bool). t || c) (more refl)
inside_step false true c more e = refl
inside_step false false c more e = e

inside_more : (few many : List SubId) (x s : SubId) → (has_member s few ≡ true → has_member s many ≡ true) → has_member s (few ++ x ∷ []) ≡ true → has_member s (many ++ x ∷ []) ≡ true
inside_more few many x s more has =
    list_any-append (same_sub s) many (x ∷ [])
    ∙ inside_step (has_member s few) (has_member s many) (has_member s (x ∷ [])) more (sym (list_any-append (same_sub s) few (x ∷ [])) ∙ has)

fewer_step : (many few : List SubId) (x : SubId) (xs : List SubId) (b c : Bool) → has_member x few ≡ b → has_member x many ≡ c → (has_member x few ≡ true → has_member x many ≡ true)
    → cond c false (are_distinct (many ++ x ∷ []) xs) ≡ true → (are_distinct (many ++ x ∷ []) xs ≡ true → are_distinct (few ++ x ∷ []) xs ≡ true) → cond b false (are_distinct (few ++ x ∷ []) xs) ≡ true
fewer_step many few x xs b true e f more distinct rest = absurd cc
fewer_step many few x xs true false e f more distinct rest = let bad : true ≡ false = sym (more e) ∙ f in absurd cc
fewer_step many few x xs false false e f more distinct rest = rest distinct

-- what is different behind many is so behind few of them
distinct_fewer : (many few xs : List SubId) → ((s : SubId) → has_member s few ≡ true → has_member s many ≡ true) → are_distinct many xs ≡ true → are_distinct few xs ≡ true
distinct_fewer many few [] more distinct = refl
distinct_fewer many few (x ∷ xs) more distinct =
    fewer_step many few x xs (has_member x few) (has_member x many) refl refl (more x) distinct
    (distinct_fewer (many ++ x ∷ []) (few ++ x ∷ []) xs (λ s has. inside_more few many x s (more s) has))

front_step : (before : List SubId) (x : SubId) (xs ys : List SubId) (b : Bool) → cond b false (are_distinct (before ++ x ∷ []) (xs ++ ys)) ≡ true
    → (are_distinct (before ++ x ∷ []) (xs ++ ys) ≡ true → are_distinct (before ++ x ∷ []) xs ≡ true) → cond b false (are_distinct (before ++ x ∷ []) xs) ≡ true
front_step before x xs ys true distinct rest = absurd cc
front_step before x xs ys false distinct rest = rest distinct

distinct_front : (before xs ys : List SubId) → are_distinct before (xs ++ ys) ≡ true → are_distinct before xs ≡ true
distinct_front before [] ys distinct = refl
distinct_front before (x ∷ xs) ys distinct = front_step before x xs ys (has_member x before) distinct (distinct_front (before ++ x ∷ []) xs ys)

-- the members of one group among others are different
distinct_own : (before xs ys : List SubId) → are_distinct before (xs ++ ys) ≡ true → are_distinct [] xs ≡ true
distinct_own before xs ys distinct = distinct_fewer before [] xs (λ s has. absurd cc) (distinct_front before xs ys distinct)

-- ---- a table with one group more

abbrev pub members_in : {H : Type 0} → List (Group H) → List SubId
members_in groups = flat_map (λ (g : Group _). g.members) groups

in_none : {H : Type 0} (s : SubId) (groups : List (Group H)) → has_member s (members_in groups) ≡ false → All (λ (g : Group H). has_member s g.members ≡ false) groups
in_none {H} s [] none = All-nil (λ (g : Group H). has_member s g.members ≡ false)
in_none {H} s (g ∷ gs) none =
    let p = or_parts (has_member s g.members) (has_member s (members_in gs)) (sym (list_any-append (same_sub s) g.members (members_in gs)) ∙ none) in
    All-cons (λ (g : Group H). has_member s g.members ≡ false) g gs p.0 (in_none s gs p.1)

-- each member is found, and each group is counted
pub record IsBegun {H T : Type 0} (groups : List (Group H)) (places : IndexMap SubId Place T) : Type 0 where
  pub placed : (s : SubId) → IsPlaceOf s groups (get same_sub places s)
  pub counted : All IsCounted groups
  pub apart : All AreApart groups

module _ {H T : Type 0} (groups : List (Group H)) (h : Group H) (places after : IndexMap SubId Place T) (behind : List SubId) where
  pub begun_more : h.notes.items ≡ [] → h.counts ≡ record { members = length h.members; waiting = length h.members; stale = 0; ended = 0 }
      → ((s : SubId) → get same_sub after s ≡ cond (has_member s h.members) (Some record { group = length groups; member = kept.Waiting; heard = 0 }) (get same_sub places s))
      → are_distinct (members_in groups) (h.members ++ behind) ≡ true → IsBegun groups places → IsBegun (groups ++ h ∷ []) after
  begun_more fresh counts written distinct begun =
      let counted : IsCounted h =
      subst (λ (c : Counts). AreCounted c (members_by h.members h.notes.items)) (sym counts)
      (subst (λ (ns : List GroupNote). AreCounted record { members = length h.members; waiting = length h.members; stale = 0; ended = 0 } (members_by h.members ns)) (sym fresh) (counted_new h.members)) in
      record {
        placed = λ s.
            subst (IsPlaceOf s (groups ++ h ∷ [])) (sym (written s))
            (placed_new groups h fresh s (get same_sub places s) (λ has. in_none s groups (apart_from s (members_in groups) h.members behind distinct has)) (begun.placed s));
        counted = All-push IsCounted groups h begun.counted counted;
        apart = All-push AreApart groups h begun.apart (distinct_own (members_in groups) h.members behind distinct);
      }

  pub distinct_next : are_distinct (members_in groups) (h.members ++ behind) ≡ true → are_distinct (members_in (groups ++ h ∷ [])) behind ≡ true
  distinct_next distinct =
      ap (λ (ms : List SubId). are_distinct ms behind) (flat_map-append (λ (g : Group H). g.members) groups (h ∷ []) ∙ ap (λ (ms : List SubId). members_in groups ++ ms) (append-nil h.members))
      ∙ distinct_from (members_in groups) h.members behind distinct

-- what is still to be put is put next
pub put_next : {H : Type 0} (view : H → GroupListenerData) (done : List (Group H)) (h : Group H) (g : ℕ × GroupRow) (gs : List (ℕ × GroupRow)) (l : GroupListenerData) (ls : List GroupListenerData) (all : List GroupData)
    → group_of view h ≡ new_group g l → map (group_of view) done ++ new_groups (g ∷ gs) (l ∷ ls) ≡ all → map (group_of view) (done ++ h ∷ []) ++ new_groups gs ls ≡ all
put_next view done h g gs l ls all is before =
    ap (λ (xs : List GroupData). xs ++ new_groups gs ls) (map-append (group_of view) done (h ∷ []))
    ∙ append_assoc (map (group_of view) done) (group_of view h ∷ []) (new_groups gs ls)
    ∙ ap (λ (x : GroupData). map (group_of view) done ++ x ∷ new_groups gs ls) is
    ∙ before
