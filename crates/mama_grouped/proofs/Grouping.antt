-- The groups of a script on one queue have different numbers and some members each, and no subscription is twice among these.
use Rattle.std.proofs.Common.{◌≡◌, ℕ, suc, ◌≤◌, Bool, true, false, cond, List, [], ◌∷◌, ◌++◌, map, refl, sym, ap, subst, ◌∙◌, arith}
use Rattle.std.specs.Prelude.{◌||◌, ◌==◌, filter}
use Rattle.std.specs.List.{AllByRecursion}
use Rattle.std.proofs.lemmas.Bool.{or_parts, ne_eqb}
use Rattle.std.proofs.lemmas.List.{map-append}
use Rattle.std.proofs.lemmas.List.Folds.{list_any-append}
use Rattle.mama_event.specs.declared.ids.SubId.{SubId}
use Rattle.mama_event.specs.declared.group.GroupRow.{GroupRow}
use Rattle.mama_event.specs.Object.{same_sub}
use Rattle.mama_words.specs.Id.{sub_word}
use Rattle.mama_script.specs.Placing.{has_id}
use Rattle.mama_script.specs.Within.{AreIdsApart, all_grouped, HasMember}
use Rattle.mama_rules_rounds.specs.Client.{Planned}
use Rattle.mama_rules_rounds.specs.Setting.{Grouped}
use Rattle.mama_rules_rounds.specs.Sections.{groups_from, queue_of_members}
use Rattle.mama_plans.specs.Lists.{group_row, groups_on}
use Rattle.mama_group.specs.Table.{AreApart, HaveMembers, has_member, are_distinct, all_members}
use Rattle.mama_grouped.proofs.Serving.{other_way}

-- ---- subscriptions by their words

has_word : (x : SubId) (xs : List SubId) → has_id (sub_word x) (map sub_word xs) ≡ has_member x xs
has_word x [] = refl
has_word x (y ∷ ys) = ap (λ (b : Bool). same_sub x y || b) (has_word x ys)

abbrev AreSubsApart : List SubId → Type 0
AreSubsApart [] = Unit {0}
AreSubsApart (x ∷ xs) = (has_member x xs ≡ false) × AreSubsApart xs

abbrev members_of : List GroupRow → List SubId
members_of [] = []
members_of (g ∷ gs) = g.members ++ members_of gs

words_of : (gs : List GroupRow) → all_grouped gs ≡ map sub_word (members_of gs)
words_of [] = refl
words_of (g ∷ gs) = ap (λ ws. map sub_word g.members ++ ws) (words_of gs) ∙ sym (map-append sub_word g.members (members_of gs))

subs_apart : (xs : List SubId) → AreIdsApart (map sub_word xs) → AreSubsApart xs
subs_apart [] h = tt
subs_apart (x ∷ xs) h = (sym (has_word x xs) ∙ h.0, subs_apart xs h.1)

-- ---- what is apart

neither : (x : SubId) (xs ys : List SubId) → has_member x xs ≡ false → has_member x ys ≡ false → has_member x (xs ++ ys) ≡ false
neither x xs ys a b = list_any-append (same_sub x) xs ys ∙ ap (λ (t : Bool). t || has_member x ys) a ∙ b

both_out : (x : SubId) (xs ys : List SubId) → has_member x (xs ++ ys) ≡ false → (has_member x xs ≡ false) × (has_member x ys ≡ false)
both_out x xs ys none = or_parts (has_member x xs) (has_member x ys) (sym (list_any-append (same_sub x) xs ys) ∙ none)

apart_rest : (xs ys : List SubId) → AreSubsApart (xs ++ ys) → AreSubsApart ys
apart_rest [] ys h = h
apart_rest (x ∷ xs) ys h = apart_rest xs ys h.1

apart_front : (xs ys zs : List SubId) → ((x : SubId) → has_member x ys ≡ false → has_member x zs ≡ false) → AreSubsApart zs → AreSubsApart (xs ++ ys) → AreSubsApart (xs ++ zs)
apart_front [] ys zs fewer rest h = rest
apart_front (x ∷ xs) ys zs fewer rest h =
    let out = both_out x xs ys h.0 in
    (neither x xs zs out.0 (fewer x out.1), apart_front xs ys zs fewer rest h.1)

behind : (x : SubId) (before xs : List SubId) → has_member x xs ≡ false → AllByRecursion (λ (y : SubId). has_member y before ≡ false) xs → AllByRecursion (λ (y : SubId). has_member y (before ++ x ∷ []) ≡ false) xs
behind x before [] none out = tt
behind x before (y ∷ ys) none out =
    let p = or_parts (same_sub x y) (has_member x ys) none in
    (neither y before (x ∷ []) out.0 (ap (λ (b : Bool). b || false) (other_way x y y refl p.0)), behind x before ys p.1 out.1)

distinct_behind : (before xs : List SubId) → AreSubsApart xs → AllByRecursion (λ (y : SubId). has_member y before ≡ false) xs → are_distinct before xs ≡ true
distinct_behind before [] apart out = refl
distinct_behind before (x ∷ xs) apart out =
    ap (λ (b : Bool). cond b false (are_distinct (before ++ x ∷ []) xs)) out.0 ∙ distinct_behind (before ++ x ∷ []) xs apart.1 (behind x before xs apart.0 out.1)

out_of_none : (xs : List SubId) → AllByRecursion (λ (y : SubId). has_member y [] ≡ false) xs
out_of_none [] = tt
out_of_none (x ∷ xs) = (refl, out_of_none xs)

-- ---- the groups on a queue

module _ (objects : List Planned) (q : ℕ) where
  abbrev rest : ℕ → List GroupRow → List Grouped
  rest n rows = filter (λ (g : Grouped). g.queue == q) (groups_from objects n rows)

  abbrev on : ℕ → List GroupRow → List (ℕ × GroupRow)
  on n rows = groups_on (groups_from objects n rows) q

  abbrev own : ℕ → GroupRow → Grouped
  own n row = record { number = n; queue = queue_of_members objects row.members; members = row.members }

  numbers_above : (n m : ℕ) (rows : List GroupRow) → n ≤ m → AllByRecursion (λ (h : ℕ × GroupRow). n ≤ h.0) (on m rows)
  numbers_above n m [] le = tt
  numbers_above n m (row ∷ rows) le = by (queue_of_members objects row.members == q) (numbers_above n (suc m) rows (omega (arith, le)))
    where
      by : (t : Bool) → AllByRecursion (λ (h : ℕ × GroupRow). n ≤ h.0) (on (suc m) rows) → AllByRecursion (λ (h : ℕ × GroupRow). n ≤ h.0) (map group_row (cond t (own m row ∷ rest (suc m) rows) (rest (suc m) rows)))
      by true h = (le, h)
      by false h = h

  others : (n : ℕ) (hs : List (ℕ × GroupRow)) → AllByRecursion (λ (h : ℕ × GroupRow). suc n ≤ h.0) hs → AllByRecursion (λ (h : ℕ × GroupRow). (h.0 == n) ≡ false) hs
  others n [] above = tt
  others n (h ∷ hs) above = (let le = above.0 in ne_eqb h.0 n (λ e. omega (arith, e, le)), others n hs above.1)

  pub apart_on : (n : ℕ) (rows : List GroupRow) → AreApart (on n rows)
  apart_on n [] = tt
  apart_on n (row ∷ rows) = by (queue_of_members objects row.members == q) (apart_on (suc n) rows)
    where
      by : (t : Bool) → AreApart (on (suc n) rows) → AreApart (map group_row (cond t (own n row ∷ rest (suc n) rows) (rest (suc n) rows)))
      by true h = (others n (on (suc n) rows) (numbers_above (suc n) (suc n) rows (omega arith)), h)
      by false h = h

  pub some_on : (n : ℕ) (rows : List GroupRow) → AllByRecursion HasMember rows → HaveMembers (on n rows)
  some_on n [] some = tt
  some_on n (row ∷ rows) some = by (queue_of_members objects row.members == q) (some_on (suc n) rows some.1)
    where
      by : (t : Bool) → HaveMembers (on (suc n) rows) → HaveMembers (map group_row (cond t (own n row ∷ rest (suc n) rows) (rest (suc n) rows)))
      by true h = (some.0, h)
      by false h = h

  fewer : (x : SubId) (n : ℕ) (rows : List GroupRow) → has_member x (members_of rows) ≡ false → has_member x (all_members (on n rows)) ≡ false
  fewer x n [] none = refl
  fewer x n (row ∷ rows) none = by (queue_of_members objects row.members == q) (fewer x (suc n) rows (both_out x row.members (members_of rows) none).1)
    where
      by : (t : Bool) → has_member x (all_members (on (suc n) rows)) ≡ false → has_member x (all_members (map group_row (cond t (own n row ∷ rest (suc n) rows) (rest (suc n) rows)))) ≡ false
      by true h = neither x row.members (all_members (on (suc n) rows)) (both_out x row.members (members_of rows) none).0 h
      by false h = h

  subs_on : (n : ℕ) (rows : List GroupRow) → AreSubsApart (members_of rows) → AreSubsApart (all_members (on n rows))
  subs_on n [] apart = tt
  subs_on n (row ∷ rows) apart = by (queue_of_members objects row.members == q) (subs_on (suc n) rows (apart_rest row.members (members_of rows) apart))
    where
      by : (t : Bool) → AreSubsApart (all_members (on (suc n) rows)) → AreSubsApart (all_members (map group_row (cond t (own n row ∷ rest (suc n) rows) (rest (suc n) rows))))
      by true h = apart_front row.members (members_of rows) (all_members (on (suc n) rows)) (λ x none. fewer x (suc n) rows none) h apart
      by false h = h

  pub distinct_on : (n : ℕ) (rows : List GroupRow) → AreIdsApart (all_grouped rows) → are_distinct [] (all_members (on n rows)) ≡ true
  distinct_on n rows apart =
      let subs : AreSubsApart (members_of rows) = subs_apart (members_of rows) (subst AreIdsApart (words_of rows) apart) in
      distinct_behind [] (all_members (on n rows)) (subs_on n rows subs) (out_of_none (all_members (on n rows)))
