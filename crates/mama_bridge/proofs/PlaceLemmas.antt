-- The index of each place is noted.
use Rattle.std.specs.Prelude.{is_some}
use Rattle.std.specs.BTreeMap.{BTreeMap, get, is_at, keys}
use Rattle.std.proofs.Common.{◌≡◌, ℕ, true, false, ◌||◌, cond, List, [], ◌∷◌, ◌++◌, length, get_or, Option, None, Some}
use Rattle.mama_event.specs.EqualityLaws.{same_sub-Decides}
use Rattle.mama_event.specs.Object.{same_sub}
use Rattle.mama_event.specs.declared.ids.SubId.{SubId}
use Rattle.mama_bridge.specs.Ids.{sub_cmp, is_sub_among}
use Rattle.mama_bridge.specs.Placed.{Indexed, is_place_of}
use Rattle.mama_bridge.specs.declared.places.Place.{Place}
use Rattle.mama_bridge.proofs.IndexLemmas as index
use Rattle.mama_bridge.proofs.Known.{sub_ties}

pub among : (indexes : BTreeMap SubId ℕ) (s : SubId) → is_some (get sub_cmp indexes s) ≡ is_sub_among (keys indexes) s
among = index.among sub_cmp (λ (p : Place). p.sub) same_sub same_sub-Decides sub_ties

-- the index of a subscription's place, if it has one, is the one that is noted
pub is_noted : (indexes : BTreeMap SubId ℕ) (entries : List (Option Place)) → Indexed indexes entries → (s : SubId) (j : ℕ) (place : Place) → get_or entries j None ≡ Some place → is_place_of s place ≡ true → get sub_cmp indexes s ≡ Some j
is_noted = index.is_noted sub_cmp (λ (p : Place). p.sub) same_sub same_sub-Decides sub_ties

pub noted_more : (indexes new : BTreeMap SubId ℕ) (sub : SubId) (i : ℕ) → ((q : SubId) → get sub_cmp new q ≡ cond (is_at (sub_cmp sub) q) (Some i) (get sub_cmp indexes q)) → (one : SubId) → is_sub_among (keys new) one ≡ (is_sub_among (keys indexes) one || same_sub sub one)
noted_more = index.noted_more sub_cmp (λ (p : Place). p.sub) same_sub same_sub-Decides sub_ties

-- one more joins, which did not before
pub indexed_more : (indexes new : BTreeMap SubId ℕ) (entries : List (Option Place)) (sub : SubId) (i : ℕ) → ((q : SubId) → get sub_cmp new q ≡ cond (is_at (sub_cmp sub) q) (Some i) (get sub_cmp indexes q))
    → is_sub_among (keys indexes) sub ≡ false → Indexed indexes entries → Indexed new entries
indexed_more = index.indexed_more sub_cmp (λ (p : Place). p.sub) same_sub same_sub-Decides sub_ties

pub indexed_push : (indexes new : BTreeMap SubId ℕ) (entries : List (Option Place)) (place : Place) (i : ℕ) → i ≡ length entries → ((q : SubId) → get sub_cmp new q ≡ cond (is_at (sub_cmp place.sub) q) (Some i) (get sub_cmp indexes q))
    → is_sub_among (keys indexes) place.sub ≡ false → Indexed indexes entries → Indexed new (entries ++ Some place ∷ [])
indexed_push = index.indexed_push sub_cmp (λ (p : Place). p.sub) same_sub same_sub-Decides sub_ties
