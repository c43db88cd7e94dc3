-- The links of one topic, as they stand in entries and are found by the indexes that are noted.
use Rattle.std.specs.Prelude.{is_some, nat_lt}
use Rattle.std.specs.BTreeMap.{BTreeMap, get, is_at}
use Rattle.std.specs.List.{list_any}
use Rattle.std.proofs.Common.{◌≡◌, ℕ, zero, suc, ◌+◌, ◌-◌, ◌<◌, ◌≤◌, Bool, true, false, not, ◌||◌, ◌==◌, cond, List, [], ◌∷◌, ◌++◌, length, get_or, set, take, Option, None, Some, refl, sym, ◌∙◌, ap, arith, subst, ⊎_elim, length-set, length-append}
use Rattle.std.proofs.lemmas.List.{length-map, get_or_default}
use Rattle.std.proofs.lemmas.Option.{same_Some}
use Rattle.std.proofs.lemmas.Bool.{eqb-true, eqb-false}
use Rattle.std.proofs.lemmas.Bool.Decides.{nat_tests}
use Rattle.mama_event.specs.EqualityLaws.{same_sub-Decides}
use Rattle.mama_event.specs.Object.{same_sub}
use Rattle.mama_event.specs.declared.ids.SubId.{SubId}
use Rattle.mama_laws_bridge.specs.Table.{without}
use Rattle.mama_bridge.specs.Ids.{sub_cmp}
use Rattle.mama_bridge.specs.Linked.{is_link_of, entry_sub, subs_in, AreIndexed, IsAbsent, IsGap, IsNoted}
use Rattle.mama_bridge.specs.Placed.{present, IsOnlyAt, IndexedBy}
use Rattle.mama_bridge.specs.declared.subs.SubLink.{SubLink}
use Rattle.mama_bridge.proofs.Entries.{pushed, emptied, replaced}
use Rattle.mama_bridge.proofs.Known.{sub_ties}

-- ---- entries, some of which are empty

module _ {X : Type 0} where
  -- what is there where all before an entry is empty
  pub present_first : (entries : List (Option X)) (i : ℕ) (x : X) → ((j : ℕ) → j < i → get_or entries j None ≡ None) → get_or entries i None ≡ Some x → present entries ≡ x ∷ present (set entries i None)
  present_first [] i x gap h = cc
  present_first (None ∷ es) zero x gap h = cc
  present_first (Some y ∷ es) zero x gap h = let same : y ≡ x = same_Some y x h in ap (λ (z : X). z ∷ present es) same
  present_first (None ∷ es) (suc i) x gap h = present_first es i x (λ j lt. gap (suc j) (omega arith)) h
  present_first (Some y ∷ es) (suc i) x gap h = absurd (let bad : Some y ≡ None = gap zero (omega arith) in cc)

  pub present_none : (entries : List (Option X)) → ((j : ℕ) → get_or entries j None ≡ None) → present entries ≡ []
  present_none [] gap = refl
  present_none (None ∷ es) gap = present_none es (λ j. gap (suc j))
  present_none (Some y ∷ es) gap = absurd (let bad : Some y ≡ None = gap zero in cc)

  -- what is there where the last entry is no longer empty
  pub present_last : (entries : List (Option X)) (i : ℕ) (x : X) → i + 1 ≡ length entries → get_or entries i None ≡ None → present (set entries i (Some x)) ≡ present entries ++ x ∷ []
  present_last [] i x len h = absurd (omega arith)
  present_last (None ∷ []) zero x len h = refl
  present_last (Some y ∷ []) zero x len h = cc
  present_last (e ∷ f ∷ es) zero x len h = absurd (omega arith)
  present_last (None ∷ es) (suc i) x len h = present_last es i x (omega arith) h
  present_last (Some y ∷ es) (suc i) x len h = ap (λ (xs : List X). y ∷ xs) (present_last es i x (omega arith) h)

  -- what is there where an entry moves down over empty ones
  pub present_moved : (entries : List (Option X)) (i k : ℕ) (x : X) → k ≤ i → ((j : ℕ) → k ≤ j → j < i → get_or entries j None ≡ None) → get_or entries i None ≡ Some x → present (set (set entries i None) k (Some x)) ≡ present entries
  present_moved [] i k x le gap h = cc
  present_moved (None ∷ es) zero zero x le gap h = cc
  present_moved (Some y ∷ es) zero zero x le gap h = let same : y ≡ x = same_Some y x h in ap (λ (z : X). z ∷ present es) (sym same)
  present_moved (None ∷ es) (suc i) zero x le gap h = sym (present_first es i x (λ j lt. gap (suc j) (omega arith) (omega arith)) h)
  present_moved (Some y ∷ es) (suc i) zero x le gap h = absurd (let bad : Some y ≡ None = gap zero (omega arith) (omega arith) in cc)
  present_moved (e ∷ es) zero (suc k) x le gap h = absurd (omega arith)
  present_moved (None ∷ es) (suc i) (suc k) x le gap h = present_moved es i k x (omega arith) (λ j a b. gap (suc j) (omega arith) (omega arith)) h
  present_moved (Some y ∷ es) (suc i) (suc k) x le gap h = ap (λ (xs : List X). y ∷ xs) (present_moved es i k x (omega arith) (λ j a b. gap (suc j) (omega arith) (omega arith)) h)

  -- what is there where all from an entry on is empty
  pub present_cut : (entries : List (Option X)) (k : ℕ) → ((j : ℕ) → k ≤ j → get_or entries j None ≡ None) → present (take k entries) ≡ present entries
  present_cut [] zero gap = refl
  present_cut [] (suc k) gap = refl
  present_cut (e ∷ es) zero gap = sym (present_none (e ∷ es) (λ j. gap j (omega arith)))
  present_cut (None ∷ es) (suc k) gap = present_cut es k (λ j le. gap (suc j) (omega arith))
  present_cut (Some y ∷ es) (suc k) gap = ap (λ (xs : List X). y ∷ xs) (present_cut es k (λ j le. gap (suc j) (omega arith)))

  pub cut_at : (entries : List (Option X)) (k j : ℕ) (x : X) → get_or (take k entries) j None ≡ Some x → get_or entries j None ≡ Some x
  cut_at [] zero j x h = cc
  cut_at [] (suc k) j x h = cc
  cut_at (e ∷ es) zero j x h = cc
  cut_at (e ∷ es) (suc k) zero x h = h
  cut_at (e ∷ es) (suc k) (suc j) x h = cut_at es k j x h

  pub beyond : (entries : List (Option X)) (j : ℕ) → length entries ≤ j → get_or entries j None ≡ None
  beyond [] j le = refl
  beyond (e ∷ es) zero le = absurd (omega arith)
  beyond (e ∷ es) (suc j) le = beyond es j (omega arith)

  pub emptied_here : (entries : List (Option X)) (i : ℕ) → get_or (set entries i None) i None ≡ None
  emptied_here [] i = refl
  emptied_here (e ∷ es) zero = refl
  emptied_here (e ∷ es) (suc i) = emptied_here es i

  pub still_empty : (entries : List (Option X)) (i j : ℕ) → get_or entries j None ≡ None → get_or (set entries i None) j None ≡ None
  still_empty [] i j h = h
  still_empty (e ∷ es) zero zero h = refl
  still_empty (e ∷ es) zero (suc j) h = h
  still_empty (e ∷ es) (suc i) zero h = h
  still_empty (e ∷ es) (suc i) (suc j) h = still_empty es i j h

  pub set_after : (entries : List (Option X)) (k j : ℕ) (e : Option X) → k < j → get_or (set entries k e) j None ≡ get_or entries j None
  set_after [] k j e lt = refl
  set_after (f ∷ es) zero zero e lt = absurd (omega arith)
  set_after (f ∷ es) zero (suc j) e lt = refl
  set_after (f ∷ es) (suc k) zero e lt = absurd (omega arith)
  set_after (f ∷ es) (suc k) (suc j) e lt = set_after es k j e (omega arith)

  -- what was read of an entry, at the default that clauses write
  pub read_at : (entries : List (Option X)) (i : ℕ) (e : Option X) → i < length entries → e ≡ get_or entries i e → e ≡ get_or entries i None
  read_at entries i e lt read = read ∙ get_or_default entries i e None lt

  pub some_at : (entries : List (Option X)) (i : ℕ) (e : Option X) → i < length entries → e ≡ get_or entries i e → is_some e ≡ true → (x : X) × (get_or entries i None ≡ Some x)
  some_at entries i None lt read h = cc
  some_at entries i (Some x) lt read h = (x, sym (read_at entries i (Some x) lt read))

  -- what is there passes no test that none passes
  pub absent_at : (test : X → Bool) (entries : List (Option X)) (i : ℕ) (x : X) → list_any test (present entries) ≡ false → get_or entries i None ≡ Some x → test x ≡ false
  absent_at test [] i x none h = cc
  absent_at test (None ∷ es) zero x none h = cc
  absent_at test (None ∷ es) (suc i) x none h = absent_at test es i x none h
  absent_at test (Some y ∷ es) zero x none h = let same : y ≡ x = same_Some y x h in ap test (sym same) ∙ first (test y) (list_any test (present es)) none
    where
      first : (a b : Bool) → (a || b) ≡ false → a ≡ false
      first true b e = e
      first false b e = refl
  absent_at test (Some y ∷ es) (suc i) x none h = absent_at test es i x (rest (test y) (list_any test (present es)) none) h
    where
      rest : (a b : Bool) → (a || b) ≡ false → b ≡ false
      rest true b e = cc
      rest false b e = e

  pub any_without : (test : X → Bool) (xs : List X) → list_any test (without test xs) ≡ false
  any_without test [] = refl
  any_without test (x ∷ xs) = at (test x) refl (any_without test xs)
    where
      at : (b : Bool) → test x ≡ b → list_any test (without test xs) ≡ false → list_any test (cond (not b) (x ∷ without test xs) (without test xs)) ≡ false
      at true e more = more
      at false e more = rw e more

-- ---- whose links they are

pub sub_at : (entries : List (Option SubLink)) (i : ℕ) → get_or (subs_in entries) i None ≡ entry_sub (get_or entries i None)
sub_at [] i = refl
sub_at (e ∷ es) zero = refl
sub_at (e ∷ es) (suc i) = sub_at es i

sub_of : (entries : List (Option SubLink)) (i : ℕ) (link : SubLink) → get_or entries i None ≡ Some link → get_or (subs_in entries) i None ≡ Some link.sub
sub_of entries i link h = sub_at entries i ∙ ap entry_sub h

link_of : (e : Option SubLink) (s : SubId) → entry_sub e ≡ Some s → (link : SubLink) × (e ≡ Some link) × (link.sub ≡ s)
link_of None s h = cc
link_of (Some link) s h = (link, refl, same_Some link.sub s h)

pub are_indexed : (indexes : BTreeMap SubId ℕ) (entries : List (Option SubLink)) → IndexedBy sub_cmp (λ (s : SubId). s) indexes (subs_in entries) → AreIndexed indexes entries
are_indexed indexes entries indexed i link h = indexed i link.sub (sub_of entries i link h)

pub subs_indexed : (indexes : BTreeMap SubId ℕ) (entries : List (Option SubLink)) → AreIndexed indexes entries → IndexedBy sub_cmp (λ (s : SubId). s) indexes (subs_in entries)
subs_indexed indexes entries indexed i s h =
    let found = link_of (get_or entries i None) s (sym (sub_at entries i) ∙ h) in
    ap (get sub_cmp indexes) (sym found.2) ∙ indexed i found.0 found.1

pub is_noted : (indexes : BTreeMap SubId ℕ) (entries : List (Option SubLink)) → AreIndexed indexes entries → (s : SubId) (j : ℕ) (link : SubLink) → get_or entries j None ≡ Some link → is_link_of s link ≡ true → get sub_cmp indexes s ≡ Some j
is_noted indexes entries indexed s j link h own = ap (get sub_cmp indexes) (sym ((same_sub-Decides link.sub s).0 own)) ∙ indexed j link h

apart : (s q : SubId) → same_sub q s ≡ false → is_at (sub_cmp s) q ≡ false
apart s q h = sub_ties s q ∙ at (same_sub s q) refl
  where
    at : (b : Bool) → same_sub s q ≡ b → b ≡ false
    at true e = absurd (let bad : true ≡ false = sym ((same_sub-Decides q s).1 (sym ((same_sub-Decides s q).0 e))) ∙ h in cc)
    at false e = refl

here : (s : SubId) → is_at (sub_cmp s) s ≡ true
here s = sub_ties s s ∙ (same_sub-Decides s s).1 refl

-- another index is noted for a subscription, or none
abbrev pub Notes : BTreeMap SubId ℕ → BTreeMap SubId ℕ → SubId → Option ℕ → Type 0
Notes indexes new s i = (q : SubId) → get sub_cmp new q ≡ cond (is_at (sub_cmp s) q) i (get sub_cmp indexes q)

-- for one that has no link
pub noted_else : (indexes new : BTreeMap SubId ℕ) (entries : List (Option SubLink)) (s : SubId) (i : Option ℕ) → Notes indexes new s i → IsAbsent s entries → AreIndexed indexes entries → AreIndexed new entries
noted_else indexes new entries s i notes absent indexed j link h =
    notes link.sub ∙ ap (λ (b : Bool). cond b i (get sub_cmp indexes link.sub)) (apart s link.sub (absent j link h)) ∙ indexed j link h

pub absent_of : (s : SubId) (entries : List (Option SubLink)) → list_any (is_link_of s) (present entries) ≡ false → IsAbsent s entries
absent_of s entries none i link h = absent_at (is_link_of s) entries i link none h

pub indexed_less : (indexes : BTreeMap SubId ℕ) (entries : List (Option SubLink)) (i : ℕ) → AreIndexed indexes entries → AreIndexed indexes (set entries i None)
indexed_less indexes entries i indexed j link h = indexed j link (emptied entries i j link h)

pub gone_at : (s : SubId) (entries : List (Option SubLink)) (i : ℕ) → IsOnlyAt (is_link_of s) entries i → IsAbsent s (set entries i None)
gone_at s entries i at = absent_of s (set entries i None) (ap (list_any (is_link_of s)) at.rest ∙ any_without (is_link_of s) (present entries))

-- ---- what is noted beside the entries

-- the same subscriptions in the same entries
pub noted_same : (indexes : BTreeMap SubId ℕ) (subs subs' : List (Option SubId)) (first : ℕ) (awaited : Option SubId) → subs' ≡ subs → IsNoted indexes subs first awaited → IsNoted indexes subs' first awaited
noted_same indexes subs subs' first awaited h noted = subst (λ (xs : List (Option SubId)). IsNoted indexes xs first awaited) (sym h) noted

pub noted_anew : (indexes : BTreeMap SubId ℕ) (entries : List (Option SubLink)) → AreIndexed indexes entries → IsNoted indexes (subs_in entries) 0 None
noted_anew indexes entries indexed = record { indexed = subs_indexed indexes entries indexed; empty = λ i s h. omega arith; within = omega arith; last = tt }

-- room for one more
pub noted_room : (indexes new : BTreeMap SubId ℕ) (entries entries' : List (Option SubLink)) (s : SubId) (n first : ℕ) (awaited : Option SubId) → n ≡ length entries → entries' ≡ entries ++ None ∷ [] → Notes indexes new s (Some n)
    → list_any (is_link_of s) (present entries) ≡ false → IsNoted indexes (subs_in entries) first awaited → IsNoted new (subs_in entries') first (Some s)
noted_room indexes new entries entries' s n first awaited len is notes none noted =
    let old = are_indexed indexes entries noted.indexed in
    let long : length (subs_in entries) ≡ length entries = length-map entries entry_sub in
    let more : length (subs_in (entries ++ None ∷ [])) ≡ length entries + 1 = length-map (entries ++ None ∷ []) entry_sub ∙ length-append entries (None ∷ []) in
    subst (λ (es : List (Option SubLink)). IsNoted new (subs_in es) first (Some s)) (sym is)
    (record {
      indexed = subs_indexed new (entries ++ None ∷ []) (λ j link h. noted_else indexes new entries s (Some n) notes (absent_of s entries none) old j link (was j link h));
      empty = λ j q h. let found = link_of (get_or (entries ++ None ∷ []) j None) q (sym (sub_at (entries ++ None ∷ []) j) ∙ h) in noted.empty j found.0.sub (sub_of entries j found.0 (was j found.0 found.1));
      within = omega (arith, noted.within, long, more);
      last = record {
        index = n;
        noted = notes s ∙ ap (λ (b : Bool). cond b (Some n) (get sub_cmp indexes s)) (here s);
        last = omega (arith, len, more);
        empty = sub_at (entries ++ None ∷ []) n ∙ ap entry_sub (ap (λ m. get_or (entries ++ None ∷ []) m None) len ∙ last_empty entries);
        after = omega (arith, len, long, noted.within);
      };
    })
  where
    was : (j : ℕ) (link : SubLink) → get_or (entries ++ None ∷ []) j None ≡ Some link → get_or entries j None ≡ Some link
    was j link h = ⊎_elim (λ (k : get_or entries j None ≡ Some link). k) (λ (k : (j ≡ length entries) × (None ≡ Some link)). let bad = k.1 in cc) (pushed entries None j link h)

    last_empty : (es : List (Option SubLink)) → get_or (es ++ None ∷ []) (length es) None ≡ None
    last_empty [] = refl
    last_empty (e ∷ es) = last_empty es

-- the last entry is there where one is awaited
pub last_is : (indexes : BTreeMap SubId ℕ) (entries : List (Option SubLink)) (s : SubId) (n first : ℕ) → n ≡ length entries → IsNoted indexes (subs_in entries) first (Some s) → (n - 1) + 1 ≡ length entries
last_is indexes entries s n first len noted =
    let long : length (subs_in entries) ≡ length entries = length-map entries entry_sub in
    omega (arith, len, long, noted.last.last)

-- the one that was awaited stands in the last entry
pub noted_added : (indexes : BTreeMap SubId ℕ) (entries : List (Option SubLink)) (link : SubLink) (last first : ℕ) → last + 1 ≡ length entries → IsNoted indexes (subs_in entries) first (Some link.sub) → IsNoted indexes (subs_in (set entries last (Some link))) first None
noted_added indexes entries link last first len noted =
    let old = are_indexed indexes entries noted.indexed in
    let long : length (subs_in entries) ≡ length entries = length-map entries entry_sub in
    let more : length (subs_in (set entries last (Some link))) ≡ length entries = length-map (set entries last (Some link)) entry_sub ∙ length-set entries last (Some link) in
    let at : noted.last.index ≡ last = omega (arith, len, long, noted.last.last) in
    record {
      indexed = subs_indexed indexes (set entries last (Some link)) (λ j other h.
          ⊎_elim (old j other)
          (λ (k : (j ≡ last) × (link ≡ other)). ap (λ (l : SubLink). get sub_cmp indexes l.sub) (sym k.1) ∙ noted.last.noted ∙ ap Some (at ∙ sym k.0))
          (replaced entries last j link other h));
      empty = λ j q h.
          let found = link_of (get_or (set entries last (Some link)) j None) q (sym (sub_at (set entries last (Some link)) j) ∙ h) in
          ⊎_elim (λ (k : get_or entries j None ≡ Some found.0). noted.empty j found.0.sub (sub_of entries j found.0 k))
          (λ (k : (j ≡ last) × (link ≡ found.0)). omega (arith, k.0, at, noted.last.after))
          (replaced entries last j link found.0 found.1);
      within = omega (arith, noted.within, long, more);
      last = tt;
    }

pub added_last : (indexes : BTreeMap SubId ℕ) (entries : List (Option SubLink)) (link : SubLink) (last first : ℕ) → last + 1 ≡ length entries → IsNoted indexes (subs_in entries) first (Some link.sub) → present (set entries last (Some link)) ≡ present entries ++ link ∷ []
added_last indexes entries link last first len noted =
    let long : length (subs_in entries) ≡ length entries = length-map entries entry_sub in
    let at : noted.last.index ≡ last = omega (arith, len, long, noted.last.last) in
    present_last entries last link len (empty (get_or entries last None) refl (sym (sub_at entries last) ∙ ap (λ n. get_or (subs_in entries) n None) (sym at) ∙ noted.last.empty))
  where
    empty : (e : Option SubLink) → get_or entries last None ≡ e → entry_sub e ≡ None → get_or entries last None ≡ None
    empty None is h = is
    empty (Some other) is h = cc

-- the first is taken out
pub all_before : (indexes : BTreeMap SubId ℕ) (entries : List (Option SubLink)) (first i : ℕ) (awaited : Option SubId) → IsNoted indexes (subs_in entries) first awaited → ((j : ℕ) → first ≤ j → j < i → get_or entries j None ≡ None)
    → (j : ℕ) → j < i → get_or entries j None ≡ None
all_before indexes entries first i awaited noted gap j lt = at (get_or entries j None) refl
  where
    at : (e : Option SubLink) → get_or entries j None ≡ e → e ≡ None
    at None is = refl
    at (Some link) is = absurd (let le = noted.empty j link.sub (sub_of entries j link is) in let bad : Some link ≡ None = sym is ∙ gap j le lt in cc)

pub all_empty : (indexes : BTreeMap SubId ℕ) (entries : List (Option SubLink)) (first : ℕ) (awaited : Option SubId) → IsNoted indexes (subs_in entries) first awaited → ((j : ℕ) → first ≤ j → get_or entries j None ≡ None) → present entries ≡ []
all_empty indexes entries first awaited noted gap =
    present_none entries (λ j. all_before indexes entries first (j + 1) awaited noted (λ k le lt. gap k le) j (omega arith))

pub noted_taken : (indexes : BTreeMap SubId ℕ) (entries : List (Option SubLink)) (first i : ℕ) (awaited : Option SubId) → i < length entries → IsNoted indexes (subs_in entries) first awaited → ((j : ℕ) → first ≤ j → j < i → get_or entries j None ≡ None)
    → IsNoted indexes (subs_in (set entries i None)) (i + 1) None
noted_taken indexes entries first i awaited lt noted gap =
    let long : length (subs_in (set entries i None)) ≡ length entries = length-map (set entries i None) entry_sub ∙ length-set entries i None in
    record {
      indexed = subs_indexed indexes (set entries i None) (indexed_less indexes entries i (are_indexed indexes entries noted.indexed));
      empty = λ j s h. let found = link_of (get_or (set entries i None) j None) s (sym (sub_at (set entries i None) j) ∙ h) in after j found.0 found.1;
      within = omega (arith, lt, long);
      last = tt;
    }
  where
    after : (j : ℕ) (link : SubLink) → get_or (set entries i None) j None ≡ Some link → i + 1 ≤ j
    after j link h = grind (arith, before j link h, here_not j link h)
      where
        before : (j : ℕ) (link : SubLink) → get_or (set entries i None) j None ≡ Some link → j < i → ⊥
        before j link h lt = let none = all_before indexes entries first i awaited noted gap j lt in let bad : None ≡ Some link = sym none ∙ emptied entries i j link h in cc

        here_not : (j : ℕ) (link : SubLink) → get_or (set entries i None) j None ≡ Some link → (j ≡ i) → ⊥
        here_not j link h same = let bad : None ≡ Some link = sym (emptied_here entries i) ∙ ap (λ n. get_or (set entries i None) n None) (sym same) ∙ h in cc

-- ---- links that move together

pub indexed_moved : (indexes new : BTreeMap SubId ℕ) (entries : List (Option SubLink)) (i k : ℕ) (link : SubLink) → get_or entries i None ≡ Some link → Notes indexes new link.sub (Some k) → AreIndexed indexes entries → AreIndexed new (set (set entries i None) k (Some link))
indexed_moved indexes new entries i k link is notes indexed j other h =
    ⊎_elim (λ (was : get_or (set entries i None) j None ≡ Some other). else j other was)
    (λ (now : (j ≡ k) × (link ≡ other)). ap (λ (l : SubLink). get sub_cmp new l.sub) (sym now.1) ∙ notes link.sub ∙ ap (λ (b : Bool). cond b (Some k) (get sub_cmp indexes link.sub)) (here link.sub) ∙ ap Some (sym now.0))
    (replaced (set entries i None) k j link other h)
  where
    else : (j : ℕ) (other : SubLink) → get_or (set entries i None) j None ≡ Some other → get sub_cmp new other.sub ≡ Some j
    else j other was =
        let old = indexed j other (emptied entries i j other was) in
        notes other.sub ∙ ap (λ (b : Bool). cond b (Some k) (get sub_cmp indexes other.sub)) (apart link.sub other.sub (differs (same_sub other.sub link.sub) refl old)) ∙ old
      where
        differs : (b : Bool) → same_sub other.sub link.sub ≡ b → get sub_cmp indexes other.sub ≡ Some j → same_sub other.sub link.sub ≡ false
        differs false e old = e
        differs true e old =
            let both : Some j ≡ Some i = sym old ∙ ap (get sub_cmp indexes) ((same_sub-Decides other.sub link.sub).0 e) ∙ indexed i link is in
            let same : j ≡ i = same_Some j i both in
            absurd (let bad : None ≡ Some other = sym (emptied_here entries i) ∙ ap (λ n. get_or (set entries i None) n None) (sym same) ∙ was in cc)

pub gap_emptied : (entries : List (Option SubLink)) (i k : ℕ) → IsGap entries k i → IsGap (set entries i None) k (i + 1)
gap_emptied entries i k gap j from to = at (j == i) refl
  where
    at : (b : Bool) → (j == i) ≡ b → get_or (set entries i None) j None ≡ None
    at true e = ap (λ n. get_or (set entries i None) n None) (eqb-true j i e) ∙ emptied_here entries i
    at false e = still_empty entries i j (gap j from (below (eqb-false j i e)))
      where
        below : (j ≡ i → ⊥) → j < i
        below apart = grind (arith, apart)

pub gap_moved : (entries : List (Option SubLink)) (i k : ℕ) (e : Option SubLink) → IsGap entries k i → IsGap (set (set entries i None) k e) (k + 1) (i + 1)
gap_moved entries i k e gap j from to = set_after (set entries i None) k j e (omega arith) ∙ gap_emptied entries i k gap j (omega arith) to

pub cut_indexed : (indexes : BTreeMap SubId ℕ) (entries : List (Option SubLink)) (k : ℕ) → AreIndexed indexes entries → AreIndexed indexes (take k entries)
cut_indexed indexes entries k indexed j link h = indexed j link (cut_at entries k j link h)

pub cut_present : (entries : List (Option SubLink)) (k i : ℕ) → length entries ≤ i → IsGap entries k i → present (take k entries) ≡ present entries
cut_present entries k i most gap = present_cut entries k (λ j le. at j le (nat_lt j (length entries)) refl)
  where
    at : (j : ℕ) → k ≤ j → (b : Bool) → nat_lt j (length entries) ≡ b → get_or entries j None ≡ None
    at j le true e = gap j le (grind (arith, nat_tests, e, most))
    at j le false e = beyond entries j (grind (arith, nat_tests, e))
