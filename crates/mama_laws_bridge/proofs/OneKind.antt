-- Objects of one kind, which begin once: those that live are apart, and a search by id finds exactly those.
use Rattle.std.specs.List.{list_any, flat_map}
use Rattle.std.proofs.Common.{◌≡◌, Bool, true, false, not, ◌&&◌, ◌||◌, cond, List, [], ◌∷◌, ◌++◌, map, filter, Option, None, Some, refl, sym, ◌∙◌, ap, subst, append-nil}
use Rattle.std.proofs.lemmas.List.Folds.{list_any-append}
use Rattle.std.proofs.lemmas.List.Elements.{filter-append}
use Rattle.mama_journal.specs.Journal.{puts}
use Rattle.mama_rules_services.specs.Bridge.{BridgeEvent, lives}
use Rattle.mama_laws_bridge.specs.Table.{kept}
use Rattle.mama_laws_bridge.proofs.Lists.{Each}
use Rattle.mama_journal.specs.EntryLaws.{puts-push, by_entries}
use Rattle.mama_laws_bridge.proofs.Live.{list_any-push, lives-push, unborn, living, living_then}

-- what an event makes, given what began before
abbrev pub newly_by : {I : Type 0} → (I → BridgeEvent → Bool) → List BridgeEvent → Option I → List I
newly_by begins before None = []
newly_by begins before (Some i) = cond (list_any (begins i) before) [] (i ∷ [])

abbrev pub same_as : {I : Type 0} → (I → I → Bool) → I → Option I → Bool
same_as same i None = false
same_as same i (Some j) = same j i

-- a kind of objects, by its ids: each event begins one of them at most
pub record Kind {I : Type 0} (same : I → I → Bool) (newly : List BridgeEvent → BridgeEvent → List I) (begins : I → BridgeEvent → Bool) (made : BridgeEvent → Option I) : Type 0 where
  pub decides : (a b : I) → same a b ≡ true → a ≡ b
  pub itself : (a : I) → same a a ≡ true
  pub news : (before : List BridgeEvent) (e : BridgeEvent) → newly before e ≡ newly_by begins before (made e)
  pub begun : (i : I) (e : BridgeEvent) → begins i e ≡ same_as same i (made e)

module _ {I : Type 0} (same : I → I → Bool) (newly : List BridgeEvent → BridgeEvent → List I) (begins ends : I → BridgeEvent → Bool) (made : BridgeEvent → Option I) (kind : Kind same newly begins made) where
  same_sym_at : (a b : I) (x y : Bool) → same a b ≡ x → same b a ≡ y → x ≡ y
  same_sym_at a b true true h k = refl
  same_sym_at a b true false h k = let e : a ≡ b = kind.decides a b h in let back : same b a ≡ true = subst (λ c. same c a ≡ true) e (kind.itself a) in sym back ∙ k
  same_sym_at a b false true h k = let e : b ≡ a = kind.decides b a k in let back : same a b ≡ true = subst (λ c. same c b ≡ true) e (kind.itself b) in sym h ∙ back
  same_sym_at a b false false h k = refl

  pub same_sym : (a b : I) → same a b ≡ same b a
  same_sym a b = same_sym_at a b (same a b) (same b a) refl refl

  own_by : (m : Option I) (before : List BridgeEvent) (e : BridgeEvent) → ((i : I) → begins i e ≡ same_as same i m) → Each (λ i. begins i e ≡ true) (newly_by begins before m)
  own_by None before e h = tt
  own_by (Some j) before e h = own_cond (list_any (begins j) before)
    where
      own_cond : (b : Bool) → Each (λ i. begins i e ≡ true) (cond b [] (j ∷ []))
      own_cond true = tt
      own_cond false = (h j ∙ kind.itself j, tt)

  pub own : (before : List BridgeEvent) (e : BridgeEvent) → Each (λ i. begins i e ≡ true) (newly before e)
  own before e = rw (kind.news before e) (own_by (made e) before e (λ i. kind.begun i e))

  -- what is found among the made ones began
  found_by : (i : I) (es : List BridgeEvent) (e : BridgeEvent) (xs : List I) (m : Option I) → list_any (λ x. same x i) xs ≡ list_any (begins i) es
      → list_any (λ x. same x i) (xs ++ newly_by begins es m) ≡ (list_any (begins i) es || same_as same i m)
  found_by i es e xs None h = list_any-append (λ x. same x i) xs [] ∙ ap (λ b. b || false) h
  found_by i es e xs (Some j) h = list_any-append (λ x. same x i) xs (newly_by begins es (Some j)) ∙ ap (λ b. b || list_any (λ x. same x i) (newly_by begins es (Some j))) h ∙ at (list_any (begins j) es) (same j i) refl refl
    where
      at : (a b : Bool) → list_any (begins j) es ≡ a → same j i ≡ b → (list_any (begins i) es || list_any (λ x. same x i) (cond a [] (j ∷ []))) ≡ (list_any (begins i) es || b)
      at true true p q = let e' : j ≡ i = kind.decides j i q in let yes : list_any (begins i) es ≡ true = subst (λ c. list_any (begins c) es ≡ true) e' p in rw yes refl
      at true false p q = refl
      at false b p q = rw q (ap (λ c. list_any (begins i) es || c) (or_none b))
        where
          or_none : (c : Bool) → (c || false) ≡ c
          or_none true = refl
          or_none false = refl

  pub made_began : (i : I) (es : List BridgeEvent) → list_any (λ x. same x i) (puts newly es) ≡ list_any (begins i) es
  made_began i es =
      by_entries (λ fs. list_any (λ x. same x i) (puts newly fs) ≡ list_any (begins i) fs) refl
      (λ fs e h.
      ap (λ ys. list_any (λ x. same x i) ys) (puts-push newly fs e ∙ ap (λ ys. puts newly fs ++ ys) (kind.news fs e))
      ∙ found_by i fs e (puts newly fs) (made e) h
      ∙ sym (list_any-push (begins i) fs e ∙ ap (λ b. list_any (begins i) fs || b) (kind.begun i e)))
      es

  -- ids that are all apart
  abbrev pub Apart : List I → Type 0
  Apart [] = Unit {0}
  Apart (x ∷ xs) = (list_any (λ y. same y x) xs ≡ false) × Apart xs

  apart_push : (xs : List I) (i : I) → Apart xs → list_any (λ x. same x i) xs ≡ false → Apart (xs ++ i ∷ [])
  apart_push [] i h k = (refl, tt)
  apart_push (x ∷ xs) i h k =
      let first : same x i ≡ false = or_first (same x i) (list_any (λ x. same x i) xs) k in
      let rest : list_any (λ x. same x i) xs ≡ false = or_rest (same x i) (list_any (λ x. same x i) xs) k in (
        list_any-append (λ y. same y x) xs (i ∷ []) ∙ ap (λ b. b || (same i x || false)) h.0 ∙ ap (λ b. false || (b || false)) (same_sym i x ∙ first),
        apart_push xs i h.1 rest,
      )
    where
      or_first : (a b : Bool) → (a || b) ≡ false → a ≡ false
      or_first true b h = h
      or_first false b h = refl

      or_rest : (a b : Bool) → (a || b) ≡ false → b ≡ false
      or_rest true b h = cc
      or_rest false b h = h

  made_apart : (es : List BridgeEvent) → Apart (puts newly es)
  made_apart es =
      by_entries (λ fs. Apart (puts newly fs)) tt
      (λ fs e h. rw (puts-push newly fs e ∙ ap (λ ys. puts newly fs ++ ys) (kind.news fs e)) (at fs h (made e)))
      es
    where
      at_cond : (fs : List BridgeEvent) → Apart (puts newly fs) → (i : I) (b : Bool) → list_any (begins i) fs ≡ b → Apart (puts newly fs ++ cond b [] (i ∷ []))
      at_cond fs h i true p = rw (append-nil (puts newly fs)) h
      at_cond fs h i false p = apart_push (puts newly fs) i h (made_began i fs ∙ p)

      at : (fs : List BridgeEvent) → Apart (puts newly fs) → (m : Option I) → Apart (puts newly fs ++ newly_by begins fs m)
      at fs h None = rw (append-nil (puts newly fs)) h
      at fs h (Some i) = at_cond fs h i (list_any (begins i) fs) refl

  not_among_filtered : (p q : I → Bool) (xs : List I) → list_any p xs ≡ false → list_any p (filter q xs) ≡ false
  not_among_filtered p q [] h = refl
  not_among_filtered p q (x ∷ xs) h = at (p x) (q x) (filter q xs) refl h (not_among_filtered p q xs)
    where
      at : (a b : Bool) (ys : List I) → p x ≡ a → (a || list_any p xs) ≡ false → (list_any p xs ≡ false → list_any p ys ≡ false) → list_any p (cond b (x ∷ ys) ys) ≡ false
      at true b ys e h k = cc
      at false true ys e h k = rw e (k h)
      at false false ys e h k = k h

  apart_filter : (q : I → Bool) (xs : List I) → Apart xs → Apart (filter q xs)
  apart_filter q [] h = tt
  apart_filter q (x ∷ xs) h = at (q x) (not_among_filtered (λ y. same y x) q xs h.0) (apart_filter q xs h.1)
    where
      at : (b : Bool) → list_any (λ y. same y x) (filter q xs) ≡ false → Apart (filter q xs) → Apart (cond b (x ∷ filter q xs) (filter q xs))
      at true k r = (k, r)
      at false k r = r

  pub living_apart : (es : List BridgeEvent) (ended : Bool) → Apart (living newly begins ends ended es)
  living_apart es ended = apart_filter (λ i. lives (begins i) (ends i) es && not ended) (puts newly es) (made_apart es)

  -- a search by id among those that pass a test
  found_filtered : (test : I → Bool) (i : I) (xs : List I) → list_any (λ x. same x i) (filter test xs) ≡ (test i && list_any (λ x. same x i) xs)
  found_filtered test i [] = and_none (test i)
    where
      and_none : (a : Bool) → false ≡ (a && false)
      and_none true = refl
      and_none false = refl
  found_filtered test i (x ∷ xs) = at (test x) (same x i) (filter test xs) refl refl (found_filtered test i xs)
    where
      at : (a b : Bool) (ys : List I) → test x ≡ a → same x i ≡ b → list_any (λ x. same x i) ys ≡ (test i && list_any (λ x. same x i) xs)
          → list_any (λ x. same x i) (cond a (x ∷ ys) ys) ≡ (test i && (b || list_any (λ x. same x i) xs))
      at true true ys p q h = let e : x ≡ i = kind.decides x i q in let t : test i ≡ true = subst (λ c. test c ≡ true) e p in rw (q, t) refl
      at true false ys p q h = rw q h
      at false true ys p q h = let e : x ≡ i = kind.decides x i q in let t : test i ≡ false = subst (λ c. test c ≡ false) e p in h ∙ rw t refl
      at false false ys p q h = h

  and_joined : (live any ended : Bool) → (any ≡ false → live ≡ false) → ((live && not ended) && any) ≡ (live && not ended)
  and_joined live true true h = at live
    where
      at : (b : Bool) → ((b && false) && true) ≡ (b && false)
      at true = refl
      at false = refl
  and_joined live true false h = at live
    where
      at : (b : Bool) → ((b && true) && true) ≡ (b && true)
      at true = refl
      at false = refl
  and_joined live false ended h = rw (h refl) refl

  -- a search by id among the living finds exactly those that live
  pub found_living : (es : List BridgeEvent) (ended : Bool) (i : I) → list_any (λ x. same x i) (living newly begins ends ended es) ≡ (lives (begins i) (ends i) es && not ended)
  found_living es ended i =
      found_filtered (λ j. lives (begins j) (ends j) es && not ended) i (puts newly es)
      ∙ ap (λ b. (lives (begins i) (ends i) es && not ended) && b) (made_began i es)
      ∙ and_joined (lives (begins i) (ends i) es) (list_any (begins i) es) ended (unborn (begins i) (ends i) es)

  kept_none : (b : Bool) → kept {R = I} b [] ≡ []
  kept_none true = refl
  kept_none false = refl

  new_lives : (es : List BridgeEvent) (e : BridgeEvent) (is : Bool) (m : Option I) → ((i : I) → begins i e ≡ same_as same i m)
      → filter (λ i. lives (begins i) (ends i) (es ++ e ∷ []) && not is) (newly_by begins es m) ≡ kept is (newly_by begins es m)
  new_lives es e is None h = sym (kept_none is)
  new_lives es e is (Some i) h = at (list_any (begins i) es) is refl
    where
      one : (b : Bool) → filter (λ j. lives (begins j) (ends j) (es ++ e ∷ []) && not b) (i ∷ []) ≡ cond (lives (begins i) (ends i) (es ++ e ∷ []) && not b) (i ∷ []) []
      one b = refl

      born : list_any (begins i) es ≡ false → lives (begins i) (ends i) (es ++ e ∷ []) ≡ true
      born p = lives-push (begins i) (ends i) es e ∙ rw p (h i ∙ kind.itself i)

      at : (a b : Bool) → list_any (begins i) es ≡ a → filter (λ j. lives (begins j) (ends j) (es ++ e ∷ []) && not b) (cond a [] (i ∷ [])) ≡ kept b (cond a [] (i ∷ []))
      at true b p = sym (kept_none b)
      at false true p = one true ∙ rw (born p) refl
      at false false p = one false ∙ rw (born p) refl

  -- the living after one event more
  pub living_next : (es : List BridgeEvent) (e : BridgeEvent) (was is : Bool) → (was ≡ true → is ≡ true)
      → living newly begins ends is (es ++ e ∷ []) ≡ kept is (filter (λ i. not (ends i e)) (living newly begins ends was es)) ++ kept is (newly_by begins es (made e))
  living_next es e was is stays =
      let test : I → Bool = λ i. lives (begins i) (ends i) (es ++ e ∷ []) && not is in
      ap (filter test) (puts-push newly es e ∙ ap (λ ys. puts newly es ++ ys) (kind.news es e))
      ∙ filter-append test (puts newly es) (newly_by begins es (made e))
      ∙ ap (λ ys. ys ++ filter test (newly_by begins es (made e))) (living_then newly begins ends own es e was is stays)
      ∙ ap (λ ys. kept is (filter (λ i. not (ends i e)) (living newly begins ends was es)) ++ ys) (new_lives es e is (made e) (λ i. kind.begun i e))

  -- what does something for the row of an id does it for that id
  pub one_of : {R P : Type 0} (key : R → I) (f : R → List P) (g : I → List P) (i : I) (rows : List R) → Apart (map key rows) → Each (λ row. f row ≡ g (key row)) rows
      → flat_map f (filter (λ row. same (key row) i) rows) ≡ cond (list_any (λ row. same (key row) i) rows) (g i) []
  one_of key f g i [] apart h = refl
  one_of {R} {P} key f g i (row ∷ rows) apart h = at (same (key row) i) refl (one_of key f g i rows apart.1 h.1)
    where
      any_key : (rows : List R) (j : I) → list_any (λ y. same y j) (map key rows) ≡ list_any (λ r. same (key r) j) rows
      any_key [] j = refl
      any_key (r ∷ rs) j = ap (λ b. same (key r) j || b) (any_key rs j)

      at : (b : Bool) → same (key row) i ≡ b → flat_map f (filter (λ r. same (key r) i) rows) ≡ cond (list_any (λ r. same (key r) i) rows) (g i) []
          → flat_map f (cond b (row ∷ filter (λ r. same (key r) i) rows) (filter (λ r. same (key r) i) rows)) ≡ cond (b || list_any (λ r. same (key r) i) rows) (g i) []
      at true e ih =
          let it : key row ≡ i = kind.decides (key row) i e in
          let none : list_any (λ r. same (key r) i) rows ≡ false = subst (λ j. list_any (λ r. same (key r) j) rows ≡ false) it (sym (any_key rows (key row)) ∙ apart.0) in
          let nothing : flat_map f (filter (λ r. same (key r) i) rows) ≡ [] = ih ∙ rw none refl in
          rw nothing (append-nil (f row) ∙ h.0 ∙ ap g it)
      at false e ih = ih
