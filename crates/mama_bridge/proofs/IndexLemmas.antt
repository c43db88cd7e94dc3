-- The index of each entry is noted for its name.
use Rattle.std.specs.Prelude.{is_some}
use Rattle.std.specs.Bool.{Decides}
use Rattle.std.specs.List.{list_any}
use Rattle.std.specs.BTreeMap.{BTreeMap, get, is_at, keys}
use Rattle.std.specs.Map.{lookup, keys_of}
use Rattle.std.specs.Ordering.{is_eq}
use Rattle.std.specs.declared.cmp.Ordering.{Ordering}
use Rattle.std.proofs.Common.{◌≡◌, ℕ, Bool, true, false, ◌||◌, cond, List, [], ◌∷◌, ◌++◌, length, get_or, set, Option, None, Some, refl, sym, ◌∙◌, ap, ⊎_elim}
use Rattle.mama_bridge.specs.Placed.{IndexedBy}
use Rattle.mama_bridge.proofs.Entries.{pushed, emptied, replaced}

-- a key is among the keys where the map has something at it
some_among : {K V : Type 0} (test : K → Bool) (es : List (K × V)) → is_some (lookup test es) ≡ list_any test (keys_of es)
some_among test [] = refl
some_among {K} {V} test (e ∷ es) = at (test e.0) (some_among test es)
  where
    at : (b : Bool) → is_some (lookup test es) ≡ list_any test (keys_of es) → is_some (cond b (Some e.1) (lookup test es)) ≡ (b || list_any test (keys_of es))
    at true h = refl
    at false h = h

module _ {K X : Type 0} (cmp : K → K → Ordering) (name : X → K) (same : K → K → Bool) (decides : (a c : K) → Decides (same a c) (a ≡ c)) (ties : (a c : K) → is_eq (cmp a c) ≡ same a c) where
  -- a name is among those that are kept
  abbrev pub is_among : List K → K → Bool
  is_among keys k = list_any (is_at (cmp k)) keys

  pub among : (indexes : BTreeMap K ℕ) (k : K) → is_some (get cmp indexes k) ≡ is_among (keys indexes) k
  among indexes k = some_among (is_at (cmp k)) indexes.entries

  -- the index of an entry, if there is one of a name, is the one that is noted
  pub is_noted : (indexes : BTreeMap K ℕ) (entries : List (Option X)) → IndexedBy cmp name indexes entries → (k : K) (j : ℕ) (x : X) → get_or entries j None ≡ Some x → same (name x) k ≡ true → get cmp indexes k ≡ Some j
  is_noted indexes entries indexed k j x h own = ap (get cmp indexes) (sym ((decides (name x) k).0 own)) ∙ indexed j x h

  -- one name more is noted
  abbrev pub NotedMore : BTreeMap K ℕ → BTreeMap K ℕ → K → ℕ → Type 0
  NotedMore indexes new k i = (q : K) → get cmp new q ≡ cond (is_at (cmp k) q) (Some i) (get cmp indexes q)

  pub noted_more : (indexes new : BTreeMap K ℕ) (k : K) (i : ℕ) → NotedMore indexes new k i → (one : K) → is_among (keys new) one ≡ (is_among (keys indexes) one || same k one)
  noted_more indexes new k i updates one =
      sym (among new one) ∙ ap is_some (updates one) ∙ at (is_at (cmp k) one) (get cmp indexes one)
      ∙ ap (λ (b : Bool). is_some (get cmp indexes one) || b) (ties k one) ∙ ap (λ (b : Bool). b || same k one) (among indexes one)
    where
      at : (b : Bool) (old : Option ℕ) → is_some (cond b (Some i) old) ≡ (is_some old || b)
      at true None = refl
      at true (Some n) = refl
      at false None = refl
      at false (Some n) = refl

  -- one name more, which was not noted before
  pub indexed_more : (indexes new : BTreeMap K ℕ) (entries : List (Option X)) (k : K) (i : ℕ) → NotedMore indexes new k i → is_among (keys indexes) k ≡ false → IndexedBy cmp name indexes entries → IndexedBy cmp name new entries
  indexed_more indexes new entries k i updates fresh indexed j x h =
      updates (name x) ∙ ap (λ (b : Bool). cond b (Some i) (get cmp indexes (name x))) (ties k (name x) ∙ apart (same k (name x)) refl) ∙ indexed j x h
    where
      apart : (b : Bool) → same k (name x) ≡ b → b ≡ false
      apart true e =
          let was : is_among (keys indexes) k ≡ true = sym (among indexes k) ∙ ap (λ (q : K). is_some (get cmp indexes q)) ((decides k (name x)).0 e) ∙ ap is_some (indexed j x h) in
          absurd (let bad : false ≡ true = sym fresh ∙ was in cc)
      apart false e = refl

  pub indexed_push : (indexes new : BTreeMap K ℕ) (entries : List (Option X)) (x : X) (i : ℕ) → i ≡ length entries → NotedMore indexes new (name x) i → is_among (keys indexes) (name x) ≡ false → IndexedBy cmp name indexes entries
      → IndexedBy cmp name new (entries ++ Some x ∷ [])
  indexed_push indexes new entries x i len updates fresh indexed j other h =
      ⊎_elim (indexed_more indexes new entries (name x) i updates fresh indexed j other)
      (λ (k : (j ≡ length entries) × (Some x ≡ Some other)).
      let one : x ≡ other = let e = k.1 in cc in
      updates (name other) ∙ ap (λ (b : Bool). cond b (Some i) (get cmp indexes (name other))) (ties (name x) (name other) ∙ (decides (name x) (name other)).1 (ap name one)) ∙ ap Some (len ∙ sym k.0))
      (pushed entries (Some x) j other h)

  pub indexed_less : (indexes : BTreeMap K ℕ) (entries : List (Option X)) (i : ℕ) → IndexedBy cmp name indexes entries → IndexedBy cmp name indexes (set entries i None)
  indexed_less indexes entries i indexed j x h = indexed j x (emptied entries i j x h)

  -- an entry is another of the same name
  pub indexed_still : (indexes : BTreeMap K ℕ) (entries : List (Option X)) (i : ℕ) (old new : X) → get_or entries i None ≡ Some old → name new ≡ name old → IndexedBy cmp name indexes entries → IndexedBy cmp name indexes (set entries i (Some new))
  indexed_still indexes entries i old new was named indexed j x h =
      ⊎_elim (indexed j x)
      (λ (k : (j ≡ i) × (new ≡ x)). ap (get cmp indexes) (sym (ap name k.1) ∙ named) ∙ indexed i old was ∙ ap Some (sym k.0))
      (replaced entries i j new x h)
