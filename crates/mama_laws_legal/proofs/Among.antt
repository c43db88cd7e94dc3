-- Among the objects of a kind that are alive each stands once, so what goes to each of them is for one only once.
use Rattle.std.specs.Prelude.{not, filter, Option, None, Some}
use Rattle.std.specs.List.{flat_map, list_any}
use Rattle.std.proofs.Common.{◌≡◌, Bool, true, false, ◌&&◌, ◌||◌, cond, List, [], ◌∷◌, ◌++◌, refl, sym, ◌∙◌, ap, append-nil}
use Rattle.std.proofs.lemmas.List.Concat.{flat_map-append}
use Rattle.mama_journal.specs.Journal.{puts}
use Rattle.mama_rules_services.specs.Life.{lives, is_alive, newly, all_alive}
use Rattle.mama_journal.specs.EntryLaws.{by_entries, puts-push}
use Rattle.mama_laws_legal.proofs.Lives.{any_last, lives_came}

-- the object that an event begins, where it begins one, and it is the first of its id
abbrev pub begun_by : {E I : Type 0} → (I → E → Bool) → List E → Option I → List I
begun_by begins es None = []
begun_by begins es (Some r) = newly begins es r

abbrev pub is_made : {I : Type 0} → (I → I → Bool) → I → Option I → Bool
is_made same i None = false
is_made same i (Some r) = same r i

-- Ids of a kind: which of them are the same, and that each event begins the one that it makes.
pub record AreIds {E I : Type 0} (same : I → I → Bool) (begins : I → E → Bool) (begun : List E → E → List I) (made : E → Option I) : Type 0 where
  pub same_is : (a b : I) → same a b ≡ true → a ≡ b
  pub begins_made : (i : I) (e : E) → begins i e ≡ is_made same i (made e)
  pub begun_made : (es : List E) (e : E) → begun es e ≡ begun_by begins es (made e)

-- among these objects, what f makes of the one is what it makes of all, where it makes nothing of others
abbrev pub only : {I V : Type 0} → (I → I → Bool) → I → List V → I → List V
only same i ws r = cond (same r i) ws []

module _ {E I V : Type 0} (same : I → I → Bool) (begins ends : I → E → Bool) (ending : List E → Bool) (begun : List E → E → List I) (made : E → Option I) (ids : AreIds same begins begun made) (i : I) (ws : List V) where
  begun_once : (es : List E) → flat_map (only same i ws) (puts begun es) ≡ cond (list_any (begins i) es) ws []
  begun_once es = by_entries (λ (xs : List E). flat_map (only same i ws) (puts begun xs) ≡ cond (list_any (begins i) xs) ws []) refl
      (λ xs e ih. ap (flat_map (only same i ws)) (puts-push begun xs e) ∙ flat_map-append (only same i ws) (puts begun xs) (begun xs e)
      ∙ ap (λ (vs : List V). vs ++ flat_map (only same i ws) (begun xs e)) ih
      ∙ ap (λ (rs : List I). cond (list_any (begins i) xs) ws [] ++ flat_map (only same i ws) rs) (ids.begun_made xs e) ∙ step xs (made e)
      ∙ ap (λ (b : Bool). cond (list_any (begins i) xs || b) ws []) (sym (ids.begins_made i e)) ∙ ap (λ (b : Bool). cond b ws []) (sym (any_last (begins i) xs e))) es
    where
      or_false : (b : Bool) → cond b ws [] ++ [] ≡ cond (b || false) ws []
      or_false true = append-nil ws
      or_false false = refl

      made_step : (xs : List E) (r : I) (a : Bool) → same r i ≡ a
          → cond (list_any (begins i) xs) ws [] ++ flat_map (only same i ws) (newly begins xs r) ≡ cond (list_any (begins i) xs || a) ws []
      made_step xs r true is = ap (λ (c : I). cond (list_any (begins i) xs) ws [] ++ flat_map (only same i ws) (cond (list_any (begins c) xs) [] (r ∷ []))) (ids.same_is r i is) ∙ here (list_any (begins i) xs)
        where
          here : (b : Bool) → cond b ws [] ++ flat_map (only same i ws) (cond b [] (r ∷ [])) ≡ cond (b || true) ws []
          here true = append-nil ws
          here false = ap (λ (c : Bool). cond c ws [] ++ []) is ∙ append-nil ws
      made_step xs r false other = ap (λ (vs : List V). cond (list_any (begins i) xs) ws [] ++ vs) (off (list_any (begins r) xs)) ∙ or_false (list_any (begins i) xs)
        where
          off : (c : Bool) → flat_map (only same i ws) (cond c [] (r ∷ [])) ≡ []
          off true = refl
          off false = ap (λ (c : Bool). cond c ws [] ++ []) other

      step : (xs : List E) (o : Option I) → cond (list_any (begins i) xs) ws [] ++ flat_map (only same i ws) (begun_by begins xs o) ≡ cond (list_any (begins i) xs || is_made same i o) ws []
      step xs None = or_false (list_any (begins i) xs)
      step xs (Some r) = made_step xs r (same r i) refl

  -- of those that pass a test, it is there if it passes
  pub among_passing : (test : I → Bool) (xs : List I) → flat_map (only same i ws) (filter test xs) ≡ cond (test i) (flat_map (only same i ws) xs) []
  among_passing test [] = either (test i) []
    where
      either : (b : Bool) (vs : List V) → vs ≡ cond b vs vs
      either true vs = refl
      either false vs = refl
  among_passing test (x ∷ xs) = by_case (same x i) refl (test x) refl (among_passing test xs)
    where
      by_case : (a : Bool) → same x i ≡ a → (l : Bool) → test x ≡ l → flat_map (only same i ws) (filter test xs) ≡ cond (test i) (flat_map (only same i ws) xs) []
          → flat_map (only same i ws) (cond l (x ∷ filter test xs) (filter test xs)) ≡ cond (test i) (cond (same x i) ws [] ++ flat_map (only same i ws) xs) []
      by_case true is true passes ih =
          let own : test i ≡ true = ap test (sym (ids.same_is x i is)) ∙ passes in
          ap (λ (vs : List V). cond (same x i) ws [] ++ vs) (ih ∙ ap (λ (b : Bool). cond b (flat_map (only same i ws) xs) []) own)
          ∙ ap (λ (b : Bool). cond b (cond (same x i) ws [] ++ flat_map (only same i ws) xs) []) (sym own)
      by_case true is false fails ih =
          let own : test i ≡ false = ap test (sym (ids.same_is x i is)) ∙ fails in
          ih ∙ ap (λ (b : Bool). cond b (flat_map (only same i ws) xs) []) own ∙ ap (λ (b : Bool). cond b (cond (same x i) ws [] ++ flat_map (only same i ws) xs) []) (sym own)
      by_case false other true passes ih = ap (λ (b : Bool). cond b ws [] ++ flat_map (only same i ws) (filter test xs)) other ∙ ih ∙ ap (λ (b : Bool). cond (test i) (cond b ws [] ++ flat_map (only same i ws) xs) []) (sym other)
      by_case false other false fails ih = ih ∙ ap (λ (b : Bool). cond (test i) (cond b ws [] ++ flat_map (only same i ws) xs) []) (sym other)

  -- and so of those that are alive
  pub among_alive : (es : List E) → flat_map (only same i ws) (all_alive (λ r xs. is_alive (begins r) (ends r) ending xs) begun es) ≡ cond (is_alive (begins i) (ends i) ending es) ws []
  among_alive es =
      among_passing (λ r. is_alive (begins r) (ends r) ending es) (puts begun es)
      ∙ ap (λ (vs : List V). cond (is_alive (begins i) (ends i) ending es) vs []) (begun_once es) ∙ came (lives (begins i) (ends i) es) refl
    where
      came : (l : Bool) → lives (begins i) (ends i) es ≡ l
          → cond (is_alive (begins i) (ends i) ending es) (cond (list_any (begins i) es) ws []) [] ≡ cond (is_alive (begins i) (ends i) ending es) ws []
      came true is = ap (λ (b : Bool). cond (is_alive (begins i) (ends i) ending es) (cond b ws []) []) (lives_came (begins i) (ends i) es is)
      came false is =
          let dead : is_alive (begins i) (ends i) ending es ≡ false = ap (λ (b : Bool). b && not (ending es)) is in
          ap (λ (b : Bool). cond b (cond (list_any (begins i) es) ws []) []) dead ∙ ap (λ (b : Bool). cond b ws []) (sym dead)

-- what of all that goes to some objects is for one
pub own_among : {I P V : Type 0} (same : I → I → Bool) → ((a b : I) → same a b ≡ true → a ≡ b) → (own : List P → List V) → own [] ≡ [] → ((xs ys : List P) → own (xs ++ ys) ≡ own xs ++ own ys)
    → (i : I) (f : I → List P) → ((r : I) → same r i ≡ false → own (f r) ≡ []) → (xs : List I) → own (flat_map f xs) ≡ flat_map (only same i (own (f i))) xs
own_among same same_is own none append i f others [] = none
own_among {I} {P} {V} same same_is own none append i f others (x ∷ xs) =
    append (f x) (flat_map f xs) ∙ ap (λ (ws : List V). own (f x) ++ ws) (own_among same same_is own none append i f others xs)
    ∙ ap (λ (ws : List V). ws ++ flat_map (only same i (own (f i))) xs) (by_case (same x i) refl)
  where
    by_case : (b : Bool) → same x i ≡ b → own (f x) ≡ cond (same x i) (own (f i)) []
    by_case true is = ap (λ (r : I). own (f r)) (same_is x i is) ∙ ap (λ (b : Bool). cond b (own (f i)) []) (sym is)
    by_case false other = others x other ∙ ap (λ (b : Bool). cond b (own (f i)) []) (sym other)
