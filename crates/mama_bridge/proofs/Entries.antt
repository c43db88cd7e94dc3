-- What is there of entries, some of which are empty.
use Rattle.std.specs.Prelude.{option_to_list}
use Rattle.std.specs.List.{list_any}
use Rattle.std.proofs.Common.{◌≡◌, ℕ, zero, suc, ◌+◌, ◌<◌, ◌≤◌, Bool, true, false, cond, List, [], ◌∷◌, ◌++◌, length, get_or, set, take, drop, Option, None, Some, refl, sym, ◌∙◌, ap, arith, subst, inl, inr, ◌⊎◌, length-append}
use Rattle.std.proofs.lemmas.Bool.{false_from_ne_true}
use Rattle.mama_bridge.specs.Placed.{present, entry_passes, IsAt, IsOnlyAt}
use Rattle.mama_bridge.proofs.TheOne.{none_taken, none_without, none_changed}

module _ {X : Type 0} where
  -- what is there of one entry more, and of what follows it
  pub present_next : (entries : List (Option X)) (i : ℕ) (d : Option X) → i < length entries → present (take (suc i) entries) ≡ present (take i entries) ++ option_to_list (get_or entries i d)
  present_next [] i d lt = absurd (omega arith)
  present_next (e ∷ es) zero d lt = one e
    where
      one : (e : Option X) → option_to_list e ++ [] ≡ option_to_list e
      one None = refl
      one (Some x) = refl
  present_next (None ∷ es) (suc i) d lt = present_next es i d (omega arith)
  present_next (Some x ∷ es) (suc i) d lt = ap (λ (xs : List X). x ∷ xs) (present_next es i d (omega arith))

  pub present_split : (entries : List (Option X)) (i : ℕ) → present (take i entries) ++ present (drop i entries) ≡ present entries
  present_split entries zero = refl
  present_split [] (suc i) = refl
  present_split (None ∷ es) (suc i) = present_split es i
  present_split (Some x ∷ es) (suc i) = ap (λ (xs : List X). x ∷ xs) (present_split es i)

  pub present_step : (entries : List (Option X)) (i : ℕ) (e : Option X) → i < length entries → e ≡ get_or entries i e → present (take (i + 1) entries) ≡ present (take i entries) ++ option_to_list e
  present_step entries i e lt read =
      let next : i + 1 ≡ suc i = omega arith in
      ap (λ n. present (take n entries)) next ∙ present_next entries i e lt ∙ ap (λ (o : Option X). present (take i entries) ++ option_to_list o) (sym read)

  pub present_more : (entries : List (Option X)) (i : ℕ) (e : Option X) → i < length entries → e ≡ get_or entries i e → length (present (take (i + 1) entries)) ≡ length (present (take i entries)) + length (option_to_list e)
  present_more entries i e lt read = ap length (present_step entries i e lt read) ∙ length-append (present (take i entries)) (option_to_list e)

  pub present_part : (entries : List (Option X)) (i : ℕ) → length (present (take i entries)) ≤ length (present entries)
  present_part entries i =
      let parts : length (present (take i entries)) + length (present (drop i entries)) ≡ length (present entries) = sym (length-append (present (take i entries)) (present (drop i entries))) ∙ ap length (present_split entries i) in
      omega (arith, parts)

  pub present_push : (entries : List (Option X)) (e : Option X) → present (entries ++ e ∷ []) ≡ present entries ++ option_to_list e
  present_push [] None = refl
  present_push [] (Some x) = refl
  present_push (None ∷ es) e = present_push es e
  present_push (Some x ∷ es) e = ap (λ (xs : List X). x ∷ xs) (present_push es e)

  -- an entry that is there after a push or a removal
  pub pushed : (entries : List (Option X)) (e : Option X) (i : ℕ) (x : X) → get_or (entries ++ e ∷ []) i None ≡ Some x → (get_or entries i None ≡ Some x) ⊎ ((i ≡ length entries) × (e ≡ Some x))
  pushed [] e zero x h = inr (refl, h)
  pushed [] e (suc i) x h = inl h
  pushed (f ∷ es) e zero x h = inl h
  pushed (f ∷ es) e (suc i) x h = elim (pushed es e i x h) [ inl k ↦ inl k | inr k ↦ inr (ap suc k.0, k.1) ]

  pub emptied : (entries : List (Option X)) (i j : ℕ) (x : X) → get_or (set entries i None) j None ≡ Some x → get_or entries j None ≡ Some x
  emptied [] i j x h = h
  emptied (e ∷ es) zero zero x h = cc
  emptied (e ∷ es) zero (suc j) x h = h
  emptied (e ∷ es) (suc i) zero x h = h
  emptied (e ∷ es) (suc i) (suc j) x h = emptied es i j x h

  pub replaced : (entries : List (Option X)) (i j : ℕ) (new x : X) → get_or (set entries i (Some new)) j None ≡ Some x → (get_or entries j None ≡ Some x) ⊎ ((j ≡ i) × (new ≡ x))
  replaced [] i j new x h = inl h
  replaced (e ∷ es) zero zero new x h = inr (refl, (cc))
  replaced (e ∷ es) zero (suc j) new x h = inl h
  replaced (e ∷ es) (suc i) zero new x h = inl h
  replaced (e ∷ es) (suc i) (suc j) new x h = elim (replaced es i j new x h) [ inl k ↦ inl k | inr k ↦ inr (ap suc k.0, k.1) ]

  module _ (test : X → Bool) where
    none_at : (entries : List (Option X)) → ((j : ℕ) (y : X) → get_or entries j None ≡ Some y → test y ≡ false) → list_any test (present entries) ≡ false
    none_at [] h = refl
    none_at (None ∷ es) h = none_at es (λ j y. h (suc j) y)
    none_at (Some x ∷ es) h = rw (h zero x refl) (none_at es (λ j y. h (suc j) y))

    only_at : (entries : List (Option X)) (i : ℕ) (x : X) → get_or entries i None ≡ Some x → test x ≡ true → ((j : ℕ) (y : X) → get_or entries j None ≡ Some y → test y ≡ true → j ≡ i) → IsOnlyAt test entries i
    only_at [] i x h t only = cc
    only_at (None ∷ es) zero x h t only = cc
    only_at (Some z ∷ es) zero x h t only =
        let others : list_any test (present es) ≡ false = none_at es (λ j y k. false_from_ne_true (test y) (λ u. let bad : suc j ≡ zero = only (suc j) y k u in absurd (omega arith))) in
        let passes : test z ≡ true = subst (λ (e : Option X). entry_passes test e ≡ true) (sym h) t in
        record { within = omega arith; there = passes; only = rw passes (ap (λ (xs : List X). z ∷ xs) (none_taken test (present es) others)); rest = rw passes (sym (none_without test (present es) others)); put = λ y. rw passes (ap (λ (xs : List X). y ∷ xs) (sym (none_changed test (λ _. y) (present es) others))) }
    only_at (None ∷ es) (suc i) x h t only =
        let more = only_at es i x h t (λ j y k u. let e : suc j ≡ suc i = only (suc j) y k u in omega arith) in
        record { within = omega (arith, more.within); there = more.there; only = more.only; rest = more.rest; put = more.put }
    only_at (Some z ∷ es) (suc i) x h t only =
        let more = only_at es i x h t (λ j y k u. let e : suc j ≡ suc i = only (suc j) y k u in omega arith) in
        let other : test z ≡ false = false_from_ne_true (test z) (λ u. let bad : zero ≡ suc i = only zero z refl u in absurd (omega arith)) in
        record { within = omega (arith, more.within); there = more.there; only = rw other more.only; rest = rw other (ap (λ (xs : List X). z ∷ xs) more.rest); put = λ y. rw other (ap (λ (xs : List X). z ∷ xs) (more.put y)) }

    -- what is found by an index that each entry that passes has
    pub found_at : (entries : List (Option X)) (i : ℕ) (r : Option ℕ) → r ≡ cond (entry_passes test (get_or entries i None)) (Some i) None → ((j : ℕ) (y : X) → get_or entries j None ≡ Some y → test y ≡ true → j ≡ i) → IsAt test entries r
    found_at entries i r h only = at (get_or entries i None) refl h
      where
        here : (e : Option X) → get_or entries i None ≡ e → entry_passes test e ≡ false → list_any test (present entries) ≡ false
        here e g f = none_at entries (λ j y k. false_from_ne_true (test y) (λ u.
            let same : get_or entries i None ≡ Some y = ap (λ n. get_or entries n None) (sym (only j y k u)) ∙ k in
            let bad : true ≡ false = sym u ∙ ap (entry_passes test) (sym same ∙ g) ∙ f in
            absurd (cc)))

        by_test : (x : X) → get_or entries i None ≡ Some x → (b : Bool) → test x ≡ b → r ≡ cond b (Some i) None → IsAt test entries r
        by_test x g true t is = subst (IsAt test entries) (sym is) (only_at entries i x g t only)
        by_test x g false t is = subst (IsAt test entries) (sym is) (here (Some x) g t)

        at : (e : Option X) → get_or entries i None ≡ e → r ≡ cond (entry_passes test e) (Some i) None → IsAt test entries r
        at None g is = subst (IsAt test entries) (sym is) (here None g refl)
        at (Some x) g is = by_test x g (test x) refl is

    pub not_at : (entries : List (Option X)) → ((j : ℕ) (y : X) → get_or entries j None ≡ Some y → test y ≡ true → ⊥) → list_any test (present entries) ≡ false
    not_at entries never = none_at entries (λ j y k. false_from_ne_true (test y) (λ u. never j y k u))
