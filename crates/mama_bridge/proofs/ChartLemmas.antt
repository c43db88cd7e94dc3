-- The first publisher of a topic, as publishers are noted one by one.
use Rattle.std.proofs.Common.{arith, refl, ap, sym, ◌∙◌, subst, ◌≡◌, ◌==◌, ◌≤◌, ◌+◌, ◌++◌, [], ◌∷◌, ℕ, List, Bool, true, false, nat_lt, eqb, cond, Option, Some, None, is_some, length, position}
use Rattle.std.specs.List.{position_or_len}
use Rattle.std.specs.Ordering.{nat_cmp}
use Rattle.std.specs.BTreeMap.{BTreeMap, get, is_at}
use Rattle.std.proofs.lemmas.List.{length-append}
use Rattle.std.proofs.lemmas.Bool.{eqb-true}
use Rattle.std.proofs.lemmas.Bool.Decides.{nat_tests}
use Rattle.std.proofs.lemmas.List.Folds.{position_or_len_push}
use Rattle.std.proofs.lemmas.List.Sums.{prefix_len-le-length}
use Rattle.mama_link.proofs.FaultLemmas.{is_at-nat_cmp}
use Rattle.mama_bridge.specs.Chart.{AreFirsts}

abbrev or_last : Option ℕ → Bool → ℕ → Option ℕ
or_last (Some i) b n = Some i
or_last None b n = cond b (Some n) None

pushed : (b : Bool) (l n m : ℕ) → l ≤ n → m ≡ cond (eqb l n) (n + cond b 0 1) l
    → cond (nat_lt m (n + 1)) (Some m) None ≡ or_last (cond (nat_lt l n) (Some l) None) b n
pushed true l n m less e = grind (arith, nat_tests)
pushed false l n m less e = grind (arith, nat_tests)

-- one more item is the first that passes where none did before
position_push : (p : ℕ → Bool) (xs : List ℕ) (y : ℕ) → position p (xs ++ y ∷ []) ≡ or_last (position p xs) (p y) (length xs)
position_push p xs y =
    ap (λ n. cond (nat_lt (position_or_len p (xs ++ y ∷ [])) n) (Some (position_or_len p (xs ++ y ∷ []))) None) (length-append xs (y ∷ []))
    ∙ pushed (p y) (position_or_len p xs) (length xs) (position_or_len p (xs ++ y ∷ [])) (prefix_len-le-length _ xs) (position_or_len_push p xs y)

noted : (b : Bool) (o : Option ℕ) (n : ℕ) → (b ≡ true → o ≡ None) → cond b (Some n) o ≡ or_last o b n
noted true o n none = ap (λ x. or_last x true n) (sym (none refl))
noted false (Some i) n none = refl
noted false None n none = refl

stays : (b : Bool) (o : Option ℕ) (n : ℕ) → (b ≡ true → is_some o ≡ true) → o ≡ or_last o b n
stays b (Some i) n some = refl
stays false None n some = refl
stays true None n some = absurd (some refl)
  where
    absurd : false ≡ true → None ≡ Some n
    absurd e = grind (arith, e)

pub firsts_noted : (topics : List ℕ) (topic number : ℕ) (m n : BTreeMap ℕ ℕ) → number ≡ length topics → AreFirsts topics m → is_some (get nat_cmp m topic) ≡ false
    → ((q : ℕ) → get nat_cmp n q ≡ cond (is_at (nat_cmp topic) q) (Some number) (get nat_cmp m q)) → AreFirsts (topics ++ topic ∷ []) n
firsts_noted topics topic number m n count before absent updates = record {
  each = λ q.
      updates q
      ∙ ap (λ b. cond b (Some number) (get nat_cmp m q)) (is_at-nat_cmp topic q)
      ∙ noted (topic == q) (get nat_cmp m q) number (λ e. none_there (get nat_cmp m q) (subst (λ k. is_some (get nat_cmp m k) ≡ false) (eqb-true topic q e) absent))
      ∙ ap (λ o. or_last o (topic == q) number) (before.each q)
      ∙ ap (or_last (position (λ t. t == q) topics) (topic == q)) count
      ∙ sym (position_push (λ t. t == q) topics topic);
}
  where
    none_there : (o : Option ℕ) → is_some o ≡ false → o ≡ None
    none_there None e = refl
    none_there (Some i) e = grind (arith, e)

pub firsts_kept : (topics : List ℕ) (topic : ℕ) (m : BTreeMap ℕ ℕ) → AreFirsts topics m → is_some (get nat_cmp m topic) ≡ true → AreFirsts (topics ++ topic ∷ []) m
firsts_kept topics topic m before there = record {
  each = λ q.
      stays (topic == q) (get nat_cmp m q) (length topics) (λ e. subst (λ k. is_some (get nat_cmp m k) ≡ true) (eqb-true topic q e) there)
      ∙ ap (λ o. or_last o (topic == q) (length topics)) (before.each q)
      ∙ sym (position_push (λ t. t == q) topics topic);
}
