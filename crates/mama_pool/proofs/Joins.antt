-- What a deque's own hand knows once it took in all shares.
use Rattle.std.proofs.Common.{◌≡◌, ℕ, ◌+◌, ◌≤◌, List, [], ◌∷◌, ◌++◌, length, refl, sym, ◌∙◌, arith}
use Rattle.std.proofs.lemmas.List.Elements.{All-from_recursion}
use Rattle.std.specs.List.{AllByRecursion}
use Rattle.mama_pool.specs.declared.view.View.{View}
use Rattle.mama_pool.specs.declared.view.Count.{Count}
use Rattle.mama_pool.specs.Values.{total, ShareValue, Closed}
use Rattle.mama_pool.specs.Steps.{view_of, count_of, joined, added, share_view, share_count, joined_all, added_all}
use Rattle.mama_pool.specs.Rule.{AreSettled, IsSettled}
use Rattle.mama_pool.proofs.Totals.{total-append}

pub joined_shares : (shares : List ShareValue) (v : View) → (joined_all v shares).shares ≡ v.shares + length shares
joined_shares [] v = omega arith
joined_shares (s ∷ shares) v = let h = joined_shares shares (joined v (share_view s)) in omega arith

joined_pushed : (shares : List ShareValue) (v : View) → (joined_all v shares).pushed ≡ v.pushed
joined_pushed [] v = refl
joined_pushed (s ∷ shares) v = joined_pushed shares (joined v (share_view s))

joined_took : (weight : ℕ → ℕ) (shares : List ShareValue) (v : View) → total weight (joined_all v shares).took ≡ total weight v.took + total (λ s. total weight s.took) shares
joined_took weight [] v = omega arith
joined_took weight (s ∷ shares) v = let h = joined_took weight shares (joined v (share_view s)) in let a = total-append weight v.took s.took in omega arith

pub added_shares : (shares : List ShareValue) (v : Count) → (added_all v shares).shares ≡ v.shares + length shares
added_shares [] v = omega arith
added_shares (s ∷ shares) v = let h = added_shares shares (added v (share_count s)) in omega arith

added_pushes : (shares : List ShareValue) (v : Count) → (added_all v shares).pushes ≡ v.pushes
added_pushes [] v = refl
added_pushes (s ∷ shares) v = let h = added_pushes shares (added v (share_count s)) in omega arith

added_takes : (shares : List ShareValue) (v : Count) → (added_all v shares).takes ≡ v.takes + total (λ s. length s.took) shares
added_takes [] v = omega arith
added_takes (s ∷ shares) v = let h = added_takes shares (added v (share_count s)) in omega arith

-- one share more
pub joined_last : (v : View) (shares : List ShareValue) (s : ShareValue) → joined_all v (shares ++ s ∷ []) ≡ joined (joined_all v shares) (share_view s)
joined_last v [] s = refl
joined_last v (t ∷ shares) s = joined_last (joined v (share_view t)) shares s

pub added_last : (v : Count) (shares : List ShareValue) (s : ShareValue) → added_all v (shares ++ s ∷ []) ≡ added (added_all v shares) (share_count s)
added_last v [] s = refl
added_last v (t ∷ shares) s = added_last (added v (share_count t)) shares s

-- what was known and learnt of before still is
added_most : (shares : List ShareValue) (v : Count) → (v.known ≤ (added_all v shares).known) × (v.learnt ≤ (added_all v shares).learnt)
added_most [] v = (omega arith, omega arith)
added_most (s ∷ shares) v = let h = added_most shares (added v (share_count s)) in let a = h.0 in let b = h.1 in (omega arith, omega arith)

-- and so is what each share knew and learnt of
added_each : (shares : List ShareValue) (v : Count) (known learnt : ℕ) → (added_all v shares).known ≤ known → (added_all v shares).learnt ≤ learnt
    → AllByRecursion (λ s. s.known ≤ known) shares × AllByRecursion (λ s. s.learnt ≤ learnt) shares
added_each [] v known learnt a b = (tt, tt)
added_each (s ∷ shares) v known learnt a b =
    let w : Count = added v (share_count s) in
    let m = added_most shares w in let m0 = m.0 in let m1 = m.1 in
    let h = added_each shares w known learnt a b in
    ((omega arith, h.0), (omega arith, h.1))

-- a number for each
ones : (xs : List ℕ) → total (λ x. 1) xs ≡ length xs
ones [] = refl
ones (x ∷ xs) = let h = ones xs in omega arith

ones_of_each : (shares : List ShareValue) → total (λ s. total (λ x. 1) s.took) shares ≡ total (λ s. length s.took) shares
ones_of_each [] = refl
ones_of_each (s ∷ shares) = let h = ones_of_each shares in let o = ones s.took in omega arith

-- what the looks with all shares tell
pub closes : (spare : ℕ) (pushed left words : List ℕ) (shares : List ShareValue) → AreSettled (joined_all (view_of spare pushed []) shares) left → IsSettled (added_all (count_of spare (length pushed) 0 0 0) shares) words
    → Closed pushed shares
closes spare pushed left words shares A S =
    let home : View = view_of spare pushed [] in let opener : Count = count_of spare (length pushed) 0 0 0 in
    let takes = added_takes shares opener in let pushes = added_pushes shares opener in
    let gone : length A.gone ≡ total (λ s. length s.took) shares = let o = ones A.gone in let k = A.counts (λ x. 1) in let t = joined_took (λ x. 1) shares home in let e = ones_of_each shares in omega arith in
    let a = S.pushes in let b = S.takes in let c = S.known in let d = S.learnt in
    let each = added_each shares opener (length A.gone) (length pushed) (omega arith) (omega arith) in record {
      gone = A.gone;
      left = left;
      flows = sym (joined_pushed shares home) ∙ A.flows;
      counts = λ weight. let t = joined_took weight shares home in let k = A.counts weight in omega arith;
      known = All-from_recursion _ shares each.0;
      learnt = All-from_recursion _ shares each.1;
    }
