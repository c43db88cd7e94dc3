-- What hands have weighs the same after some steps.
use Rattle.std.proofs.Common.{◌≡◌, ℕ, zero, suc, ◌+◌, ◌<◌, Bool, true, false, if◌then◌else◌, List, [], ◌∷◌, ◌++◌, length, get_or, set, map, refl, sym, ap, ◌∙◌, subst, append-nil, arith}
use Rattle.std.proofs.lemmas.Bool.{false≢true}
use Rattle.std.proofs.lemmas.List.{length-map, map-append}
use Rattle.mama_pool.specs.Values.{Place, HandValue, ShareValue, SamePlaces, HasLooked, no_share, share_of, own_share, taken_more, learnt_more, after_take, after_push, total, taken_weight}
use Rattle.mama_pool.proofs.Totals.{total-append}
use Rattle.mama_work.specs.Serving.{Keeps, Follows}

-- a sum after one element changed
module _ {X : Type 0} (f : X → ℕ) where
  total_same : (xs : List X) (i : ℕ) (b d : X) → f b ≡ f (get_or xs i d) → total f (set xs i b) ≡ total f xs
  total_same [] i b d e = refl
  total_same (x ∷ xs) zero b d e = omega arith
  total_same (x ∷ xs) (suc i) b d e = let h = total_same xs i b d e in omega arith

  total_more : (xs : List X) (i : ℕ) (b d : X) (n : ℕ) → i < length xs → f b ≡ f (get_or xs i d) + n → total f (set xs i b) ≡ total f xs + n
  total_more [] i b d n lt e = absurd (omega arith)
  total_more (x ∷ xs) zero b d n lt e = omega arith
  total_more (x ∷ xs) (suc i) b d n lt e = let h = total_more xs i b d n (omega arith) e in omega arith

-- a hand has as many shares as before
pub same_width : (h k : HandValue) → SamePlaces h k → length k.shares ≡ length h.shares
same_width h k same = let f : ShareValue → Place = λ s. s.place in sym (length-map k.shares f) ∙ (ap length same.1 ∙ length-map h.shares f)

abbrev weight_of : (ℕ → ℕ) → ShareValue → ℕ
weight_of weight s = total weight s.took

pub keeps_none : (h : HandValue) (xs : List ℕ) → Keeps h h xs xs
keeps_none h xs weight = refl

-- one after the other
pub keeps_then : (h k l : HandValue) (xs ys zs : List ℕ) → Keeps h k xs ys → Keeps k l ys zs → Keeps h l xs zs
keeps_then h k l xs ys zs a b weight = let p = a weight in let q = b weight in omega arith

-- beside what the holder has all the time
pub keeps_beside : (h k : HandValue) (xs had has : List ℕ) → Keeps h k had has → Keeps h k (xs ++ had) (xs ++ has)
keeps_beside h k xs had has a weight = let p = a weight in let q = total-append weight xs had in let r = total-append weight xs has in omega arith

take_keeps : (h k : HandValue) (slot n : ℕ) → slot < length h.shares → k ≡ after_take h slot n → Keeps h k [] (n ∷ [])
take_keeps h k slot n lt is weight =
    let new : HandValue = after_take h slot n in
    let p : total weight k.pushed ≡ total weight h.pushed = ap (λ (u : HandValue). total weight u.pushed) is in
    let s = share_of h slot in
    let one = total-append weight s.took (n ∷ []) in
    let t : taken_weight weight k ≡ taken_weight weight new = ap (taken_weight weight) is in
    let m = total_more (weight_of weight) h.shares slot (taken_more s n) no_share (weight n) lt (omega arith) in omega arith

look_keeps : (h k : HandValue) (slot : ℕ) → HasLooked h slot k → Keeps h k [] []
look_keeps h k slot l weight =
    let p : total weight k.pushed ≡ total weight h.pushed = ap (λ (u : HandValue). total weight u.pushed) l.same in
    let same : weight_of weight l.share ≡ weight_of weight (share_of h slot) = ap (weight_of weight) l.look.same in
    let t : taken_weight weight k ≡ total (weight_of weight) (set h.shares slot l.share) = ap (taken_weight weight) l.same in
    let m = total_same (weight_of weight) h.shares slot l.share no_share same in omega arith

push_keeps : (h k : HandValue) (n : ℕ) → k ≡ after_push h n → Keeps h k (n ∷ []) []
push_keeps h k n is weight =
    let new : HandValue = after_push h n in
    let p : total weight k.pushed ≡ total weight new.pushed = ap (λ (u : HandValue). total weight u.pushed) is in
    let q = total-append weight h.pushed (n ∷ []) in
    let t : taken_weight weight k ≡ taken_weight weight new = ap (taken_weight weight) is in
    let m = total_same (weight_of weight) h.shares h.number (learnt_more (own_share h) (length h.pushed + 1)) no_share refl in omega arith

pub took_follows : (h k : HandValue) (slot n : ℕ) → slot < length h.shares → k ≡ after_take h slot n → SamePlaces h k → Follows h k [] (n ∷ [])
took_follows h k slot n lt is places = (take_keeps h k slot n lt is, places)

pub looked_follows : (h k : HandValue) (slot : ℕ) → HasLooked h slot k → SamePlaces h k → Follows h k [] []
looked_follows h k slot l places = (look_keeps h k slot l, places)

pub pushed_follows : (h k : HandValue) (n : ℕ) → k ≡ after_push h n → SamePlaces h k → Follows h k (n ∷ []) []
pushed_follows h k n is places = (push_keeps h k n is, places)

-- the same hand all the time
pub places_then : (h k l : HandValue) → SamePlaces h k → SamePlaces k l → SamePlaces h l
places_then h k l a b = (b.0 ∙ a.0, b.1 ∙ a.1)

pub follows_none : (h : HandValue) (xs : List ℕ) → Follows h h xs xs
follows_none h xs = (keeps_none h xs, (refl, refl))

pub follows_then : (h k l : HandValue) (xs ys zs : List ℕ) → Follows h k xs ys → Follows k l ys zs → Follows h l xs zs
follows_then h k l xs ys zs a b = (keeps_then h k l xs ys zs a.0 b.0, places_then h k l a.1 b.1)

pub follows_beside : (h k : HandValue) (xs had has : List ℕ) → Follows h k had has → Follows h k (xs ++ had) (xs ++ has)
follows_beside h k xs had has a = (keeps_beside h k xs had has a.0, a.1)

-- what was pushed back is no more among what the holder has
pub pushed_back : (h k : HandValue) (n : ℕ) (xs : List ℕ) → Follows h k (n ∷ []) [] → Follows h k (xs ++ n ∷ []) xs
pushed_back h k n xs a = subst (λ (ys : List ℕ). Follows h k (xs ++ n ∷ []) ys) (append-nil xs) (follows_beside h k xs (n ∷ []) [] a)

-- what was taken is among what the holder has
pub taken_to : (h k : HandValue) (xs has : List ℕ) → Follows h k [] has → Follows h k xs (xs ++ has)
taken_to h k xs has a = subst (λ (ys : List ℕ). Follows h k ys (xs ++ has)) (append-nil xs) (follows_beside h k xs [] has a)

-- a look changes nothing of what the holder has
pub nothing_beside : (h k : HandValue) (xs : List ℕ) → Follows h k [] [] → Follows h k xs xs
nothing_beside h k xs a = ((λ weight. let p = a.0 weight in omega arith), a.1)

-- one more is had, as the last
pub one_more_had : {D : Type 0} (numbered : D → ℕ) (h k : HandValue) (before after : List D) (item : D) → after ≡ before ++ item ∷ [] → Follows h k [] (numbered item ∷ []) → Follows h k (map numbered before) (map numbered after)
one_more_had numbered h k before after item is a =
    subst (λ (ys : List ℕ). Follows h k (map numbered before) ys) (sym (ap (map numbered) is ∙ map-append numbered before (item ∷ []))) (taken_to h k (map numbered before) (numbered item ∷ []) a)

-- some more are had, behind the others
pub more_had : {D : Type 0} (numbered : D → ℕ) (h k : HandValue) (before more after : List D) → after ≡ before ++ more → Follows h k [] (map numbered more) → Follows h k (map numbered before) (map numbered after)
more_had numbered h k before more after is a =
    subst (λ (ys : List ℕ). Follows h k (map numbered before) ys) (sym (ap (map numbered) is ∙ map-append numbered before more)) (taken_to h k (map numbered before) (map numbered more) a)

-- what was taken was served beside what the holder has
pub took_and_served : {D : Type 0} (before between after : List D) (item : D) (numbered : D → ℕ) (h k l : HandValue) → between ≡ before → Follows h k [] (numbered item ∷ []) → Follows k l (map numbered between ++ numbered item ∷ []) (map numbered after) → Follows h l (map numbered before) (map numbered after)
took_and_served {D} before between after item numbered h k l same took served =
    let had : List ℕ = map numbered before in
    let with_item = subst (λ (xs : List D). Follows h k had (map numbered xs ++ numbered item ∷ [])) (sym same) (taken_to h k had (numbered item ∷ []) took) in
    follows_then h k l had (map numbered between ++ numbered item ∷ []) (map numbered after) with_item served

-- what had this number all the time was pushed back
pub gave_back : {D : Type 0} (before after : List D) (item now : D) (numbered : D → ℕ) (h between k : HandValue) → between ≡ h → after ≡ before → numbered now ≡ numbered item → k ≡ after_push between (numbered now) → SamePlaces between k
    → Follows h k (map numbered before ++ numbered item ∷ []) (map numbered after)
gave_back {D} before after item now numbered h between k hand same number is places =
    let n = numbered now in let had : List ℕ = map numbered before in
    let back = pushed_back between k n had (pushed_follows between k n is places) in
    let kept = subst (λ (xs : List D). Follows between k (had ++ n ∷ []) (map numbered xs)) (sym same) back in
    let item_back = subst (λ (m : ℕ). Follows between k (had ++ m ∷ []) (map numbered after)) number kept in
    subst (λ (u : HandValue). Follows u k (had ++ numbered item ∷ []) (map numbered after)) hand item_back

-- what a thread kept was added, where there was room
pub all_kept : {D : Type 0} (before more after : List D) (there fits : Bool) (numbered : D → ℕ) (h k : HandValue) → after ≡ (if fits then before ++ more else before) → there ≡ fits → there ≡ true → Follows h k [] (map numbered more) → Follows h k (map numbered before) (map numbered after)
all_kept before more after there true numbered h k is same holds a = more_had numbered h k before more after is a
all_kept before more after there false numbered h k is same holds a = absurd (false≢true (sym same ∙ holds))

-- the job of a thread, of which the last thing is its hand, was done where no thread could be started
pub job_follows : {A B C : Type 0} (job same : A × B × C × HandValue) (k : HandValue) (has : List ℕ) → job ≡ same → Follows job.3 k [] has → Follows same.3 k [] has
job_follows {A} {B} {C} job same k has e a = subst (λ (j : A × B × C × HandValue). Follows j.3 k [] has) e a
