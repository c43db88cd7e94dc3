-- A share after it took and looked, and a hand after a change of a share.
use Rattle.std.proofs.Common.{◌≡◌, ◌≢◌, ℕ, ◌+◌, ◌-◌, ◌<◌, ◌≤◌, max, Option, Some, None, IfSome, IfNone, OnSome, Result, Ok, Err, OnOk, OnErr, replicate, List, [], ◌∷◌, ◌++◌, length, map, get_or, set, refl, sym, ap, ◌∙◌, subst, length-append, arith}
use Rattle.std.proofs.lemmas.List.{get_or-set_same, get_or-set_other, length-set, map-set, set-get_or, get_or-map, get_or_default, get_or-replicate, length-replicate, replicate-append-replicate}
use mathlib.Core.Logic.{dite}
use native.Mathlib.Decide.{ℕ_discrete}
use Rattle.atomic_table.specs.Seated.{TableId}
use Rattle.mama_pool.specs.declared.view.View.{View}
use Rattle.mama_pool.specs.declared.view.Count.{Count}
use Rattle.mama_pool.specs.Values.{Place, ShareValue, HandValue, no_share, share_in, taken_more, learnt_more, new_share, after_push, after_take, note_of, SamePlaces, IsAfterLook, HasLooked, KnowsAll}
use Rattle.mama_pool.specs.Steps.{view_of, count_of, with_push, with_take, with_counts, with_known, noted, with_learnt}
use Rattle.mama_pool.specs.Hand.{IsShare, IsNote, IsHand, HasLookedIn, HasCounted}

pub took : (v w : View) (c d : Count) (n : ℕ) → IsShare v c → w ≡ with_take v (n ∷ []) → d ≡ with_counts c 0 1 → IsShare w d
took v w c d n S a b =
    let p = S.pushes in let t = S.takes in let l = length-append v.took (n ∷ []) in
    subst (λ (u : View). IsShare u d) (sym a) (subst (IsShare (with_take v (n ∷ []))) (sym b)
    (record { share = S.share; pushed = S.pushed; part = S.part; pushes = omega arith; takes = omega arith }))

pub looked : (v w : View) (c d : Count) (taken : ℕ) → IsShare v c → w ≡ v → d ≡ with_known c taken → IsShare w d
looked v w c d taken S a b =
    subst (λ (u : View). IsShare u d) (sym a) (subst (IsShare v) (sym b) (record { share = S.share; pushed = S.pushed; part = S.part; pushes = S.pushes; takes = S.takes }))

-- the views of a share are told by its value
pub view_is : (v : View) (c : Count) → IsShare v c → v ≡ view_of 1 [] v.took
view_is v c S = λ i. record { shares = S.share i; pushed = S.pushed i; took = v.took }

pub count_is : (v : View) (c : Count) → IsShare v c → c ≡ count_of 1 0 (length v.took) c.known c.learnt
count_is v c S = λ i. record { shares = S.part i; pushes = S.pushes i; takes = S.takes i; known = c.known; learnt = c.learnt }

-- the hand's deque and tally
pub home_is : (number : ℕ) (place : Place) (home : View) (opener : Count) (shares : List ShareValue) → IsHand number place home opener shares → home ≡ view_of home.shares home.pushed []
home_is number place home opener shares H = λ i. record { shares = home.shares; pushed = home.pushed; took = H.took i }

pub opener_is : (number : ℕ) (place : Place) (home : View) (opener : Count) (shares : List ShareValue) → IsHand number place home opener shares → opener ≡ count_of home.shares (length home.pushed) 0 0 0
opener_is number place home opener shares H = λ i. record { shares = H.rest i; pushes = H.pushes i; takes = H.takes i; known = H.known i; learnt = H.learnt_none i }

-- a share of the hand changes
hand_with : (number : ℕ) (place : Place) (home : View) (opener : Count) (shares : List ShareValue) (k : ℕ) (s : ShareValue) → IsHand number place home opener shares
    → (share_in (set shares k s) number).place ≡ place → (share_in (set shares k s) number).learnt ≡ length home.pushed → IsHand number place home opener (set shares k s)
hand_with number place home opener shares k s H here learnt = let l = length-set shares k s in let n = H.numbered in let w = H.whole in record {
  numbered = omega arith;
  whole = omega arith;
  spare = H.spare;
  rest = H.rest;
  took = H.took;
  pushes = H.pushes;
  takes = H.takes;
  known = H.known;
  learnt_none = H.learnt_none;
  here = here;
  learnt = learnt;
}

-- another share than the own one
pub hand_else : (number : ℕ) (place : Place) (home : View) (opener : Count) (shares : List ShareValue) (k : ℕ) (s : ShareValue) → IsHand number place home opener shares → number ≢ k → IsHand number place home opener (set shares k s)
hand_else number place home opener shares k s H apart =
    let same = get_or-set_other shares k number s no_share apart in
    hand_with number place home opener shares k s H (ap (λ (t : ShareValue). t.place) same ∙ H.here) (ap (λ (t : ShareValue). t.learnt) same ∙ H.learnt)

-- any share, which stays where it is and has learnt no more
pub hand_same : (number : ℕ) (place : Place) (home : View) (opener : Count) (shares : List ShareValue) (k : ℕ) (s : ShareValue) → IsHand number place home opener shares → k < length shares
    → s.place ≡ (share_in shares k).place → s.learnt ≡ (share_in shares k).learnt → IsHand number place home opener (set shares k s)
hand_same number place home opener shares k s H room stays learnt = dite (ℕ_discrete number k)
    (λ (e : number ≡ k). let same : share_in (set shares k s) number ≡ s = ap (share_in (set shares k s)) e ∙ get_or-set_same shares k s no_share room in
    hand_with number place home opener shares k s H
    (ap (λ (t : ShareValue). t.place) same ∙ (stays ∙ (ap (λ (i : ℕ). (share_in shares i).place) (sym e) ∙ H.here)))
    (ap (λ (t : ShareValue). t.learnt) same ∙ (learnt ∙ (ap (λ (i : ℕ). (share_in shares i).learnt) (sym e) ∙ H.learnt))))
    (λ (apart : number ≢ k). hand_else number place home opener shares k s H apart)

-- push
pub hand_pushed : (number : ℕ) (place : Place) (home home' : View) (opener opener' : Count) (shares : List ShareValue) (n count : ℕ) → IsHand number place home opener shares
    → home' ≡ with_push home (n ∷ []) → opener' ≡ with_counts opener 1 0 → count ≡ opener'.pushes → IsHand number place home' opener' (set shares number (learnt_more (share_in shares number) count))
hand_pushed number place home home' opener opener' shares n count H a b is =
    let s : ShareValue = learnt_more (share_in shares number) count in
    let l = length-set shares number s in let m = length-append home.pushed (n ∷ []) in
    let own = get_or-set_same shares number s no_share H.numbered in
    let o : count ≡ opener.pushes + 1 = is ∙ ap (λ (c : Count). c.pushes) b in
    let numbered = H.numbered in let whole = H.whole in let pushes = H.pushes in let takes = H.takes in let learnt = H.learnt in
    subst (λ (u : View). IsHand number place u opener' (set shares number s)) (sym a) (subst (λ (c : Count). IsHand number place (with_push home (n ∷ [])) c (set shares number s)) (sym b) (record {
      numbered = omega arith;
      whole = omega arith;
      spare = H.spare;
      rest = H.rest;
      took = H.took;
      pushes = omega arith;
      takes = omega arith;
      known = H.known;
      learnt_none = H.learnt_none;
      here = ap (λ (t : ShareValue). t.place) own ∙ H.here;
      learnt = ap (λ (t : ShareValue). t.learnt) own ∙ (let e : max (share_in shares number).learnt count ≡ length (home.pushed ++ n ∷ []) = omega arith in e);
    }))

-- where a share that changes stays where it is, all places stay
pub same_places : (shares : List ShareValue) (k : ℕ) (s : ShareValue) → k < length shares → s.place ≡ (share_in shares k).place → map (λ (t : ShareValue). t.place) (set shares k s) ≡ map (λ (t : ShareValue). t.place) shares
same_places shares k s room stays =
    let at : ShareValue → Place = λ t. t.place in
    map-set at shares k s ∙ (ap (set (map at shares) k) (stays ∙ sym (get_or-map at shares k no_share no_share.place room)) ∙ set-get_or (map at shares) k no_share.place)

-- a hand as clauses see it
abbrev pub hand_of : ℕ → View → List ShareValue → HandValue
hand_of number home shares = record { number = number; pushed = home.pushed; shares = shares }

-- a share as clauses see it
abbrev pub share_at : Place → View → Count → ShareValue
share_at place v c = record { place = place; took = v.took; known = c.known; learnt = c.learnt }

pub share_took : (place : Place) (v w : View) (c d : Count) (n : ℕ) → w ≡ with_take v (n ∷ []) → d ≡ with_counts c 0 1 → share_at place w d ≡ taken_more (share_at place v c) n
share_took place v w c d n a b = λ i. share_at place (a i) (b i)

pub share_looked : (place : Place) (v w : View) (c d : Count) (taken : ℕ) → w ≡ v → d ≡ with_known c taken → c.learnt ≤ taken → c.known ≤ taken → IsAfterLook (share_at place v c) (share_at place w d)
share_looked place v w c d taken a b learnt known = record { taken = taken; same = λ i. share_at place (a i) (b i); learnt = learnt; known = known }

-- one share of some changed, and stays where it is
pub record IsMoved (old : List ShareValue) (k : ℕ) (new : List ShareValue) : Type 0 where
  pub share : ShareValue
  pub same : new ≡ set old k share
  pub place : share.place ≡ (share_in old k).place
  pub learnt : share.learnt ≡ (share_in old k).learnt

module _ {X : Type 0} where
  if_some : (P Q : X → Type 0) (r : Option X) → ((x : X) → P x → Q x) → IfSome r P → IfSome r Q
  if_some P Q None f h = h
  if_some P Q (Some x) f h = f x h

  if_none : (P Q : Type 0) (r : Option X) → (P → Q) → IfNone r P → IfNone r Q
  if_none P Q None f h = f h
  if_none P Q (Some x) f h = h

  -- a share after it took or looked
  pub still_share : (numbered : X → ℕ) (v w : View) (c d : Count) (r : Option X) → IsShare v c → IfSome r (λ x. w ≡ with_take v (numbered x ∷ [])) → OnSome r (d ≡ with_counts c 0 1) → IfNone r (w ≡ v) → IfNone r (HasCounted c d)
      → IsShare w d
  still_share numbered v w c d None S t n l k = looked v w c d k.taken S l k.same
  still_share numbered v w c d (Some x) S t n l k = took v w c d (numbered x) S t n

  pub some_share : (numbered : X → ℕ) (place : Place) (v w : View) (c d : Count) (r : Option X) → IfSome r (λ x. w ≡ with_take v (numbered x ∷ [])) → OnSome r (d ≡ with_counts c 0 1)
      → IfSome r (λ x. share_at place w d ≡ taken_more (share_at place v c) (numbered x))
  some_share numbered place v w c d None t n = t
  some_share numbered place v w c d (Some x) t n = share_took place v w c d (numbered x) t n

  pub none_share : (place : Place) (v w : View) (c d : Count) (r : Option X) → IfNone r (w ≡ v) → IfNone r (HasCounted c d) → IfNone r (IsAfterLook (share_at place v c) (share_at place w d))
  none_share place v w c d None l k = share_looked place v w c d k.taken l k.same k.learnt k.known
  none_share place v w c d (Some x) l k = l

  -- the same of one of some shares
  pub at_some : (numbered : X → ℕ) (xs : List ShareValue) (k : ℕ) (x y : ShareValue) (r : Option X) → k < length xs → x ≡ get_or xs k x → IfSome r (λ i. y ≡ taken_more x (numbered i)) → IfSome r (λ i. set xs k y ≡ set xs k (taken_more (share_in xs k) (numbered i)))
  at_some numbered xs k x y None room read h = h
  at_some numbered xs k x y (Some i) room read h = ap (set xs k) (h ∙ ap (λ (s : ShareValue). taken_more s (numbered i)) (read ∙ get_or_default xs k x no_share room))

  pub at_none : (xs : List ShareValue) (k : ℕ) (x y : ShareValue) (r : Option X) → k < length xs → x ≡ get_or xs k x → IfNone r (IsAfterLook x y) → IfNone r (HasLookedIn xs k (set xs k y))
  at_none xs k x y None room read h = record { share = y; same = refl; look = subst (λ (s : ShareValue). IsAfterLook s y) (read ∙ get_or_default xs k x no_share room) h }
  at_none xs k x y (Some i) room read h = h

  module _ (numbered : X → ℕ) (old new : List ShareValue) (k : ℕ) (r : Option X) (took : IfSome r (λ x. new ≡ set old k (taken_more (share_in old k) (numbered x)))) (looked : IfNone r (HasLookedIn old k new)) where
    moved_by : (r : Option X) → IfSome r (λ x. new ≡ set old k (taken_more (share_in old k) (numbered x))) → IfNone r (HasLookedIn old k new) → IsMoved old k new
    moved_by None t l = record { share = l.share; same = l.same; place = ap (λ (s : ShareValue). s.place) l.look.same; learnt = ap (λ (s : ShareValue). s.learnt) l.look.same }
    moved_by (Some x) t l = record { share = taken_more (share_in old k) (numbered x); same = t; place = refl; learnt = refl }

    pub moved : IsMoved old k new
    moved = moved_by r took looked

    pub some_taken : (number : ℕ) (home : View) → IfSome r (λ x. hand_of number home new ≡ after_take (hand_of number home old) k (numbered x))
    some_taken number home = if_some _ _ r (λ x e. ap (hand_of number home) e) took

    pub none_looked : (number : ℕ) (home : View) → IfNone r (HasLooked (hand_of number home old) k (hand_of number home new))
    none_looked number home = if_none _ _ r (λ l. record { share = l.share; same = ap (hand_of number home) l.same; look = l.look }) looked

pub moved_places : (number : ℕ) (home : View) (old new : List ShareValue) (k : ℕ) → IsMoved old k new → k < length old → SamePlaces (hand_of number home old) (hand_of number home new)
moved_places number home old new k M room = (refl, ap (map (λ (s : ShareValue). s.place)) M.same ∙ same_places old k M.share room M.place)

pub moved_hand : (number : ℕ) (place : Place) (home : View) (opener : Count) (old new : List ShareValue) (k : ℕ) → IsHand number place home opener old → IsMoved old k new → k < length old → IsHand number place home opener new
moved_hand number place home opener old new k H M room = subst (IsHand number place home opener) (sym M.same) (hand_same number place home opener old k M.share H room M.place M.learnt)

-- a hand that found nothing in its own deque knows that all that it pushed was taken
pub knows_all : (number : ℕ) (place : Place) (home : View) (opener : Count) (old new : List ShareValue) → IsHand number place home opener old → HasLooked (hand_of number home old) number (hand_of number home new) → KnowsAll (hand_of number home old) (hand_of number home new)
knows_all number place home opener old new H L = record {
  look = L;
  all =
      let is : share_in new number ≡ L.share = ap (λ (h : HandValue). share_in h.shares number) L.same ∙ get_or-set_same old number L.share no_share H.numbered in
      let known : (share_in new number).known ≡ L.look.taken = ap (λ (s : ShareValue). s.known) is ∙ ap (λ (s : ShareValue). s.known) L.look.same in
      let learnt = L.look.learnt in let all = H.learnt in omega arith;
}

pub none_left : {X : Type 0} (number : ℕ) (place : Place) (home : View) (opener : Count) (old new : List ShareValue) (r : Option X) → IsHand number place home opener old → IfNone r (HasLooked (hand_of number home old) number (hand_of number home new))
    → IfNone r (KnowsAll (hand_of number home old) (hand_of number home new))
none_left number place home opener old new r H L = if_none _ _ r (knows_all number place home opener old new H) L

-- a new hand has all shares in its own deque
pub new_hand_is : (number workers : ℕ) (place : Place) (home : View) (opener : Count) (shares : List ShareValue) → number < workers → workers ≤ 64 → home ≡ view_of (65 - workers) [] [] → opener ≡ count_of (65 - workers) 0 0 0 0
    → shares ≡ replicate workers (new_share place) → IsHand number place home opener shares
new_hand_is number workers place home opener shares room most a b c =
    let l : length shares ≡ workers = ap length c ∙ length-replicate workers (new_share place) in
    let h : home.shares ≡ 65 - workers = ap (λ (v : View). v.shares) a in
    let own : share_in shares number ≡ new_share place = ap (λ (s : List ShareValue). share_in s number) c ∙ get_or-replicate workers number (new_share place) no_share room in record {
      numbered = omega arith;
      whole = omega arith;
      spare = omega arith;
      rest = ap (λ (o : Count). o.shares) b ∙ sym h;
      took = ap (λ (v : View). v.took) a;
      pushes = ap (λ (o : Count). o.pushes) b ∙ sym (ap (λ (v : View). length v.pushed) a);
      takes = ap (λ (o : Count). o.takes) b;
      known = ap (λ (o : Count). o.known) b;
      learnt_none = ap (λ (o : Count). o.learnt) b;
      here = ap (λ (s : ShareValue). s.place) own;
      learnt = ap (λ (s : ShareValue). s.learnt) own ∙ sym (ap (λ (v : View). length v.pushed) a);
    }

-- so many shares and one more
pub replicate_more : (n : ℕ) (s : ShareValue) → replicate n s ++ s ∷ [] ≡ replicate (n + 1) s
replicate_more n s = replicate-append-replicate n 1 s

-- a note of a pass that counts
pub noted_is : (c n : Count) → n ≡ noted c → IsNote n
noted_is c n e = subst IsNote (sym e) (record { part = refl; pushes = refl; takes = refl; known = refl })

-- a share after it learnt
pub learnt_share : (v : View) (c d n : Count) → IsShare v c → d ≡ with_learnt c n → IsShare v d
learnt_share v c d n S e = subst (IsShare v) (sym e) (record { share = S.share; pushed = S.pushed; part = S.part; pushes = S.pushes; takes = S.takes })

-- a push, whether the deque could grow or not
module _ {X Y : Type 0} (number n : ℕ) (place : Place) (home home' : View) (opener opener' : Count) (shares shares' : List ShareValue) (H : IsHand number place home opener shares) where
  pub push_hand : (r : Result X Y) → OnOk r (home' ≡ with_push home (n ∷ [])) → OnOk r (opener' ≡ with_counts opener 1 0) → OnOk r (shares' ≡ set shares number (learnt_more (share_in shares number) opener'.pushes))
      → OnErr r (home' ≡ home) → OnErr r (opener' ≡ opener) → OnErr r (shares' ≡ shares) → IsHand number place home' opener' shares'
  push_hand (Ok x) a b c d e f = subst (IsHand number place home' opener') (sym c) (hand_pushed number place home home' opener opener' shares n opener'.pushes H a b refl)
  push_hand (Err x) a b c d e f = subst (λ (v : View). IsHand number place v opener' shares') (sym d) (subst (λ (o : Count). IsHand number place home o shares') (sym e) (subst (IsHand number place home opener) (sym f) H))

  pub push_ok : (r : Result X Y) → OnOk r (home' ≡ with_push home (n ∷ [])) → OnOk r (opener' ≡ with_counts opener 1 0) → OnOk r (shares' ≡ set shares number (learnt_more (share_in shares number) opener'.pushes))
      → OnOk r (hand_of number home' shares' ≡ after_push (hand_of number home shares) n)
  push_ok (Ok x) a b c =
      let o : opener'.pushes ≡ opener.pushes + 1 = ap (λ (t : Count). t.pushes) b in let p = H.pushes in
      let m : opener'.pushes ≡ length home.pushed + 1 = omega arith in
      λ i. record { number = number; pushed = (a i).pushed; shares = (c ∙ ap (λ (k : ℕ). set shares number (learnt_more (share_in shares number) k)) m) i }
  push_ok (Err x) a b c = a

  pub push_err : (r : Result X Y) → OnErr r (home' ≡ home) → OnErr r (shares' ≡ shares) → OnErr r (hand_of number home' shares' ≡ hand_of number home shares)
  push_err (Ok x) a b = a
  push_err (Err x) a b = λ i. hand_of number (a i) (b i)

  pub push_places : (r : Result X Y) → OnOk r (shares' ≡ set shares number (learnt_more (share_in shares number) opener'.pushes)) → OnErr r (shares' ≡ shares) → SamePlaces (hand_of number home shares) (hand_of number home' shares')
  push_places (Ok x) c f = (refl, ap (map (λ (s : ShareValue). s.place)) c ∙ same_places shares number (learnt_more (share_in shares number) opener'.pushes) H.numbered refl)
  push_places (Err x) c f = (refl, ap (map (λ (s : ShareValue). s.place)) f)

-- what a note of the hand's names
pub told : (number : ℕ) (place : Place) (home : View) (opener : Count) (shares : List ShareValue) (tally : TableId) (n : Count) → IsHand number place home opener shares → tally ≡ place.tally → n ≡ noted opener
    → record { from = number; tally = tally; count = n.learnt } ≡ note_of (hand_of number home shares)
told number place home opener shares tally n H a b = λ i. record { from = number; tally = (a ∙ sym (ap (λ (p : Place). p.tally) H.here)) i; count = (ap (λ (t : Count). t.learnt) b ∙ H.pushes) i }

-- the share that is read at a place
pub read_is : (xs : List ShareValue) (k : ℕ) (x : ShareValue) → k < length xs → x ≡ get_or xs k x → x ≡ share_in xs k
read_is xs k x room read = read ∙ get_or_default xs k x no_share room
