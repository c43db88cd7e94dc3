-- What some hands have weighs the same after steps of one of them, and is taken back at the end.
use Rattle.std.proofs.Common.{◌≡◌, ℕ, zero, suc, ◌+◌, ◌<◌, List, [], ◌∷◌, ◌++◌, length, get_or, set, take, drop, map, refl, sym, ap, ◌∙◌, subst, append_assoc, length-append, arith}
use Rattle.std.proofs.lemmas.List.{map-append, length-map, get_or-map, get_or_default, set_split, set-get_or}
use Rattle.std.proofs.lemmas.List.Elements.{All-from_get_or}
use Rattle.mama_pool.specs.Values.{Place, HandValue, ShareValue, SamePlaces, KnowsAll, KnowsEmpty, IsPool, IsNewPool, new_share, new_hand, new_hands, first_numbers, places_of, total, taken_weight}
use Rattle.mama_pool.specs.Deal.{no_hand, hand_at}
use Rattle.mama_pool.proofs.Totals.{total-append, total_last}
use Rattle.mama_edge.specs.declared.gate.GateActor.{GateActor}
use Rattle.mama_work.specs.Dispatcher.{queue_number}
use Rattle.mama_work.specs.Serving.{Keeps, Follows, AllKeep, AllFollow, ArePlaced, AreBack, numbers_of}

abbrev pushed_weight : (ℕ → ℕ) → HandValue → ℕ
pushed_weight weight h = total weight h.pushed

pub placed_none : (hs : List HandValue) → ArePlaced hs hs
placed_none hs = (refl, refl)

pub placed_then : (hs ks ls : List HandValue) → ArePlaced hs ks → ArePlaced ks ls → ArePlaced hs ls
placed_then hs ks ls a b = (b.0 ∙ a.0, b.1 ∙ a.1)

pub all_none : (hs : List HandValue) (xs : List ℕ) → AllFollow hs hs xs xs
all_none hs xs = ((λ weight. refl), placed_none hs)

pub keep_then : (hs ks ls : List HandValue) (xs ys zs : List ℕ) → AllKeep hs ks xs ys → AllKeep ks ls ys zs → AllKeep hs ls xs zs
keep_then hs ks ls xs ys zs a b weight = let p = a weight in let q = b weight in omega arith

pub all_then : (hs ks ls : List HandValue) (xs ys zs : List ℕ) → AllFollow hs ks xs ys → AllFollow ks ls ys zs → AllFollow hs ls xs zs
all_then hs ks ls xs ys zs a b = (keep_then hs ks ls xs ys zs a.0 b.0, placed_then hs ks ls a.1 b.1)

pub keep_beside : (hs ks : List HandValue) (xs had has : List ℕ) → AllKeep hs ks had has → AllKeep hs ks (xs ++ had) (xs ++ has)
keep_beside hs ks xs had has a weight = let p = a weight in let q = total-append weight xs had in let r = total-append weight xs has in omega arith

-- one of them made steps
module _ (xs ys : List HandValue) (h k : HandValue) where
  pub step_placed : SamePlaces h k → ArePlaced (xs ++ h ∷ ys) (xs ++ k ∷ ys)
  step_placed same =
      let numbers : List HandValue → List ℕ = map (λ (u : HandValue). u.number) in
      let places : List HandValue → List (List Place) = map places_of in (
        map-append (λ (u : HandValue). u.number) xs (k ∷ ys) ∙ (ap (λ (n : ℕ). numbers xs ++ n ∷ numbers ys) same.0 ∙ sym (map-append (λ (u : HandValue). u.number) xs (h ∷ ys))),
        map-append places_of xs (k ∷ ys) ∙ (ap (λ (p : List Place). places xs ++ p ∷ places ys) same.1 ∙ sym (map-append places_of xs (h ∷ ys))),
      )

  pub step_keeps : (had has : List ℕ) → Keeps h k had has → AllKeep (xs ++ h ∷ ys) (xs ++ k ∷ ys) had has
  step_keeps had has a weight =
      let p = a weight in
      let ph = total-append (pushed_weight weight) xs (h ∷ ys) in let pk = total-append (pushed_weight weight) xs (k ∷ ys) in
      let th = total-append (taken_weight weight) xs (h ∷ ys) in let tk = total-append (taken_weight weight) xs (k ∷ ys) in omega arith

  pub step_follows : (had has : List ℕ) → Follows h k had has → AllFollow (xs ++ h ∷ ys) (xs ++ k ∷ ys) had has
  step_follows had has a = (step_keeps had has a.0, step_placed a.1)

-- the hand at a place made steps
pub set_follows : (hs : List HandValue) (i : ℕ) (k : HandValue) (had has : List ℕ) → i < length hs → Follows (hand_at hs i) k had has → AllFollow hs (set hs i k) had has
set_follows hs i k had has lt a =
    let h : HandValue = hand_at hs i in
    let before : List HandValue = take i hs in let after : List HandValue = drop (suc i) hs in
    let old : hs ≡ before ++ h ∷ after = sym (set-get_or hs i no_hand) ∙ set_split hs i h lt in
    let new : set hs i k ≡ before ++ k ∷ after = set_split hs i k lt in
    subst (λ (l : List HandValue). AllFollow l (set hs i k) had has) (sym old) (subst (λ (l : List HandValue). AllFollow (before ++ h ∷ after) l had has) (sym new) (step_follows before after h k had has a))

-- the same, where the hand was read there
pub read_follows : (hs : List HandValue) (i : ℕ) (h k : HandValue) (had has : List ℕ) → i < length hs → h ≡ get_or hs i h → Follows h k had has → AllFollow hs (set hs i k) had has
read_follows hs i h k had has lt read a = set_follows hs i k had has lt (subst (λ (u : HandValue). Follows u k had has) (read ∙ get_or_default hs i h no_hand lt) a)

-- more was dealt out
pub all_more : (hs ks ls : List HandValue) (xs ys : List ℕ) → AllFollow hs ks xs [] → AllFollow ks ls ys [] → AllFollow hs ls (xs ++ ys) []
all_more hs ks ls xs ys a b = ((λ weight. let p = a.0 weight in let q = b.0 weight in let r = total-append weight xs ys in omega arith), placed_then hs ks ls a.1 b.1)

-- one more seat was dealt out
pub one_dealt : {S : Type 0} (given : List S) (seat : S) (numbered : S → ℕ) (hs ks ls : List HandValue) → AllFollow hs ks (map numbered given) [] → AllFollow ks ls (numbered seat ∷ []) [] → AllFollow hs ls (map numbered (given ++ seat ∷ [])) []
one_dealt given seat numbered hs ks ls a b =
    subst (λ (xs : List ℕ). AllFollow hs ls xs []) (sym (map-append numbered given (seat ∷ []))) (all_more hs ks ls (map numbered given) (numbered seat ∷ []) a b)

-- the same beside other hands
pub all_beside : (xs hs ks : List HandValue) (had has : List ℕ) → AllFollow hs ks had has → AllFollow (xs ++ hs) (xs ++ ks) had has
all_beside xs hs ks had has a =
    let number : HandValue → ℕ = λ (u : HandValue). u.number in (
      (λ weight.
          let p = a.0 weight in
          let ph = total-append (pushed_weight weight) xs hs in let pk = total-append (pushed_weight weight) xs ks in
          let th = total-append (taken_weight weight) xs hs in let tk = total-append (taken_weight weight) xs ks in omega arith),
      (
        map-append number xs ks ∙ (ap (λ (ns : List ℕ). map number xs ++ ns) a.1.0 ∙ sym (map-append number xs hs)),
        map-append places_of xs ks ∙ (ap (λ (ps : List (List Place)). map places_of xs ++ ps) a.1.1 ∙ sym (map-append places_of xs hs)),
      ),
    )

-- no thread was started yet
pub none_started : {A : Type 0} (servers : List A) (start_of : A → HandValue) (old all : List HandValue) → servers ≡ [] → old ≡ all → map start_of servers ++ old ≡ all
none_started {A} servers start_of old all none is = ap (λ (l : List A). map start_of l ++ old) none ∙ is

-- a thread was started by the first of the hands that are left
pub one_started : {A : Type 0} (servers : List A) (server : A) (start_of : A → HandValue) (hand : HandValue) (old rest all : List HandValue) → old ≡ hand ∷ rest → start_of server ≡ hand → map start_of servers ++ old ≡ all → map start_of (servers ++ server ∷ []) ++ rest ≡ all
one_started servers server start_of hand old rest all popped is before =
    let starts : List HandValue = map start_of servers in
    ap (λ (l : List HandValue). l ++ rest) (map-append start_of servers (server ∷ [])) ∙ (append_assoc starts (start_of server ∷ []) rest
    ∙ (ap (λ (u : HandValue). starts ++ u ∷ rest) is ∙ (ap (λ (l : List HandValue). starts ++ l) (sym popped) ∙ before)))

-- the first of the hands made steps in no thread
pub first_follows : (hand back : HandValue) (old rest new : List HandValue) (had has : List ℕ) → old ≡ hand ∷ rest → new ≡ back ∷ rest → Follows hand back had has → AllFollow old new had has
first_follows hand back old rest new had has popped pushed a =
    subst (λ (l : List HandValue). AllFollow l new had has) (sym popped) (subst (λ (l : List HandValue). AllFollow (hand ∷ rest) l had has) (sym pushed) (step_follows [] rest hand back had has a))

pub refused_follows : (starts : List HandValue) (hand back : HandValue) (old rest new all : List HandValue) (has : List ℕ) → old ≡ hand ∷ rest → new ≡ back ∷ rest → starts ++ old ≡ all → Follows hand back [] has → AllFollow all (starts ++ new) [] has
refused_follows starts hand back old rest new all has popped pushed whole a =
    subst (λ (l : List HandValue). AllFollow l (starts ++ new) [] has) whole (all_beside starts old new [] has (first_follows hand back old rest new [] has popped pushed a))

pub none_follows : (now all : List HandValue) → now ≡ all → AllFollow all now [] []
none_follows now all e = subst (λ (l : List HandValue). AllFollow l now [] []) e (all_none now [])

-- threads were started by the first of the hands, and another of these made steps
pub whole_way : {A : Type 0} (servers servers' : List A) (start_of : A → HandValue) (hs ks ls : List HandValue) (xs ys : List ℕ) → servers' ≡ servers → AllFollow hs (map start_of servers ++ ks) [] xs → AllFollow ks ls xs ys
    → AllFollow hs (map start_of servers' ++ ls) [] ys
whole_way {A} servers servers' start_of hs ks ls xs ys same a b =
    let starts : List HandValue = map start_of servers in
    subst (λ (l : List A). AllFollow hs (map start_of l ++ ls) [] ys) (sym same) (all_then hs (starts ++ ks) (starts ++ ls) [] xs ys a (all_beside starts ks ls xs ys b))

-- the last of the threads that are left was joined
pub starts_popped : {A : Type 0} (servers rest : List A) (server : A) (start_of : A → HandValue) → servers ≡ rest ++ server ∷ [] → map start_of servers ≡ map start_of rest ++ start_of server ∷ []
starts_popped {A} servers rest server start_of popped = ap (λ (l : List A). map start_of l) popped ∙ map-append start_of rest (server ∷ [])

module _ (hs starts starts' : List HandValue) (start back : HandValue) (hands hands' : List HandValue) (popped : starts ≡ starts' ++ start ∷ []) (pushed : hands' ≡ back ∷ hands) where
  joined_whole : starts ++ hands ≡ starts' ++ start ∷ hands
  joined_whole = ap (λ (l : List HandValue). l ++ hands) popped ∙ append_assoc starts' (start ∷ []) hands

  pub joined_placed : SamePlaces start back → ArePlaced hs (starts ++ hands) → ArePlaced hs (starts' ++ hands')
  joined_placed same a =
      subst (λ (l : List HandValue). ArePlaced hs (starts' ++ l)) (sym pushed)
      (placed_then hs (starts' ++ start ∷ hands) (starts' ++ back ∷ hands) (subst (λ (l : List HandValue). ArePlaced hs l) joined_whole a) (step_placed starts' hands start back same))

  pub joined_keep : (had between has : List ℕ) → Keeps start back between has → AllKeep hs (starts ++ hands) had between → AllKeep hs (starts' ++ hands') had has
  joined_keep had between has b a =
      subst (λ (l : List HandValue). AllKeep hs (starts' ++ l) had has) (sym pushed)
      (keep_then hs (starts' ++ start ∷ hands) (starts' ++ back ∷ hands) had between has (subst (λ (l : List HandValue). AllKeep hs l had between) joined_whole a) (step_keeps starts' hands start back between has b))

-- there are as many hands as before
pub same_length : (hs ks : List HandValue) → ArePlaced hs ks → length ks ≡ length hs
same_length hs ks same = let number : HandValue → ℕ = λ (u : HandValue). u.number in sym (length-map ks number) ∙ (ap length same.0 ∙ length-map hs number)

-- one more hand found its own deque empty
pub one_more_empty : (hs : List HandValue) (i : ℕ) (k : HandValue) → i < length hs → KnowsEmpty k → ((j : ℕ) → j < i → KnowsEmpty (hand_at hs j)) → (j : ℕ) → j < i + 1 → KnowsEmpty (hand_at (set hs i k) j)
one_more_empty [] i k lt e before j below = absurd (omega arith)
one_more_empty (h ∷ hs) zero k lt e before zero below = e
one_more_empty (h ∷ hs) zero k lt e before (suc j) below = absurd (omega arith)
one_more_empty (h ∷ hs) (suc i) k lt e before zero below = before zero (omega arith)
one_more_empty (h ∷ hs) (suc i) k lt e before (suc j) below = one_more_empty hs i k (omega arith) e (λ m less. before (suc m) (omega arith)) j (omega arith)

-- a hand that found its own deque empty
pub knows_empty : (h k : HandValue) → KnowsAll h k → KnowsEmpty k
knows_empty h k a = let e : length k.pushed ≡ length h.pushed = ap (λ (u : HandValue). length u.pushed) a.look.same in let all = a.all in omega arith

-- they are a pool still
pub pool_placed : (hs ks : List HandValue) → IsPool hs → ArePlaced hs ks → IsPool ks
pool_placed hs ks P same =
    let long = same_length hs ks same in
    record {
      places = P.places;
      count = P.count ∙ sym long;
      numbers = same.0 ∙ (P.numbers ∙ ap first_numbers (sym long));
      each = All-from_get_or (λ (u : HandValue). places_of u ≡ P.places) ks no_hand (λ i lt.
          sym (get_or-map places_of ks i no_hand [] lt) ∙ (ap (λ (l : List (List Place)). get_or l i []) same.1 ∙ (get_or-map places_of hs i no_hand [] (omega arith) ∙ P.each i no_hand (omega arith))));
    }

-- so many hands were dealt to
new_count : (places : List Place) (n : ℕ) → length (new_hands places n) ≡ n
new_count places zero = refl
new_count places (suc n) = let h = new_count places n in let a = length-append (new_hands places n) (new_hand places n ∷ []) in omega arith

pub dealt_count : (n : ℕ) (new dealt : List HandValue) → IsNewPool n new → ArePlaced new dealt → length dealt ≡ n
dealt_count n new dealt N same = same_length new dealt same ∙ (ap length N.hands_are ∙ new_count N.places n)

-- new hands have pushed and taken nothing
new_taken : (weight : ℕ → ℕ) (places : List Place) → total (λ (s : ShareValue). total weight s.took) (map new_share places) ≡ 0
new_taken weight [] = refl
new_taken weight (p ∷ ps) = let h = new_taken weight ps in omega arith

new_weights : (weight : ℕ → ℕ) (places : List Place) (n : ℕ) → (total (pushed_weight weight) (new_hands places n) ≡ 0) × (total (taken_weight weight) (new_hands places n) ≡ 0)
new_weights weight places zero = (refl, refl)
new_weights weight places (suc n) =
    let h = new_weights weight places n in let a = h.0 in let b = h.1 in
    let p = total_last (pushed_weight weight) (new_hands places n) (new_hand places n) in
    let t = total_last (taken_weight weight) (new_hands places n) (new_hand places n) in
    let none = new_taken weight places in (omega arith, omega arith)

-- at the end, what is back is what was kept and what was left
pub finished : (hs ks : List HandValue) (kept left seats : List ℕ) (weight : ℕ → ℕ) → AllKeep hs ks kept left → total (pushed_weight weight) ks ≡ total (taken_weight weight) ks → seats ≡ left
    → total weight seats + total (taken_weight weight) hs ≡ total (pushed_weight weight) hs + total weight kept
finished hs ks kept left seats weight a gone same = let p = a weight in let q = ap (total weight) same in omega arith

pub same_numbers : {S : Type 0} (acts : S → GateActor) (xs ys : List S) → map acts xs ≡ map acts ys → numbers_of acts xs ≡ numbers_of acts ys
same_numbers {S} acts xs ys e = sym (by_actors xs) ∙ (ap (map queue_number) e ∙ by_actors ys)
  where
    by_actors : (zs : List S) → map queue_number (map acts zs) ≡ map (λ (s : S). queue_number (acts s)) zs
    by_actors [] = refl
    by_actors (z ∷ zs) = ap (λ (l : List ℕ). queue_number (acts z) ∷ l) (by_actors zs)

-- what is back beside what hands pushed
pub back_from : (dealt back : List HandValue) (kept seats : List ℕ) → AllKeep dealt back [] kept → ((weight : ℕ → ℕ) → total weight seats + total (taken_weight weight) back ≡ total (pushed_weight weight) back + total weight kept) → AreBack dealt seats
back_from dealt back kept seats a b weight = let p = a weight in let q = b weight in omega arith

pub each_as_given : (n : ℕ) (new dealt : List HandValue) (given seats : List ℕ) → IsNewPool n new → AllKeep new dealt given [] → AreBack dealt seats → (weight : ℕ → ℕ) → total weight seats ≡ total weight given
each_as_given n new dealt given seats N a b weight =
    let p = a weight in let q = b weight in
    let z = new_weights weight N.places n in let z0 = z.0 in let z1 = z.1 in
    let pushed : total (pushed_weight weight) new ≡ total (pushed_weight weight) (new_hands N.places n) = ap (total (pushed_weight weight)) N.hands_are in
    let taken : total (taken_weight weight) new ≡ total (taken_weight weight) (new_hands N.places n) = ap (total (taken_weight weight)) N.hands_are in omega arith
