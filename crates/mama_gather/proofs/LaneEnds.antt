-- Ports and takers that are taken lane by lane, and what the closing of a lane tells of each.
use Rattle.std.specs.List.{All, AllZip}
use Rattle.std.proofs.Common.{◌≡◌, Bool, List, [], ◌∷◌, ◌++◌, length, map, refl, sym, ◌∙◌, ap, subst, arith}
use Rattle.std.proofs.lemmas.List.Elements.{All-head, All-cons, All-nil, All-append}
use Rattle.mama_lane.specs.Values.{LaneValue, PortValue, TakerValue}
use Rattle.mama_posts_services.specs.Ports.{lanes_of, ids_of}
use Rattle.mama_gather.specs.Edge.{IsEdgeOf}
use Rattle.mama_gather.proofs.Lists.{all_front, all_back}

-- ---- lists that are taken from their ends

module _ {A B C : Type 0} (f : A → C) (g : B → C) where
  pub ends_apart : (xs : List A) (x : A) (ys : List B) (y : B) → map f (xs ++ x ∷ []) ≡ map g (ys ++ y ∷ []) → (map f xs ≡ map g ys) × (f x ≡ g y)
  ends_apart [] x [] y same = let last : f x ≡ g y = cc same in (refl, last)
  ends_apart [] x (b ∷ []) y same = absurd (cc same)
  ends_apart [] x (b ∷ c ∷ ys) y same = absurd (cc same)
  ends_apart (a ∷ []) x [] y same = absurd (cc same)
  ends_apart (a ∷ d ∷ xs) x [] y same = absurd (cc same)
  ends_apart (a ∷ xs) x (b ∷ ys) y same =
      let first : f a ≡ g b = cc same in
      let rest : map f (xs ++ x ∷ []) ≡ map g (ys ++ y ∷ []) = cc same in
      let parts = ends_apart xs x ys y rest in
      (ap (λ (c : C). c ∷ map f xs) first ∙ ap (λ (cs : List C). g b ∷ cs) parts.0, parts.1)

  pub none_apart : (xs : List A) → map f xs ≡ [] → xs ≡ []
  none_apart [] none = refl
  none_apart (x ∷ xs) none = absurd (cc none)

-- where lists are mapped to one list, so are their last elements
pub last_same : {A B C : Type 0} (f : A → C) (g : B → C) (xs left : List A) (x : A) (ys others : List B) (y : B) → xs ≡ left ++ x ∷ [] → ys ≡ others ++ y ∷ [] → map f xs ≡ map g ys → f x ≡ g y
last_same f g xs left x ys others y is_xs is_ys same = (ends_apart f g left x others y (ap (map f) (sym is_xs) ∙ same ∙ ap (map g) is_ys)).1

pub zip_more : {A B : Type 0} (R : A → B → Type 0) (xs : List A) (x : A) (ys : List B) (y : B) → AllZip R xs ys → R x y → AllZip R (xs ++ x ∷ []) (ys ++ y ∷ [])
zip_more R [] x [] y all here = (here, tt)
zip_more R [] x (b ∷ ys) y all here = absurd all
zip_more R (a ∷ xs) x [] y all here = absurd all
zip_more R (a ∷ xs) x (b ∷ ys) y all here = (all.0, zip_more R xs x ys y all.1 here)

-- ---- lists that were put together

pub both_in : {A : Type 0} (P : A → Type 0) (none first both : List A) (x y : A) → none ≡ [] → first ≡ none ++ x ∷ [] → both ≡ first ++ y ∷ [] → All P both → P x × P y
both_in {A} P none first both x y is_none is_first is_both all =
    let whole : All P (first ++ y ∷ []) = subst (All P) is_both all in
    let front : All P first = all_front P first (y ∷ []) whole in
    let one : first ≡ x ∷ [] = is_first ∙ ap (λ (xs : List A). xs ++ x ∷ []) is_none in
    (All-head P x [] (subst (All P) one front), All-head P y [] (all_back P first (y ∷ []) whole))

pub three_in : {A : Type 0} (P : A → Type 0) (first second third two all : List A) → two ≡ first ++ second → all ≡ two ++ third → All P all → All P first × All P second × All P third
three_in P first second third two all is_two is_all holds =
    let whole : All P (two ++ third) = subst (All P) is_all holds in
    let front : All P (first ++ second) = subst (All P) is_two (all_front P two third whole) in
    (all_front P first second front, all_back P first second front, all_back P two third whole)

pub three_hold : {A : Type 0} (P : A → Type 0) (first second third two all : List A) → two ≡ first ++ second → all ≡ two ++ third → All P first → All P second → All P third → All P all
three_hold P first second third two all is_two is_all one other last =
    subst (All P) (sym is_all) (All-append P two third (subst (All P) (sym is_two) (All-append P first second one other)) last)

-- ---- one lane less to close

module _ {N : Type 0} (last : N → Bool) where
  abbrev Edged : List (PortValue N) → List (TakerValue N) → Type 0
  Edged ports takers = AllZip (λ (port : PortValue N) (taker : TakerValue N). IsEdgeOf last taker port) ports takers

  -- what is left of ports and takers belongs to what is left of the lanes, and their edges are all that is wanting
  pub record Left (all_ports ports : List (PortValue N)) (all_takers takers : List (TakerValue N)) (lanes : List LaneValue) : Type 0 where
    pub ports_are : lanes_of ports ≡ ids_of lanes
    pub takers_are : map (λ (t : TakerValue N). t.lane) takers ≡ ids_of lanes
    pub done : Edged ports takers → Edged all_ports all_takers

  pub one_less : (all_ports ports ports_left : List (PortValue N)) (all_takers takers takers_left : List (TakerValue N)) (lanes lanes_left : List LaneValue) (port : PortValue N) (taker : TakerValue N) (lane : LaneValue)
      → ports ≡ ports_left ++ port ∷ [] → takers ≡ takers_left ++ taker ∷ [] → lanes ≡ lanes_left ++ lane ∷ [] → Left all_ports ports all_takers takers lanes → IsEdgeOf last taker port
      → Left all_ports ports_left all_takers takers_left lanes_left
  one_less all_ports ports ports_left all_takers takers takers_left lanes lanes_left port taker lane ports_are takers_are lanes_are left edge =
      let by_ports : lanes_of (ports_left ++ port ∷ []) ≡ ids_of (lanes_left ++ lane ∷ []) = ap lanes_of (sym ports_are) ∙ left.ports_are ∙ ap ids_of lanes_are in
      let by_takers : map (λ (t : TakerValue N). t.lane) (takers_left ++ taker ∷ []) ≡ ids_of (lanes_left ++ lane ∷ []) =
      ap (map (λ (t : TakerValue N). t.lane)) (sym takers_are) ∙ left.takers_are ∙ ap ids_of lanes_are in
      record {
        ports_are = (ends_apart (λ (p : PortValue N). p.lane) (λ (l : LaneValue). l.id) ports_left port lanes_left lane by_ports).0;
        takers_are = (ends_apart (λ (t : TakerValue N). t.lane) (λ (l : LaneValue). l.id) takers_left taker lanes_left lane by_takers).0;
        done = λ edges. left.done (subst (Edged ports) (sym takers_are) (subst (λ (ps : List (PortValue N)). Edged ps (takers_left ++ taker ∷ [])) (sym ports_are)
            (zip_more (λ (p : PortValue N) (t : TakerValue N). IsEdgeOf last t p) ports_left port takers_left taker edges edge)));
      }

  pub none_left : (all_ports ports : List (PortValue N)) (all_takers takers : List (TakerValue N)) (lanes : List LaneValue) → lanes ≡ [] → Left all_ports ports all_takers takers lanes → Edged all_ports all_takers
  none_left all_ports ports all_takers takers lanes none left =
      let no_ports : ports ≡ [] = none_apart (λ (p : PortValue N). p.lane) (λ (l : LaneValue). l.id) ports (left.ports_are ∙ ap ids_of none) in
      let no_takers : takers ≡ [] = none_apart (λ (t : TakerValue N). t.lane) (λ (l : LaneValue). l.id) takers (left.takers_are ∙ ap ids_of none) in
      left.done (subst (Edged ports) (sym no_takers) (subst (λ (ps : List (PortValue N)). Edged ps []) (sym no_ports) tt))

pub none_long : {A : Type 0} (xs : List A) → length xs ≡ 0 → xs ≡ []
none_long [] none = refl
none_long (x ∷ xs) none = absurd (omega arith)

-- ---- a list of one

pub alone_is : {A : Type 0} (none all : List A) (x : A) → none ≡ [] → all ≡ none ++ x ∷ [] → all ≡ x ∷ []
alone_is none all x is_none is_all = is_all ∙ ap (λ xs. xs ++ x ∷ []) is_none

pub alone_holds : {A : Type 0} (P : A → Type 0) (none all : List A) (x : A) → none ≡ [] → all ≡ none ++ x ∷ [] → P x → All P all
alone_holds P none all x is_none is_all holds = subst (All P) (sym (alone_is none all x is_none is_all)) (All-cons P x [] holds (All-nil P))

pub alone_in : {X : Type 0} (P : X → Type 0) (none all : List X) (x : X) → none ≡ [] → all ≡ none ++ x ∷ [] → All P all → P x
alone_in P none all x is_none is_all whole = All-head P x [] (subst (All P) (alone_is none all x is_none is_all) whole)
