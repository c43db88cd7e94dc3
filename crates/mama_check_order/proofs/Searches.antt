-- Lemmas on a search: who asked whom, that a need which cannot be met means that there is no order, and that it ends.
use Rattle.std.specs.Prelude.{slice_get}
use Rattle.std.specs.List.{list_any, sum_by}
use Rattle.std.specs.Option.{is_some}
use Rattle.std.proofs.Common.{◌≡◌, ℕ, zero, suc, ◌+◌, ◌-◌, ◌^◌, ◌<◌, ◌≤◌, ◌==◌, Bool, true, false, cond, List, [], ◌∷◌, length, map, get_or, set, Vec, Global, Option, None, Some, refl, sym, ◌∙◌, ap, subst, arith, ◌⊎◌, inl, inr, ⊎_elim, get_or-set_same, get_or-set_other}
use Rattle.std.proofs.lemmas.Bool.{cases_eq, cases_Bool, eq-eqb, eqb-true, or_cases, or_parts, or_left, or_right, both_ways, false_from_ne_true, cond_both}
use Rattle.std.proofs.lemmas.List.Sums.{sum_by-set}
use Rattle.std.proofs.lemmas.Option.{slice_get_within}
use Rattle.mama_check_order.specs.Order.{turns_of}
use Rattle.mama_check_order.specs.Search.{entries_of, Lacks, NoneIsAsked, CannotCome}
use Rattle.mama_check_order.specs.Turns.{IsMost}
use Rattle.mama_check_order.proofs.Orders.{Holds, within_limit}
use Rattle.mama_check_order.specs.declared.order.Need.{Need}

-- ---- who is among those that wait

abbrev pub among : ℕ → List ℕ → Bool
among x ys = list_any (λ y. y == x) ys

first_among : (x : ℕ) (ys : List ℕ) → among x (x ∷ ys) ≡ true
first_among x ys = or_left (x == x) (among x ys) (eq-eqb x x refl)

rest_among : (y x : ℕ) (ys : List ℕ) → among x ys ≡ true → among x (y ∷ ys) ≡ true
rest_among y x ys h = or_right (y == x) (among x ys) h

-- one that is not the first is among the rest
not_first : (y x : ℕ) (ys : List ℕ) → (y ≡ x → ⊥) → among x (y ∷ ys) ≡ true → among x ys ≡ true
not_first y x ys other h = ⊎_elim (λ e. absurd (other (eqb-true y x e))) (λ h. h) (or_cases (y == x) (among x ys) h)

-- ---- the chain

-- the next entry of an actor lacks one of another
abbrev pub LacksOf : List (List (Option Need)) → List ℕ → ℕ → ℕ → Type 0
LacksOf needs made a actor = (need : Need) × Lacks needs made a need × (need.actor ≡ actor)

-- The actor was asked to go on by the first of the chain, which lacks an entry of it, and so on down to the one whose
-- entry is wanted, which nobody asked.
abbrev pub IsChain : List (List (Option Need)) → List ℕ → List (Option ℕ) → ℕ → ℕ → List ℕ → Type 0
IsChain needs made askers wanted actor [] = (actor ≡ wanted) × (get_or askers actor None ≡ None)
IsChain needs made askers wanted actor (a ∷ chain) =
    (get_or askers actor None ≡ Some a) × LacksOf needs made a actor × (among actor (a ∷ chain) ≡ false) × IsChain needs made askers wanted a chain

-- The actor that goes on now, and those that wait for it.
pub record IsSearch (needs : List (List (Option Need))) (made : List ℕ) (askers : List (Option ℕ)) (wanted actor : ℕ) : Type 0 where
  pub chain : List ℕ
  pub linked : IsChain needs made askers wanted actor chain
  pub only : (x : ℕ) → is_some (get_or askers x None) ≡ true → among x (actor ∷ chain) ≡ true

none_is_some : {X : Type 0} (o : Option X) → o ≡ None → is_some o ≡ true → ⊥
none_is_some o none some = both_ways (is_some o) (ap is_some none) some

is_none : {X : Type 0} (o : Option X) → (is_some o ≡ true → ⊥) → o ≡ None
is_none None h = refl
is_none (Some x) h = absurd (h refl)

none_there : (os : List (Option ℕ)) (i : ℕ) → get_or (set os i None) i None ≡ None
none_there [] i = refl
none_there (o ∷ os) zero = refl
none_there (o ∷ os) (suc i) = none_there os i

module _ (needs : List (List (Option Need))) where
  lacks_same : (made made' : List ℕ) (a actor : ℕ) → get_or made' a 0 ≡ get_or made a 0 → get_or made' actor 0 ≡ get_or made actor 0 → LacksOf needs made a actor → LacksOf needs made' a actor
  lacks_same made made' a actor same_a same_actor h =
      let need = h.0 in
      let same : get_or made' need.actor 0 ≡ get_or made need.actor 0 = subst (λ (x : ℕ). get_or made' x 0 ≡ get_or made x 0) (sym h.2) same_actor in
      let least = h.1.missing in (
        need,
        record {
          next = ap (λ (n : ℕ). slice_get (entries_of needs a) n) same_a ∙ h.1.next;
          missing = omega arith;
        },
        h.2,
      )

  -- a chain stays where nothing changes of those in it
  chain_same : (made made' : List ℕ) (askers askers' : List (Option ℕ)) (wanted actor : ℕ) (chain : List ℕ)
      → ((x : ℕ) → among x (actor ∷ chain) ≡ true → (get_or made' x 0 ≡ get_or made x 0) × (get_or askers' x None ≡ get_or askers x None))
      → IsChain needs made askers wanted actor chain → IsChain needs made' askers' wanted actor chain
  chain_same made made' askers askers' wanted actor [] same h = (h.0, (same actor (first_among actor [])).1 ∙ h.1)
  chain_same made made' askers askers' wanted actor (a ∷ chain) same h =
      let here = same actor (first_among actor (a ∷ chain)) in
      let before = same a (rest_among actor a (a ∷ chain) (first_among a chain)) in (
        here.1 ∙ h.0,
        lacks_same made made' a actor before.0 here.0 h.1,
        h.2,
        chain_same made made' askers askers' wanted a chain (λ x inside. same x (rest_among actor x (a ∷ chain) inside)) h.3,
      )

  -- each in a chain was asked, but for the one at its end
  asked : (made : List ℕ) (askers : List (Option ℕ)) (wanted actor : ℕ) (chain : List ℕ) → IsChain needs made askers wanted actor chain
      → (x : ℕ) → among x (actor ∷ chain) ≡ true → (x ≡ wanted) ⊎ (is_some (get_or askers x None) ≡ true)
  asked made askers wanted actor [] h x inside =
      inl (⊎_elim (λ e. sym (eqb-true actor x e) ∙ h.0) (λ none. absurd (both_ways false refl none)) (or_cases (actor == x) false inside))
  asked made askers wanted actor (a ∷ chain) h x inside = ⊎_elim
      (λ e. inr (ap (λ (y : ℕ). is_some (get_or askers y None)) (sym (eqb-true actor x e)) ∙ ap is_some h.0))
      (λ later. asked made askers wanted a chain h.3 x later)
      (or_cases (actor == x) (among x (a ∷ chain)) inside)

  -- the one at the end is in it
  ends : (made : List ℕ) (askers : List (Option ℕ)) (wanted actor : ℕ) (chain : List ℕ) → IsChain needs made askers wanted actor chain → among wanted (actor ∷ chain) ≡ true
  ends made askers wanted actor [] h = subst (λ (x : ℕ). among wanted (x ∷ []) ≡ true) (sym h.0) (first_among wanted [])
  ends made askers wanted actor (a ∷ chain) h = rest_among actor wanted (a ∷ chain) (ends made askers wanted a chain h.3)

  -- ---- steps

  pub search_start : (made : List ℕ) (askers : List (Option ℕ)) (wanted : ℕ) → NoneIsAsked askers → IsSearch needs made askers wanted wanted
  search_start made askers wanted none = record {
    chain = [];
    linked = (refl, none wanted);
    only = λ x some. absurd (none_is_some (get_or askers x None) (none x) some);
  }

  -- an actor is asked to go on
  pub search_asks : (made : List ℕ) (askers : List (Option ℕ)) (wanted actor : ℕ) (need : Need) → IsSearch needs made askers wanted actor → Lacks needs made actor need
      → need.actor < length askers → (need.actor ≡ wanted → ⊥) → get_or askers need.actor None ≡ None
      → IsSearch needs made (set askers need.actor (Some actor)) wanted need.actor
  search_asks made askers wanted actor need s lacks inside other free = record {
    chain = actor ∷ s.chain;
    linked = (
      get_or-set_same askers need.actor (Some actor) None inside,
      (need, lacks, refl),
      outside,
      chain_same made made askers (set askers need.actor (Some actor)) wanted actor s.chain (λ x h. (refl, apart x (λ e. both_ways (among need.actor (actor ∷ s.chain)) outside (subst (λ (y : ℕ). among y (actor ∷ s.chain) ≡ true) e h)))) s.linked,
    );
    only = λ x some. ⊎_elim
        (λ e. subst (λ (y : ℕ). among x (y ∷ actor ∷ s.chain) ≡ true) (sym e) (first_among x (actor ∷ s.chain)))
        (λ e. rest_among need.actor x (actor ∷ s.chain) (s.only x (ap is_some (sym (apart x (λ is. e (sym is)))) ∙ some)))
        (cases_eq need.actor x);
  }
    where
      apart : (x : ℕ) → (x ≡ need.actor → ⊥) → get_or (set askers need.actor (Some actor)) x None ≡ get_or askers x None
      apart x e = get_or-set_other askers need.actor x (Some actor) None e

      outside : among need.actor (actor ∷ s.chain) ≡ false
      outside = false_from_ne_true (among need.actor (actor ∷ s.chain)) (λ h. ⊎_elim other (λ some. none_is_some (get_or askers need.actor None) free some) (asked made askers wanted actor s.chain s.linked need.actor h))

  -- an actor's entry has its turn, and the one that asked for it goes on
  pub search_answers : (made : List ℕ) (askers : List (Option ℕ)) (wanted actor a n : ℕ) → IsSearch needs made askers wanted actor → get_or askers actor None ≡ Some a
      → IsSearch needs (set made actor n) (set askers actor None) wanted a
  search_answers made askers wanted actor a n s is = by_chain s.chain s.linked s.only
    where
      by_chain : (chain : List ℕ) → IsChain needs made askers wanted actor chain → ((x : ℕ) → is_some (get_or askers x None) ≡ true → among x (actor ∷ chain) ≡ true)
          → IsSearch needs (set made actor n) (set askers actor None) wanted a
      by_chain [] linked only = absurd (none_is_some (get_or askers actor None) linked.1 (ap is_some is))
      by_chain (b ∷ chain) linked only =
          let same : b ≡ a = cc in
          subst (λ (c : ℕ). IsSearch needs (set made actor n) (set askers actor None) wanted c) same (record {
            chain = chain;
            linked = chain_same made (set made actor n) askers (set askers actor None) wanted b chain
                (λ x h. let other : x ≡ actor → ⊥ = λ e. both_ways (among actor (b ∷ chain)) linked.2 (subst (λ (y : ℕ). among y (b ∷ chain) ≡ true) e h) in
                (get_or-set_other made actor x n 0 other, get_or-set_other askers actor x None None other))
                linked.3;
            only = λ x some. ⊎_elim
                (λ e. absurd (none_is_some (get_or (set askers actor None) x None) (ap (λ (y : ℕ). get_or (set askers actor None) y None) (sym e) ∙ none_there askers actor) some))
                (λ e. not_first actor x (b ∷ chain) e (only x (ap is_some (sym (get_or-set_other askers actor x None None (λ is. e (sym is)))) ∙ some)))
                (cases_eq actor x);
          })

  -- the one that asked has an entry to make
  pub search_asker : (made : List ℕ) (askers : List (Option ℕ)) (wanted actor a n : ℕ) → IsSearch needs made askers wanted actor → get_or askers actor None ≡ Some a
      → get_or (set made actor n) a 0 < length (entries_of needs a)
  search_asker made askers wanted actor a n s is = by_chain s.chain s.linked
    where
      by_chain : (chain : List ℕ) → IsChain needs made askers wanted actor chain → get_or (set made actor n) a 0 < length (entries_of needs a)
      by_chain [] linked = absurd (none_is_some (get_or askers actor None) linked.1 (ap is_some is))
      by_chain (b ∷ chain) linked =
          let same : b ≡ a = cc in
          let other : b ≡ actor → ⊥ = λ e. both_ways (b == actor) (or_parts (b == actor) (among actor chain) linked.2).0 (eq-eqb b actor e) in
          let inside = slice_get_within (entries_of needs b) (get_or made b 0) (Some linked.1.0) linked.1.1.next in
          subst (λ (c : ℕ). get_or (set made actor n) c 0 < length (entries_of needs c)) same
          (subst (λ (m : ℕ). m < length (entries_of needs b)) (sym (get_or-set_other made actor b n 0 other)) inside)

  -- the entry that was wanted has its turn, and no one is asked any more
  pub search_ends : (made : List ℕ) (askers : List (Option ℕ)) (wanted actor : ℕ) → IsSearch needs made askers wanted actor → get_or askers actor None ≡ None
      → (actor ≡ wanted) × NoneIsAsked (set askers actor None)
  search_ends made askers wanted actor s free = by_chain s.chain s.linked s.only
    where
      by_chain : (chain : List ℕ) → IsChain needs made askers wanted actor chain → ((x : ℕ) → is_some (get_or askers x None) ≡ true → among x (actor ∷ chain) ≡ true)
          → (actor ≡ wanted) × NoneIsAsked (set askers actor None)
      by_chain [] linked only = (
        linked.0,
        λ x. ⊎_elim
            (λ e. subst (λ (y : ℕ). get_or (set askers actor None) y None ≡ None) e (none_there askers actor))
            (λ e. get_or-set_other askers actor x None None (λ is. e (sym is))
            ∙ is_none (get_or askers x None) (λ some. both_ways false refl (not_first actor x [] e (only x some))))
            (cases_eq actor x),
      )
      by_chain (a ∷ chain) linked only = absurd (none_is_some (get_or askers actor None) free (ap is_some linked.0))

  -- ---- where a search is stuck

  -- one that was asked is not the one whose entry is wanted
  pub asked_apart : (made : List ℕ) (askers : List (Option ℕ)) (wanted actor a : ℕ) → IsSearch needs made askers wanted actor → get_or askers actor None ≡ Some a → actor ≡ wanted → ⊥
  asked_apart made askers wanted actor a s is same = by_chain s.chain s.linked
    where
      by_chain : (chain : List ℕ) → IsChain needs made askers wanted actor chain → ⊥
      by_chain [] linked = both_ways (is_some (get_or askers actor None)) (ap is_some linked.1) (ap is_some is)
      by_chain (b ∷ chain) linked =
          both_ways (among actor (b ∷ chain)) linked.2 (subst (λ (x : ℕ). among x (b ∷ chain) ≡ true) (sym same) (ends made askers wanted b chain linked.3))

  -- each that waits lacks an entry of one in the chain
  waits : (made : List ℕ) (askers : List (Option ℕ)) (wanted actor : ℕ) (chain : List ℕ) → IsChain needs made askers wanted actor chain
      → (x : ℕ) → among x chain ≡ true → (need : Need) × Lacks needs made x need × (among need.actor (actor ∷ chain) ≡ true)
  waits made askers wanted actor [] h x inside = absurd (both_ways false refl inside)
  waits made askers wanted actor (a ∷ chain) h x inside = ⊎_elim
      (λ e.
      let need = h.1.0 in (
        need,
        subst (λ (y : ℕ). Lacks needs made y need) (eqb-true a x e) h.1.1,
        subst (λ (y : ℕ). among need.actor (y ∷ a ∷ chain) ≡ true) h.1.2 (first_among need.actor (a ∷ chain)),
      ))
      (λ later.
      let w = waits made askers wanted a chain h.3 x later in
      (w.0, w.1, rest_among actor w.0.actor (a ∷ chain) w.2))
      (or_cases (a == x) (among x chain) inside)

  -- the entry that was wanted comes in no order
  pub most_stuck : (made : List ℕ) (askers : List (Option ℕ)) (wanted actor : ℕ) (need : Need) → IsSearch needs made askers wanted actor → Lacks needs made actor need
      → CannotCome needs askers wanted need → IsMost needs wanted (get_or made wanted 0)
  most_stuck made askers wanted actor need s lacks why = λ turns follow.
      subst (λ (n : ℕ). turns_of wanted turns ≤ n) (inside_limit wanted (ends made askers wanted actor s.chain s.linked)) (within_limit needs limit holds turns follow wanted)
    where
      all : List ℕ
      all = actor ∷ s.chain

      limit : ℕ → ℕ
      limit x = cond (among x all) (get_or made x 0) (length (entries_of needs x))

      -- what one in the chain lacks is past its limit
      far : (n : Need) → get_or made n.actor 0 ≤ n.entry → (among n.actor all ≡ true) ⊎ (length (entries_of needs n.actor) ≤ n.entry) → limit n.actor ≤ n.entry
      far n least either = cond_both (among n.actor all) (get_or made n.actor 0) (length (entries_of needs n.actor)) (λ m. m ≤ n.entry)
          (λ h. least)
          (λ h. ⊎_elim (λ inside. absurd (both_ways (among n.actor all) h inside)) (λ past. past) either)

      inside_limit : (x : ℕ) → among x all ≡ true → limit x ≡ get_or made x 0
      inside_limit x h = ap (λ (b : Bool). cond b (get_or made x 0) (length (entries_of needs x))) h

      held : (x : ℕ) (n : Need) → among x all ≡ true → Lacks needs made x n → (among n.actor all ≡ true) ⊎ (length (entries_of needs n.actor) ≤ n.entry) → Holds needs limit x
      held x n h l either = inr (n, ap (λ (m : ℕ). slice_get (entries_of needs x) m) (inside_limit x h) ∙ l.next, far n l.missing either)

      here : (among need.actor all ≡ true) ⊎ (length (entries_of needs need.actor) ≤ need.entry)
      here = ⊎_elim
          (λ past. inr past)
          (λ waiting. inl (⊎_elim
          (λ e. subst (λ (x : ℕ). among x all ≡ true) (sym e) (ends made askers wanted actor s.chain s.linked))
          (λ some. s.only need.actor some)
          waiting))
          why

      holds : (x : ℕ) → Holds needs limit x
      holds x = ⊎_elim
          (λ inside. ⊎_elim
          (λ e. let is = eqb-true actor x e in subst (λ (y : ℕ). Holds needs limit y) is (held actor need (first_among actor s.chain) lacks here))
          (λ later. let w = waits made askers wanted actor s.chain s.linked x later in held x w.0 inside w.1 (inl w.2))
          (or_cases (actor == x) (among x s.chain) inside))
          (λ outside.
          let is : limit x ≡ length (entries_of needs x) = ap (λ (b : Bool). cond b (get_or made x 0) (length (entries_of needs x))) outside in
          inl (omega arith))
          (cases_Bool (among x all))

-- ---- bounds

-- an actor with entries exists
pub exists : (needs : List (List (Option Need))) (a n : ℕ) → n < length (entries_of needs a) → a < length needs
exists [] a n h = absurd (omega arith)
exists (entries ∷ needs) zero n h = omega arith
exists (entries ∷ needs) (suc a) n h = let ih = exists needs a n h in omega arith

-- as many entries as an actor has can be counted
pub countable : (needs : List (Vec (Option Need) Global)) (a n : ℕ) → n < length (entries_of (map (λ actor. actor.items) needs) a) → n + 1 < 2 ^ 64
countable [] a n h = absurd (omega arith)
countable (entries ∷ needs) zero n h = omega (arith, entries.ok.0, entries.ok.1, entries.small)
countable (entries ∷ needs) (suc a) n h = countable needs a n h

-- ---- that it ends

-- the entries that have not had their turn
abbrev pub left : {A : Type 0} → List (List A) → List ℕ → ℕ
left [] made = 0
left (entries ∷ needs) [] = length entries + left needs []
left (entries ∷ needs) (n ∷ made) = (length entries - n) + left needs made

-- one that has its turn is one less
pub left_less : {A : Type 0} (needs : List (List A)) (made : List ℕ) (a : ℕ) → a < length made → get_or made a 0 < length (get_or needs a []) → left needs (set made a (get_or made a 0 + 1)) + 1 ≡ left needs made
left_less [] made a inside short = absurd (omega arith)
left_less (entries ∷ needs) [] a inside short = absurd (omega arith)
left_less (entries ∷ needs) (n ∷ made) zero inside short = omega arith
left_less (entries ∷ needs) (n ∷ made) (suc a) inside short = let ih = left_less needs made a (omega arith) short in omega arith

abbrev pub one_if_free : Option ℕ → ℕ
one_if_free o = cond (is_some o) 0 1

-- the actors that no one asked
abbrev pub free : List (Option ℕ) → ℕ
free askers = sum_by one_if_free askers

pub free_less : (askers : List (Option ℕ)) (a b : ℕ) → a < length askers → get_or askers a None ≡ None → free (set askers a (Some b)) + 1 ≡ free askers
free_less askers a b inside none =
    let changed = sum_by-set one_if_free askers a (Some b) None inside in
    let was = ap one_if_free none in
    omega arith

pub free_more : (askers : List (Option ℕ)) (a : ℕ) → a < length askers → free (set askers a None) ≤ free askers + 1
free_more askers a inside = let changed = sum_by-set one_if_free askers a None None inside in omega arith
