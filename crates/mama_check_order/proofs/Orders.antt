-- Lemmas on turns that may follow: how far each actor may come, and that so many turns may be made.
use Rattle.std.specs.Prelude.{slice_get}
use Rattle.std.proofs.Common.{◌≡◌, ℕ, zero, suc, ◌+◌, ◌<◌, ◌≤◌, ◌==◌, Bool, true, false, cond, List, [], ◌∷◌, ◌++◌, length, get_or, set, replicate, Option, None, Some, refl, sym, ◌∙◌, ap, subst, arith, ◌⊎◌, inl, ⊎_elim, append-nil, append_assoc, get_or-set_same, get_or-set_other}
use Rattle.std.proofs.lemmas.Bool.{cases_eq, cases_lt, eq-eqb, ne_eqb}
use Rattle.std.proofs.lemmas.Option.{slice_get_past}
use Rattle.mama_check_order.specs.Order.{turns_of, IsMet, MayCome, MayTakeTurn, MayFollow}
use Rattle.mama_check_order.specs.Search.{entries_of, IsReached, IsMetBy, IsReady, NoneIsAsked, GoesOn}
use Rattle.mama_check_order.specs.declared.order.Need.{Need}

-- ---- a turn more

either : (d b : Bool) (c : ℕ) → cond d (suc (cond b (suc c) c)) (cond b (suc c) c) ≡ cond b (suc (cond d (suc c) c)) (cond d (suc c) c)
either true true c = refl
either true false c = refl
either false true c = refl
either false false c = refl

pub turns_push : (a : ℕ) (ts : List ℕ) (x : ℕ) → turns_of a (ts ++ x ∷ []) ≡ cond (x == a) (suc (turns_of a ts)) (turns_of a ts)
turns_push a [] x = refl
turns_push a (t ∷ ts) x = ap (λ (n : ℕ). cond (t == a) (suc n) n) (turns_push a ts x) ∙ either (t == a) (x == a) (turns_of a ts)

pub follow_push : (needs : List (List (Option Need))) (before ts : List ℕ) (x : ℕ) → MayFollow needs before ts → MayTakeTurn needs (before ++ ts) x → MayFollow needs before (ts ++ x ∷ [])
follow_push needs before [] x follow may = (subst (λ (bs : List ℕ). MayTakeTurn needs bs x) (append-nil before) may, tt)
follow_push needs before (t ∷ ts) x follow may =
    (follow.0, follow_push needs (before ++ t ∷ []) ts x follow.1 (subst (λ (bs : List ℕ). MayTakeTurn needs bs x) (sym (append_assoc before (t ∷ []) ts)) may))

-- ---- how far each actor may come

-- From here on an actor may not go on while no other goes beyond its own limit: it has no more entries, or its next one
-- needs one past a limit.
abbrev pub Holds : List (List (Option Need)) → (ℕ → ℕ) → ℕ → Type 0
Holds needs limit a = (length (entries_of needs a) ≤ limit a) ⊎ ((need : Need) × (slice_get (entries_of needs a) (limit a) ≡ Some (Some need)) × (limit need.actor ≤ need.entry))

module _ (needs : List (List (Option Need))) (limit : ℕ → ℕ) (holds : (a : ℕ) → Holds needs limit a) where
  at_limit : (before : List ℕ) (x : ℕ) → ((a : ℕ) → turns_of a before ≤ limit a) → MayCome before (slice_get (entries_of needs x) (limit x)) → ⊥
  at_limit before x below may = ⊎_elim
      (λ past. subst (λ (o : Option (Option Need)). MayCome before o) (slice_get_past (entries_of needs x) (limit x) past) may)
      (λ stuck.
      let met : stuck.0.entry < turns_of stuck.0.actor before = subst (λ (o : Option (Option Need)). MayCome before o) stuck.1 may in
      let so_far = below stuck.0.actor in
      let least = stuck.2 in
      omega arith)
      (holds x)

  turn_below : (before : List ℕ) (x : ℕ) → ((a : ℕ) → turns_of a before ≤ limit a) → MayTakeTurn needs before x → turns_of x before < limit x
  turn_below before x below may = ⊎_elim
      (λ less. less)
      (λ past.
      let so_far = below x in
      let same : turns_of x before ≡ limit x = omega arith in
      absurd (at_limit before x below (subst (λ (n : ℕ). MayCome before (slice_get (entries_of needs x) n)) same may)))
      (cases_lt (turns_of x before) (limit x))

  one_more : (before : List ℕ) (x : ℕ) → ((a : ℕ) → turns_of a before ≤ limit a) → MayTakeTurn needs before x → (a : ℕ) → turns_of a (before ++ x ∷ []) ≤ limit a
  one_more before x below may a = ⊎_elim
      (λ same.
      let more = turns_push a before x ∙ ap (λ (b : Bool). cond b (suc (turns_of a before)) (turns_of a before)) (eq-eqb x a same) in
      let less = subst (λ (y : ℕ). turns_of y before < limit y) same (turn_below before x below may) in
      omega arith)
      (λ other.
      let more = turns_push a before x ∙ ap (λ (b : Bool). cond b (suc (turns_of a before)) (turns_of a before)) (ne_eqb x a other) in
      let so_far = below a in
      omega arith)
      (cases_eq x a)

  all_below : (before ts : List ℕ) → ((a : ℕ) → turns_of a before ≤ limit a) → MayFollow needs before ts → (a : ℕ) → turns_of a (before ++ ts) ≤ limit a
  all_below before [] below follow a = subst (λ (bs : List ℕ). turns_of a bs ≤ limit a) (sym (append-nil before)) (below a)
  all_below before (t ∷ ts) below follow a =
      subst (λ (bs : List ℕ). turns_of a bs ≤ limit a) (append_assoc before (t ∷ []) ts)
      (all_below (before ++ t ∷ []) ts (one_more before t below follow.0) follow.1 a)

  -- no actor goes beyond its limit
  pub within_limit : (turns : List ℕ) → MayFollow needs [] turns → (a : ℕ) → turns_of a turns ≤ limit a
  within_limit turns follow a = all_below [] turns (λ b. omega arith) follow a

-- ---- what was reached

-- no actor makes more entries than it has
pub reached_within : (needs : List (List (Option Need))) (made turns : List ℕ) → IsReached needs made turns → (a : ℕ) → get_or made a 0 ≤ length (entries_of needs a)
reached_within needs made turns r a =
    let most = within_limit needs (λ (x : ℕ). length (entries_of needs x)) (λ x. inl (omega arith)) turns r.follow a in
    let is = r.counts a in
    omega arith

met_by : (turns made : List ℕ) → ((a : ℕ) → turns_of a turns ≡ get_or made a 0) → (need : Option Need) → IsMetBy made need → IsMet turns need
met_by turns made counts None h = tt
met_by turns made counts (Some need) h = subst (λ (n : ℕ). need.entry < n) (sym (counts need.actor)) h

-- an entry that may have its turn has it
pub reached_more : (needs : List (List (Option Need))) (made turns : List ℕ) (actor : ℕ) → actor < length made → IsReached needs made turns → IsReady needs made actor
    → IsReached needs (set made actor (get_or made actor 0 + 1)) (turns ++ actor ∷ [])
reached_more needs made turns actor inside r ready = record {
  follow = follow_push needs [] turns actor r.follow
      (subst (λ (n : ℕ). MayCome turns (slice_get (entries_of needs actor) n)) (sym (r.counts actor))
      (subst (λ (o : Option (Option Need)). MayCome turns o) (sym ready.next) (met_by turns made r.counts ready.need ready.met)));
  counts = λ a. ⊎_elim
      (λ same.
      let more = turns_push a turns actor ∙ ap (λ (b : Bool). cond b (suc (turns_of a turns)) (turns_of a turns)) (eq-eqb actor a same) in
      let here = ap (λ (x : ℕ). get_or (set made actor (get_or made actor 0 + 1)) x 0) (sym same) ∙ get_or-set_same made actor (get_or made actor 0 + 1) 0 inside in
      let was = r.counts a in
      let which = ap (λ (x : ℕ). get_or made x 0) same in
      omega arith)
      (λ other.
      let more = turns_push a turns actor ∙ ap (λ (b : Bool). cond b (suc (turns_of a turns)) (turns_of a turns)) (ne_eqb actor a other) in
      let apart = get_or-set_other made actor a (get_or made actor 0 + 1) 0 (λ e. other (sym e)) in
      more ∙ r.counts a ∙ sym apart)
      (cases_eq actor a);
}

-- who makes an entry goes on, and so do all
pub goes_more : (old made : List ℕ) (actor : ℕ) → actor < length made → GoesOn old made → GoesOn old (set made actor (get_or made actor 0 + 1))
goes_more old made actor inside goes a = ⊎_elim
    (λ same.
    let here = ap (λ (x : ℕ). get_or (set made actor (get_or made actor 0 + 1)) x 0) (sym same) ∙ get_or-set_same made actor (get_or made actor 0 + 1) 0 inside in
    let was = ap (λ (x : ℕ). get_or made x 0) same in
    let before = goes a in
    omega arith)
    (λ other.
    let apart = get_or-set_other made actor a (get_or made actor 0 + 1) 0 (λ e. other (sym e)) in
    let before = goes a in
    omega arith)
    (cases_eq actor a)

same_everywhere : {X : Type 0} (n : ℕ) (x : X) (i : ℕ) → get_or (replicate n x) i x ≡ x
same_everywhere zero x i = refl
same_everywhere (suc n) x zero = refl
same_everywhere (suc n) x (suc i) = same_everywhere n x i

-- before any turn
pub reached_first : (needs : List (List (Option Need))) (n : ℕ) → IsReached needs (replicate n 0) []
reached_first needs n = record { follow = tt; counts = λ a. sym (same_everywhere n 0 a) }

pub none_first : (n : ℕ) → NoneIsAsked (replicate n None)
none_first n a = same_everywhere n None a
