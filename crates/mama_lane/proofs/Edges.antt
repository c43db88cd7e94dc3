-- What was taken of a port that was joined is an edge of the lane.
use Rattle.std.proofs.Common.{◌≡◌, ℕ, Bool, true, false, ◌||◌, List, [], ◌∷◌, ◌++◌, map, sym, refl, ap, ◌∙◌, subst, append_assoc, append-nil}
use Rattle.std.proofs.lemmas.List.Elements.{All-from_recursion}
use Rattle.std.specs.List.{All, AllByRecursion, list_any}
use base.Growing.{prefix_trans}
use mathlib.Core.List.{IsPrefix}
use Rattle.mama_event.specs.declared.shape.Bounds.{Bounds}
use Rattle.mama_journal.specs.Lane.{by_port, IsEdge}
use Rattle.mama_lane.specs.declared.view.View.{View}
use Rattle.mama_lane.specs.Steps.{with_ended}
use Rattle.mama_lane.specs.Values.{PortValue}
use Rattle.mama_lane.proofs.Lists.{by_port-append}

module _ {N : Type 0} (last : N → Bool) where
  -- where the list has a last event, it stands in it
  pub record HasLast (xs : List N) : Type 0 where
    pub front : List N
    pub note : N
    pub back : List N
    pub parts : xs ≡ front ++ note ∷ back
    pub is_last : last note ≡ true

  has_last : (xs : List N) → list_any last xs ≡ true → HasLast xs
  has_last [] e = let f : false ≡ true = e in absurd (cc)
  has_last (x ∷ xs) e =
      let P : Bool → Type 0 = λ b. last x ≡ b → (b || list_any last xs) ≡ true → HasLast (x ∷ xs) in
      (elim (last x) as P [
        | true ↦ λ here _. record { front = []; note = x; back = xs; parts = refl; is_last = here }
        | false ↦ λ _ later. let h = has_last xs later in record { front = x ∷ h.front; note = h.note; back = h.back; parts = ap (λ (l : List N). x ∷ l) h.parts; is_last = h.is_last }
      ]) refl e

  module _ (lawful : Bounds → ℕ → List N → Type 0) (end : (b : Bounds) (p : ℕ) (front : List N) (note : N) (back : List N) → lawful b p (front ++ note ∷ back) → last note ≡ true → back ≡ []) where
    -- nothing follows a last event
    whole : (b : Bounds) (p : ℕ) (taken rest put : List N) → taken ++ rest ≡ put → lawful b p put → HasLast taken → taken ≡ put
    whole b p taken rest put e may h =
        let parts : put ≡ h.front ++ h.note ∷ (h.back ++ rest) = sym e ∙ (ap (λ (l : List N). l ++ rest) h.parts ∙ append_assoc h.front (h.note ∷ h.back) rest) in
        let none : h.back ++ rest ≡ [] = end b p h.front h.note (h.back ++ rest) (subst (lawful b p) parts may) h.is_last in
        sym (append-nil taken) ∙ (ap (λ (l : List N). taken ++ l) (sym (no_rest h.back rest none)) ∙ e)
      where
        no_rest : (xs ys : List N) → xs ++ ys ≡ [] → ys ≡ []
        no_rest [] ys e = e
        no_rest (x ∷ xs) ys e = cc

    edge : (b : Bounds) (p : ℕ) (taken put : List N) → IsPrefix taken put → lawful b p put → IsEdge last taken put
    edge b p taken put begins may = record { rest = begins.0; prefix = begins.1; whole = λ e. whole b p taken begins.0 put begins.1 may (has_last taken e) }

    -- what was taken of each port begins what it put, and so does what of it was not taken ahead
    front_begins : (p : ℕ) (front back : List (ℕ × N)) (put : List N) → IsPrefix (by_port p (front ++ back)) put → IsPrefix (by_port p front) put
    front_begins p front back put h = prefix_trans _ _ _ (by_port p back, sym (by_port-append p front back)) h

    each_edge : (b : Bounds) (front back : List (ℕ × N)) (ports : List (PortValue N))
        → AllByRecursion (λ (c : ℕ × List N). IsPrefix (by_port c.0 (front ++ back)) c.1 × lawful b c.0 c.1) (map (λ (p : PortValue N). (p.number, p.put)) ports) → AllByRecursion (λ (p : PortValue N). IsEdge last (by_port p.number front) p.put) ports
    each_edge b front back [] h = tt
    each_edge b front back (p ∷ ps) h = (edge b p.number (by_port p.number front) p.put (front_begins p.number front back p.put h.0.0) h.0.1, each_edge b front back ps h.1)

    -- what the taker, which had taken in no port before, learns of the ports that it took in
    pub are_edges : (v w : View N) (front back : List (ℕ × N)) (ports : List (PortValue N)) → v.taken ≡ front ++ back → w ≡ with_ended v ports → v.closed ≡ []
        → AllByRecursion (λ (c : ℕ × List N). IsPrefix (by_port c.0 w.taken) c.1 × lawful w.bounds c.0 c.1) w.closed
        → All (λ (p : PortValue N). IsEdge last (by_port p.number front) p.put) ports
    are_edges v w front back ports parts is none h =
        let Begun : View N → Type 0 = λ u. AllByRecursion (λ (c : ℕ × List N). IsPrefix (by_port c.0 u.taken) c.1 × lawful u.bounds c.0 c.1) u.closed in
        let Closed : List (ℕ × List N) × List (ℕ × N) → Type 0 = λ l. AllByRecursion (λ (c : ℕ × List N). IsPrefix (by_port c.0 l.1) c.1 × lawful v.bounds c.0 c.1) (l.0 ++ map (λ (p : PortValue N). (p.number, p.put)) ports) in
        All-from_recursion _ ports (each_edge v.bounds front back ports (subst Closed (λ k. (none k, parts k)) (subst Begun is h)))
