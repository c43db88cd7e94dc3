-- Ports of a lane from a number on, counted from either end.
use Rattle.std.specs.Prelude.{◌≡◌, ℕ, ◌+◌, zero, suc, List, [], ◌∷◌, ◌++◌, length, take, drop}
use Rattle.std.proofs.Common.{refl, ◌∙◌, ap, sym, arith}
use Rattle.std.proofs.Math.Seq.{take-append_seam, drop-append_seam}
use Rattle.mama_lane.specs.Values.{LaneValue, PortValue, new_port, new_ports}
use Rattle.std.specs.List.{All}
use Rattle.std.proofs.Common.{subst}
use Rattle.std.proofs.lemmas.List.Elements.{All-append, All-cons, All-nil}
use Rattle.mama_event.specs.declared.shape.Bounds.{Bounds}
use Rattle.mama_hall.specs.Ends.{ports_from, IsLaneOf}

module _ (N : Type 0) (lane : LaneValue) where
  -- one port more at the end
  ports_snoc : (first n : ℕ) → ports_from {N = N} lane first (suc n) ≡ ports_from lane first n ++ new_port lane (first + n) ∷ []
  ports_snoc first zero =
      let same : first ≡ first + 0 = omega arith in
      ap (λ (k : ℕ). new_port {N = N} lane k ∷ []) same
  ports_snoc first (suc n) =
      let same : suc first + n ≡ first + suc n = omega arith in
      ap (λ (ports : List (PortValue N)). new_port lane first ∷ ports) (ports_snoc (suc first) n)
      ∙ ap (λ (k : ℕ). new_port {N = N} lane first ∷ (ports_from lane (suc first) n ++ new_port lane k ∷ [])) same

  -- the first ports of a lane are those from 0 on
  counted : (n : ℕ) → new_ports {N = N} lane n ≡ ports_from lane 0 n
  counted zero = refl
  counted (suc n) =
      let same : n ≡ 0 + n = omega arith in
      ap (λ (ports : List (PortValue N)). ports ++ new_port lane n ∷ []) (counted n)
      ∙ (ap (λ (k : ℕ). ports_from {N = N} lane 0 n ++ new_port lane k ∷ []) same ∙ sym (ports_snoc 0 n))

  ports_length : (first n : ℕ) → length (ports_from {N = N} lane first n) ≡ n
  ports_length first zero = refl
  ports_length first (suc n) = ap suc (ports_length (suc first) n)

  -- some ports, and then some more
  ports_append : (first m n : ℕ) → ports_from {N = N} lane first (m + n) ≡ ports_from lane first m ++ ports_from lane (first + m) n
  ports_append first zero n =
      let none : 0 + n ≡ n = omega arith in
      let same : first ≡ first + 0 = omega arith in
      ap (ports_from {N = N} lane first) none ∙ ap (λ (k : ℕ). ports_from {N = N} lane k n) same
  ports_append first (suc m) n =
      let more : suc m + n ≡ suc (m + n) = omega arith in
      let same : suc first + m ≡ first + suc m = omega arith in
      ap (ports_from {N = N} lane first) more
      ∙ (ap (λ (ports : List (PortValue N)). new_port lane first ∷ ports) (ports_append (suc first) m n)
      ∙ ap (λ (k : ℕ). new_port {N = N} lane first ∷ (ports_from lane (suc first) m ++ ports_from lane k n)) same)

  -- the ports before a number, and those from it on
  before : (m n : ℕ) → take m (ports_from {N = N} lane 0 (m + n)) ≡ ports_from lane 0 m
  before m n =
      let front = ports_from {N = N} lane 0 m in
      let back = ports_from {N = N} lane (0 + m) n in
      ap (take m) (ports_append 0 m n) ∙ (ap (λ (k : ℕ). take k (front ++ back)) (sym (ports_length 0 m)) ∙ take-append_seam front back)

  after : (m n : ℕ) → drop m (ports_from {N = N} lane 0 (m + n)) ≡ ports_from lane m n
  after m n =
      let front = ports_from {N = N} lane 0 m in
      let back = ports_from {N = N} lane (0 + m) n in
      let same : 0 + m ≡ m = omega arith in
      ap (drop m) (ports_append 0 m n) ∙ (ap (λ (k : ℕ). drop k (front ++ back)) (sym (ports_length 0 m))
      ∙ (drop-append_seam front back ∙ ap (λ (k : ℕ). ports_from {N = N} lane k n) same))

pub new_ports_count : {N : Type 0} (lane : LaneValue) (n : ℕ) → new_ports {N = N} lane n ≡ ports_from lane 0 n
new_ports_count {N} lane n = counted N lane n

pub ports_count : {N : Type 0} (lane : LaneValue) (ports : List (PortValue N)) (m n : ℕ) → ports ≡ ports_from lane 0 (m + n) → length ports ≡ m + n
ports_count {N} lane ports m n is = ap length is ∙ ports_length N lane 0 (m + n)

pub ports_before : {N : Type 0} (lane : LaneValue) (m n : ℕ) → take m (ports_from {N = N} lane 0 (m + n)) ≡ ports_from lane 0 m
ports_before {N} lane m n = before N lane m n

pub ports_after : {N : Type 0} (lane : LaneValue) (m n : ℕ) → drop m (ports_from {N = N} lane 0 (m + n)) ≡ ports_from lane m n
ports_after {N} lane m n = after N lane m n

-- a lane more
pub lanes_more : (bounds : Bounds) (ports : ℕ) (old new : List LaneValue) (lane : LaneValue) → new ≡ old ++ lane ∷ [] → All (IsLaneOf bounds ports) old → IsLaneOf bounds ports lane → All (IsLaneOf bounds ports) new
lanes_more bounds ports old new lane is all one =
    subst (All (IsLaneOf bounds ports)) (sym is) (All-append (IsLaneOf bounds ports) old (lane ∷ []) all (All-cons (IsLaneOf bounds ports) lane [] one (All-nil (IsLaneOf bounds ports))))
