-- Ports of which one puts one event more.
use Rattle.std.specs.List.{slice_get}
use Rattle.std.proofs.Common.{◌≡◌, ◌≢◌, ℕ, zero, suc, ◌==◌, ◌<◌, ◌≤◌, Bool, true, false, cond, List, [], ◌∷◌, ◌++◌, length, map, Some, Result, Ok, Err, IfOk, OnOk, OnErr, refl, sym, ◌∙◌, ap, subst, append-nil, append_assoc, arith, get_or}
use Rattle.std.proofs.Math.ListN.{set}
use Rattle.std.proofs.lemmas.Bool.{eqb-true, eqb-false, eq-eqb}
use Rattle.std.proofs.lemmas.Simd.{map-map}
use Rattle.mama_event.specs.declared.shape.Bounds.{Bounds}
use Rattle.mama_lane.specs.Values.{LaneValue, PortValue, after_put}
use Rattle.mama_posts_services.specs.Ports.{lanes_of, ids_of, place_of, IsPutting, ArePutting}
use Rattle.mama_posts_services.specs.Laying.{with_put, MayPut}

-- the port and the lane of one index belong together
pub lane_at : {N : Type 0} (n : ℕ) (ports : List (PortValue N)) (lanes : List LaneValue) (port : PortValue N) (lane : LaneValue) → lanes_of ports ≡ ids_of lanes → n < length ports
    → port ≡ get_or ports n port → lane ≡ get_or lanes n lane → port.lane ≡ lane.id
lane_at n [] lanes port lane same within is_port is_lane = absurd (omega arith)
lane_at n (p ∷ ps) [] port lane same within is_port is_lane = absurd (cc same)
lane_at {N} zero (p ∷ ps) (l ∷ ls) port lane same within is_port is_lane =
    let first : p.lane ≡ l.id = cc in
    ap (λ (q : PortValue N). q.lane) is_port ∙ first ∙ sym (ap (λ (m : LaneValue). m.id) is_lane)
lane_at (suc n) (p ∷ ps) (l ∷ ls) port lane same within is_port is_lane =
    let rest : lanes_of ps ≡ ids_of ls = cc in
    lane_at n ps ls port lane rest (omega arith) is_port is_lane

module _ {N : Type 0} where
  -- the port of an index after the put, and no port there
  pub set_put : (n : ℕ) (note : N) (ports : List (PortValue N)) (port : PortValue N) → n < length ports → port ≡ get_or ports n port → set ports n (after_put port note) ≡ with_put n note ports
  set_put n note [] port within is = refl
  set_put zero note (p ∷ ps) port within is = ap (λ (q : PortValue N). after_put q note ∷ ps) is
  set_put (suc n) note (p ∷ ps) port within is = ap (λ (qs : List (PortValue N)). p ∷ qs) (set_put n note ps port (omega arith) is)

  pub put_past : (n : ℕ) (note : N) (ports : List (PortValue N)) → length ports ≤ n → ports ≡ with_put n note ports
  put_past n note [] past = refl
  put_past zero note (p ∷ ps) past = absurd (omega arith)
  put_past (suc n) note (p ∷ ps) past = ap (λ (qs : List (PortValue N)). p ∷ qs) (put_past n note ps (omega arith))

  same_place : (k : ℕ) (note : N) (ports : List (PortValue N)) (new : PortValue N) → slice_get (with_put k note ports) k ≡ Some new
      → (port : PortValue N) × (slice_get ports k ≡ Some port) × (new ≡ after_put port note)
  same_place k note [] new at = absurd (cc at)
  same_place zero note (p ∷ ps) new at = let e : new ≡ after_put p note = cc in (p, refl, e)
  same_place (suc k) note (p ∷ ps) new at = same_place k note ps new at

  other_place : (n k : ℕ) (note : N) (ports : List (PortValue N)) → n ≢ k → slice_get (with_put n note ports) k ≡ slice_get ports k
  other_place n k note [] apart = refl
  other_place zero zero note (p ∷ ps) apart = absurd (apart refl)
  other_place zero (suc k) note (p ∷ ps) apart = refl
  other_place (suc n) zero note (p ∷ ps) apart = refl
  other_place (suc n) (suc k) note (p ∷ ps) apart = other_place n k note ps (λ e. apart (ap suc e))

  -- what the port of an index has put after the put
  pub put_at : (n k : ℕ) (note : N) (ports : List (PortValue N)) (new : PortValue N) → slice_get (with_put n note ports) k ≡ Some new
      → (port : PortValue N) × (slice_get ports k ≡ Some port) × (new ≡ record port { put = port.put ++ cond (n == k) (note ∷ []) [] })
  put_at n k note ports new at = by_case (n == k) refl
    where
      by_case : (b : Bool) → (n == k) ≡ b → (port : PortValue N) × (slice_get ports k ≡ Some port) × (new ≡ record port { put = port.put ++ cond (n == k) (note ∷ []) [] })
      by_case true is =
          let same : n ≡ k = eqb-true n k is in
          let here = same_place k note ports new (ap (λ (m : ℕ). slice_get (with_put m note ports) k) (sym same) ∙ at) in
          (here.0, here.1, here.2 ∙ ap (λ (b : Bool). record here.0 { put = here.0.put ++ cond b (note ∷ []) [] }) (sym is))
      by_case false is = (
        new,
        sym (other_place n k note ports (eqb-false n k is)) ∙ at,
        ap (λ (ns : List N). record new { put = ns }) (sym (append-nil new.put)) ∙ ap (λ (b : Bool). record new { put = new.put ++ cond b (note ∷ []) [] }) (sym is),
      )

  pub put_count : (n : ℕ) (note : N) (ports : List (PortValue N)) → length (with_put n note ports) ≡ length ports
  put_count n note [] = refl
  put_count zero note (p ∷ ps) = refl
  put_count (suc n) note (p ∷ ps) = ap suc (put_count n note ps)

  pub put_places : (n : ℕ) (note : N) (ports : List (PortValue N)) → map place_of (with_put n note ports) ≡ map place_of ports
  put_places n note [] = refl
  put_places zero note (p ∷ ps) = refl
  put_places (suc n) note (p ∷ ps) = ap (λ (qs : List (PortValue N)). place_of p ∷ qs) (put_places n note ps)

  -- the same ports are of the same lanes
  pub lanes_stay : (new old : List (PortValue N)) → map place_of new ≡ map place_of old → lanes_of new ≡ lanes_of old
  lanes_stay new old same =
      sym (map-map (λ (p : PortValue N). p.lane) place_of new) ∙ ap (map (λ (p : PortValue N). p.lane)) same ∙ map-map (λ (p : PortValue N). p.lane) place_of old

  module _ (bounds : Bounds) (number : ℕ) where
    -- what is left is less by what was put
    pub one_put : (left before put whole : List N) (port new : PortValue N) → left ≡ put ++ before → IsPutting bounds number left whole port → new ≡ record port { put = port.put ++ put }
        → IsPutting bounds number before whole new
    one_put left before put whole port new splits is same = record {
      bounds_are = ap (λ (p : PortValue N). p.bounds) same ∙ is.bounds_are;
      number_is = ap (λ (p : PortValue N). p.number) same ∙ is.number_is;
      put = ap (λ (p : PortValue N). p.put ++ before) same ∙ append_assoc port.put put before ∙ ap (λ (ns : List N). port.put ++ ns) (sym splits) ∙ is.put;
    }

    pub all_put : (count : ℕ) (left before whole : ℕ → List N) (n : ℕ) (note : N) (ports : List (PortValue N)) → ((k : ℕ) → left k ≡ cond (n == k) (note ∷ []) [] ++ before k)
        → ArePutting bounds number count left whole ports → ArePutting bounds number count before whole (with_put n note ports)
    all_put count left before whole n note ports splits are = record {
      count_is = put_count n note ports ∙ are.count_is;
      each = λ k new at. let old = put_at n k note ports new at in
          one_put (left k) (before k) (cond (n == k) (note ∷ []) []) (whole k) old.0 new (splits k) (are.each k old.0 old.1) old.2;
    }

    -- where nothing was left, the next puts are left, and are what there is more to put
    pub one_left : (left more whole wholes : List N) (port : PortValue N) → left ≡ [] → wholes ≡ whole ++ more → IsPutting bounds number left whole port → IsPutting bounds number more wholes port
    one_left left more whole wholes port none grows is = record {
      bounds_are = is.bounds_are;
      number_is = is.number_is;
      put = ap (λ (ns : List N). ns ++ more) (sym (append-nil port.put) ∙ ap (λ (ns : List N). port.put ++ ns) (sym none) ∙ is.put) ∙ sym grows;
    }

    pub all_left_more : (count : ℕ) (left more whole wholes : ℕ → List N) (ports : List (PortValue N)) → ((k : ℕ) → left k ≡ []) → ((k : ℕ) → wholes k ≡ whole k ++ more k)
        → ArePutting bounds number count left whole ports → ArePutting bounds number count more wholes ports
    all_left_more count left more whole wholes ports none grows are = record {
      count_is = are.count_is;
      each = λ k port at. one_left (left k) (more k) (whole k) (wholes k) port (none k) (grows k) (are.each k port at);
    }

    module _ (lawful : Bounds → ℕ → List N → Type 0) (prefix : (bounds : Bounds) (port : ℕ) (front back : List N) → lawful bounds port (front ++ back) → lawful bounds port front) where
      -- the first of what is left may be put
      pub one_may : (left before whole : List N) (note : N) (port : PortValue N) → left ≡ note ∷ before → IsPutting bounds number left whole port → lawful bounds number whole
          → lawful port.bounds port.number (port.put ++ note ∷ [])
      one_may left before whole note port splits is may =
          let list : whole ≡ (port.put ++ note ∷ []) ++ before = sym is.put ∙ ap (λ (ns : List N). port.put ++ ns) splits ∙ sym (append_assoc port.put (note ∷ []) before) in
          subst (λ (b : Bounds). lawful b port.number (port.put ++ note ∷ [])) (sym is.bounds_are)
          (subst (λ (n : ℕ). lawful bounds n (port.put ++ note ∷ [])) (sym is.number_is)
          (prefix bounds number (port.put ++ note ∷ []) before (subst (lawful bounds number) list may)))

      pub all_may : (count : ℕ) (left before whole : ℕ → List N) (n : ℕ) (note : N) (ports : List (PortValue N)) → ((k : ℕ) → left k ≡ cond (n == k) (note ∷ []) [] ++ before k)
          → ArePutting bounds number count left whole ports → ((k : ℕ) → lawful bounds number (whole k)) → MayPut lawful n note ports
      all_may count left before whole n note ports splits are may = λ port at.
          one_may (left n) (before n) (whole n) note port (splits n ∙ ap (λ (b : Bool). cond b (note ∷ []) [] ++ before n) (eq-eqb n n refl)) (are.each n port at) (may n)
