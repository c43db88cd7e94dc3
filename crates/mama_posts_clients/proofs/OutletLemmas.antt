-- What two ports put, and what is left for them.
use Rattle.std.specs.Prelude.{Option, Some, IfSome}
use Rattle.std.specs.List.{flat_map}
use Rattle.std.proofs.Common.{◌≡◌, List, [], ◌∷◌, ◌++◌, map, refl, sym, ◌∙◌, ap, subst, append-nil, append_assoc}
use Rattle.std.proofs.lemmas.List.Concat.{flat_map-append}
use Rattle.mama_event.specs.declared.shape.Bounds.{Bounds}
use Rattle.mama_event.specs.declared.to_bridge.BridgeNote.{BridgeNote}
use Rattle.mama_event.specs.declared.to_timers.TimersNote.{TimersNote}
use Rattle.mama_event.specs.ToBridge as bridge
use Rattle.mama_event.specs.ToTimers as timers
use Rattle.mama_event.specs.Lawful.{IsLawful}
use Rattle.mama_event.specs.LawfulLaws.{IsLawful-prefix}
use Rattle.mama_lane.specs.Values.{PortValue}
use Rattle.mama_rules_queue.specs.Queue.{QueuePut, to_bridge, to_timers}
use Rattle.mama_rules_rounds.specs.Client.{bridge_part, timers_part}
use Rattle.mama_laws_allowed.specs.Allowed.{ArePutsLawful}
use Rattle.mama_posts_clients.specs.Outlets.{OutletsValue, with_put, after_puts, HasPut, MayPut}

-- a list of one put more, part by part
part_more : {N : Type 0} (part : QueuePut → List N) (put : List N) (x : QueuePut) (rest : List QueuePut)
    → (put ++ flat_map part (x ∷ [])) ++ flat_map part rest ≡ put ++ flat_map part (x ∷ rest)
part_more {N} part put x rest =
    append_assoc put (flat_map part (x ∷ [])) (flat_map part rest) ∙ ap (λ (ns : List N). put ++ ns) (sym (flat_map-append part (x ∷ []) rest))

-- ---- one event

pub put_on_bridge : (ports new : OutletsValue) (note : BridgeNote) → new.to_bridge ≡ record ports.to_bridge { put = ports.to_bridge.put ++ note ∷ [] } → new.to_timers ≡ ports.to_timers
    → new ≡ after_puts ports (to_bridge note ∷ [])
put_on_bridge ports new note is same =
    ap (λ (p : PortValue BridgeNote). let v : OutletsValue = record new { to_bridge = p } in v) is
    ∙ ap (λ (p : PortValue TimersNote). let v : OutletsValue = record { to_bridge = record ports.to_bridge { put = ports.to_bridge.put ++ note ∷ [] }; to_timers = p } in v) same
    ∙ ap (λ (ns : List TimersNote). with_put ports (ports.to_bridge.put ++ note ∷ []) ns) (sym (append-nil ports.to_timers.put))

pub put_on_timers : (ports new : OutletsValue) (note : TimersNote) → new.to_timers ≡ record ports.to_timers { put = ports.to_timers.put ++ note ∷ [] } → new.to_bridge ≡ ports.to_bridge
    → new ≡ after_puts ports (to_timers note ∷ [])
put_on_timers ports new note is same =
    ap (λ (p : PortValue TimersNote). let v : OutletsValue = record new { to_timers = p } in v) is
    ∙ ap (λ (p : PortValue BridgeNote). let v : OutletsValue = record { to_bridge = p; to_timers = record ports.to_timers { put = ports.to_timers.put ++ note ∷ [] } } in v) same
    ∙ ap (λ (ns : List BridgeNote). with_put ports ns (ports.to_timers.put ++ note ∷ [])) (sym (append-nil ports.to_bridge.put))

-- ---- what is left, one event after another: what was put and then what is left stays the same

module _ (old now : OutletsValue) (all left : List QueuePut) (same : after_puts now left ≡ after_puts old all) where
  pub same_bridge_lane : now.to_bridge.lane ≡ old.to_bridge.lane
  same_bridge_lane = ap (λ (p : OutletsValue). p.to_bridge.lane) same

  pub same_timers_lane : now.to_timers.lane ≡ old.to_timers.lane
  same_timers_lane = ap (λ (p : OutletsValue). p.to_timers.lane) same

  pub same_place : now ≡ with_put old now.to_bridge.put now.to_timers.put
  same_place = ap (λ (p : OutletsValue). with_put p now.to_bridge.put now.to_timers.put) same

  pub first_may : (x : QueuePut) (rest : List QueuePut) → left ≡ x ∷ rest → MayPut old all → MayPut now (x ∷ [])
  first_may x rest first may = record {
    to_bridge = IsLawful-prefix bridge.is_last (bridge.fits now.to_bridge.bounds) (now.to_bridge.put ++ flat_map bridge_part (x ∷ [])) (flat_map bridge_part rest)
        (subst (λ (b : Bounds). IsLawful bridge.is_last (bridge.fits b) ((now.to_bridge.put ++ flat_map bridge_part (x ∷ [])) ++ flat_map bridge_part rest))
        (ap (λ (p : OutletsValue). p.to_bridge.bounds) (sym same))
        (subst (IsLawful bridge.is_last (bridge.fits old.to_bridge.bounds))
        (ap (λ (p : OutletsValue). p.to_bridge.put) (sym same) ∙ ap (λ (xs : List QueuePut). now.to_bridge.put ++ flat_map bridge_part xs) first ∙ sym (part_more bridge_part now.to_bridge.put x rest))
        may.to_bridge));
    to_timers = IsLawful-prefix timers.is_last (timers.fits now.to_timers.bounds) (now.to_timers.put ++ flat_map timers_part (x ∷ [])) (flat_map timers_part rest)
        (subst (λ (b : Bounds). IsLawful timers.is_last (timers.fits b) ((now.to_timers.put ++ flat_map timers_part (x ∷ [])) ++ flat_map timers_part rest))
        (ap (λ (p : OutletsValue). p.to_timers.bounds) (sym same))
        (subst (IsLawful timers.is_last (timers.fits old.to_timers.bounds))
        (ap (λ (p : OutletsValue). p.to_timers.put) (sym same) ∙ ap (λ (xs : List QueuePut). now.to_timers.put ++ flat_map timers_part xs) first ∙ sym (part_more timers_part now.to_timers.put x rest))
        may.to_timers));
  }

  -- the first is put
  pub first_put : (x : QueuePut) (rest : List QueuePut) (new : OutletsValue) → left ≡ x ∷ rest → new ≡ after_puts now (x ∷ []) → after_puts new rest ≡ after_puts old all
  first_put x rest new first is =
      ap (λ (p : OutletsValue). after_puts p rest) is
      ∙ ap (λ (ns : List BridgeNote). with_put now ns ((now.to_timers.put ++ flat_map timers_part (x ∷ [])) ++ flat_map timers_part rest)) (part_more bridge_part now.to_bridge.put x rest)
      ∙ ap (λ (ns : List TimersNote). with_put now (now.to_bridge.put ++ flat_map bridge_part (x ∷ rest)) ns) (part_more timers_part now.to_timers.put x rest)
      ∙ ap (after_puts now) (sym first) ∙ same

  -- it is put back where it could not be put
  pub first_back : (x : QueuePut) (rest back : List QueuePut) (new : OutletsValue) → left ≡ x ∷ rest → back ≡ x ∷ rest → new ≡ now → after_puts new back ≡ after_puts old all
  first_back x rest back new first again is =
      ap (λ (p : OutletsValue). after_puts p back) is ∙ ap (after_puts now) (again ∙ sym first) ∙ same

  -- what is put and left is still of the whole, before what comes later
  pub has_put_still : (later whole : List QueuePut) → HasPut old (all ++ later) whole → HasPut now (left ++ later) whole
  has_put_still later whole has = record {
    to_bridge = still bridge_part now.to_bridge.put old.to_bridge.put (flat_map bridge_part whole) (ap (λ (p : OutletsValue). p.to_bridge.put) same) has.to_bridge;
    to_timers = still timers_part now.to_timers.put old.to_timers.put (flat_map timers_part whole) (ap (λ (p : OutletsValue). p.to_timers.put) same) has.to_timers;
  }
    where
      still : {N : Type 0} (part : QueuePut → List N) (on before is : List N) → on ++ flat_map part left ≡ before ++ flat_map part all → before ++ flat_map part (all ++ later) ≡ is
          → on ++ flat_map part (left ++ later) ≡ is
      still {N} part on before is e h =
          ap (λ (ns : List N). on ++ ns) (flat_map-append part left later) ∙ sym (append_assoc on (flat_map part left) (flat_map part later))
          ∙ ap (λ (ns : List N). ns ++ flat_map part later) e
          ∙ append_assoc before (flat_map part all) (flat_map part later) ∙ ap (λ (ns : List N). before ++ ns) (sym (flat_map-append part all later)) ∙ h

-- what is left may be put, where the whole may be
pub may_put : (ports : OutletsValue) (left later whole : List QueuePut) → HasPut ports (left ++ later) whole
    → ArePutsLawful ports.to_bridge.bounds whole → ArePutsLawful ports.to_timers.bounds whole → MayPut ports left
may_put ports left later whole has on_bridge on_timers = record {
  to_bridge = IsLawful-prefix bridge.is_last (bridge.fits ports.to_bridge.bounds) (ports.to_bridge.put ++ flat_map bridge_part left) (flat_map bridge_part later)
      (subst (IsLawful bridge.is_last (bridge.fits ports.to_bridge.bounds)) (parts bridge_part ports.to_bridge.put (flat_map bridge_part whole) has.to_bridge) on_bridge.to_bridge);
  to_timers = IsLawful-prefix timers.is_last (timers.fits ports.to_timers.bounds) (ports.to_timers.put ++ flat_map timers_part left) (flat_map timers_part later)
      (subst (IsLawful timers.is_last (timers.fits ports.to_timers.bounds)) (parts timers_part ports.to_timers.put (flat_map timers_part whole) has.to_timers) on_timers.to_timers);
}
  where
    parts : {N : Type 0} (part : QueuePut → List N) (put is : List N) → put ++ flat_map part (left ++ later) ≡ is → is ≡ (put ++ flat_map part left) ++ flat_map part later
    parts {N} part put is h =
        sym h ∙ ap (λ (ns : List N). put ++ ns) (flat_map-append part left later) ∙ sym (append_assoc put (flat_map part left) (flat_map part later))

-- what is left where nothing was: some puts more of the whole
pub has_put_more : (old new : OutletsValue) (was left later whole : List QueuePut) → HasPut old (was ++ (left ++ later)) whole → was ≡ [] → new ≡ old → HasPut new (left ++ later) whole
has_put_more old new was left later whole has none same =
    subst (λ (p : OutletsValue). HasPut p (left ++ later) whole) (sym same)
    (subst (λ (xs : List QueuePut). HasPut old (xs ++ (left ++ later)) whole) none has)

pub has_put_with_none : (ports : OutletsValue) (left whole : List QueuePut) → HasPut ports left whole → HasPut ports (left ++ []) whole
has_put_with_none ports left whole has = subst (λ (xs : List QueuePut). HasPut ports xs whole) (sym (append-nil left)) has

pub has_put_without : (ports : OutletsValue) (left whole : List QueuePut) → HasPut ports (left ++ []) whole → HasPut ports left whole
has_put_without ports left whole has = subst (λ (xs : List QueuePut). HasPut ports xs whole) (append-nil left) has

-- the first of what is left, where it was found
pub first_found : {E : Type 0} (note : E → QueuePut) (found : Option E) (x : E) (left rest : List QueuePut) → found ≡ Some x → IfSome found (λ (e : E). left ≡ note e ∷ rest) → left ≡ note x ∷ rest
first_found {E} note found x left rest is h = subst (λ (o : Option E). IfSome o (λ (e : E). left ≡ note e ∷ rest)) is h

-- ---- what is left, and then a wish

after_append : (ports : OutletsValue) (xs ys : List QueuePut) → after_puts ports (xs ++ ys) ≡ after_puts (after_puts ports xs) ys
after_append ports xs ys =
    ap (λ (ns : List BridgeNote). with_put ports ns (ports.to_timers.put ++ flat_map timers_part (xs ++ ys))) (parts bridge_part ports.to_bridge.put)
    ∙ ap (λ (ns : List TimersNote). with_put ports ((ports.to_bridge.put ++ flat_map bridge_part xs) ++ flat_map bridge_part ys) ns) (parts timers_part ports.to_timers.put)
  where
    parts : {N : Type 0} (part : QueuePut → List N) (put : List N) → put ++ flat_map part (xs ++ ys) ≡ (put ++ flat_map part xs) ++ flat_map part ys
    parts {N} part put = ap (λ (ns : List N). put ++ ns) (flat_map-append part xs ys) ∙ sym (append_assoc put (flat_map part xs) (flat_map part ys))

pub after_both : (old now : OutletsValue) (all left later : List QueuePut) → after_puts now left ≡ after_puts old all → after_puts now (left ++ later) ≡ after_puts old (all ++ later)
after_both old now all left later same =
    after_append now left later ∙ ap (λ (p : OutletsValue). after_puts p later) same ∙ sym (after_append old all later)

-- the first of what may be put may be put
pub may_front : (ports : OutletsValue) (left later : List QueuePut) → MayPut ports (left ++ later) → MayPut ports left
may_front ports left later may = record {
  to_bridge = IsLawful-prefix bridge.is_last (bridge.fits ports.to_bridge.bounds) (ports.to_bridge.put ++ flat_map bridge_part left) (flat_map bridge_part later)
      (subst (IsLawful bridge.is_last (bridge.fits ports.to_bridge.bounds)) (ap (λ (p : OutletsValue). p.to_bridge.put) (after_append ports left later)) may.to_bridge);
  to_timers = IsLawful-prefix timers.is_last (timers.fits ports.to_timers.bounds) (ports.to_timers.put ++ flat_map timers_part left) (flat_map timers_part later)
      (subst (IsLawful timers.is_last (timers.fits ports.to_timers.bounds)) (ap (λ (p : OutletsValue). p.to_timers.put) (after_append ports left later)) may.to_timers);
}

-- the rest may be put where as much was put
pub may_same : (old now : OutletsValue) (all left : List QueuePut) → after_puts now left ≡ after_puts old all → MayPut old all → MayPut now left
may_same old now all left same may = record {
  to_bridge = subst (λ (p : OutletsValue). IsLawful bridge.is_last (bridge.fits p.to_bridge.bounds) p.to_bridge.put) (sym same) may.to_bridge;
  to_timers = subst (λ (p : OutletsValue). IsLawful timers.is_last (timers.fits p.to_timers.bounds) p.to_timers.put) (sym same) may.to_timers;
}

-- where nothing is left of the first, the rest is left
pub rest_left : (left later : List QueuePut) → left ≡ [] → left ++ later ≡ later
rest_left left later none = ap (λ (xs : List QueuePut). xs ++ later) none

-- what ends in something is something
pub never_none : (xs : List QueuePut) (x : QueuePut) → xs ++ x ∷ [] ≡ [] → ⊥
never_none [] x e = cc
never_none (y ∷ ys) x e = cc

pub front_stuck : (xs ys : List QueuePut) → (xs ≡ [] → ⊥) → xs ++ ys ≡ [] → ⊥
front_stuck [] ys some e = some refl
front_stuck (x ∷ xs) ys some e = cc

-- nothing is noted of nothing alone
pub none_of : {A : Type 0} (f : A → QueuePut) (xs : List A) → map f xs ≡ [] → xs ≡ []
none_of f [] h = refl
none_of f (x ∷ xs) h = absurd (cc h)

-- what is first was put, and then what is later
pub all_same : (old now : OutletsValue) (all left later : List QueuePut) → after_puts now left ≡ after_puts old all → left ≡ [] → after_puts now later ≡ after_puts old (all ++ later)
all_same old now all left later same none = ap (after_puts now) (sym (rest_left left later none)) ∙ after_both old now all left later same

pub later_may : (old now : OutletsValue) (all left later : List QueuePut) → after_puts now left ≡ after_puts old all → left ≡ [] → MayPut old (all ++ later) → MayPut now later
later_may old now all left later same none may = may_same old now (all ++ later) later (all_same old now all left later same none) may

pub all_put : (old now new : OutletsValue) (all left later rest : List QueuePut) → after_puts now left ≡ after_puts old all → left ≡ [] → after_puts new rest ≡ after_puts now later
    → after_puts new (left ++ rest) ≡ after_puts old (all ++ later)
all_put old now new all left later rest same none rest_same = ap (after_puts new) (rest_left left rest none) ∙ rest_same ∙ all_same old now all left later same none
