-- Which slots live timers hold.
use Rattle.std.specs.Prelude.{Option, None, Some, is_some}
use Rattle.std.specs.List.{list_any, flat_map, filter}
use Rattle.std.proofs.Common.{◌≡◌, ℕ, ◌<◌, ◌==◌, Bool, true, false, not, ◌&&◌, ◌||◌, cond, List, [], ◌∷◌, ◌++◌, refl, sym, ◌∙◌, ap, arith}
use Rattle.std.proofs.lemmas.Bool.{and_parts, both_ways, false_from_ne_true, eqb-true}
use Rattle.std.proofs.lemmas.Bool.Decides.{nat_tests}
use Rattle.mama_event.specs.Object.{same_timer}
use Rattle.mama_event.specs.declared.ids.TimerId.{TimerId}
use Rattle.mama_event.specs.declared.shape.Shape.{Shape}
use Rattle.mama_event.specs.declared.to_queue.QueueNote.{QueueNote}
use Rattle.mama_rules_services.specs.Timers.{TimersEvent, arms_timer, is_live, live_timers, comes_first, place_of, slot_on, free_slot}
use Rattle.mama_timer.specs.Stands.{stands_at, is_held}
use Rattle.mama_timer.proofs.Lists.{list_any-push, list_any-agree, list_any-flat_map, list_any-filter}
use Rattle.mama_timer.proofs.Orders.{same_timer-is, same_timer-itself}
use Rattle.mama_timer.proofs.Sorting.{any-in_order, any_members, any_never}
use Rattle.mama_slots.proofs.Least.{least_free-is, least_free-free}
use Rattle.mama_timer.proofs.Live.{all_armed, has-armed}

-- where timers stand: each that was armed has a place, and no two live ones have one place
pub record Facts (shape : Shape) (es : List TimersEvent) (sofar : List (ℕ × QueueNote)) : Type 0 where
  pub placed : (t : TimerId) → is_some (place_of t sofar) ≡ list_any (arms_timer t) es
  pub apart : (t u : TimerId) → is_live shape t es ≡ true → is_live shape u es ≡ true → place_of t sofar ≡ place_of u sofar → t ≡ u

-- ---- the slots in use

slot_at : (queue slot : ℕ) (place : Option (ℕ × ℕ)) → list_any (λ n. n == slot) (slot_on queue place) ≡ stands_at queue slot place
slot_at queue slot None = refl
slot_at queue slot (Some place) = by_case (place.0 == queue) (place.1 == slot)
  where
    by_case : (b c : Bool) → list_any (λ n. n == slot) (cond b (place.1 ∷ []) []) ≡ (b && (place.1 == slot))
    by_case true c = last (place.1 == slot)
      where
        last : (d : Bool) → (d || false) ≡ d
        last true = refl
        last false = refl
    by_case false c = refl

abbrev pub used_slots : Shape → List TimersEvent → List (ℕ × QueueNote) → ℕ → List ℕ
used_slots shape es sofar queue = flat_map (λ timer. slot_on queue (place_of timer sofar)) (live_timers shape es)

pub used-held : (shape : Shape) (es : List TimersEvent) (sofar : List (ℕ × QueueNote)) (queue slot : ℕ)
    → list_any (λ n. n == slot) (used_slots shape es sofar queue) ≡ is_held shape es sofar queue slot
used-held shape es sofar queue slot =
    list_any-flat_map (λ n. n == slot) (λ timer. slot_on queue (place_of timer sofar)) (live_timers shape es)
    ∙ list_any-agree (λ t. list_any (λ n. n == slot) (slot_on queue (place_of t sofar))) (λ t. stands_at queue slot (place_of t sofar)) (live_timers shape es) (λ t. slot_at queue slot (place_of t sofar))
    ∙ any-in_order comes_first (λ t. stands_at queue slot (place_of t sofar)) (filter (λ timer. is_live shape timer es) (all_armed es))
    ∙ list_any-filter (λ t. stands_at queue slot (place_of t sofar)) (λ timer. is_live shape timer es) (all_armed es)

-- the slot that the least free one is
pub free_slot-is : (shape : Shape) (es : List TimersEvent) (sofar : List (ℕ × QueueNote)) (queue slot : ℕ)
    → is_held shape es sofar queue slot ≡ false → ((k : ℕ) → k < slot → is_held shape es sofar queue k ≡ true) → free_slot shape es sofar queue ≡ slot
free_slot-is shape es sofar queue slot free below =
    least_free-is (used_slots shape es sofar queue) slot (used-held shape es sofar queue slot ∙ free) (λ k less. used-held shape es sofar queue k ∙ below k less)

pub free_slot-free : (shape : Shape) (es : List TimersEvent) (sofar : List (ℕ × QueueNote)) (queue : ℕ) → is_held shape es sofar queue (free_slot shape es sofar queue) ≡ false
free_slot-free shape es sofar queue = sym (used-held shape es sofar queue (free_slot shape es sofar queue)) ∙ least_free-free (used_slots shape es sofar queue)

-- ---- one entry more

-- an entry after which all timers that were armed are as live as before, and stand where they stood
pub held_same : (shape : Shape) (es es' : List TimersEvent) (sofar sofar' : List (ℕ × QueueNote)) → all_armed es' ≡ all_armed es
    → ((t : TimerId) → list_any (arms_timer t) es ≡ true → is_live shape t es' ≡ is_live shape t es)
    → ((t : TimerId) → list_any (arms_timer t) es ≡ true → place_of t sofar' ≡ place_of t sofar)
    → (queue slot : ℕ) → is_held shape es' sofar' queue slot ≡ is_held shape es sofar queue slot
held_same shape es es' sofar sofar' armed live place queue slot =
    ap (list_any (λ t. is_live shape t es' && stands_at queue slot (place_of t sofar'))) armed
    ∙ any_members (λ t. is_live shape t es' && stands_at queue slot (place_of t sofar')) (λ t. is_live shape t es && stands_at queue slot (place_of t sofar)) (all_armed es)
    (λ t member. let came : list_any (arms_timer t) es ≡ true = sym (has-armed t es) ∙ member in
    ap (λ (b : Bool). b && stands_at queue slot (place_of t sofar')) (live t came) ∙ ap (λ (o : Option (ℕ × ℕ)). is_live shape t es && stands_at queue slot o) (place t came))

flips : (queue slot of k : ℕ) → (queue == of && slot == k) ≡ (of == queue && k == slot)
flips queue slot of k = grind (arith, nat_tests)

-- a timer that was not armed takes a slot
pub held_armed : (shape : Shape) (es es' : List TimersEvent) (sofar sofar' : List (ℕ × QueueNote)) (u : TimerId) (queue slot : ℕ) → all_armed es' ≡ all_armed es ++ u ∷ []
    → ((t : TimerId) → list_any (arms_timer t) es ≡ true → is_live shape t es' ≡ is_live shape t es)
    → ((t : TimerId) → list_any (arms_timer t) es ≡ true → place_of t sofar' ≡ place_of t sofar)
    → is_live shape u es' ≡ true → place_of u sofar' ≡ Some (queue, slot)
    → (of k : ℕ) → is_held shape es' sofar' of k ≡ (is_held shape es sofar of k || (of == queue && k == slot))
held_armed shape es es' sofar sofar' u queue slot armed live place live_u place_u of k =
    let test : TimerId → Bool = λ t. is_live shape t es' && stands_at of k (place_of t sofar') in
    ap (list_any test) armed ∙ list_any-push test (all_armed es) u
    ∙ ap (λ (b : Bool). b || test u) (any_members test (λ t. is_live shape t es && stands_at of k (place_of t sofar)) (all_armed es)
    (λ t member. let came : list_any (arms_timer t) es ≡ true = sym (has-armed t es) ∙ member in
    ap (λ (b : Bool). b && stands_at of k (place_of t sofar')) (live t came) ∙ ap (λ (o : Option (ℕ × ℕ)). is_live shape t es && stands_at of k o) (place t came)))
    ∙ ap (λ (b : Bool). is_held shape es sofar of k || b)
    (ap (λ (b : Bool). b && stands_at of k (place_of u sofar')) live_u ∙ ap (stands_at of k) place_u ∙ flips queue slot of k)

stands-is : (queue slot : ℕ) (o : Option (ℕ × ℕ)) → stands_at queue slot o ≡ true → o ≡ Some (queue, slot)
stands-is queue slot None h = cc
stands-is queue slot (Some p) h =
    let parts = and_parts (p.0 == queue) (p.1 == slot) h in
    let a = eqb-true p.0 queue parts.0 in let b = eqb-true p.1 slot parts.1 in
    λ i. Some (a i, b i)

and_none : (a b : Bool) → b ≡ false → (a && b) ≡ false
and_none true b h = h
and_none false b h = refl

and_all : (a : Bool) → a ≡ (a && true)
and_all true = refl
and_all false = refl

left_out : (l same s : Bool) → same ≡ true → s ≡ false → ((l && not same) && s) ≡ (l && s)
left_out l same s e f = and_none (l && not same) s f ∙ sym (and_none l s f)

kept_in : (l same s : Bool) → same ≡ false → ((l && not same) && s) ≡ (l && s)
kept_in l same s e = ap (λ (b : Bool). (l && not b) && s) e ∙ ap (λ (b : Bool). b && s) (sym (and_all l))

one_less : (l s : TimerId → Bool) (u t : TimerId) → s u ≡ false → (b : Bool) → same_timer u t ≡ b → ((l t && not (same_timer u t)) && s t) ≡ (l t && s t)
one_less l s u t away true e = left_out (l t) (same_timer u t) (s t) e (ap s (sym (same_timer-is u t e)) ∙ away)
one_less l s u t away false e = kept_in (l t) (same_timer u t) (s t) e

-- the timers that pass two tests, without one
without_one : (l s : TimerId → Bool) (u : TimerId) (xs : List TimerId) (b : Bool) → (b ≡ true → (t : TimerId) → l t ≡ true → s t ≡ true → u ≡ t) → (b ≡ false → s u ≡ false)
    → list_any (λ t. (l t && not (same_timer u t)) && s t) xs ≡ (list_any (λ t. l t && s t) xs && not b)
without_one l s u xs true only away =
    any_never (λ t. (l t && not (same_timer u t)) && s t) xs (λ t member. false_from_ne_true ((l t && not (same_timer u t)) && s t) (λ h.
    let parts = and_parts (l t && not (same_timer u t)) (s t) h in
    let front = and_parts (l t) (not (same_timer u t)) parts.0 in
    let same : same_timer u t ≡ true = ap (λ (v : TimerId). same_timer u v) (sym (only refl t front.0 parts.1)) ∙ same_timer-itself u in
    both_ways (not (same_timer u t)) (ap not same) front.1))
    ∙ sym (and_none (list_any (λ t. l t && s t) xs) false refl)
without_one l s u xs false only away =
    any_members (λ t. (l t && not (same_timer u t)) && s t) (λ t. l t && s t) xs (λ t member. one_less l s u t (away refl) (same_timer u t) refl)
    ∙ and_all (list_any (λ t. l t && s t) xs)

-- a live timer lets its slot go
pub held_disarmed : (shape : Shape) (es es' : List TimersEvent) (sofar sofar' : List (ℕ × QueueNote)) (u : TimerId) (queue slot : ℕ) → all_armed es' ≡ all_armed es
    → ((t : TimerId) → list_any (arms_timer t) es ≡ true → is_live shape t es' ≡ (is_live shape t es && not (same_timer u t)))
    → ((t : TimerId) → list_any (arms_timer t) es ≡ true → place_of t sofar' ≡ place_of t sofar)
    → Facts shape es sofar → is_live shape u es ≡ true → place_of u sofar ≡ Some (queue, slot)
    → (of k : ℕ) → is_held shape es' sofar' of k ≡ (is_held shape es sofar of k && not (of == queue && k == slot))
held_disarmed shape es es' sofar sofar' u queue slot armed live place facts live_u place_u of k =
    let test : TimerId → Bool = λ t. is_live shape t es' && stands_at of k (place_of t sofar') in
    let mid : TimerId → Bool = λ t. (is_live shape t es && not (same_timer u t)) && stands_at of k (place_of t sofar) in
    ap (list_any test) armed
    ∙ any_members test mid (all_armed es) (λ t member. let came : list_any (arms_timer t) es ≡ true = sym (has-armed t es) ∙ member in
    ap (λ (b : Bool). b && stands_at of k (place_of t sofar')) (live t came) ∙ ap (λ (o : Option (ℕ × ℕ)). (is_live shape t es && not (same_timer u t)) && stands_at of k o) (place t came))
    ∙ without_one (λ t. is_live shape t es) (λ t. stands_at of k (place_of t sofar)) u (all_armed es) (of == queue && k == slot)
    (λ here t live_t stands. let parts = and_parts (of == queue) (k == slot) here in
    let q_is = eqb-true of queue parts.0 in let s_is = eqb-true k slot parts.1 in
    let spot : place_of t sofar ≡ Some (queue, slot) = stands-is of k (place_of t sofar) stands ∙ (λ i. Some (q_is i, s_is i)) in
    facts.apart u t live_u live_t (place_u ∙ sym spot))
    (λ elsewhere. ap (stands_at of k) place_u ∙ flips queue slot of k ∙ elsewhere)
