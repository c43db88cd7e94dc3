-- What one entry more changes of the words over the service's journal.
use Rattle.std.specs.Prelude.{Option, None, max, if◌then◌else◌}
use Rattle.std.specs.List.{list_any}
use Rattle.std.proofs.Common.{◌≡◌, ℕ, ◌≤◌, ◌<◌, ◌^◌, Bool, true, false, not, ◌&&◌, ◌||◌, cond, List, [], ◌∷◌, ◌++◌, refl, sym, ◌∙◌, ap, arith, append-nil, append_assoc}
use Rattle.std.proofs.lemmas.Bool.{and_parts, and_from, or_left}
use Rattle.mama_journal.specs.Journal.{turns, all_below}
use Rattle.mama_event.specs.Ports.{clients_of}
use Rattle.mama_event.specs.declared.ids.TimerId.{TimerId}
use Rattle.mama_event.specs.declared.shape.Shape.{Shape}
use Rattle.mama_rules_services.specs.Timers.{TimersEvent, arms, disarms, now, client_done, bye, fin, no_event, clock, moment_in, last_moment, terms_in, arms_timer, disarms_timer, ends_client, is_fin, has_ending, is_armed, is_live, due_step, due_along}
use Rattle.mama_timer.proofs.Lists.{list_any-push, all_below-agree, all_below-weaker}

pub clock-push : (es : List TimersEvent) (e : TimersEvent) → clock (es ++ e ∷ []) ≡ max (clock es) (moment_in e)
clock-push [] e = omega arith
clock-push (x ∷ es) e = ap (λ (n : ℕ). max (moment_in x) n) (clock-push es e) ∙ omega arith

moment-small : (e : TimersEvent) → moment_in e ≤ last_moment
moment-small (now moment) = omega arith
moment-small (arms timer queue interval tag) = omega arith
moment-small (disarms timer) = omega arith
moment-small (client_done c) = omega arith
moment-small (bye k) = omega arith
moment-small fin = omega arith
moment-small no_event = omega arith

pub clock-small : (es : List TimersEvent) → clock es < 2 ^ 63
clock-small [] = omega arith
clock-small (e ∷ es) = omega (arith, moment-small e, clock-small es)

armed_cases : (a b c : Bool) → not (b || c) ≡ (not b && not c)
armed_cases a true c = refl
armed_cases a false c = refl

first_armed : (b : Bool) → cond b (not false) false ≡ b
first_armed true = refl
first_armed false = refl

pub is_armed-push : (timer : TimerId) (es : List TimersEvent) (e : TimersEvent) →
    is_armed timer (es ++ e ∷ []) ≡ (if list_any (arms_timer timer) es then is_armed timer es && not (disarms_timer timer e) else arms_timer timer e)
is_armed-push timer [] e = first_armed (arms_timer timer e)
is_armed-push timer (x ∷ es) e = by_case (arms_timer timer x) (is_armed-push timer es e)
  where
    by_case : (b : Bool) → is_armed timer (es ++ e ∷ []) ≡ (if list_any (arms_timer timer) es then is_armed timer es && not (disarms_timer timer e) else arms_timer timer e) → cond b (not (list_any (disarms_timer timer) (es ++ e ∷ []))) (is_armed timer (es ++ e ∷ []))
        ≡ cond (b || list_any (arms_timer timer) es) (cond b (not (list_any (disarms_timer timer) es)) (is_armed timer es) && not (disarms_timer timer e)) (arms_timer timer e)
    by_case true rest = ap not (list_any-push (disarms_timer timer) es e) ∙ armed_cases true (list_any (disarms_timer timer) es) (disarms_timer timer e)
    by_case false rest = rest

due_after-push : (timer : TimerId) (before : List TimersEvent) (state : Option (ℕ × ℕ)) (es : List TimersEvent) (e : TimersEvent) →
    due_along timer before state (es ++ e ∷ []) ≡ due_step e (clock ((before ++ es) ++ e ∷ [])) (terms_in timer e) (due_along timer before state es)
due_after-push timer before state [] e = rw (append-nil before) refl
due_after-push timer before state (x ∷ es) e =
    due_after-push timer (before ++ x ∷ []) (due_step x (clock (before ++ x ∷ [])) (terms_in timer x) state) es e
    ∙ ap (λ (xs : List TimersEvent). due_step e (clock (xs ++ e ∷ [])) (terms_in timer e) (due_along timer (before ++ x ∷ []) (due_step x (clock (before ++ x ∷ [])) (terms_in timer x) state) es)) (append_assoc before (x ∷ []) es)

pub due_along-push : (timer : TimerId) (es : List TimersEvent) (e : TimersEvent) →
    due_along timer [] None (es ++ e ∷ []) ≡ due_step e (clock (es ++ e ∷ [])) (terms_in timer e) (due_along timer [] None es)
due_along-push timer es e = due_after-push timer [] None es e

-- an entry that is neither a client's last word nor the bridge's
pub record IsNoEnd (e : TimersEvent) : Type 0 where
  pub client : (c : ℕ) → ends_client c e ≡ false
  pub fin : is_fin e ≡ false

or_none : (b c : Bool) → c ≡ false → (b || c) ≡ b
or_none true c h = refl
or_none false c h = h

pub has_ending-still : (shape : Shape) (es : List TimersEvent) (e : TimersEvent) → IsNoEnd e → has_ending shape (es ++ e ∷ []) ≡ has_ending shape es
has_ending-still shape es e none =
    rw (
      all_below-agree (clients_of shape) (λ c. list_any (ends_client c) (es ++ e ∷ [])) (λ c. list_any (ends_client c) es) (λ c. list_any-push (ends_client c) es e ∙ or_none (list_any (ends_client c) es) (ends_client c e) (none.client c)),
      list_any-push is_fin es e ∙ or_none (list_any is_fin es) (is_fin e) none.fin,
    ) refl

pub has_ending-keeps : (shape : Shape) (es : List TimersEvent) (e : TimersEvent) → has_ending shape es ≡ true → has_ending shape (es ++ e ∷ []) ≡ true
has_ending-keeps shape es e h =
    let parts = and_parts (all_below (clients_of shape) (λ c. list_any (ends_client c) es)) (list_any is_fin es) h in
    and_from (all_below (clients_of shape) (λ c. list_any (ends_client c) (es ++ e ∷ []))) (list_any is_fin (es ++ e ∷ []))
    (all_below-weaker (clients_of shape) (λ c. list_any (ends_client c) es) (λ c. list_any (ends_client c) (es ++ e ∷ [])) (λ c k. list_any-push (ends_client c) es e ∙ or_left (list_any (ends_client c) es) (ends_client c e) k) parts.0)
    (list_any-push is_fin es e ∙ or_left (list_any is_fin es) (is_fin e) parts.1)

-- the ending does not come with such an entry
pub no_turn : (shape : Shape) (es : List TimersEvent) (e : TimersEvent) → IsNoEnd e → turns (has_ending shape) es e ≡ false
no_turn shape es e none = rw (has_ending-still shape es e none) (never (has_ending shape es))
  where
    never : (b : Bool) → (b && not b) ≡ false
    never true = refl
    never false = refl

-- a timer that is live was live before an entry that does not arm it
pub live_before : (shape : Shape) (timer : TimerId) (es : List TimersEvent) (e : TimersEvent) → list_any (arms_timer timer) es ≡ true
    → is_live shape timer (es ++ e ∷ []) ≡ true → is_live shape timer es ≡ true
live_before shape timer es e came live =
    let parts = and_parts (is_armed timer (es ++ e ∷ [])) (not (has_ending shape (es ++ e ∷ []))) live in
    let armed : (is_armed timer es && not (disarms_timer timer e)) ≡ true =
    sym (is_armed-push timer es e ∙ ap (λ (b : Bool). cond b (is_armed timer es && not (disarms_timer timer e)) (arms_timer timer e)) came) ∙ parts.0 in
    and_from (is_armed timer es) (not (has_ending shape es)) (and_parts (is_armed timer es) (not (disarms_timer timer e)) armed).0
    (back (has_ending shape es) (has_ending shape (es ++ e ∷ [])) (has_ending-keeps shape es e) parts.1)
  where
    back : (b c : Bool) → (b ≡ true → c ≡ true) → not c ≡ true → not b ≡ true
    back true c f h = ap not (sym (f refl)) ∙ h
    back false c f h = refl

-- a timer that is armed was armed by some entry
pub armed_came : (timer : TimerId) (es : List TimersEvent) → is_armed timer es ≡ true → list_any (arms_timer timer) es ≡ true
armed_came timer [] h = cc
armed_came timer (e ∷ es) h = by_case (arms_timer timer e) (armed_came timer es) h
  where
    by_case : (b : Bool) → (is_armed timer es ≡ true → list_any (arms_timer timer) es ≡ true) → cond b (not (list_any (disarms_timer timer) es)) (is_armed timer es) ≡ true → (b || list_any (arms_timer timer) es) ≡ true
    by_case true rest h = refl
    by_case false rest h = rest h
