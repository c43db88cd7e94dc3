-- Which timers are live, where they stand, and which slots they hold.
use Rattle.std.specs.Prelude.{None, Some, is_some}
use Rattle.std.specs.List.{list_any, filter}
use Rattle.std.proofs.Common.{◌≡◌, ℕ, Bool, true, false, not, ◌&&◌, ◌||◌, cond, List, [], ◌∷◌, ◌++◌, refl, sym, ◌∙◌, ap, subst, append-nil}
use Rattle.std.proofs.lemmas.Bool.{and_parts, or_left}
use Rattle.std.proofs.lemmas.List.Folds.{list_any-append}
use Rattle.mama_journal.specs.Journal.{puts}
use Rattle.mama_event.specs.Object.{same_timer}
use Rattle.mama_event.specs.declared.ids.TimerId.{TimerId}
use Rattle.mama_event.specs.declared.shape.Shape.{Shape}
use Rattle.mama_rules_services.specs.Timers.{TimersEvent, arms, disarms, now, client_done, bye, fin, no_event, arms_timer, has_ending, is_armed, is_live, newly_armed, comes_first, live_timers}
use Rattle.mama_timer.proofs.Lists.{list_any-push}
use Rattle.mama_journal.specs.EntryLaws.{by_entries, puts-push}
use Rattle.mama_timer.proofs.Orders.{same_timer-is}
use Rattle.mama_timer.proofs.Pushes.{armed_came}
use Rattle.mama_timer.proofs.Sorting.{has, IsAscending, AreApart, comes_first-order, ascending-in_order, has-in_order, has-filter, apart-filter, apart-push}

-- ---- the timers that were armed

-- the timers that were armed, in order of their first arming
abbrev pub all_armed : List TimersEvent → List TimerId
all_armed es = puts newly_armed es

is_some_cond : (b : Bool) (p : ℕ × ℕ) → is_some (cond b (Some p) None) ≡ b
is_some_cond true p = refl
is_some_cond false p = refl

pub arms_timer-arms : (t u : TimerId) (queue interval : ℕ) (tag : _) → arms_timer t (arms u queue interval tag) ≡ same_timer u t
arms_timer-arms t u queue interval tag = is_some_cond (same_timer u t) (queue, interval)

none : (b : Bool) → b ≡ (b || false)
none true = refl
none false = refl

newly_has : (t : TimerId) (es : List TimersEvent) (e : TimersEvent) → (has t (newly_armed es e) || list_any (arms_timer t) es) ≡ (list_any (arms_timer t) es || arms_timer t e)
newly_has t es (arms u queue interval tag) = by_case (list_any (arms_timer u) es) refl ∙ ap (λ b. list_any (arms_timer t) es || b) (sym (arms_timer-arms t u queue interval tag))
  where
    or_swap : (a b : Bool) → ((a || false) || b) ≡ (b || a)
    or_swap true true = refl
    or_swap true false = refl
    or_swap false true = refl
    or_swap false false = refl

    known : (b : Bool) → same_timer u t ≡ b → list_any (arms_timer u) es ≡ true → list_any (arms_timer t) es ≡ (list_any (arms_timer t) es || b)
    known true s h = let is : list_any (arms_timer t) es ≡ true = ap (λ (v : TimerId). list_any (arms_timer v) es) (sym (same_timer-is u t s)) ∙ h in is ∙ sym (or_left (list_any (arms_timer t) es) true is)
    known false s h = or_false (list_any (arms_timer t) es)
      where
        or_false : (b : Bool) → b ≡ (b || false)
        or_false true = refl
        or_false false = refl

    by_case : (b : Bool) → list_any (arms_timer u) es ≡ b → (has t (cond b [] (u ∷ [])) || list_any (arms_timer t) es) ≡ (list_any (arms_timer t) es || same_timer u t)
    by_case true h = known (same_timer u t) refl h
    by_case false h = or_swap (same_timer u t) (list_any (arms_timer t) es)
newly_has t es (disarms u) = none (list_any (arms_timer t) es)
newly_has t es (now moment) = none (list_any (arms_timer t) es)
newly_has t es (client_done c) = none (list_any (arms_timer t) es)
newly_has t es (bye k) = none (list_any (arms_timer t) es)
newly_has t es fin = none (list_any (arms_timer t) es)
newly_has t es no_event = none (list_any (arms_timer t) es)

or_flip : (a b : Bool) → (a || b) ≡ (b || a)
or_flip true true = refl
or_flip true false = refl
or_flip false true = refl
or_flip false false = refl

pub has-armed : (t : TimerId) (es : List TimersEvent) → has t (all_armed es) ≡ list_any (arms_timer t) es
has-armed t es = by_entries (λ (xs : List TimersEvent). has t (all_armed xs) ≡ list_any (arms_timer t) xs) refl
    (λ xs e ih. ap (has t) (puts-push newly_armed xs e) ∙ list_any-append (λ r. same_timer r t) (all_armed xs) (newly_armed xs e)
    ∙ or_flip (has t (all_armed xs)) (has t (newly_armed xs e))
    ∙ ap (λ (b : Bool). has t (newly_armed xs e) || b) ih ∙ newly_has t xs e ∙ sym (list_any-push (arms_timer t) xs e)) es

apart_newly : (xs : List TimersEvent) (e : TimersEvent) → AreApart (all_armed xs) → AreApart (all_armed xs ++ newly_armed xs e)
apart_newly xs (arms u queue interval tag) ih = by_case (list_any (arms_timer u) xs) refl
  where
    by_case : (b : Bool) → list_any (arms_timer u) xs ≡ b → AreApart (all_armed xs ++ cond b [] (u ∷ []))
    by_case true h = subst AreApart (sym (append-nil (all_armed xs))) ih
    by_case false h = apart-push (all_armed xs) u ih (has-armed u xs ∙ h)
apart_newly xs (disarms u) ih = subst AreApart (sym (append-nil (all_armed xs))) ih
apart_newly xs (now moment) ih = subst AreApart (sym (append-nil (all_armed xs))) ih
apart_newly xs (client_done c) ih = subst AreApart (sym (append-nil (all_armed xs))) ih
apart_newly xs (bye k) ih = subst AreApart (sym (append-nil (all_armed xs))) ih
apart_newly xs fin ih = subst AreApart (sym (append-nil (all_armed xs))) ih
apart_newly xs no_event ih = subst AreApart (sym (append-nil (all_armed xs))) ih

pub apart-armed : (es : List TimersEvent) → AreApart (all_armed es)
apart-armed es = by_entries (λ (xs : List TimersEvent). AreApart (all_armed xs)) tt
    (λ xs e ih. subst AreApart (sym (puts-push newly_armed xs e)) (apart_newly xs e ih)) es

-- ---- the live timers

pub live_came : (shape : Shape) (t : TimerId) (es : List TimersEvent) → is_live shape t es ≡ true → list_any (arms_timer t) es ≡ true
live_came shape t es h = armed_came t es (and_parts (is_armed t es) (not (has_ending shape es)) h).0

pub has-live : (shape : Shape) (t : TimerId) (es : List TimersEvent) → has t (live_timers shape es) ≡ is_live shape t es
has-live shape t es =
    has-in_order comes_first t (filter (λ timer. is_live shape timer es) (all_armed es))
    ∙ has-filter (λ timer. is_live shape timer es) t (all_armed es)
    ∙ ap (λ (b : Bool). is_live shape t es && b) (has-armed t es)
    ∙ by_case (is_live shape t es) (live_came shape t es)
  where
    by_case : (b : Bool) → (b ≡ true → list_any (arms_timer t) es ≡ true) → (b && list_any (arms_timer t) es) ≡ b
    by_case true h = h refl
    by_case false h = refl

pub ascending-live : (shape : Shape) (es : List TimersEvent) → IsAscending comes_first (live_timers shape es)
ascending-live shape es = ascending-in_order comes_first comes_first-order (filter (λ timer. is_live shape timer es) (all_armed es))
    (apart-filter (λ timer. is_live shape timer es) (all_armed es) (apart-armed es))
