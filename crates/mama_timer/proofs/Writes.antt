-- What one firing more writes down.
use Rattle.std.specs.Prelude.{Option, if◌then◌else◌}
use Rattle.std.specs.List.{list_any}
use Rattle.std.specs.Ordering.{is_eq}
use Rattle.std.specs.BTreeMap.{is_at}
use Rattle.std.proofs.lemmas.Cmp.{eq_by_cmp_equiv}
use Rattle.std.proofs.lemmas.List.Folds.{list_any_more}
use Rattle.mama_timer.specs.Order.{due_cmp}
use Rattle.mama_timer.proofs.Orders.{due_cmp_total, due_tied}
use Rattle.std.proofs.Common.{◌≡◌, ◌||◌, cond, ℕ, ◌+◌, ◌<◌, Bool, true, false, List, [], ◌∷◌, ◌++◌, length, take, get_or, refl, sym, ap, ◌∙◌}
use Rattle.std.specs.Option.{option_map}
use Rattle.std.proofs.lemmas.List.{take_more}
use Rattle.std.proofs.lemmas.Bool.{both_ways}
use Rattle.mama_event.specs.declared.ids.TimerId.{TimerId}
use Rattle.mama_event.specs.Object.{same_timer}
use Rattle.mama_timer.specs.declared.table.Row.{Row}
use Rattle.mama_timer.specs.declared.firing.Firing.{Firing}
use Rattle.mama_timer.specs.Firing.{row_after, due_then, next_key, is_due_at}

pub row_after-push : (fs : List Firing) (f : Firing) (timer : TimerId) (row : Option Row) →
    row_after (fs ++ f ∷ []) timer row ≡ (if same_timer f.timer timer then option_map (due_then f.due) (row_after fs timer row) else row_after fs timer row)
row_after-push [] f timer row = refl
row_after-push (g ∷ fs) f timer row = row_after-push fs f timer (if same_timer g.timer timer then option_map (due_then g.due) row else row)

-- one firing more of a list
pub row_after_more : (fs : List Firing) (i : ℕ) (d : Firing) (timer : TimerId) (row : Option Row) → i < length fs →
    row_after (take (i + 1) fs) timer row ≡ (if same_timer (get_or fs i d).timer timer then option_map (due_then (get_or fs i d).due) (row_after (take i fs) timer row) else row_after (take i fs) timer row)
row_after_more fs i d timer row within =
    ap (λ (xs : List Firing). row_after xs timer row) (take_more fs i d within) ∙ row_after-push (take i fs) (get_or fs i d) timer row

flipped : (a c : ℕ × TimerId) → is_eq (due_cmp a c) ≡ is_eq (due_cmp c a)
flipped a c = (eq_by_cmp_equiv due_cmp_total).symm a c

joined : (b old now any new : Bool) → new ≡ cond b true now → now ≡ (old || any) → new ≡ (old || (any || b))
joined true true now any new e f = e
joined true false now true new e f = e
joined true false now false new e f = e
joined false true now any new e f = e ∙ f
joined false false now true new e f = e ∙ f
joined false false now false new e f = e ∙ f

-- one due moment more that is written down
pub listed_more : (fs : List Firing) (i : ℕ) (d : Firing) (key : ℕ × TimerId) (old now new : Bool) → i < length fs →
    new ≡ cond (is_eq (due_cmp (next_key (get_or fs i d)) key)) true now →
    now ≡ (old || list_any (λ (f : Firing). is_at (due_cmp key) (next_key f)) (take i fs)) →
    new ≡ (old || list_any (λ (f : Firing). is_at (due_cmp key) (next_key f)) (take (i + 1) fs))
listed_more fs i d key old now new within step so_far =
    let test : Firing → Bool = λ f. is_at (due_cmp key) (next_key f) in
    let flip : is_eq (due_cmp (next_key (get_or fs i d)) key) ≡ test (get_or fs i d) = flipped (next_key (get_or fs i d)) key in
    joined (test (get_or fs i d)) old now (list_any test (take i fs)) new (step ∙ ap (λ (b : Bool). cond b true now) flip) so_far
    ∙ ap (λ (b : Bool). old || b) (sym (list_any_more test fs i d within))

-- what was written down stays
pub listed_kept : (b now new : Bool) → new ≡ cond b true now → now ≡ true → new ≡ true
listed_kept true now new e f = e
listed_kept false now new e f = e ∙ f

-- what is kept of a timer after one firing more
pub set_more : (fs : List Firing) (i : ℕ) (d : Firing) (timer : TimerId) (old now new : Option Row) → i < length fs →
    new ≡ (if same_timer (get_or fs i d).timer timer then option_map (due_then (get_or fs i d).due) now else now) →
    now ≡ row_after (take i fs) timer old → new ≡ row_after (take (i + 1) fs) timer old
set_more fs i d timer old now new within step so_far =
    step ∙ ap (λ (o : Option Row). if same_timer (get_or fs i d).timer timer then option_map (due_then (get_or fs i d).due) o else o) so_far
    ∙ sym (row_after_more fs i d timer old within)

-- a due moment that is a timer's stays when another is struck out
pub struck : (rows : TimerId → Option Row) (old key : ℕ × TimerId) (was new : Bool) → is_due_at old.0 (rows old.1) ≡ false →
    new ≡ cond (is_eq (due_cmp old key)) false was → is_due_at key.0 (rows key.1) ≡ true → was ≡ true → new ≡ true
struck rows old key was new out step due listed = by_case (is_eq (due_cmp old key)) refl
  where
    by_case : (b : Bool) → is_eq (due_cmp old key) ≡ b → new ≡ true
    by_case true tied =
        let same : old ≡ key = due_tied old key tied in
        absurd (both_ways (is_due_at old.0 (rows old.1)) out (ap (λ (k : ℕ × TimerId). is_due_at k.0 (rows k.1)) same ∙ due))
    by_case false apart = step ∙ ap (λ (b : Bool). cond b false was) apart ∙ listed
