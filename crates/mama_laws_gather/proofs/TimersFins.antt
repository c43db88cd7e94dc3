-- A queue is told Fin by the timer service only once the service's ending has come.
use Rattle.std.specs.List.{flat_map, list_any}
use Rattle.std.specs.Prelude.{Option, Some, None, not}
use Rattle.std.proofs.Common.{◌≡◌, ℕ, ◌==◌, Bool, true, false, ◌||◌, cond, List, [], ◌∷◌, ◌++◌, map, refl, sym, ◌∙◌, ap, ⊎_elim}
use Rattle.std.proofs.lemmas.Bool.{and_parts, or_cases, or_from, both_ways}
use Rattle.std.proofs.lemmas.List.Folds.{list_any-append}
use Rattle.mama_journal.specs.Journal.{all_puts, turns, numbers_below}
use Rattle.mama_journal.specs.Lane.{by_port}
use Rattle.mama_event.specs.declared.shape.Shape.{Shape}
use Rattle.mama_event.specs.declared.ids.ObjectId.TheVariants.{Timer}
use Rattle.mama_event.specs.declared.to_queue.Make.TheVariants as make
use Rattle.mama_event.specs.declared.to_queue.QueueNote.{QueueNote}
use Rattle.mama_event.specs.declared.to_queue.QueueNote.TheVariants as q
use Rattle.mama_event.specs.Ports.{queues_of}
use Rattle.mama_event.specs.ToQueue as queue
use Rattle.mama_rules_services.specs.Timers.{TimersEvent, arms, disarms, now, arms_timer, has_ending, is_live, live_timers, clock, firing, place_of, to_place, free_slot, gone, answer, ending_comes, timers_reaction}
use Rattle.mama_laws_legal.proofs.Lists.{by_port-append}
use Rattle.mama_journal.specs.EntryLaws.{by_entries, all_puts-push}
use Rattle.mama_laws_legal.proofs.TimerLives.{ending_stays}

-- some of these puts tell a queue Fin
abbrev pub fins_to : ℕ → List (ℕ × QueueNote) → Bool
fins_to k outs = list_any queue.is_last (by_port k outs)

fins_append : (k : ℕ) (xs ys : List (ℕ × QueueNote)) → fins_to k (xs ++ ys) ≡ (fins_to k xs || fins_to k ys)
fins_append k xs ys = ap (list_any queue.is_last) (by_port-append k xs ys) ∙ list_any-append queue.is_last (by_port k xs) (by_port k ys)

one_calm : (k n : ℕ) (note : QueueNote) → queue.is_last note ≡ false → fins_to k ((n, note) ∷ []) ≡ false
one_calm k n note calm = by_case (n == k)
  where
    by_case : (b : Bool) → list_any queue.is_last (cond b (note ∷ []) []) ≡ false
    by_case true = or_from (queue.is_last note) false calm refl
    by_case false = refl

placed_calm : (k : ℕ) (place : Option (ℕ × ℕ)) (event : ℕ → QueueNote) → ((slot : ℕ) → queue.is_last (event slot) ≡ false) → fins_to k (to_place place event) ≡ false
placed_calm k None event calm = refl
placed_calm k (Some place) event calm = one_calm k place.0 (event place.1) (calm place.1)

each_calm : {X : Type 0} (k : ℕ) (f : X → List (ℕ × QueueNote)) (xs : List X) → ((x : X) → fins_to k (f x) ≡ false) → fins_to k (flat_map f xs) ≡ false
each_calm k f [] calm = refl
each_calm k f (x ∷ xs) calm = fins_append k (f x) (flat_map f xs) ∙ or_from (fins_to k (f x)) (fins_to k (flat_map f xs)) (calm x) (each_calm k f xs calm)

-- what the service answers to an entry, but for the ending, is no Fin
answer_calm : (shape : Shape) (k : ℕ) (before : List TimersEvent) (sofar : List (ℕ × QueueNote)) (e : TimersEvent) → fins_to k (answer shape before sofar e) ≡ false
answer_calm shape k before sofar (arms timer queue interval tag) = by_case (list_any (arms_timer timer) before)
  where
    by_case : (b : Bool) → fins_to k (cond b [] ((queue, q.Create (free_slot shape before sofar queue) (Timer timer) make.Timer tag) ∷ [])) ≡ false
    by_case true = refl
    by_case false = one_calm k queue (q.Create (free_slot shape before sofar queue) (Timer timer) make.Timer tag) refl
answer_calm shape k before sofar (disarms timer) = by_case (is_live shape timer before)
  where
    by_case : (b : Bool) → fins_to k (cond b (gone sofar timer) []) ≡ false
    by_case true = placed_calm k (place_of timer sofar) (λ slot. q.Gone slot (Timer timer)) (λ slot. refl)
    by_case false = refl
answer_calm shape k before sofar (now moment) =
    each_calm k (λ timer. to_place (place_of timer sofar) (λ slot. q.Tick slot timer (clock (before ++ now moment ∷ [])))) (firing shape before (clock (before ++ now moment ∷ [])))
    (λ timer. placed_calm k (place_of timer sofar) (λ slot. q.Tick slot timer (clock (before ++ now moment ∷ []))) (λ slot. refl))
answer_calm shape k before sofar _ = refl

pub ended_by : (shape : Shape) (k : ℕ) (es : List TimersEvent) → fins_to k (all_puts (timers_reaction shape) es) ≡ true → has_ending shape es ≡ true
ended_by shape k = by_entries (λ es. fins_to k (all_puts (timers_reaction shape) es) ≡ true → has_ending shape es ≡ true)
    (λ h. absurd (both_ways false refl h))
    (λ es e ih h.
    let sofar : List (ℕ × QueueNote) = all_puts (timers_reaction shape) es in
    let here : fins_to k (sofar ++ timers_reaction shape es sofar e) ≡ true = ap (fins_to k) (sym (all_puts-push (timers_reaction shape) es e)) ∙ h in
    ⊎_elim
    (λ earlier. ending_stays shape es (e ∷ []) (ih earlier))
    (λ now. comes es e sofar (turns (has_ending shape) es e) refl (second es e sofar now))
    (or_cases (fins_to k sofar) (fins_to k (timers_reaction shape es sofar e)) (sym (fins_append k sofar (timers_reaction shape es sofar e)) ∙ here)))
  where
    second : (es : List TimersEvent) (e : TimersEvent) (sofar : List (ℕ × QueueNote)) → fins_to k (timers_reaction shape es sofar e) ≡ true → fins_to k (ending_comes shape es sofar e) ≡ true
    second es e sofar h = ⊎_elim
        (λ answered. absurd (both_ways (fins_to k (answer shape es sofar e)) (answer_calm shape k es sofar e) answered))
        (λ ended. ended)
        (or_cases (fins_to k (answer shape es sofar e)) (fins_to k (ending_comes shape es sofar e)) (sym (fins_append k (answer shape es sofar e) (ending_comes shape es sofar e)) ∙ h))

    comes : (es : List TimersEvent) (e : TimersEvent) (sofar : List (ℕ × QueueNote)) (b : Bool) → turns (has_ending shape) es e ≡ b
        → fins_to k (cond b (flat_map (gone sofar) (live_timers shape es) ++ map (λ n. (n, q.Fin)) (numbers_below (queues_of shape))) []) ≡ true → has_ending shape (es ++ e ∷ []) ≡ true
    comes es e sofar true turned h = (and_parts (has_ending shape (es ++ e ∷ [])) (not (has_ending shape es)) turned).0
    comes es e sofar false turned h = absurd (both_ways false refl h)
