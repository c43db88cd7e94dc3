-- A queue was told Fin exactly where the ending has come.
use Rattle.std.specs.List.{list_any, flat_map}
use Rattle.std.specs.Prelude.{Option, None, Some}
use Rattle.std.proofs.Common.{◌≡◌, ℕ, zero, suc, ◌<◌, ◌≤◌, ◌==◌, Bool, true, false, not, ◌&&◌, ◌||◌, cond, List, [], ◌∷◌, ◌++◌, map, refl, sym, ◌∙◌, ap, arith, eq-eqb, ⊎_elim}
use Rattle.std.proofs.lemmas.Bool.{or_left, or_right, or_from, cases_lt}
use Rattle.std.proofs.lemmas.List.{map-append}
use Rattle.std.proofs.lemmas.List.Folds.{list_any-append}
use Rattle.mama_journal.specs.Journal.{all_puts, turns, all_below, numbers_below}
use Rattle.mama_journal.specs.Lane.{by_port}
use Rattle.mama_event.specs.Ports.{clients_of, queues_of}
use Rattle.mama_event.specs.ToQueue.{is_last}
use Rattle.mama_event.specs.declared.ids.TimerId.{TimerId}
use Rattle.mama_event.specs.declared.ids.ObjectId.TheVariants.{Timer}
use Rattle.mama_event.specs.declared.shape.Shape.{Shape}
use Rattle.mama_event.specs.declared.to_queue.Make.TheVariants as make
use Rattle.mama_event.specs.declared.to_queue.QueueNote.{QueueNote}
use Rattle.mama_event.specs.declared.to_queue.QueueNote.TheVariants as q
use Rattle.mama_rules_services.specs.Timers.{TimersEvent, arms, disarms, now, client_done, bye, fin, no_event, heard, clock, arms_timer, has_ending, is_live, live_timers, firing, place_of, to_place, free_slot, gone, answer, ending_comes, timers_reaction}
use Rattle.mama_journal.specs.EntryLaws.{by_entries, all_puts-push}
use Rattle.mama_timer.proofs.Pushes.{has_ending-keeps}
use Rattle.mama_laws_timers.specs.Laws.{FinsTellTheEnding}

-- ---- what is put with no Fin

abbrev tells_fin : List (ℕ × QueueNote) → Bool
tells_fin ps = list_any (λ put. is_last put.1) ps

no_fin_place : (o : Option (ℕ × ℕ)) (f : ℕ → QueueNote) → ((k : ℕ) → is_last (f k) ≡ false) → tells_fin (to_place o f) ≡ false
no_fin_place None f h = refl
no_fin_place (Some p) f h = or_from (is_last (f p.1)) false (h p.1) refl

no_fin_each : (f : TimerId → List (ℕ × QueueNote)) (ts : List TimerId) → ((t : TimerId) → tells_fin (f t) ≡ false) → tells_fin (flat_map f ts) ≡ false
no_fin_each f [] h = refl
no_fin_each f (t ∷ ts) h = list_any-append (λ put. is_last put.1) (f t) (flat_map f ts) ∙ or_from (tells_fin (f t)) (tells_fin (flat_map f ts)) (h t) (no_fin_each f ts h)

no_fin_if : (b : Bool) (xs ys : List (ℕ × QueueNote)) → tells_fin xs ≡ false → tells_fin ys ≡ false → tells_fin (cond b xs ys) ≡ false
no_fin_if true xs ys f g = f
no_fin_if false xs ys f g = g

no_fin_answered : (shape : Shape) (es : List TimersEvent) (sofar : List (ℕ × QueueNote)) (e : TimersEvent) → tells_fin (answer shape es sofar e) ≡ false
no_fin_answered shape es sofar (arms u of interval tag) = no_fin_if (list_any (arms_timer u) es) [] ((of, q.Create (free_slot shape es sofar of) (Timer u) make.Timer tag) ∷ []) refl refl
no_fin_answered shape es sofar (disarms u) = no_fin_if (is_live shape u es) (gone sofar u) [] (no_fin_place (place_of u sofar) (λ slot. q.Gone slot (Timer u)) (λ k. refl)) refl
no_fin_answered shape es sofar (now moment) =
    let at : ℕ = clock (es ++ now moment ∷ []) in
    no_fin_each (λ timer. to_place (place_of timer sofar) (λ slot. q.Tick slot timer at)) (firing shape es at) (λ u. no_fin_place (place_of u sofar) (λ slot. q.Tick slot u at) (λ k. refl))
no_fin_answered shape es sofar (client_done c) = refl
no_fin_answered shape es sofar (bye k) = refl
no_fin_answered shape es sofar fin = refl
no_fin_answered shape es sofar no_event = refl

-- ---- what goes to one queue

part-append : (queue : ℕ) (xs ys : List (ℕ × QueueNote)) → list_any is_last (by_port queue (xs ++ ys)) ≡ (list_any is_last (by_port queue xs) || list_any is_last (by_port queue ys))
part-append queue [] ys = refl
part-append queue (x ∷ xs) ys = at (x.0 == queue) (part-append queue xs ys)
  where
    or_assoc : (a b c : Bool) → (a || (b || c)) ≡ ((a || b) || c)
    or_assoc true b c = refl
    or_assoc false b c = refl

    at : (b : Bool) → list_any is_last (by_port queue (xs ++ ys)) ≡ (list_any is_last (by_port queue xs) || list_any is_last (by_port queue ys))
        → list_any is_last (cond b (x.1 ∷ by_port queue (xs ++ ys)) (by_port queue (xs ++ ys))) ≡ (list_any is_last (cond b (x.1 ∷ by_port queue xs) (by_port queue xs)) || list_any is_last (by_port queue ys))
    at true ih = ap (λ (b : Bool). is_last x.1 || b) ih ∙ or_assoc (is_last x.1) (list_any is_last (by_port queue xs)) (list_any is_last (by_port queue ys))
    at false ih = ih

no_fin_part : (queue : ℕ) (xs : List (ℕ × QueueNote)) → tells_fin xs ≡ false → list_any is_last (by_port queue xs) ≡ false
no_fin_part queue [] h = refl
no_fin_part queue (x ∷ xs) h =
    let parts = or_false_parts (is_last x.1) (tells_fin xs) h in
    at (x.0 == queue) parts.0 (no_fin_part queue xs parts.1)
  where
    or_false_parts : (a b : Bool) → (a || b) ≡ false → (a ≡ false) × (b ≡ false)
    or_false_parts true b h = cc
    or_false_parts false b h = (refl, h)

    at : (b : Bool) → is_last x.1 ≡ false → list_any is_last (by_port queue xs) ≡ false → list_any is_last (cond b (x.1 ∷ by_port queue xs) (by_port queue xs)) ≡ false
    at true here ih = or_from (is_last x.1) (list_any is_last (by_port queue xs)) here ih
    at false here ih = ih

fin_told : (queue n : ℕ) → queue < n → list_any is_last (by_port queue (map (λ k. (k, q.Fin)) (numbers_below n))) ≡ true
fin_told queue zero less = absurd (omega (arith, less))
fin_told queue (suc n) less =
    let before : List (ℕ × QueueNote) = map (λ k. (k, q.Fin)) (numbers_below n) in
    ap (λ (xs : List (ℕ × QueueNote)). list_any is_last (by_port queue xs)) (map-append (λ (k : ℕ). (k, q.Fin)) (numbers_below n) (n ∷ []))
    ∙ part-append queue before ((n, q.Fin) ∷ [])
    ∙ ⊎_elim
    (λ (below : queue < n). or_left (list_any is_last (by_port queue before)) (list_any is_last (by_port queue ((n, q.Fin) ∷ []))) (fin_told queue n below))
    (λ (above : n ≤ queue). or_right (list_any is_last (by_port queue before)) (list_any is_last (by_port queue ((n, q.Fin) ∷ [])))
    (ap (λ (b : Bool). list_any is_last (cond b (q.Fin ∷ []) [])) (eq-eqb n queue (omega (arith, above, less)))))
    (cases_lt queue n)

-- ---- one entry more

module _ (queue : ℕ) (shape : Shape) (small : queue < queues_of shape) where
  ending_tells : (es : List TimersEvent) (sofar : List (ℕ × QueueNote)) (e : TimersEvent) → list_any is_last (by_port queue (ending_comes shape es sofar e)) ≡ turns (has_ending shape) es e
  ending_tells es sofar e = at (turns (has_ending shape) es e)
    where
      at : (b : Bool) → list_any is_last (by_port queue (cond b (flat_map (gone sofar) (live_timers shape es) ++ map (λ k. (k, q.Fin)) (numbers_below (queues_of shape))) [])) ≡ b
      at true = part-append queue (flat_map (gone sofar) (live_timers shape es)) (map (λ k. (k, q.Fin)) (numbers_below (queues_of shape)))
          ∙ or_right (list_any is_last (by_port queue (flat_map (gone sofar) (live_timers shape es)))) (list_any is_last (by_port queue (map (λ k. (k, q.Fin)) (numbers_below (queues_of shape))))) (fin_told queue (queues_of shape) small)
      at false = refl

  reaction_tells : (es : List TimersEvent) (sofar : List (ℕ × QueueNote)) (e : TimersEvent) → list_any is_last (by_port queue (timers_reaction shape es sofar e)) ≡ turns (has_ending shape) es e
  reaction_tells es sofar e = part-append queue (answer shape es sofar e) (ending_comes shape es sofar e)
      ∙ ap (λ (b : Bool). b || list_any is_last (by_port queue (ending_comes shape es sofar e))) (no_fin_part queue (answer shape es sofar e) (no_fin_answered shape es sofar e))
      ∙ ending_tells es sofar e

  turned : (was is : Bool) → (was ≡ true → is ≡ true) → (was || (is && not was)) ≡ is
  turned true is keeps = sym (keeps refl)
  turned false true keeps = refl
  turned false false keeps = refl

  told : (es : List TimersEvent) → list_any is_last (by_port queue (all_puts (timers_reaction shape) es)) ≡ has_ending shape es
  told es = by_entries (λ (xs : List TimersEvent). list_any is_last (by_port queue (all_puts (timers_reaction shape) xs)) ≡ has_ending shape xs) start
      (λ xs e ih. ap (λ (ps : List (ℕ × QueueNote)). list_any is_last (by_port queue ps)) (all_puts-push (timers_reaction shape) xs e)
      ∙ part-append queue (all_puts (timers_reaction shape) xs) (timers_reaction shape xs (all_puts (timers_reaction shape) xs) e)
      ∙ ap (λ (b : Bool). b || list_any is_last (by_port queue (timers_reaction shape xs (all_puts (timers_reaction shape) xs) e))) ih
      ∙ ap (λ (b : Bool). has_ending shape xs || b) (reaction_tells xs (all_puts (timers_reaction shape) xs) e)
      ∙ turned (has_ending shape xs) (has_ending shape (xs ++ e ∷ [])) (has_ending-keeps shape xs e)) es
    where
      none_yet : (b : Bool) → false ≡ (b && false)
      none_yet true = refl
      none_yet false = refl

      start : false ≡ has_ending shape []
      start = none_yet (all_below (clients_of shape) (λ c. false))

pub fins_tell : FinsTellTheEnding
fins_tell shape journal queue small = told queue shape small (heard shape journal)
