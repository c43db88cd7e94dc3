-- What the service puts to each queue is a stream that the queue may be given; its Creates take the least slot that is
-- free, and after the ending no block is unfinished.
use Rattle.std.specs.Prelude.{Option, None, Some, nat_le}
use Rattle.std.specs.List.{list_any, flat_map, filter, fold}
use Rattle.std.proofs.Common.{◌≡◌, ℕ, zero, suc, ◌≤◌, ◌<◌, ◌==◌, Bool, true, false, not, ◌&&◌, ◌||◌, cond, List, [], ◌∷◌, ◌++◌, length, map, refl, sym, ◌∙◌, ap, subst, arith, inl, inr, ⊎_elim, ◌⊎◌, append-nil, append_assoc}
use Rattle.std.proofs.lemmas.Bool.{and_parts, and_from, both_ways, or_left, or_right, or_cases, or_from, cases_Bool, false_from_ne_true, eqb-true, eq-eqb, ne_eqb, cases_eq}
use Rattle.mama_journal.specs.Journal.{puts, all_puts, turns, numbers_below, least_free}
use Rattle.mama_journal.specs.Lane.{by_port}
use Rattle.mama_event.specs.Lawful.{each_fits, IsLawful, may_follow}
use Rattle.mama_event.specs.LawfulLaws.{IsLawful-start, IsLawful-push}
use Rattle.mama_event.specs.Object.{same_timer, same_object}
use Rattle.mama_event.specs.Ports.{queues_of}
use Rattle.mama_event.specs.ToQueue.{Block, is_last, fits, blocks_after, open_blocks, is_taken, is_live_in, creates}
use Rattle.mama_event.specs.declared.ids.TimerId.{TimerId}
use Rattle.mama_event.specs.declared.ids.ObjectId.{ObjectId}
use Rattle.mama_event.specs.declared.ids.ObjectId.TheVariants.{Timer}
use Rattle.mama_event.specs.declared.shape.Shape.{Shape}
use Rattle.mama_event.specs.declared.to_queue.Make.TheVariants as make
use Rattle.mama_event.specs.declared.to_queue.QueueNote.{QueueNote}
use Rattle.mama_event.specs.declared.to_queue.QueueNote.TheVariants as q
use Rattle.mama_rules_services.specs.Timers.{TimersEvent, arms, disarms, now, client_done, bye, fin, no_event, clock, arms_timer, disarms_timer, has_ending, is_armed, is_live, due, newly_armed, live_timers, comes_first, fires_first, firing, in_order, created_in, place_of, to_place, free_slot, gone, answer, timers_reaction}
use Rattle.mama_timer.specs.Stands.{stands_at, is_held}
use Rattle.mama_timer.proofs.Lists.{said_none, list_any-push, list_any-filter}
use Rattle.mama_journal.specs.EntryLaws.{by_entries, all_puts-push}
use Rattle.mama_timer.proofs.Orders.{same_timer-is, same_timer-itself}
use Rattle.mama_timer.proofs.Pushes.{is_armed-push, has_ending-still, has_ending-keeps, live_before, no_turn}
use Rattle.mama_timer.proofs.Sorting.{has, AreApart, ascending-apart, has-in_order, has-filter, comes_first-order}
use Rattle.mama_timer.proofs.Live.{has-live, ascending-live, live_came, arms_timer-arms}
use Rattle.mama_timer.proofs.Holding.{Facts, free_slot-free, used_slots, used-held}
use Rattle.mama_timer.proofs.Reactions.{facts, no_ending, with_ending, react_arm, react_disarm, arms_no_end, disarms_no_end, now_no_end, held_by, place_new, place_old, made_none}
use Rattle.std.proofs.lemmas.List.{map-append}
use Rattle.std.proofs.lemmas.Bool.{not-true}
use Rattle.mama_timer.proofs.Standing.{live_still, not_yet, armed_step}
use Rattle.mama_timer.proofs.Keeping.{not_live_late, live_none}
use Rattle.mama_slots.proofs.Least.{least_free-is}
use Rattle.mama_laws_bridge.proofs.Lists.{list_any-map}
use Rattle.mama_laws_lawful.specs.Streams.{takes_least}
use Rattle.mama_laws_lawful.proofs.Going.{least_more}
use Rattle.mama_laws_lawful.proofs.Slots.{least_free-below}
use Rattle.mama_laws_timers.specs.Streams.{is_arming, IsTimely}

-- ---- what goes to one queue

by_port-append : {V : Type 0} (port : ℕ) (xs ys : List (ℕ × V)) → by_port port (xs ++ ys) ≡ by_port port xs ++ by_port port ys
by_port-append port [] ys = refl
by_port-append port (x ∷ xs) ys = by_case (x.0 == port) (by_port-append port xs ys)
  where
    by_case : (b : Bool) → by_port port (xs ++ ys) ≡ by_port port xs ++ by_port port ys → cond b (x.1 ∷ by_port port (xs ++ ys)) (by_port port (xs ++ ys)) ≡ cond b (x.1 ∷ by_port port xs) (by_port port xs) ++ by_port port ys
    by_case true ih = ap (λ (vs : List _). x.1 ∷ vs) ih
    by_case false ih = ih

blocks_push : (blocks : List Block) (notes : List QueueNote) (n : QueueNote) → fold blocks_after blocks (notes ++ n ∷ []) ≡ blocks_after (fold blocks_after blocks notes) n
blocks_push blocks [] n = refl
blocks_push blocks (m ∷ notes) n = blocks_push (blocks_after blocks m) notes n

open-push : (notes : List QueueNote) (n : QueueNote) → open_blocks (notes ++ n ∷ []) ≡ blocks_after (open_blocks notes) n
open-push notes n = blocks_push [] notes n

any_weaker : {X : Type 0} (p r : X → Bool) (xs : List X) → ((x : X) → p x ≡ true → r x ≡ true) → list_any p xs ≡ true → list_any r xs ≡ true
any_weaker p r [] f h = h
any_weaker p r (x ∷ xs) f h = ⊎_elim (λ here. or_left (r x) (list_any r xs) (f x here)) (λ later. or_right (r x) (list_any r xs) (any_weaker p r xs f later)) (or_cases (p x) (list_any p xs) h)

-- A stream that goes on: what holds of its notes, where H tells which timers have which slots of the queue, and C which timers were armed.
pub record Going (H : TimerId → ℕ → Type 0) (C : TimerId → Type 0) (notes : List QueueNote) : Type 0 where
  pub lawful : IsLawful is_last (fits 1) notes
  pub least : each_fits takes_least [] notes ≡ true
  pub no_last : list_any is_last notes ≡ false
  pub inside : (t : TimerId) (k : ℕ) → H t k → is_live_in k (Timer t) notes ≡ true
  pub outside : (k : ℕ) → is_taken k notes ≡ true → (t : TimerId) × H t k
  pub created : (t : TimerId) → list_any (creates (Timer t)) notes ≡ true → C t

follows : (notes : List QueueNote) (n : QueueNote) → list_any is_last notes ≡ false → fits 1 notes n ≡ true → may_follow is_last (fits 1) notes n ≡ true
follows notes n none fit = and_from (not (list_any is_last notes)) (fits 1 notes n) (ap not none) fit

not_last : (notes : List QueueNote) (n : QueueNote) → list_any is_last notes ≡ false → is_last n ≡ false → list_any is_last (notes ++ n ∷ []) ≡ false
not_last notes n none here = list_any-push is_last notes n ∙ or_from (list_any is_last notes) (is_last n) none here

not_made : (t : TimerId) (notes : List QueueNote) (n : QueueNote) → creates (Timer t) n ≡ false → list_any (creates (Timer t)) (notes ++ n ∷ []) ≡ true → list_any (creates (Timer t)) notes ≡ true
not_made t notes n none h = sym (list_any-push (creates (Timer t)) notes n ∙ ap (λ (b : Bool). list_any (creates (Timer t)) notes || b) none ∙ or_none (list_any (creates (Timer t)) notes)) ∙ h
  where
    or_none : (b : Bool) → (b || false) ≡ b
    or_none true = refl
    or_none false = refl

going_conv : (H H' : TimerId → ℕ → Type 0) (C C' : TimerId → Type 0) (notes : List QueueNote) → ((t : TimerId) (k : ℕ) → H t k → H' t k) → ((t : TimerId) (k : ℕ) → H' t k → H t k) → ((t : TimerId) → C t → C' t)
    → Going H C notes → Going H' C' notes
going_conv H H' C C' notes to from more g = record {
  lawful = g.lawful;
  least = g.least;
  no_last = g.no_last;
  inside = λ t k h. g.inside t k (from t k h);
  outside = λ k taken. let there = g.outside k taken in (there.0, to there.0 k there.1);
  created = λ t made. more t (g.created t made);
}

going_tick : (H : TimerId → ℕ → Type 0) (C : TimerId → Type 0) (notes : List QueueNote) (t : TimerId) (k moment : ℕ) → H t k → Going H C notes → Going H C (notes ++ q.Tick k t moment ∷ [])
going_tick H C notes t k moment h g = record {
  lawful = IsLawful-push is_last (fits 1) notes (q.Tick k t moment) g.lawful (follows notes (q.Tick k t moment) g.no_last (g.inside t k h));
  least = least_more notes (q.Tick k t moment) g.least refl;
  no_last = not_last notes (q.Tick k t moment) g.no_last refl;
  inside = λ u j held. ap (list_any (λ b. b.slot == j && same_object b.object (Timer u))) (open-push notes (q.Tick k t moment)) ∙ g.inside u j held;
  outside = λ j taken. g.outside j (sym (ap (list_any (λ b. b.slot == j)) (open-push notes (q.Tick k t moment))) ∙ taken);
  created = λ u made. g.created u (not_made u notes (q.Tick k t moment) refl made);
}

block_here : (u t : TimerId) (s k : ℕ) → u ≡ t → s ≡ k → (s == k && same_object (Timer u) (Timer t)) ≡ true
block_here u t s k e f = and_from (s == k) (same_timer u t) (eq-eqb s k f) (ap (same_timer u) (sym e) ∙ same_timer-itself u)

going_create : (H H' : TimerId → ℕ → Type 0) (C C' : TimerId → Type 0) (notes : List QueueNote) (u : TimerId) (s : ℕ) (tag : ObjectId)
    → is_taken s notes ≡ false → takes_least notes (q.Create s (Timer u) make.Timer tag) ≡ true → (C u → ⊥) → ((t : TimerId) (k : ℕ) → H' t k → H t k ⊎ ((u ≡ t) × (s ≡ k))) → ((t : TimerId) (k : ℕ) → H t k → H' t k) → H' u s
    → ((t : TimerId) → C t → C' t) → C' u → Going H C notes → Going H' C' (notes ++ q.Create s (Timer u) make.Timer tag ∷ [])
going_create H H' C C' notes u s tag free least new split to here more here_c g =
    let n : QueueNote = q.Create s (Timer u) make.Timer tag in
    let b : Block = record { slot = s; object = Timer u } in
    record {
      lawful = IsLawful-push is_last (fits 1) notes n g.lawful (follows notes n g.no_last
          (and_from (not (is_taken s notes) && not (list_any (creates (Timer u)) notes) && true) true
          (and_from (not (is_taken s notes) && not (list_any (creates (Timer u)) notes)) true
          (and_from (not (is_taken s notes)) (not (list_any (creates (Timer u)) notes)) (ap not free)
          (ap not (false_from_ne_true (list_any (creates (Timer u)) notes) (λ made. new (g.created u made))))) refl) refl));
      least = least_more notes n g.least least;
      no_last = not_last notes n g.no_last refl;
      inside = λ t k held. ap (list_any (λ b. b.slot == k && same_object b.object (Timer t))) (open-push notes n)
          ∙ list_any-push (λ b. b.slot == k && same_object b.object (Timer t)) (open_blocks notes) b
          ∙ ⊎_elim
          (λ old. or_left (is_live_in k (Timer t) notes) (s == k && same_object (Timer u) (Timer t)) (g.inside t k old))
          (λ now. or_right (is_live_in k (Timer t) notes) (s == k && same_object (Timer u) (Timer t)) (block_here u t s k now.0 now.1))
          (split t k held);
      outside = λ k taken. ⊎_elim
          (λ old. let there = g.outside k old in (there.0, to there.0 k there.1))
          (λ now. let P : ℕ → Type 0 = λ j. (t : TimerId) × H' t j in subst P (eqb-true s k now) (u, here))
          (or_cases (is_taken k notes) (s == k) (sym (ap (list_any (λ b. b.slot == k)) (open-push notes n) ∙ list_any-push (λ b. b.slot == k) (open_blocks notes) b) ∙ taken));
      created = λ t made. ⊎_elim
          (λ old. more t (g.created t old))
          (λ now. subst C' (same_timer-is u t now) here_c)
          (or_cases (list_any (creates (Timer t)) notes) (same_timer u t) (sym (list_any-push (creates (Timer t)) notes n) ∙ made));
    }

other_slot : (s k j : ℕ) (b : Bool) → (s ≡ k → ⊥) → (j == k && b) ≡ true → (not (j == s) && (j == k && b)) ≡ true
other_slot s k j b apart h =
    let here = eqb-true j k (and_parts (j == k) b h).0 in
    and_from (not (j == s)) (j == k && b) (ap not (ne_eqb j s (λ same. apart (sym same ∙ here)))) h

never_both : (b : Bool) → (not b && b) ≡ false
never_both true = refl
never_both false = refl

going_gone : (H H' : TimerId → ℕ → Type 0) (C : TimerId → Type 0) (notes : List QueueNote) (u : TimerId) (s : ℕ)
    → H u s → ((t : TimerId) (k : ℕ) → H' t k → H t k) → ((t : TimerId) (k : ℕ) → H' t k → s ≡ k → ⊥) → ((t : TimerId) (k : ℕ) → H t k → (s ≡ k → ⊥) → H' t k)
    → Going H C notes → Going H' C (notes ++ q.Gone s (Timer u) ∷ [])
going_gone H H' C notes u s held from apart to g =
    let n : QueueNote = q.Gone s (Timer u) in
    record {
      lawful = IsLawful-push is_last (fits 1) notes n g.lawful (follows notes n g.no_last (g.inside u s held));
      least = least_more notes n g.least refl;
      no_last = not_last notes n g.no_last refl;
      inside = λ t k h. ap (list_any (λ b. b.slot == k && same_object b.object (Timer t))) (open-push notes n)
          ∙ list_any-filter (λ b. b.slot == k && same_object b.object (Timer t)) (λ b. not (b.slot == s)) (open_blocks notes)
          ∙ any_weaker (λ b. b.slot == k && same_object b.object (Timer t)) (λ b. not (b.slot == s) && (b.slot == k && same_object b.object (Timer t))) (open_blocks notes)
          (λ b here. other_slot s k b.slot (same_object b.object (Timer t)) (apart t k h) here) (g.inside t k (from t k h));
      outside = λ k taken.
          let both : list_any (λ (b : Block). not (b.slot == s) && b.slot == k) (open_blocks notes) ≡ true =
          sym (ap (list_any (λ b. b.slot == k)) (open-push notes n) ∙ list_any-filter (λ b. b.slot == k) (λ b. not (b.slot == s)) (open_blocks notes)) ∙ taken in
          let there = g.outside k (any_weaker (λ (b : Block). not (b.slot == s) && b.slot == k) (λ b. b.slot == k) (open_blocks notes) (λ b h. (and_parts (not (b.slot == s)) (b.slot == k) h).1) both) in (
            there.0,
            to there.0 k there.1 (λ same. absurd (both_ways (list_any (λ (b : Block). false) (open_blocks notes)) (nothing (open_blocks notes))
                (any_weaker (λ (b : Block). not (b.slot == s) && b.slot == k) (λ b. false) (open_blocks notes)
                (λ b h. sym (never_both (b.slot == s)) ∙ ap (λ (j : ℕ). not (b.slot == s) && b.slot == j) same ∙ h) both))),
          );
      created = λ t made. g.created t (not_made t notes n refl made);
    }
  where
    nothing : (bs : List Block) → list_any (λ (b : Block). false) bs ≡ false
    nothing [] = refl
    nothing (b ∷ bs) = nothing bs

no_blocks : (bs : List Block) → ((k : ℕ) → list_any (λ b. b.slot == k) bs ≡ false) → bs ≡ []
no_blocks [] h = refl
no_blocks (b ∷ bs) h = absurd (both_ways (list_any (λ c. c.slot == b.slot) (b ∷ bs)) (h b.slot) (or_left (b.slot == b.slot) (list_any (λ c. c.slot == b.slot) bs) (eq-eqb b.slot b.slot refl)))

-- a stream after the ending: all its blocks are finished
pub record Over (notes : List QueueNote) : Type 0 where
  pub lawful : IsLawful is_last (fits 1) notes
  pub least : each_fits takes_least [] notes ≡ true
  pub finished : open_blocks notes ≡ []

all_finished : (H : TimerId → ℕ → Type 0) (C : TimerId → Type 0) (notes : List QueueNote) → ((t : TimerId) (k : ℕ) → H t k → ⊥) → Going H C notes → open_blocks notes ≡ []
all_finished H C notes none g = no_blocks (open_blocks notes) (λ k. false_from_ne_true (is_taken k notes) (λ taken. let there = g.outside k taken in none there.0 k there.1))

over : (H : TimerId → ℕ → Type 0) (C : TimerId → Type 0) (notes : List QueueNote) → ((t : TimerId) (k : ℕ) → H t k → ⊥) → Going H C notes → Over notes
over H C notes none g = record { lawful = g.lawful; least = g.least; finished = all_finished H C notes none g }

over_fin : (H : TimerId → ℕ → Type 0) (C : TimerId → Type 0) (notes : List QueueNote) → ((t : TimerId) (k : ℕ) → H t k → ⊥) → Going H C notes → Over (notes ++ q.Fin ∷ [])
over_fin H C notes none g =
    let finished : open_blocks notes ≡ [] = all_finished H C notes none g in
    record {
      lawful = IsLawful-push is_last (fits 1) notes q.Fin g.lawful (follows notes q.Fin g.no_last (ap (λ (bs : List Block). length bs == 0) finished));
      least = least_more notes q.Fin g.least refl;
      finished = open-push notes q.Fin ∙ finished;
    }

-- the Fin that goes to one queue
fins_to : (queue n : ℕ) → (n ≤ queue → by_port queue (map (λ k. (k, q.Fin)) (numbers_below n)) ≡ [])
    × ((by_port queue (map (λ k. (k, q.Fin)) (numbers_below n)) ≡ []) ⊎ (by_port queue (map (λ k. (k, q.Fin)) (numbers_below n)) ≡ q.Fin ∷ []))
fins_to queue zero = (λ h. refl, inl refl)
fins_to queue (suc n) =
    let ih = fins_to queue n in
    let split : by_port queue (map (λ k. (k, q.Fin)) (numbers_below (suc n))) ≡ by_port queue (map (λ k. (k, q.Fin)) (numbers_below n)) ++ by_port queue ((n, q.Fin) ∷ []) =
    ap (by_port queue) (map-append (λ (k : ℕ). (k, q.Fin)) (numbers_below n) (n ∷ [])) ∙ by_port-append queue (map (λ k. (k, q.Fin)) (numbers_below n)) ((n, q.Fin) ∷ []) in
    let add : List QueueNote → List QueueNote = λ xs. xs ++ by_port queue ((n, q.Fin) ∷ []) in
    let last : Bool → List QueueNote = λ b. cond b (q.Fin ∷ []) [] in (
      λ less. split ∙ ap add (ih.0 (omega (arith, less))) ∙ ap last (ne_eqb n queue (λ same. omega (arith, less, same))),
      ⊎_elim
          (λ (same : n ≡ queue). inr (split ∙ ap add (ih.0 (omega (arith, same))) ∙ ap last (eq-eqb n queue same)))
          (λ (apart : n ≡ queue → ⊥). ⊎_elim
          (λ none. inl (split ∙ ap add none ∙ ap last (ne_eqb n queue apart)))
          (λ one. inr (split ∙ ap add one ∙ ap (λ (b : Bool). q.Fin ∷ cond b (q.Fin ∷ []) []) (ne_eqb n queue apart))) ih.1)
          (cases_eq n queue),
    )

some_passes : {X : Type 0} (p : X → Bool) (xs : List X) → list_any p xs ≡ true → (x : X) × (p x ≡ true)
some_passes p [] h = absurd (both_ways false refl h)
some_passes p (x ∷ xs) h = ⊎_elim (λ here. (x, here)) (λ later. some_passes p xs later) (or_cases (p x) (list_any p xs) h)

stands_is : (queue slot : ℕ) (place : Option (ℕ × ℕ)) → stands_at queue slot place ≡ true → place ≡ Some (queue, slot)
stands_is queue slot None h = absurd (both_ways false refl h)
stands_is queue slot (Some place) h =
    let parts = and_parts (place.0 == queue) (place.1 == slot) h in
    λ i. Some (eqb-true place.0 queue parts.0 i, eqb-true place.1 slot parts.1 i)

-- a slot of a queue, as a place
abbrev spot : ℕ → ℕ → Option (ℕ × ℕ)
spot queue slot = Some (queue, slot)

module _ (queue : ℕ) (place : TimerId → Option (ℕ × ℕ)) where
  -- what goes to the queue of what is put at a timer's place
  at_place : (o : Option (ℕ × ℕ)) (f : ℕ → QueueNote) → (by_port queue (to_place o f) ≡ [] × ((k : ℕ) → o ≡ Some (queue, k) → ⊥)) ⊎ ((k : ℕ) × (o ≡ Some (queue, k)) × (by_port queue (to_place o f) ≡ f k ∷ []))
  at_place None f = inl (refl, λ k h. no_place k h)
    where
      no_place : (k : ℕ) → None ≡ spot queue k → ⊥
      no_place k h = cc
  at_place (Some p) f = ⊎_elim
      (λ (same : p.0 ≡ queue). inr (p.1, (λ i. Some (same i, p.1)), ap (λ (b : Bool). cond b (f p.1 ∷ []) []) (eq-eqb p.0 queue same)))
      (λ (apart : p.0 ≡ queue → ⊥). inl (ap (λ (b : Bool). cond b (f p.1 ∷ []) []) (ne_eqb p.0 queue apart), λ k h. apart (first_is k h)))
      (cases_eq p.0 queue)
    where
      first_is : (k : ℕ) → Some p ≡ spot queue k → p.0 ≡ queue
      first_is k h = ap (λ (o : Option (ℕ × ℕ)). of_place o) h
        where
          of_place : Option (ℕ × ℕ) → ℕ
          of_place None = 0
          of_place (Some r) = r.0

  -- ticks of timers that have places
  going_ticks : (H : TimerId → ℕ → Type 0) (C : TimerId → Type 0) (moment : ℕ) (ts : List TimerId) (notes : List QueueNote)
      → ((t : TimerId) (k : ℕ) → has t ts ≡ true → place t ≡ Some (queue, k) → H t k)
      → Going H C notes → Going H C (notes ++ by_port queue (flat_map (λ t. to_place (place t) (λ slot. q.Tick slot t moment)) ts))
  going_ticks H C moment [] notes held g = subst (Going H C) (sym (append-nil notes)) g
  going_ticks H C moment (t ∷ ts) notes held g =
      let tick : ℕ → QueueNote = λ slot. q.Tick slot t moment in
      let rest = λ (more : List QueueNote) (h : Going H C more). going_ticks H C moment ts more (λ u k member is. held u k (or_right (same_timer t u) (has u ts) member) is) h in
      let split : by_port queue (flat_map (λ u. to_place (place u) (λ slot. q.Tick slot u moment)) (t ∷ ts)) ≡ by_port queue (to_place (place t) tick) ++ by_port queue (flat_map (λ u. to_place (place u) (λ slot. q.Tick slot u moment)) ts) =
      by_port-append queue (to_place (place t) tick) (flat_map (λ u. to_place (place u) (λ slot. q.Tick slot u moment)) ts) in
      subst (λ (more : List QueueNote). Going H C (notes ++ more)) (sym split) (⊎_elim
      (λ none. subst (λ (more : List QueueNote). Going H C (notes ++ (more ++ by_port queue (flat_map (λ u. to_place (place u) (λ slot. q.Tick slot u moment)) ts)))) (sym none.0) (rest notes g))
      (λ one. subst (λ (more : List QueueNote). Going H C (notes ++ (more ++ by_port queue (flat_map (λ u. to_place (place u) (λ slot. q.Tick slot u moment)) ts)))) (sym one.2)
      (subst (Going H C) (append_assoc notes (tick one.0 ∷ []) (by_port queue (flat_map (λ u. to_place (place u) (λ slot. q.Tick slot u moment)) ts)))
      (rest (notes ++ tick one.0 ∷ []) (going_tick H C notes t one.0 moment (held t one.0 (or_left (same_timer t t) (has t ts) (same_timer-itself t)) one.1) g))))
      (at_place (place t) tick))

  abbrev Among : List TimerId → TimerId → ℕ → Type 0
  Among ts t k = (has t ts ≡ true) × (place t ≡ Some (queue, k))

  same_slot : (a b : ℕ) → spot queue a ≡ spot queue b → a ≡ b
  same_slot a b h = ap (λ (o : Option (ℕ × ℕ)). slot_of o) h
    where
      slot_of : Option (ℕ × ℕ) → ℕ
      slot_of None = 0
      slot_of (Some r) = r.1

  -- timers that leave their places one after another
  going_gones : (C : TimerId → Type 0) (ts : List TimerId) (notes : List QueueNote) → AreApart ts
      → ((t u : TimerId) → has t ts ≡ true → has u ts ≡ true → place t ≡ place u → t ≡ u)
      → Going (Among ts) C notes → Going (Among []) C (notes ++ by_port queue (flat_map (λ t. to_place (place t) (λ slot. q.Gone slot (Timer t))) ts))
  going_gones C [] notes apart one g = subst (Going (Among []) C) (sym (append-nil notes)) g
  going_gones C (t ∷ ts) notes apart one g =
      let leave : ℕ → QueueNote = λ slot. q.Gone slot (Timer t) in
      let others : List QueueNote = by_port queue (flat_map (λ u. to_place (place u) (λ slot. q.Gone slot (Timer u))) ts) in
      let later : (u : TimerId) → has u ts ≡ true → has u (t ∷ ts) ≡ true = λ u h. or_right (same_timer t u) (has u ts) h in
      let itself : has t (t ∷ ts) ≡ true = or_left (same_timer t t) (has t ts) (same_timer-itself t) in
      let rest = λ (more : List QueueNote) (h : Going (Among ts) C more). going_gones C ts more apart.1 (λ u v hu hv same. one u v (later u hu) (later v hv) same) h in
      let split : by_port queue (flat_map (λ u. to_place (place u) (λ slot. q.Gone slot (Timer u))) (t ∷ ts)) ≡ by_port queue (to_place (place t) leave) ++ others =
      by_port-append queue (to_place (place t) leave) (flat_map (λ u. to_place (place u) (λ slot. q.Gone slot (Timer u))) ts) in
      subst (λ (more : List QueueNote). Going (Among []) C (notes ++ more)) (sym split) (⊎_elim
      (λ none. subst (λ (more : List QueueNote). Going (Among []) C (notes ++ (more ++ others))) (sym none.0) (rest notes (going_conv (Among (t ∷ ts)) (Among ts) C C notes
      (λ u k h. (⊎_elim (λ (s : same_timer t u ≡ true). absurd (none.1 k (ap place (same_timer-is t u s) ∙ h.1))) (λ m. m) (or_cases (same_timer t u) (has u ts) h.0), h.1))
      (λ u k h. (later u h.0, h.1)) (λ u c. c) g)))
      (λ here. subst (λ (more : List QueueNote). Going (Among []) C (notes ++ (more ++ others))) (sym here.2)
      (subst (Going (Among []) C) (append_assoc notes (leave here.0 ∷ []) others)
      (rest (notes ++ leave here.0 ∷ []) (going_gone (Among (t ∷ ts)) (Among ts) C notes t here.0 (itself, here.1)
      (λ u k h. (later u h.0, h.1))
      (λ u k h same. both_ways (has t ts) apart.0
      (ap (λ (v : TimerId). has v ts) (one t u itself (later u h.0) (here.1 ∙ (λ i. Some (queue, same i)) ∙ sym h.1)) ∙ h.0))
      (λ u k h away. (
        ⊎_elim
            (λ (s : same_timer t u ≡ true). absurd (away (same_slot here.0 k (sym here.1 ∙ ap place (same_timer-is t u s) ∙ h.1))))
            (λ m. m) (or_cases (same_timer t u) (has u ts) h.0),
        h.1,
      )) g))))
      (at_place (place t) leave))

-- ---- after the ending nothing is put but for armings

quiet_answer : (shape : Shape) (es : List TimersEvent) (sofar : List (ℕ × QueueNote)) (e : TimersEvent) → has_ending shape es ≡ true → is_arming e ≡ false → answer shape es sofar e ≡ []
quiet_answer shape es sofar (arms u of interval tag) ended h = cc
quiet_answer shape es sofar (disarms u) ended h = ap (λ (b : Bool). cond b (gone sofar u) []) (not_live_late shape u es ended)
quiet_answer shape es sofar (now moment) ended h =
    ap (λ (ts : List TimerId). flat_map (λ timer. to_place (place_of timer sofar) (λ slot. q.Tick slot timer (clock (es ++ now moment ∷ [])))) (in_order (fires_first es) (filter (λ timer. nat_le (due timer es) (clock (es ++ now moment ∷ []))) ts))) (live_none shape es ended)
quiet_answer shape es sofar (client_done c) ended h = refl
quiet_answer shape es sofar (bye k) ended h = refl
quiet_answer shape es sofar fin ended h = refl
quiet_answer shape es sofar no_event ended h = refl

quiet_late : (shape : Shape) (es : List TimersEvent) (sofar : List (ℕ × QueueNote)) (e : TimersEvent) → has_ending shape es ≡ true → is_arming e ≡ false → timers_reaction shape es sofar e ≡ []
quiet_late shape es sofar e ended h = no_ending shape es sofar e (ap (λ (b : Bool). has_ending shape (es ++ e ∷ []) && not b) ended ∙ never (has_ending shape (es ++ e ∷ []))) ∙ quiet_answer shape es sofar e ended h
  where
    never : (b : Bool) → (b && false) ≡ false
    never true = refl
    never false = refl

-- ---- one entry more

module _ (queue : ℕ) (shape : Shape) where
  abbrev sofar_of : List TimersEvent → List (ℕ × QueueNote)
  sofar_of es = all_puts (timers_reaction shape) es

  -- which live timers have which slots of the queue
  abbrev Holds : List TimersEvent → List (ℕ × QueueNote) → TimerId → ℕ → Type 0
  Holds es sofar t k = (is_live shape t es ≡ true) × (place_of t sofar ≡ Some (queue, k))

  abbrev Came : List TimersEvent → TimerId → Type 0
  Came es t = list_any (arms_timer t) es ≡ true

  came_more : (es : List TimersEvent) (e : TimersEvent) (t : TimerId) → Came es t → Came (es ++ e ∷ []) t
  came_more es e t h = list_any-push (arms_timer t) es e ∙ or_left (list_any (arms_timer t) es) (arms_timer t e) h

  pub record Streamed (es : List TimersEvent) (sofar : List (ℕ × QueueNote)) : Type 0 where
    pub lawful : IsLawful is_last (fits 1) (by_port queue sofar)
    pub least : each_fits takes_least [] (by_port queue sofar) ≡ true
    pub goes_on : has_ending shape es ≡ false → Going (Holds es sofar) (Came es) (by_port queue sofar)
    pub finished : has_ending shape es ≡ true → open_blocks (by_port queue sofar) ≡ []

  module _ (es : List TimersEvent) (sofar : List (ℕ × QueueNote)) (e : TimersEvent) (where_they_are : Facts shape es sofar) (before : Streamed es sofar) where
    more : List (ℕ × QueueNote)
    more = timers_reaction shape es sofar e

    -- an entry that makes no place, arms no timer that was not armed, and after which all timers are as live as before
    unchanged : (puts : List (ℕ × QueueNote)) → ((t : TimerId) → place_of t puts ≡ None) → ((t : TimerId) → list_any (arms_timer t) (es ++ e ∷ []) ≡ list_any (arms_timer t) es)
        → ((t : TimerId) → is_armed t es ≡ true → disarms_timer t e ≡ false) → has_ending shape (es ++ e ∷ []) ≡ false
        → (notes : List QueueNote) → Going (Holds es sofar) (Came es) notes → Going (Holds (es ++ e ∷ []) (sofar ++ puts)) (Came (es ++ e ∷ [])) notes
    unchanged puts made came keeps none notes g = going_conv (Holds es sofar) (Holds (es ++ e ∷ []) (sofar ++ puts)) (Came es) (Came (es ++ e ∷ [])) notes
        (λ t k h. (live_still shape es e none t (keeps t) (live_came shape t es h.0) ∙ h.0, said_none (created_in t) sofar puts (made t) ∙ h.1))
        (λ t k h. (live_before shape t es e (sym (came t) ∙ live_came shape t (es ++ e ∷ []) h.0) h.0, sym (said_none (created_in t) sofar puts (made t)) ∙ h.1))
        (λ t c. came_more es e t c) g

    none_put : timers_reaction shape es sofar e ≡ [] → ((t : TimerId) → list_any (arms_timer t) (es ++ e ∷ []) ≡ list_any (arms_timer t) es)
        → ((t : TimerId) → is_armed t es ≡ true → disarms_timer t e ≡ false) → has_ending shape (es ++ e ∷ []) ≡ false → Streamed (es ++ e ∷ []) (sofar ++ timers_reaction shape es sofar e)
    none_put nothing came keeps yet =
        let P : List (ℕ × QueueNote) → Type 0 = λ puts. Streamed (es ++ e ∷ []) (sofar ++ puts) in
        let Q : List (ℕ × QueueNote) → Type 0 = λ xs. IsLawful is_last (fits 1) (by_port queue xs) in
        let R : List (ℕ × QueueNote) → Type 0 = λ xs. Going (Holds (es ++ e ∷ []) xs) (Came (es ++ e ∷ [])) (by_port queue sofar) in
        subst P (sym nothing) (record {
          lawful = subst Q (sym (append-nil sofar)) before.lawful;
          least = ap (λ (xs : List (ℕ × QueueNote)). each_fits takes_least [] (by_port queue xs)) (append-nil sofar) ∙ before.least;
          finished = λ ended. absurd (both_ways (has_ending shape (es ++ e ∷ [])) yet ended);
          goes_on = λ none. subst (λ (xs : List (ℕ × QueueNote)). Going (Holds (es ++ e ∷ []) (sofar ++ [])) (Came (es ++ e ∷ [])) (by_port queue xs)) (sym (append-nil sofar))
              (unchanged [] (λ t. refl) came keeps none (by_port queue sofar) (before.goes_on (not_yet shape es e none)));
        })

    -- what goes to the queue, in two parts
    grown : (puts : List (ℕ × QueueNote)) → by_port queue (sofar ++ puts) ≡ by_port queue sofar ++ by_port queue puts
    grown puts = by_port-append queue sofar puts

    from_going : (puts : List (ℕ × QueueNote)) → timers_reaction shape es sofar e ≡ puts
        → has_ending shape (es ++ e ∷ []) ≡ false
        → Going (Holds (es ++ e ∷ []) (sofar ++ puts)) (Came (es ++ e ∷ [])) (by_port queue sofar ++ by_port queue puts)
        → Streamed (es ++ e ∷ []) (sofar ++ timers_reaction shape es sofar e)
    from_going puts is yet g =
        let P : List (ℕ × QueueNote) → Type 0 = λ xs. Streamed (es ++ e ∷ []) (sofar ++ xs) in
        subst P (sym is) (record {
          lawful = subst (IsLawful is_last (fits 1)) (sym (grown puts)) g.lawful;
          least = ap (each_fits takes_least []) (grown puts) ∙ g.least;
          finished = λ ended. absurd (both_ways (has_ending shape (es ++ e ∷ [])) yet ended);
          goes_on = λ none. subst (Going (Holds (es ++ e ∷ []) (sofar ++ puts)) (Came (es ++ e ∷ []))) (sym (grown puts)) g;
        })

  came_of : (t : TimerId) (es : List TimersEvent) (e : TimersEvent) → arms_timer t e ≡ false → list_any (arms_timer t) (es ++ e ∷ []) ≡ list_any (arms_timer t) es
  came_of t es e h = list_any-push (arms_timer t) es e ∙ ap (λ (b : Bool). list_any (arms_timer t) es || b) h ∙ or_none (list_any (arms_timer t) es)
    where
      or_none : (b : Bool) → (b || false) ≡ b
      or_none true = refl
      or_none false = refl

  -- the least slot of the queue that no live timer has is the least that no unfinished block has
  takes_least_here : (es : List TimersEvent) (sofar : List (ℕ × QueueNote)) (of : ℕ) → of ≡ queue → (notes : List QueueNote) → Going (Holds es sofar) (Came es) notes
      → is_taken (free_slot shape es sofar of) notes ≡ false → (u : TimerId) (tag : ObjectId) → takes_least notes (q.Create (free_slot shape es sofar of) (Timer u) make.Timer tag) ≡ true
  takes_least_here es sofar of here notes g free u tag =
      let s : ℕ = free_slot shape es sofar of in
      let slots : List ℕ = map (λ (b : Block). b.slot) (open_blocks notes) in
      let in_slots : (k : ℕ) → list_any (λ n. n == k) slots ≡ is_taken k notes = λ k. list_any-map (λ (n : ℕ). n == k) (λ (b : Block). b.slot) (open_blocks notes) in
      eq-eqb s (least_free slots) (sym (least_free-is slots s (in_slots s ∙ free) (λ k less. in_slots k ∙ below k less)))
    where
      below : (k : ℕ) → k < free_slot shape es sofar of → is_taken k notes ≡ true
      below k less =
          let there = some_passes (λ t. is_live shape t es && stands_at of k (place_of t sofar)) (puts newly_armed es) (sym (used-held shape es sofar of k) ∙ least_free-below (used_slots shape es sofar of) k less) in
          let parts = and_parts (is_live shape there.0 es) (stands_at of k (place_of there.0 sofar)) there.1 in
          any_weaker (λ b. b.slot == k && same_object b.object (Timer there.0)) (λ b. b.slot == k) (open_blocks notes) (λ b h. (and_parts (b.slot == k) (same_object b.object (Timer there.0)) h).0)
          (g.inside there.0 k (parts.0, stands_is of k (place_of there.0 sofar) parts.1 ∙ (λ i. Some (here i, k))))

  -- the first arming of a timer
  streamed_new : (es : List TimersEvent) (sofar : List (ℕ × QueueNote)) (u : TimerId) (of interval : ℕ) (tag : ObjectId) → Facts shape es sofar → Streamed es sofar
      → has_ending shape es ≡ false → list_any (arms_timer u) es ≡ false → Streamed (es ++ arms u of interval tag ∷ []) (sofar ++ timers_reaction shape es sofar (arms u of interval tag))
  streamed_new es sofar u of interval tag where_they_are before yet new =
      let e : TimersEvent = arms u of interval tag in
      let s : ℕ = free_slot shape es sofar of in
      let free : is_held shape es sofar of s ≡ false = free_slot-free shape es sofar of in
      let puts : List (ℕ × QueueNote) = (of, q.Create s (Timer u) make.Timer tag) ∷ [] in
      let none : has_ending shape (es ++ e ∷ []) ≡ false = has_ending-still shape es e (arms_no_end u of interval tag) ∙ yet in
      let g = before.goes_on yet in
      let armed : is_armed u (es ++ e ∷ []) ≡ true = is_armed-push u es e ∙ ap (λ (b : Bool). cond b (is_armed u es && not (disarms_timer u e)) (arms_timer u e)) new ∙ arms_timer-arms u u of interval tag ∙ same_timer-itself u in
      let live : is_live shape u (es ++ e ∷ []) ≡ true = and_from (is_armed u (es ++ e ∷ [])) (not (has_ending shape (es ++ e ∷ []))) armed (ap not none) in
      let place : place_of u (sofar ++ puts) ≡ Some (of, s) = place_new shape es sofar u of interval s tag new free where_they_are in
      let kept : (t : TimerId) (k : ℕ) → Holds es sofar t k → Holds (es ++ e ∷ []) (sofar ++ puts) t k =
      λ t k h. (live_still shape es e none t (λ a. refl) (live_came shape t es h.0) ∙ h.0, place_old shape es sofar u of interval s tag new free where_they_are t (live_came shape t es h.0) ∙ h.1) in
      let parts : (t : TimerId) → is_live shape t (es ++ e ∷ []) ≡ true → (u ≡ t) ⊎ (list_any (arms_timer t) es ≡ true) =
      λ t h. ⊎_elim (λ old. inr old) (λ now. inl (same_timer-is u t (sym (arms_timer-arms t u of interval tag) ∙ now)))
      (or_cases (list_any (arms_timer t) es) (arms_timer t e) (sym (list_any-push (arms_timer t) es e) ∙ live_came shape t (es ++ e ∷ []) h)) in
      let not_taken : of ≡ queue → is_taken s (by_port queue sofar) ≡ false = λ here. false_from_ne_true (is_taken s (by_port queue sofar)) (λ taken. let there = g.outside s taken in
      both_ways (is_held shape es sofar of s) free (held_by shape es sofar there.0 of s there.1.0 (there.1.1 ∙ (λ i. Some (sym here i, s))))) in
      let back : (t : TimerId) (k : ℕ) → list_any (arms_timer t) es ≡ true → Holds (es ++ e ∷ []) (sofar ++ puts) t k → Holds es sofar t k =
      λ t k c h. (live_before shape t es e c h.0, sym (place_old shape es sofar u of interval s tag new free where_they_are t c) ∙ h.1) in
      from_going es sofar e where_they_are before puts (react_arm shape es sofar u of interval tag new) none (⊎_elim
      (λ (here : of ≡ queue).
      let here_place : place_of u (sofar ++ puts) ≡ Some (queue, s) = place ∙ (λ i. Some (here i, s)) in
      subst (λ (xs : List QueueNote). Going (Holds (es ++ e ∷ []) (sofar ++ puts)) (Came (es ++ e ∷ [])) (by_port queue sofar ++ xs)) (ap (λ (b : Bool). cond b (q.Create s (Timer u) make.Timer tag ∷ []) []) (sym (eq-eqb of queue here)))
      (going_create (Holds es sofar) (Holds (es ++ e ∷ []) (sofar ++ puts)) (Came es) (Came (es ++ e ∷ [])) (by_port queue sofar) u s tag
      (not_taken here) (takes_least_here es sofar of here (by_port queue sofar) g (not_taken here) u tag)
      (λ c. both_ways (list_any (arms_timer u) es) new c)
      (λ t k h. ⊎_elim
      (λ (is : u ≡ t). inr (is, slot_is s k (sym here_place ∙ ap (λ (v : TimerId). place_of v (sofar ++ puts)) is ∙ h.1)))
      (λ c. inl (back t k c h)) (parts t h.0))
      kept (live, here_place) (λ t c. came_more es e t c) (live_came shape u (es ++ e ∷ []) live) g))
      (λ (away : of ≡ queue → ⊥).
      subst (λ (xs : List QueueNote). Going (Holds (es ++ e ∷ []) (sofar ++ puts)) (Came (es ++ e ∷ [])) (by_port queue sofar ++ xs)) (ap (λ (b : Bool). cond b (q.Create s (Timer u) make.Timer tag ∷ []) []) (sym (ne_eqb of queue away)))
      (subst (Going (Holds (es ++ e ∷ []) (sofar ++ puts)) (Came (es ++ e ∷ []))) (sym (append-nil (by_port queue sofar)))
      (going_conv (Holds es sofar) (Holds (es ++ e ∷ []) (sofar ++ puts)) (Came es) (Came (es ++ e ∷ [])) (by_port queue sofar) kept
      (λ t k h. ⊎_elim
      (λ (is : u ≡ t). absurd (away (queue_is of s k (sym place ∙ ap (λ (v : TimerId). place_of v (sofar ++ puts)) is ∙ h.1))))
      (λ c. back t k c h) (parts t h.0))
      (λ t c. came_more es e t c) g)))
      (cases_eq of queue))
    where
      slot_of : Option (ℕ × ℕ) → ℕ
      slot_of None = 0
      slot_of (Some r) = r.1

      queue_of : Option (ℕ × ℕ) → ℕ
      queue_of None = 0
      queue_of (Some r) = r.0

      slot_is : (a b : ℕ) → spot queue a ≡ spot queue b → a ≡ b
      slot_is a b h = ap slot_of h

      queue_is : (k a b : ℕ) → spot k a ≡ spot queue b → k ≡ queue
      queue_is k a b h = ap queue_of h

  -- a live timer is disarmed
  streamed_gone : (es : List TimersEvent) (sofar : List (ℕ × QueueNote)) (u : TimerId) → Facts shape es sofar → Streamed es sofar
      → has_ending shape es ≡ false → is_live shape u es ≡ true → Streamed (es ++ disarms u ∷ []) (sofar ++ timers_reaction shape es sofar (disarms u))
  streamed_gone es sofar u where_they_are before yet live =
      let e : TimersEvent = disarms u in
      let none : has_ending shape (es ++ e ∷ []) ≡ false = has_ending-still shape es e (disarms_no_end u) ∙ yet in
      let g = before.goes_on yet in
      let puts : List (ℕ × QueueNote) = gone sofar u in
      let made : (t : TimerId) → place_of t puts ≡ None = λ t. ap (place_of t) (sym (react_disarm shape es sofar u live)) ∙ made_none t shape es sofar e refl in
      let after : (t : TimerId) → list_any (arms_timer t) es ≡ true → is_live shape t (es ++ e ∷ []) ≡ (is_live shape t es && not (same_timer u t)) =
      λ t came. rw (armed_step t es e came, none, yet) (swap (is_armed t es) (not (same_timer u t))) in
      let back : (t : TimerId) (k : ℕ) → Holds (es ++ e ∷ []) (sofar ++ puts) t k → Holds es sofar t k =
      λ t k h. (live_before shape t es e (sym (came_of t es e refl) ∙ live_came shape t (es ++ e ∷ []) h.0) h.0, sym (said_none (created_in t) sofar puts (made t)) ∙ h.1) in
      let kept : (t : TimerId) (k : ℕ) → Holds es sofar t k → same_timer u t ≡ false → Holds (es ++ e ∷ []) (sofar ++ puts) t k =
      λ t k h apart. (after t (live_came shape t es h.0) ∙ and_from (is_live shape t es) (not (same_timer u t)) h.0 (ap not apart), said_none (created_in t) sofar puts (made t) ∙ h.1) in
      let dead : (t : TimerId) (k : ℕ) → Holds (es ++ e ∷ []) (sofar ++ puts) t k → same_timer u t ≡ false =
      λ t k h. not-true (same_timer u t) (and_parts (is_live shape t es) (not (same_timer u t)) (sym (after t (live_came shape t es (back t k h).0)) ∙ h.0)).1 in
      from_going es sofar e where_they_are before puts (react_disarm shape es sofar u live) none (⊎_elim
      (λ away. subst (λ (xs : List QueueNote). Going (Holds (es ++ e ∷ []) (sofar ++ puts)) (Came (es ++ e ∷ [])) (by_port queue sofar ++ xs)) (sym away.0)
      (subst (Going (Holds (es ++ e ∷ []) (sofar ++ puts)) (Came (es ++ e ∷ []))) (sym (append-nil (by_port queue sofar)))
      (going_conv (Holds es sofar) (Holds (es ++ e ∷ []) (sofar ++ puts)) (Came es) (Came (es ++ e ∷ [])) (by_port queue sofar)
      (λ t k h. kept t k h (false_from_ne_true (same_timer u t) (λ s. away.1 k (ap (λ (v : TimerId). place_of v sofar) (same_timer-is u t s) ∙ h.1))))
      back (λ t c. came_more es e t c) g)))
      (λ here. subst (λ (xs : List QueueNote). Going (Holds (es ++ e ∷ []) (sofar ++ puts)) (Came (es ++ e ∷ [])) (by_port queue sofar ++ xs)) (sym here.2)
      (going_conv (Holds (es ++ e ∷ []) (sofar ++ puts)) (Holds (es ++ e ∷ []) (sofar ++ puts)) (Came es) (Came (es ++ e ∷ [])) (by_port queue sofar ++ q.Gone here.0 (Timer u) ∷ []) (λ t k h. h) (λ t k h. h) (λ t c. came_more es e t c)
      (going_gone (Holds es sofar) (Holds (es ++ e ∷ []) (sofar ++ puts)) (Came es) (by_port queue sofar) u here.0 (live, here.1) back
      (λ t k h same. both_ways (same_timer u t) (dead t k h)
      (ap (same_timer u) (sym (where_they_are.apart u t live (back t k h).0 (here.1 ∙ (λ i. Some (queue, same i)) ∙ sym (back t k h).1))) ∙ same_timer-itself u))
      (λ t k h apart. kept t k h (false_from_ne_true (same_timer u t) (λ s. apart (slot_is here.0 k (sym here.1 ∙ ap (λ (v : TimerId). place_of v sofar) (same_timer-is u t s) ∙ h.1))))) g)))
      (at_place queue (λ t. place_of t sofar) (place_of u sofar) (λ slot. q.Gone slot (Timer u))))
    where
      swap : (a b : Bool) → ((a && b) && true) ≡ ((a && true) && b)
      swap true true = refl
      swap true false = refl
      swap false b = refl

      slot_of : Option (ℕ × ℕ) → ℕ
      slot_of None = 0
      slot_of (Some r) = r.1

      slot_is : (a b : ℕ) → spot queue a ≡ spot queue b → a ≡ b
      slot_is a b h = ap slot_of h

  -- a moment
  streamed_now : (es : List TimersEvent) (sofar : List (ℕ × QueueNote)) (moment : ℕ) → Facts shape es sofar → Streamed es sofar
      → has_ending shape es ≡ false → Streamed (es ++ now moment ∷ []) (sofar ++ timers_reaction shape es sofar (now moment))
  streamed_now es sofar moment where_they_are before yet =
      let e : TimersEvent = now moment in
      let at : ℕ = clock (es ++ e ∷ []) in
      let none : has_ending shape (es ++ e ∷ []) ≡ false = has_ending-still shape es e (now_no_end moment) ∙ yet in
      let puts : List (ℕ × QueueNote) = answer shape es sofar e in
      let is : timers_reaction shape es sofar e ≡ puts = no_ending shape es sofar e (no_turn shape es e (now_no_end moment)) in
      let made : (t : TimerId) → place_of t puts ≡ None = λ t. ap (place_of t) (sym is) ∙ made_none t shape es sofar e refl in
      from_going es sofar e where_they_are before puts is none
      (unchanged es sofar e where_they_are before puts made (λ t. came_of t es e refl) (λ t a. refl) none (by_port queue sofar ++ by_port queue puts)
      (going_ticks queue (λ t. place_of t sofar) (Holds es sofar) (Came es) at (firing shape es at) (by_port queue sofar)
      (λ t k member place. (live_firing es at t member, place)) (before.goes_on yet)))
    where
      live_firing : (xs : List TimersEvent) (at : ℕ) (t : TimerId) → has t (firing shape xs at) ≡ true → is_live shape t xs ≡ true
      live_firing xs at t member = sym (has-live shape t xs) ∙ (and_parts (nat_le (due t xs) at) (has t (live_timers shape xs))
          (sym (has-in_order (fires_first xs) t (filter (λ timer. nat_le (due timer xs) at) (live_timers shape xs)) ∙ has-filter (λ timer. nat_le (due timer xs) at) t (live_timers shape xs)) ∙ member)).1

  -- the ending
  streamed_end : (es : List TimersEvent) (sofar : List (ℕ × QueueNote)) (e : TimersEvent) → Facts shape es sofar → Streamed es sofar
      → has_ending shape es ≡ false → answer shape es sofar e ≡ [] → turns (has_ending shape) es e ≡ true → Streamed (es ++ e ∷ []) (sofar ++ timers_reaction shape es sofar e)
  streamed_end es sofar e where_they_are before yet none turned =
      let place : TimerId → Option (ℕ × ℕ) = λ t. place_of t sofar in
      let fins : List (ℕ × QueueNote) = map (λ k. (k, q.Fin)) (numbers_below (queues_of shape)) in
      let gones : List (ℕ × QueueNote) = flat_map (gone sofar) (live_timers shape es) in
      let all_gone : Going (Among queue place []) (Came es) (by_port queue sofar ++ by_port queue gones) =
      going_gones queue place (Came es) (live_timers shape es) (by_port queue sofar)
      (ascending-apart comes_first comes_first-order (live_timers shape es) (ascending-live shape es))
      (λ t u ht hu same. where_they_are.apart t u (sym (has-live shape t es) ∙ ht) (sym (has-live shape u es) ∙ hu) same)
      (going_conv (Holds es sofar) (Among queue place (live_timers shape es)) (Came es) (Came es) (by_port queue sofar)
      (λ t k h. (has-live shape t es ∙ h.0, h.1)) (λ t k h. (sym (has-live shape t es) ∙ h.0, h.1)) (λ t c. c) (before.goes_on yet)) in
      let split : by_port queue (sofar ++ (gones ++ fins)) ≡ (by_port queue sofar ++ by_port queue gones) ++ by_port queue fins =
      by_port-append queue sofar (gones ++ fins) ∙ ap (λ (xs : List QueueNote). by_port queue sofar ++ xs) (by_port-append queue gones fins) ∙ sym (append_assoc (by_port queue sofar) (by_port queue gones) (by_port queue fins)) in
      let P : List (ℕ × QueueNote) → Type 0 = λ xs. Streamed (es ++ e ∷ []) (sofar ++ xs) in
      let nobody : (t : TimerId) (k : ℕ) → Among queue place [] t k → ⊥ = λ t k h. both_ways false refl h.0 in
      let after : Over (by_port queue (sofar ++ (gones ++ fins))) = subst Over (sym split) (⊎_elim
      (λ no_fin. subst (λ (xs : List QueueNote). Over ((by_port queue sofar ++ by_port queue gones) ++ xs)) (sym no_fin)
      (subst Over (sym (append-nil (by_port queue sofar ++ by_port queue gones))) (over (Among queue place []) (Came es) (by_port queue sofar ++ by_port queue gones) nobody all_gone)))
      (λ one_fin. subst (λ (xs : List QueueNote). Over ((by_port queue sofar ++ by_port queue gones) ++ xs)) (sym one_fin)
      (over_fin (Among queue place []) (Came es) (by_port queue sofar ++ by_port queue gones) nobody all_gone))
      (fins_to queue (queues_of shape)).1) in
      subst P (sym (with_ending shape es sofar e turned none)) (record {
        lawful = after.lawful;
        least = after.least;
        goes_on = λ not_ended. absurd (both_ways (has_ending shape (es ++ e ∷ [])) not_ended (and_parts (has_ending shape (es ++ e ∷ [])) (not (has_ending shape es)) turned).0);
        finished = λ ended. after.finished;
      })

  -- an event at which nothing is put, unless the ending comes with it
  streamed_still : (es : List TimersEvent) (sofar : List (ℕ × QueueNote)) (e : TimersEvent) → Facts shape es sofar → Streamed es sofar → has_ending shape es ≡ false
      → answer shape es sofar e ≡ [] → ((t : TimerId) → list_any (arms_timer t) (es ++ e ∷ []) ≡ list_any (arms_timer t) es) → ((t : TimerId) → is_armed t es ≡ true → disarms_timer t e ≡ false)
      → Streamed (es ++ e ∷ []) (sofar ++ timers_reaction shape es sofar e)
  streamed_still es sofar e where_they_are before yet none came keeps = ⊎_elim
      (λ turned. streamed_end es sofar e where_they_are before yet none turned)
      (λ not_turned. none_put es sofar e where_they_are before (no_ending shape es sofar e not_turned ∙ none) came keeps
      (false_from_ne_true (has_ending shape (es ++ e ∷ [])) (λ now. both_ways (turns (has_ending shape) es e) not_turned (and_from (has_ending shape (es ++ e ∷ [])) (not (has_ending shape es)) now (ap not yet)))))
      (cases_Bool (turns (has_ending shape) es e))

  known_again : (u t : TimerId) (es : List TimersEvent) (of interval : ℕ) (tag : ObjectId) → list_any (arms_timer u) es ≡ true
      → list_any (arms_timer t) (es ++ arms u of interval tag ∷ []) ≡ list_any (arms_timer t) es
  known_again u t es of interval tag came = list_any-push (arms_timer t) es (arms u of interval tag) ∙ by_case (same_timer u t) refl
    where
      by_case : (b : Bool) → same_timer u t ≡ b → (list_any (arms_timer t) es || arms_timer t (arms u of interval tag)) ≡ list_any (arms_timer t) es
      by_case true s = let is = ap (λ (v : TimerId). list_any (arms_timer v) es) (sym (same_timer-is u t s)) ∙ came in or_left (list_any (arms_timer t) es) (arms_timer t (arms u of interval tag)) is ∙ sym is
      by_case false s = ap (λ (b : Bool). list_any (arms_timer t) es || b) (arms_timer-arms t u of interval tag ∙ s) ∙ or_none (list_any (arms_timer t) es)
        where
          or_none : (b : Bool) → (b || false) ≡ b
          or_none true = refl
          or_none false = refl

  streamed_yet : (es : List TimersEvent) (sofar : List (ℕ × QueueNote)) (e : TimersEvent) → Facts shape es sofar → Streamed es sofar → has_ending shape es ≡ false
      → Streamed (es ++ e ∷ []) (sofar ++ timers_reaction shape es sofar e)
  streamed_yet es sofar (arms u of interval tag) w before yet = ⊎_elim
      (λ came. streamed_still es sofar (arms u of interval tag) w before yet
      (ap (λ (b : Bool). cond b [] ((of, q.Create (free_slot shape es sofar of) (Timer u) make.Timer tag) ∷ [])) came) (λ t. known_again u t es of interval tag came) (λ t a. refl))
      (λ new. streamed_new es sofar u of interval tag w before yet new)
      (cases_Bool (list_any (arms_timer u) es))
  streamed_yet es sofar (disarms u) w before yet = ⊎_elim
      (λ live. streamed_gone es sofar u w before yet live)
      (λ dead. streamed_still es sofar (disarms u) w before yet (ap (λ (b : Bool). cond b (gone sofar u) []) dead) (λ t. came_of t es (disarms u) refl)
      (λ t a. false_from_ne_true (same_timer u t) (λ s. both_ways (is_live shape u es) dead
      (and_from (is_armed u es) (not (has_ending shape es)) (ap (λ (v : TimerId). is_armed v es) (same_timer-is u t s) ∙ a) (ap not yet)))))
      (cases_Bool (is_live shape u es))
  streamed_yet es sofar (now moment) w before yet = streamed_now es sofar moment w before yet
  streamed_yet es sofar (client_done c) w before yet = streamed_still es sofar (client_done c) w before yet refl (λ t. came_of t es (client_done c) refl) (λ t a. refl)
  streamed_yet es sofar (bye k) w before yet = streamed_still es sofar (bye k) w before yet refl (λ t. came_of t es (bye k) refl) (λ t a. refl)
  streamed_yet es sofar fin w before yet = streamed_still es sofar fin w before yet refl (λ t. came_of t es fin refl) (λ t a. refl)
  streamed_yet es sofar no_event w before yet = streamed_still es sofar no_event w before yet refl (λ t. came_of t es no_event refl) (λ t a. refl)

  -- after the ending nothing more comes
  streamed_late : (es : List TimersEvent) (sofar : List (ℕ × QueueNote)) (e : TimersEvent) → Streamed es sofar → has_ending shape es ≡ true → is_arming e ≡ false
      → Streamed (es ++ e ∷ []) (sofar ++ timers_reaction shape es sofar e)
  streamed_late es sofar e before ended no_arm =
      let P : List (ℕ × QueueNote) → Type 0 = λ xs. Streamed (es ++ e ∷ []) (sofar ++ xs) in
      let Q : List (ℕ × QueueNote) → Type 0 = λ xs. IsLawful is_last (fits 1) (by_port queue xs) in
      subst P (sym (quiet_late shape es sofar e ended no_arm)) (record {
        lawful = subst Q (sym (append-nil sofar)) before.lawful;
        least = ap (λ (xs : List (ℕ × QueueNote)). each_fits takes_least [] (by_port queue xs)) (append-nil sofar) ∙ before.least;
        finished = λ now. ap (λ (xs : List (ℕ × QueueNote)). open_blocks (by_port queue xs)) (append-nil sofar) ∙ before.finished ended;
        goes_on = λ none. absurd (both_ways (has_ending shape (es ++ e ∷ [])) none (has_ending-keeps shape es e ended));
      })

  timely_before : (es : List TimersEvent) (e : TimersEvent) → IsTimely shape (es ++ e ∷ []) → IsTimely shape es
  timely_before es e timely = record { each = λ before x after is ended. timely.each before x (after ++ e ∷ []) (ap (λ (xs : List TimersEvent). xs ++ e ∷ []) is ∙ append_assoc before (x ∷ after) (e ∷ [])) ended }

  streamed_start : Streamed [] []
  streamed_start = record {
    lawful = IsLawful-start is_last (fits 1);
    least = refl;
    finished = λ ended. refl;
    goes_on = λ none. record {
      lawful = IsLawful-start is_last (fits 1);
      least = refl;
      no_last = refl;
      inside = λ t k h. absurd (both_ways false refl h.0);
      outside = λ k h. absurd (both_ways false refl h);
      created = λ t h. h;
    };
  }

  pub streamed : (es : List TimersEvent) → IsTimely shape es → Streamed es (sofar_of es)
  streamed es = by_entries (λ (xs : List TimersEvent). IsTimely shape xs → Streamed xs (sofar_of xs)) (λ timely. streamed_start)
      (λ xs e ih timely. subst (λ (ps : List (ℕ × QueueNote)). Streamed (xs ++ e ∷ []) ps) (sym (all_puts-push (timers_reaction shape) xs e)) (⊎_elim
      (λ ended. streamed_late xs (sofar_of xs) e (ih (timely_before xs e timely)) ended (timely.each xs e [] refl ended))
      (λ yet. streamed_yet xs (sofar_of xs) e (facts shape xs) (ih (timely_before xs e timely)) yet)
      (cases_Bool (has_ending shape xs)))) es
