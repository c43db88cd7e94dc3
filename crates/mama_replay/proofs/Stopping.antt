-- Where the entries of a legal record have no order, its passes stop at the first actor that cannot go on.
use Rattle.std.specs.Prelude.{slice_get, slice_index_or, nat_lt, option_map}
use Rattle.std.proofs.Common.{◌≡◌, ℕ, zero, suc, ◌+◌, ◌<◌, ◌≤◌, Bool, true, false, cond, List, [], ◌∷◌, ◌++◌, length, map, get_or, replicate, Option, None, Some, refl, sym, ◌∙◌, ap, subst, arith, ⊎_elim}
use Rattle.std.proofs.lemmas.Bool.{le-ltb}
use Rattle.std.proofs.lemmas.List.{length-replicate}
use Rattle.mama_journal.specs.Journal.{numbers_below}
use Rattle.mama_event.specs.declared.publisher_entry.PublisherEntry.{PublisherEntry}
use Rattle.mama_event.specs.Ports.{clients_of, publishers_of, queues_of}
use Rattle.mama_check_order.specs.Search.{entries_of}
use Rattle.mama_check_order.specs.declared.order.Need.{Need}
use Rattle.mama_check_order.proofs.Searches.{left}
use Rattle.mama_script.specs.Script.{ScriptData}
use Rattle.mama_script.specs.Tree.{IsShaped}
use Rattle.mama_record.specs.RunData.{RunData}
use Rattle.mama_rules_rounds.specs.Stage.{Stage}
use Rattle.mama_rules_rounds.specs.Sections.{setting_of}
use Rattle.mama_rules_legal.specs.Legal.{IsLegal}
use Rattle.mama_check.specs.Causal.{publisher_actor, bridge_actor, timers_actor, queue_actor, publisher_needs, bridge_needs, timers_needs, queue_needs, all_needs, actors_to_bridge, all_to_bridge, actors_to_timers, all_to_timers, actors_to_queue, all_to_queue}
use Rattle.mama_check.specs.declared.verdict.Actor.{Actor}
use Rattle.mama_check.specs.declared.verdict.Actor.TheVariants as actor
use Rattle.mama_check.proofs.Lanes.{publishers_are}
use Rattle.mama_check.proofs.Numbers.{are_by_number}
use Rattle.mama_check_puts.specs.Puts.{bridge_put_to_publisher}
use Rattle.mama_laws_causal.proofs.Needs.{needs_count, sender_count}
use Rattle.mama_replay.specs.Followed.{at_start, after_steps}
use Rattle.mama_replay.specs.Passes.{by_itself, in_order, passes, first_left, left_by, IsStuck}
use Rattle.mama_check_order.specs.Turns.{IsStop}
use Rattle.mama_replay.specs.Needs as steps
use Rattle.mama_check_order.proofs.Orders.{reached_first}
use Rattle.mama_replay.proofs.Counts.{within_at, at_within, is_ready}
use Rattle.mama_replay.proofs.Following.{Stands, stands_same, bridge_moves, timers_moves, queue_moves, step_by}
use Rattle.mama_replay.proofs.FollowingOwn.{own_step, publisher_moves, client_moves}
use Rattle.mama_replay.proofs.Actors.{count_of_numbers, both_count, order_count}
use Rattle.mama_replay.proofs.Halting.{Each, each_append, each_number, made_of, IsMoving, IsHalted, halts, holds_still, made_here, made_before, is_left, first_stuck}
use Rattle.mama_replay.proofs.Ending.{all_count, steps_count, plain_count, stands_first}
use Rattle.mama_replay.proofs.Reordered.{client_wants, free_steps}

-- ---- one step for each entry

taken_one : {N : Type 0} (who : Actor) (journal : List (ℕ × N)) (k : ℕ) → k < length journal → length (step_by who (slice_get journal k)) ≡ 1
taken_one who journal k low = let found = at_within journal k low in ap (λ (o : Option _). length (step_by who o)) found.is

own_one : (p : ℕ) (journal : List PublisherEntry) (k : ℕ) → k < length journal → length (own_step p (slice_get journal k)) ≡ 1
own_one p journal k low = let found = at_within journal k low in ap (λ (o : Option PublisherEntry). length (own_step p o)) found.is

-- ---- numbers

sum_one : (a b : ℕ) → a ≡ b → 0 + a ≡ 0 + b
sum_one a b same = omega (arith, same)

sum_two : (c p : ℕ) (cs ps : List Actor) → length cs ≡ c → length ps ≡ p → c + p ≡ 0 + length (cs ++ ps)
sum_two c p cs ps many_c many_p = let both = both_count c p cs ps many_c many_p in omega (arith, both)

-- ---- what is left, by counts

left_as : {X : Type 0} (who : Actor) (recorded so_far : List X) (n many : ℕ) → length so_far ≡ n → length recorded ≡ many
    → option_map {U = Actor × ℕ} (λ (k : ℕ). (who, k)) (first_left recorded so_far) ≡ cond (nat_lt n many) (Some (who, suc n)) None
left_as who recorded so_far n many made count =
    by_test (nat_lt (length so_far) (length recorded))
    ∙ ap (λ (k : ℕ). cond (nat_lt k (length recorded)) (Some (who, suc k)) None) made
    ∙ ap (λ (k : ℕ). cond (nat_lt n k) (Some (who, suc n)) None) count
  where
    by_test : (t : Bool) → option_map {U = Actor × ℕ} (λ (k : ℕ). (who, k)) (cond t (Some (suc (length so_far))) None) ≡ cond t (Some (who, suc (length so_far))) None
    by_test true = refl
    by_test false = refl

module _ (script : ScriptData) (run : RunData) (shaped : IsShaped script) (legal : IsLegal script run) where
  abbrev wants : List (List (Option Need))
  wants = steps.step_needs script.clients (all_needs script run)

  abbrev Moving : Actor → ℕ → Type 0
  Moving who a = IsMoving script run (steps.step_needs script.clients (all_needs script run)) who a

  publisher_len : (p : ℕ) → p < publishers_of script.shape → length (entries_of wants (publisher_actor script.shape p)) ≡ length (slice_index_or run.publishers p [])
  publisher_len p low = plain_count script run shaped legal (publisher_actor script.shape p) (publisher_needs script run p) (length (slice_index_or run.publishers p [])) (omega arith) (omega (arith, all_count script run)) ((are_by_number script run).publishers p low)
      (sender_count (bridge_actor script.shape) (bridge_put_to_publisher script.shape run.bridge p) (slice_index_or run.publishers p []))

  bridge_len : length (entries_of wants (bridge_actor script.shape)) ≡ length run.bridge
  bridge_len = plain_count script run shaped legal (bridge_actor script.shape) (bridge_needs script run) (length run.bridge) (omega arith) (omega (arith, all_count script run)) (are_by_number script run).bridge
      (needs_count (actors_to_bridge script.shape) (all_to_bridge script run) run.bridge)

  timers_len : length (entries_of wants (timers_actor script.shape)) ≡ length run.timers
  timers_len = plain_count script run shaped legal (timers_actor script.shape) (timers_needs script run) (length run.timers) (omega arith) (omega (arith, all_count script run)) (are_by_number script run).timers
      (needs_count (actors_to_timers script.shape) (all_to_timers script run) run.timers)

  queue_len : (q : ℕ) → q < queues_of script.shape → length (entries_of wants (queue_actor script.shape q)) ≡ length (slice_index_or run.queues q [])
  queue_len q low = plain_count script run shaped legal (queue_actor script.shape q) (queue_needs script run q) (length (slice_index_or run.queues q [])) (omega arith) (omega (arith, all_count script run)) ((are_by_number script run).queues q low)
      (needs_count (actors_to_queue script.shape) (all_to_queue script run q) (slice_index_or run.queues q []))

  -- ---- the actors in their order

  abbrev clients_in : List Actor
  clients_in = map (λ c. actor.Client c) (numbers_below (clients_of script.shape))

  abbrev publishers_in : List Actor
  publishers_in = map (λ p. actor.Publisher p) (numbers_below (publishers_of script.shape))

  abbrev others_in : List Actor
  others_in = actor.Bridge ∷ actor.Timers ∷ map (λ q. actor.Queue q) (numbers_below (queues_of script.shape))

  in_order_of : (P : Actor → ℕ → Type 0) → ((c : ℕ) → c < clients_of script.shape → P (actor.Client c) c) → ((p : ℕ) → p < publishers_of script.shape → P (actor.Publisher p) (publisher_actor script.shape p))
      → P actor.Bridge (bridge_actor script.shape) → P actor.Timers (timers_actor script.shape) → ((q : ℕ) → q < queues_of script.shape → P (actor.Queue q) (queue_actor script.shape q)) → Each P 0 (in_order script.shape)
  in_order_of P clients publishers bridge timers queues =
      let third : timers_actor script.shape ≡ suc (bridge_actor script.shape) = omega arith in
      each_append P 0 (clients_in ++ publishers_in) others_in
      (each_append P 0 clients_in publishers_in
      (each_number P 0 (λ c. actor.Client c) (clients_of script.shape) (λ c low. let place : c ≡ 0 + c = omega arith in subst (λ (n : ℕ). P (actor.Client c) n) place (clients c low)))
      (subst (λ (n : ℕ). Each P n publishers_in) (sum_one (clients_of script.shape) (length clients_in) (sym (count_of_numbers (clients_of script.shape) (λ c. actor.Client c))))
      (each_number P (0 + clients_of script.shape) (λ p. actor.Publisher p) (publishers_of script.shape) (λ p low. let place : publisher_actor script.shape p ≡ 0 + clients_of script.shape + p = omega arith in subst (λ (n : ℕ). P (actor.Publisher p) n) place (publishers p low)))))
      (subst (λ (n : ℕ). Each P n others_in)
      (sum_two (clients_of script.shape) (publishers_of script.shape) clients_in publishers_in (count_of_numbers (clients_of script.shape) (λ c. actor.Client c)) (count_of_numbers (publishers_of script.shape) (λ p. actor.Publisher p)))
      (bridge, (subst (λ (n : ℕ). P actor.Timers n) third timers, each_number P (suc (suc (bridge_actor script.shape))) (λ q. actor.Queue q) (queues_of script.shape) (λ q low. let place : queue_actor script.shape q ≡ suc (suc (bridge_actor script.shape)) + q = omega arith in subst (λ (n : ℕ). P (actor.Queue q) n) place (queues q low)))))

  all_moving : Each Moving 0 (in_order script.shape)
  all_moving = in_order_of Moving
      (λ c low. record {
        steps = λ k. by_itself (actor.Client c) ∷ [];
        one = λ k inside. refl;
        moves = λ made s stands. client_moves script run shaped legal.edges (all_count script run) (publishers_are script shaped) made s stands c low;
      })
      (λ p low. record {
        steps = λ k. own_step p (slice_get (slice_index_or run.publishers p []) k);
        one = λ k inside. own_one p (slice_index_or run.publishers p []) k (subst (λ (n : ℕ). k < n) (publisher_len p low) inside);
        moves = λ made s stands. publisher_moves script run shaped legal.edges (all_count script run) (publishers_are script shaped) made s stands p low;
      })
      (record {
        steps = λ k. step_by actor.Bridge (slice_get run.bridge k);
        one = λ k inside. taken_one actor.Bridge run.bridge k (subst (λ (n : ℕ). k < n) bridge_len inside);
        moves = λ made s stands. bridge_moves script run shaped legal.edges (all_count script run) made s stands;
      })
      (record {
        steps = λ k. step_by actor.Timers (slice_get run.timers k);
        one = λ k inside. taken_one actor.Timers run.timers k (subst (λ (n : ℕ). k < n) timers_len inside);
        moves = λ made s stands. timers_moves script run shaped legal.edges (all_count script run) made s stands;
      })
      (λ q low. record {
        steps = λ k. step_by (actor.Queue q) (slice_get (slice_index_or run.queues q []) k);
        one = λ k inside. taken_one (actor.Queue q) (slice_index_or run.queues q []) k (subst (λ (n : ℕ). k < n) (queue_len q low) inside);
        moves = λ made s stands. queue_moves script run shaped legal.edges (all_count script run) made s stands q low;
      })

  pub few : length (steps.step_needs script.clients (all_needs script run)) ≤ length (in_order script.shape)
  few = omega (arith, steps_count script.clients 0 (all_needs script run), all_count script run, order_count script.shape)

  zeros : (n b : ℕ) → get_or (replicate n zero) b zero ≡ zero
  zeros zero b = refl
  zeros (suc n) zero = refl
  zeros (suc n) (suc b) = zeros n b

  halted : IsHalted script run (steps.step_needs script.clients (all_needs script run)) (at_start script run.clients)
  halted =
      let none : List ℕ = replicate (length (steps.step_needs script.clients (all_needs script run))) 0 in
      halts script run (steps.step_needs script.clients (all_needs script run)) all_moving few (left (steps.step_needs script.clients (all_needs script run)) none) none [] (at_start script run.clients) (omega arith) (length-replicate (length (steps.step_needs script.clients (all_needs script run))) 0)
      (reached_first (steps.step_needs script.clients (all_needs script run)) (length (steps.step_needs script.clients (all_needs script run))))
      (stands_same script run (λ a. 0) (made_of none) (at_start script run.clients) (λ b. sym (zeros (length (steps.step_needs script.clients (all_needs script run))) b)) (stands_first script run shaped legal))

  -- ---- who has an entry left

  module _ (made : List ℕ) (s : Stage) (stands : Stands script run (made_of made) s) (still : (b : ℕ) → is_ready (steps.step_needs script.clients (all_needs script run)) (made_of made) b ≡ false) where
    client_left : (c : ℕ) → c < clients_of script.shape → None ≡ is_left script run wants made (actor.Client c) c
    client_left c low = sym (ap (λ (t : Bool). cond t (Some (actor.Client c, suc (made_of made c))) None) (le-ltb (made_of made c) (length (entries_of wants c)) whole))
      where
        no_some : {need : Need} → Some None ≡ Some (Some need) → ⊥
        no_some is = cc

        whole : length (entries_of wants c) ≤ made_of made c
        whole = ⊎_elim
            (λ past. past)
            (λ stuck.
            let inside = within_at (entries_of wants c) (made_of made c) (Some stuck.0) stuck.1 in
            let free = ap (λ (os : List (Option Need)). slice_get os (made_of made c)) (client_wants script run shaped c low) ∙ free_steps (slice_index_or script.clients c []) (made_of made c) (subst (λ (n : ℕ). made_of made c < n) (ap (λ (os : List (Option Need)). length os) (client_wants script run shaped c low)) inside) in
            absurd (no_some (sym free ∙ stuck.1)))
            (holds_still script run wants made still c)

    all_left : Each (λ who b. left_by run s who ≡ is_left script run wants made who b) 0 (in_order script.shape)
    all_left = in_order_of (λ who b. left_by run s who ≡ is_left script run wants made who b)
        client_left
        (λ p low. left_as (actor.Publisher p) (slice_index_or run.publishers p []) (slice_index_or s.world.publishers p []) (made_of made (publisher_actor script.shape p)) (length (entries_of wants (publisher_actor script.shape p))) (stands.entries.publishers_made p low) (sym (publisher_len p low)))
        (left_as actor.Bridge run.bridge s.world.bridge (made_of made (bridge_actor script.shape)) (length (entries_of wants (bridge_actor script.shape))) stands.entries.bridge_made (sym bridge_len))
        (left_as actor.Timers run.timers s.world.timers (made_of made (timers_actor script.shape)) (length (entries_of wants (timers_actor script.shape))) stands.entries.timers_made (sym timers_len))
        (λ q low. left_as (actor.Queue q) (slice_index_or run.queues q []) (slice_index_or s.world.queues q []) (made_of made (queue_actor script.shape q)) (length (entries_of wants (queue_actor script.shape q))) (stands.entries.queues_made q low) (sym (queue_len q low)))

  -- the passes stop where the search stopped
  pub stuck_is : (number entry : ℕ) (who : Actor) → IsStop (steps.step_needs script.clients (all_needs script run)) number entry → slice_get (in_order script.shape) number ≡ Some who → IsStuck script run who (suc entry)
  stuck_is number entry who stop at =
      let here = made_here script run (steps.step_needs script.clients (all_needs script run)) number entry stop halted.made halted.turns halted.reached halted.still in
      let inside = stop.inside in
      let place : 0 + number ≡ number = omega arith in
      record {
        steps = passes (setting_of script) run halted.count (at_start script run.clients);
        made = record { count = halted.count; made = refl; ended = halted.ended };
        first = first_stuck script run (steps.step_needs script.clients (all_needs script run)) (after_steps (setting_of script) (at_start script run.clients) (passes (setting_of script) run halted.count (at_start script run.clients))) halted.made 0 (in_order script.shape)
            (all_left halted.made (after_steps (setting_of script) (at_start script run.clients) (passes (setting_of script) run halted.count (at_start script run.clients))) halted.stands halted.still) number who at
            (λ b low. made_before script run (steps.step_needs script.clients (all_needs script run)) number entry stop halted.made halted.turns halted.reached halted.still b (omega arith))
            (subst (λ (n : ℕ). made_of halted.made n < length (entries_of (steps.step_needs script.clients (all_needs script run)) n)) (sym place) (omega (arith, here, inside)))
            ∙ ap (λ (n : ℕ). Some (who, suc (made_of halted.made n))) place
            ∙ ap (λ (n : ℕ). Some (who, suc n)) here;
      }
