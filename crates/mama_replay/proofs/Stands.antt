-- Where a run stands that is followed: how many steps each actor has made, and what waits on each lane by that.
use Rattle.std.specs.Prelude.{◌==◌, ◌-◌, slice_get, slice_index_or, nat_lt, option_map}
use Rattle.std.specs.List.{flat_map}
use Rattle.std.proofs.Common.{◌≡◌, ℕ, zero, suc, ◌+◌, ◌<◌, ◌≤◌, Bool, true, false, cond, List, [], ◌∷◌, ◌++◌, length, map, take, Option, None, Some, refl, sym, ◌∙◌, ap, subst, arith, ◌⊎◌, inl, inr, append-nil, append_assoc}
use Rattle.std.proofs.lemmas.Bool.{eq-eqb}
use Rattle.std.proofs.lemmas.List.{length-map, length-append, get_or-map, get_or_past}
use Rattle.mama_journal.specs.Journal.{puts}
use Rattle.mama_journal.specs.Lane.{by_port}
use Rattle.mama_event.specs.declared.shape.Shape.{Shape}
use Rattle.mama_event.specs.declared.to_queue.QueueNote.{QueueNote}
use Rattle.mama_event.specs.Ports.{clients_of, publishers_of, queues_of}
use Rattle.mama_event.specs.Publisher.{publisher_puts_at}
use Rattle.mama_check_order.specs.Search.{entries_of}
use Rattle.mama_check_order.specs.Numbered.{second, numbered, parted, steps_numbered}
use Rattle.mama_check_order.specs.declared.order.Need.{Need}
use Rattle.mama_check_order.specs.Taken.{entry_of, needs_of}
use Rattle.mama_check_order.proofs.Numbered.{numbered_puts, parted_puts}
use Rattle.mama_rules_services.specs.Bridge.{BridgePut, bridge_puts_at}
use Rattle.mama_rules_services.specs.Timers.{timers_puts_at}
use Rattle.mama_rules_services.specs.Ports.{ByBridge, ByTimers, bridge_putter, timers_putter, queue_putter}
use Rattle.mama_rules_queue.specs.Queue.{QueuePut}
use Rattle.mama_script.specs.declared.client.ClientLine.{ClientLine}
use Rattle.mama_script.specs.Script.{ScriptData}
use Rattle.mama_script.specs.Tree.{IsShaped}
use Rattle.mama_record.specs.RunData.{RunData}
use Rattle.mama_rules_rounds.specs.Client.{at_first, client_steps, steps_from, bridge_part, timers_part}
use Rattle.mama_rules_rounds.specs.Setting.{Setting, no_section, puts_on, publisher_part, queue_part, timer_part}
use Rattle.mama_rules_rounds.specs.World.{World}
use Rattle.mama_rules_rounds.specs.Sections.{all_client_steps, setting_of}
use Rattle.mama_rules_legal.specs.Edges.{all_steps, put_on_bridge, put_on_timers, put_to_publisher, put_on_queue}
use Rattle.mama_laws_legal.proofs.Putters.{by_bridge_port, by_timers_port, by_queue_port}
use Rattle.mama_check_puts.specs.Puts.{AreLists, tick_part, bridge_put_to_publisher, bridge_put_to_timers}
use Rattle.mama_check_puts.specs.Client.{line_puts}
use Rattle.mama_check.specs.Puts.{client_to_bridge, client_to_timers, publisher_to_bridge, queue_to_bridge, queue_to_timers}
use Rattle.mama_check.specs.Causal.{publisher_actor, bridge_actor, timers_actor, queue_actor, of_each, actors_to_bridge, all_to_bridge, actors_to_timers, all_to_timers, actors_to_queue, all_to_queue}
use Rattle.mama_check.specs.declared.verdict.Actor.{Actor}
use Rattle.mama_check.proofs.Lanes.{AreParts, parts, steps_at, bridge_way, timers_way}
use Rattle.mama_check.proofs.Causes.{length_of_each, at_of_each}
use Rattle.mama_check.proofs.Numbers.{are_by_port}
use Rattle.mama_laws_causal.proofs.Numbers.{Begins}
use Rattle.mama_laws_causal.proofs.Needs.{need_of, needs_count, needs_next}
use Rattle.mama_replay.specs.Followed.{moving}
use Rattle.mama_replay.specs.Passes.{where_there, taking_entry, by_port_of, next_of}
use Rattle.mama_replay.specs.Needs.{numbers_from, step_numbers, all_numbers, renumbered}
use Rattle.mama_replay.proofs.Counts.{is_met, may_come, is_ready, at_within}
use Rattle.mama_replay.proofs.Splits.{IsSplit, some_there, waits_made, waits_next, journal_split, whole_split, lines_split, nothing_split}

-- ---- what an entry needs, by the numbers of the steps

-- the entry of an actor that was made, by the steps that were
abbrev pub entry_made : List (List ℕ) → (ℕ → ℕ) → ℕ → ℕ → Bool
entry_made numbers made actor j = nat_lt (slice_index_or (slice_index_or numbers actor []) j j) (made actor)

-- of an actor that is no client, an entry is a step
pub by_entry : (numbers : List (List ℕ)) (made : ℕ → ℕ) (actor n : ℕ) → length numbers ≤ actor → made actor ≡ n → (j : ℕ) → entry_made numbers made actor j ≡ nat_lt j n
by_entry numbers made actor n past count j =
    ap (λ (own : List ℕ). nat_lt (slice_index_or own j j) (made actor)) (get_or_past numbers actor [] past) ∙ ap (nat_lt j) count

-- ---- an actor that takes by ports

pub next_after : {E : Type 0} (so_far whole : List E) (e : E) (rest : List E) → so_far ++ e ∷ rest ≡ whole → slice_get whole (length so_far) ≡ Some e
next_after {E} so_far whole e rest is = ap (λ (es : List E). slice_get es (length so_far)) (sym is) ∙ go so_far
  where
    go : (xs : List E) → slice_get (xs ++ e ∷ rest) (length xs) ≡ Some e
    go [] = refl
    go (x ∷ xs) = go xs

pub none_after : {E : Type 0} (so_far whole : List E) → so_far ++ [] ≡ whole → slice_get whole (length so_far) ≡ None
none_after {E} so_far whole is = ap (λ (es : List E). slice_get es (length so_far)) (sym (sym (append-nil so_far) ∙ is)) ∙ go so_far
  where
    go : (xs : List E) → slice_get xs (length xs) ≡ None
    go [] = refl
    go (x ∷ xs) = go xs

pub get_mapped : {X Y : Type 0} (f : X → Y) (xs : List X) (k : ℕ) → slice_get (map f xs) k ≡ option_map f (slice_get xs k)
get_mapped f [] zero = refl
get_mapped f [] (suc k) = refl
get_mapped f (x ∷ xs) zero = refl
get_mapped f (x ∷ xs) (suc k) = get_mapped f xs k

-- It can take the next event of the journal: what it has taken and the rest, and the event first of its edge.
pub record Takes {N : Type 0} (so_far whole lane : List (ℕ × N)) (ready : Bool) : Type 0 where
  pub entry : ℕ × N
  pub rest : List (ℕ × N)
  pub next : so_far ++ entry ∷ rest ≡ whole
  pub waiting : List N
  pub there : by_port entry.0 lane ≡ entry.1 ∷ waiting
  pub is : ready ≡ true

-- It cannot: it has no more entries, or nothing waits on the edge of the next.
pub record Rests {N : Type 0} (who : Actor) (so_far whole lane : List (ℕ × N)) (ready : Bool) : Type 0 where
  pub none : taking_entry who lane (next_of whole so_far) ≡ []
  pub is : ready ≡ false

module _ {N : Type 0} (who : Actor) (numbers : List (List ℕ)) (made : ℕ → ℕ) (actors : List ℕ) (lists : List (List (ℕ × N))) (put : ℕ → List N) (so_far whole lane : List (ℕ × N)) (needs : List (List (Option Need))) (a : ℕ)
    (begins : Begins so_far whole) (count : length so_far ≡ made a)
    (split : (port : ℕ) → IsSplit (entry_made numbers made (slice_index_or actors port 0)) (slice_index_or lists port []) (put port))
    (holds : (port : ℕ) → by_port port so_far ++ by_port port lane ≡ put port)
    (total : (port : ℕ) → by_port port whole ≡ map second (slice_index_or lists port []))
    (own : entries_of needs a ≡ map (renumbered numbers) (needs_of actors lists whole)) where
  -- what it takes next, as a need
  ready_by : (e : ℕ × N) (rest : List (ℕ × N)) → so_far ++ e ∷ rest ≡ whole → is_ready needs made a ≡ is_met made (renumbered numbers (need_of actors lists so_far e))
  ready_by e rest is =
      ap (λ (n : ℕ). may_come made (slice_get (entries_of needs a) n)) (sym count)
      ∙ ap (λ (own : List (Option Need)). may_come made (slice_get own (length so_far))) own
      ∙ ap (may_come made) (get_mapped (renumbered numbers) (needs_of actors lists whole) (length so_far)
      ∙ ap (option_map (renumbered numbers)) (needs_next actors lists whole so_far e (rest, append_assoc so_far (e ∷ []) rest ∙ is)))

  by_port_next : (e : ℕ × N) (rest : List (ℕ × N)) → so_far ++ e ∷ rest ≡ whole → by_port e.0 whole ≡ by_port e.0 so_far ++ e.1 ∷ by_port e.0 rest
  by_port_next e rest is = ap (by_port e.0) (sym is) ∙ go so_far
    where
      here : by_port e.0 (e ∷ rest) ≡ e.1 ∷ by_port e.0 rest
      here = ap (λ (b : Bool). cond b (e.1 ∷ by_port e.0 rest) (by_port e.0 rest)) (same e.0)
        where
          same : (n : ℕ) → (n == n) ≡ true
          same n = eq-eqb n n refl

      go : (xs : List (ℕ × N)) → by_port e.0 (xs ++ e ∷ rest) ≡ by_port e.0 xs ++ e.1 ∷ by_port e.0 rest
      go [] = here
      go (x ∷ xs) = by_test (x.0 == e.0) (go xs)
        where
          by_test : (b : Bool) → by_port e.0 (xs ++ e ∷ rest) ≡ by_port e.0 xs ++ e.1 ∷ by_port e.0 rest
              → cond b (x.1 ∷ by_port e.0 (xs ++ e ∷ rest)) (by_port e.0 (xs ++ e ∷ rest)) ≡ cond b (x.1 ∷ by_port e.0 xs) (by_port e.0 xs) ++ e.1 ∷ by_port e.0 rest
          by_test true ih = ap (λ (vs : List N). x.1 ∷ vs) ih
          by_test false ih = ih

  pub takes_or_rests : Takes so_far whole lane (is_ready needs made a) ⊎ Rests who so_far whole lane (is_ready needs made a)
  takes_or_rests = by_rest begins.0 begins.1
    where
      by_rest : (rest : List (ℕ × N)) → so_far ++ rest ≡ whole → Takes so_far whole lane (is_ready needs made a) ⊎ Rests who so_far whole lane (is_ready needs made a)
      by_rest [] is = inr (record {
        none = ap (taking_entry who lane) (none_after so_far whole is);
        is = ap (λ (n : ℕ). may_come made (slice_get (entries_of needs a) n)) (sym count)
            ∙ ap (λ (own : List (Option Need)). may_come made (slice_get own (length so_far))) own
            ∙ ap (may_come made) (get_mapped (renumbered numbers) (needs_of actors lists whole) (length so_far)
            ∙ ap (option_map (renumbered numbers)) (past_end (needs_of actors lists whole) (length so_far)
            (needs_count actors lists whole ∙ ap (λ (es : List (ℕ × N)). length es) (sym (sym (append-nil so_far) ∙ is)))));
      })
        where
          past_end : (os : List (Option Need)) (n : ℕ) → length os ≡ n → slice_get os n ≡ None
          past_end [] zero is = refl
          past_end [] (suc n) is = refl
          past_end (o ∷ os) zero is = absurd (omega (arith, is))
          past_end (o ∷ os) (suc n) is = past_end os n (omega (arith, is))
      by_rest (e ∷ rest) is = by_waiting (by_port e.0 lane) refl
        where
          k : ℕ
          k = length (by_port e.0 so_far)

          list : List (ℕ × N)
          list = slice_index_or lists e.0 []

          total_next : map second (slice_index_or lists e.0 []) ≡ by_port e.0 so_far ++ e.1 ∷ by_port e.0 rest
          total_next = sym (total e.0) ∙ by_port_next e rest is

          inside : length (by_port e.0 so_far) < length (slice_index_or lists e.0 [])
          inside =
              let many : length (map second (slice_index_or lists e.0 [])) ≡ length (slice_index_or lists e.0 []) = length-map (slice_index_or lists e.0 []) second in
              let so : length (map second (slice_index_or lists e.0 [])) ≡ length (by_port e.0 so_far) + suc (length (by_port e.0 rest)) =
              ap (λ (vs : List N). length vs) total_next ∙ length-append (by_port e.0 so_far) (e.1 ∷ by_port e.0 rest) in
              omega arith

          ready_is : (x : ℕ × N) → slice_get (slice_index_or lists e.0 []) (length (by_port e.0 so_far)) ≡ Some x
              → is_ready needs made a ≡ entry_made numbers made (slice_index_or actors e.0 0) x.0
          ready_is x at =
              ready_by e rest is
              ∙ ap (λ (found : Option (ℕ × N)). is_met made (renumbered numbers (option_map (entry_of (slice_index_or actors e.0 0)) found))) at

          by_waiting : (waiting : List N) → by_port e.0 lane ≡ waiting → Takes so_far whole lane (is_ready needs made a) ⊎ Rests who so_far whole lane (is_ready needs made a)
          by_waiting [] nothing =
              let at = at_within (slice_index_or lists e.0 []) (length (by_port e.0 so_far)) inside in
              inr (record {
                none = ap (taking_entry who lane) (next_after so_far whole e rest is) ∙ ap (λ (vs : List N). where_there vs (by_port_of who e.0)) nothing;
                is = ready_is at.item at.is
                    ∙ sym (waits_made (entry_made numbers made (slice_index_or actors e.0 0)) (slice_index_or lists e.0 []) (put e.0) (split e.0) (by_port e.0 so_far) (by_port e.0 lane) at.item (holds e.0) at.is)
                    ∙ ap some_there nothing;
              })
          by_waiting (v ∷ vs) something =
              let at = at_within (slice_index_or lists e.0 []) (length (by_port e.0 so_far)) inside in
              let same : v ≡ e.1 = waits_next (entry_made numbers made (slice_index_or actors e.0 0)) (slice_index_or lists e.0 []) (put e.0) (split e.0) (by_port e.0 so_far) (by_port e.0 lane) v e.1 vs (by_port e.0 rest) (holds e.0) something total_next in
              inl (record {
                entry = e;
                rest = rest;
                next = is;
                waiting = vs;
                there = something ∙ ap (λ (w : N). w ∷ vs) same;
                is = ready_is at.item at.is
                    ∙ sym (waits_made (entry_made numbers made (slice_index_or actors e.0 0)) (slice_index_or lists e.0 []) (put e.0) (split e.0) (by_port e.0 so_far) (by_port e.0 lane) at.item (holds e.0) at.is)
                    ∙ ap some_there something;
              })

-- ---- the lanes, split by the steps that were made

each_list : {V : Type 0} (n : ℕ) (f : ℕ → List V) → AreLists (of_each n f) n f
each_list n f = record { as_many = length_of_each f n; each = λ k low. at_of_each f n k [] low }

split_as : {V : Type 0} (f g : ℕ → Bool) (list other : List (ℕ × V)) (put : List V) → ((j : ℕ) → f j ≡ g j) → list ≡ other → IsSplit g list put → IsSplit f other put
split_as {V} f g list other put same is s = record {
  first = s.first;
  later = s.later;
  whole = s.whole ∙ is;
  so_far = s.so_far;
  made = λ k x at. same x.0 ∙ s.made k x at;
  left = λ k x at. same x.0 ∙ s.left k x at;
}

-- the steps of a client, and what it put by those that it made
abbrev pub client_steps_of : ScriptData → RunData → ℕ → List (List QueuePut)
client_steps_of script run c = slice_index_or (all_client_steps (queues_of script.shape) 0 run.clients (map moving script.clients)) c []

abbrev pub done_by : ScriptData → RunData → (ℕ → ℕ) → ℕ → List QueuePut
done_by script run made c = all_steps (take (made c) (client_steps_of script run c))

-- So many entries of each journal were made.
pub record AreMade (script : ScriptData) (run : RunData) (made : ℕ → ℕ) (w : World) : Type 0 where
  pub publishers : (p : ℕ) → p < publishers_of script.shape → Begins (slice_index_or w.publishers p []) (slice_index_or run.publishers p [])
  pub publishers_made : (p : ℕ) → p < publishers_of script.shape → length (slice_index_or w.publishers p []) ≡ made (publisher_actor script.shape p)
  pub bridge : Begins w.bridge run.bridge
  pub bridge_made : length w.bridge ≡ made (bridge_actor script.shape)
  pub timers : Begins w.timers run.timers
  pub timers_made : length w.timers ≡ made (timers_actor script.shape)
  pub queues : (q : ℕ) → q < queues_of script.shape → Begins (slice_index_or w.queues q []) (slice_index_or run.queues q [])
  pub queues_made : (q : ℕ) → q < queues_of script.shape → length (slice_index_or w.queues q []) ≡ made (queue_actor script.shape q)

module _ (script : ScriptData) (run : RunData) (shaped : IsShaped script) (made : ℕ → ℕ) (w : World) where
  abbrev setting : Setting
  setting = setting_of script

  abbrev shape : Shape
  shape = script.shape

  abbrev numbers : List (List ℕ)
  numbers = all_numbers script.clients

  module _ (m : AreMade script run made w) where
    numbers_len : length numbers ≡ clients_of shape
    numbers_len = length-map script.clients step_numbers ∙ sym shaped.clients

    -- an entry of one that is no client
    plain : (actor n : ℕ) → clients_of shape ≤ actor → made actor ≡ n → (j : ℕ) → entry_made numbers made actor j ≡ nat_lt j n
    plain actor n past count j = by_entry numbers made actor n (omega (arith, numbers_len)) count j

    -- what a client put one way
    client_split : {V : Type 0} (part : QueuePut → List V) (c : ℕ) → c < clients_of shape
        → IsSplit (entry_made numbers made c) (parted part (steps_numbered (line_puts (queues_of shape) c (slice_index_or run.clients c []) (slice_index_or script.clients c [])))) (flat_map part (done_by script run made c))
    client_split {V} part c low =
        let queues : ℕ = queues_of shape in
        let lines : List ClientLine = slice_index_or script.clients c [] in
        let inside : c < length script.clients = omega (arith, shaped.clients) in
        let all_inside : c < length (map moving script.clients) = omega (arith, length-map script.clients moving) in
        let place : 0 + c ≡ c = omega arith in
        let steps : client_steps_of script run c ≡ steps_from queues c (at_first (slice_index_or run.clients c [])) (moving lines) =
        steps_at queues 0 run.clients (map moving script.clients) c all_inside
        ∙ ap (λ (n : ℕ). client_steps queues n (slice_index_or run.clients n []) (slice_index_or (map moving script.clients) c [])) place
        ∙ ap (client_steps queues c (slice_index_or run.clients c [])) (get_or-map moving script.clients c [] [] inside) in
        let all : made c - 0 ≡ made c = omega arith in
        let own : slice_index_or numbers c [] ≡ step_numbers lines = get_or-map step_numbers script.clients c [] [] inside in
        subst (λ (ss : List (List QueuePut)). IsSplit (entry_made numbers made c) (parted part (steps_numbered (line_puts queues c (slice_index_or run.clients c []) lines))) (flat_map part (all_steps (take (made c) ss)))) (sym steps)
        (subst (λ (n : ℕ). IsSplit (entry_made numbers made c) (parted part (steps_numbered (line_puts queues c (slice_index_or run.clients c []) lines))) (flat_map part (all_steps (take n (steps_from queues c (at_first (slice_index_or run.clients c [])) (moving lines)))))) all
        (lines_split part queues c (made c) (entry_made numbers made c) 0 0 (at_first (slice_index_or run.clients c [])) lines
        (λ i within. ap (λ (own : List ℕ). nat_lt (slice_index_or own (0 + i) (0 + i)) (made c)) own
        ∙ (let here : 0 + i ≡ i = omega arith in ap (λ (n : ℕ). nat_lt (slice_index_or (numbers_from 0 lines) n (0 + i)) (made c)) here))))

    -- what a queue put one way
    queue_split : {V : Type 0} (part : QueuePut → List V) (q : ℕ) → q < queues_of shape
        → IsSplit (entry_made numbers made (queue_actor shape q)) (parted part (numbered (puts_on setting q) (slice_index_or run.queues q []))) (flat_map part (puts (puts_on setting q) (slice_index_or w.queues q [])))
    queue_split part q low =
        let journal : List (ℕ × QueueNote) = slice_index_or w.queues q [] in
        journal_split (puts_on setting q) part (slice_index_or w.queues q []) (slice_index_or run.queues q []) (flat_map part (puts (puts_on setting q) (slice_index_or w.queues q []))) (entry_made numbers made (queue_actor shape q)) (m.queues q low)
        (parted_puts part (numbered (puts_on setting q) journal) ∙ ap (flat_map part) (numbered_puts (puts_on setting q) journal))
        (plain (queue_actor shape q) (length journal) (omega arith) (sym (m.queues_made q low)))

    -- what the bridge put one way
    bridge_split : {V : Type 0} (part : BridgePut → List V) (put : List V) → map second (parted part (numbered (bridge_puts_at shape) w.bridge)) ≡ put
        → IsSplit (entry_made numbers made (bridge_actor shape)) (parted part (numbered (bridge_puts_at shape) run.bridge)) put
    bridge_split part put is = journal_split (bridge_puts_at shape) part w.bridge run.bridge put (entry_made numbers made (bridge_actor shape)) m.bridge is (plain (bridge_actor shape) (length w.bridge) (omega arith) (sym m.bridge_made))

    -- ---- the bridge's lane

    pub on_bridge : (port : ℕ) → IsSplit (entry_made numbers made (slice_index_or (actors_to_bridge shape) port 0)) (slice_index_or (all_to_bridge script run) port []) (put_on_bridge setting (done_by script run made) w.publishers w.queues (bridge_putter shape port))
    on_bridge = by_bridge_port shape (λ port who. IsSplit (entry_made numbers made (slice_index_or (actors_to_bridge shape) port 0)) (slice_index_or (all_to_bridge script run) port []) (put_on_bridge setting (done_by script run made) w.publishers w.queues who))
        (λ c low. split_as (entry_made numbers made (slice_index_or (actors_to_bridge shape) c 0)) (entry_made numbers made c) (client_to_bridge script run c) (slice_index_or (all_to_bridge script run) c []) (flat_map bridge_part (done_by script run made c))
        (λ j. ap (λ (a : ℕ). entry_made numbers made a j) ((are_by_port shape).bridge_clients c low)) (sym (lists.first c low)) (client_split bridge_part c low))
        (λ p low. split_as (entry_made numbers made (slice_index_or (actors_to_bridge shape) (clients_of shape + p) 0)) (entry_made numbers made (publisher_actor shape p)) (publisher_to_bridge script run p) (slice_index_or (all_to_bridge script run) (clients_of shape + p) []) (puts (publisher_puts_at (slice_index_or setting.publishers p no_section)) (slice_index_or w.publishers p []))
        (λ j. ap (λ (a : ℕ). entry_made numbers made a j) ((are_by_port shape).bridge_publishers p low)) (sym (lists.middle p low))
        (whole_split (publisher_puts_at (slice_index_or setting.publishers p no_section)) (slice_index_or w.publishers p []) (slice_index_or run.publishers p []) (puts (publisher_puts_at (slice_index_or setting.publishers p no_section)) (slice_index_or w.publishers p [])) (entry_made numbers made (publisher_actor shape p)) (m.publishers p low)
        (numbered_puts (publisher_puts_at (slice_index_or setting.publishers p no_section)) (slice_index_or w.publishers p []))
        (plain (publisher_actor shape p) (length (slice_index_or w.publishers p [])) (omega arith) (sym (m.publishers_made p low)))))
        (λ q low. split_as (entry_made numbers made (slice_index_or (actors_to_bridge shape) (clients_of shape + publishers_of shape + q) 0)) (entry_made numbers made (queue_actor shape q)) (queue_to_bridge script run q) (slice_index_or (all_to_bridge script run) (clients_of shape + publishers_of shape + q) []) (flat_map bridge_part (puts (puts_on setting q) (slice_index_or w.queues q [])))
        (λ j. ap (λ (a : ℕ). entry_made numbers made a j) ((are_by_port shape).bridge_queues q low)) (sym (lists.last q low)) (queue_split bridge_part q low))
        (λ port past. split_as (entry_made numbers made (slice_index_or (actors_to_bridge shape) port 0)) (entry_made numbers made (slice_index_or (actors_to_bridge shape) port 0)) [] (slice_index_or (all_to_bridge script run) port []) [] (λ j. refl) (sym (lists.past port past)) (nothing_split (entry_made numbers made (slice_index_or (actors_to_bridge shape) port 0))))
      where
        lists : AreParts (all_to_bridge script run) (clients_of shape) (publishers_of shape) (queues_of shape) (client_to_bridge script run) (publisher_to_bridge script run) (queue_to_bridge script run)
        lists =
            parts (of_each (clients_of shape) (client_to_bridge script run)) (of_each (publishers_of shape) (publisher_to_bridge script run)) (of_each (queues_of shape) (queue_to_bridge script run))
            (clients_of shape) (publishers_of shape) (queues_of shape) (client_to_bridge script run) (publisher_to_bridge script run) (queue_to_bridge script run)
            (each_list (clients_of shape) (client_to_bridge script run)) (each_list (publishers_of shape) (publisher_to_bridge script run)) (each_list (queues_of shape) (queue_to_bridge script run))

    -- ---- the timer service's lane

    pub on_timers : (port : ℕ) → IsSplit (entry_made numbers made (slice_index_or (actors_to_timers shape) port 0)) (slice_index_or (all_to_timers script run) port []) (put_on_timers setting (done_by script run made) w.queues w.bridge (timers_putter shape port))
    on_timers = by_timers_port shape (λ port who. IsSplit (entry_made numbers made (slice_index_or (actors_to_timers shape) port 0)) (slice_index_or (all_to_timers script run) port []) (put_on_timers setting (done_by script run made) w.queues w.bridge who))
        (λ c low. split_as (entry_made numbers made (slice_index_or (actors_to_timers shape) c 0)) (entry_made numbers made c) (client_to_timers script run c) (slice_index_or (all_to_timers script run) c []) (flat_map timers_part (done_by script run made c))
        (λ j. ap (λ (a : ℕ). entry_made numbers made a j) ((are_by_port shape).timers_clients c low)) (sym (lists.first c low)) (client_split timers_part c low))
        (λ q low. split_as (entry_made numbers made (slice_index_or (actors_to_timers shape) (clients_of shape + q) 0)) (entry_made numbers made (queue_actor shape q)) (queue_to_timers script run q) (slice_index_or (all_to_timers script run) (clients_of shape + q) []) (flat_map timers_part (puts (puts_on setting q) (slice_index_or w.queues q [])))
        (λ j. ap (λ (a : ℕ). entry_made numbers made a j) ((are_by_port shape).timers_queues q low)) (sym (lists.middle q low)) (queue_split timers_part q low))
        (let place : clients_of shape + queues_of shape ≡ clients_of shape + queues_of shape + 0 = omega arith in
        split_as (entry_made numbers made (slice_index_or (actors_to_timers shape) (clients_of shape + queues_of shape) 0)) (entry_made numbers made (bridge_actor shape)) (bridge_put_to_timers shape run.bridge) (slice_index_or (all_to_timers script run) (clients_of shape + queues_of shape) []) (put_on_timers setting (done_by script run made) w.queues w.bridge ByBridge)
        (λ j. ap (λ (a : ℕ). entry_made numbers made a j) (are_by_port shape).timers_bridge) (sym (ap (λ (n : ℕ). slice_index_or (all_to_timers script run) n []) place ∙ lists.last 0 (omega arith)))
        (bridge_split timer_part (put_on_timers setting (done_by script run made) w.queues w.bridge ByBridge) (bridge_way timer_part shape w.bridge)))
        (λ port past. split_as (entry_made numbers made (slice_index_or (actors_to_timers shape) port 0)) (entry_made numbers made (slice_index_or (actors_to_timers shape) port 0)) [] (slice_index_or (all_to_timers script run) port []) [] (λ j. refl) (sym (lists.past port (omega arith))) (nothing_split (entry_made numbers made (slice_index_or (actors_to_timers shape) port 0))))
      where
        lists : AreParts (all_to_timers script run) (clients_of shape) (queues_of shape) 1 (client_to_timers script run) (queue_to_timers script run) (λ k. bridge_put_to_timers shape run.bridge)
        lists =
            parts (of_each (clients_of shape) (client_to_timers script run)) (of_each (queues_of shape) (queue_to_timers script run)) (bridge_put_to_timers shape run.bridge ∷ [])
            (clients_of shape) (queues_of shape) 1 (client_to_timers script run) (queue_to_timers script run) (λ k. bridge_put_to_timers shape run.bridge)
            (each_list (clients_of shape) (client_to_timers script run)) (each_list (queues_of shape) (queue_to_timers script run)) (each_list 1 (λ k. bridge_put_to_timers shape run.bridge))

    -- ---- the lane of a queue

    pub on_queue : (q port : ℕ) → IsSplit (entry_made numbers made (slice_index_or (actors_to_queue shape) port 0)) (slice_index_or (all_to_queue script run q) port []) (put_on_queue shape w.bridge w.timers q (queue_putter port))
    on_queue q = by_queue_port (λ port who. IsSplit (entry_made numbers made (slice_index_or (actors_to_queue shape) port 0)) (slice_index_or (all_to_queue script run q) port []) (put_on_queue shape w.bridge w.timers q who))
        (bridge_split (queue_part q) (put_on_queue shape w.bridge w.timers q ByBridge) (bridge_way (queue_part q) shape w.bridge))
        (journal_split (timers_puts_at shape) (tick_part q) w.timers run.timers (put_on_queue shape w.bridge w.timers q ByTimers) (entry_made numbers made (timers_actor shape)) m.timers (timers_way shape w.timers q)
        (plain (timers_actor shape) (length w.timers) (omega arith) (sym m.timers_made)))
        (λ port past. split_as (entry_made numbers made (slice_index_or (actors_to_queue shape) port 0)) (entry_made numbers made (slice_index_or (actors_to_queue shape) port 0)) [] (slice_index_or (all_to_queue script run q) port []) [] (λ j. refl)
        (sym (get_or_past (all_to_queue script run q) port [] past)) (nothing_split (entry_made numbers made (slice_index_or (actors_to_queue shape) port 0))))

    -- ---- the lane of a publisher

    pub on_publisher : (p : ℕ) → IsSplit (entry_made numbers made (bridge_actor shape)) (bridge_put_to_publisher shape run.bridge p) (put_to_publisher shape w.bridge p)
    on_publisher p = bridge_split (publisher_part p) (put_to_publisher shape w.bridge p) (bridge_way (publisher_part p) shape w.bridge)
