-- One order of all entries so far, which is made longer by each entry.
use Rattle.std.specs.Prelude.{slice_index_or, slice_set}
use Rattle.std.proofs.Common.{◌≡◌, ℕ, suc, ◌+◌, ◌<◌, ◌≤◌, List, [], ◌∷◌, ◌++◌, length, sym, ◌∙◌, ap, subst, arith, append_assoc, ⊎_elim}
use Rattle.std.proofs.lemmas.Bool.{cases_eq}
use Rattle.std.proofs.lemmas.List.{get_or-set_same, get_or-set_other}
use Rattle.mama_event.specs.declared.to_bridge.BridgeNote.{BridgeNote}
use Rattle.mama_event.specs.declared.to_timers.TimersNote.{TimersNote}
use Rattle.mama_event.specs.declared.to_queue.QueueNote.{QueueNote}
use Rattle.mama_event.specs.declared.publisher_entry.PublisherEntry.{PublisherEntry}
use Rattle.mama_event.specs.Ports.{clients_of, publishers_of, queues_of}
use Rattle.mama_check_order.specs.Order.{turns_of, IsMet, MayFollow}
use Rattle.mama_check_order.proofs.Orders.{follow_push}
use Rattle.mama_check_order.specs.Taken.{sender_need}
use Rattle.mama_check_order.proofs.LaneWalk.{length_last}
use Rattle.mama_script.specs.Script.{ScriptData}
use Rattle.mama_record.specs.RunData.{RunData}
use Rattle.mama_check_puts.specs.Puts.{bridge_put_to_publisher}
use Rattle.mama_check.specs.Causal.{client_actor, publisher_actor, bridge_actor, timers_actor, queue_actor, actors_to_bridge, all_to_bridge, actors_to_timers, all_to_timers, actors_to_queue, all_to_queue, publisher_needs, bridge_needs, timers_needs, queue_needs, all_needs}
use Rattle.mama_check.proofs.Numbers.{are_by_number}
use Rattle.mama_laws_causal.proofs.Numbers.{Begins}
use Rattle.mama_laws_causal.proofs.Needs.{need_of, needs_next, sender_next, may_take}
use Rattle.mama_laws_causal.proofs.Clients.{client_turns, turn_own, turn_other}

-- ---- journals so far

-- these journals are the first entries of those of a record
pub record AreFirst (ps : List (List PublisherEntry)) (bs : List (ℕ × BridgeNote)) (ts : List (ℕ × TimersNote)) (qs : List (List (ℕ × QueueNote))) (run : RunData) : Type 0 where
  pub publishers : (p : ℕ) → Begins (slice_index_or ps p []) (slice_index_or run.publishers p [])
  pub bridge : Begins bs run.bridge
  pub timers : Begins ts run.timers
  pub queues : (q : ℕ) → Begins (slice_index_or qs q []) (slice_index_or run.queues q [])

pub without_last : {X : Type 0} (xs : List X) (x : X) (whole : List X) → Begins (xs ++ x ∷ []) whole → Begins xs whole
without_last xs x whole begins = (x ∷ begins.0, sym (append_assoc xs (x ∷ []) begins.0) ∙ begins.1)

-- one of many journals with an entry more
abbrev pub grown : {X : Type 0} → List (List X) → ℕ → X → List (List X)
grown js k x = slice_set js k (slice_index_or js k [] ++ x ∷ [])

pub grown_here : {X : Type 0} (js : List (List X)) (k : ℕ) (x : X) → k < length js → slice_index_or (grown js k x) k [] ≡ slice_index_or js k [] ++ x ∷ []
grown_here js k x inside = get_or-set_same js k (slice_index_or js k [] ++ x ∷ []) [] inside

pub grown_else : {X : Type 0} (js : List (List X)) (k n : ℕ) (x : X) → (k ≡ n → ⊥) → slice_index_or (grown js k x) n [] ≡ slice_index_or js n []
grown_else js k n x apart = get_or-set_other js k n (slice_index_or js k [] ++ x ∷ []) [] (λ same. apart (sym same))

pub grown_begins : {X : Type 0} (js whole : List (List X)) (k : ℕ) (x : X) → k < length js
    → ((n : ℕ) → Begins (slice_index_or (grown js k x) n []) (slice_index_or whole n [])) → Begins (slice_index_or js k [] ++ x ∷ []) (slice_index_or whole k [])
grown_begins {X} js whole k x inside begins = subst (λ (j : List X). Begins j (slice_index_or whole k [])) (grown_here js k x inside) (begins k)

pub without_grown : {X : Type 0} (js whole : List (List X)) (k : ℕ) (x : X) → k < length js
    → ((n : ℕ) → Begins (slice_index_or (grown js k x) n []) (slice_index_or whole n [])) → (n : ℕ) → Begins (slice_index_or js n []) (slice_index_or whole n [])
without_grown {X} js whole k x inside begins n = ⊎_elim
    (λ (same : k ≡ n). subst (λ (m : ℕ). Begins (slice_index_or js m []) (slice_index_or whole m [])) same
    (without_last (slice_index_or js k []) x (slice_index_or whole k []) (grown_begins js whole k x inside begins)))
    (λ apart. subst (λ (j : List X). Begins j (slice_index_or whole n [])) (grown_else js k n x apart) (begins n))
    (cases_eq k n)

-- ---- an order of what was done so far

-- Turns that may follow by what the entries of a record need. All clients had theirs, and each other actor as many as its
-- journal so far has entries.
pub record AreOrdered (script : ScriptData) (run : RunData) (ps : List (List PublisherEntry)) (bs : List (ℕ × BridgeNote)) (ts : List (ℕ × TimersNote)) (qs : List (List (ℕ × QueueNote))) : Type 0 where
  pub turns : List ℕ
  pub follow : MayFollow (all_needs script run) [] turns
  pub clients : (c : ℕ) → c < clients_of script.shape → turns_of (client_actor script.shape c) turns ≡ client_turns script c
  pub publishers : (p : ℕ) → p < publishers_of script.shape → turns_of (publisher_actor script.shape p) turns ≡ length (slice_index_or ps p [])
  pub bridge : turns_of (bridge_actor script.shape) turns ≡ length bs
  pub timers : turns_of (timers_actor script.shape) turns ≡ length ts
  pub queues : (q : ℕ) → q < queues_of script.shape → turns_of (queue_actor script.shape q) turns ≡ length (slice_index_or qs q [])
  pub nobody : (a : ℕ) → clients_of script.shape + publishers_of script.shape + 2 + queues_of script.shape ≤ a → turns_of a turns ≡ 0

-- an actor with a journal of its own among many has a turn more
one_longer : {X : Type 0} (actor : ℕ) (turns : List ℕ) (j : List X) (x : X) → turns_of actor turns ≡ length j → turns_of actor (turns ++ actor ∷ []) ≡ length (j ++ x ∷ [])
one_longer actor turns j x count = turn_own actor turns ∙ ap suc count ∙ sym (length_last j x)

many_longer : {X : Type 0} (first : ℕ) (turns : List ℕ) (js : List (List X)) (k n : ℕ) (x : X) → k < length js → turns_of (first + k) turns ≡ length (slice_index_or js k [])
    → turns_of (first + n) turns ≡ length (slice_index_or js n []) → turns_of (first + n) (turns ++ (first + k) ∷ []) ≡ length (slice_index_or (grown js k x) n [])
many_longer {X} first turns js k n x inside own other = ⊎_elim
    (λ (same : k ≡ n). subst (λ (m : ℕ). turns_of (first + m) (turns ++ (first + k) ∷ []) ≡ length (slice_index_or (grown js k x) m [])) same
    (one_longer (first + k) turns (slice_index_or js k []) x own ∙ ap (λ (j : List X). length j) (sym (grown_here js k x inside))))
    (λ apart. turn_other (first + n) (first + k) turns (λ same. let is : k ≡ n = omega arith in apart is) ∙ other ∙ ap (λ (j : List X). length j) (sym (grown_else js k n x apart)))
    (cases_eq k n)

module _ (script : ScriptData) (run : RunData) (ps : List (List PublisherEntry)) (bridge : List (ℕ × BridgeNote)) (timers : List (ℕ × TimersNote)) (qs : List (List (ℕ × QueueNote))) (o : AreOrdered script run ps bridge timers qs) where
  pub bridge_ordered : (e : ℕ × BridgeNote) → Begins (bridge ++ e ∷ []) run.bridge → IsMet o.turns (need_of (actors_to_bridge script.shape) (all_to_bridge script run) bridge e)
      → AreOrdered script run ps (bridge ++ e ∷ []) timers qs
  bridge_ordered e begins met =
      let actor : ℕ = bridge_actor script.shape in
      record {
        turns = o.turns ++ actor ∷ [];
        follow = follow_push (all_needs script run) [] o.turns actor o.follow
            (may_take (all_needs script run) o.turns actor (bridge_needs script run) (length bridge) (need_of (actors_to_bridge script.shape) (all_to_bridge script run) bridge e)
            (are_by_number script run).bridge o.bridge (needs_next (actors_to_bridge script.shape) (all_to_bridge script run) run.bridge bridge e begins) met);
        clients = λ c low. turn_other c actor o.turns (λ same. omega arith) ∙ o.clients c low;
        publishers = λ p low. turn_other (publisher_actor script.shape p) actor o.turns (λ same. omega arith) ∙ o.publishers p low;
        bridge = one_longer actor o.turns bridge e o.bridge;
        timers = turn_other (timers_actor script.shape) actor o.turns (λ same. omega arith) ∙ o.timers;
        queues = λ q low. turn_other (queue_actor script.shape q) actor o.turns (λ same. omega arith) ∙ o.queues q low;
        nobody = λ a past. turn_other a actor o.turns (λ same. omega arith) ∙ o.nobody a past;
      }

  pub timers_ordered : (e : ℕ × TimersNote) → Begins (timers ++ e ∷ []) run.timers → IsMet o.turns (need_of (actors_to_timers script.shape) (all_to_timers script run) timers e)
      → AreOrdered script run ps bridge (timers ++ e ∷ []) qs
  timers_ordered e begins met =
      let actor : ℕ = timers_actor script.shape in
      record {
        turns = o.turns ++ actor ∷ [];
        follow = follow_push (all_needs script run) [] o.turns actor o.follow
            (may_take (all_needs script run) o.turns actor (timers_needs script run) (length timers) (need_of (actors_to_timers script.shape) (all_to_timers script run) timers e)
            (are_by_number script run).timers o.timers (needs_next (actors_to_timers script.shape) (all_to_timers script run) run.timers timers e begins) met);
        clients = λ c low. turn_other c actor o.turns (λ same. omega arith) ∙ o.clients c low;
        publishers = λ p low. turn_other (publisher_actor script.shape p) actor o.turns (λ same. omega arith) ∙ o.publishers p low;
        bridge = turn_other (bridge_actor script.shape) actor o.turns (λ same. omega arith) ∙ o.bridge;
        timers = one_longer actor o.turns timers e o.timers;
        queues = λ q low. turn_other (queue_actor script.shape q) actor o.turns (λ same. omega arith) ∙ o.queues q low;
        nobody = λ a past. turn_other a actor o.turns (λ same. omega arith) ∙ o.nobody a past;
      }

  pub publisher_ordered : (p : ℕ) (e : PublisherEntry) → p < publishers_of script.shape → p < length ps → Begins (slice_index_or ps p [] ++ e ∷ []) (slice_index_or run.publishers p [])
      → IsMet o.turns (sender_need (bridge_actor script.shape) (bridge_put_to_publisher script.shape run.bridge p) (slice_index_or ps p []) e)
      → AreOrdered script run (grown ps p e) bridge timers qs
  publisher_ordered p e within inside begins met =
      let actor : ℕ = publisher_actor script.shape p in
      let list : List _ = bridge_put_to_publisher script.shape run.bridge p in
      record {
        turns = o.turns ++ actor ∷ [];
        follow = follow_push (all_needs script run) [] o.turns actor o.follow
            (may_take (all_needs script run) o.turns actor (publisher_needs script run p) (length (slice_index_or ps p [])) (sender_need (bridge_actor script.shape) list (slice_index_or ps p []) e)
            ((are_by_number script run).publishers p within) (o.publishers p within)
            (sender_next (bridge_actor script.shape) list (slice_index_or run.publishers p []) (slice_index_or ps p []) e begins) met);
        clients = λ c low. turn_other c actor o.turns (λ same. omega arith) ∙ o.clients c low;
        publishers = λ r low. many_longer (clients_of script.shape) o.turns ps p r e inside (o.publishers p within) (o.publishers r low);
        bridge = turn_other (bridge_actor script.shape) actor o.turns (λ same. omega arith) ∙ o.bridge;
        timers = turn_other (timers_actor script.shape) actor o.turns (λ same. omega arith) ∙ o.timers;
        queues = λ q low. turn_other (queue_actor script.shape q) actor o.turns (λ same. omega arith) ∙ o.queues q low;
        nobody = λ a past. turn_other a actor o.turns (λ same. omega arith) ∙ o.nobody a past;
      }

  pub queue_ordered : (q : ℕ) (e : ℕ × QueueNote) → q < queues_of script.shape → q < length qs → Begins (slice_index_or qs q [] ++ e ∷ []) (slice_index_or run.queues q [])
      → IsMet o.turns (need_of (actors_to_queue script.shape) (all_to_queue script run q) (slice_index_or qs q []) e)
      → AreOrdered script run ps bridge timers (grown qs q e)
  queue_ordered q e within inside begins met =
      let actor : ℕ = queue_actor script.shape q in
      record {
        turns = o.turns ++ actor ∷ [];
        follow = follow_push (all_needs script run) [] o.turns actor o.follow
            (may_take (all_needs script run) o.turns actor (queue_needs script run q) (length (slice_index_or qs q []))
            (need_of (actors_to_queue script.shape) (all_to_queue script run q) (slice_index_or qs q []) e)
            ((are_by_number script run).queues q within) (o.queues q within)
            (needs_next (actors_to_queue script.shape) (all_to_queue script run q) (slice_index_or run.queues q []) (slice_index_or qs q []) e begins) met);
        clients = λ c low. turn_other c actor o.turns (λ same. omega arith) ∙ o.clients c low;
        publishers = λ p low. turn_other (publisher_actor script.shape p) actor o.turns (λ same. omega arith) ∙ o.publishers p low;
        bridge = turn_other (bridge_actor script.shape) actor o.turns (λ same. omega arith) ∙ o.bridge;
        timers = turn_other (timers_actor script.shape) actor o.turns (λ same. omega arith) ∙ o.timers;
        queues = λ r low. many_longer (clients_of script.shape + publishers_of script.shape + 2) o.turns qs q r e inside (o.queues q within) (o.queues r low);
        nobody = λ a past. turn_other a actor o.turns (λ same. omega arith) ∙ o.nobody a past;
      }
