-- Each actor's next step, if it can be made, and where the run stands after it.
use Rattle.std.specs.Prelude.{slice_get, slice_index_or, slice_set}
use Rattle.std.proofs.Common.{◌≡◌, ℕ, zero, suc, ◌+◌, ◌<◌, ◌≤◌, Bool, true, false, cond, List, [], ◌∷◌, ◌++◌, length, map, take, drop, Option, None, Some, refl, sym, ◌∙◌, ap, subst, arith, ◌⊎◌, ⊎_elim, append_assoc}
use Rattle.std.proofs.lemmas.Bool.{cases_eq, cases_lt, eq-eqb, ne_eqb, le-ltb}
use Rattle.std.proofs.lemmas.List.{length-map, get_or_past, get_or-set_same, get_or-set_other, length_push}
use Rattle.mama_event.specs.declared.shape.Shape.{Shape}
use Rattle.mama_event.specs.declared.to_bridge.BridgeNote.{BridgeNote}
use Rattle.mama_event.specs.declared.to_timers.TimersNote.{TimersNote}
use Rattle.mama_event.specs.declared.to_queue.QueueNote.{QueueNote}
use Rattle.mama_event.specs.declared.publisher_entry.PublisherEntry.{PublisherEntry}
use Rattle.mama_event.specs.declared.publisher_entry.PublisherEntry.TheVariants.{Send, Done, Took}
use Rattle.mama_event.specs.Ports.{clients_of, publishers_of, queues_of}
use Rattle.mama_check_order.specs.Search.{entries_of}
use Rattle.mama_check_order.specs.declared.order.Need.{Need}
use Rattle.mama_rules_services.specs.Ports.{bridge_putter, timers_putter, queue_putter}
use Rattle.mama_rules_queue.specs.Queue.{QueuePut}
use Rattle.mama_script.specs.declared.client.ClientLine.{ClientLine}
use Rattle.mama_script.specs.Script.{ScriptData}
use Rattle.mama_script.specs.Tree.{IsShaped}
use Rattle.mama_record.specs.RunData.{RunData}
use Rattle.mama_rules_rounds.specs.Setting.{Setting}
use Rattle.mama_rules_rounds.specs.World.{World, bridge_took, timers_took, queue_took}
use Rattle.mama_rules_rounds.specs.Stage.{Stage}
use Rattle.mama_rules_rounds.specs.Sections.{all_client_steps, setting_of}
use Rattle.mama_rules_legal.specs.Edges.{all_steps, put_on_bridge, put_on_timers, put_on_queue, AreEdges}
use Rattle.mama_laws_legal.proofs.Worlds.{Holds}
use Rattle.mama_check.specs.Causal.{publisher_actor, bridge_actor, timers_actor, queue_actor, actors_to_bridge, all_to_bridge, actors_to_timers, all_to_timers, actors_to_queue, all_to_queue, all_needs, bridge_needs, timers_needs, queue_needs}
use Rattle.mama_check.specs.declared.verdict.Actor.{Actor}
use Rattle.mama_check.specs.declared.verdict.Actor.TheVariants as actor
use Rattle.mama_check.proofs.Numbers.{are_by_number}
use Rattle.mama_laws_causal.proofs.Numbers.{Begins}
use Rattle.mama_replay.specs.declared.step.Step.{Step}
use Rattle.mama_replay.specs.Followed.{moving, without_first, after_steps}
use Rattle.mama_replay.specs.Passes.{by_port_of, where_there, taking_entry, next_step}
use Rattle.mama_replay.specs.Needs.{client_needs, all_numbers, renumbered, needs_at, needs_from, step_needs}
use Rattle.mama_replay.proofs.Counts.{is_ready, made_more, gone_on}
use Rattle.mama_replay.proofs.Stands.{client_steps_of, done_by, AreMade, next_after, Takes, Rests, takes_or_rests, on_bridge, on_timers, on_queue}
use Rattle.mama_replay.proofs.Steps.{bridge_takes, timers_takes, queue_takes, first_is}
use Rattle.mama_replay.proofs.Totals.{bridge_total, timers_total, queue_total}

-- ---- where a run stands

-- what a publisher has still to do of its own accord, step by step
abbrev pub own_in : List PublisherEntry → List (List PublisherEntry)
own_in [] = []
own_in (Took note ∷ es) = own_in es
own_in (Send ∷ es) = (Send ∷ []) ∷ own_in es
own_in (Done ∷ es) = (Done ∷ []) ∷ own_in es

-- So many steps of each actor were made, and what waits on the lanes is what they put and did not take.
pub record Stands (script : ScriptData) (run : RunData) (made : ℕ → ℕ) (s : Stage) : Type 0 where
  pub clients : (c : ℕ) → c < clients_of script.shape → slice_index_or s.clients c [] ≡ drop (made c) (client_steps_of script run c)
  pub entries : AreMade script run made s.world
  pub own : (p : ℕ) → p < publishers_of script.shape → slice_index_or s.publishers p [] ≡ own_in (drop (made (publisher_actor script.shape p)) (slice_index_or run.publishers p []))
  pub holds : Holds (setting_of script) (done_by script run made) s.world

pub stands_same : (script : ScriptData) (run : RunData) (made other : ℕ → ℕ) (s : Stage) → ((b : ℕ) → made b ≡ other b) → Stands script run made s → Stands script run other s
stands_same script run made other s same stands =
    let path : made ≡ other = λ i b. same b i in
    subst (λ (m : ℕ → ℕ). Stands script run m s) path stands

-- ---- counts

pub more_here : (made : ℕ → ℕ) (a : ℕ) → made_more made a a ≡ suc (made a)
more_here made a = ap (λ (t : Bool). cond t (suc (made a)) (made a)) (eq-eqb a a refl)

pub more_else : (made : ℕ → ℕ) (a b : ℕ) → (a ≡ b → ⊥) → made_more made a b ≡ made b
more_else made a b apart = ap (λ (t : Bool). cond t (suc (made b)) (made b)) (ne_eqb a b apart)

pub ready_goes : (needs : List (List (Option Need))) (made : ℕ → ℕ) (a : ℕ) → is_ready needs made a ≡ true → (b : ℕ) → made_more made a b ≡ gone_on needs made a b
ready_goes needs made a ready b = sym (ap (λ (t : Bool). cond t (made_more made a b) (made b)) ready)

pub unready_stays : (needs : List (List (Option Need))) (made : ℕ → ℕ) (a : ℕ) → is_ready needs made a ≡ false → (b : ℕ) → made b ≡ gone_on needs made a b
unready_stays needs made a unready b = sym (ap (λ (t : Bool). cond t (made_more made a b) (made b)) unready)

-- ---- what the steps of an actor need, by its number

pub needs_by_number : (clients : List (List ClientLine)) (n : ℕ) (all : List (List (Option Need))) (k : ℕ) → k < length all → slice_index_or (needs_from clients n all) k [] ≡ needs_at clients (n + k) (slice_index_or all k [])
needs_by_number clients n [] k low = absurd (omega arith)
needs_by_number clients n (own ∷ rest) zero low = let same : n ≡ n + 0 = omega arith in ap (λ (m : ℕ). needs_at clients m own) same
needs_by_number clients n (own ∷ rest) (suc k) low =
    let same : suc n + k ≡ n + suc k = omega arith in
    needs_by_number clients (suc n) rest k (omega arith) ∙ ap (λ (m : ℕ). needs_at clients m (slice_index_or rest k [])) same

-- one entry more of a journal
pub begins_more : {X : Type 0} (so_far whole : List X) (e : X) (rest : List X) → so_far ++ e ∷ rest ≡ whole → Begins (so_far ++ e ∷ []) whole
begins_more so_far whole e rest is = (rest, append_assoc so_far (e ∷ []) rest ∙ is)

-- ---- moves

-- the step of an entry that takes
abbrev pub step_by : {N : Type 0} → Actor → Option (ℕ × N) → List Step
step_by who None = []
step_by who (Some e) = by_port_of who e.0 ∷ []

-- An actor makes its next step where it is ready, and the run stands so afterwards.
pub record Moves (script : ScriptData) (run : RunData) (needs : List (List (Option Need))) (made : ℕ → ℕ) (s : Stage) (who : Actor) (a : ℕ) (steps : List Step) : Type 0 where
  pub next : next_step run s who ≡ cond (is_ready needs made a) steps []
  pub stands : Stands script run (gone_on needs made a) (after_steps (setting_of script) s (next_step run s who))

-- one that does not go on
pub rests_move : (script : ScriptData) (run : RunData) (needs : List (List (Option Need))) (made : ℕ → ℕ) (s : Stage) (who : Actor) (a : ℕ) (steps : List Step)
    → Stands script run made s → next_step run s who ≡ [] → is_ready needs made a ≡ false → Moves script run needs made s who a steps
rests_move script run needs made s who a steps stands none unready = record {
  next = none ∙ sym (ap (λ (t : Bool). cond t steps []) unready);
  stands = subst (λ (next : List Step). Stands script run (gone_on needs made a) (after_steps (setting_of script) s next)) (sym none)
      (stands_same script run made (gone_on needs made a) s (unready_stays needs made a unready) stands);
}

-- and one that does
pub goes_move : (script : ScriptData) (run : RunData) (needs : List (List (Option Need))) (made : ℕ → ℕ) (s : Stage) (who : Actor) (a : ℕ) (steps : List Step)
    → next_step run s who ≡ steps → is_ready needs made a ≡ true → Stands script run (made_more made a) (after_steps (setting_of script) s steps) → Moves script run needs made s who a steps
goes_move script run needs made s who a steps is ready stands = record {
  next = is ∙ sym (ap (λ (t : Bool). cond t steps []) ready);
  stands = subst (λ (next : List Step). Stands script run (gone_on needs made a) (after_steps (setting_of script) s next)) (sym is)
      (stands_same script run (made_more made a) (gone_on needs made a) (after_steps (setting_of script) s steps) (ready_goes needs made a ready) stands);
}

module _ (script : ScriptData) (run : RunData) (shaped : IsShaped script) (edges : AreEdges script run) (count : length (all_needs script run) ≡ clients_of script.shape + publishers_of script.shape + 2 + queues_of script.shape) where
  abbrev setting : Setting
  setting = setting_of script

  abbrev shape : Shape
  shape = script.shape

  abbrev numbers : List (List ℕ)
  numbers = all_numbers script.clients

  abbrev pub needs : List (List (Option Need))
  needs = step_needs script.clients (all_needs script run)

  -- what the steps of one that is no client need
  pub plain_needs : (a : ℕ) (own : List (Option Need)) → clients_of shape ≤ a → a < length (all_needs script run) → slice_index_or (all_needs script run) a [] ≡ own → entries_of needs a ≡ map (renumbered numbers) own
  plain_needs a own past low is =
      let place : 0 + a ≡ a = omega arith in
      needs_by_number script.clients 0 (all_needs script run) a low
      ∙ ap (λ (n : ℕ). needs_at script.clients n (slice_index_or (all_needs script run) a [])) place
      ∙ ap (λ (t : Bool). cond t (client_needs (slice_index_or script.clients a [])) (map (renumbered numbers) (slice_index_or (all_needs script run) a [])))
      (le-ltb a (length script.clients) (omega (arith, shaped.clients)))
      ∙ ap (map (renumbered numbers)) is

  -- the steps of clients put as before where no client made one
  pub same_done : (made other : ℕ → ℕ) → ((c : ℕ) → c < clients_of shape → made c ≡ other c) → ((c : ℕ) → clients_of shape ≤ c → client_steps_of script run c ≡ []) → (c : ℕ) → done_by script run made c ≡ done_by script run other c
  same_done made other same nobody c = ⊎_elim
      (λ low. ap (λ (n : ℕ). all_steps (take n (client_steps_of script run c))) (same c low))
      (λ past. ap (λ (steps : List (List QueuePut)). all_steps (take (made c) steps)) (nobody c past) ∙ nothing (made c) (other c) ∙ sym (ap (λ (steps : List (List QueuePut)). all_steps (take (other c) steps)) (nobody c past)))
      (cases_lt c (clients_of shape))
    where
      nothing : (n m : ℕ) → all_steps (take {A = List QueuePut} n []) ≡ all_steps (take {A = List QueuePut} m [])
      nothing zero zero = refl
      nothing zero (suc m) = refl
      nothing (suc n) zero = refl
      nothing (suc n) (suc m) = refl

  nobody : (c : ℕ) → clients_of shape ≤ c → client_steps_of script run c ≡ []
  nobody c past = get_or_past (all_client_steps (queues_of shape) 0 run.clients (map moving script.clients)) c [] (omega (arith, clients_len 0 (map moving script.clients), length-map script.clients moving, shaped.clients))
    where
      clients_len : (n : ℕ) (clients : List (List ClientLine)) → length (all_client_steps (queues_of shape) n run.clients clients) ≡ length clients
      clients_len n [] = refl
      clients_len n (ls ∷ rest) = ap suc (clients_len (suc n) rest)

  pub still_holds : (made : ℕ → ℕ) (a : ℕ) (w : World) → clients_of shape ≤ a → Holds setting (done_by script run made) w → Holds setting (done_by script run (made_more made a)) w
  still_holds made a w past h =
      let path : done_by script run made ≡ done_by script run (made_more made a) = λ i c. same_done made (made_more made a) (λ c low. sym (more_else made a c (λ same. omega arith))) nobody c i in
      subst (λ (done : ℕ → List QueuePut). Holds setting done w) path h

  module _ (made : ℕ → ℕ) (s : Stage) (stands : Stands script run made s) where
    -- ---- the bridge

    pub bridge_moves : Moves script run needs made s actor.Bridge (bridge_actor shape) (step_by actor.Bridge (slice_get run.bridge (made (bridge_actor shape))))
    bridge_moves = ⊎_elim takes rests
        (takes_or_rests actor.Bridge numbers made (actors_to_bridge shape) (all_to_bridge script run) (λ port. put_on_bridge setting (done_by script run made) s.world.publishers s.world.queues (bridge_putter shape port))
        s.world.bridge run.bridge s.world.to_bridge needs (bridge_actor shape) stands.entries.bridge stands.entries.bridge_made (on_bridge script run shaped made s.world stands.entries) stands.holds.bridge (bridge_total script run shaped edges)
        (plain_needs (bridge_actor shape) (bridge_needs script run) (omega arith) (omega (arith, count)) (are_by_number script run).bridge))
      where
        a : ℕ
        a = bridge_actor shape

        rests : Rests actor.Bridge s.world.bridge run.bridge s.world.to_bridge (is_ready needs made (bridge_actor shape)) → Moves script run needs made s actor.Bridge (bridge_actor shape) (step_by actor.Bridge (slice_get run.bridge (made (bridge_actor shape))))
        rests r = rests_move script run needs made s actor.Bridge (bridge_actor shape) (step_by actor.Bridge (slice_get run.bridge (made (bridge_actor shape)))) stands r.none r.is

        takes : Takes s.world.bridge run.bridge s.world.to_bridge (is_ready needs made (bridge_actor shape)) → Moves script run needs made s actor.Bridge (bridge_actor shape) (step_by actor.Bridge (slice_get run.bridge (made (bridge_actor shape))))
        takes t =
            let e : ℕ × BridgeNote = t.entry in
            let next : slice_get run.bridge (length s.world.bridge) ≡ Some e = next_after s.world.bridge run.bridge e t.rest t.next in
            let here : slice_get run.bridge (made (bridge_actor shape)) ≡ Some e = ap (slice_get run.bridge) (sym stands.entries.bridge_made) ∙ next in
            let steps : step_by actor.Bridge (slice_get run.bridge (made (bridge_actor shape))) ≡ by_port_of actor.Bridge e.0 ∷ [] = ap (step_by actor.Bridge) here in
            subst (Moves script run needs made s actor.Bridge (bridge_actor shape)) (sym steps)
            (goes_move script run needs made s actor.Bridge (bridge_actor shape) (by_port_of actor.Bridge e.0 ∷ [])
            (ap (taking_entry actor.Bridge s.world.to_bridge) next ∙ ap (λ (vs : List BridgeNote). where_there vs (by_port_of actor.Bridge e.0)) t.there) t.is
            (subst (λ (lane : List (ℕ × BridgeNote)). Stands script run (made_more made (bridge_actor shape)) (record s { world = bridge_took setting s.world lane })) (sym (first_is e.0 s.world.to_bridge e.1 t.waiting t.there)) (record {
              clients = λ c low. stands.clients c low ∙ ap (λ (n : ℕ). drop n (client_steps_of script run c)) (sym (more_else made (bridge_actor shape) c (λ same. omega arith)));
              entries = record {
                publishers = stands.entries.publishers;
                publishers_made = λ p low. stands.entries.publishers_made p low ∙ sym (more_else made (bridge_actor shape) (publisher_actor shape p) (λ same. omega arith));
                bridge = begins_more s.world.bridge run.bridge e t.rest t.next;
                bridge_made = length_push s.world.bridge e ∙ (let same : length s.world.bridge + 1 ≡ suc (length s.world.bridge) = omega arith in same) ∙ ap suc stands.entries.bridge_made ∙ sym (more_here made (bridge_actor shape));
                timers = stands.entries.timers;
                timers_made = stands.entries.timers_made ∙ sym (more_else made (bridge_actor shape) (timers_actor shape) (λ same. omega arith));
                queues = stands.entries.queues;
                queues_made = λ q low. stands.entries.queues_made q low ∙ sym (more_else made (bridge_actor shape) (queue_actor shape q) (λ same. omega arith));
              };
              own = λ p low. stands.own p low ∙ ap (λ (n : ℕ). own_in (drop n (slice_index_or run.publishers p []))) (sym (more_else made (bridge_actor shape) (publisher_actor shape p) (λ same. omega arith)));
              holds = still_holds made (bridge_actor shape) (bridge_took setting s.world (e ∷ without_first e.0 s.world.to_bridge)) (omega arith) (bridge_takes setting (done_by script run made) s.world stands.holds e.0 e.1 t.waiting t.there);
            })))

    -- ---- the timer service

    pub timers_moves : Moves script run needs made s actor.Timers (timers_actor shape) (step_by actor.Timers (slice_get run.timers (made (timers_actor shape))))
    timers_moves = ⊎_elim takes rests
        (takes_or_rests actor.Timers numbers made (actors_to_timers shape) (all_to_timers script run) (λ port. put_on_timers setting (done_by script run made) s.world.queues s.world.bridge (timers_putter shape port))
        s.world.timers run.timers s.world.to_timers needs (timers_actor shape) stands.entries.timers stands.entries.timers_made (on_timers script run shaped made s.world stands.entries) stands.holds.timers (timers_total script run shaped edges)
        (plain_needs (timers_actor shape) (timers_needs script run) (omega arith) (omega (arith, count)) (are_by_number script run).timers))
      where
        a : ℕ
        a = timers_actor shape

        rests : Rests actor.Timers s.world.timers run.timers s.world.to_timers (is_ready needs made (timers_actor shape)) → Moves script run needs made s actor.Timers (timers_actor shape) (step_by actor.Timers (slice_get run.timers (made (timers_actor shape))))
        rests r = rests_move script run needs made s actor.Timers (timers_actor shape) (step_by actor.Timers (slice_get run.timers (made (timers_actor shape)))) stands r.none r.is

        takes : Takes s.world.timers run.timers s.world.to_timers (is_ready needs made (timers_actor shape)) → Moves script run needs made s actor.Timers (timers_actor shape) (step_by actor.Timers (slice_get run.timers (made (timers_actor shape))))
        takes t =
            let e : ℕ × TimersNote = t.entry in
            let next : slice_get run.timers (length s.world.timers) ≡ Some e = next_after s.world.timers run.timers e t.rest t.next in
            let here : slice_get run.timers (made (timers_actor shape)) ≡ Some e = ap (slice_get run.timers) (sym stands.entries.timers_made) ∙ next in
            let steps : step_by actor.Timers (slice_get run.timers (made (timers_actor shape))) ≡ by_port_of actor.Timers e.0 ∷ [] = ap (step_by actor.Timers) here in
            subst (Moves script run needs made s actor.Timers (timers_actor shape)) (sym steps)
            (goes_move script run needs made s actor.Timers (timers_actor shape) (by_port_of actor.Timers e.0 ∷ [])
            (ap (taking_entry actor.Timers s.world.to_timers) next ∙ ap (λ (vs : List TimersNote). where_there vs (by_port_of actor.Timers e.0)) t.there) t.is
            (subst (λ (lane : List (ℕ × TimersNote)). Stands script run (made_more made (timers_actor shape)) (record s { world = timers_took setting s.world lane })) (sym (first_is e.0 s.world.to_timers e.1 t.waiting t.there)) (record {
              clients = λ c low. stands.clients c low ∙ ap (λ (n : ℕ). drop n (client_steps_of script run c)) (sym (more_else made (timers_actor shape) c (λ same. omega arith)));
              entries = record {
                publishers = stands.entries.publishers;
                publishers_made = λ p low. stands.entries.publishers_made p low ∙ sym (more_else made (timers_actor shape) (publisher_actor shape p) (λ same. omega arith));
                bridge = stands.entries.bridge;
                bridge_made = stands.entries.bridge_made ∙ sym (more_else made (timers_actor shape) (bridge_actor shape) (λ same. omega arith));
                timers = begins_more s.world.timers run.timers e t.rest t.next;
                timers_made = length_push s.world.timers e ∙ (let same : length s.world.timers + 1 ≡ suc (length s.world.timers) = omega arith in same) ∙ ap suc stands.entries.timers_made ∙ sym (more_here made (timers_actor shape));
                queues = stands.entries.queues;
                queues_made = λ q low. stands.entries.queues_made q low ∙ sym (more_else made (timers_actor shape) (queue_actor shape q) (λ same. omega arith));
              };
              own = λ p low. stands.own p low ∙ ap (λ (n : ℕ). own_in (drop n (slice_index_or run.publishers p []))) (sym (more_else made (timers_actor shape) (publisher_actor shape p) (λ same. omega arith)));
              holds = still_holds made (timers_actor shape) (timers_took setting s.world (e ∷ without_first e.0 s.world.to_timers)) (omega arith) (timers_takes setting (done_by script run made) s.world stands.holds e.0 e.1 t.waiting t.there);
            })))

    -- ---- a queue

    pub queue_moves : (q : ℕ) → q < queues_of shape → Moves script run needs made s (actor.Queue q) (queue_actor shape q) (step_by (actor.Queue q) (slice_get (slice_index_or run.queues q []) (made (queue_actor shape q))))
    queue_moves q inside = ⊎_elim takes rests
        (takes_or_rests (actor.Queue q) numbers made (actors_to_queue shape) (all_to_queue script run q) (λ port. put_on_queue shape s.world.bridge s.world.timers q (queue_putter port))
        (slice_index_or s.world.queues q []) (slice_index_or run.queues q []) (slice_index_or s.world.to_queues q []) needs (queue_actor shape q) (stands.entries.queues q inside) (stands.entries.queues_made q inside) (on_queue script run shaped made s.world stands.entries q) (stands.holds.queues q inside) (queue_total script run shaped edges q inside)
        (plain_needs (queue_actor shape q) (queue_needs script run q) (omega arith) (omega (arith, count)) ((are_by_number script run).queues q inside)))
      where
        rests : Rests (actor.Queue q) (slice_index_or s.world.queues q []) (slice_index_or run.queues q []) (slice_index_or s.world.to_queues q []) (is_ready needs made (queue_actor shape q))
            → Moves script run needs made s (actor.Queue q) (queue_actor shape q) (step_by (actor.Queue q) (slice_get (slice_index_or run.queues q []) (made (queue_actor shape q))))
        rests r = rests_move script run needs made s (actor.Queue q) (queue_actor shape q) (step_by (actor.Queue q) (slice_get (slice_index_or run.queues q []) (made (queue_actor shape q)))) stands r.none r.is

        takes : Takes (slice_index_or s.world.queues q []) (slice_index_or run.queues q []) (slice_index_or s.world.to_queues q []) (is_ready needs made (queue_actor shape q))
            → Moves script run needs made s (actor.Queue q) (queue_actor shape q) (step_by (actor.Queue q) (slice_get (slice_index_or run.queues q []) (made (queue_actor shape q))))
        takes t =
            let e : ℕ × QueueNote = t.entry in
            let journal : List (ℕ × QueueNote) = slice_index_or s.world.queues q [] in
            let lane : List (ℕ × QueueNote) = slice_index_or s.world.to_queues q [] in
            let there : q < length s.world.queues = omega (arith, stands.holds.queues_len) in
            let next : slice_get (slice_index_or run.queues q []) (length journal) ≡ Some e = next_after journal (slice_index_or run.queues q []) e t.rest t.next in
            let here : slice_get (slice_index_or run.queues q []) (made (queue_actor shape q)) ≡ Some e = ap (slice_get (slice_index_or run.queues q [])) (sym (stands.entries.queues_made q inside)) ∙ next in
            let steps : step_by (actor.Queue q) (slice_get (slice_index_or run.queues q []) (made (queue_actor shape q))) ≡ by_port_of (actor.Queue q) e.0 ∷ [] = ap (step_by (actor.Queue q)) here in
            let grown : (k : ℕ) → q ≡ k → slice_index_or (slice_set s.world.queues q (journal ++ e ∷ [])) k [] ≡ journal ++ e ∷ [] = λ k same. subst (λ (n : ℕ). slice_index_or (slice_set s.world.queues q (journal ++ e ∷ [])) n [] ≡ journal ++ e ∷ []) same (get_or-set_same s.world.queues q (journal ++ e ∷ []) [] there) in
            let others : (k : ℕ) → (q ≡ k → ⊥) → slice_index_or (slice_set s.world.queues q (journal ++ e ∷ [])) k [] ≡ slice_index_or s.world.queues k [] = λ k apart. get_or-set_other s.world.queues q k (journal ++ e ∷ []) [] (λ same. apart (sym same)) in
            subst (Moves script run needs made s (actor.Queue q) (queue_actor shape q)) (sym steps)
            (goes_move script run needs made s (actor.Queue q) (queue_actor shape q) (by_port_of (actor.Queue q) e.0 ∷ [])
            (ap (taking_entry (actor.Queue q) lane) next ∙ ap (λ (vs : List QueueNote). where_there vs (by_port_of (actor.Queue q) e.0)) t.there) t.is
            (subst (λ (taken : List (ℕ × QueueNote)). Stands script run (made_more made (queue_actor shape q)) (record s { world = queue_took setting q s.world taken })) (sym (first_is e.0 lane e.1 t.waiting t.there)) (record {
              clients = λ c low. stands.clients c low ∙ ap (λ (n : ℕ). drop n (client_steps_of script run c)) (sym (more_else made (queue_actor shape q) c (λ same. omega arith)));
              entries = record {
                publishers = stands.entries.publishers;
                publishers_made = λ p low. stands.entries.publishers_made p low ∙ sym (more_else made (queue_actor shape q) (publisher_actor shape p) (λ same. omega arith));
                bridge = stands.entries.bridge;
                bridge_made = stands.entries.bridge_made ∙ sym (more_else made (queue_actor shape q) (bridge_actor shape) (λ same. omega arith));
                timers = stands.entries.timers;
                timers_made = stands.entries.timers_made ∙ sym (more_else made (queue_actor shape q) (timers_actor shape) (λ same. omega arith));
                queues = λ k low. ⊎_elim
                    (λ (same : q ≡ k). subst (λ (j : List (ℕ × QueueNote)). Begins j (slice_index_or run.queues k [])) (sym (grown k same))
                    (subst (λ (n : ℕ). Begins (journal ++ e ∷ []) (slice_index_or run.queues n [])) same (begins_more journal (slice_index_or run.queues q []) e t.rest t.next)))
                    (λ apart. subst (λ (j : List (ℕ × QueueNote)). Begins j (slice_index_or run.queues k [])) (sym (others k apart)) (stands.entries.queues k low))
                    (cases_eq q k);
                queues_made = λ k low. ⊎_elim
                    (λ (same : q ≡ k). ap (λ (j : List (ℕ × QueueNote)). length j) (grown k same) ∙ length_push journal e ∙ (let one : length journal + 1 ≡ suc (length journal) = omega arith in one) ∙ ap suc (stands.entries.queues_made q inside) ∙ sym (more_here made (queue_actor shape q)) ∙ ap (λ (n : ℕ). made_more made (queue_actor shape q) (queue_actor shape n)) same)
                    (λ apart. ap (λ (j : List (ℕ × QueueNote)). length j) (others k apart) ∙ stands.entries.queues_made k low ∙ sym (more_else made (queue_actor shape q) (queue_actor shape k) (λ same. let is : q ≡ k = omega arith in apart is)))
                    (cases_eq q k);
              };
              own = λ p low. stands.own p low ∙ ap (λ (n : ℕ). own_in (drop n (slice_index_or run.publishers p []))) (sym (more_else made (queue_actor shape q) (publisher_actor shape p) (λ same. omega arith)));
              holds = still_holds made (queue_actor shape q) (queue_took setting q s.world (e ∷ without_first e.0 lane)) (omega arith) (queue_takes setting (done_by script run made) s.world stands.holds q e.0 e.1 t.waiting inside t.there);
            })))
