-- A step of a run that is followed: where the run stands after it.
use Rattle.std.specs.Prelude.{◌==◌, slice_index_or, slice_set}
use Rattle.std.proofs.Common.{◌≡◌, ℕ, zero, suc, ◌+◌, ◌<◌, Bool, true, false, cond, List, [], ◌∷◌, ◌++◌, length, take, refl, sym, ◌∙◌, ap, subst, arith, ◌⊎◌, ⊎_elim}
use Rattle.std.proofs.lemmas.Bool.{cases_eq, eq-eqb, eqb-true, ne_eqb, true≢false}
use Rattle.std.proofs.lemmas.List.{length-set, get_or-set_same, get_or-set_other}
use Rattle.mama_journal.specs.Lane.{by_port}
use Rattle.mama_event.specs.declared.to_bridge.BridgeNote.{BridgeNote}
use Rattle.mama_event.specs.declared.to_timers.TimersNote.{TimersNote}
use Rattle.mama_event.specs.declared.to_queue.QueueNote.{QueueNote}
use Rattle.mama_event.specs.Ports.{queues_of}
use Rattle.mama_rules_queue.specs.Queue.{QueuePut}
use Rattle.mama_rules_rounds.specs.Setting.{Setting}
use Rattle.mama_rules_rounds.specs.World.{World, bridge_took, timers_took, queue_did, queue_took, queue_turn}
use Rattle.mama_rules_services.specs.Ports.{queue_putter}
use Rattle.mama_rules_legal.specs.Edges.{put_on_queue}
use Rattle.mama_laws_legal.proofs.Worlds.{Holds, bridge_turn_keeps, timers_turn_keeps, queue_turn_keeps}
use Rattle.mama_replay.specs.Followed.{without_first, in_front, first_by}

-- ---- the first event of an edge, and then the rest of the lane

-- what came by each port is as it was
pub first_by_port : {V : Type 0} (port : ℕ) (lane : List (ℕ × V)) (v : V) (vs : List V) → by_port port lane ≡ v ∷ vs → (other : ℕ) → by_port other ((port, v) ∷ without_first port lane) ≡ by_port other lane
first_by_port {V} port [] v vs is other = absurd (true≢false (ap (λ (ws : List V). nothing ws) is))
  where
    nothing : List V → Bool
    nothing [] = true
    nothing (w ∷ ws) = false
first_by_port {V} port (e ∷ es) v vs is other = ⊎_elim here (there (λ later. first_by_port port es v vs later other)) (cases_eq e.0 port)
  where
    here : e.0 ≡ port → by_port other ((port, v) ∷ without_first port (e ∷ es)) ≡ by_port other (e ∷ es)
    here same =
        let test : (e.0 == port) ≡ true = eq-eqb e.0 port same in
        let first : e.1 ∷ by_port port es ≡ v ∷ vs = sym (ap (λ (b : Bool). cond b (e.1 ∷ by_port port es) (by_port port es)) test) ∙ is in
        let value : e.1 ≡ v = cc in
        ap (λ (rest : List (ℕ × V)). by_port other ((port, v) ∷ rest)) (ap (λ (b : Bool). cond b es (e ∷ without_first port es)) test)
        ∙ ap (λ (n : ℕ). by_port other ((n, v) ∷ es)) (sym same) ∙ ap (λ (w : V). by_port other ((e.0, w) ∷ es)) (sym value)

    there : (by_port port es ≡ v ∷ vs → by_port other ((port, v) ∷ without_first port es) ≡ by_port other es) → (e.0 ≡ port → ⊥) → by_port other ((port, v) ∷ without_first port (e ∷ es)) ≡ by_port other (e ∷ es)
    there rest apart =
        let test : (e.0 == port) ≡ false = ne_eqb e.0 port apart in
        let later : by_port port es ≡ v ∷ vs = sym (ap (λ (b : Bool). cond b (e.1 ∷ by_port port es) (by_port port es)) test) ∙ is in
        ap (λ (rest : List (ℕ × V)). by_port other ((port, v) ∷ rest)) (ap (λ (b : Bool). cond b es (e ∷ without_first port es)) test)
        ∙ swapped ∙ ap (λ (ws : List V). cond (e.0 == other) (e.1 ∷ ws) ws) (rest later)
      where
        swap : (b d : Bool) → (d ≡ true → b ≡ true → ⊥) → (ws : List V) → cond b (v ∷ cond d (e.1 ∷ ws) ws) (cond d (e.1 ∷ ws) ws) ≡ cond d (e.1 ∷ cond b (v ∷ ws) ws) (cond b (v ∷ ws) ws)
        swap true true both ws = absurd (both refl refl)
        swap true false both ws = refl
        swap false true both ws = refl
        swap false false both ws = refl

        swapped : by_port other ((port, v) ∷ e ∷ without_first port es) ≡ by_port other (e ∷ (port, v) ∷ without_first port es)
        swapped = swap (port == other) (e.0 == other) (λ second first. apart (eqb-true e.0 other second ∙ sym (eqb-true port other first))) (by_port other (without_first port es))

pub first_is : {V : Type 0} (port : ℕ) (lane : List (ℕ × V)) (v : V) (vs : List V) → by_port port lane ≡ v ∷ vs → first_by port lane ≡ (port, v) ∷ without_first port lane
first_is port lane v vs is = ap (λ (ws : List _). in_front port ws (without_first port lane)) is

-- ---- a take by a port

module _ (setting : Setting) (done : ℕ → List QueuePut) (w : World) (holds : Holds setting done w) where
  pub bridge_takes : (port : ℕ) (v : BridgeNote) (vs : List BridgeNote) → by_port port w.to_bridge ≡ v ∷ vs → Holds setting done (bridge_took setting w ((port, v) ∷ without_first port w.to_bridge))
  bridge_takes port v vs is = bridge_turn_keeps setting done (record w { to_bridge = (port, v) ∷ without_first port w.to_bridge }) (record {
    publishers_len = holds.publishers_len;
    publisher_lanes = holds.publisher_lanes;
    queues_len = holds.queues_len;
    queue_lanes = holds.queue_lanes;
    bridge = λ other. ap (λ (vs : List BridgeNote). by_port other w.bridge ++ vs) (first_by_port port w.to_bridge v vs is other) ∙ holds.bridge other;
    timers = holds.timers;
    publishers = holds.publishers;
    queues = holds.queues;
  })

  pub timers_takes : (port : ℕ) (v : TimersNote) (vs : List TimersNote) → by_port port w.to_timers ≡ v ∷ vs → Holds setting done (timers_took setting w ((port, v) ∷ without_first port w.to_timers))
  timers_takes port v vs is = timers_turn_keeps setting done (record w { to_timers = (port, v) ∷ without_first port w.to_timers }) (record {
    publishers_len = holds.publishers_len;
    publisher_lanes = holds.publisher_lanes;
    queues_len = holds.queues_len;
    queue_lanes = holds.queue_lanes;
    bridge = holds.bridge;
    timers = λ other. ap (λ (vs : List TimersNote). by_port other w.timers ++ vs) (first_by_port port w.to_timers v vs is other) ∙ holds.timers other;
    publishers = holds.publishers;
    queues = holds.queues;
  })

  set_twice : {X : Type 0} (xs : List X) (k : ℕ) (a b : X) → slice_set (slice_set xs k a) k b ≡ slice_set xs k b
  set_twice [] k a b = refl
  set_twice (x ∷ xs) zero a b = refl
  set_twice (x ∷ xs) (suc k) a b = ap (λ (ys : List _). x ∷ ys) (set_twice xs k a b)

  pub queue_takes : (q port : ℕ) (v : QueueNote) (vs : List QueueNote) → q < queues_of setting.shape → by_port port (slice_index_or w.to_queues q []) ≡ v ∷ vs
      → Holds setting done (queue_took setting q w ((port, v) ∷ without_first port (slice_index_or w.to_queues q [])))
  queue_takes q port v vs low is =
      let lane : List (ℕ × QueueNote) = (port, v) ∷ without_first port (slice_index_or w.to_queues q []) in
      let lanes : List (List (ℕ × QueueNote)) = slice_set w.to_queues q lane in
      let inside : q < length w.to_queues = omega (arith, holds.queue_lanes) in
      let own : slice_index_or (slice_set w.to_queues q lane) q [] ≡ lane = get_or-set_same w.to_queues q lane [] inside in
      let kept : Holds setting done (queue_turn setting q (record w { to_queues = slice_set w.to_queues q lane })) = queue_turn_keeps setting done q (record w { to_queues = slice_set w.to_queues q lane }) low (record {
        publishers_len = holds.publishers_len;
        publisher_lanes = holds.publisher_lanes;
        queues_len = holds.queues_len;
        queue_lanes = length-set w.to_queues q lane ∙ holds.queue_lanes;
        bridge = holds.bridge;
        timers = holds.timers;
        publishers = holds.publishers;
        queues = λ r there other. ⊎_elim
            (λ (same : q ≡ r). subst (λ (n : ℕ). by_port other (slice_index_or w.queues n []) ++ by_port other (slice_index_or (slice_set w.to_queues q lane) n []) ≡ put_on_queue setting.shape w.bridge w.timers n (queue_putter other)) same
            (ap (λ (ws : List (ℕ × QueueNote)). by_port other (slice_index_or w.queues q []) ++ by_port other ws) own
            ∙ ap (λ (ws : List QueueNote). by_port other (slice_index_or w.queues q []) ++ ws) (first_by_port port (slice_index_or w.to_queues q []) v vs is other)
            ∙ holds.queues q low other))
            (λ apart. ap (λ (ws : List (ℕ × QueueNote)). by_port other (slice_index_or w.queues r []) ++ by_port other ws) (get_or-set_other w.to_queues q r lane [] (λ same. apart (sym same)))
            ∙ holds.queues r there other)
            (cases_eq q r);
      }) in
      subst (λ (ls : List (List (ℕ × QueueNote))). Holds setting done (queue_did setting q (record w { to_queues = ls }) (port, v)))
      (set_twice w.to_queues q lane (without_first port (slice_index_or w.to_queues q [])))
      (subst (λ (taken : List (ℕ × QueueNote)). Holds setting done (queue_took setting q (record w { to_queues = slice_set w.to_queues q lane }) taken)) own kept)
