-- Which actor puts by a port, by cases.
use Rattle.std.specs.Prelude.{nat_lt, nat_le, ◌-◌}
use Rattle.std.proofs.Common.{◌≡◌, ℕ, ◌+◌, ◌<◌, ◌≤◌, ◌==◌, Bool, true, false, ◌&&◌, cond, sym, ◌∙◌, ap, subst, arith}
use Rattle.std.proofs.lemmas.Bool.{and_parts, cond_both, ltb-true, ltb-false, leb-true, eqb-true, eqb-false, le-leb}
use Rattle.mama_event.specs.declared.shape.Shape.{Shape}
use Rattle.mama_event.specs.Ports.{clients_of, publishers_of, queues_of}
use Rattle.mama_rules_services.specs.Ports.{Putter, ByClient, ByPublisher, ByQueue, ByBridge, ByTimers, ByNobody, bridge_putter, timers_putter, queue_putter}

pub by_bridge_port : (shape : Shape) (P : ℕ → Putter → Type 0) → ((c : ℕ) → c < clients_of shape → P c (ByClient c))
    → ((p : ℕ) → p < publishers_of shape → P (clients_of shape + p) (ByPublisher p))
    → ((q : ℕ) → q < queues_of shape → P (clients_of shape + publishers_of shape + q) (ByQueue q))
    → ((port : ℕ) → clients_of shape + publishers_of shape + queues_of shape ≤ port → P port ByNobody)
    → (port : ℕ) → P port (bridge_putter shape port)
by_bridge_port shape P client publisher queue nobody port =
    let cs : ℕ = clients_of shape in
    let ps : ℕ = publishers_of shape in
    let qs : ℕ = queues_of shape in
    cond_both (nat_lt port cs) (ByClient port)
    (cond (nat_le cs port && nat_lt port (cs + ps)) (ByPublisher (port - cs))
    (cond (nat_le (cs + ps) port && nat_lt port (cs + ps + qs)) (ByQueue (port - cs - ps)) ByNobody)) (P port)
    (λ is. client port (ltb-true port cs is))
    (λ not_client. cond_both (nat_le cs port && nat_lt port (cs + ps)) (ByPublisher (port - cs))
    (cond (nat_le (cs + ps) port && nat_lt port (cs + ps + qs)) (ByQueue (port - cs - ps)) ByNobody) (P port)
    (λ is. let low = leb-true cs port (and_parts (nat_le cs port) (nat_lt port (cs + ps)) is).0 in
    let high = ltb-true port (cs + ps) (and_parts (nat_le cs port) (nat_lt port (cs + ps)) is).1 in
    let same : cs + (port - cs) ≡ port = omega arith in
    subst (λ (n : ℕ). P n (ByPublisher (port - cs))) same (publisher (port - cs) (omega arith)))
    (λ not_publisher. cond_both (nat_le (cs + ps) port && nat_lt port (cs + ps + qs)) (ByQueue (port - cs - ps)) ByNobody (P port)
    (λ is. let low = leb-true (cs + ps) port (and_parts (nat_le (cs + ps) port) (nat_lt port (cs + ps + qs)) is).0 in
    let high = ltb-true port (cs + ps + qs) (and_parts (nat_le (cs + ps) port) (nat_lt port (cs + ps + qs)) is).1 in
    let same : cs + ps + (port - cs - ps) ≡ port = omega arith in
    subst (λ (n : ℕ). P n (ByQueue (port - cs - ps))) same (queue (port - cs - ps) (omega arith)))
    (λ not_queue. nobody port (past cs ps qs port (ltb-false port cs not_client) not_publisher not_queue))))
  where
    past : (cs ps qs port : ℕ) → cs ≤ port → (nat_le cs port && nat_lt port (cs + ps)) ≡ false → (nat_le (cs + ps) port && nat_lt port (cs + ps + qs)) ≡ false → cs + ps + qs ≤ port
    past cs ps qs port low first second =
        let middle : cs + ps ≤ port = above (nat_le cs port) port (cs + ps) (le-leb cs port low) first in
        above (nat_le (cs + ps) port) port (cs + ps + qs) (le-leb (cs + ps) port middle) second
      where
        above : (b : Bool) (n m : ℕ) → b ≡ true → (b && nat_lt n m) ≡ false → m ≤ n
        above b n m here not_both = ltb-false n m (sym (ap (λ (x : Bool). x && nat_lt n m) here) ∙ not_both)

pub by_timers_port : (shape : Shape) (P : ℕ → Putter → Type 0) → ((c : ℕ) → c < clients_of shape → P c (ByClient c))
    → ((q : ℕ) → q < queues_of shape → P (clients_of shape + q) (ByQueue q))
    → P (clients_of shape + queues_of shape) ByBridge
    → ((port : ℕ) → clients_of shape + queues_of shape < port → P port ByNobody)
    → (port : ℕ) → P port (timers_putter shape port)
by_timers_port shape P client queue by_bridge nobody port =
    let cs : ℕ = clients_of shape in
    let qs : ℕ = queues_of shape in
    cond_both (nat_lt port cs) (ByClient port)
    (cond (nat_le cs port && nat_lt port (cs + qs)) (ByQueue (port - cs)) (cond (port == cs + qs) ByBridge ByNobody)) (P port)
    (λ is. client port (ltb-true port cs is))
    (λ not_client. cond_both (nat_le cs port && nat_lt port (cs + qs)) (ByQueue (port - cs)) (cond (port == cs + qs) ByBridge ByNobody) (P port)
    (λ is. let low = leb-true cs port (and_parts (nat_le cs port) (nat_lt port (cs + qs)) is).0 in
    let high = ltb-true port (cs + qs) (and_parts (nat_le cs port) (nat_lt port (cs + qs)) is).1 in
    let same : cs + (port - cs) ≡ port = omega arith in
    subst (λ (n : ℕ). P n (ByQueue (port - cs))) same (queue (port - cs) (omega arith)))
    (λ not_queue. cond_both (port == cs + qs) ByBridge ByNobody (P port)
    (λ is. subst (λ (n : ℕ). P n ByBridge) (sym (eqb-true port (cs + qs) is)) by_bridge)
    (λ not_bridge. nobody port (past cs qs port (ltb-false port cs not_client) not_queue (eqb-false port (cs + qs) not_bridge)))))
  where
    past : (cs qs port : ℕ) → cs ≤ port → (nat_le cs port && nat_lt port (cs + qs)) ≡ false → (port ≡ cs + qs → ⊥) → cs + qs < port
    past cs qs port low first apart =
        let middle : cs + qs ≤ port = ltb-false port (cs + qs) (sym (ap (λ (x : Bool). x && nat_lt port (cs + qs)) (le-leb cs port low)) ∙ first) in
        omega arith

pub by_queue_port : (P : ℕ → Putter → Type 0) → P 0 ByBridge → P 1 ByTimers → ((port : ℕ) → 1 < port → P port ByNobody) → (port : ℕ) → P port (queue_putter port)
by_queue_port P by_bridge by_timers nobody port =
    cond_both (port == 0) ByBridge (cond (port == 1) ByTimers ByNobody) (P port)
    (λ is. subst (λ (n : ℕ). P n ByBridge) (sym (eqb-true port 0 is)) by_bridge)
    (λ not_bridge. cond_both (port == 1) ByTimers ByNobody (P port)
    (λ is. subst (λ (n : ℕ). P n ByTimers) (sym (eqb-true port 1 is)) by_timers)
    (λ not_timers. let a = eqb-false port 0 not_bridge in let b = eqb-false port 1 not_timers in nobody port (omega arith)))
