-- By which port a queue's last event came.
use Rattle.std.specs.List.{list_any}
use Rattle.std.proofs.Common.{◌≡◌, ℕ, zero, suc, ◌+◌, ◌<◌, ◌==◌, Bool, true, false, List, refl, ◌∙◌, ap, arith, ⊎_elim}
use Rattle.std.proofs.lemmas.Bool.{and_parts, both_ways, cases_eq, eqb-true}
use Rattle.mama_journal.specs.Journal.{all_below}
use Rattle.mama_event.specs.declared.shape.Shape.{Shape}
use Rattle.mama_event.specs.declared.to_bridge.BridgeNote.{BridgeNote}
use Rattle.mama_event.specs.declared.to_bridge.BridgeNote.TheVariants as b
use Rattle.mama_event.specs.declared.to_timers.TimersNote.{TimersNote}
use Rattle.mama_event.specs.declared.to_timers.TimersNote.TheVariants as t
use Rattle.mama_event.specs.Ports.{clients_of, publishers_of, queues_of}
use Rattle.mama_event.specs.ToBridge as to_bridge
use Rattle.mama_event.specs.ToTimers as to_timers
use Rattle.mama_rules_services.specs.Bridge as bridge
use Rattle.mama_rules_services.specs.Timers as timers
use Rattle.mama_rules_services.specs.Ports.{bridge_putter, timers_putter}
use Rattle.mama_rules_services.proofs.CameBy.{came_by, cond_off}
use Rattle.mama_rules_services.proofs.PutterPorts.{by_bridge_port, by_timers_port}
use Rattle.mama_posts_services.specs.Byes.{BridgesEndByByes, TimersEndByByes}

below_at : (n : ℕ) (f : ℕ → Bool) (k : ℕ) → k < n → all_below n f ≡ true → f k ≡ true
below_at zero f k small h = absurd (omega arith)
below_at (suc n) f k small h =
    let parts = and_parts (all_below n f) (f n) h in
    ⊎_elim (λ same. ap f same ∙ parts.1) (λ apart. below_at n f k (omega arith) parts.0) (cases_eq k n)

-- ---- the bridge

client_says_none : (k c : ℕ) (note : BridgeNote) → bridge.ends_queue k (bridge.from_client c note) ≡ false
client_says_none k c (b.Join s terms tag) = cond_off (bridge.ends_queue k) (s.client == c) (bridge.joins s terms tag) bridge.no_event refl refl
client_says_none k c (b.OpenInbox i terms tag) = cond_off (bridge.ends_queue k) (i.client == c) (bridge.opens i terms tag) bridge.no_event refl refl
client_says_none k c _ = refl

publisher_says_none : (k p : ℕ) (note : BridgeNote) → bridge.ends_queue k (bridge.from_publisher p note) ≡ false
publisher_says_none k p b.Bye = refl
publisher_says_none k p _ = refl

queue_says : (k q : ℕ) (note : BridgeNote) → bridge.ends_queue k (bridge.from_queue q note) ≡ true → (q ≡ k) × (to_bridge.is_last note ≡ true)
queue_says k q b.Bye h = (eqb-true q k h, refl)
queue_says k q _ h = absurd (both_ways false refl h)

who_says : (shape : Shape) (k port : ℕ) (note : BridgeNote) → bridge.ends_queue k (bridge.put_by (bridge_putter shape port) note) ≡ true → (port ≡ clients_of shape + publishers_of shape + k) × (to_bridge.is_last note ≡ true)
who_says shape k port = by_bridge_port shape (λ port who. (note : BridgeNote) → bridge.ends_queue k (bridge.put_by who note) ≡ true → (port ≡ clients_of shape + publishers_of shape + k) × (to_bridge.is_last note ≡ true))
    (λ c within note h. absurd (both_ways (bridge.ends_queue k (bridge.from_client c note)) (client_says_none k c note) h))
    (λ p within note h. absurd (both_ways (bridge.ends_queue k (bridge.from_publisher p note)) (publisher_says_none k p note) h))
    (λ q within note h. let parts = queue_says k q note h in (ap (λ (m : ℕ). clients_of shape + publishers_of shape + m) parts.0, parts.1))
    (λ n past note h. absurd (both_ways false refl h)) port

pub bridge_byes : BridgesEndByByes
bridge_byes shape journal over q within =
    came_by (λ port note. bridge.put_by (bridge_putter shape port) note) (clients_of shape + publishers_of shape + q) to_bridge.is_last (bridge.ends_queue q) (who_says shape q) journal
    (below_at (queues_of shape) (λ k. list_any (bridge.ends_queue k) (bridge.heard shape journal)) q within over)

-- ---- the timer service

client_ends_none : (k c : ℕ) (note : TimersNote) → timers.ends_queue k (timers.from_client c note) ≡ false
client_ends_none k c (t.Arm timer queue interval tag) = cond_off (timers.ends_queue k) (timer.client == c) (timers.arms timer queue interval tag) timers.no_event refl refl
client_ends_none k c _ = refl

bridge_ends_none : (k : ℕ) (note : TimersNote) → timers.ends_queue k (timers.from_bridge note) ≡ false
bridge_ends_none k t.Fin = refl
bridge_ends_none k _ = refl

queue_ends : (k q : ℕ) (note : TimersNote) → timers.ends_queue k (timers.from_queue q note) ≡ true → (q ≡ k) × (to_timers.is_last note ≡ true)
queue_ends k q t.Bye h = (eqb-true q k h, refl)
queue_ends k q _ h = absurd (both_ways false refl h)

who_ends : (shape : Shape) (k port : ℕ) (note : TimersNote) → timers.ends_queue k (timers.put_by (timers_putter shape port) note) ≡ true → (port ≡ clients_of shape + k) × (to_timers.is_last note ≡ true)
who_ends shape k port = by_timers_port shape (λ port who. (note : TimersNote) → timers.ends_queue k (timers.put_by who note) ≡ true → (port ≡ clients_of shape + k) × (to_timers.is_last note ≡ true))
    (λ c within note h. absurd (both_ways (timers.ends_queue k (timers.from_client c note)) (client_ends_none k c note) h))
    (λ q within note h. let parts = queue_ends k q note h in (ap (λ (m : ℕ). clients_of shape + m) parts.0, parts.1))
    (λ note h. absurd (both_ways (timers.ends_queue k (timers.from_bridge note)) (bridge_ends_none k note) h))
    (λ n past note h. absurd (both_ways false refl h)) port

pub timers_byes : TimersEndByByes
timers_byes shape journal over q within =
    came_by (λ port note. timers.put_by (timers_putter shape port) note) (clients_of shape + q) to_timers.is_last (timers.ends_queue q) (who_ends shape q) journal
    (below_at (queues_of shape) (λ k. list_any (timers.ends_queue k) (timers.heard shape journal)) q within over)
