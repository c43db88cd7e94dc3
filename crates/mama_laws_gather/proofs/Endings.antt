-- What the ending of the bridge and of the timer service tells of what each port gave.
use Rattle.std.specs.List.{list_any}
use Rattle.std.proofs.Common.{◌≡◌, ℕ, ◌+◌, ◌<◌, ◌==◌, true, false, List, refl, ap}
use Rattle.std.proofs.lemmas.Bool.{and_parts, both_ways, eqb-true}
use Rattle.mama_journal.specs.Journal.{all_below}
use Rattle.mama_journal.specs.Lane.{by_port}
use Rattle.mama_event.specs.declared.shape.Shape.{Shape}
use Rattle.mama_event.specs.declared.to_bridge.BridgeNote.{BridgeNote}
use Rattle.mama_event.specs.declared.to_bridge.BridgeNote.TheVariants as b
use Rattle.mama_event.specs.declared.to_timers.TimersNote.{TimersNote}
use Rattle.mama_event.specs.declared.to_timers.TimersNote.TheVariants as t
use Rattle.mama_event.specs.Ports.{clients_of, publishers_of, queues_of}
use Rattle.mama_event.specs.ToBridge as bridge
use Rattle.mama_event.specs.ToTimers as timers
use Rattle.mama_rules_services.specs.Bridge.{joins, opens}
use Rattle.mama_rules_services.specs.Bridge as bridging
use Rattle.mama_rules_services.specs.Timers.{arms}
use Rattle.mama_rules_services.specs.Timers as timing
use Rattle.mama_rules_services.specs.Ports.{bridge_putter, timers_putter}
use Rattle.mama_laws_legal.proofs.Heard.{is_client_done, who_ends_client, below_at, settled_client}
use Rattle.mama_laws_legal.proofs.Endings.{ending_settles}
use Rattle.mama_rules_services.proofs.CameBy.{came_by, cond_off}
use Rattle.mama_rules_services.proofs.PutterPorts.{by_bridge_port, by_timers_port}

-- ---- the bridge

done_is_last : (n : BridgeNote) → is_client_done n ≡ true → bridge.is_last n ≡ true
done_is_last b.ClientDone is = refl
done_is_last _ is = absurd (both_ways false refl is)

client_settles_none : (p c : ℕ) (note : BridgeNote) → bridging.settles p (bridging.from_client c note) ≡ false
client_settles_none p c (b.Join s terms tag) = cond_off (bridging.settles p) (s.client == c) (joins s terms tag) bridging.no_event refl refl
client_settles_none p c (b.OpenInbox i terms tag) = cond_off (bridging.settles p) (i.client == c) (opens i terms tag) bridging.no_event refl refl
client_settles_none p c _ = refl

queue_settles_none : (p k : ℕ) (note : BridgeNote) → bridging.settles p (bridging.from_queue k note) ≡ false
queue_settles_none p k b.Bye = refl
queue_settles_none p k _ = refl

publisher_settles : (p r : ℕ) (note : BridgeNote) → bridging.settles p (bridging.from_publisher r note) ≡ true → (r ≡ p) × (bridge.is_last note ≡ true)
publisher_settles p r b.Settled h = (eqb-true r p h, refl)
publisher_settles p r _ h = absurd (both_ways false refl h)

who_settles : (shape : Shape) (p port : ℕ) (note : BridgeNote) → bridging.settles p (bridging.put_by (bridge_putter shape port) note) ≡ true → (port ≡ clients_of shape + p) × (bridge.is_last note ≡ true)
who_settles shape p port = by_bridge_port shape (λ port who. (note : BridgeNote) → bridging.settles p (bridging.put_by who note) ≡ true → (port ≡ clients_of shape + p) × (bridge.is_last note ≡ true))
    (λ c within note h. absurd (both_ways (bridging.settles p (bridging.from_client c note)) (client_settles_none p c note) h))
    (λ r within note h. let parts = publisher_settles p r note h in (ap (λ (m : ℕ). clients_of shape + m) parts.0, parts.1))
    (λ k within note h. absurd (both_ways (bridging.settles p (bridging.from_queue k note)) (queue_settles_none p k note) h))
    (λ n past note h. absurd (both_ways false refl h)) port

-- once the bridge's ending has come, each client's port and each publisher's gave its last event
pub last_of_client : (shape : Shape) (journal : List (ℕ × BridgeNote)) (c : ℕ) → c < clients_of shape → bridging.has_ending shape (bridging.heard shape journal) ≡ true → list_any bridge.is_last (by_port c journal) ≡ true
last_of_client shape journal c small ended =
    came_by (λ port note. bridging.put_by (bridge_putter shape port) note) c bridge.is_last (bridging.ends_client c)
    (λ port note says. let parts = who_ends_client shape c port note says in (parts.0, done_is_last note parts.1)) journal
    (settled_client shape (bridging.heard shape journal) c small (ending_settles shape (bridging.heard shape journal) ended))

pub last_of_publisher : (shape : Shape) (journal : List (ℕ × BridgeNote)) (p : ℕ) → p < publishers_of shape → bridging.has_ending shape (bridging.heard shape journal) ≡ true
    → list_any bridge.is_last (by_port (clients_of shape + p) journal) ≡ true
last_of_publisher shape journal p small ended =
    let es = bridging.heard shape journal in
    came_by (λ port note. bridging.put_by (bridge_putter shape port) note) (clients_of shape + p) bridge.is_last (bridging.settles p)
    (λ port note says. who_settles shape p port note says) journal
    (below_at (publishers_of shape) (λ r. list_any (bridging.settles r) es) p small
    (and_parts (bridging.is_settling shape es) (all_below (publishers_of shape) (λ r. list_any (bridging.settles r) es)) ended).1)

-- ---- the timer service

client_done_of : (c d : ℕ) (note : TimersNote) → timing.ends_client c (timing.from_client d note) ≡ true → (d ≡ c) × (timers.is_last note ≡ true)
client_done_of c d (t.Arm timer queue interval tag) h =
    absurd (both_ways (timing.ends_client c (timing.from_client d (t.Arm timer queue interval tag))) (cond_off (timing.ends_client c) (timer.client == d) (arms timer queue interval tag) timing.no_event refl refl) h)
client_done_of c d t.ClientDone h = (eqb-true d c h, refl)
client_done_of c d _ h = absurd (both_ways false refl h)

queue_ends_no_client : (c k : ℕ) (note : TimersNote) → timing.ends_client c (timing.from_queue k note) ≡ false
queue_ends_no_client c k t.Bye = refl
queue_ends_no_client c k _ = refl

bridge_ends_no_client : (c : ℕ) (note : TimersNote) → timing.ends_client c (timing.from_bridge note) ≡ false
bridge_ends_no_client c t.Fin = refl
bridge_ends_no_client c _ = refl

who_ends_timing_client : (shape : Shape) (c port : ℕ) (note : TimersNote) → timing.ends_client c (timing.put_by (timers_putter shape port) note) ≡ true → (port ≡ c) × (timers.is_last note ≡ true)
who_ends_timing_client shape c port = by_timers_port shape (λ port who. (note : TimersNote) → timing.ends_client c (timing.put_by who note) ≡ true → (port ≡ c) × (timers.is_last note ≡ true))
    (λ d within note h. client_done_of c d note h)
    (λ k within note h. absurd (both_ways (timing.ends_client c (timing.from_queue k note)) (queue_ends_no_client c k note) h))
    (λ note h. absurd (both_ways (timing.ends_client c (timing.from_bridge note)) (bridge_ends_no_client c note) h))
    (λ n past note h. absurd (both_ways false refl h)) port

client_says_no_fin : (c : ℕ) (note : TimersNote) → timing.is_fin (timing.from_client c note) ≡ false
client_says_no_fin c (t.Arm timer queue interval tag) = cond_off timing.is_fin (timer.client == c) (arms timer queue interval tag) timing.no_event refl refl
client_says_no_fin c _ = refl

queue_says_no_fin : (k : ℕ) (note : TimersNote) → timing.is_fin (timing.from_queue k note) ≡ false
queue_says_no_fin k t.Bye = refl
queue_says_no_fin k _ = refl

bridge_says_fin : (note : TimersNote) → timing.is_fin (timing.from_bridge note) ≡ true → timers.is_last note ≡ true
bridge_says_fin t.Fin h = refl
bridge_says_fin _ h = absurd (both_ways false refl h)

who_says_fin : (shape : Shape) (port : ℕ) (note : TimersNote) → timing.is_fin (timing.put_by (timers_putter shape port) note) ≡ true → (port ≡ clients_of shape + queues_of shape) × (timers.is_last note ≡ true)
who_says_fin shape port = by_timers_port shape (λ port who. (note : TimersNote) → timing.is_fin (timing.put_by who note) ≡ true → (port ≡ clients_of shape + queues_of shape) × (timers.is_last note ≡ true))
    (λ c within note h. absurd (both_ways (timing.is_fin (timing.from_client c note)) (client_says_no_fin c note) h))
    (λ k within note h. absurd (both_ways (timing.is_fin (timing.from_queue k note)) (queue_says_no_fin k note) h))
    (λ note h. (refl, bridge_says_fin note h))
    (λ n past note h. absurd (both_ways false refl h)) port

-- once the service's ending has come, each client's port and the bridge's gave its last event
pub last_of_timing_client : (shape : Shape) (journal : List (ℕ × TimersNote)) (c : ℕ) → c < clients_of shape → timing.has_ending shape (timing.heard shape journal) ≡ true → list_any timers.is_last (by_port c journal) ≡ true
last_of_timing_client shape journal c small ended =
    let es = timing.heard shape journal in
    came_by (λ port note. timing.put_by (timers_putter shape port) note) c timers.is_last (timing.ends_client c)
    (λ port note says. who_ends_timing_client shape c port note says) journal
    (below_at (clients_of shape) (λ d. list_any (timing.ends_client d) es) c small
    (and_parts (all_below (clients_of shape) (λ d. list_any (timing.ends_client d) es)) (list_any timing.is_fin es) ended).0)

pub last_of_bridge : (shape : Shape) (journal : List (ℕ × TimersNote)) → timing.has_ending shape (timing.heard shape journal) ≡ true
    → list_any timers.is_last (by_port (clients_of shape + queues_of shape) journal) ≡ true
last_of_bridge shape journal ended =
    let es = timing.heard shape journal in
    came_by (λ port note. timing.put_by (timers_putter shape port) note) (clients_of shape + queues_of shape) timers.is_last timing.is_fin
    (λ port note says. who_says_fin shape port note says) journal
    (and_parts (all_below (clients_of shape) (λ d. list_any (timing.ends_client d) es)) (list_any timing.is_fin es) ended).1
