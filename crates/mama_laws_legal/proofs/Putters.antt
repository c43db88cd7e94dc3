-- Which actor puts by a port, by cases, and what one entry more puts on each lane.
use Rattle.std.specs.Prelude.{slice_index_or, slice_set}
use Rattle.std.specs.List.{flat_map}
use Rattle.std.proofs.Common.{◌≡◌, ℕ, ◌+◌, ◌<◌, ◌==◌, cond, List, [], ◌∷◌, ◌++◌, length, refl, sym, ◌∙◌, ap, subst, arith}
use Rattle.std.proofs.lemmas.List.{map-append, get_or-set_same, get_or-set_other}
use Rattle.std.proofs.lemmas.List.Concat.{flat_map-append}
use Rattle.mama_journal.specs.Journal.{all_puts}
use Rattle.mama_journal.specs.Lane.{by_port}
use Rattle.mama_event.specs.declared.shape.Shape.{Shape}
use Rattle.mama_event.specs.declared.to_bridge.BridgeNote.{BridgeNote}
use Rattle.mama_event.specs.declared.to_timers.TimersNote.{TimersNote}
use Rattle.mama_event.specs.declared.to_queue.QueueNote.{QueueNote}
use Rattle.mama_event.specs.declared.publisher_entry.PublisherEntry.{PublisherEntry}
use Rattle.mama_event.specs.Ports.{clients_of, publishers_of, queues_of, bridge_port_of_publisher, bridge_port_of_queue, timers_port_of_queue, timers_port_of_bridge, queue_port_of_bridge, queue_port_of_timers}
use Rattle.mama_event.specs.Publisher.{publisher_puts, publisher_puts_at}
use Rattle.mama_rules_services.specs.Bridge.{BridgePut, bridge_puts, bridge_puts_at, bridge_reaction}
use Rattle.mama_rules_services.specs.Bridge as bridge
use Rattle.mama_rules_services.specs.Timers.{timers_puts, timers_puts_at, timers_reaction}
use Rattle.mama_rules_services.specs.Timers as timers
use Rattle.mama_rules_services.specs.Ports.{ByPublisher, ByQueue, ByBridge, ByTimers, ByNobody, bridge_putter, timers_putter, queue_putter}
use Rattle.mama_rules_queue.specs.Queue.{QueuePut}
use Rattle.mama_rules_rounds.specs.Client.{bridge_part, timers_part}
use Rattle.mama_rules_rounds.specs.Setting.{Setting, no_section, puts_on, queue_part, timer_part}
use Rattle.mama_rules_legal.specs.Edges.{put_on_bridge, put_on_timers, put_on_queue, queue_puts}
pub use Rattle.mama_rules_services.proofs.PutterPorts.{by_bridge_port, by_timers_port, by_queue_port}
use Rattle.mama_laws_legal.proofs.Lists.{by_port-append, grows}
use Rattle.mama_journal.specs.EntryLaws.{puts-push, all_puts-push}

-- ---- what one entry more puts

pub bridge_puts-push : (shape : Shape) (journal : List (ℕ × BridgeNote)) (e : ℕ × BridgeNote)
    → bridge_puts shape (journal ++ e ∷ []) ≡ bridge_puts shape journal ++ bridge_puts_at shape journal e
bridge_puts-push shape journal e =
    ap (all_puts (bridge_reaction shape)) (map-append (λ (x : ℕ × BridgeNote). bridge.put_by (bridge_putter shape x.0) x.1) journal (e ∷ []))
    ∙ all_puts-push (bridge_reaction shape) (bridge.heard shape journal) (bridge.put_by (bridge_putter shape e.0) e.1)

pub timers_puts-push : (shape : Shape) (journal : List (ℕ × TimersNote)) (e : ℕ × TimersNote)
    → timers_puts shape (journal ++ e ∷ []) ≡ timers_puts shape journal ++ timers_puts_at shape journal e
timers_puts-push shape journal e =
    ap (all_puts (timers_reaction shape)) (map-append (λ (x : ℕ × TimersNote). timers.put_by (timers_putter shape x.0) x.1) journal (e ∷ []))
    ∙ all_puts-push (timers_reaction shape) (timers.heard shape journal) (timers.put_by (timers_putter shape e.0) e.1)

-- the part of the bridge's puts that goes one way
pub bridge_part-push : {V : Type 0} (part : BridgePut → List V) (shape : Shape) (journal : List (ℕ × BridgeNote)) (e : ℕ × BridgeNote)
    → flat_map part (bridge_puts shape (journal ++ e ∷ [])) ≡ flat_map part (bridge_puts shape journal) ++ flat_map part (bridge_puts_at shape journal e)
bridge_part-push part shape journal e =
    ap (flat_map part) (bridge_puts-push shape journal e) ∙ flat_map-append part (bridge_puts shape journal) (bridge_puts_at shape journal e)

pub timers_part-push : (q : ℕ) (shape : Shape) (journal : List (ℕ × TimersNote)) (e : ℕ × TimersNote)
    → by_port q (timers_puts shape (journal ++ e ∷ [])) ≡ by_port q (timers_puts shape journal) ++ by_port q (timers_puts_at shape journal e)
timers_part-push q shape journal e =
    ap (by_port q) (timers_puts-push shape journal e) ∙ by_port-append q (timers_puts shape journal) (timers_puts_at shape journal e)

pub queue_part-push : {V : Type 0} (part : QueuePut → List V) (setting : Setting) (q : ℕ) (journal : List (ℕ × QueueNote)) (e : ℕ × QueueNote)
    → flat_map part (queue_puts setting q (journal ++ e ∷ [])) ≡ flat_map part (queue_puts setting q journal) ++ flat_map part (puts_on setting q journal e)
queue_part-push part setting q journal e =
    ap (flat_map part) (puts-push (puts_on setting q) journal e)
    ∙ flat_map-append part (queue_puts setting q journal) (puts_on setting q journal e)

-- one of many journals grows by an entry
pub grown_one : {E V : Type 0} (put : ℕ → List E → List V) (js : List (List E)) (p r : ℕ) (j : List E) (vs : List V) → p < length js
    → put p j ≡ put p (slice_index_or js p []) ++ vs → p ≡ r → put r (slice_index_or (slice_set js p j) r []) ≡ put r (slice_index_or js r []) ++ vs
grown_one put js p r j vs inside more same =
    subst (λ (n : ℕ). put n (slice_index_or (slice_set js p j) n []) ≡ put n (slice_index_or js n []) ++ vs) same
    (ap (put p) (get_or-set_same js p j [] inside) ∙ more)

pub kept_one : {E V : Type 0} (put : ℕ → List E → List V) (js : List (List E)) (p r : ℕ) (j : List E) → (p ≡ r → ⊥)
    → put r (slice_index_or (slice_set js p j) r []) ≡ put r (slice_index_or js r [])
kept_one put js p r j apart = ap (put r) (get_or-set_other js p r j [] (λ same. apart (sym same)))

-- ---- on the bridge's lane, when one actor puts some more

pub client_more : (setting : Setting) (done more : ℕ → List QueuePut) (ps : List (List PublisherEntry)) (qs : List (List (ℕ × QueueNote))) (c : ℕ) (outs : List QueuePut)
    → c < clients_of setting.shape → more c ≡ done c ++ outs → ((d : ℕ) → (c ≡ d → ⊥) → more d ≡ done d) → (port : ℕ)
    → put_on_bridge setting more ps qs (bridge_putter setting.shape port) ≡ put_on_bridge setting done ps qs (bridge_putter setting.shape port) ++ cond (c == port) (flat_map bridge_part outs) []
client_more setting done more ps qs c outs small here others =
    by_bridge_port setting.shape (λ port who. put_on_bridge setting more ps qs who ≡ put_on_bridge setting done ps qs who ++ cond (c == port) (flat_map bridge_part outs) [])
    (λ d within. grows c d (flat_map bridge_part (done d)) (flat_map bridge_part outs) (flat_map bridge_part (more d))
    (λ same. subst (λ (n : ℕ). flat_map bridge_part (more n) ≡ flat_map bridge_part (done n) ++ flat_map bridge_part outs) same
    (ap (flat_map bridge_part) here ∙ flat_map-append bridge_part (done c) outs))
    (λ apart. ap (flat_map bridge_part) (others d apart)))
    (λ p within. grows c (clients_of setting.shape + p) (put_on_bridge setting done ps qs (ByPublisher p)) (flat_map bridge_part outs) (put_on_bridge setting done ps qs (ByPublisher p))
    (λ same. absurd (omega arith)) (λ apart. refl))
    (λ q within. grows c (clients_of setting.shape + publishers_of setting.shape + q) (put_on_bridge setting done ps qs (ByQueue q)) (flat_map bridge_part outs) (put_on_bridge setting done ps qs (ByQueue q))
    (λ same. absurd (omega arith)) (λ apart. refl))
    (λ port past. grows c port (put_on_bridge setting done ps qs ByNobody) (flat_map bridge_part outs) (put_on_bridge setting done ps qs ByNobody) (λ same. absurd (omega arith)) (λ apart. refl))

pub publisher_more : (setting : Setting) (done : ℕ → List QueuePut) (ps : List (List PublisherEntry)) (qs : List (List (ℕ × QueueNote))) (p : ℕ) (e : PublisherEntry)
    → p < publishers_of setting.shape → p < length ps → (port : ℕ)
    → put_on_bridge setting done (slice_set ps p (slice_index_or ps p [] ++ e ∷ [])) qs (bridge_putter setting.shape port)
    ≡ put_on_bridge setting done ps qs (bridge_putter setting.shape port)
    ++ cond (bridge_port_of_publisher setting.shape p == port) (publisher_puts_at (slice_index_or setting.publishers p no_section) (slice_index_or ps p []) e) []
publisher_more setting done ps qs p e small inside =
    let j : List PublisherEntry = slice_index_or ps p [] ++ e ∷ [] in
    let vs : List BridgeNote = publisher_puts_at (slice_index_or setting.publishers p no_section) (slice_index_or ps p []) e in
    let put : ℕ → List PublisherEntry → List BridgeNote = λ n journal. publisher_puts (slice_index_or setting.publishers n no_section) journal in
    by_bridge_port setting.shape (λ port who. put_on_bridge setting done (slice_set ps p j) qs who ≡ put_on_bridge setting done ps qs who ++ cond (clients_of setting.shape + p == port) vs [])
    (λ c within. grows (clients_of setting.shape + p) c (flat_map bridge_part (done c)) vs (flat_map bridge_part (done c)) (λ same. absurd (omega arith)) (λ apart. refl))
    (λ r within. grows (clients_of setting.shape + p) (clients_of setting.shape + r) (put r (slice_index_or ps r [])) vs (put r (slice_index_or (slice_set ps p j) r []))
    (λ same. grown_one put ps p r j vs inside (puts-push (publisher_puts_at (slice_index_or setting.publishers p no_section)) (slice_index_or ps p []) e) (omega arith))
    (λ apart. kept_one put ps p r j (λ same. apart (ap (λ (n : ℕ). clients_of setting.shape + n) same))))
    (λ q within. grows (clients_of setting.shape + p) (clients_of setting.shape + publishers_of setting.shape + q) (put_on_bridge setting done ps qs (ByQueue q)) vs (put_on_bridge setting done ps qs (ByQueue q))
    (λ same. absurd (omega arith)) (λ apart. refl))
    (λ port past. grows (clients_of setting.shape + p) port (put_on_bridge setting done ps qs ByNobody) vs (put_on_bridge setting done ps qs ByNobody) (λ same. absurd (omega arith)) (λ apart. refl))

pub queue_more : (setting : Setting) (done : ℕ → List QueuePut) (ps : List (List PublisherEntry)) (qs : List (List (ℕ × QueueNote))) (q : ℕ) (e : ℕ × QueueNote)
    → q < queues_of setting.shape → q < length qs → (port : ℕ)
    → put_on_bridge setting done ps (slice_set qs q (slice_index_or qs q [] ++ e ∷ [])) (bridge_putter setting.shape port)
    ≡ put_on_bridge setting done ps qs (bridge_putter setting.shape port)
    ++ cond (bridge_port_of_queue setting.shape q == port) (flat_map bridge_part (puts_on setting q (slice_index_or qs q []) e)) []
queue_more setting done ps qs q e small inside =
    let j : List (ℕ × QueueNote) = slice_index_or qs q [] ++ e ∷ [] in
    let vs : List BridgeNote = flat_map bridge_part (puts_on setting q (slice_index_or qs q []) e) in
    let put : ℕ → List (ℕ × QueueNote) → List BridgeNote = λ n journal. flat_map bridge_part (queue_puts setting n journal) in
    let base : ℕ = clients_of setting.shape + publishers_of setting.shape in
    by_bridge_port setting.shape (λ port who. put_on_bridge setting done ps (slice_set qs q j) who ≡ put_on_bridge setting done ps qs who ++ cond (clients_of setting.shape + publishers_of setting.shape + q == port) vs [])
    (λ c within. grows (base + q) c (flat_map bridge_part (done c)) vs (flat_map bridge_part (done c)) (λ same. absurd (omega arith)) (λ apart. refl))
    (λ p within. grows (base + q) (clients_of setting.shape + p) (put_on_bridge setting done ps qs (ByPublisher p)) vs (put_on_bridge setting done ps qs (ByPublisher p)) (λ same. absurd (omega arith)) (λ apart. refl))
    (λ r within. grows (base + q) (base + r) (put r (slice_index_or qs r [])) vs (put r (slice_index_or (slice_set qs q j) r []))
    (λ same. grown_one put qs q r j vs inside (queue_part-push bridge_part setting q (slice_index_or qs q []) e) (omega arith))
    (λ apart. kept_one put qs q r j (λ same. apart (ap (λ (n : ℕ). base + n) same))))
    (λ port past. grows (base + q) port (put_on_bridge setting done ps qs ByNobody) vs (put_on_bridge setting done ps qs ByNobody) (λ same. absurd (omega arith)) (λ apart. refl))

-- ---- on the timers' lane

pub client_more_t : (setting : Setting) (done more : ℕ → List QueuePut) (qs : List (List (ℕ × QueueNote))) (bridge : List (ℕ × BridgeNote)) (c : ℕ) (outs : List QueuePut)
    → c < clients_of setting.shape → more c ≡ done c ++ outs → ((d : ℕ) → (c ≡ d → ⊥) → more d ≡ done d) → (port : ℕ)
    → put_on_timers setting more qs bridge (timers_putter setting.shape port) ≡ put_on_timers setting done qs bridge (timers_putter setting.shape port) ++ cond (c == port) (flat_map timers_part outs) []
client_more_t setting done more qs bridge c outs small here others =
    by_timers_port setting.shape (λ port who. put_on_timers setting more qs bridge who ≡ put_on_timers setting done qs bridge who ++ cond (c == port) (flat_map timers_part outs) [])
    (λ d within. grows c d (flat_map timers_part (done d)) (flat_map timers_part outs) (flat_map timers_part (more d))
    (λ same. subst (λ (n : ℕ). flat_map timers_part (more n) ≡ flat_map timers_part (done n) ++ flat_map timers_part outs) same
    (ap (flat_map timers_part) here ∙ flat_map-append timers_part (done c) outs))
    (λ apart. ap (flat_map timers_part) (others d apart)))
    (λ q within. grows c (clients_of setting.shape + q) (put_on_timers setting done qs bridge (ByQueue q)) (flat_map timers_part outs) (put_on_timers setting done qs bridge (ByQueue q))
    (λ same. absurd (omega arith)) (λ apart. refl))
    (grows c (clients_of setting.shape + queues_of setting.shape) (put_on_timers setting done qs bridge ByBridge) (flat_map timers_part outs) (put_on_timers setting done qs bridge ByBridge)
    (λ same. absurd (omega arith)) (λ apart. refl))
    (λ port past. grows c port (put_on_timers setting done qs bridge ByNobody) (flat_map timers_part outs) (put_on_timers setting done qs bridge ByNobody) (λ same. absurd (omega arith)) (λ apart. refl))

pub queue_more_t : (setting : Setting) (done : ℕ → List QueuePut) (qs : List (List (ℕ × QueueNote))) (bridge : List (ℕ × BridgeNote)) (q : ℕ) (e : ℕ × QueueNote)
    → q < queues_of setting.shape → q < length qs → (port : ℕ)
    → put_on_timers setting done (slice_set qs q (slice_index_or qs q [] ++ e ∷ [])) bridge (timers_putter setting.shape port)
    ≡ put_on_timers setting done qs bridge (timers_putter setting.shape port)
    ++ cond (timers_port_of_queue setting.shape q == port) (flat_map timers_part (puts_on setting q (slice_index_or qs q []) e)) []
queue_more_t setting done qs bridge q e small inside =
    let j : List (ℕ × QueueNote) = slice_index_or qs q [] ++ e ∷ [] in
    let vs : List TimersNote = flat_map timers_part (puts_on setting q (slice_index_or qs q []) e) in
    let put : ℕ → List (ℕ × QueueNote) → List TimersNote = λ n journal. flat_map timers_part (queue_puts setting n journal) in
    by_timers_port setting.shape (λ port who. put_on_timers setting done (slice_set qs q j) bridge who ≡ put_on_timers setting done qs bridge who ++ cond (clients_of setting.shape + q == port) vs [])
    (λ c within. grows (clients_of setting.shape + q) c (flat_map timers_part (done c)) vs (flat_map timers_part (done c)) (λ same. absurd (omega arith)) (λ apart. refl))
    (λ r within. grows (clients_of setting.shape + q) (clients_of setting.shape + r) (put r (slice_index_or qs r [])) vs (put r (slice_index_or (slice_set qs q j) r []))
    (λ same. grown_one put qs q r j vs inside (queue_part-push timers_part setting q (slice_index_or qs q []) e) (omega arith))
    (λ apart. kept_one put qs q r j (λ same. apart (ap (λ (n : ℕ). clients_of setting.shape + n) same))))
    (grows (clients_of setting.shape + q) (clients_of setting.shape + queues_of setting.shape) (put_on_timers setting done qs bridge ByBridge) vs (put_on_timers setting done qs bridge ByBridge)
    (λ same. absurd (omega arith)) (λ apart. refl))
    (λ port past. grows (clients_of setting.shape + q) port (put_on_timers setting done qs bridge ByNobody) vs (put_on_timers setting done qs bridge ByNobody) (λ same. absurd (omega arith)) (λ apart. refl))

pub bridge_more_t : (setting : Setting) (done : ℕ → List QueuePut) (qs : List (List (ℕ × QueueNote))) (bridge : List (ℕ × BridgeNote)) (e : ℕ × BridgeNote) (port : ℕ)
    → put_on_timers setting done qs (bridge ++ e ∷ []) (timers_putter setting.shape port)
    ≡ put_on_timers setting done qs bridge (timers_putter setting.shape port) ++ cond (timers_port_of_bridge setting.shape == port) (flat_map timer_part (bridge_puts_at setting.shape bridge e)) []
bridge_more_t setting done qs bridge e =
    let vs : List TimersNote = flat_map timer_part (bridge_puts_at setting.shape bridge e) in
    let k : ℕ = clients_of setting.shape + queues_of setting.shape in
    by_timers_port setting.shape (λ port who. put_on_timers setting done qs (bridge ++ e ∷ []) who ≡ put_on_timers setting done qs bridge who ++ cond (clients_of setting.shape + queues_of setting.shape == port) vs [])
    (λ c within. grows k c (flat_map timers_part (done c)) vs (flat_map timers_part (done c)) (λ same. absurd (omega arith)) (λ apart. refl))
    (λ q within. grows k (clients_of setting.shape + q) (put_on_timers setting done qs bridge (ByQueue q)) vs (put_on_timers setting done qs bridge (ByQueue q)) (λ same. absurd (omega arith)) (λ apart. refl))
    (grows k k (put_on_timers setting done qs bridge ByBridge) vs (put_on_timers setting done qs (bridge ++ e ∷ []) ByBridge) (λ same. bridge_part-push timer_part setting.shape bridge e) (λ apart. absurd (apart refl)))
    (λ port past. grows k port (put_on_timers setting done qs bridge ByNobody) vs (put_on_timers setting done qs bridge ByNobody) (λ same. absurd (omega arith)) (λ apart. refl))

-- ---- on a queue's lane

pub bridge_more_q : (shape : Shape) (bridge : List (ℕ × BridgeNote)) (timers : List (ℕ × TimersNote)) (q : ℕ) (e : ℕ × BridgeNote) (port : ℕ)
    → put_on_queue shape (bridge ++ e ∷ []) timers q (queue_putter port)
    ≡ put_on_queue shape bridge timers q (queue_putter port) ++ cond (queue_port_of_bridge == port) (flat_map (queue_part q) (bridge_puts_at shape bridge e)) []
bridge_more_q shape bridge timers q e =
    let vs : List QueueNote = flat_map (queue_part q) (bridge_puts_at shape bridge e) in
    by_queue_port (λ port who. put_on_queue shape (bridge ++ e ∷ []) timers q who ≡ put_on_queue shape bridge timers q who ++ cond (0 == port) vs [])
    (grows 0 0 (put_on_queue shape bridge timers q ByBridge) vs (put_on_queue shape (bridge ++ e ∷ []) timers q ByBridge) (λ same. bridge_part-push (queue_part q) shape bridge e) (λ apart. absurd (apart refl)))
    (grows 0 1 (put_on_queue shape bridge timers q ByTimers) vs (put_on_queue shape bridge timers q ByTimers) (λ same. absurd (omega arith)) (λ apart. refl))
    (λ port past. grows 0 port (put_on_queue shape bridge timers q ByNobody) vs (put_on_queue shape bridge timers q ByNobody) (λ same. absurd (omega arith)) (λ apart. refl))

pub timers_more_q : (shape : Shape) (bridge : List (ℕ × BridgeNote)) (timers : List (ℕ × TimersNote)) (q : ℕ) (e : ℕ × TimersNote) (port : ℕ)
    → put_on_queue shape bridge (timers ++ e ∷ []) q (queue_putter port)
    ≡ put_on_queue shape bridge timers q (queue_putter port) ++ cond (queue_port_of_timers == port) (by_port q (timers_puts_at shape timers e)) []
timers_more_q shape bridge timers q e =
    let vs : List QueueNote = by_port q (timers_puts_at shape timers e) in
    by_queue_port (λ port who. put_on_queue shape bridge (timers ++ e ∷ []) q who ≡ put_on_queue shape bridge timers q who ++ cond (1 == port) vs [])
    (grows 1 0 (put_on_queue shape bridge timers q ByBridge) vs (put_on_queue shape bridge timers q ByBridge) (λ same. absurd (omega arith)) (λ apart. refl))
    (grows 1 1 (put_on_queue shape bridge timers q ByTimers) vs (put_on_queue shape bridge (timers ++ e ∷ []) q ByTimers) (λ same. timers_part-push q shape timers e) (λ apart. absurd (apart refl)))
    (λ port past. grows 1 port (put_on_queue shape bridge timers q ByNobody) vs (put_on_queue shape bridge timers q ByNobody) (λ same. absurd (omega arith)) (λ apart. refl))
