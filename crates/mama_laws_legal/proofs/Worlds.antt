-- In a world every lane keeps what was put on it, and every turn leaves it so.
use Rattle.std.specs.Prelude.{slice_index_or, slice_set}
use Rattle.std.specs.List.{flat_map}
use Rattle.std.proofs.Common.{◌≡◌, ℕ, ◌<◌, ◌==◌, cond, List, [], ◌∷◌, ◌++◌, length, refl, sym, ◌∙◌, ap, subst, ⊎_elim, append-nil, append_assoc}
use Rattle.std.proofs.lemmas.Bool.{cases_eq}
use Rattle.std.proofs.lemmas.List.{length-set, get_or-set_same, get_or-set_other, set-get_or}
use Rattle.std.proofs.lemmas.List.Concat.{flat_map-append}
use Rattle.mama_journal.specs.Lane.{by_port, from_port}
use Rattle.mama_event.specs.declared.to_bridge.BridgeNote.{BridgeNote}
use Rattle.mama_event.specs.declared.to_publisher.PublisherNote.{PublisherNote}
use Rattle.mama_event.specs.declared.to_timers.TimersNote.{TimersNote}
use Rattle.mama_event.specs.declared.to_queue.QueueNote.{QueueNote}
use Rattle.mama_event.specs.declared.publisher_entry.PublisherEntry.{PublisherEntry}
use Rattle.mama_event.specs.declared.publisher_entry.PublisherEntry.TheVariants.{Took}
use Rattle.mama_event.specs.Ports.{clients_of, publishers_of, queues_of, bridge_port_of_client, bridge_port_of_publisher, bridge_port_of_queue, timers_port_of_client, timers_port_of_queue, timers_port_of_bridge, queue_port_of_bridge, queue_port_of_timers}
use Rattle.mama_event.specs.Publisher.{publisher_puts_at}
use Rattle.mama_rules_services.specs.Bridge.{bridge_puts_at}
use Rattle.mama_rules_services.specs.Timers.{timers_puts_at}
use Rattle.mama_rules_services.specs.Ports.{bridge_putter, timers_putter, queue_putter}
use Rattle.mama_rules_queue.specs.Queue.{QueuePut}
use Rattle.mama_rules_rounds.specs.Client.{bridge_part, timers_part}
use Rattle.mama_rules_rounds.specs.Setting.{Setting, no_section, puts_on, publisher_part, queue_part, timer_part}
use Rattle.mama_rules_rounds.specs.World.{World, with_puts, bridge_did, bridge_took, bridge_turn, timers_did, timers_took, timers_turn, publisher_did, publisher_took, publisher_turn, queue_did, queue_took, queue_turn}
use Rattle.mama_rules_legal.specs.Edges.{put_on_bridge, put_on_timers, put_on_queue, put_to_publisher, taken_in, taken_by}
use Rattle.mama_laws_legal.proofs.Lists.{within, extended-length, extended-first, taken_first, put_last}
use Rattle.mama_laws_legal.proofs.Putters.{client_more, publisher_more, queue_more, client_more_t, queue_more_t, bridge_more_t, bridge_more_q, timers_more_q, bridge_part-push}

-- On every lane, what was taken and then what waits is what was put, where done tells what each client put so far.
pub record Holds (setting : Setting) (done : ℕ → List QueuePut) (w : World) : Type 0 where
  pub publishers_len : length w.publishers ≡ length setting.publishers
  pub publisher_lanes : length w.to_publishers ≡ length setting.publishers
  pub queues_len : length w.queues ≡ queues_of setting.shape
  pub queue_lanes : length w.to_queues ≡ queues_of setting.shape
  pub bridge : (port : ℕ) → by_port port w.bridge ++ by_port port w.to_bridge ≡ put_on_bridge setting done w.publishers w.queues (bridge_putter setting.shape port)
  pub timers : (port : ℕ) → by_port port w.timers ++ by_port port w.to_timers ≡ put_on_timers setting done w.queues w.bridge (timers_putter setting.shape port)
  pub publishers : (p : ℕ) → p < length setting.publishers → taken_by (slice_index_or w.publishers p []) ++ slice_index_or w.to_publishers p [] ≡ put_to_publisher setting.shape w.bridge p
  pub queues : (q : ℕ) → q < queues_of setting.shape → (port : ℕ) → by_port port (slice_index_or w.queues q []) ++ by_port port (slice_index_or w.to_queues q [])
      ≡ put_on_queue setting.shape w.bridge w.timers q (queue_putter port)

-- ---- one lane

-- a take from a lane with many ports
take_one : {V : Type 0} (taken waiting : List (ℕ × V)) (e : ℕ × V) (rest : List (ℕ × V)) (put : ℕ → List V) → waiting ≡ e ∷ rest
    → ((port : ℕ) → by_port port taken ++ by_port port waiting ≡ put port) → (port : ℕ) → by_port port (taken ++ e ∷ []) ++ by_port port rest ≡ put port
take_one taken waiting e rest put is keeps port =
    taken_first port taken e rest ∙ ap (λ (ws : List _). by_port port taken ++ by_port port ws) (sym is) ∙ keeps port

-- a put on a lane with many ports
put_one : {V : Type 0} (k : ℕ) (taken waiting : List (ℕ × V)) (vs : List V) (put more : ℕ → List V) → ((port : ℕ) → more port ≡ put port ++ cond (k == port) vs [])
    → ((port : ℕ) → by_port port taken ++ by_port port waiting ≡ put port) → (port : ℕ) → by_port port taken ++ by_port port (waiting ++ from_port k vs) ≡ more port
put_one k taken waiting vs put more grown keeps port =
    put_last k port taken waiting vs ∙ ap (λ (ws : List _). ws ++ cond (k == port) vs []) (keeps port) ∙ sym (grown port)

-- ---- the bridge

bridge_keeps : (setting : Setting) (done : ℕ → List QueuePut) (w : World) (e : ℕ × BridgeNote) (rest : List (ℕ × BridgeNote)) → w.to_bridge ≡ e ∷ rest
    → Holds setting done w → Holds setting done (bridge_did setting (record w { to_bridge = rest }) e)
bridge_keeps setting done w e rest is h = record {
  publishers_len = h.publishers_len;
  publisher_lanes = extended-length (λ p. flat_map (publisher_part p) (bridge_puts_at setting.shape w.bridge e)) 0 w.to_publishers ∙ h.publisher_lanes;
  queues_len = h.queues_len;
  queue_lanes = extended-length (λ q. from_port queue_port_of_bridge (flat_map (queue_part q) (bridge_puts_at setting.shape w.bridge e))) 0 w.to_queues ∙ h.queue_lanes;
  bridge = take_one w.bridge w.to_bridge e rest (λ port. put_on_bridge setting done w.publishers w.queues (bridge_putter setting.shape port)) is h.bridge;
  timers = put_one (timers_port_of_bridge setting.shape) w.timers w.to_timers (flat_map timer_part (bridge_puts_at setting.shape w.bridge e))
      (λ port. put_on_timers setting done w.queues w.bridge (timers_putter setting.shape port))
      (λ port. put_on_timers setting done w.queues (w.bridge ++ e ∷ []) (timers_putter setting.shape port))
      (bridge_more_t setting done w.queues w.bridge e) h.timers;
  publishers = λ p inside.
      ap (λ (ws : List PublisherNote). taken_by (slice_index_or w.publishers p []) ++ ws)
      (extended-first (λ r. flat_map (publisher_part r) (bridge_puts_at setting.shape w.bridge e)) w.to_publishers p (subst (λ (n : ℕ). p < n) (sym h.publisher_lanes) inside))
      ∙ sym (append_assoc (taken_by (slice_index_or w.publishers p [])) (slice_index_or w.to_publishers p []) (flat_map (publisher_part p) (bridge_puts_at setting.shape w.bridge e)))
      ∙ ap (λ (ws : List PublisherNote). ws ++ flat_map (publisher_part p) (bridge_puts_at setting.shape w.bridge e)) (h.publishers p inside)
      ∙ sym (bridge_part-push (publisher_part p) setting.shape w.bridge e);
  queues = λ q inside port.
      ap (λ (ws : List (ℕ × QueueNote)). by_port port (slice_index_or w.queues q []) ++ by_port port ws)
      (extended-first (λ r. from_port queue_port_of_bridge (flat_map (queue_part r) (bridge_puts_at setting.shape w.bridge e))) w.to_queues q (subst (λ (n : ℕ). q < n) (sym h.queue_lanes) inside))
      ∙ put_one queue_port_of_bridge (slice_index_or w.queues q []) (slice_index_or w.to_queues q []) (flat_map (queue_part q) (bridge_puts_at setting.shape w.bridge e))
      (λ port. put_on_queue setting.shape w.bridge w.timers q (queue_putter port)) (λ port. put_on_queue setting.shape (w.bridge ++ e ∷ []) w.timers q (queue_putter port))
      (bridge_more_q setting.shape w.bridge w.timers q e) (h.queues q inside) port;
}

pub bridge_turn_keeps : (setting : Setting) (done : ℕ → List QueuePut) (w : World) → Holds setting done w → Holds setting done (bridge_turn setting w)
bridge_turn_keeps setting done w h = go w.to_bridge refl
  where
    go : (lane : List (ℕ × BridgeNote)) → w.to_bridge ≡ lane → Holds setting done (bridge_took setting w lane)
    go [] is = h
    go (e ∷ rest) is = bridge_keeps setting done w e rest is h

-- ---- the timers

timers_keeps : (setting : Setting) (done : ℕ → List QueuePut) (w : World) (e : ℕ × TimersNote) (rest : List (ℕ × TimersNote)) → w.to_timers ≡ e ∷ rest
    → Holds setting done w → Holds setting done (timers_did setting (record w { to_timers = rest }) e)
timers_keeps setting done w e rest is h = record {
  publishers_len = h.publishers_len;
  publisher_lanes = h.publisher_lanes;
  queues_len = h.queues_len;
  queue_lanes = extended-length (λ q. from_port queue_port_of_timers (by_port q (timers_puts_at setting.shape w.timers e))) 0 w.to_queues ∙ h.queue_lanes;
  bridge = h.bridge;
  timers = take_one w.timers w.to_timers e rest (λ port. put_on_timers setting done w.queues w.bridge (timers_putter setting.shape port)) is h.timers;
  publishers = h.publishers;
  queues = λ q inside port.
      ap (λ (ws : List (ℕ × QueueNote)). by_port port (slice_index_or w.queues q []) ++ by_port port ws)
      (extended-first (λ r. from_port queue_port_of_timers (by_port r (timers_puts_at setting.shape w.timers e))) w.to_queues q (subst (λ (n : ℕ). q < n) (sym h.queue_lanes) inside))
      ∙ put_one queue_port_of_timers (slice_index_or w.queues q []) (slice_index_or w.to_queues q []) (by_port q (timers_puts_at setting.shape w.timers e))
      (λ port. put_on_queue setting.shape w.bridge w.timers q (queue_putter port)) (λ port. put_on_queue setting.shape w.bridge (w.timers ++ e ∷ []) q (queue_putter port))
      (timers_more_q setting.shape w.bridge w.timers q e) (h.queues q inside) port;
}

pub timers_turn_keeps : (setting : Setting) (done : ℕ → List QueuePut) (w : World) → Holds setting done w → Holds setting done (timers_turn setting w)
timers_turn_keeps setting done w h = go w.to_timers refl
  where
    go : (lane : List (ℕ × TimersNote)) → w.to_timers ≡ lane → Holds setting done (timers_took setting w lane)
    go [] is = h
    go (e ∷ rest) is = timers_keeps setting done w e rest is h

-- ---- a publisher

-- an entry is done where what it takes stood first on the lane: lane is what waited before, and rest what waits after
publisher_keeps : (setting : Setting) (done : ℕ → List QueuePut) (p : ℕ) (w : World) (e : PublisherEntry) (rest : List PublisherNote)
    → p < publishers_of setting.shape → p < length setting.publishers → taken_in e ++ rest ≡ slice_index_or w.to_publishers p []
    → Holds setting done w → Holds setting done (publisher_did setting p (record w { to_publishers = slice_set w.to_publishers p rest }) e)
publisher_keeps setting done p w e rest small inside is h =
    let j : List PublisherEntry = slice_index_or w.publishers p [] ++ e ∷ [] in
    record {
      publishers_len = length-set w.publishers p j ∙ h.publishers_len;
      publisher_lanes = length-set w.to_publishers p rest ∙ h.publisher_lanes;
      queues_len = h.queues_len;
      queue_lanes = h.queue_lanes;
      bridge = put_one (bridge_port_of_publisher setting.shape p) w.bridge w.to_bridge (publisher_puts_at (slice_index_or setting.publishers p no_section) (slice_index_or w.publishers p []) e)
          (λ port. put_on_bridge setting done w.publishers w.queues (bridge_putter setting.shape port))
          (λ port. put_on_bridge setting done (slice_set w.publishers p j) w.queues (bridge_putter setting.shape port))
          (publisher_more setting done w.publishers w.queues p e small (subst (λ (n : ℕ). p < n) (sym h.publishers_len) inside)) h.bridge;
      timers = h.timers;
      publishers = λ r there. ⊎_elim
          (λ (same : p ≡ r). subst (λ (n : ℕ). taken_by (slice_index_or (slice_set w.publishers p j) n []) ++ slice_index_or (slice_set w.to_publishers p rest) n [] ≡ put_to_publisher setting.shape w.bridge n) same
          here)
          (λ apart. ap (λ (ws : List PublisherEntry). taken_by ws ++ slice_index_or (slice_set w.to_publishers p rest) r []) (get_or-set_other w.publishers p r j [] (λ same. apart (sym same)))
          ∙ ap (λ (ws : List PublisherNote). taken_by (slice_index_or w.publishers r []) ++ ws) (get_or-set_other w.to_publishers p r rest [] (λ same. apart (sym same)))
          ∙ h.publishers r there)
          (cases_eq p r);
      queues = h.queues;
    }
  where
    here : taken_by (slice_index_or (slice_set w.publishers p (slice_index_or w.publishers p [] ++ e ∷ [])) p []) ++ slice_index_or (slice_set w.to_publishers p rest) p [] ≡ put_to_publisher setting.shape w.bridge p
    here = ap (λ (ws : List PublisherEntry). taken_by ws ++ slice_index_or (slice_set w.to_publishers p rest) p []) (get_or-set_same w.publishers p (slice_index_or w.publishers p [] ++ e ∷ []) [] (subst (λ (n : ℕ). p < n) (sym h.publishers_len) inside))
        ∙ ap (λ (ws : List PublisherNote). taken_by (slice_index_or w.publishers p [] ++ e ∷ []) ++ ws) (get_or-set_same w.to_publishers p rest [] (subst (λ (n : ℕ). p < n) (sym h.publisher_lanes) inside))
        ∙ ap (λ (ws : List PublisherNote). ws ++ rest) (flat_map-append taken_in (slice_index_or w.publishers p []) (e ∷ []) ∙ ap (λ (ws : List PublisherNote). taken_by (slice_index_or w.publishers p []) ++ ws) (append-nil (taken_in e)))
        ∙ append_assoc (taken_by (slice_index_or w.publishers p [])) (taken_in e) rest
        ∙ ap (λ (ws : List PublisherNote). taken_by (slice_index_or w.publishers p []) ++ ws) is
        ∙ h.publishers p inside

pub publisher_turn_keeps : (setting : Setting) (done : ℕ → List QueuePut) (p : ℕ) (w : World) → p < publishers_of setting.shape → Holds setting done w → Holds setting done (publisher_turn setting p w)
publisher_turn_keeps setting done p w small h = go (slice_index_or w.to_publishers p []) refl
  where
    go : (lane : List PublisherNote) → slice_index_or w.to_publishers p [] ≡ lane → Holds setting done (publisher_took setting p w lane)
    go [] is = h
    go (n ∷ rest) is = publisher_keeps setting done p w (Took n) rest small (subst (λ (m : ℕ). p < m) h.publisher_lanes (within w.to_publishers p n rest is)) (sym is) h

-- ---- a queue

queue_keeps : (setting : Setting) (done : ℕ → List QueuePut) (q : ℕ) (w : World) (e : ℕ × QueueNote) (rest : List (ℕ × QueueNote))
    → q < queues_of setting.shape → slice_index_or w.to_queues q [] ≡ e ∷ rest
    → Holds setting done w → Holds setting done (queue_did setting q (record w { to_queues = slice_set w.to_queues q rest }) e)
queue_keeps setting done q w e rest small is h =
    let old : List (ℕ × QueueNote) = slice_index_or w.queues q [] in
    let j : List (ℕ × QueueNote) = slice_index_or w.queues q [] ++ e ∷ [] in
    let outs : List QueuePut = puts_on setting q (slice_index_or w.queues q []) e in
    let inside : q < length w.queues = subst (λ (n : ℕ). q < n) (sym h.queues_len) small in
    record {
      publishers_len = h.publishers_len;
      publisher_lanes = h.publisher_lanes;
      queues_len = length-set w.queues q j ∙ h.queues_len;
      queue_lanes = length-set w.to_queues q rest ∙ h.queue_lanes;
      bridge = put_one (bridge_port_of_queue setting.shape q) w.bridge w.to_bridge (flat_map bridge_part outs)
          (λ port. put_on_bridge setting done w.publishers w.queues (bridge_putter setting.shape port))
          (λ port. put_on_bridge setting done w.publishers (slice_set w.queues q j) (bridge_putter setting.shape port))
          (queue_more setting done w.publishers w.queues q e small inside) h.bridge;
      timers = put_one (timers_port_of_queue setting.shape q) w.timers w.to_timers (flat_map timers_part outs)
          (λ port. put_on_timers setting done w.queues w.bridge (timers_putter setting.shape port))
          (λ port. put_on_timers setting done (slice_set w.queues q j) w.bridge (timers_putter setting.shape port))
          (queue_more_t setting done w.queues w.bridge q e small inside) h.timers;
      publishers = h.publishers;
      queues = λ r there. ⊎_elim
          (λ (same : q ≡ r). subst (λ (n : ℕ). (port : ℕ) → by_port port (slice_index_or (slice_set w.queues q j) n []) ++ by_port port (slice_index_or (slice_set w.to_queues q rest) n []) ≡ put_on_queue setting.shape w.bridge w.timers n (queue_putter port)) same
          (λ port. ap (λ (ws : List (ℕ × QueueNote)). by_port port ws ++ by_port port (slice_index_or (slice_set w.to_queues q rest) q [])) (get_or-set_same w.queues q j [] inside)
          ∙ ap (λ (ws : List (ℕ × QueueNote)). by_port port j ++ by_port port ws) (get_or-set_same w.to_queues q rest [] (subst (λ (n : ℕ). q < n) (sym h.queue_lanes) small))
          ∙ take_one old (slice_index_or w.to_queues q []) e rest (λ port. put_on_queue setting.shape w.bridge w.timers q (queue_putter port)) is (h.queues q small) port))
          (λ apart port. ap (λ (ws : List (ℕ × QueueNote)). by_port port ws ++ by_port port (slice_index_or (slice_set w.to_queues q rest) r [])) (get_or-set_other w.queues q r j [] (λ same. apart (sym same)))
          ∙ ap (λ (ws : List (ℕ × QueueNote)). by_port port (slice_index_or w.queues r []) ++ by_port port ws) (get_or-set_other w.to_queues q r rest [] (λ same. apart (sym same)))
          ∙ h.queues r there port)
          (cases_eq q r);
    }

pub queue_turn_keeps : (setting : Setting) (done : ℕ → List QueuePut) (q : ℕ) (w : World) → q < queues_of setting.shape → Holds setting done w → Holds setting done (queue_turn setting q w)
queue_turn_keeps setting done q w small h = go (slice_index_or w.to_queues q []) refl
  where
    go : (lane : List (ℕ × QueueNote)) → slice_index_or w.to_queues q [] ≡ lane → Holds setting done (queue_took setting q w lane)
    go [] is = h
    go (e ∷ rest) is = queue_keeps setting done q w e rest small is h

-- ---- a client

pub client_keeps : (setting : Setting) (done more : ℕ → List QueuePut) (c : ℕ) (outs : List QueuePut) (w : World)
    → c < clients_of setting.shape → more c ≡ done c ++ outs → ((d : ℕ) → (c ≡ d → ⊥) → more d ≡ done d)
    → Holds setting done w → Holds setting more (with_puts (bridge_port_of_client setting.shape c) (timers_port_of_client setting.shape c) outs w)
client_keeps setting done more c outs w small here others h = record {
  publishers_len = h.publishers_len;
  publisher_lanes = h.publisher_lanes;
  queues_len = h.queues_len;
  queue_lanes = h.queue_lanes;
  bridge = put_one c w.bridge w.to_bridge (flat_map bridge_part outs)
      (λ port. put_on_bridge setting done w.publishers w.queues (bridge_putter setting.shape port))
      (λ port. put_on_bridge setting more w.publishers w.queues (bridge_putter setting.shape port))
      (client_more setting done more w.publishers w.queues c outs small here others) h.bridge;
  timers = put_one c w.timers w.to_timers (flat_map timers_part outs)
      (λ port. put_on_timers setting done w.queues w.bridge (timers_putter setting.shape port))
      (λ port. put_on_timers setting more w.queues w.bridge (timers_putter setting.shape port))
      (client_more_t setting done more w.queues w.bridge c outs small here others) h.timers;
  publishers = h.publishers;
  queues = h.queues;
}

-- ---- an entry of a publisher that takes nothing

pub own_keeps : (setting : Setting) (done : ℕ → List QueuePut) (p : ℕ) (w : World) (e : PublisherEntry)
    → p < publishers_of setting.shape → p < length setting.publishers → taken_in e ≡ [] → Holds setting done w → Holds setting done (publisher_did setting p w e)
own_keeps setting done p w e small inside none h =
    let lane : List PublisherNote = slice_index_or w.to_publishers p [] in
    subst (λ (lanes : List (List PublisherNote)). Holds setting done (publisher_did setting p (record w { to_publishers = lanes }) e)) (set-get_or w.to_publishers p [])
    (publisher_keeps setting done p w e lane small inside (ap (λ (ws : List PublisherNote). ws ++ lane) none) h)
