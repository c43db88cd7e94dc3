-- What a system keeps where a seat or a mark changes.
use Rattle.std.proofs.Common.{◌≡◌, ℕ, zero, suc, ◌^◌, ◌<◌, Bool, true, false, List, [], ◌∷◌, map, length, get_or, refl, sym, ◌∙◌, ap, subst, arith}
use Rattle.std.specs.BTreeSet.{BTreeSet}
use Rattle.std.proofs.Math.ListN.{set}
use Rattle.std.proofs.lemmas.List.{length-set, length-map, set-get_or, get_or-map}
use Rattle.std.proofs.Math.Seq.{map-set_same}
use Rattle.mama_journal.specs.Journal.{numbers_below}
use Rattle.mama_event.specs.declared.shape.Shape.{Shape}
use Rattle.mama_event.specs.declared.to_queue.QueueNote.{QueueNote}
use Rattle.mama_event.specs.declared.group.GroupRow.{GroupRow}
use Rattle.mama_event.specs.declared.watch.WatchRow.{WatchRow}
use Rattle.mama_script.specs.declared.publisher.PublisherPart.{PublisherPart}
use Rattle.mama_plans.specs.Lists.{groups_on, watches_on, groups_on_each, watches_on_each}
use Rattle.mama_plans.proofs.EachLemmas.{numbers_len}
use Rattle.mama_rules_rounds.specs.Client.{Planned}
use Rattle.mama_rules_rounds.specs.Setting.{Grouped, Watched}
use Rattle.mama_seats.specs.Server.{Server}
use Rattle.mama_seats.specs.Stand.{Stand}
use Rattle.mama_seats.specs.Sender.{Sender}
use Rattle.mama_event.specs.Ports.{clients_of, publishers_of, queues_of, bridge_ports}
use Rattle.mama_drive.specs.Start.{senders_from, new_servers}
use Rattle.mama_drive.specs.Marks.{AreMarked, KeepsMarks}
use Rattle.mama_drive.proofs.MarkLemmas.{marked_same}
use Rattle.mama_drive.specs.Scene.{Scene, lane_in, waiting_in, journal_in, heard_in, objects_in, groups_in, watches_in, IsSystem}

-- the groups of one queue were told all
pub told_at : (servers : List Server) (q : ℕ) (x : Server) → q < length servers → x ≡ get_or servers q x → map heard_in servers ≡ map journal_in servers → x.heard ≡ x.journal
told_at servers q x within at told =
    ap heard_in at ∙ sym (get_or-map heard_in servers q x [] within) ∙ ap (λ (l : List (List (ℕ × QueueNote))). get_or l q []) told
    ∙ get_or-map journal_in servers q x [] within ∙ sym (ap journal_in at)

-- what no event on a lane, no turn and no telling changes in a seat of a queue
pub record IsSeatOf (x y : Server) : Type 0 where
  pub objects : y.objects ≡ x.objects
  pub groups : y.groups ≡ x.groups
  pub watches : y.watches ≡ x.watches

module _ (shape bridge_shape timers_shape : Shape) (objects : List Planned) (groups : List Grouped) (watches : List Watched) (clients : List Stand) (senders : List Sender) (servers : List Server) (marked_publishers marked_queues : BTreeSet ℕ) (ready : Bool)
    (h : IsSystem shape bridge_shape timers_shape objects groups watches clients senders servers marked_publishers marked_queues ready) where
  -- another seat of the bridge, and of the timer service, of the same shape
  pub with_bridge : (b : Shape) → b ≡ bridge_shape → IsSystem shape b timers_shape objects groups watches clients senders servers marked_publishers marked_queues ready
  with_bridge b same = record {
    ports = h.ports;
    same_bridge = same ∙ h.same_bridge;
    same_timers = h.same_timers;
    client_count = h.client_count;
    sender_count = h.sender_count;
    server_count = h.server_count;
    shared = h.shared;
    grouped = h.grouped;
    watched = h.watched;
    publishers_marked = h.publishers_marked;
    queues_marked = h.queues_marked;
    told = h.told;
  }

  pub with_timers : (t : Shape) → t ≡ timers_shape → IsSystem shape bridge_shape t objects groups watches clients senders servers marked_publishers marked_queues ready
  with_timers t same = record {
    ports = h.ports;
    same_bridge = h.same_bridge;
    same_timers = same ∙ h.same_timers;
    client_count = h.client_count;
    sender_count = h.sender_count;
    server_count = h.server_count;
    shared = h.shared;
    grouped = h.grouped;
    watched = h.watched;
    publishers_marked = h.publishers_marked;
    queues_marked = h.queues_marked;
    told = h.told;
  }

  -- another seat of a queue, with marks that hold of it
  pub with_server : (q : ℕ) (x y : Server) (marks : BTreeSet ℕ) (told : Bool) → x ≡ get_or servers q x → IsSeatOf x y
      → AreMarked marks (map waiting_in (set servers q y))
      → (told ≡ true → map heard_in (set servers q y) ≡ map journal_in (set servers q y))
      → IsSystem shape bridge_shape timers_shape objects groups watches clients senders (set servers q y) marked_publishers marks told
  with_server q x y marks told at same marked heard = record {
    ports = h.ports;
    same_bridge = h.same_bridge;
    same_timers = h.same_timers;
    client_count = h.client_count;
    sender_count = h.sender_count;
    server_count = length-set servers q y ∙ h.server_count;
    shared = map-set_same objects_in servers q y x (same.objects ∙ ap objects_in at) ∙ h.shared ∙ sym (map-set_same (λ (s : Server). objects) servers q y x refl);
    grouped = map-set_same groups_in servers q y x (same.groups ∙ ap groups_in at) ∙ h.grouped;
    watched = map-set_same watches_in servers q y x (same.watches ∙ ap watches_in at) ∙ h.watched;
    publishers_marked = h.publishers_marked;
    queues_marked = marked;
    told = heard;
  }

  -- an event more on its lane, or none
  pub with_lane : (q : ℕ) (x y : Server) (marks : BTreeSet ℕ) → x ≡ get_or servers q x → IsSeatOf x y → y.heard ≡ x.heard → y.journal ≡ x.journal
      → AreMarked marks (map waiting_in (set servers q y))
      → IsSystem shape bridge_shape timers_shape objects groups watches clients senders (set servers q y) marked_publishers marks ready
  with_lane q x y marks at same heard journal marked =
      with_server q x y marks ready at same marked
      (λ e. map-set_same heard_in servers q y x (heard ∙ ap heard_in at) ∙ h.told e ∙ sym (map-set_same journal_in servers q y x (journal ∙ ap journal_in at)))

  -- the same seat of a queue
  pub with_same_server : (q : ℕ) (x y : Server) → x ≡ get_or servers q x → y ≡ x
      → IsSystem shape bridge_shape timers_shape objects groups watches clients senders (set servers q y) marked_publishers marked_queues ready
  with_same_server q x y at same =
      subst (λ (l : List Server). IsSystem shape bridge_shape timers_shape objects groups watches clients senders l marked_publishers marked_queues ready)
      (sym (ap (set servers q) (same ∙ at) ∙ set-get_or servers q x)) h

  -- a turn more, which its groups were not told
  pub with_turn : (q : ℕ) (x y : Server) (marks : BTreeSet ℕ) → x ≡ get_or servers q x → IsSeatOf x y
      → AreMarked marks (map waiting_in (set servers q y))
      → IsSystem shape bridge_shape timers_shape objects groups watches clients senders (set servers q y) marked_publishers marks false
  with_turn q x y marks at same marked = with_server q x y marks false at same marked (λ e. cc)

  -- its groups were told, or not
  pub with_told : (q : ℕ) (x y : Server) → q < length servers → x ≡ get_or servers q x → IsSeatOf x y → y.lane ≡ x.lane → (x.heard ≡ x.journal → y.heard ≡ y.journal) → y.journal ≡ x.journal
      → IsSystem shape bridge_shape timers_shape objects groups watches clients senders (set servers q y) marked_publishers marked_queues ready
  with_told q x y within at same lane heard journal =
      with_server q x y marked_queues ready at same
      (marked_same marked_queues (map waiting_in servers) (map waiting_in (set servers q y)) (map-set_same waiting_in servers q y x (lane ∙ ap waiting_in at)) h.queues_marked)
      (λ e.
      let here : x.heard ≡ x.journal = told_at servers q x within at (h.told e) in
      map-set_same heard_in servers q y x (heard here ∙ journal ∙ sym here ∙ ap heard_in at) ∙ h.told e ∙ sym (map-set_same journal_in servers q y x (journal ∙ ap journal_in at)))

  -- the groups of all queues were told all
  pub made_ready : map heard_in servers ≡ map journal_in servers → IsSystem shape bridge_shape timers_shape objects groups watches clients senders servers marked_publishers marked_queues true
  made_ready heard = record {
    ports = h.ports;
    same_bridge = h.same_bridge;
    same_timers = h.same_timers;
    client_count = h.client_count;
    sender_count = h.sender_count;
    server_count = h.server_count;
    shared = h.shared;
    grouped = h.grouped;
    watched = h.watched;
    publishers_marked = h.publishers_marked;
    queues_marked = h.queues_marked;
    told = λ e. heard;
  }

  -- another seat of a publisher, with marks that hold of it
  pub with_sender : (p : ℕ) (y : Sender) (marks : BTreeSet ℕ) → AreMarked marks (map lane_in (set senders p y))
      → IsSystem shape bridge_shape timers_shape objects groups watches clients (set senders p y) servers marks marked_queues ready
  with_sender p y marks marked = record {
    ports = h.ports;
    same_bridge = h.same_bridge;
    same_timers = h.same_timers;
    client_count = h.client_count;
    sender_count = length-set senders p y ∙ h.sender_count;
    server_count = h.server_count;
    shared = h.shared;
    grouped = h.grouped;
    watched = h.watched;
    publishers_marked = marked;
    queues_marked = h.queues_marked;
    told = h.told;
  }

  -- another seat of a publisher with the same lane
  pub with_same_lane : (p : ℕ) (x y : Sender) → x ≡ get_or senders p x → y.lane ≡ x.lane
      → IsSystem shape bridge_shape timers_shape objects groups watches clients (set senders p y) servers marked_publishers marked_queues ready
  with_same_lane p x y at same = record {
    ports = h.ports;
    same_bridge = h.same_bridge;
    same_timers = h.same_timers;
    client_count = h.client_count;
    sender_count = length-set senders p y ∙ h.sender_count;
    server_count = h.server_count;
    shared = h.shared;
    grouped = h.grouped;
    watched = h.watched;
    publishers_marked = marked_same marked_publishers (map lane_in senders) (map lane_in (set senders p y)) (map-set_same lane_in senders p y x (same ∙ ap lane_in at)) h.publishers_marked;
    queues_marked = h.queues_marked;
    told = h.told;
  }

  -- another seat of a client
  pub with_client : (c : ℕ) (y : Stand) → IsSystem shape bridge_shape timers_shape objects groups watches (set clients c y) senders servers marked_publishers marked_queues ready
  with_client c y = record {
    ports = h.ports;
    same_bridge = h.same_bridge;
    same_timers = h.same_timers;
    client_count = length-set clients c y ∙ h.client_count;
    sender_count = h.sender_count;
    server_count = h.server_count;
    shared = h.shared;
    grouped = h.grouped;
    watched = h.watched;
    publishers_marked = h.publishers_marked;
    queues_marked = h.queues_marked;
    told = h.told;
  }

  -- other seats, as many, where the publishers' lanes are the same
  pub with_seats : (cs : List Stand) (ss : List Sender) → length cs ≡ length clients → length ss ≡ length senders → map lane_in ss ≡ map lane_in senders
      → IsSystem shape bridge_shape timers_shape objects groups watches cs ss servers marked_publishers marked_queues ready
  with_seats cs ss clients_same senders_same lanes = record {
    ports = h.ports;
    same_bridge = h.same_bridge;
    same_timers = h.same_timers;
    client_count = clients_same ∙ h.client_count;
    sender_count = senders_same ∙ h.sender_count;
    server_count = h.server_count;
    shared = h.shared;
    grouped = h.grouped;
    watched = h.watched;
    publishers_marked = marked_same marked_publishers (map lane_in senders) (map lane_in ss) lanes h.publishers_marked;
    queues_marked = h.queues_marked;
    told = h.told;
  }

  -- more marks than before, of publishers and of queues
  pub more_publishers_marked : (marks : BTreeSet ℕ) → KeepsMarks marked_publishers marks
      → IsSystem shape bridge_shape timers_shape objects groups watches clients senders servers marks marked_queues ready
  more_publishers_marked marks kept = record {
    ports = h.ports;
    same_bridge = h.same_bridge;
    same_timers = h.same_timers;
    client_count = h.client_count;
    sender_count = h.sender_count;
    server_count = h.server_count;
    shared = h.shared;
    grouped = h.grouped;
    watched = h.watched;
    publishers_marked = λ n none. h.publishers_marked n (kept n none);
    queues_marked = h.queues_marked;
    told = h.told;
  }

  pub more_queues_marked : (marks : BTreeSet ℕ) → KeepsMarks marked_queues marks
      → IsSystem shape bridge_shape timers_shape objects groups watches clients senders servers marked_publishers marks ready
  more_queues_marked marks kept = record {
    ports = h.ports;
    same_bridge = h.same_bridge;
    same_timers = h.same_timers;
    client_count = h.client_count;
    sender_count = h.sender_count;
    server_count = h.server_count;
    shared = h.shared;
    grouped = h.grouped;
    watched = h.watched;
    publishers_marked = h.publishers_marked;
    queues_marked = λ n none. h.queues_marked n (kept n none);
    told = h.told;
  }

-- a seat that is as it was
pub same_client : (s old : Scene) (n : ℕ) (x y : Stand) → s ≡ old → x ≡ get_or s.clients n x → y ≡ x → record s { clients = set s.clients n y } ≡ old
same_client s old n x y is at same =
    ap (λ (z : Stand). record s { clients = set s.clients n z }) (same ∙ at) ∙ ap (λ (l : List Stand). record s { clients = l }) (set-get_or s.clients n x) ∙ is

-- WHAT THE SEATS OF QUEUES ARE AT FIRST

pub length_new : (objects : List Planned) (gs : List (List (ℕ × GroupRow))) (ws : List (List (ℕ × WatchRow))) → length gs ≡ length ws → length (new_servers objects gs ws) ≡ length gs
length_new objects [] ws alike = refl
length_new objects (g ∷ gs) [] alike = absurd (omega (arith, alike))
length_new objects (g ∷ gs) (w ∷ ws) alike = ap suc (length_new objects gs ws (omega (arith, alike)))

shared_new : (objects : List Planned) (gs : List (List (ℕ × GroupRow))) (ws : List (List (ℕ × WatchRow)))
    → map objects_in (new_servers objects gs ws) ≡ map (λ (s : Server). objects) (new_servers objects gs ws)
shared_new objects [] ws = refl
shared_new objects (g ∷ gs) [] = refl
shared_new objects (g ∷ gs) (w ∷ ws) = ap (λ l. objects ∷ l) (shared_new objects gs ws)

grouped_new : (objects : List Planned) (gs : List (List (ℕ × GroupRow))) (ws : List (List (ℕ × WatchRow))) → length gs ≡ length ws → map groups_in (new_servers objects gs ws) ≡ gs
grouped_new objects [] ws alike = refl
grouped_new objects (g ∷ gs) [] alike = absurd (omega (arith, alike))
grouped_new objects (g ∷ gs) (w ∷ ws) alike = ap (λ l. g ∷ l) (grouped_new objects gs ws (omega (arith, alike)))

watched_new : (objects : List Planned) (gs : List (List (ℕ × GroupRow))) (ws : List (List (ℕ × WatchRow))) → length gs ≡ length ws → map watches_in (new_servers objects gs ws) ≡ ws
watched_new objects [] [] alike = refl
watched_new objects [] (w ∷ ws) alike = absurd (omega (arith, alike))
watched_new objects (g ∷ gs) [] alike = absurd (omega (arith, alike))
watched_new objects (g ∷ gs) (w ∷ ws) alike = ap (λ l. w ∷ l) (watched_new objects gs ws (omega (arith, alike)))

-- there are as many lists of groups, and of watches, as queues
pub groups_each : (queues : ℕ) (groups : List Grouped) → length (groups_on_each queues groups) ≡ queues
groups_each queues groups = length-map (numbers_below queues) (groups_on groups) ∙ numbers_len queues

pub watches_each : (queues : ℕ) (watches : List Watched) → length (watches_on_each queues watches) ≡ queues
watches_each queues watches = length-map (numbers_below queues) (watches_on watches) ∙ numbers_len queues

pub as_many_each : (queues : ℕ) (groups : List Grouped) (watches : List Watched) → length (groups_on_each queues groups) ≡ length (watches_on_each queues watches)
as_many_each queues groups watches = groups_each queues groups ∙ sym (watches_each queues watches)

waiting_new : (objects : List Planned) (gs : List (List (ℕ × GroupRow))) (ws : List (List (ℕ × WatchRow))) (n : ℕ) → get_or (map waiting_in (new_servers objects gs ws)) n [] ≡ []
waiting_new objects [] ws n = refl
waiting_new objects (g ∷ gs) [] n = refl
waiting_new objects (g ∷ gs) (w ∷ ws) zero = refl
waiting_new objects (g ∷ gs) (w ∷ ws) (suc n) = waiting_new objects gs ws n

lanes_new : (from : ℕ) (parts : List PublisherPart) (n : ℕ) → get_or (map lane_in (senders_from from parts)) n [] ≡ []
lanes_new from [] n = refl
lanes_new from (p ∷ ps) zero = refl
lanes_new from (p ∷ ps) (suc n) = lanes_new (suc from) ps n

-- a system that has done nothing yet, in which no marks are needed
pub new_system : (shape bridge_shape timers_shape : Shape) (objects : List Planned) (groups : List Grouped) (watches : List Watched) (clients : List Stand) (senders : List Sender) (servers : List Server)
    (parts : List PublisherPart) (marked_publishers marked_queues : BTreeSet ℕ) → bridge_ports shape < 2 ^ 32 → bridge_shape ≡ shape → timers_shape ≡ shape → length clients ≡ clients_of shape → length senders ≡ publishers_of shape
    → senders ≡ senders_from 0 parts → servers ≡ new_servers objects (groups_on_each (queues_of shape) groups) (watches_on_each (queues_of shape) watches)
    → IsSystem shape bridge_shape timers_shape objects groups watches clients senders servers marked_publishers marked_queues false
new_system shape bridge_shape timers_shape objects groups watches clients senders servers parts marked_publishers marked_queues ports bridge timers client_count sender_count from is =
    let gs : List (List (ℕ × GroupRow)) = groups_on_each (queues_of shape) groups in
    let ws : List (List (ℕ × WatchRow)) = watches_on_each (queues_of shape) watches in
    let alike : length gs ≡ length ws = as_many_each (queues_of shape) groups watches in
    record {
      ports = ports;
      same_bridge = bridge;
      same_timers = timers;
      client_count = client_count;
      sender_count = sender_count;
      server_count = ap length is ∙ length_new objects gs ws alike ∙ groups_each (queues_of shape) groups;
      shared = ap (map objects_in) is ∙ shared_new objects gs ws ∙ sym (ap (map (λ (s : Server). objects)) is);
      grouped = ap (map groups_in) is ∙ grouped_new objects gs ws alike;
      watched = ap (map watches_in) is ∙ watched_new objects gs ws alike;
      publishers_marked = λ n none. ap (λ (l : List Sender). get_or (map lane_in l) n []) from ∙ lanes_new 0 parts n;
      queues_marked = λ n none. ap (λ (l : List Server). get_or (map waiting_in l) n []) is ∙ waiting_new objects gs ws n;
      told = λ e. cc;
    }
