-- The parts of a record, whatever is held.
use Rattle.std.proofs.Common.{◌≡◌, ℕ, ◌≤◌, true, List, map, length, refl, sym, ◌∙◌, ap, subst}
use Rattle.std.specs.Prelude.{vec_capacity}
use Rattle.std.specs.List.{flat_map}
use Rattle.mama_event.specs.Ports.{queue_port_of_bridge, queue_port_of_timers}
use Rattle.mama_rules_services.specs.Bridge.{BridgePut, to_publisher, to_queue}
use Rattle.mama_rules_services.specs.Bridge as bridge
use Rattle.mama_rules_queue.specs.Queue.{QueuePut}
use Rattle.mama_rules_queue.specs.Queue as queue
use Rattle.mama_rules_rounds.specs.Client.{Planned}
use Rattle.mama_rules_rounds.specs.Setting.{Grouped, Watched}
use Rattle.mama_journal.specs.Journal.{numbers_below}
use Rattle.mama_event.specs.declared.group.GroupNote.{GroupNote}
use Rattle.mama_event.specs.declared.watch.WatchNote.{WatchNote}
use Rattle.mama_plans.proofs.NumberedLemmas.{no_list}
use Rattle.mama_seats.specs.Server.{all_told}
use Rattle.mama_drive.specs.declared.held.Held.{Held}
use Rattle.mama_drive.specs.declared.recording.Parts.{Parts}
use Rattle.mama_drive.specs.Scene.{Scene, journal_in}
use Rattle.mama_drive.specs.Record.{images_by}
use Rattle.mama_drive.specs.Parts.{ArePartsOf}
use Rattle.mama_drive.specs.Held.{seen, lay_put, lay_out, with_event}
use Rattle.mama_drive.proofs.HeldLemmas.{seen_keeps, map_kept}
use Rattle.mama_drive.proofs.RunLemmas.{clients_seen, senders_seen, servers_seen}

-- two scenes with the same objects and journals of queues, and as many actors, have the same parts
parts_same : (a b : Scene) (parts : Parts) → a.objects ≡ b.objects → map journal_in a.servers ≡ map journal_in b.servers → length a.clients ≡ length b.clients
    → length a.senders ≡ length b.senders → length a.servers ≡ length b.servers → a.groups ≡ b.groups → a.watches ≡ b.watches → ArePartsOf a parts → ArePartsOf b parts
parts_same a b parts objects journals clients senders servers groups watches h = record {
  images = h.images ∙ ap (λ o. flat_map (images_by o (map journal_in a.servers)) o) objects ∙ ap (λ j. flat_map (images_by b.objects j) b.objects) journals;
  groups = h.groups ∙ ap (λ (gs : List Grouped). map (no_list {A = GroupNote}) (numbers_below (length gs))) groups;
  watches = h.watches ∙ ap (λ (ws : List Watched). map (no_list {A = WatchNote}) (numbers_below (length ws))) watches;
  no_calls = h.no_calls;
  no_given = h.no_given;
  no_moments = h.no_moments;
  no_entries = h.no_entries;
  no_events = h.no_events;
  calls_fit = subst (λ (o : List Planned). length o ≤ vec_capacity parts.calls) objects h.calls_fit;
  given_fit = subst (λ n. n ≤ vec_capacity parts.given) servers h.given_fit;
  moments_fit = subst (λ n. n ≤ vec_capacity parts.moments) clients h.moments_fit;
  entries_fit = subst (λ n. n ≤ vec_capacity parts.entries) senders h.entries_fit;
  events_fit = subst (λ n. n ≤ vec_capacity parts.events) servers h.events_fit;
}

objects_put : (x : BridgePut) (s : Scene) → (lay_put x s).objects ≡ s.objects
objects_put (to_publisher p note) s = refl
objects_put (to_queue q note) s = refl
objects_put (bridge.to_timers note) s = refl

objects_out : (b t : ℕ) (x : QueuePut) (s : Scene) → (lay_out b t x s).objects ≡ s.objects
objects_out b t (queue.to_bridge note) s = refl
objects_out b t (queue.to_timers note) s = refl

journals_put : (x : BridgePut) (s : Scene) → map journal_in (lay_put x s).servers ≡ map journal_in s.servers
journals_put (to_publisher p note) s = refl
journals_put (to_queue q note) s = map_kept journal_in (with_event (queue_port_of_bridge, note)) (λ x. refl) q s.servers
journals_put (bridge.to_timers note) s = refl

journals_out : (b t : ℕ) (x : QueuePut) (s : Scene) → map journal_in (lay_out b t x s).servers ≡ map journal_in s.servers
journals_out b t (queue.to_bridge note) s = refl
journals_out b t (queue.to_timers note) s = refl

groups_put : (x : BridgePut) (s : Scene) → (lay_put x s).groups ≡ s.groups
groups_put (to_publisher p note) s = refl
groups_put (to_queue q note) s = refl
groups_put (bridge.to_timers note) s = refl

groups_out : (b t : ℕ) (x : QueuePut) (s : Scene) → (lay_out b t x s).groups ≡ s.groups
groups_out b t (queue.to_bridge note) s = refl
groups_out b t (queue.to_timers note) s = refl

watches_put : (x : BridgePut) (s : Scene) → (lay_put x s).watches ≡ s.watches
watches_put (to_publisher p note) s = refl
watches_put (to_queue q note) s = refl
watches_put (bridge.to_timers note) s = refl

watches_out : (b t : ℕ) (x : QueuePut) (s : Scene) → (lay_out b t x s).watches ≡ s.watches
watches_out b t (queue.to_bridge note) s = refl
watches_out b t (queue.to_timers note) s = refl

groups_seen : (h : Held) (s : Scene) → (seen h s).groups ≡ s.groups
groups_seen h s = seen_keeps (λ (t : Scene). t.groups) groups_put (λ e t. refl) (λ port e t. refl) groups_out (λ q t. refl) h s

watches_seen : (h : Held) (s : Scene) → (seen h s).watches ≡ s.watches
watches_seen h s = seen_keeps (λ (t : Scene). t.watches) watches_put (λ e t. refl) (λ port e t. refl) watches_out (λ q t. refl) h s

objects_seen : (h : Held) (s : Scene) → (seen h s).objects ≡ s.objects
objects_seen h s = seen_keeps (λ (t : Scene). t.objects) objects_put (λ e t. refl) (λ port e t. refl) objects_out (λ q t. refl) h s

journals_seen : (h : Held) (s : Scene) → map journal_in (seen h s).servers ≡ map journal_in s.servers
journals_seen h s = seen_keeps (λ (t : Scene). map journal_in t.servers) journals_put
    (λ e t. map_kept journal_in (with_event (queue_port_of_timers, e.1)) (λ x. refl) e.0 t.servers) (λ port e t. refl) journals_out (λ q t. map_kept journal_in all_told (λ x. refl) q t.servers) h s

-- what is held has no part in the record
pub parts_seen : (h : Held) (s old : Scene) (parts : Parts) → seen h s ≡ old → ArePartsOf s parts → ArePartsOf old parts
parts_seen h s old parts is parts_are = subst (λ (o : Scene). ArePartsOf o parts) is
    (parts_same s (seen h s) parts (sym (objects_seen h s)) (sym (journals_seen h s)) (clients_seen h s (seen h s) refl) (senders_seen h s (seen h s) refl) (servers_seen h s (seen h s) refl)
    (sym (groups_seen h s)) (sym (watches_seen h s)) parts_are)

pub parts_unseen : (h : Held) (s old : Scene) (parts : Parts) → seen h s ≡ old → ArePartsOf old parts → ArePartsOf s parts
parts_unseen h s old parts is parts_are =
    parts_same (seen h s) s parts (objects_seen h s) (journals_seen h s) (sym (clients_seen h s (seen h s) refl)) (sym (senders_seen h s (seen h s) refl)) (sym (servers_seen h s (seen h s) refl)) (groups_seen h s) (watches_seen h s)
    (subst (λ (o : Scene). ArePartsOf o parts) (sym is) parts_are)

-- nor has the mark that it can be made
pub parts_ready : (s : Scene) (parts : Parts) → ArePartsOf s parts → ArePartsOf (record s { ready = true }) parts
parts_ready s parts h = record {
  images = h.images;
  groups = h.groups;
  watches = h.watches;
  no_calls = h.no_calls;
  no_given = h.no_given;
  no_moments = h.no_moments;
  no_entries = h.no_entries;
  no_events = h.no_events;
  calls_fit = h.calls_fit;
  given_fit = h.given_fit;
  moments_fit = h.moments_fit;
  entries_fit = h.entries_fit;
  events_fit = h.events_fit;
}
