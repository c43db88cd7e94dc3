-- The start of a run.
use Rattle.std.proofs.Common.{◌≡◌, ℕ, zero, suc, ◌^◌, ◌<◌, ◌≤◌, false, List, [], ◌∷◌, ◌++◌, map, length, get_or, refl, sym, ◌∙◌, ap, append_assoc, arith, subst, zero-add}
use Rattle.std.specs.List.{flat_map, AllByRecursion}
use Rattle.std.specs.Global.{Vec}
use Rattle.std.proofs.lemmas.List.{length-append, length-map}
use Rattle.mama_journal.specs.Journal.{numbers_below}
use Rattle.mama_event.specs.Ports.{queues_of, bridge_ports}
use Rattle.mama_event.specs.declared.shape.Shape.{Shape}
use Rattle.mama_event.specs.declared.group.GroupRow.{GroupRow}
use Rattle.mama_event.specs.declared.watch.WatchRow.{WatchRow}
use Rattle.mama_event.specs.declared.publisher_entry.PublisherEntry.{PublisherEntry}
use Rattle.mama_event.specs.declared.to_bridge.BridgeNote.{BridgeNote}
use Rattle.mama_event.specs.declared.to_timers.TimersNote.{TimersNote}
use Rattle.mama_event.specs.declared.to_publisher.PublisherNote.{PublisherNote}
use Rattle.mama_event.specs.declared.to_queue.QueueNote.{QueueNote}
use Rattle.mama_script.specs.declared.client.ClientLine.{ClientLine}
use Rattle.mama_script.specs.declared.publisher.PublisherPart.{PublisherPart}
use Rattle.mama_script.specs.Script.{ScriptData}
use Rattle.mama_script.specs.Tree.{IsScript, topic_of_part}
use Rattle.mama_script.specs.Within.{IsWithin, IsPublisherWithin}
use Rattle.mama_rules_rounds.specs.Client.{Planned, clock_lines, client_steps}
use Rattle.mama_rules_rounds.specs.Setting.{Grouped}
use Rattle.mama_rules_rounds.specs.World.{World}
use Rattle.mama_rules_rounds.specs.Sections.{setting_of, groups_from, watches_from, publishers_from, sends_in, all_client_steps}
use Rattle.mama_rules_rounds.specs.Round.{publisher_steps}
use Rattle.mama_plans.specs.Lists.{groups_on, groups_on_each, watches_on_each}
use Rattle.mama_seats.specs.Sender.{Sender, steps_in}
use Rattle.mama_seats.specs.Stand.{Stand, reading}
use Rattle.mama_seats.specs.Server.{Server}
use Rattle.mama_drive.specs.Seat.{ServiceSeat}
use Rattle.mama_drive.specs.Scene.{Scene, world_in, script_in, entries_in, lane_in, journal_in, heard_in, waiting_in, lefts, AreMoments, AllEnd}
use Rattle.mama_drive.specs.Start.{stands_from, senders_from, new_server, new_servers, started, Starts}
use Rattle.mama_drive.proofs.SystemLemmas.{as_many_each}

scripts_are : (n : ℕ) (parts : List PublisherPart) → map script_in (senders_from n parts) ≡ publishers_from n parts
scripts_are n [] = refl
scripts_are n (p ∷ ps) = ap (λ l. record { number = n; base = p.base; lines = flat_map sends_in p.lines } ∷ l) (scripts_are (suc n) ps)

steps_are : (n : ℕ) (parts : List PublisherPart) → map steps_in (senders_from n parts) ≡ map (λ (s : PublisherPart). publisher_steps s.lines) parts
steps_are n [] = refl
steps_are n (p ∷ ps) = ap (λ l. publisher_steps p.lines ∷ l) (steps_are (suc n) ps)

no_entries : (n : ℕ) (parts : List PublisherPart) → map entries_in (senders_from n parts) ≡ map (λ (s : PublisherPart). []) parts
no_entries n [] = refl
no_entries n (p ∷ ps) = ap (λ (l : List (List PublisherEntry)). [] ∷ l) (no_entries (suc n) ps)

no_notes : (n : ℕ) (parts : List PublisherPart) → map lane_in (senders_from n parts) ≡ map (λ (s : PublisherPart). []) parts
no_notes n [] = refl
no_notes n (p ∷ ps) = ap (λ (l : List (List PublisherNote)). [] ∷ l) (no_notes (suc n) ps)

no_journal : (objects : List Planned) (gs : List (List (ℕ × GroupRow))) (ws : List (List (ℕ × WatchRow))) → length gs ≡ length ws
    → map journal_in (new_servers objects gs ws) ≡ map (λ (g : List (ℕ × GroupRow)). []) gs
no_journal objects [] ws alike = refl
no_journal objects (g ∷ gs) [] alike = absurd (omega (arith, alike))
no_journal objects (g ∷ gs) (w ∷ ws) alike = ap (λ (l : List (List (ℕ × QueueNote))). [] ∷ l) (no_journal objects gs ws (omega (arith, alike)))

no_waiting : (objects : List Planned) (gs : List (List (ℕ × GroupRow))) (ws : List (List (ℕ × WatchRow))) → length gs ≡ length ws
    → map waiting_in (new_servers objects gs ws) ≡ map (λ (g : List (ℕ × GroupRow)). []) gs
no_waiting objects [] ws alike = refl
no_waiting objects (g ∷ gs) [] alike = absurd (omega (arith, alike))
no_waiting objects (g ∷ gs) (w ∷ ws) alike = ap (λ (l : List (List (ℕ × QueueNote))). [] ∷ l) (no_waiting objects gs ws (omega (arith, alike)))

-- a list of nothing for each queue
nothing_each : (groups : List Grouped) (ns : List ℕ) → map {B = List (ℕ × QueueNote)} (λ (g : List (ℕ × GroupRow)). []) (map (groups_on groups) ns) ≡ map {B = List (ℕ × QueueNote)} (λ (q : ℕ). []) ns
nothing_each groups [] = refl
nothing_each groups (n ∷ ns) = ap (λ (l : List (List (ℕ × QueueNote))). [] ∷ l) (nothing_each groups ns)

-- the groups were told all of nothing
pub told_at_start : (objects : List Planned) (gs : List (List (ℕ × GroupRow))) (ws : List (List (ℕ × WatchRow)))
    → map heard_in (new_servers objects gs ws) ≡ map journal_in (new_servers objects gs ws)
told_at_start objects [] ws = refl
told_at_start objects (g ∷ gs) [] = refl
told_at_start objects (g ∷ gs) (w ∷ ws) = ap (λ (l : List (List (ℕ × QueueNote))). [] ∷ l) (told_at_start objects gs ws)

-- what stands after some elements
after_some : (before : List (List ℕ)) (m : List ℕ) (ms : List (List ℕ)) (n : ℕ) → length before ≡ n → get_or (before ++ m ∷ ms) n [] ≡ m
after_some [] m ms zero h = refl
after_some [] m ms (suc n) h = absurd (omega arith)
after_some (b ∷ before) m ms zero h = absurd (omega arith)
after_some (b ∷ before) m ms (suc n) h = after_some before m ms n (omega arith)

lefts_start : (queues n : ℕ) (before ms : List (List ℕ)) (cs : List (List ClientLine)) → length before ≡ n → AreMoments ms (stands_from queues n cs)
    → lefts ms (stands_from queues n cs) ≡ all_client_steps queues n (before ++ ms) cs
lefts_start queues n before [] [] counted h = refl
lefts_start queues n before [] (c ∷ cs) counted h = absurd h
lefts_start queues n before (m ∷ ms) [] counted h = absurd h
lefts_start queues n before (m ∷ ms) (c ∷ cs) counted h =
    ap (λ (k : List ℕ). client_steps queues n k c ∷ lefts ms (stands_from queues (suc n) cs)) (sym (after_some before m ms n counted))
    ∙ ap (λ l. client_steps queues n (get_or (before ++ m ∷ ms) n []) c ∷ l)
    (lefts_start queues (suc n) (before ++ m ∷ []) ms cs (length-append before (m ∷ []) ∙ omega (arith, counted)) h.1
    ∙ ap (λ l. all_client_steps queues (suc n) l cs) (append_assoc before (m ∷ []) ms))

told_at_first : (queues n : ℕ) (cs : List (List ClientLine)) → map reading (stands_from queues n cs) ≡ map clock_lines cs
told_at_first queues n [] = refl
told_at_first queues n (c ∷ cs) =
    ap (λ k. k ∷ map reading (stands_from queues (suc n) cs)) (zero-add (clock_lines c)) ∙ ap (λ l. clock_lines c ∷ l) (told_at_first queues (suc n) cs)

ends_at_first : (queues n : ℕ) (cs : List (List ClientLine)) → AllEnd (stands_from queues n cs)
ends_at_first queues n [] = tt
ends_at_first queues n (c ∷ cs) = (λ over. cc, ends_at_first queues (suc n) cs)

pub starts : (script : ScriptData) → Starts script (started (setting_of script).objects script)
starts script =
    let objects : List Planned = (setting_of script).objects in
    let queues : ℕ = queues_of script.shape in
    let gs : List (List (ℕ × GroupRow)) = groups_on_each queues (setting_of script).groups in
    let ws : List (List (ℕ × WatchRow)) = watches_on_each queues (setting_of script).watches in
    let alike : length gs ≡ length ws = as_many_each queues (setting_of script).groups (setting_of script).watches in
    let nothing : map (λ (g : List (ℕ × GroupRow)). []) gs ≡ map (λ (q : ℕ). []) (numbers_below queues) = nothing_each (setting_of script).groups (numbers_below queues) in
    record {
      setting = ap (λ l. record { shape = script.shape; publishers = l; objects = objects; groups = (setting_of script).groups; watches = (setting_of script).watches }) (scripts_are 0 script.publishers);
      stages = λ ms h.
          let world : List (List PublisherEntry) → List (List PublisherNote) → List (List (ℕ × QueueNote)) → List (List (ℕ × QueueNote)) → World =
          λ e l j w. record { publishers = e; bridge = []; timers = []; queues = j; to_bridge = []; to_timers = []; to_publishers = l; to_queues = w } in
          ap (λ l. record { clients = l; publishers = map steps_in (senders_from 0 script.publishers); world = world_in (started objects script) }) (lefts_start queues 0 [] ms script.clients refl h)
          ∙ ap (λ l. record { clients = all_client_steps queues 0 ms script.clients; publishers = l; world = world_in (started objects script) }) (steps_are 0 script.publishers)
          ∙ ap (λ w. record { clients = all_client_steps queues 0 ms script.clients; publishers = map (λ (s : PublisherPart). publisher_steps s.lines) script.publishers; world = w })
          (ap (λ e. world e (map lane_in (senders_from 0 script.publishers)) (map journal_in (new_servers objects gs ws)) (map waiting_in (new_servers objects gs ws))) (no_entries 0 script.publishers)
          ∙ ap (λ l. world (map (λ (s : PublisherPart). []) script.publishers) l (map journal_in (new_servers objects gs ws)) (map waiting_in (new_servers objects gs ws))) (no_notes 0 script.publishers)
          ∙ ap (λ j. world (map (λ (s : PublisherPart). []) script.publishers) (map (λ (s : PublisherPart). []) script.publishers) j (map waiting_in (new_servers objects gs ws))) (no_journal objects gs ws alike ∙ nothing)
          ∙ ap (λ w. world (map (λ (s : PublisherPart). []) script.publishers) (map (λ (s : PublisherPart). []) script.publishers) (map (λ (q : ℕ). []) (numbers_below queues)) w) (no_waiting objects gs ws alike ∙ nothing));
      told = told_at_first queues 0 script.clients;
      ends = ends_at_first queues 0 script.clients;
    }

-- THE COUNTS OF A SCRIPT

pub stands_length : (queues n : ℕ) (cs : List (List ClientLine)) → length (stands_from queues n cs) ≡ length cs
stands_length queues n [] = refl
stands_length queues n (c ∷ cs) = ap suc (stands_length queues (suc n) cs)

pub senders_length : (n : ℕ) (ps : List PublisherPart) → length (senders_from n ps) ≡ length ps
senders_length n [] = refl
senders_length n (p ∷ ps) = ap suc (senders_length (suc n) ps)

pub few_ports : (s : ScriptData) → IsScript s → IsWithin s → bridge_ports s.shape < 2 ^ 32
few_ports s script within =
    let publishers : length s.shape.publisher_topics ≡ length s.publishers = ap length script.shaped.publishers ∙ length-map s.publishers topic_of_part in
    omega (arith, script.shaped.clients, within.clients_few, publishers, within.publishers_few, within.queues_few)

pub small_bases : (topics : ℕ) (ps : List PublisherPart) → AllByRecursion (IsPublisherWithin topics) ps → AllByRecursion (λ (part : PublisherPart). length part.base ≤ 64) ps
small_bases topics [] h = tt
small_bases topics (p ∷ ps) h = (h.0.base, small_bases topics ps h.1)

pub small_base : (ps : List PublisherPart) (i : ℕ) (p : PublisherPart) → i < length ps → p ≡ get_or ps i p → AllByRecursion (λ (part : PublisherPart). length part.base ≤ 64) ps → length p.base ≤ 64
small_base [] i p within is h = absurd (omega arith)
small_base (x ∷ xs) zero p within is h = subst (λ (q : PublisherPart). length q.base ≤ 64) (sym is) h.0
small_base (x ∷ xs) (suc i) p within is h = small_base xs i p (omega arith) is h.1

-- THE QUEUES OF A SCRIPT

pub lists_alike : (script : ScriptData) (groups : List (Vec (ℕ × GroupRow))) (watches : List (Vec (ℕ × WatchRow)))
    → map (λ (l : Vec (ℕ × GroupRow)). l.items) groups ≡ groups_on_each (queues_of script.shape) (setting_of script).groups
    → map (λ (l : Vec (ℕ × WatchRow)). l.items) watches ≡ watches_on_each (queues_of script.shape) (setting_of script).watches → length groups ≡ length watches
lists_alike script groups watches grouped watched =
    sym (length-map groups (λ (l : Vec (ℕ × GroupRow)). l.items)) ∙ ap length grouped ∙ as_many_each (queues_of script.shape) (setting_of script).groups (setting_of script).watches
    ∙ sym (ap length watched) ∙ length-map watches (λ (l : Vec (ℕ × WatchRow)). l.items)

-- those with these plans
pub queues_started : (script : ScriptData) (objects : List Planned) (groups : List (Vec (ℕ × GroupRow))) (watches : List (Vec (ℕ × WatchRow))) (servers : List Server)
    → objects ≡ (setting_of script).objects
    → map (λ (l : Vec (ℕ × GroupRow)). l.items) groups ≡ groups_on_each (queues_of script.shape) (setting_of script).groups
    → map (λ (l : Vec (ℕ × WatchRow)). l.items) watches ≡ watches_on_each (queues_of script.shape) (setting_of script).watches
    → servers ≡ new_servers objects (map (λ (l : Vec (ℕ × GroupRow)). l.items) groups) (map (λ (l : Vec (ℕ × WatchRow)). l.items) watches)
    → servers ≡ new_servers objects (groups_on_each (queues_of script.shape) (groups_from objects 0 script.groups)) (watches_on_each (queues_of script.shape) (watches_from objects 0 script.watches))
queues_started script objects groups watches servers known grouped watched is =
    is ∙ ap (λ gs. new_servers objects gs (map (λ (l : Vec (ℕ × WatchRow)). l.items) watches)) grouped
    ∙ ap (new_servers objects (groups_on_each (queues_of script.shape) (setting_of script).groups)) watched
    ∙ ap (λ (o : List Planned). new_servers objects (groups_on_each (queues_of script.shape) (groups_from o 0 script.groups)) (watches_on_each (queues_of script.shape) (watches_from o 0 script.watches))) (sym known)

pub queues_new : (script : ScriptData) (objects : List Planned) (shape : Shape) (groups : List (Vec (ℕ × GroupRow))) (watches : List (Vec (ℕ × WatchRow))) (servers : List Server)
    → shape ≡ script.shape → objects ≡ (setting_of script).objects
    → map (λ (l : Vec (ℕ × GroupRow)). l.items) groups ≡ groups_on_each (queues_of script.shape) (setting_of script).groups
    → map (λ (l : Vec (ℕ × WatchRow)). l.items) watches ≡ watches_on_each (queues_of script.shape) (setting_of script).watches
    → servers ≡ new_servers objects (map (λ (l : Vec (ℕ × GroupRow)). l.items) groups) (map (λ (l : Vec (ℕ × WatchRow)). l.items) watches)
    → servers ≡ new_servers objects (groups_on_each (queues_of shape) (groups_from objects 0 script.groups)) (watches_on_each (queues_of shape) (watches_from objects 0 script.watches))
queues_new script objects shape groups watches servers same known grouped watched is =
    queues_started script objects groups watches servers known grouped watched is
    ∙ ap (λ (h : Shape). new_servers objects (groups_on_each (queues_of h) (groups_from objects 0 script.groups)) (watches_on_each (queues_of h) (watches_from objects 0 script.watches))) (sym same)

-- a system is one that has done nothing yet, seat by seat
pub started_as : (script : ScriptData) (objects : List Planned) (shape : Shape) (clients : List Stand) (senders : List Sender) (servers : List Server) (bridge : ServiceSeat BridgeNote) (timers : ServiceSeat TimersNote)
    → shape ≡ script.shape → clients ≡ stands_from (queues_of script.shape) 0 script.clients → senders ≡ senders_from 0 script.publishers
    → servers ≡ new_servers objects (groups_on_each (queues_of script.shape) (groups_from objects 0 script.groups)) (watches_on_each (queues_of script.shape) (watches_from objects 0 script.watches))
    → bridge ≡ record { shape = shape; journal = []; lane = [] } → timers ≡ record { shape = shape; journal = []; lane = [] }
    → record {
      shape = shape;
      objects = objects;
      groups = groups_from objects 0 script.groups;
      watches = watches_from objects 0 script.watches;
      clients = clients;
      senders = senders;
      servers = servers;
      bridge = bridge.journal;
      timers = timers.journal;
      to_bridge = bridge.lane;
      to_timers = timers.lane;
      ready = false;
    } ≡ started objects script
started_as script objects shape clients senders servers bridge timers same clients_are senders_are servers_are bridge_is timers_is =
    let whole : Shape → List Stand → List Sender → List Server → ServiceSeat BridgeNote → ServiceSeat TimersNote → Scene = λ h cs ss qs b t. record {
      shape = h;
      objects = objects;
      groups = groups_from objects 0 script.groups;
      watches = watches_from objects 0 script.watches;
      clients = cs;
      senders = ss;
      servers = qs;
      bridge = b.journal;
      timers = t.journal;
      to_bridge = b.lane;
      to_timers = t.lane;
      ready = false;
    } in
    let s : Scene = started objects script in
    ap (λ b. whole shape clients senders servers b timers) bridge_is
    ∙ ap (λ t. whole shape clients senders servers (record { shape = shape; journal = []; lane = [] }) t) timers_is
    ∙ ap (λ cs. record s { shape = shape; clients = cs; senders = senders; servers = servers }) clients_are
    ∙ ap (λ ss. record s { shape = shape; senders = ss; servers = servers }) senders_are
    ∙ ap (λ qs. record s { shape = shape; servers = qs }) servers_are
    ∙ ap (λ h. record s { shape = h }) same

-- one queue more
pub seat_next : (objects known : List Planned) (done : List Server) (seat : Server) (g : List (ℕ × GroupRow)) (w : List (ℕ × WatchRow)) (gs : List (List (ℕ × GroupRow))) (ws : List (List (ℕ × WatchRow))) (whole : List Server)
    → seat ≡ new_server known g w → known ≡ objects → done ++ new_servers objects (g ∷ gs) (w ∷ ws) ≡ whole → (done ++ seat ∷ []) ++ new_servers objects gs ws ≡ whole
seat_next objects known done seat g w gs ws whole is same so_far =
    ap (λ (s : Server). (done ++ s ∷ []) ++ new_servers objects gs ws) (is ∙ ap (λ (o : List Planned). new_server o g w) same)
    ∙ append_assoc done (new_server objects g w ∷ []) (new_servers objects gs ws) ∙ so_far
