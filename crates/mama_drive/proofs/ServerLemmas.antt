-- How a queue's turn changes the world.
use Rattle.std.proofs.Common.{◌≡◌, ℕ, ◌<◌, Bool, List, [], ◌∷◌, ◌++◌, map, filter, length, get_or, refl, sym, ◌∙◌, ap, subst}
use Rattle.std.specs.List.{flat_map}
use Rattle.std.proofs.Math.ListN.{set}
use Rattle.std.proofs.lemmas.List.{map-set, get_or-map, length-set}
use Rattle.std.proofs.Math.Seq.{map-set_same}
use Rattle.mama_journal.specs.Journal.{numbers_below}
use Rattle.mama_journal.specs.Lane.{from_port}
use Rattle.mama_event.specs.declared.to_queue.QueueNote.{QueueNote}
use Rattle.mama_event.specs.declared.watch.WatchRow.{WatchRow}
use Rattle.mama_event.specs.Ports.{queues_of, bridge_port_of_queue, timers_port_of_queue}
use Rattle.mama_rules_queue.specs.Queue.{QueuePut}
use Rattle.mama_rules_queue.specs.Watch.{watched_puts_at}
use Rattle.mama_rules_rounds.specs.Client.{Planned, bridge_part, timers_part}
use Rattle.mama_rules_rounds.specs.Setting.{Watched, is_on, rows_on}
use Rattle.mama_rules_rounds.specs.World.{World, queue_turn, queue_took}
use Rattle.mama_seats.specs.Server.{Server, rows_in, served, served_puts, all_told}
use Rattle.mama_plans.specs.Orders.{orders_in}
use Rattle.mama_plans.specs.Lists.{watch_row, watches_on, watches_on_each}
use Rattle.mama_plans.proofs.EachLemmas.{numbers_len, number_at}
use Rattle.mama_drive.specs.Scene.{Scene, Moves, setting_in, world_in, journal_in, heard_in, waiting_in, objects_in, watches_in}
use Rattle.mama_drive.proofs.LaneLemmas.{append_nil}

-- the scene with another seat of a queue, and with what it puts on the lanes
abbrev pub served_scene : Scene → ℕ → Server → List QueuePut → Scene
served_scene s q y outs = record s {
  servers = set s.servers q y;
  to_bridge = s.to_bridge ++ from_port (bridge_port_of_queue s.shape q) (flat_map bridge_part outs);
  to_timers = s.to_timers ++ from_port (timers_port_of_queue s.shape q) (flat_map timers_part outs);
}

abbrev after_queue : Scene → ℕ → List (List (ℕ × QueueNote)) → List (List (ℕ × QueueNote)) → List QueuePut → World
after_queue s q queues lanes outs = record (world_in s) {
  queues = queues;
  to_queues = lanes;
  to_bridge = s.to_bridge ++ from_port (bridge_port_of_queue s.shape q) (flat_map bridge_part outs);
  to_timers = s.to_timers ++ from_port (timers_port_of_queue s.shape q) (flat_map timers_part outs);
}

-- the rows of a queue's watches, with and without their numbers
rows_of : (ws : List Watched) → map (λ (w : ℕ × WatchRow). w.1) (map watch_row ws) ≡ map (λ (w : Watched). w.row) ws
rows_of [] = refl
rows_of (w ∷ ws) = ap (λ l. w.row ∷ l) (rows_of ws)

server_turned_at : (s : Scene) (q : ℕ) (x : Server) → q < length s.servers → x ≡ get_or s.servers q x → x.objects ≡ s.objects → rows_in x ≡ rows_on q s.watches
    → (lane : List (ℕ × QueueNote)) → world_in (served_scene s q (all_told (served x lane)) (served_puts x lane)) ≡ queue_took (setting_in s) q (world_in s) lane
server_turned_at s q x within is same rows [] =
    ap (λ l. after_queue s q l (map waiting_in (set s.servers q (all_told x))) []) (map-set_same journal_in s.servers q (all_told x) x (ap journal_in is))
    ∙ ap (λ l. after_queue s q (map journal_in s.servers) l []) (map-set_same waiting_in s.servers q (all_told x) x (ap waiting_in is))
    ∙ ap (λ t. record (world_in s) { to_bridge = t; to_timers = s.to_timers ++ [] }) (append_nil s.to_bridge)
    ∙ ap (λ t. record (world_in s) { to_timers = t }) (append_nil s.to_timers)
server_turned_at s q x within is same rows (e ∷ rest) =
    let x' : Server = all_told (served x (e ∷ rest)) in
    let j : List (ℕ × QueueNote) = get_or (map journal_in s.servers) q [] in
    let journal : x.journal ≡ j = sym (get_or-map journal_in s.servers q x [] within ∙ ap journal_in (sym is)) in
    let journals : List (List (ℕ × QueueNote)) = set (map journal_in s.servers) q (x.journal ++ e ∷ []) in
    let lanes : List (List (ℕ × QueueNote)) = set (map waiting_in s.servers) q rest in
    ap (λ l. after_queue s q l (map waiting_in (set s.servers q x')) (watched_puts_at (orders_in x.objects) (rows_in x) x.journal e)) (map-set journal_in s.servers q x')
    ∙ ap (λ l. after_queue s q journals l (watched_puts_at (orders_in x.objects) (rows_in x) x.journal e)) (map-set waiting_in s.servers q x')
    ∙ ap (λ o. after_queue s q journals lanes (watched_puts_at (orders_in o) (rows_in x) x.journal e)) same
    ∙ ap (λ r. after_queue s q journals lanes (watched_puts_at (orders_in s.objects) r x.journal e)) rows
    ∙ ap (λ k. after_queue s q (set (map journal_in s.servers) q (k ++ e ∷ [])) lanes (watched_puts_at (orders_in s.objects) (rows_on q s.watches) k e)) journal

server_turned : (s : Scene) (q : ℕ) (x : Server) → q < length s.servers → x ≡ get_or s.servers q x → x.objects ≡ s.objects → rows_in x ≡ rows_on q s.watches
    → Moves s (served_scene s q (all_told (served x x.lane)) (served_puts x x.lane)) (queue_turn (setting_in s) q (world_in s))
server_turned s q x within is same rows =
    let x' : Server = all_told (served x x.lane) in
    record {
      setting = refl;
      clients = refl;
      steps = refl;
      sender_count = refl;
      server_count = length-set s.servers q x';
      heard = λ h. map-set heard_in s.servers q x' ∙ ap (λ (l : List (List (ℕ × QueueNote))). set l q x'.heard) h ∙ sym (map-set journal_in s.servers q x');
      now = server_turned_at s q x within is same rows x.lane
          ∙ ap (queue_took (setting_in s) q (world_in s)) (ap waiting_in is ∙ sym (get_or-map waiting_in s.servers q x [] within));
    }

-- the seats of the queues know the same objects
pub own_objects : (servers : List Server) (objects : List Planned) (q : ℕ) (x : Server) → map objects_in servers ≡ map (λ (s : Server). objects) servers
    → q < length servers → x ≡ get_or servers q x → x.objects ≡ objects
own_objects servers objects q x shared within is =
    ap objects_in is ∙ sym (get_or-map objects_in servers q x objects within) ∙ ap (λ l. get_or l q objects) shared
    ∙ get_or-map (λ (s : Server). objects) servers q x objects within

-- and each has the watches of its queue
own_rows : (servers : List Server) (watches : List Watched) (queues q : ℕ) (x : Server) → map watches_in servers ≡ watches_on_each queues watches
    → length servers ≡ queues → q < length servers → x ≡ get_or servers q x → rows_in x ≡ rows_on q watches
own_rows servers watches queues q x watched count within is =
    let small : q < queues = subst (λ n. q < n) count within in
    let many : q < length (numbers_below queues) = subst (λ n. q < n) (sym (numbers_len queues)) small in
    let whole : x.watches ≡ watches_on watches q =
    ap watches_in is ∙ sym (get_or-map watches_in servers q x [] within) ∙ ap (λ (l : List (List (ℕ × WatchRow))). get_or l q []) watched
    ∙ get_or-map (watches_on watches) (numbers_below queues) q 0 [] many ∙ ap (watches_on watches) (number_at queues q 0 small) in
    ap (map (λ (w : ℕ × WatchRow). w.1)) whole ∙ rows_of (filter (is_on q) watches)

-- the same, told of the seat by what it is
server_turned_to : (s old : Scene) (q : ℕ) (x y : Server) (outs : List QueuePut) → s ≡ old → q < length s.servers → x ≡ get_or s.servers q x
    → map objects_in s.servers ≡ map (λ (o : Server). s.objects) s.servers → map watches_in s.servers ≡ watches_on_each (queues_of s.shape) s.watches → length s.servers ≡ queues_of s.shape
    → y ≡ all_told (served x x.lane) → outs ≡ served_puts x x.lane
    → Moves old (served_scene s q y outs) (queue_turn (setting_in old) q (world_in old))
server_turned_to s old q x y outs is within at shared watched count changed puts_are =
    subst (λ (o : Scene). Moves o (served_scene s q y outs) (queue_turn (setting_in o) q (world_in o))) is
    (subst (λ (z : Server). Moves s (served_scene s q z outs) (queue_turn (setting_in s) q (world_in s))) (sym changed)
    (subst (λ (l : List QueuePut). Moves s (served_scene s q (all_told (served x x.lane)) l) (queue_turn (setting_in s) q (world_in s))) (sym puts_are)
    (server_turned s q x within at (own_objects s.servers s.objects q x shared within at) (own_rows s.servers s.watches (queues_of s.shape) q x watched count within at))))

-- the mark that a record can be made is no part of the world
unmarked : (a b : Scene) (w : World) (mark : Bool) → Moves a b w → Moves a (record b { ready = mark }) w
unmarked a b w mark moves = record {
  setting = moves.setting;
  clients = moves.clients;
  steps = moves.steps;
  sender_count = moves.sender_count;
  server_count = moves.server_count;
  heard = moves.heard;
  now = moves.now;
}

pub queue_turned_to : (s old : Scene) (q bridge_port timers_port : ℕ) (x y : Server) (outs : List QueuePut) (mark : Bool) → s ≡ old → q < length s.servers → x ≡ get_or s.servers q x
    → map objects_in s.servers ≡ map (λ (o : Server). s.objects) s.servers → map watches_in s.servers ≡ watches_on_each (queues_of s.shape) s.watches → length s.servers ≡ queues_of s.shape
    → y ≡ all_told (served x x.lane) → outs ≡ served_puts x x.lane → bridge_port ≡ bridge_port_of_queue s.shape q → timers_port ≡ timers_port_of_queue s.shape q
    → Moves old (record s {
      servers = set s.servers q y;
      to_bridge = s.to_bridge ++ from_port bridge_port (flat_map bridge_part outs);
      to_timers = s.to_timers ++ from_port timers_port (flat_map timers_part outs);
      ready = mark;
    }) (queue_turn (setting_in old) q (world_in old))
queue_turned_to s old q bridge_port timers_port x y outs mark is within at shared watched count changed puts_are to_port timers_from =
    let after : ℕ → ℕ → Scene = λ b t. record s {
      servers = set s.servers q y;
      to_bridge = s.to_bridge ++ from_port b (flat_map bridge_part outs);
      to_timers = s.to_timers ++ from_port t (flat_map timers_part outs);
      ready = mark;
    } in
    subst (λ b. Moves old (after b timers_port) (queue_turn (setting_in old) q (world_in old))) (sym to_port)
    (subst (λ t. Moves old (after (bridge_port_of_queue s.shape q) t) (queue_turn (setting_in old) q (world_in old))) (sym timers_from)
    (unmarked old (served_scene s q y outs) (queue_turn (setting_in old) q (world_in old)) mark
    (server_turned_to s old q x y outs is within at shared watched count changed puts_are)))
