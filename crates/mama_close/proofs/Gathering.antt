-- The record of a crew whose seats have ended and whose lanes are closed is legal.
use Rattle.std.specs.Prelude.{slice_index_or}
use Rattle.std.specs.List.{All, slice_get, flat_map, list_any}
use Rattle.std.proofs.Common.{◌≡◌, ℕ, ◌+◌, ◌<◌, ◌≤◌, Bool, true, List, [], ◌∷◌, ◌++◌, length, map, filter, Some, refl, sym, ◌∙◌, ap, subst, arith}
use Rattle.std.proofs.lemmas.List.{length-map}
use Rattle.std.proofs.lemmas.List.Elements.{All-weaker}
use Rattle.std.proofs.lemmas.Option.{slice_get_within, get_or_from_slice_get}
use Rattle.mama_journal.specs.Journal.{puts}
use Rattle.mama_journal.specs.Lane.{by_port, from_port, IsEdge}
use Rattle.mama_event.specs.declared.shape.Shape.{Shape}
use Rattle.mama_event.specs.declared.to_queue.QueueNote.{QueueNote}
use Rattle.mama_event.specs.declared.publisher_entry.PublisherEntry.{PublisherEntry}
use Rattle.mama_event.specs.declared.watch.WatchRow.{WatchRow}
use Rattle.mama_event.specs.declared.publisher_entry.PublisherEntry.TheVariants.{Send, Done}
use Rattle.mama_event.specs.Ports.{clients_of, publishers_of, queues_of, bridge_ports, queue_port_of_timers}
use Rattle.mama_event.specs.Publisher.{publisher_puts, PublisherScript}
use Rattle.mama_event.specs.ToBridge as to_bridge
use Rattle.mama_event.specs.ToTimers as to_timers
use Rattle.mama_event.specs.ToPublisher as to_publisher
use Rattle.mama_event.specs.ToQueue as to_queue
use Rattle.mama_rules_services.specs.Bridge.{bridge_puts}
use Rattle.mama_rules_services.specs.Timers.{timers_puts}
use Rattle.mama_rules_services.specs.Ports.{queue_putter}
use Rattle.mama_rules_services.proofs.PutterPorts.{by_bridge_port, by_timers_port, by_queue_port}
use Rattle.mama_script.specs.declared.publisher.PublisherPart.{PublisherPart}
use Rattle.mama_script.specs.Script.{ScriptData}
use Rattle.mama_record.specs.RunData.{RunData}
use Rattle.mama_rules_queue.specs.Watch.{watched_puts_at}
use Rattle.mama_rules_rounds.specs.Client.{Planned, bridge_part, timers_part, clock_lines}
use Rattle.mama_rules_rounds.specs.Setting.{Watched, is_on, rows_on, orders_by, no_section, queue_part, timer_part, publisher_part}
use Rattle.mama_rules_rounds.specs.Sections.{setting_of}
use Rattle.mama_rules_rounds.specs.Round.{publisher_steps}
use Rattle.mama_rules_legal.specs.Edges.{all_steps, client_puts, put_on_bridge, put_on_timers, put_to_publisher, put_on_queue, queue_puts, taken_by}
use Rattle.mama_rules_legal.specs.Calls.{IsShapedFor}
use Rattle.mama_rules_legal.specs.Legal.{IsLegal}
use Rattle.mama_laws_legal.specs.Laws.{IsOrderly}
use Rattle.mama_laws_legal.proofs.AllSent.{count_publishers}
use Rattle.mama_laws_legal.proofs.Entries.{sends_at}
use Rattle.mama_laws_allowed.specs.Allowed.{own_by, own_puts, ClientPutsAreItsOwn, StopsInTime}
use Rattle.mama_laws_gather.specs.Gathered.{AreGathered, HaveEnded, GatheredIsLegal}
use Rattle.mama_laws_gather.specs.Done.{HaveDoneLines, GatheredDoLines}
use Rattle.mama_plans.specs.Lists.{watch_row}
use Rattle.mama_seats.specs.Sender.{sender_of, script_of, steps_in, steps_after}
use Rattle.mama_posts_clients.specs.Client.{HasDoneAll}
use Rattle.mama_posts_clients.specs.Client as client
use Rattle.mama_posts_services.specs.Publisher.{PublisherPostValue, IsPublisherOf}
use Rattle.mama_posts_services.specs.Publisher as publisher
use Rattle.mama_posts_clients.specs.Queue.{QueuePostValue, HasServedAll, rows_of_watches, served_puts}
use Rattle.mama_posts_clients.specs.Queue as queue
use Rattle.mama_posts_services.specs.Bridge as bridge
use Rattle.mama_posts_services.specs.Timers as timers
use Rattle.mama_posts_services.specs.Timers.{timers_ports}
use Rattle.mama_posts_services.specs.Byes.{BridgesEndByByes, TimersEndByByes}
use Rattle.mama_posts_clients.proofs.ClientLemmas.{done_all}
use Rattle.mama_posts_clients.proofs.QueueLemmas.{served_all}
use Rattle.mama_crew.specs.Client.{ClientSeatValue}
use Rattle.mama_crew.specs.Hall.{HallValue}
use Rattle.mama_crew.specs.Seat.{IsClientIn, IsPublisherIn, IsQueueIn}
use Rattle.mama_gather.specs.Left.{events_by}
use Rattle.mama_close.specs.Kinds.{Kinds, AreKindsOf, read_by, entries_by, record_of}
use Rattle.mama_gather.specs.Edge.{IsEdgeOf}
use Rattle.mama_close.specs.Closed.{AreClosed}
use Rattle.mama_gather.proofs.Lists.{found_at, all_at, map_at, map_get, get_same, zip_at, numbered_len, numbered_at, none_past, same_lists}
use Rattle.mama_close.proofs.Edges.{edge_as, edge_by, edge_of_none, put_whole, taken_whole, service_taken, service_none, one_port, section_at}

-- the rows of watches without their numbers
rows_alone : (watches : List Watched) → map (λ (w : ℕ × WatchRow). w.1) (map watch_row watches) ≡ map (λ (w : Watched). w.row) watches
rows_alone [] = refl
rows_alone (w ∷ ws) = ap (λ (rows : List WatchRow). w.row ∷ rows) (rows_alone ws)

module _ (script : ScriptData) (hall : HallValue) (kinds : Kinds) (crew : AreKindsOf script hall kinds) (closed : AreClosed kinds) (orderly : IsOrderly script) where
  abbrev shape : Shape
  shape = script.shape

  abbrev run : RunData
  run = record_of script kinds

  -- ---- how many there are

  publishers_count : publishers_of shape ≡ length script.publishers
  publishers_count = count_publishers script orderly.shaped

  clients_count : clients_of shape ≡ length script.clients
  clients_count = orderly.shaped.clients

  -- ---- what the services took

  bridge_over : bridge.is_over shape kinds.bridge.service.journal ≡ true
  bridge_over = ap (λ (s : Shape). bridge.is_over s kinds.bridge.service.journal) (sym crew.bridge.keeps.takes.shape_is) ∙ crew.bridge_ended.over

  timers_over : timers.is_over shape kinds.timers.service.journal ≡ true
  timers_over = ap (λ (s : Shape). timers.is_over s kinds.timers.service.journal) (sym crew.timers.keeps.takes.shape_is) ∙ crew.timers_ended.over

  bridge_taken : kinds.bridge.service.inlet.taker.taken ≡ run.bridge
  bridge_taken = service_taken shape (bridge_ports shape) bridge.MayCome (bridge.is_over shape) kinds.bridge.service crew.bridge.keeps.takes bridge_over

  timers_taken : kinds.timers.service.inlet.taker.taken ≡ run.timers
  timers_taken = service_taken shape (timers_ports shape) timers.MayCome (timers.is_over shape) kinds.timers.service crew.timers.keeps.takes timers_over

  -- ---- the seat of a number

  client_at : (c : ℕ) → c < clients_of shape → (s : ℕ × ClientSeatValue) × (slice_get kinds.clients c ≡ Some s)
  client_at c small = found_at kinds.clients c (subst (λ (n : ℕ). c < n) (sym (numbered_len (λ s. s.0) kinds.clients (clients_of shape) crew.client_numbers)) small)

  publisher_at : (p : ℕ) → p < publishers_of shape → (s : ℕ × PublisherPostValue) × (slice_get kinds.publishers p ≡ Some s)
  publisher_at p small = found_at kinds.publishers p (subst (λ (n : ℕ). p < n) (sym (numbered_len (λ s. s.0) kinds.publishers (publishers_of shape) crew.publisher_numbers)) small)

  queue_at : (q : ℕ) → q < queues_of shape → (s : ℕ × QueuePostValue) × (slice_get kinds.queues q ≡ Some s)
  queue_at q small = found_at kinds.queues q (subst (λ (n : ℕ). q < n) (sym (numbered_len (λ s. s.0) kinds.queues (queues_of shape) crew.queue_numbers)) small)

  -- ---- a client

  client_done : (c : ℕ) (s : ℕ × ClientSeatValue) → slice_get kinds.clients c ≡ Some s → HasDoneAll script c s.1.post.ports.to_bridge.put s.1.post.ports.to_timers.put s.1.post.walk.read
  client_done c s at =
      let is : s.0 ≡ c = numbered_at (λ s. s.0) kinds.clients (clients_of shape) c s crew.client_numbers at in
      subst (λ (n : ℕ). HasDoneAll script n s.1.post.ports.to_bridge.put s.1.post.ports.to_timers.put s.1.post.walk.read) is
      (done_all script s.0 s.1.post (all_at (λ s. IsClientIn script hall s.0 s.1) kinds.clients c s crew.clients at).keeps (all_at (λ s. client.HasEnded s.1.post) kinds.clients c s crew.clients_ended at))

  module _ (law : ClientPutsAreItsOwn) where
    client_whole : (c : ℕ) (s : ℕ × ClientSeatValue) → slice_get kinds.clients c ≡ Some s → own_puts script c s.1.post.walk.read ≡ client_puts script run.clients c
    client_whole c s at =
        let small : c < length kinds.clients = slice_get_within kinds.clients c s at in
        let count : length kinds.clients ≡ length script.clients = numbered_len (λ s. s.0) kinds.clients (clients_of shape) crew.client_numbers ∙ clients_count in
        ap (own_puts script c) (sym (map_at read_by kinds.clients c s [] at))
        ∙ sym (law script run.clients c (subst (λ (n : ℕ). c < n) count small))

    client_bridge : (c : ℕ) → c < clients_of shape → IsEdge to_bridge.is_last (by_port c run.bridge) (flat_map bridge_part (client_puts script run.clients c))
    client_bridge c small =
        let found = client_at c small in
        let s = found.0 in
        let at = found.1 in
        let seat : IsClientIn script hall s.0 s.1 = all_at (λ s. IsClientIn script hall s.0 s.1) kinds.clients c s crew.clients at in
        edge_by to_bridge.is_last kinds.bridge.service.inlet.taker s.1.post.ports.to_bridge c run.bridge (flat_map bridge_part (client_puts script run.clients c)) bridge_taken
        (seat.on_bridge.number_is ∙ numbered_at (λ s. s.0) kinds.clients (clients_of shape) c s crew.client_numbers at)
        ((client_done c s at).bridge ∙ ap (flat_map bridge_part) (client_whole c s at))
        (all_at (λ s. IsEdgeOf to_bridge.is_last kinds.bridge.service.inlet.taker s.1.post.ports.to_bridge) kinds.clients c s closed.clients_bridge at)

    client_timers : (c : ℕ) → c < clients_of shape → IsEdge to_timers.is_last (by_port c run.timers) (flat_map timers_part (client_puts script run.clients c))
    client_timers c small =
        let found = client_at c small in
        let s = found.0 in
        let at = found.1 in
        let seat : IsClientIn script hall s.0 s.1 = all_at (λ s. IsClientIn script hall s.0 s.1) kinds.clients c s crew.clients at in
        edge_by to_timers.is_last kinds.timers.service.inlet.taker s.1.post.ports.to_timers c run.timers (flat_map timers_part (client_puts script run.clients c)) timers_taken
        (seat.on_timers.number_is ∙ numbered_at (λ s. s.0) kinds.clients (clients_of shape) c s crew.client_numbers at)
        ((client_done c s at).timers ∙ ap (flat_map timers_part) (client_whole c s at))
        (all_at (λ s. IsEdgeOf to_timers.is_last kinds.timers.service.inlet.taker s.1.post.ports.to_timers) kinds.clients c s closed.clients_timers at)

  clients_read : map length run.clients ≡ map clock_lines script.clients
  clients_read =
      same_lists (map length run.clients) (map clock_lines script.clients)
      (length-map run.clients length ∙ length-map kinds.clients read_by ∙ numbered_len (λ s. s.0) kinds.clients (clients_of shape) crew.client_numbers ∙ clients_count ∙ sym (length-map script.clients clock_lines))
      (λ c m n is_m is_n.
      let small : c < clients_of shape = subst (λ (k : ℕ). c < k) (length-map script.clients clock_lines ∙ sym clients_count) (slice_get_within (map clock_lines script.clients) c n is_n) in
      let found = client_at c small in
      let s = found.0 in
      let at = found.1 in
      let lines = found_at script.clients c (subst (λ (k : ℕ). c < k) clients_count small) in
      get_same (map length run.clients) c m (length s.1.post.walk.read) is_m
      (map_get length run.clients c s.1.post.walk.read (map_get read_by kinds.clients c s at))
      ∙ (client_done c s at).reads
      ∙ ap clock_lines (get_or_from_slice_get script.clients c lines.0 [] lines.1)
      ∙ sym (get_same (map clock_lines script.clients) c n (clock_lines lines.0) is_n (map_get clock_lines script.clients c lines.0 lines.1)))

  -- ---- a publisher

  module _ (p : ℕ) (small : p < publishers_of shape) where
    abbrev publisher_seat : ℕ × PublisherPostValue
    publisher_seat = (publisher_at p small).0

    abbrev publisher_post : PublisherPostValue
    publisher_post = publisher_seat.1

    publisher_is : slice_get kinds.publishers p ≡ Some publisher_seat
    publisher_is = (publisher_at p small).1

    publisher_number : publisher_seat.0 ≡ p
    publisher_number = numbered_at (λ s. s.0) kinds.publishers (publishers_of shape) p publisher_seat crew.publisher_numbers publisher_is

    part : (x : PublisherPart) × (slice_get script.publishers p ≡ Some x)
    part = found_at script.publishers p (subst (λ (n : ℕ). p < n) publishers_count small)

    publisher_in : IsPublisherIn script hall p publisher_post
    publisher_in = subst (λ (n : ℕ). IsPublisherIn script hall n publisher_post) publisher_number (all_at (λ s. IsPublisherIn script hall s.0 s.1) kinds.publishers p publisher_seat crew.publishers publisher_is)

    publisher_keeps : IsPublisherOf part.0 p publisher_post
    publisher_keeps = publisher_in.keeps part.0 part.1

    publisher_end : publisher.HasEnded publisher_post
    publisher_end = all_at (λ s. publisher.HasEnded s.1) kinds.publishers p publisher_seat crew.publishers_ended publisher_is

    publisher_journal : slice_index_or run.publishers p [] ≡ publisher_post.progress.journal
    publisher_journal = map_at entries_by kinds.publishers p publisher_seat [] publisher_is

    section : script_of p part.0.base part.0.lines ≡ slice_index_or (setting_of script).publishers p no_section
    section =
        let number : p ≡ 0 + p = omega arith in
        ap (λ (n : ℕ). script_of n part.0.base part.0.lines) number ∙ sym (section_at 0 script.publishers p part.0 part.1)

    publisher_put : publisher_post.port.put ≡ publisher_puts (slice_index_or (setting_of script).publishers p no_section) (slice_index_or run.publishers p [])
    publisher_put =
        put_whole publisher_post.port.put publisher_post.left (publisher_puts (script_of p part.0.base part.0.lines) publisher_post.progress.journal) publisher_keeps.put publisher_end.left
        ∙ ap (λ (s : PublisherScript). publisher_puts s publisher_post.progress.journal) section
        ∙ ap (publisher_puts (slice_index_or (setting_of script).publishers p no_section)) (sym publisher_journal)

    publisher_bridge : IsEdge to_bridge.is_last (by_port (clients_of shape + p) run.bridge) (publisher_puts (slice_index_or (setting_of script).publishers p no_section) (slice_index_or run.publishers p []))
    publisher_bridge =
        edge_by to_bridge.is_last kinds.bridge.service.inlet.taker publisher_post.port (clients_of shape + p) run.bridge
        (publisher_puts (slice_index_or (setting_of script).publishers p no_section) (slice_index_or run.publishers p [])) bridge_taken
        publisher_in.on_bridge.number_is publisher_put (all_at (λ s. IsEdgeOf to_bridge.is_last kinds.bridge.service.inlet.taker s.1.port) kinds.publishers p publisher_seat closed.publishers_bridge publisher_is)

    publisher_taken : by_port 0 publisher_post.inlet.taker.taken ≡ taken_by (slice_index_or run.publishers p [])
    publisher_taken =
        one_port publisher_post.inlet.taker.taken (taken_by publisher_post.progress.journal)
        (taken_whole publisher_post.inlet (from_port 0 (taken_by publisher_post.progress.journal)) publisher_keeps.taken publisher_end.kept)
        ∙ ap taken_by (sym publisher_journal)

    publisher_edge : IsEdge to_publisher.is_last (taken_by (slice_index_or run.publishers p [])) (put_to_publisher shape run.bridge p)
    publisher_edge =
        let port = found_at kinds.bridge.ports.publishers p (subst (λ (n : ℕ). p < n) (sym crew.bridge.keeps.puts.publishers.count_is) small) in
        let putting = crew.bridge.keeps.puts.publishers.each p port.0 port.1 in
        let none : flat_map (publisher_part p) kinds.bridge.service.left ≡ [] = ap (flat_map (publisher_part p)) crew.bridge_ended.left in
        edge_as to_publisher.is_last (by_port port.0.number publisher_post.inlet.taker.taken) port.0.put (taken_by (slice_index_or run.publishers p [])) (put_to_publisher shape run.bridge p)
        (ap (λ (n : ℕ). by_port n publisher_post.inlet.taker.taken) putting.number_is ∙ publisher_taken)
        (put_whole port.0.put (flat_map (publisher_part p) kinds.bridge.service.left) (put_to_publisher shape run.bridge p) putting.put none)
        (zip_at (λ port s. IsEdgeOf to_publisher.is_last s.1.inlet.taker port) kinds.bridge.ports.publishers kinds.publishers p port.0 publisher_seat closed.publishers port.1 publisher_is)

    publisher_told : list_any to_publisher.is_last (taken_by (slice_index_or run.publishers p [])) ≡ true
    publisher_told = ap (λ (j : List PublisherEntry). list_any to_publisher.is_last (taken_by j)) publisher_journal ∙ publisher_end.told

    publisher_stops : StopsInTime (slice_index_or run.publishers p [])
    publisher_stops = subst StopsInTime (sym publisher_journal) publisher_keeps.stops

    publisher_own : own_by (slice_index_or run.publishers p []) ≡ map (λ l. Send) (slice_index_or (setting_of script).publishers p no_section).lines ++ Done ∷ []
    publisher_own =
        let sender = sender_of part.0 publisher_post.progress in
        let none : all_steps (steps_in sender) ≡ [] = ap (λ (b : Bool). all_steps (steps_after b sender.pause sender.lines)) publisher_end.over in
        ap own_by publisher_journal
        ∙ put_whole (own_by publisher_post.progress.journal) (all_steps (steps_in sender)) (all_steps (publisher_steps part.0.lines)) publisher_keeps.own none
        ∙ ap all_steps (sym (map_at (λ s. publisher_steps s.lines) script.publishers p part.0 [] part.1))
        ∙ sends_at 0 script.publishers p (subst (λ (n : ℕ). p < n) publishers_count small)

  -- ---- a queue

  module _ (q : ℕ) (small : q < queues_of shape) where
    abbrev queue_seat : ℕ × QueuePostValue
    queue_seat = (queue_at q small).0

    abbrev queue_post : QueuePostValue
    queue_post = queue_seat.1

    queue_is : slice_get kinds.queues q ≡ Some queue_seat
    queue_is = (queue_at q small).1

    queue_number : queue_seat.0 ≡ q
    queue_number = numbered_at (λ s. s.0) kinds.queues (queues_of shape) q queue_seat crew.queue_numbers queue_is

    queue_in : IsQueueIn script hall q queue_post
    queue_in = subst (λ (n : ℕ). IsQueueIn script hall n queue_post) queue_number (all_at (λ s. IsQueueIn script hall s.0 s.1) kinds.queues q queue_seat crew.queues queue_is)

    queue_served : HasServedAll (setting_of script).objects (rows_of_watches queue_post.watches) queue_post.served.journal queue_post.inlet.taker queue_post.ports.to_bridge.put queue_post.ports.to_timers.put
    queue_served =
        subst (λ (objects : List Planned). HasServedAll objects (rows_of_watches queue_post.watches) queue_post.served.journal queue_post.inlet.taker queue_post.ports.to_bridge.put queue_post.ports.to_timers.put) crew.hall_is.objects
        (served_all hall.objects q queue_post queue_in.keeps (all_at (λ s. queue.HasEnded s.1) kinds.queues q queue_seat crew.queues_ended queue_is))

    queue_journal : slice_index_or run.queues q [] ≡ queue_post.served.journal
    queue_journal = map_at events_by kinds.queues q queue_seat [] queue_is

    queue_rows : map (λ (w : ℕ × WatchRow). w.1) (rows_of_watches queue_post.watches) ≡ rows_on q (setting_of script).watches
    queue_rows = ap (map (λ (w : ℕ × WatchRow). w.1)) queue_in.watches ∙ rows_alone (filter (is_on q) (setting_of script).watches)

    queue_whole : served_puts (setting_of script).objects (rows_of_watches queue_post.watches) queue_post.served.journal ≡ queue_puts (setting_of script) q (slice_index_or run.queues q [])
    queue_whole =
        ap (λ (rows : List WatchRow). puts (watched_puts_at (orders_by (setting_of script)) rows) queue_post.served.journal) queue_rows
        ∙ ap (queue_puts (setting_of script) q) (sym queue_journal)

    queue_bridge : IsEdge to_bridge.is_last (by_port (clients_of shape + publishers_of shape + q) run.bridge) (flat_map bridge_part (queue_puts (setting_of script) q (slice_index_or run.queues q [])))
    queue_bridge =
        edge_by to_bridge.is_last kinds.bridge.service.inlet.taker queue_post.ports.to_bridge (clients_of shape + publishers_of shape + q) run.bridge
        (flat_map bridge_part (queue_puts (setting_of script) q (slice_index_or run.queues q []))) bridge_taken
        queue_in.on_bridge.number_is (queue_served.bridge ∙ ap (flat_map bridge_part) queue_whole) (all_at (λ s. IsEdgeOf to_bridge.is_last kinds.bridge.service.inlet.taker s.1.ports.to_bridge) kinds.queues q queue_seat closed.queues_bridge queue_is)

    queue_timers : IsEdge to_timers.is_last (by_port (clients_of shape + q) run.timers) (flat_map timers_part (queue_puts (setting_of script) q (slice_index_or run.queues q [])))
    queue_timers =
        edge_by to_timers.is_last kinds.timers.service.inlet.taker queue_post.ports.to_timers (clients_of shape + q) run.timers
        (flat_map timers_part (queue_puts (setting_of script) q (slice_index_or run.queues q []))) timers_taken
        queue_in.on_timers.number_is (queue_served.timers ∙ ap (flat_map timers_part) queue_whole) (all_at (λ s. IsEdgeOf to_timers.is_last kinds.timers.service.inlet.taker s.1.ports.to_timers) kinds.queues q queue_seat closed.queues_timers queue_is)

    queue_taken : queue_post.inlet.taker.taken ≡ slice_index_or run.queues q []
    queue_taken = queue_served.taken ∙ sym queue_journal

    queue_from_bridge : IsEdge to_queue.is_last (by_port 0 (slice_index_or run.queues q [])) (flat_map (queue_part q) (bridge_puts shape run.bridge))
    queue_from_bridge =
        let port = found_at kinds.bridge.ports.queues q (subst (λ (n : ℕ). q < n) (sym crew.bridge.keeps.puts.queues.count_is) small) in
        let putting = crew.bridge.keeps.puts.queues.each q port.0 port.1 in
        let none : flat_map (queue_part q) kinds.bridge.service.left ≡ [] = ap (flat_map (queue_part q)) crew.bridge_ended.left in
        edge_by to_queue.is_last queue_post.inlet.taker port.0 0 (slice_index_or run.queues q []) (flat_map (queue_part q) (bridge_puts shape run.bridge)) queue_taken putting.number_is
        (put_whole port.0.put (flat_map (queue_part q) kinds.bridge.service.left) (flat_map (queue_part q) (bridge_puts shape run.bridge)) putting.put none)
        (zip_at (λ port s. IsEdgeOf to_queue.is_last s.1.inlet.taker port) kinds.bridge.ports.queues kinds.queues q port.0 queue_seat closed.bridge_queues port.1 queue_is)

    queue_from_timers : IsEdge to_queue.is_last (by_port 1 (slice_index_or run.queues q [])) (by_port q (timers_puts shape run.timers))
    queue_from_timers =
        let port = found_at kinds.timers.queues q (subst (λ (n : ℕ). q < n) (sym crew.timers.keeps.puts.count_is) small) in
        let putting = crew.timers.keeps.puts.each q port.0 port.1 in
        let none : by_port q kinds.timers.service.left ≡ [] = ap (by_port q) crew.timers_ended.left in
        edge_by to_queue.is_last queue_post.inlet.taker port.0 1 (slice_index_or run.queues q []) (by_port q (timers_puts shape run.timers)) queue_taken putting.number_is
        (put_whole port.0.put (by_port q kinds.timers.service.left) (by_port q (timers_puts shape run.timers)) putting.put none)
        (zip_at (λ port s. IsEdgeOf to_queue.is_last s.1.inlet.taker port) kinds.timers.queues kinds.queues q port.0 queue_seat closed.timers_queues port.1 queue_is)

    queue_from_nobody : (port : ℕ) → 1 < port → by_port port (slice_index_or run.queues q []) ≡ []
    queue_from_nobody port past =
        ap (by_port port) (sym queue_taken)
        ∙ none_past 2 port queue_post.inlet.taker.taken (All-weaker (λ (e : ℕ × QueueNote). e.0 ≤ queue_port_of_timers) (λ (e : ℕ × QueueNote). e.0 < 2) (λ e small. omega arith) queue_post.inlet.taker.taken queue_in.keeps.lawful.ports) (omega arith)

    queue_edge : (port : ℕ) → IsEdge to_queue.is_last (by_port port (slice_index_or run.queues q [])) (put_on_queue shape run.bridge run.timers q (queue_putter port))
    queue_edge port =
        by_queue_port (λ n who. IsEdge to_queue.is_last (by_port n (slice_index_or run.queues q [])) (put_on_queue shape run.bridge run.timers q who))
        queue_from_bridge queue_from_timers
        (λ n past. edge_of_none to_queue.is_last (by_port n (slice_index_or run.queues q [])) (queue_from_nobody n past)) port

    queue_told : (port : ℕ) → port ≤ queue_port_of_timers → list_any to_queue.is_last (by_port port (slice_index_or run.queues q [])) ≡ true
    queue_told port within = ap (λ (j : List (ℕ × QueueNote)). list_any to_queue.is_last (by_port port j)) queue_journal ∙ queue_served.told port within

  -- ---- all edges

  bridge_timers : IsEdge to_timers.is_last (by_port (clients_of shape + queues_of shape) run.timers) (flat_map timer_part (bridge_puts shape run.bridge))
  bridge_timers =
      let putting = crew.bridge.keeps.puts.timers in
      let none : flat_map timer_part kinds.bridge.service.left ≡ [] = ap (flat_map timer_part) crew.bridge_ended.left in
      edge_by to_timers.is_last kinds.timers.service.inlet.taker kinds.bridge.ports.timers (clients_of shape + queues_of shape) run.timers (flat_map timer_part (bridge_puts shape run.bridge)) timers_taken putting.number_is
      (put_whole kinds.bridge.ports.timers.put (flat_map timer_part kinds.bridge.service.left) (flat_map timer_part (bridge_puts shape run.bridge)) putting.put none)
      closed.bridge_timers

  gathered : ClientPutsAreItsOwn → AreGathered script run
  gathered law = record {
    bridge = λ port.
        by_bridge_port shape (λ n who. IsEdge to_bridge.is_last (by_port n run.bridge) (put_on_bridge (setting_of script) (client_puts script run.clients) run.publishers run.queues who))
        (client_bridge law) publisher_bridge queue_bridge
        (λ n past. edge_of_none to_bridge.is_last (by_port n run.bridge) (service_none shape (bridge_ports shape) n bridge.MayCome (bridge.is_over shape) kinds.bridge.service crew.bridge.keeps.takes bridge_taken past))
        port;
    timers = λ port.
        by_timers_port shape (λ n who. IsEdge to_timers.is_last (by_port n run.timers) (put_on_timers (setting_of script) (client_puts script run.clients) run.queues run.bridge who))
        (client_timers law) queue_timers bridge_timers
        (λ n past. edge_of_none to_timers.is_last (by_port n run.timers) (service_none shape (timers_ports shape) n timers.MayCome (timers.is_over shape) kinds.timers.service crew.timers.keeps.takes timers_taken (omega arith)))
        port;
    publishers = λ p small. publisher_edge p (subst (λ (n : ℕ). p < n) (sym publishers_count) small);
    queues = queue_edge;
  }

  ended : BridgesEndByByes → TimersEndByByes → HaveEnded script run
  ended bridges services = record {
    publishers = λ p small. publisher_told p (subst (λ (n : ℕ). p < n) (sym publishers_count) small);
    queues = queue_told;
    bridge = bridges shape run.bridge bridge_over;
    timers = services shape run.timers timers_over;
  }

  did : HaveDoneLines script run
  did = record {
    clients = clients_read;
    own = λ p small. publisher_own p (subst (λ (n : ℕ). p < n) (sym publishers_count) small);
    stops = λ p small. publisher_stops p (subst (λ (n : ℕ). p < n) (sym publishers_count) small);
  }

  shaped : IsShapedFor script run
  shaped = record {
    publishers = length-map kinds.publishers entries_by ∙ numbered_len (λ s. s.0) kinds.publishers (publishers_of shape) crew.publisher_numbers ∙ publishers_count;
    queues = length-map kinds.queues events_by ∙ numbered_len (λ s. s.0) kinds.queues (queues_of shape) crew.queue_numbers;
    moments = clients_read;
  }

  pub legal_record : ClientPutsAreItsOwn → BridgesEndByByes → TimersEndByByes → GatheredDoLines → GatheredIsLegal → IsLegal script run
  legal_record own bridges services lines law =
      let taken = gathered own in
      let end = ended bridges services in
      law script run orderly shaped (lines script run orderly did taken end) taken end (record { calls = refl; images = refl }) (record { groups = refl; watches = refl })
