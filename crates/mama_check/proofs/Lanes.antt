-- What was put on each lane, by all who put there.
use Rattle.std.proofs.Common.{◌≡◌, ℕ, zero, suc, ◌+◌, ◌<◌, ◌≤◌, inl, inr, List, [], ◌∷◌, ◌++◌, length, map, get_or, refl, ap, sym, subst, ◌∙◌, arith}
use Rattle.std.specs.Prelude.{◌==◌, filter, slice_index_or}
use Rattle.std.specs.List.{flat_map}
use Rattle.std.proofs.lemmas.Bool.{cond-true, cond-false, cases_Bool}
use Rattle.std.proofs.lemmas.List.{length-map, length-append, get_or-map, get_or_past, get_or_append_left, get_or-append-add}
use Rattle.mama_journal.specs.Journal.{puts}
use Rattle.mama_journal.specs.Lane.{by_port}
use Rattle.mama_event.specs.declared.shape.Shape.{Shape}
use Rattle.mama_event.specs.declared.to_bridge.BridgeNote.{BridgeNote}
use Rattle.mama_event.specs.declared.to_timers.TimersNote.{TimersNote}
use Rattle.mama_event.specs.declared.to_queue.QueueNote.{QueueNote}
use Rattle.mama_event.specs.Ports.{clients_of, publishers_of, queues_of}
use Rattle.mama_event.specs.Publisher.{publisher_puts_at}
use Rattle.mama_check_order.specs.Numbered.{second, numbered, parted, steps_numbered}
use Rattle.mama_check_order.proofs.Numbered.{numbered_puts, steps_puts, parted_puts}
use Rattle.mama_rules_services.specs.Bridge.{BridgePut, bridge_puts_at}
use Rattle.mama_rules_services.specs.Bridge as bridge
use Rattle.mama_rules_services.specs.Timers.{timers_puts_at}
use Rattle.mama_rules_services.specs.Timers as timing
use Rattle.mama_rules_services.specs.Ports.{Putter, bridge_putter, timers_putter, queue_putter}
use Rattle.mama_rules_queue.specs.Queue.{QueuePut}
use Rattle.mama_script.specs.declared.client.ClientLine.{ClientLine}
use Rattle.mama_script.specs.Script.{ScriptData}
use Rattle.mama_script.specs.Tree.{IsShaped, topic_of_part}
use Rattle.mama_record.specs.RunData.{RunData}
use Rattle.mama_rules_rounds.specs.Client.{Planned, at_first, client_steps, bridge_part, timers_part}
use Rattle.mama_rules_rounds.specs.Setting.{Setting, Watched, no_section, is_on, rows_on, puts_on, queue_part, timer_part}
use Rattle.mama_rules_rounds.specs.Sections.{all_client_steps, setting_of}
use Rattle.mama_rules_legal.specs.Edges.{all_steps, client_puts, queue_puts, put_on_bridge, put_on_timers, put_on_queue}
use Rattle.mama_journal.specs.EntryLaws.{by_entries, puts-push}
use Rattle.mama_laws_legal.proofs.Putters.{by_bridge_port, by_timers_port, by_queue_port, bridge_puts-push, timers_puts-push}
use Rattle.mama_check_order.specs.Taken.{put_by}
use Rattle.mama_check_puts.specs.Puts.{AreLists, tick_part, timers_put_to, bridge_put_to_queue, bridge_put_to_timers}
use Rattle.mama_check_puts.specs.Client.{line_puts}
use Rattle.mama_check_puts.specs.declared.client.ClientPuts.{ClientPuts}
use Rattle.mama_check_queue.specs.Served.{ServedData, rows_in, puts_in, bridge_puts, timers_puts}
use Rattle.mama_check.specs.Puts.{to_bridge_in, to_timers_in, client_to_bridge, client_to_timers, publisher_to_bridge, AreClientPuts, AreServed}
use Rattle.mama_event.specs.declared.watch.WatchRow.{WatchRow}
use Rattle.mama_plans.specs.Lists.{watch_row, watches_on}
use Rattle.mama_check.proofs.NumberLemmas.{on_at}
use Rattle.mama_check.proofs.PutLists.{lines_are_steps}

-- ---- three groups of lists, one after another

pub record AreParts {V : Type 0} (lists : List (List V)) (a b d : ℕ) (f g h : ℕ → List V) : Type 0 where
  pub first : (k : ℕ) → k < a → slice_index_or lists k [] ≡ f k
  pub middle : (k : ℕ) → k < b → slice_index_or lists (a + k) [] ≡ g k
  pub last : (k : ℕ) → k < d → slice_index_or lists (a + b + k) [] ≡ h k
  pub past : (k : ℕ) → a + b + d ≤ k → slice_index_or lists k [] ≡ []

pub parts : {V : Type 0} (xs ys zs : List (List V)) (a b d : ℕ) (f g h : ℕ → List V) → AreLists xs a f → AreLists ys b g → AreLists zs d h → AreParts ((xs ++ ys) ++ zs) a b d f g h
parts {V} xs ys zs a b d f g h are_xs are_ys are_zs =
    let na : length xs ≡ a = are_xs.as_many in
    let nb : length ys ≡ b = are_ys.as_many in
    let nd : length zs ≡ d = are_zs.as_many in
    let two : length (xs ++ ys) ≡ length xs + length ys = length-append xs ys in
    let three : length ((xs ++ ys) ++ zs) ≡ length (xs ++ ys) + length zs = length-append (xs ++ ys) zs in
    record {
      first = λ k low.
          let inside : k < length xs = omega arith in
          let within : k < length (xs ++ ys) = omega arith in
          get_or_append_left (xs ++ ys) zs [] k within ∙ get_or_append_left xs ys [] k inside ∙ are_xs.each k low;
      middle = λ k low.
          let within : a + k < length (xs ++ ys) = omega arith in
          get_or_append_left (xs ++ ys) zs [] (a + k) within
          ∙ ap (λ (n : ℕ). slice_index_or (xs ++ ys) (n + k) []) (sym na)
          ∙ get_or-append-add xs ys k []
          ∙ are_ys.each k low;
      last = λ k low.
          let both : a + b ≡ length (xs ++ ys) = omega arith in
          ap (λ (n : ℕ). slice_index_or ((xs ++ ys) ++ zs) (n + k) []) both
          ∙ get_or-append-add (xs ++ ys) zs k []
          ∙ are_zs.each k low;
      past = λ k high.
          let beyond : length ((xs ++ ys) ++ zs) ≤ k = omega arith in
          get_or_past ((xs ++ ys) ++ zs) k [] beyond;
    }

-- ---- without the numbers of the entries

-- the steps of a client
pub steps_at : (queues n : ℕ) (moments : List (List ℕ)) (clients : List (List ClientLine)) (c : ℕ) → c < length clients
    → slice_index_or (all_client_steps queues n moments clients) c [] ≡ client_steps queues (n + c) (slice_index_or moments (n + c) []) (slice_index_or clients c [])
steps_at queues n moments [] c h = absurd (omega (arith, h))
steps_at queues n moments (ls ∷ rest) zero h =
    let same : n ≡ n + 0 = omega arith in
    ap (λ (m : ℕ). client_steps queues m (slice_index_or moments m []) ls) same
steps_at queues n moments (ls ∷ rest) (suc c) h =
    let later : c < length rest = omega arith in
    let place : suc n + c ≡ n + suc c = omega arith in
    steps_at queues (suc n) moments rest c later ∙ ap (λ (m : ℕ). client_steps queues m (slice_index_or moments m []) (slice_index_or rest c [])) place

-- what a client put one way
pub client_part : {V : Type 0} (part : QueuePut → List V) (script : ScriptData) (run : RunData) (c : ℕ) → c < length script.clients
    → map second (parted part (steps_numbered (line_puts (queues_of script.shape) c (slice_index_or run.clients c []) (slice_index_or script.clients c [])))) ≡ flat_map part (client_puts script run.clients c)
client_part part script run c within =
    let queues : ℕ = queues_of script.shape in
    let lines : List ClientLine = slice_index_or script.clients c [] in
    let same : 0 + c ≡ c = omega arith in
    let steps : client_steps queues c (slice_index_or run.clients c []) lines ≡ slice_index_or (all_client_steps queues 0 run.clients script.clients) c [] =
    ap (λ (m : ℕ). client_steps queues m (slice_index_or run.clients m []) lines) (sym same) ∙ sym (steps_at queues 0 run.clients script.clients c within) in
    parted_puts part (steps_numbered (line_puts queues c (slice_index_or run.clients c []) lines))
    ∙ ap (λ (ps : List QueuePut). flat_map part ps)
    (steps_puts (line_puts queues c (slice_index_or run.clients c []) lines) ∙ lines_are_steps queues c (at_first (slice_index_or run.clients c [])) lines ∙ ap (λ (ss : List (List QueuePut)). all_steps ss) steps)

-- what the bridge put, and what the timer service put, entry by entry
pub bridge_entries : (shape : Shape) (journal : List (ℕ × BridgeNote)) → puts (bridge_puts_at shape) journal ≡ bridge.bridge_puts shape journal
bridge_entries shape journal =
    by_entries (λ (js : List (ℕ × BridgeNote)). puts (bridge_puts_at shape) js ≡ bridge.bridge_puts shape js) refl
    (λ js e so_far. puts-push (bridge_puts_at shape) js e ∙ ap (λ (ps : List BridgePut). ps ++ bridge_puts_at shape js e) so_far ∙ sym (bridge_puts-push shape js e)) journal

pub timers_entries : (shape : Shape) (journal : List (ℕ × TimersNote)) → puts (timers_puts_at shape) journal ≡ timing.timers_puts shape journal
timers_entries shape journal =
    by_entries (λ (js : List (ℕ × TimersNote)). puts (timers_puts_at shape) js ≡ timing.timers_puts shape js) refl
    (λ js e so_far. puts-push (timers_puts_at shape) js e ∙ ap (λ (ps : List (ℕ × QueueNote)). ps ++ timers_puts_at shape js e) so_far ∙ sym (timers_puts-push shape js e)) journal

-- what the bridge put one way
pub bridge_way : {V : Type 0} (part : BridgePut → List V) (shape : Shape) (journal : List (ℕ × BridgeNote))
    → map second (parted part (numbered (bridge_puts_at shape) journal)) ≡ flat_map part (bridge.bridge_puts shape journal)
bridge_way part shape journal =
    parted_puts part (numbered (bridge_puts_at shape) journal)
    ∙ ap (λ (ps : List BridgePut). flat_map part ps) (numbered_puts (bridge_puts_at shape) journal ∙ bridge_entries shape journal)

ticks_by_port : (q : ℕ) (outs : List (ℕ × QueueNote)) → flat_map (tick_part q) outs ≡ by_port q outs
ticks_by_port q [] = refl
ticks_by_port q (e ∷ es) =
    elim (cases_Bool (e.0 == q)) [
      | inl here ↦
          ap (λ (vs : List QueueNote). vs ++ flat_map (tick_part q) es) (cond-true (e.0 == q) (e.1 ∷ []) [] here)
          ∙ ap (λ (vs : List QueueNote). e.1 ∷ vs) (ticks_by_port q es)
          ∙ sym (cond-true (e.0 == q) (e.1 ∷ by_port q es) (by_port q es) here)
      | inr apart ↦
          ap (λ (vs : List QueueNote). vs ++ flat_map (tick_part q) es) (cond-false (e.0 == q) (e.1 ∷ []) [] apart)
          ∙ ticks_by_port q es
          ∙ sym (cond-false (e.0 == q) (e.1 ∷ by_port q es) (by_port q es) apart)
    ]

-- what the timer service put to a queue
pub timers_way : (shape : Shape) (journal : List (ℕ × TimersNote)) (q : ℕ) → map second (timers_put_to shape journal q) ≡ by_port q (timing.timers_puts shape journal)
timers_way shape journal q =
    parted_puts (tick_part q) (numbered (timers_puts_at shape) journal)
    ∙ ap (λ (ps : List (ℕ × QueueNote)). flat_map (tick_part q) ps) (numbered_puts (timers_puts_at shape) journal ∙ timers_entries shape journal)
    ∙ ticks_by_port q (timing.timers_puts shape journal)

-- ---- queues that were served again

abbrev pub way_of : {V : Type 0} → (QueuePut → List V) → ServedData → List (ℕ × V)
way_of part s = parted part (puts_in s.objects (rows_in s) s.journal)

abbrev pub queue_way : {V : Type 0} → (QueuePut → List V) → ScriptData → RunData → ℕ → List (ℕ × V)
queue_way part script run q = parted part (puts_in (setting_of script).objects (rows_on q (setting_of script).watches) (slice_index_or run.queues q []))

rows_are : (ws : List Watched) → map (λ (w : ℕ × WatchRow). w.1) (map watch_row ws) ≡ map (λ (w : Watched). w.row) ws
rows_are [] = refl
rows_are (w ∷ ws) = ap (λ (rows : List WatchRow). w.row ∷ rows) (rows_are ws)

pub served_lists : {V : Type 0} (part : QueuePut → List V) (script : ScriptData) (run : RunData) (served : List ServedData) → AreServed script run served → length run.queues ≡ queues_of script.shape
    → AreLists (map (way_of part) served) (queues_of script.shape) (queue_way part script run)
served_lists {V} part script run served are many =
    let js : ServedData → List (ℕ × QueueNote) = λ s. s.journal in
    let setting : Setting = setting_of script in
    let objects : List Planned = setting.objects in
    let nobody : ServedData = record { objects = objects; groups = []; watches = []; journal = [] } in
    let as_journals : length (map js served) ≡ length served = length-map served js in
    let as_lists : length (map (way_of part) served) ≡ length served = length-map served (way_of part) in
    let is_many : length (map js served) ≡ length run.queues = ap (λ (xs : List (List (ℕ × QueueNote))). length xs) are.journals in
    record {
      as_many = as_lists ∙ sym as_journals ∙ is_many ∙ many;
      each = λ q low.
          let inside : q < length served = omega arith in
          let own : (get_or served q nobody).objects ≡ objects = are.objects q nobody inside in
          let journal : (get_or served q nobody).journal ≡ slice_index_or run.queues q [] = sym (get_or-map js served q nobody [] inside) ∙ ap (λ (xs : List (List (ℕ × QueueNote))). slice_index_or xs q []) are.journals in
          let watches : (get_or served q nobody).watches ≡ watches_on setting.watches q =
          sym (get_or-map (λ (s : ServedData). s.watches) served q nobody [] inside) ∙ ap (λ (ls : List (List (ℕ × WatchRow))). slice_index_or ls q []) are.watches
          ∙ on_at (watches_on setting.watches) (queues_of script.shape) q low in
          let rows : rows_in (get_or served q nobody) ≡ rows_on q setting.watches = ap (map (λ (w : ℕ × WatchRow). w.1)) watches ∙ rows_are (filter (is_on q) setting.watches) in
          get_or-map (way_of part) served q nobody [] inside
          ∙ ap (λ (os : List Planned). parted part (puts_in os (rows_in (get_or served q nobody)) (get_or served q nobody).journal)) own
          ∙ ap (λ (rs : List WatchRow). parted part (puts_in objects rs (get_or served q nobody).journal)) rows
          ∙ ap (λ (j : List (ℕ × QueueNote)). parted part (puts_in objects (rows_on q setting.watches) j)) journal;
    }

pub queue_part_put : {V : Type 0} (part : QueuePut → List V) (script : ScriptData) (run : RunData) (q : ℕ)
    → map second (queue_way part script run q) ≡ flat_map part (queue_puts (setting_of script) q (slice_index_or run.queues q []))
queue_part_put part script run q =
    parted_puts part (puts_in (setting_of script).objects (rows_on q (setting_of script).watches) (slice_index_or run.queues q []))
    ∙ ap (λ (ps : List QueuePut). flat_map part ps) (numbered_puts (puts_on (setting_of script) q) (slice_index_or run.queues q []))

-- ---- the lanes

-- as many publishers as their topics
pub publishers_are : (script : ScriptData) → IsShaped script → publishers_of script.shape ≡ length script.publishers
publishers_are script shaped = ap (λ (ts : List ℕ). length ts) shaped.publishers ∙ length-map script.publishers topic_of_part

pub bridge_lane : (script : ScriptData) (run : RunData) (clients : List ClientPuts) (publishers : List (List (ℕ × BridgeNote))) (served : List ServedData) (lists : List (List (ℕ × BridgeNote)))
    → IsShaped script → length run.queues ≡ queues_of script.shape → AreClientPuts script run clients → AreLists publishers (length script.publishers) (publisher_to_bridge script run) → AreServed script run served
    → lists ≡ (to_bridge_in clients ++ publishers) ++ map bridge_puts served
    → (port : ℕ) → put_by lists port ≡ put_on_bridge (setting_of script) (client_puts script run.clients) run.publishers run.queues (bridge_putter script.shape port)
bridge_lane script run clients publishers served lists shaped many are_clients are_publishers are_served is =
    let strip : List (ℕ × BridgeNote) → List BridgeNote = λ xs. map second xs in
    let all : AreParts ((to_bridge_in clients ++ publishers) ++ map bridge_puts served) (length script.clients) (length script.publishers) (queues_of script.shape) (client_to_bridge script run) (publisher_to_bridge script run) (queue_way bridge_part script run) =
    parts (to_bridge_in clients) publishers (map bridge_puts served) (length script.clients) (length script.publishers) (queues_of script.shape)
    (client_to_bridge script run) (publisher_to_bridge script run) (queue_way bridge_part script run) are_clients.bridge are_publishers (served_lists bridge_part script run served are_served many) in
    let here : AreParts lists (length script.clients) (length script.publishers) (queues_of script.shape) (client_to_bridge script run) (publisher_to_bridge script run) (queue_way bridge_part script run) =
    subst (λ (ls : List (List (ℕ × BridgeNote))). AreParts ls (length script.clients) (length script.publishers) (queues_of script.shape) (client_to_bridge script run) (publisher_to_bridge script run) (queue_way bridge_part script run)) (sym is) all in
    let cs : clients_of script.shape ≡ length script.clients = shaped.clients in
    let ps : publishers_of script.shape ≡ length script.publishers = publishers_are script shaped in
    by_bridge_port script.shape (λ (port : ℕ) (putter : Putter). put_by lists port ≡ put_on_bridge (setting_of script) (client_puts script run.clients) run.publishers run.queues putter)
    (λ c low. let within : c < length script.clients = omega arith in ap strip (here.first c within) ∙ client_part bridge_part script run c within)
    (λ p low.
    let within : p < length script.publishers = omega arith in
    let place : clients_of script.shape + p ≡ length script.clients + p = omega arith in
    ap (λ (n : ℕ). put_by lists n) place ∙ ap strip (here.middle p within) ∙ numbered_puts (publisher_puts_at (slice_index_or (setting_of script).publishers p no_section)) (slice_index_or run.publishers p []))
    (λ q low.
    let place : clients_of script.shape + publishers_of script.shape + q ≡ length script.clients + length script.publishers + q = omega arith in
    ap (λ (n : ℕ). put_by lists n) place ∙ ap strip (here.last q low) ∙ queue_part_put bridge_part script run q)
    (λ port high. let beyond : length script.clients + length script.publishers + queues_of script.shape ≤ port = omega arith in ap strip (here.past port beyond))

one_list : {V : Type 0} (xs : List V) → AreLists (xs ∷ []) 1 (λ k. xs)
one_list {V} xs = record { as_many = refl; each = at }
  where
    at : (n : ℕ) → n < 1 → slice_index_or (xs ∷ []) n [] ≡ xs
    at zero low = refl
    at (suc n) low = absurd (omega (arith, low))

pub timers_lane : (script : ScriptData) (run : RunData) (clients : List ClientPuts) (served : List ServedData) (ticking : List (ℕ × TimersNote)) (lists : List (List (ℕ × TimersNote)))
    → IsShaped script → length run.queues ≡ queues_of script.shape → AreClientPuts script run clients → AreServed script run served → ticking ≡ bridge_put_to_timers script.shape run.bridge
    → lists ≡ (to_timers_in clients ++ map timers_puts served) ++ ticking ∷ []
    → (port : ℕ) → put_by lists port ≡ put_on_timers (setting_of script) (client_puts script run.clients) run.queues run.bridge (timers_putter script.shape port)
timers_lane script run clients served ticking lists shaped many are_clients are_served are_ticking is =
    let strip : List (ℕ × TimersNote) → List TimersNote = λ xs. map second xs in
    let all : AreParts ((to_timers_in clients ++ map timers_puts served) ++ ticking ∷ []) (length script.clients) (queues_of script.shape) 1 (client_to_timers script run) (queue_way timers_part script run) (λ k. ticking) =
    parts (to_timers_in clients) (map timers_puts served) (ticking ∷ []) (length script.clients) (queues_of script.shape) 1
    (client_to_timers script run) (queue_way timers_part script run) (λ k. ticking) are_clients.timers (served_lists timers_part script run served are_served many) (one_list ticking) in
    let here : AreParts lists (length script.clients) (queues_of script.shape) 1 (client_to_timers script run) (queue_way timers_part script run) (λ k. ticking) =
    subst (λ (ls : List (List (ℕ × TimersNote))). AreParts ls (length script.clients) (queues_of script.shape) 1 (client_to_timers script run) (queue_way timers_part script run) (λ k. ticking)) (sym is) all in
    let cs : clients_of script.shape ≡ length script.clients = shaped.clients in
    by_timers_port script.shape (λ (port : ℕ) (putter : Putter). put_by lists port ≡ put_on_timers (setting_of script) (client_puts script run.clients) run.queues run.bridge putter)
    (λ c low. let within : c < length script.clients = omega arith in ap strip (here.first c within) ∙ client_part timers_part script run c within)
    (λ q low.
    let place : clients_of script.shape + q ≡ length script.clients + q = omega arith in
    ap (λ (n : ℕ). put_by lists n) place ∙ ap strip (here.middle q low) ∙ queue_part_put timers_part script run q)
    (let place : clients_of script.shape + queues_of script.shape ≡ length script.clients + queues_of script.shape + 0 = omega arith in
    let low : 0 < 1 = omega arith in
    ap (λ (n : ℕ). put_by lists n) place ∙ ap strip (here.last 0 low) ∙ ap strip are_ticking ∙ bridge_way timer_part script.shape run.bridge)
    (λ port high. let beyond : length script.clients + queues_of script.shape + 1 ≤ port = omega arith in ap strip (here.past port beyond))

pub queue_lane : (script : ScriptData) (run : RunData) (q : ℕ) (from_bridge from_timers : List (ℕ × QueueNote)) (lists : List (List (ℕ × QueueNote)))
    → from_bridge ≡ bridge_put_to_queue script.shape run.bridge q → from_timers ≡ timers_put_to script.shape run.timers q → lists ≡ from_bridge ∷ from_timers ∷ []
    → (port : ℕ) → put_by lists port ≡ put_on_queue script.shape run.bridge run.timers q (queue_putter port)
queue_lane script run q from_bridge from_timers lists are_bridge are_timers is =
    let strip : List (ℕ × QueueNote) → List QueueNote = λ xs. map second xs in
    let look : ℕ → List (List (ℕ × QueueNote)) → List QueueNote = λ n ls. put_by ls n in
    by_queue_port (λ (port : ℕ) (putter : Putter). put_by lists port ≡ put_on_queue script.shape run.bridge run.timers q putter)
    (ap (look 0) is ∙ ap strip are_bridge ∙ bridge_way (queue_part q) script.shape run.bridge)
    (ap (look 1) is ∙ ap strip are_timers ∙ timers_way script.shape run.timers q)
    (λ port high. ap (look port) is ∙ ap strip (get_or_past (from_bridge ∷ from_timers ∷ []) port [] high))

-- where all ports put the same, the same edges are whole
pub same_lane : {N : Type 0} (whole : Type 0) (journal : List (ℕ × N)) (put other : ℕ → List N) → ((port : ℕ) → put port ≡ other port)
    → ((port : ℕ) → by_port port journal ≡ put port) → (port : ℕ) → by_port port journal ≡ other port
same_lane whole journal put other same h port = h port ∙ same port
