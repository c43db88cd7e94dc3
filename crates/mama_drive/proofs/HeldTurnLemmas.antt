-- A turn of one actor, where what it puts is held.
use Rattle.std.proofs.Common.{◌≡◌, ℕ, ◌<◌, List, [], ◌∷◌, ◌++◌, map, length, get_or, refl, sym, ◌∙◌, ap, subst}
use Rattle.std.specs.Prelude.{Bool, Option, None}
use Rattle.std.specs.List.{flat_map}
use Rattle.std.proofs.Math.ListN.{set}
use Rattle.mama_event.specs.Ports.{queues_of, bridge_port_of_publisher, bridge_port_of_queue, timers_port_of_queue}
use Rattle.mama_journal.specs.Lane.{from_port}
use Rattle.mama_event.specs.declared.ids.ObjectId.{ObjectId}
use Rattle.mama_event.specs.declared.to_bridge.ToBridge.{ToBridge}
use Rattle.mama_event.specs.declared.to_bridge.BridgeNote.{BridgeNote}
use Rattle.mama_event.specs.declared.to_timers.TimersNote.{TimersNote}
use Rattle.mama_event.specs.declared.to_queue.QueueNote.{QueueNote}
use Rattle.mama_rules_services.specs.Bridge.{BridgePut, bridge_puts_at}
use Rattle.mama_rules_services.specs.Timers.{timers_puts_at}
use Rattle.mama_rules_queue.specs.Queue.{QueuePut}
use Rattle.mama_rules_rounds.specs.Client.{bridge_part, timers_part}
use Rattle.mama_rules_rounds.specs.World.{bridge_turn, bridge_took, timers_turn, timers_took, publisher_turn, queue_turn}
use Rattle.mama_rules_rounds.specs.Stage.{client_step, publisher_step}
use Rattle.mama_seats.specs.Sender.{Sender, taken, taken_puts, IsSenderStep}
use Rattle.mama_seats.specs.Stand.{Stand, IsStep, IsReading}
use Rattle.mama_seats.specs.Server.{Server, served, served_puts, all_told}
use Rattle.mama_timeout.specs.Table.{event_puts}
use Rattle.mama_plans.specs.Put.{own_tag}
use Rattle.mama_plans.specs.Lists.{watches_on_each}
use Rattle.mama_seats.specs.Waiting.{Queued, waits}
use Rattle.mama_drive.specs.Scene.{Scene, Moves, Advances, Stepped, setting_in, world_in, objects_in, watches_in, spread, spread_ticks}
use Rattle.mama_drive.specs.Heard.{Hears, StepRead}
use Rattle.mama_drive.specs.Held.{lay_put, lay_tick, lay_event, lay_out, lay_wish, lay_told, lay_all}
use Rattle.mama_drive.specs.Seat.{ServiceSeat, took, took_puts}
use Rattle.mama_drive.proofs.LaneLemmas.{spread_nil, ticks_nil}
use Rattle.mama_drive.proofs.HeldLemmas.{puts_move, ticks_move, events_laid, outs_laid, laid_more, wish_laid, changed_set}
use Rattle.mama_drive.proofs.SceneLemmas.{sender_turned_to, put_all_to}
use Rattle.mama_drive.proofs.ServerLemmas.{queue_turned_to}
use Rattle.mama_drive.proofs.StageLemmas.{client_stepped_to, sender_stepped_to}
use Rattle.mama_drive.proofs.ClockLemmas.{step_heard}

-- what waits is all that an outbox has
pub all_wait : {T V : Type 0} → (f : List T → List V) (w : Queued T) (events : List T) → w ≡ record { apart = None; rest = events } → f (waits w) ≡ f events
all_wait {T} f w events is = ap (λ (q : Queued T). f (waits q)) is

-- the bridge takes the first event of its lane, if there is one
bridge_took_at : (s : Scene) (x : ServiceSeat BridgeNote) → x.shape ≡ s.shape → x.journal ≡ s.bridge → x.lane ≡ s.to_bridge → (lane : List (ℕ × BridgeNote))
    → spread (setting_in s) (took_puts bridge_puts_at x lane) (world_in (record s { bridge = (took x lane).journal; to_bridge = (took x lane).lane })) ≡ bridge_took (setting_in s) (world_in s) lane
bridge_took_at s x shape journal here [] =
    ap (λ j. spread (setting_in s) [] (world_in (record s { bridge = j; to_bridge = x.lane }))) journal
    ∙ ap (λ l. spread (setting_in s) [] (world_in (record s { to_bridge = l }))) here
    ∙ spread_nil (setting_in s) (world_in s)
bridge_took_at s x shape journal here (e ∷ rest) =
    ap (λ h. spread (setting_in s) (bridge_puts_at h x.journal e) (world_in (record s { bridge = x.journal ++ e ∷ []; to_bridge = rest }))) shape
    ∙ ap (λ j. spread (setting_in s) (bridge_puts_at s.shape j e) (world_in (record s { bridge = j ++ e ∷ []; to_bridge = rest }))) journal

pub bridge_turned : (s old : Scene) (x y : ServiceSeat BridgeNote) (outs left : List BridgePut) → s ≡ old → x.shape ≡ s.shape → x.journal ≡ s.bridge → x.lane ≡ s.to_bridge
    → y ≡ took x x.lane → outs ≡ took_puts bridge_puts_at x x.lane → left ≡ outs
    → Moves old (lay_all lay_put left (record s { bridge = y.journal; to_bridge = y.lane })) (bridge_turn (setting_in old) (world_in old))
bridge_turned s old x y outs left is shape journal here changed puts_are held =
    let moves = puts_move left (record s { bridge = y.journal; to_bridge = y.lane }) in
    subst (λ (o : Scene). Moves o (lay_all lay_put left (record s { bridge = y.journal; to_bridge = y.lane })) (bridge_turn (setting_in o) (world_in o))) is (record {
      setting = moves.setting;
      clients = moves.clients;
      steps = moves.steps;
      sender_count = moves.sender_count;
      server_count = moves.server_count;
      heard = moves.heard;
      now = moves.now
          ∙ ap (λ (z : ServiceSeat BridgeNote). spread (setting_in s) left (world_in (record s { bridge = z.journal; to_bridge = z.lane }))) changed
          ∙ ap (λ o. spread (setting_in s) o (world_in (record s { bridge = (took x x.lane).journal; to_bridge = (took x x.lane).lane }))) (held ∙ puts_are)
          ∙ bridge_took_at s x shape journal here x.lane
          ∙ ap (bridge_took (setting_in s) (world_in s)) here;
    })

-- the same of the timer service
timers_took_at : (s : Scene) (x : ServiceSeat TimersNote) → x.shape ≡ s.shape → x.journal ≡ s.timers → x.lane ≡ s.to_timers → (lane : List (ℕ × TimersNote))
    → spread_ticks (took_puts timers_puts_at x lane) (world_in (record s { timers = (took x lane).journal; to_timers = (took x lane).lane })) ≡ timers_took (setting_in s) (world_in s) lane
timers_took_at s x shape journal here [] =
    ap (λ j. spread_ticks [] (world_in (record s { timers = j; to_timers = x.lane }))) journal
    ∙ ap (λ l. spread_ticks [] (world_in (record s { to_timers = l }))) here
    ∙ ticks_nil (world_in s)
timers_took_at s x shape journal here (e ∷ rest) =
    ap (λ h. spread_ticks (timers_puts_at h x.journal e) (world_in (record s { timers = x.journal ++ e ∷ []; to_timers = rest }))) shape
    ∙ ap (λ j. spread_ticks (timers_puts_at s.shape j e) (world_in (record s { timers = j ++ e ∷ []; to_timers = rest }))) journal

pub timers_turned : (s old : Scene) (x y : ServiceSeat TimersNote) (outs left : List (ℕ × QueueNote)) → s ≡ old → x.shape ≡ s.shape → x.journal ≡ s.timers → x.lane ≡ s.to_timers
    → y ≡ took x x.lane → outs ≡ took_puts timers_puts_at x x.lane → left ≡ outs
    → Moves old (lay_all lay_tick left (record s { timers = y.journal; to_timers = y.lane })) (timers_turn (setting_in old) (world_in old))
timers_turned s old x y outs left is shape journal here changed puts_are held =
    let moves = ticks_move left (record s { timers = y.journal; to_timers = y.lane }) in
    subst (λ (o : Scene). Moves o (lay_all lay_tick left (record s { timers = y.journal; to_timers = y.lane })) (timers_turn (setting_in o) (world_in o))) is (record {
      setting = moves.setting;
      clients = moves.clients;
      steps = moves.steps;
      sender_count = moves.sender_count;
      server_count = moves.server_count;
      heard = moves.heard;
      now = moves.now
          ∙ ap (λ (z : ServiceSeat TimersNote). spread_ticks left (world_in (record s { timers = z.journal; to_timers = z.lane }))) changed
          ∙ ap (λ o. spread_ticks o (world_in (record s { timers = (took x x.lane).journal; to_timers = (took x x.lane).lane }))) (held ∙ puts_are)
          ∙ timers_took_at s x shape journal here x.lane
          ∙ ap (timers_took (setting_in s) (world_in s)) here;
    })

-- a publisher takes the first event of its lane
pub publisher_turned : (s old : Scene) (p port : ℕ) (x y : Sender) (puts left : List BridgeNote) → s ≡ old → p < length s.senders → x ≡ get_or s.senders p x
    → y ≡ taken x x.lane → puts ≡ taken_puts x x.lane → port ≡ bridge_port_of_publisher s.shape p → left ≡ puts
    → Moves old (lay_all (lay_event port) left (record s { senders = set s.senders p y })) (publisher_turn (setting_in old) p (world_in old))
publisher_turned s old p port x y puts left is within at changed puts_are from held =
    subst (λ (a : Scene). Moves old a (publisher_turn (setting_in old) p (world_in old))) (sym (events_laid port left (record s { senders = set s.senders p y })))
    (sender_turned_to s old p port x y left _ is within at changed (held ∙ puts_are) from refl)

-- a queue takes the first event of its lane, and its groups are told
queue_laid : (q bridge_port timers_port : ℕ) (y : Server) (mark : Bool) (left : List QueuePut) (wish : Option (ToBridge ObjectId)) (s : Scene) → q < length s.servers
    → lay_told q (lay_wish bridge_port wish (lay_all (lay_out bridge_port timers_port) left (record s { servers = set s.servers q y; ready = mark })))
    ≡ record s {
      servers = set s.servers q (all_told y);
      to_bridge = s.to_bridge ++ from_port bridge_port (flat_map bridge_part (left ++ event_puts own_tag wish));
      to_timers = s.to_timers ++ from_port timers_port (flat_map timers_part (left ++ event_puts own_tag wish));
      ready = mark;
    }
queue_laid q b t y mark left wish s within =
    let mid : Scene = record s { servers = set s.servers q y; ready = mark } in
    let all : List QueuePut = left ++ event_puts own_tag wish in
    ap (lay_told q) (sym (wish_laid b t wish (lay_all (lay_out b t) left mid)) ∙ sym (laid_more (lay_out b t) left (event_puts own_tag wish) mid) ∙ outs_laid b t all mid)
    ∙ ap (λ (l : List Server). record s {
      servers = l;
      to_bridge = s.to_bridge ++ from_port b (flat_map bridge_part all);
      to_timers = s.to_timers ++ from_port t (flat_map timers_part all);
      ready = mark;
    }) (changed_set all_told q s.servers y within)

pub queue_turned : (s old : Scene) (q bridge_port timers_port : ℕ) (x y : Server) (puts left : List QueuePut) (wish : Option (ToBridge ObjectId)) (mark : Bool) → s ≡ old → q < length s.servers → x ≡ get_or s.servers q x
    → map objects_in s.servers ≡ map (λ (o : Server). s.objects) s.servers → map watches_in s.servers ≡ watches_on_each (queues_of s.shape) s.watches → length s.servers ≡ queues_of s.shape
    → all_told y ≡ all_told (served x x.lane) → puts ++ event_puts own_tag wish ≡ served_puts x x.lane
    → bridge_port ≡ bridge_port_of_queue s.shape q → timers_port ≡ timers_port_of_queue s.shape q → left ≡ puts
    → Moves old (lay_told q (lay_wish bridge_port wish (lay_all (lay_out bridge_port timers_port) left (record s { servers = set s.servers q y; ready = mark }))))
    (queue_turn (setting_in old) q (world_in old))
queue_turned s old q b t x y puts left wish mark is within at shared watched count changed puts_are to_port timers_from held =
    subst (λ (a : Scene). Moves old a (queue_turn (setting_in old) q (world_in old))) (sym (queue_laid q b t y mark left wish s within))
    (queue_turned_to s old q b t x (all_told y) (left ++ event_puts own_tag wish) mark is within at shared watched count changed
    (ap (λ l. l ++ event_puts own_tag wish) held ∙ puts_are) to_port timers_from)

-- a client makes a step
pub client_stepped_held : (s old : Scene) (c : ℕ) (x new : Stand) (puts left : List QueuePut) → s ≡ old → c < length s.clients → x ≡ get_or s.clients c x
    → IsStep x new puts → left ≡ puts
    → Advances (Stepped client_step c) old (lay_all (lay_out c c) left (record s { clients = set s.clients c new }))
client_stepped_held s old c x new puts left is within at step held =
    let mid : Scene = record s { clients = set s.clients c new } in
    subst (λ (l : List QueuePut). Advances (Stepped client_step c) old (lay_all (lay_out c c) l mid)) (sym held)
    (subst (λ (a : Scene). Advances (Stepped client_step c) old a) (sym (outs_laid c c puts mid))
    (client_stepped_to s old mid _ c x new puts is within at step refl (put_all_to mid mid c c puts _ _ refl refl refl)))

pub client_heard_held : (s old : Scene) (c : ℕ) (x new : Stand) (puts left : List QueuePut) (o l : Option (List ℕ)) → s ≡ old → c < length s.clients → x ≡ get_or s.clients c x
    → IsStep x new puts → IsReading o l x new
    → Hears (StepRead c) o l old.clients (lay_all (lay_out c c) left (record s { clients = set s.clients c new })).clients
client_heard_held s old c x new puts left o l is within at step reading =
    subst (λ (b : Scene). Hears (StepRead c) o l b.clients (lay_all (lay_out c c) left (record s { clients = set s.clients c new })).clients) is
    (subst (Hears (StepRead c) o l s.clients) (sym (ap (λ (a : Scene). a.clients) (outs_laid c c left (record s { clients = set s.clients c new }))))
    (step_heard o l s.clients c x new within at step.read reading))

-- a publisher makes a step
pub sender_stepped_held : (s old : Scene) (p port : ℕ) (x new : Sender) (puts left : List BridgeNote) → s ≡ old → p < length s.senders → x ≡ get_or s.senders p x
    → IsSenderStep x new puts → port ≡ bridge_port_of_publisher s.shape p → left ≡ puts
    → Advances (Stepped publisher_step p) old (lay_all (lay_event port) left (record s { senders = set s.senders p new }))
sender_stepped_held s old p port x new puts left is within at step from held =
    subst (λ (l : List BridgeNote). Advances (Stepped publisher_step p) old (lay_all (lay_event port) l (record s { senders = set s.senders p new }))) (sym held)
    (sender_stepped_to s old _ p port x new puts _ is within at step from refl (events_laid port puts (record s { senders = set s.senders p new })))

pub sender_step_clients : (s old : Scene) (port : ℕ) (left : List BridgeNote) (senders : List Sender) → s ≡ old
    → (lay_all (lay_event port) left (record s { senders = senders })).clients ≡ old.clients
sender_step_clients s old port left senders is =
    ap (λ (a : Scene). a.clients) (events_laid port left (record s { senders = senders })) ∙ ap (λ (a : Scene). a.clients) is
