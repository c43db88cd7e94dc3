-- What is held, and the scene where it lies on its lanes.
use Rattle.std.proofs.Common.{◌≡◌, Bool, true, false, ℕ, zero, suc, ◌<◌, ◌≤◌, List, [], ◌∷◌, ◌++◌, map, length, get_or, refl, sym, ◌∙◌, ap, append_assoc, arith, subst}
use Rattle.std.specs.Prelude.{Option, None, Some}
use Rattle.std.specs.List.{flat_map}
use Rattle.std.proofs.Math.ListN.{set}
use Rattle.mama_journal.specs.Lane.{from_port}
use Rattle.mama_event.specs.Ports.{queue_port_of_bridge, queue_port_of_timers}
use Rattle.mama_event.specs.declared.ids.ObjectId.{ObjectId}
use Rattle.mama_event.specs.declared.to_bridge.ToBridge.{ToBridge}
use Rattle.mama_event.specs.declared.to_bridge.BridgeNote.{BridgeNote}
use Rattle.mama_event.specs.declared.to_queue.QueueNote.{QueueNote}
use Rattle.mama_event.specs.ToBridge.{note_of}
use Rattle.mama_rules_services.specs.Bridge.{BridgePut, to_publisher, to_queue}
use Rattle.mama_rules_services.specs.Bridge as bridge
use Rattle.mama_rules_queue.specs.Queue.{QueuePut}
use Rattle.mama_rules_queue.specs.Queue as queue
use Rattle.mama_rules_rounds.specs.Setting.{Setting}
use Rattle.mama_rules_rounds.specs.World.{World}
use Rattle.mama_rules_rounds.specs.Client.{bridge_part, timers_part}
use Rattle.mama_bridge.specs.Outs.{put_note}
use Rattle.mama_timer.specs.Out.{out_note}
use Rattle.mama_timeout.specs.Table.{event_puts}
use Rattle.mama_plans.specs.Put.{own_tag, notes_of}
use Rattle.mama_seats.specs.Sender.{steps_in}
use Rattle.mama_drive.specs.declared.held.Held.{Held}
use Rattle.mama_drive.specs.declared.held.Held.TheVariants as held
use Rattle.mama_drive.specs.Scene.{Scene, Moves, setting_in, world_in, script_in, entries_in, lane_in, journal_in, heard_in, waiting_in, put_on, spread, spread_one, spread_ticks, tick_one}
use Rattle.mama_seats.specs.Waiting.{waits}
use Rattle.mama_drive.specs.Held.{changed_at, with_note, with_event, lay_put, lay_tick, lay_event, lay_out, lay_wish, lay_told, lay_untold, lay_all, seen}
use Rattle.mama_drive.proofs.LaneLemmas.{append_nil, spread_nil, spread_cons, ticks_nil, ticks_cons}
use Rattle.mama_drive.proofs.SceneLemmas.{moves_none, moves_then}

-- AN ELEMENT CHANGED

pub set_changed : {A : Type 0} → (change : A → A) (n : ℕ) (xs : List A) (x : A) → n < length xs → x ≡ get_or xs n x → set xs n (change x) ≡ changed_at change n xs
set_changed change n [] x within is = refl
set_changed change zero (y ∷ ys) x within is = ap (λ z. change z ∷ ys) is
set_changed change (suc n) (y ∷ ys) x within is = ap (λ l. y ∷ l) (set_changed change n ys x (omega arith) is)

pub past_changed : {A : Type 0} → (change : A → A) (n : ℕ) (xs : List A) → length xs ≤ n → xs ≡ changed_at change n xs
past_changed change n [] past = refl
past_changed change zero (y ∷ ys) past = absurd (omega arith)
past_changed change (suc n) (y ∷ ys) past = ap (λ l. y ∷ l) (past_changed change n ys (omega arith))

pub changed_set : {A : Type 0} → (change : A → A) (n : ℕ) (xs : List A) (y : A) → n < length xs → changed_at change n (set xs n y) ≡ set xs n (change y)
changed_set change n [] y within = absurd (omega arith)
changed_set change zero (x ∷ xs) y within = refl
changed_set change (suc n) (x ∷ xs) y within = ap (λ l. x ∷ l) (changed_set change n xs y (omega arith))

pub map_kept : {A B : Type 0} → (f : A → B) (change : A → A) → ((x : A) → f (change x) ≡ f x) → (n : ℕ) (xs : List A) → map f (changed_at change n xs) ≡ map f xs
map_kept f change keeps n [] = refl
map_kept f change keeps zero (x ∷ xs) = ap (λ y. y ∷ map f xs) (keeps x)
map_kept f change keeps (suc n) (x ∷ xs) = ap (λ l. f x ∷ l) (map_kept f change keeps n xs)

pub length_kept : {A : Type 0} → (change : A → A) (n : ℕ) (xs : List A) → length (changed_at change n xs) ≡ length xs
length_kept change n [] = refl
length_kept change zero (x ∷ xs) = refl
length_kept change (suc n) (x ∷ xs) = ap suc (length_kept change n xs)

map_grown : {A V : Type 0} → (lane : A → List V) (change : A → A) (v : V) → ((x : A) → lane (change x) ≡ lane x ++ v ∷ []) → (n : ℕ) (xs : List A)
    → map lane (changed_at change n xs) ≡ put_on n v (map lane xs)
map_grown lane change v grows n [] = refl
map_grown lane change v grows zero (x ∷ xs) = ap (λ y. y ∷ map lane xs) (grows x)
map_grown lane change v grows (suc n) (x ∷ xs) = ap (λ l. lane x ∷ l) (map_grown lane change v grows n xs)

-- ONE EVENT ON ITS LANE

put_moves : (x : BridgePut) (s : Scene) → Moves s (lay_put x s) (spread_one (setting_in s) x (world_in s))
put_moves (to_publisher p note) s = record {
  setting = ap (λ l. record { shape = s.shape; publishers = l; objects = s.objects; groups = s.groups; watches = s.watches }) (map_kept script_in (with_note note) (λ x. refl) p s.senders);
  clients = refl;
  steps = map_kept steps_in (with_note note) (λ x. refl) p s.senders;
  sender_count = length_kept (with_note note) p s.senders;
  server_count = refl;
  heard = λ h. h;
  now = ap (λ l. record (world_in s) { publishers = l; to_publishers = map lane_in (changed_at (with_note note) p s.senders) }) (map_kept entries_in (with_note note) (λ x. refl) p s.senders)
      ∙ ap (λ l. record (world_in s) { to_publishers = l }) (map_grown lane_in (with_note note) note (λ x. refl) p s.senders);
}
put_moves (to_queue q note) s = queued_moves q (queue_port_of_bridge, note) s
  where
    queued_moves : (n : ℕ) (e : ℕ × QueueNote) (t : Scene)
        → Moves t (record t { servers = changed_at (with_event e) n t.servers }) (record (world_in t) { to_queues = put_on n e (world_in t).to_queues })
    queued_moves n e t = record {
      setting = refl;
      clients = refl;
      steps = refl;
      sender_count = refl;
      server_count = length_kept (with_event e) n t.servers;
      heard = λ h. map_kept heard_in (with_event e) (λ x. refl) n t.servers ∙ h ∙ sym (map_kept journal_in (with_event e) (λ x. refl) n t.servers);
      now = ap (λ l. record (world_in t) { queues = l; to_queues = map waiting_in (changed_at (with_event e) n t.servers) }) (map_kept journal_in (with_event e) (λ x. refl) n t.servers)
          ∙ ap (λ l. record (world_in t) { to_queues = l }) (map_grown waiting_in (with_event e) e (λ x. refl) n t.servers);
    }
put_moves (bridge.to_timers note) s = record { setting = refl; clients = refl; steps = refl; sender_count = refl; server_count = refl; heard = λ h. h; now = refl }

tick_moves : (e : ℕ × QueueNote) (s : Scene) → Moves s (lay_tick e s) (tick_one e (world_in s))
tick_moves e s = record {
  setting = refl;
  clients = refl;
  steps = refl;
  sender_count = refl;
  server_count = length_kept (with_event (queue_port_of_timers, e.1)) e.0 s.servers;
  heard = λ h. map_kept heard_in (with_event (queue_port_of_timers, e.1)) (λ x. refl) e.0 s.servers ∙ h
      ∙ sym (map_kept journal_in (with_event (queue_port_of_timers, e.1)) (λ x. refl) e.0 s.servers);
  now = ap (λ l. record (world_in s) { queues = l; to_queues = map waiting_in (changed_at (with_event (queue_port_of_timers, e.1)) e.0 s.servers) })
      (map_kept journal_in (with_event (queue_port_of_timers, e.1)) (λ x. refl) e.0 s.servers)
      ∙ ap (λ l. record (world_in s) { to_queues = l }) (map_grown waiting_in (with_event (queue_port_of_timers, e.1)) (queue_port_of_timers, e.1) (λ x. refl) e.0 s.servers);
}

-- MANY EVENTS

all_moves : {V : Type 0} → (lay : V → Scene → Scene) (one : Setting → V → World → World) (whole : Setting → List V → World → World)
    → ((setting : Setting) (w : World) → whole setting [] w ≡ w)
    → ((setting : Setting) (v : V) (vs : List V) (w : World) → whole setting (v ∷ vs) w ≡ whole setting vs (one setting v w))
    → ((v : V) (s : Scene) → Moves s (lay v s) (one (setting_in s) v (world_in s)))
    → (vs : List V) (s : Scene) → Moves s (lay_all lay vs s) (whole (setting_in s) vs (world_in s))
all_moves lay one whole none more moves [] s = subst (λ (w : World). Moves s s w) (sym (none (setting_in s) (world_in s))) (moves_none s)
all_moves lay one whole none more moves (v ∷ vs) s =
    subst (λ (w : World). Moves s (lay_all lay vs (lay v s)) w) (sym (more (setting_in s) v vs (world_in s)))
    (moves_then (λ setting w. whole setting vs w) (moves v s) (all_moves lay one whole none more moves vs (lay v s)))

pub puts_move : (puts : List BridgePut) (s : Scene) → Moves s (lay_all lay_put puts s) (spread (setting_in s) puts (world_in s))
puts_move puts s = all_moves lay_put spread_one spread spread_nil spread_cons put_moves puts s

pub ticks_move : (ticks : List (ℕ × QueueNote)) (s : Scene) → Moves s (lay_all lay_tick ticks s) (spread_ticks ticks (world_in s))
ticks_move ticks s =
    all_moves lay_tick (λ setting e w. tick_one e w) (λ setting es w. spread_ticks es w) (λ setting w. ticks_nil w) (λ setting e es w. ticks_cons e es w) tick_moves ticks s

pub events_laid : (port : ℕ) (events : List BridgeNote) (s : Scene) → lay_all (lay_event port) events s ≡ record s { to_bridge = s.to_bridge ++ from_port port events }
events_laid port [] s = ap (λ l. record s { to_bridge = l }) (sym (append_nil s.to_bridge))
events_laid port (e ∷ es) s =
    events_laid port es (lay_event port e s) ∙ ap (λ l. record s { to_bridge = l }) (append_assoc s.to_bridge ((port, e) ∷ []) (from_port port es))

pub outs_laid : (bridge_port timers_port : ℕ) (outs : List QueuePut) (s : Scene) → lay_all (lay_out bridge_port timers_port) outs s
    ≡ record s { to_bridge = s.to_bridge ++ from_port bridge_port (flat_map bridge_part outs); to_timers = s.to_timers ++ from_port timers_port (flat_map timers_part outs) }
outs_laid b t [] s =
    ap (λ l. record s { to_bridge = l }) (sym (append_nil s.to_bridge)) ∙ ap (λ l. record s { to_bridge = s.to_bridge ++ []; to_timers = l }) (sym (append_nil s.to_timers))
outs_laid b t (queue.to_bridge note ∷ outs) s =
    outs_laid b t outs (record s { to_bridge = s.to_bridge ++ (b, note) ∷ [] })
    ∙ ap (λ l. record s { to_bridge = l; to_timers = s.to_timers ++ from_port t (flat_map timers_part outs) })
    (append_assoc s.to_bridge ((b, note) ∷ []) (from_port b (flat_map bridge_part outs)))
outs_laid b t (queue.to_timers note ∷ outs) s =
    outs_laid b t outs (record s { to_timers = s.to_timers ++ (t, note) ∷ [] })
    ∙ ap (λ l. record s { to_bridge = s.to_bridge ++ from_port b (flat_map bridge_part outs); to_timers = l })
    (append_assoc s.to_timers ((t, note) ∷ []) (from_port t (flat_map timers_part outs)))

-- a queue's puts and then the wish of a watch, as one list of puts
pub laid_more : {V : Type 0} → (lay : V → Scene → Scene) (xs ys : List V) (s : Scene) → lay_all lay (xs ++ ys) s ≡ lay_all lay ys (lay_all lay xs s)
laid_more lay [] ys s = refl
laid_more lay (x ∷ xs) ys s = laid_more lay xs ys (lay x s)

pub wish_laid : (bridge_port timers_port : ℕ) (wish : Option (ToBridge ObjectId)) (s : Scene)
    → lay_all (lay_out bridge_port timers_port) (event_puts own_tag wish) s ≡ lay_wish bridge_port wish s
wish_laid bridge_port timers_port None s = refl
wish_laid bridge_port timers_port (Some event) s = refl

-- WHAT IS HELD MOVES TO ITS LANES

-- the system after all is on its lanes
pub settled : (h : Held) (s before old : Scene) → before ≡ old → seen h s ≡ before → ((t : Scene) → seen h t ≡ t) → s ≡ old
settled h s before old is same clear = sym (clear s) ∙ same ∙ is

-- what a queue put, its wish, and what its groups were not told: where the three are done one after another, all is as if done before
pub served_settled : (q b t : ℕ) (outs outs' : List QueuePut) (wish wish' : Option (ToBridge ObjectId)) (untold untold' : Bool) (s s1 s2 s3 : Scene)
    → lay_all (lay_out b t) outs' s1 ≡ lay_all (lay_out b t) outs s → outs' ≡ [] → lay_wish b wish' s2 ≡ lay_wish b wish s1 → wish' ≡ None → lay_untold untold' q s3 ≡ lay_untold untold q s2
    → lay_untold untold' q (lay_wish b wish' (lay_all (lay_out b t) outs' s3)) ≡ lay_untold untold q (lay_wish b wish (lay_all (lay_out b t) outs s))
served_settled q b t outs outs' wish wish' untold untold' s s1 s2 s3 puts_laid no_outs wish_put no_wish told =
    ap (λ (l : List QueuePut). lay_untold untold' q (lay_wish b wish' (lay_all (lay_out b t) l s3))) no_outs
    ∙ ap (λ w. lay_untold untold' q (lay_wish b w s3)) no_wish
    ∙ told
    ∙ ap (λ (w : Option (ToBridge ObjectId)). lay_untold untold q (lay_wish b w s2)) (sym no_wish)
    ∙ ap (lay_untold untold q) wish_put
    ∙ ap (λ (l : List QueuePut). lay_untold untold q (lay_wish b wish (lay_all (lay_out b t) l s1))) (sym no_outs)
    ∙ ap (λ (a : Scene). lay_untold untold q (lay_wish b wish a)) puts_laid

-- where the wish found no room
pub wish_settled : (q b t : ℕ) (outs outs' : List QueuePut) (wish wish' : Option (ToBridge ObjectId)) (untold : Bool) (s s1 s2 : Scene)
    → lay_all (lay_out b t) outs' s1 ≡ lay_all (lay_out b t) outs s → outs' ≡ [] → lay_wish b wish' s2 ≡ lay_wish b wish s1
    → lay_untold untold q (lay_wish b wish' (lay_all (lay_out b t) outs' s2)) ≡ lay_untold untold q (lay_wish b wish (lay_all (lay_out b t) outs s))
wish_settled q b t outs outs' wish wish' untold s s1 s2 puts_laid no_outs wish_put =
    ap (λ (l : List QueuePut). lay_untold untold q (lay_wish b wish' (lay_all (lay_out b t) l s2))) no_outs
    ∙ ap (lay_untold untold q) wish_put
    ∙ ap (λ (l : List QueuePut). lay_untold untold q (lay_wish b wish (lay_all (lay_out b t) l s1))) (sym no_outs)
    ∙ ap (λ (a : Scene). lay_untold untold q (lay_wish b wish a)) puts_laid

-- nothing is left
pub served_clear : (q b t : ℕ) (outs : List QueuePut) (wish : Option (ToBridge ObjectId)) (untold : Bool) → outs ≡ [] → wish ≡ None → untold ≡ false
    → (s : Scene) → lay_untold untold q (lay_wish b wish (lay_all (lay_out b t) outs s)) ≡ s
served_clear q b t outs wish untold no_outs no_wish told s =
    ap (λ (l : List QueuePut). lay_untold untold q (lay_wish b wish (lay_all (lay_out b t) l s))) no_outs
    ∙ ap (λ w. lay_untold untold q (lay_wish b w s)) no_wish ∙ ap (λ u. lay_untold u q s) told

-- WHAT DOES NOT DEPEND ON WHAT IS HELD

all_keep : {V B : Type 0} → (f : Scene → B) (lay : V → Scene → Scene) → ((v : V) (s : Scene) → f (lay v s) ≡ f s) → (vs : List V) (s : Scene) → f (lay_all lay vs s) ≡ f s
all_keep f lay keeps [] s = refl
all_keep f lay keeps (v ∷ vs) s = all_keep f lay keeps vs (lay v s) ∙ keeps v s

wish_keeps : {B : Type 0} → (f : Scene → B) → ((port : ℕ) (e : BridgeNote) (s : Scene) → f (lay_event port e s) ≡ f s)
    → (port : ℕ) (wish : Option (ToBridge ObjectId)) (s : Scene) → f (lay_wish port wish s) ≡ f s
wish_keeps f events port None s = refl
wish_keeps f events port (Some event) s = events port (note_of own_tag event) s

untold_keeps : {B : Type 0} → (f : Scene → B) → ((q : ℕ) (s : Scene) → f (lay_told q s) ≡ f s) → (untold : Bool) (q : ℕ) (s : Scene) → f (lay_untold untold q s) ≡ f s
untold_keeps f told true q s = told q s
untold_keeps f told false q s = refl

pub seen_keeps : {B : Type 0} → (f : Scene → B) → ((x : BridgePut) (s : Scene) → f (lay_put x s) ≡ f s) → ((e : ℕ × QueueNote) (s : Scene) → f (lay_tick e s) ≡ f s)
    → ((port : ℕ) (e : BridgeNote) (s : Scene) → f (lay_event port e s) ≡ f s) → ((b t : ℕ) (x : QueuePut) (s : Scene) → f (lay_out b t x s) ≡ f s)
    → ((q : ℕ) (s : Scene) → f (lay_told q s) ≡ f s) → (h : Held) (s : Scene) → f (seen h s) ≡ f s
seen_keeps f puts ticks events outs told held.Nothing s = refl
seen_keeps f puts ticks events outs told (held.Routed w) s = all_keep f lay_put puts (map (put_note own_tag) (waits w)) s
seen_keeps f puts ticks events outs told (held.Ticked w) s = all_keep f lay_tick ticks (map (out_note own_tag) (waits w)) s
seen_keeps f puts ticks events outs told (held.Sent port w) s = all_keep f (lay_event port) (events port) (map (note_of own_tag) (waits w)) s
seen_keeps f puts ticks events outs told (held.Given b t w) s = all_keep f (lay_out b t) (outs b t) (notes_of (waits w)) s
seen_keeps f puts ticks events outs told (held.Served q b t w wish untold) s =
    untold_keeps f told untold q (lay_wish b wish (lay_all (lay_out b t) (notes_of (waits w)) s))
    ∙ wish_keeps f events b wish (lay_all (lay_out b t) (notes_of (waits w)) s)
    ∙ all_keep f (lay_out b t) (outs b t) (notes_of (waits w)) s
