-- How a change of one seat or one lane changes the world.
use Rattle.std.proofs.Common.{◌≡◌, ℕ, ◌<◌, List, [], ◌∷◌, ◌++◌, map, length, get_or, refl, sym, ◌∙◌, ap, subst}
use Rattle.std.proofs.Math.ListN.{set}
use Rattle.std.proofs.lemmas.List.{map-set, get_or-map, set-get_or, length-set}
use Rattle.std.proofs.Math.Seq.{map-set_same}
use Rattle.mama_journal.specs.Lane.{from_port}
use Rattle.mama_event.specs.Ports.{bridge_port_of_publisher}
use Rattle.mama_event.specs.declared.to_bridge.BridgeNote.{BridgeNote}
use Rattle.mama_event.specs.declared.to_publisher.PublisherNote.{PublisherNote}
use Rattle.mama_event.specs.declared.publisher_entry.PublisherEntry.TheVariants.{Took}
use Rattle.mama_rules_rounds.specs.Setting.{Setting, no_section}
use Rattle.mama_rules_rounds.specs.World.{World, publisher_turn, publisher_took, with_puts}
use Rattle.mama_rules_rounds.specs.Client.{bridge_part, timers_part}
use Rattle.mama_rules_queue.specs.Queue.{QueuePut}
use Rattle.mama_event.specs.declared.to_timers.TimersNote.{TimersNote}
use Rattle.std.specs.List.{flat_map}
use Rattle.mama_seats.specs.Sender.{Sender, taken, taken_puts, steps_in}
use Rattle.mama_drive.specs.Scene.{Scene, Moves, setting_in, world_in, script_in, entries_in, lane_in}
use Rattle.mama_drive.proofs.LaneLemmas.{append_nil}

-- a move after a move
pub moves_then : (f : Setting → World → World) {a b c : Scene} {w : World} → Moves a b w → Moves b c (f (setting_in b) (world_in b)) → Moves a c (f (setting_in a) w)
moves_then f {a} {b} {c} {w} m n = record {
  setting = n.setting ∙ m.setting;
  clients = n.clients ∙ m.clients;
  steps = n.steps ∙ m.steps;
  sender_count = n.sender_count ∙ m.sender_count;
  server_count = n.server_count ∙ m.server_count;
  heard = λ h. n.heard (m.heard h);
  now = n.now ∙ ap (λ s. f s (world_in b)) m.setting ∙ ap (f (setting_in a)) m.now;
}

pub moves_none : (s : Scene) → Moves s s (world_in s)
moves_none s = record { setting = refl; clients = refl; steps = refl; sender_count = refl; server_count = refl; heard = λ h. h; now = refl }

-- A PUBLISHER'S TURN

taken_script : (x : Sender) (lane : List PublisherNote) → script_in (taken x lane) ≡ x.script
taken_script x [] = refl
taken_script x (note ∷ rest) = refl

taken_steps : (x : Sender) (lane : List PublisherNote) → steps_in (taken x lane) ≡ steps_in x
taken_steps x [] = refl
taken_steps x (note ∷ rest) = refl

sender_turned_at : (s : Scene) (p : ℕ) (x : Sender) → p < length s.senders → x ≡ get_or s.senders p x → (lane : List PublisherNote)
    → world_in (record s { senders = set s.senders p (taken x lane); to_bridge = s.to_bridge ++ from_port (bridge_port_of_publisher s.shape p) (taken_puts x lane) })
    ≡ publisher_took (setting_in s) p (world_in s) lane
sender_turned_at s p x within is [] =
    ap (λ l. world_in (record s { senders = l; to_bridge = s.to_bridge ++ [] })) (ap (set s.senders p) is ∙ set-get_or s.senders p x)
    ∙ ap (λ t. world_in (record s { to_bridge = t })) (append_nil s.to_bridge)
sender_turned_at s p x within is (note ∷ rest) =
    let x' : Sender = taken x (note ∷ rest) in
    let entries : map entries_in (set s.senders p x') ≡ set (map entries_in s.senders) p (x.journal ++ Took note ∷ []) = map-set entries_in s.senders p x' in
    let lanes : map lane_in (set s.senders p x') ≡ set (map lane_in s.senders) p rest = map-set lane_in s.senders p x' in
    let journal : get_or (map entries_in s.senders) p [] ≡ x.journal = get_or-map entries_in s.senders p x [] within ∙ ap entries_in (sym is) in
    let script : get_or (map script_in s.senders) p no_section ≡ x.script = get_or-map script_in s.senders p x no_section within ∙ ap script_in (sym is) in
    rw (entries, lanes, journal, script) refl

-- a publisher's seat takes the first event of its lane, and what it puts goes on the bridge's lane
pub sender_turned : (s : Scene) (p : ℕ) (x : Sender) → p < length s.senders → x ≡ get_or s.senders p x
    → Moves s (record s { senders = set s.senders p (taken x x.lane); to_bridge = s.to_bridge ++ from_port (bridge_port_of_publisher s.shape p) (taken_puts x x.lane) })
    (publisher_turn (setting_in s) p (world_in s))
sender_turned s p x within is = record {
  setting = ap (λ l. record { shape = s.shape; publishers = l; objects = s.objects; groups = s.groups; watches = s.watches })
      (map-set_same script_in s.senders p (taken x x.lane) x (taken_script x x.lane ∙ ap script_in is));
  clients = refl;
  steps = map-set_same steps_in s.senders p (taken x x.lane) x (taken_steps x x.lane ∙ ap steps_in is);
  sender_count = length-set s.senders p (taken x x.lane);
  server_count = refl;
  heard = λ h. h;
  now = sender_turned_at s p x within is x.lane
      ∙ ap (publisher_took (setting_in s) p (world_in s)) (ap lane_in is ∙ sym (get_or-map lane_in s.senders p x [] within));
}

pub sender_turned_to : (s old : Scene) (p port : ℕ) (x y : Sender) (puts : List BridgeNote) (lane : List (ℕ × BridgeNote)) → s ≡ old → p < length s.senders → x ≡ get_or s.senders p x
    → y ≡ taken x x.lane → puts ≡ taken_puts x x.lane → port ≡ bridge_port_of_publisher s.shape p → lane ≡ s.to_bridge ++ from_port port puts
    → Moves old (record s { senders = set s.senders p y; to_bridge = lane }) (publisher_turn (setting_in old) p (world_in old))
sender_turned_to s old p port x y puts lane is within at changed puts_are from more =
    let whole : lane ≡ s.to_bridge ++ from_port (bridge_port_of_publisher s.shape p) (taken_puts x x.lane) =
    more ∙ ap (λ n. s.to_bridge ++ from_port n puts) from ∙ ap (λ l. s.to_bridge ++ from_port (bridge_port_of_publisher s.shape p) l) puts_are in
    subst (λ (o : Scene). Moves o (record s { senders = set s.senders p y; to_bridge = lane }) (publisher_turn (setting_in o) p (world_in o))) is
    (subst (λ (z : Sender). Moves s (record s { senders = set s.senders p z; to_bridge = lane }) (publisher_turn (setting_in s) p (world_in s))) (sym changed)
    (subst (λ (l : List (ℕ × BridgeNote)). Moves s (record s { senders = set s.senders p (taken x x.lane); to_bridge = l }) (publisher_turn (setting_in s) p (world_in s))) (sym whole)
    (sender_turned s p x within at)))

-- what a client or a queue puts
pub put_all_to : (s old : Scene) (bridge_port timers_port : ℕ) (puts : List QueuePut) (to_bridge : List (ℕ × BridgeNote)) (to_timers : List (ℕ × TimersNote)) → s ≡ old
    → to_bridge ≡ s.to_bridge ++ from_port bridge_port (flat_map bridge_part puts) → to_timers ≡ s.to_timers ++ from_port timers_port (flat_map timers_part puts)
    → Moves old (record s { to_bridge = to_bridge; to_timers = to_timers }) (with_puts bridge_port timers_port puts (world_in old))
put_all_to s old bridge_port timers_port puts to_bridge to_timers is bridge timers =
    subst (λ (o : Scene). Moves o (record s { to_bridge = to_bridge; to_timers = to_timers }) (with_puts bridge_port timers_port puts (world_in o))) is
    (record {
      setting = refl;
      clients = refl;
      steps = refl;
      sender_count = refl;
      server_count = refl;
      heard = λ h. h;
      now = ap (λ l. record (world_in s) { to_bridge = l; to_timers = to_timers }) bridge
          ∙ ap (λ l. record (world_in s) { to_bridge = s.to_bridge ++ from_port bridge_port (flat_map bridge_part puts); to_timers = l }) timers;
    })
