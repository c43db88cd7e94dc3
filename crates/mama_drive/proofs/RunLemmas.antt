-- Turns and steps of a run, once what was held is on its lanes.
use Rattle.std.proofs.Common.{◌≡◌, ℕ, ◌≤◌, true, List, length, map, refl, sym, ◌∙◌, ap, subst}
use Rattle.std.specs.Prelude.{Option, nat_le, ◌||◌}
use Rattle.std.specs.List.{list_all}
use Rattle.mama_event.specs.Ports.{clients_of, publishers_of, queues_of, queue_port_of_bridge, queue_port_of_timers}
use Rattle.mama_rules_services.specs.Bridge.{BridgePut, to_publisher, to_queue}
use Rattle.mama_rules_services.specs.Bridge as bridge
use Rattle.mama_rules_queue.specs.Queue.{QueuePut}
use Rattle.mama_rules_queue.specs.Queue as queue
use Rattle.mama_rules_rounds.specs.Setting.{Setting}
use Rattle.mama_rules_rounds.specs.World.{World}
use Rattle.mama_rules_rounds.specs.Stage.{Stage}
use Rattle.mama_seats.specs.Stand.{Stand}
use Rattle.mama_seats.specs.Server.{all_told}
use Rattle.mama_drive.specs.declared.held.Held.{Held}
use Rattle.mama_drive.specs.Scene.{Scene, Moves, Advances, Rounds, Plays, ArePassed, rested_stand, setting_in, world_in}
use Rattle.mama_drive.specs.Heard.{Hears, StepRead, HearsRounds}
use Rattle.mama_drive.specs.Held.{seen, lay_put, lay_out, with_note, with_event}
use Rattle.mama_drive.proofs.HeldLemmas.{settled, seen_keeps, length_kept}
use Rattle.mama_drive.proofs.ClockLemmas.{rests_heard}

turn_from : (turn : Setting → World → World) (a old new : Scene) → a ≡ old → Moves a new (turn (setting_in a) (world_in a)) → Moves old new (turn (setting_in old) (world_in old))
turn_from turn a old new is moves = subst (λ (o : Scene). Moves o new (turn (setting_in o) (world_in o))) is moves

pub turn_then : (turn : Setting → World → World) (h : Held) (s before old new : Scene) → before ≡ old → seen h s ≡ before → ((t : Scene) → seen h t ≡ t)
    → Moves s new (turn (setting_in s) (world_in s)) → Moves old new (turn (setting_in old) (world_in old))
turn_then turn h s before old new is same clear moves = turn_from turn s old new (settled h s before old is same clear) moves

pub step_then : (R : Setting → Stage → Stage → Type 0) (h : Held) (s before old new : Scene) → before ≡ old → seen h s ≡ before → ((t : Scene) → seen h t ≡ t)
    → Advances R s new → Advances R old new
step_then R h s before old new is same clear step = subst (λ (o : Scene). Advances R o new) (settled h s before old is same clear) step

pub heard_then : (c : ℕ) (o l : Option (List ℕ)) (h : Held) (s before old : Scene) (new : List Stand) → before ≡ old → seen h s ≡ before → ((t : Scene) → seen h t ≡ t)
    → Hears (StepRead c) o l s.clients new → Hears (StepRead c) o l old.clients new
heard_then c o l h s before old new is same clear heard = subst (λ (b : Scene). Hears (StepRead c) o l b.clients new) (settled h s before old is same clear) heard

-- HOW MANY ACTORS THERE ARE

senders_put : (x : BridgePut) (s : Scene) → length (lay_put x s).senders ≡ length s.senders
senders_put (to_publisher p note) s = length_kept (with_note note) p s.senders
senders_put (to_queue q note) s = refl
senders_put (bridge.to_timers note) s = refl

servers_put : (x : BridgePut) (s : Scene) → length (lay_put x s).servers ≡ length s.servers
servers_put (to_publisher p note) s = refl
servers_put (to_queue q note) s = length_kept (with_event (queue_port_of_bridge, note)) q s.servers
servers_put (bridge.to_timers note) s = refl

clients_put : (x : BridgePut) (s : Scene) → length (lay_put x s).clients ≡ length s.clients
clients_put (to_publisher p note) s = refl
clients_put (to_queue q note) s = refl
clients_put (bridge.to_timers note) s = refl

shape_put : (x : BridgePut) (s : Scene) → (lay_put x s).shape ≡ s.shape
shape_put (to_publisher p note) s = refl
shape_put (to_queue q note) s = refl
shape_put (bridge.to_timers note) s = refl

senders_out : (b t : ℕ) (x : QueuePut) (s : Scene) → length (lay_out b t x s).senders ≡ length s.senders
senders_out b t (queue.to_bridge note) s = refl
senders_out b t (queue.to_timers note) s = refl

servers_out : (b t : ℕ) (x : QueuePut) (s : Scene) → length (lay_out b t x s).servers ≡ length s.servers
servers_out b t (queue.to_bridge note) s = refl
servers_out b t (queue.to_timers note) s = refl

clients_out : (b t : ℕ) (x : QueuePut) (s : Scene) → length (lay_out b t x s).clients ≡ length s.clients
clients_out b t (queue.to_bridge note) s = refl
clients_out b t (queue.to_timers note) s = refl

shape_out : (b t : ℕ) (x : QueuePut) (s : Scene) → (lay_out b t x s).shape ≡ s.shape
shape_out b t (queue.to_bridge note) s = refl
shape_out b t (queue.to_timers note) s = refl

pub senders_seen : (h : Held) (s old : Scene) → seen h s ≡ old → length s.senders ≡ length old.senders
senders_seen h s old is =
    sym (seen_keeps (λ (t : Scene). length t.senders) senders_put (λ e t. refl) (λ port e t. refl) senders_out (λ q t. refl) h s) ∙ ap (λ (t : Scene). length t.senders) is

pub servers_seen : (h : Held) (s old : Scene) → seen h s ≡ old → length s.servers ≡ length old.servers
servers_seen h s old is =
    sym (seen_keeps (λ (t : Scene). length t.servers) servers_put (λ e t. length_kept (with_event (queue_port_of_timers, e.1)) e.0 t.servers) (λ port e t. refl) servers_out (λ q t. length_kept all_told q t.servers) h s)
    ∙ ap (λ (t : Scene). length t.servers) is

pub clients_seen : (h : Held) (s old : Scene) → seen h s ≡ old → length s.clients ≡ length old.clients
clients_seen h s old is =
    sym (seen_keeps (λ (t : Scene). length t.clients) clients_put (λ e t. refl) (λ port e t. refl) clients_out (λ q t. refl) h s) ∙ ap (λ (t : Scene). length t.clients) is

shape_seen : (h : Held) (s old : Scene) → seen h s ≡ old → s.shape ≡ old.shape
shape_seen h s old is = sym (seen_keeps (λ (t : Scene). t.shape) shape_put (λ e t. refl) (λ port e t. refl) shape_out (λ q t. refl) h s) ∙ ap (λ (t : Scene). t.shape) is

pub shape_seen_clients : (h : Held) (s old : Scene) → seen h s ≡ old → clients_of s.shape ≡ clients_of old.shape
shape_seen_clients h s old is = ap clients_of (shape_seen h s old is)

pub shape_seen_senders : (h : Held) (s old : Scene) → seen h s ≡ old → publishers_of s.shape ≡ publishers_of old.shape
shape_seen_senders h s old is = ap publishers_of (shape_seen h s old is)

pub shape_seen_servers : (h : Held) (s old : Scene) → seen h s ≡ old → queues_of s.shape ≡ queues_of old.shape
shape_seen_servers h s old is = ap queues_of (shape_seen h s old is)

-- PUBLISHERS THAT ARE PASSED OVER

pub passed_seen : (h : Held) (s old : Scene) (from next : ℕ) → seen h s ≡ old → ((t : Scene) → seen h t ≡ t)
    → (from ≤ publishers_of s.shape → ArePassed from next s) → from ≤ publishers_of old.shape → ArePassed from next old
passed_seen h s old from next is clear passed = subst (λ (o : Scene). from ≤ publishers_of o.shape → ArePassed from next o) (sym (clear s) ∙ is) passed

-- WHETHER A RECORD CAN BE MADE

ready_put : (x : BridgePut) (s : Scene) → (lay_put x s).ready ≡ s.ready
ready_put (to_publisher p note) s = refl
ready_put (to_queue q note) s = refl
ready_put (bridge.to_timers note) s = refl

ready_out : (b t : ℕ) (x : QueuePut) (s : Scene) → (lay_out b t x s).ready ≡ s.ready
ready_out b t (queue.to_bridge note) s = refl
ready_out b t (queue.to_timers note) s = refl

-- the mark that a record can be made
pub ready_seen : (h : Held) (s old : Scene) → seen h s ≡ old → s.ready ≡ old.ready
ready_seen h s old is = sym (seen_keeps (λ (t : Scene). t.ready) ready_put (λ e t. refl) (λ port e t. refl) ready_out (λ q t. refl) h s) ∙ ap (λ (t : Scene). t.ready) is

-- ROUNDS

pub rests_plays : (h : Held) (s after old : Scene) (k : ℕ) → seen h s ≡ old → ((t : Scene) → seen h t ≡ t) → Advances (Rounds k) s after → Plays old (seen h after)
rests_plays h s after old k is clear rounds = record {
  count = k;
  rounds = subst (λ (a : Scene). Advances (Rounds k) a (seen h after)) (sym (clear s) ∙ is) (subst (λ (b : Scene). Advances (Rounds k) s b) (sym (clear after)) rounds);
}

pub rests_hear : (h : Held) (s after old : Scene) (k : ℕ) (o : Option (List ℕ)) → seen h s ≡ old → ((t : Scene) → seen h t ≡ t)
    → list_all (λ (c : Stand). c.over || nat_le k c.pause) s.clients ≡ true → after.clients ≡ map (rested_stand k) s.clients
    → HearsRounds o o old.clients (seen h after).clients
rests_hear h s after old k o is clear can rested =
    subst (λ (a : Scene). HearsRounds o o a.clients (seen h after).clients) (sym (clear s) ∙ is)
    (subst (λ (b : Scene). HearsRounds o o s.clients b.clients) (sym (clear after)) (rests_heard k o s.clients after.clients can rested))

pub rests_keep : (h : Held) (s after old : Scene) → seen h s ≡ old → ((t : Scene) → seen h t ≡ t) → world_in after ≡ world_in s → world_in (seen h after) ≡ world_in old
rests_keep h s after old is clear same = ap world_in (clear after) ∙ same ∙ ap world_in (sym (clear s) ∙ is)
