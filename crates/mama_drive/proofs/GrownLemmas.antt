-- Journals grow at their ends, turn by turn and step by step.
use Rattle.std.proofs.Common.{◌≡◌, ℕ, zero, suc, List, [], ◌∷◌, ◌++◌, map, get_or, refl, sym, ◌∙◌, ap, append_assoc, subst}
use Rattle.std.proofs.Math.ListN.{set}
use Rattle.mama_event.specs.declared.publisher_entry.PublisherEntry.{PublisherEntry}
use Rattle.mama_event.specs.declared.to_bridge.BridgeNote.{BridgeNote}
use Rattle.mama_event.specs.declared.to_publisher.PublisherNote.{PublisherNote}
use Rattle.mama_event.specs.declared.to_timers.TimersNote.{TimersNote}
use Rattle.mama_event.specs.declared.to_queue.QueueNote.{QueueNote}
use Rattle.mama_rules_queue.specs.Queue.{QueuePut}
use Rattle.mama_rules_rounds.specs.Setting.{Setting}
use Rattle.mama_rules_rounds.specs.World.{World, bridge_turn, bridge_took, timers_turn, timers_took, publisher_turn, publisher_took, publisher_did, queue_turn, queue_took}
use Rattle.mama_rules_rounds.specs.Stage.{Stage, client_step, client_stepped, publisher_step, publisher_stepped, entries_done}
use Rattle.mama_drive.specs.Scene.{Scene, Moves, Advances, Stepped, AreMoments, world_in, setting_in, stage_in}
use Rattle.mama_drive.specs.Record.{read_in}
use Rattle.mama_drive.specs.Grown.{Begins, AllBegin, HaveGrown, HasGrown}
use Rattle.mama_drive.proofs.LaneLemmas.{append_nil}
use Rattle.mama_drive.proofs.RecordLemmas.{own_reads}

begins_same : {V : Type 0} → (xs : List V) → Begins xs xs
begins_same xs = ([], append_nil xs)

begins_then : {V : Type 0} → (a b c : List V) → Begins a b → Begins b c → Begins a c
begins_then a b c h k = (h.0 ++ k.0, sym (append_assoc a h.0 k.0) ∙ ap (λ l. l ++ k.0) h.1 ∙ k.1)

all_same : {V : Type 0} → (xs : List (List V)) → AllBegin xs xs
all_same [] = tt
all_same (x ∷ xs) = (begins_same x, all_same xs)

all_then : {V : Type 0} → (a b c : List (List V)) → AllBegin a b → AllBegin b c → AllBegin a c
all_then [] [] [] h k = tt
all_then [] [] (z ∷ zs) h k = k
all_then [] (y ∷ ys) c h k = absurd h
all_then (x ∷ xs) [] c h k = absurd h
all_then (x ∷ xs) (y ∷ ys) [] h k = k
all_then (x ∷ xs) (y ∷ ys) (z ∷ zs) h k = (begins_then x y z h.0 k.0, all_then xs ys zs h.1 k.1)

-- one journal of many grows
one_begins : {V : Type 0} → (xs : List (List V)) (n : ℕ) (es : List V) → AllBegin xs (set xs n (get_or xs n [] ++ es))
one_begins [] n es = tt
one_begins (x ∷ xs) zero es = ((es, refl), all_same xs)
one_begins (x ∷ xs) (suc n) es = (begins_same x, one_begins xs n es)

pub grown_same : (w : World) → HaveGrown w w
grown_same w = record { publishers = all_same w.publishers; bridge = begins_same w.bridge; timers = begins_same w.timers; queues = all_same w.queues }

pub grown_then : (a b c : World) → HaveGrown a b → HaveGrown b c → HaveGrown a c
grown_then a b c h k = record {
  publishers = all_then a.publishers b.publishers c.publishers h.publishers k.publishers;
  bridge = begins_then a.bridge b.bridge c.bridge h.bridge k.bridge;
  timers = begins_then a.timers b.timers c.timers h.timers k.timers;
  queues = all_then a.queues b.queues c.queues h.queues k.queues;
}

pub grown_is : (a b : World) → b ≡ a → HaveGrown a b
grown_is a b is = subst (HaveGrown a) (sym is) (grown_same a)

-- TURNS

bridge_grown_at : (setting : Setting) (w : World) (lane : List (ℕ × BridgeNote)) → HaveGrown w (bridge_took setting w lane)
bridge_grown_at setting w [] = grown_same w
bridge_grown_at setting w (e ∷ rest) =
    record { publishers = all_same w.publishers; bridge = (e ∷ [], refl); timers = begins_same w.timers; queues = all_same w.queues }

pub bridge_grown : (setting : Setting) (w : World) → HaveGrown w (bridge_turn setting w)
bridge_grown setting w = bridge_grown_at setting w w.to_bridge

timers_grown_at : (setting : Setting) (w : World) (lane : List (ℕ × TimersNote)) → HaveGrown w (timers_took setting w lane)
timers_grown_at setting w [] = grown_same w
timers_grown_at setting w (e ∷ rest) =
    record { publishers = all_same w.publishers; bridge = begins_same w.bridge; timers = (e ∷ [], refl); queues = all_same w.queues }

pub timers_grown : (setting : Setting) (w : World) → HaveGrown w (timers_turn setting w)
timers_grown setting w = timers_grown_at setting w w.to_timers

did_grown : (setting : Setting) (p : ℕ) (w : World) (e : PublisherEntry) → HaveGrown w (publisher_did setting p w e)
did_grown setting p w e =
    record { publishers = one_begins w.publishers p (e ∷ []); bridge = begins_same w.bridge; timers = begins_same w.timers; queues = all_same w.queues }

publisher_grown_at : (setting : Setting) (p : ℕ) (w : World) (lane : List PublisherNote) → HaveGrown w (publisher_took setting p w lane)
publisher_grown_at setting p w [] = grown_same w
publisher_grown_at setting p w (note ∷ rest) =
    record { publishers = one_begins w.publishers p (_ ∷ []); bridge = begins_same w.bridge; timers = begins_same w.timers; queues = all_same w.queues }

pub publisher_grown : (p : ℕ) (setting : Setting) (w : World) → HaveGrown w (publisher_turn setting p w)
publisher_grown p setting w = publisher_grown_at setting p w (get_or w.to_publishers p [])

queue_grown_at : (setting : Setting) (q : ℕ) (w : World) (lane : List (ℕ × QueueNote)) → HaveGrown w (queue_took setting q w lane)
queue_grown_at setting q w [] = grown_same w
queue_grown_at setting q w (e ∷ rest) =
    record { publishers = all_same w.publishers; bridge = begins_same w.bridge; timers = begins_same w.timers; queues = one_begins w.queues q (e ∷ []) }

pub queue_grown : (q : ℕ) (setting : Setting) (w : World) → HaveGrown w (queue_turn setting q w)
queue_grown q setting w = queue_grown_at setting q w (get_or w.to_queues q [])

-- the world that a turn makes of a scene's
pub moves_grown : (f : Setting → World → World) (a b : Scene) → ((setting : Setting) (w : World) → HaveGrown w (f setting w))
    → Moves a b (f (setting_in a) (world_in a)) → HaveGrown (world_in a) (world_in b)
moves_grown f a b grows moves = subst (HaveGrown (world_in a)) (sym moves.now) (grows (setting_in a) (world_in a))

-- STEPS

client_grown_at : (setting : Setting) (c : ℕ) (s : Stage) (steps : List (List QueuePut)) → HaveGrown s.world (client_stepped setting c s steps).world
client_grown_at setting c s [] = grown_same s.world
client_grown_at setting c s (step ∷ rest) =
    record { publishers = all_same s.world.publishers; bridge = begins_same s.world.bridge; timers = begins_same s.world.timers; queues = all_same s.world.queues }

entries_grown : (setting : Setting) (p : ℕ) (w : World) (es : List PublisherEntry) → HaveGrown w (entries_done setting p w es)
entries_grown setting p w [] = grown_same w
entries_grown setting p w (e ∷ es) =
    grown_then w (publisher_did setting p w e) (entries_done setting p (publisher_did setting p w e) es)
    (did_grown setting p w e) (entries_grown setting p (publisher_did setting p w e) es)

sender_grown_at : (setting : Setting) (p : ℕ) (s : Stage) (steps : List (List PublisherEntry)) → HaveGrown s.world (publisher_stepped setting p s steps).world
sender_grown_at setting p s [] = grown_same s.world
sender_grown_at setting p s (step ∷ rest) = entries_grown setting p s.world step

steps_grown : (step : Setting → ℕ → Stage → Stage) (n : ℕ) (a b : Scene) → ((s : Stage) → HaveGrown s.world (step (setting_in a) n s).world)
    → Advances (Stepped step n) a b → HaveGrown (world_in a) (world_in b)
steps_grown step n a b grows advances =
    let ms : List (List ℕ) = map read_in b.clients in
    subst (HaveGrown (world_in a)) (sym (ap (λ (t : Stage). t.world) (advances.stages ms (own_reads b.clients)))) (grows (stage_in ms a))

pub client_step_grown : (n : ℕ) (a b : Scene) → Advances (Stepped client_step n) a b → HaveGrown (world_in a) (world_in b)
client_step_grown n a b advances = steps_grown client_step n a b (λ s. client_grown_at (setting_in a) n s (get_or s.clients n [])) advances

pub sender_step_grown : (n : ℕ) (a b : Scene) → Advances (Stepped publisher_step n) a b → HaveGrown (world_in a) (world_in b)
sender_step_grown n a b advances = steps_grown publisher_step n a b (λ s. sender_grown_at (setting_in a) n s (get_or s.publishers n [])) advances

-- the journals and moments of a run that went on
pub has_grown : (a b : Scene) → ((ms : List (List ℕ)) → AreMoments ms b.clients → AreMoments ms a.clients) → HaveGrown (world_in a) (world_in b) → HasGrown a b
has_grown a b before grows = record { moments = before (map read_in b.clients) (own_reads b.clients); journals = grows }
