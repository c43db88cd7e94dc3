-- The record of a run.
use Rattle.std.proofs.Common.{◌≡◌, ℕ, ◌+◌, Bool, true, false, ◌&&◌, List, [], ◌∷◌, ◌++◌, map, length, refl, sym, ◌∙◌, ap, subst, add-zero}
use Rattle.std.specs.List.{list_all, flat_map}
use Rattle.mama_event.specs.declared.ids.ObjectId.TheVariants.{Sub, Timer, Inbox}
use Rattle.mama_record.specs.RunData.{RunData, ObjectCalls, LastImage, GroupNotes, WatchNotes}
use Rattle.mama_event.specs.declared.publisher_entry.PublisherEntry.{PublisherEntry}
use Rattle.mama_event.specs.declared.to_bridge.BridgeNote.{BridgeNote}
use Rattle.mama_event.specs.declared.to_timers.TimersNote.{TimersNote}
use Rattle.mama_event.specs.declared.to_queue.QueueNote.{QueueNote}
use Rattle.mama_script.specs.Script.{ScriptData}
use Rattle.mama_rules_rounds.specs.Client.{Planned, clock_lines, steps_from}
use Rattle.mama_rules_rounds.specs.Setting.{Setting}
use Rattle.mama_rules_rounds.specs.World.{is_empty}
use Rattle.mama_rules_rounds.specs.Stage.{Stage, AreRounds}
use Rattle.mama_rules_rounds.specs.Sections.{setting_of}
use Rattle.mama_rules_rounds.specs.Told.{last_image, group_told, watch_told}
use Rattle.mama_rules_rounds.specs.Round.{start, record_of, IsRound}
use Rattle.mama_seats.specs.Sender.{Sender, steps_in, steps_after}
use Rattle.mama_seats.specs.Stand.{Stand, reading, left_after, standing_in}
use Rattle.mama_seats.specs.Server.{all_told}
use Rattle.mama_drive.specs.Scene.{Scene, setting_in, stage_in, world_in, script_in, entries_in, journal_in, lefts, AreMoments, AllEnd, Plays, IsPlayed}
use Rattle.mama_drive.specs.Start.{Starts}
use Rattle.mama_drive.specs.Record.{read_in, recorded, calls_by, images_by}
use Rattle.mama_event.specs.Ports.{queue_port_of_bridge, queue_port_of_timers}
use Rattle.mama_rules_services.specs.Bridge.{BridgePut, to_publisher, to_queue}
use Rattle.mama_rules_services.specs.Bridge as bridge
use Rattle.mama_rules_queue.specs.Queue.{QueuePut}
use Rattle.mama_rules_queue.specs.Queue as queue
use Rattle.mama_event.specs.Publisher.{PublisherScript}
use Rattle.mama_drive.specs.declared.held.Held.{Held}
use Rattle.mama_drive.specs.Held.{seen, lay_put, lay_tick, lay_out, lay_told, with_note, with_event, changed_at}
use Rattle.mama_drive.proofs.HeldLemmas.{seen_keeps, map_kept}
use Rattle.mama_drive.proofs.LaneLemmas.{append_nil}

-- what the clients have read begins what they have read
pub own_reads : (cs : List Stand) → AreMoments (map read_in cs) cs
own_reads [] = tt
own_reads (c ∷ cs) = (([], append_nil c.read), own_reads cs)

-- both of two tests
first_of_both : (a b : Bool) → (a && b) ≡ true → a ≡ true
first_of_both true b h = refl
first_of_both false b h = h

second_of_both : (a b : Bool) → (a && b) ≡ true → b ≡ true
second_of_both true b h = h
second_of_both false b h = cc

-- of clients that are done no step is left
no_steps : (ms : List (List ℕ)) (cs : List Stand) → list_all (λ (c : Stand). c.over) cs ≡ true → AreMoments ms cs → list_all is_empty (lefts ms cs) ≡ true
no_steps [] [] over h = refl
no_steps [] (c ∷ cs) over h = absurd h
no_steps (m ∷ ms) [] over h = absurd h
no_steps (m ∷ ms) (c ∷ cs) over h =
    ap (λ o. is_empty (left_after o c.pause (steps_from c.queues c.number (standing_in m c) c.lines)) && list_all is_empty (lefts ms cs))
    (first_of_both c.over (list_all (λ (d : Stand). d.over) cs) over)
    ∙ no_steps ms cs (second_of_both c.over (list_all (λ (d : Stand). d.over) cs) over) h.1

no_sends : (ss : List Sender) → list_all (λ (s : Sender). s.over) ss ≡ true → list_all is_empty (map steps_in ss) ≡ true
no_sends [] over = refl
no_sends (s ∷ ss) over =
    ap (λ o. is_empty (steps_after o s.pause s.lines) && list_all is_empty (map steps_in ss)) (first_of_both s.over (list_all (λ (d : Sender). d.over) ss) over)
    ∙ no_sends ss (second_of_both s.over (list_all (λ (d : Sender). d.over) ss) over)

-- a client that is done has read what its lines ask for
all_read : (cs : List Stand) → list_all (λ (c : Stand). c.over) cs ≡ true → AllEnd cs → map length (map read_in cs) ≡ map reading cs
all_read [] over ends = refl
all_read (c ∷ cs) over ends =
    let none : c.lines ≡ [] = ends.0 (first_of_both c.over (list_all (λ (d : Stand). d.over) cs) over) in
    ap (λ n. n ∷ map length (map read_in cs)) (sym (ap (λ l. length c.read + clock_lines l) none ∙ add-zero (length c.read)))
    ∙ ap (λ l. reading c ∷ l) (all_read cs (second_of_both c.over (list_all (λ (d : Stand). d.over) cs) over) ends.1)

rounds_to : (setting now : Setting) (s first last : Stage) (n : ℕ) → setting ≡ now → s ≡ first → AreRounds setting n s last → AreRounds now n first last
rounds_to setting now s first last n same is rounds =
    subst (λ (t : Setting). AreRounds t n first last) same (subst (λ (t : Stage). AreRounds setting n t last) is rounds)

-- the record of a played scene is that of the rounds of its script
pub is_round : (script : ScriptData) (a b : Scene) (run : RunData) → Starts script a → Plays a b → IsPlayed b → run ≡ recorded b → IsRound script run
is_round script a b run starts plays played told =
    let ms : List (List ℕ) = map read_in b.clients in
    let all = plays.rounds in
    let own : AreMoments ms b.clients = own_reads b.clients in
    subst (IsRound script) (sym told) (record {
      moments = all_read b.clients played.clients (all.ends starts.ends) ∙ all.told ∙ starts.told;
      count = plays.count;
      last = stage_in ms b;
      rounds = rounds_to (setting_in a) (setting_of script) (stage_in ms a) (start script ms) (stage_in ms b) plays.count starts.setting
          (starts.stages ms (all.moments ms own)) (all.stages ms own);
      over = record { clients = no_steps ms b.clients played.clients own; publishers = no_sends b.senders played.publishers };
      told = ap (λ (t : Setting). record_of t ms (world_in b)) (all.setting ∙ starts.setting);
    })

-- the images of objects, as the record has them
image_same : (setting : Setting) (queues : List (List (ℕ × QueueNote))) (p : Planned) → images_by setting.objects queues p ≡ last_image setting queues p
image_same setting queues p =
    elim p.object as (λ o. images_by setting.objects queues (record p { object = o }) ≡ last_image setting queues (record p { object = o })) [ Sub s ↦ refl | Timer t ↦ refl | Inbox i ↦ refl ]

images_same : (setting : Setting) (queues : List (List (ℕ × QueueNote))) (ps : List Planned) → flat_map (images_by setting.objects queues) ps ≡ flat_map (last_image setting queues) ps
images_same setting queues [] = refl
images_same setting queues (p ∷ ps) =
    ap (λ i. i ++ flat_map (images_by setting.objects queues) ps) (image_same setting queues p) ∙ ap (λ l. last_image setting queues p ++ l) (images_same setting queues ps)

-- the record is put together of its parts
pub record_parts : (s old : Scene) (run : RunData) (m : List (List ℕ)) (e : List (List PublisherEntry)) (b : List (ℕ × BridgeNote)) (t : List (ℕ × TimersNote)) (q : List (List (ℕ × QueueNote))) (c : List ObjectCalls) (i : List LastImage) (gs : List GroupNotes) (ws : List WatchNotes)
    → s ≡ old → run ≡ record { clients = m; publishers = e; bridge = b; timers = t; queues = q; calls = c; images = i; groups = gs; watches = ws }
    → m ≡ map read_in s.clients → e ≡ map entries_in s.senders → b ≡ s.bridge → t ≡ s.timers → q ≡ map journal_in s.servers
    → c ≡ map (calls_by old.objects (map journal_in old.servers)) old.objects → i ≡ flat_map (images_by old.objects (map journal_in old.servers)) old.objects
    → gs ≡ map (group_told (setting_in s) (map journal_in s.servers)) s.groups → ws ≡ map (watch_told (setting_in s) (map journal_in s.servers)) s.watches
    → run ≡ recorded old
record_parts s old run m e b t q c i gs ws is put moments entries bridge timers events told left heard noted =
    let queues : List (List (ℕ × QueueNote)) = map journal_in s.servers in
    let calls : c ≡ map (calls_by s.objects queues) s.objects = told ∙ ap (λ (o : Scene). map (calls_by o.objects (map journal_in o.servers)) o.objects) (sym is) in
    let images : i ≡ flat_map (images_by s.objects queues) s.objects = left ∙ ap (λ (o : Scene). flat_map (images_by o.objects (map journal_in o.servers)) o.objects) (sym is) in
    let last : i ≡ flat_map (last_image (setting_in s) queues) s.objects = images ∙ images_same (setting_in s) queues s.objects in
    subst (λ (o : Scene). run ≡ recorded o) is
    (put ∙ ap (λ x. record { clients = x; publishers = e; bridge = b; timers = t; queues = q; calls = c; images = i; groups = gs; watches = ws }) moments
    ∙ ap (λ x. record { clients = map read_in s.clients; publishers = x; bridge = b; timers = t; queues = q; calls = c; images = i; groups = gs; watches = ws }) entries
    ∙ ap (λ x. record { clients = map read_in s.clients; publishers = map entries_in s.senders; bridge = x; timers = t; queues = q; calls = c; images = i; groups = gs; watches = ws }) bridge
    ∙ ap (λ x. record { clients = map read_in s.clients; publishers = map entries_in s.senders; bridge = s.bridge; timers = x; queues = q; calls = c; images = i; groups = gs; watches = ws }) timers
    ∙ ap (λ x. record { clients = map read_in s.clients; publishers = map entries_in s.senders; bridge = s.bridge; timers = s.timers; queues = x; calls = c; images = i; groups = gs; watches = ws }) events
    ∙ ap (λ x. record { clients = map read_in s.clients; publishers = map entries_in s.senders; bridge = s.bridge; timers = s.timers; queues = queues; calls = x; images = i; groups = gs; watches = ws }) calls
    ∙ ap (λ x. record (recorded s) { images = x; groups = gs; watches = ws }) last
    ∙ ap (λ x. record (recorded s) { groups = x; watches = ws }) heard
    ∙ ap (λ x. record (recorded s) { watches = x }) noted)

-- the record does not depend on what lies on lanes
abbrev recorded_by : (s : Scene) (scripts : List PublisherScript) (entries : List (List PublisherEntry)) (queues : List (List (ℕ × QueueNote))) → RunData
recorded_by s scripts entries queues =
    record_of (record { shape = s.shape; publishers = scripts; objects = s.objects; groups = s.groups; watches = s.watches }) (map read_in s.clients)
    (record { publishers = entries; bridge = s.bridge; timers = s.timers; queues = queues; to_bridge = []; to_timers = []; to_publishers = []; to_queues = [] })

recorded_put : (x : BridgePut) (s : Scene) → recorded (lay_put x s) ≡ recorded s
recorded_put (to_publisher p note) s =
    ap (λ l. recorded_by s l (map entries_in (changed_at (with_note note) p s.senders)) (map journal_in s.servers)) (map_kept script_in (with_note note) (λ x. refl) p s.senders)
    ∙ ap (λ l. recorded_by s (map script_in s.senders) l (map journal_in s.servers)) (map_kept entries_in (with_note note) (λ x. refl) p s.senders)
recorded_put (to_queue q note) s =
    ap (λ l. recorded_by s (map script_in s.senders) (map entries_in s.senders) l) (map_kept journal_in (with_event (queue_port_of_bridge, note)) (λ x. refl) q s.servers)
recorded_put (bridge.to_timers note) s = refl

recorded_tick : (e : ℕ × QueueNote) (s : Scene) → recorded (lay_tick e s) ≡ recorded s
recorded_tick e s =
    ap (λ l. recorded_by s (map script_in s.senders) (map entries_in s.senders) l) (map_kept journal_in (with_event (queue_port_of_timers, e.1)) (λ x. refl) e.0 s.servers)

recorded_out : (b t : ℕ) (x : QueuePut) (s : Scene) → recorded (lay_out b t x s) ≡ recorded s
recorded_out b t (queue.to_bridge note) s = refl
recorded_out b t (queue.to_timers note) s = refl

recorded_told : (q : ℕ) (s : Scene) → recorded (lay_told q s) ≡ recorded s
recorded_told q s = ap (λ l. recorded_by s (map script_in s.senders) (map entries_in s.senders) l) (map_kept journal_in all_told (λ x. refl) q s.servers)

pub recorded_seen : (h : Held) (s : Scene) → recorded (seen h s) ≡ recorded s
recorded_seen h s = seen_keeps recorded recorded_put recorded_tick (λ port e t. refl) recorded_out recorded_told h s
