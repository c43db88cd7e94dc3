-- A run stays lawful from turn to turn and from step to step, and what waits first for a queue may come.
use Rattle.std.specs.Prelude.{slice_index_or}
use Rattle.std.specs.List.{flat_map}
use Rattle.std.proofs.Common.{◌≡◌, ℕ, ◌<◌, true, List, [], ◌∷◌, ◌++◌, map, length, get_or, refl, sym, ◌∙◌, ap, subst, append_assoc, arith}
use Rattle.std.proofs.lemmas.List.{length-map, get_or-map}
use Rattle.std.proofs.lemmas.List.Concat.{flat_map-append}
use Rattle.mama_journal.specs.Lane.{by_port}
use Rattle.mama_event.specs.declared.to_queue.QueueNote.{QueueNote}
use Rattle.mama_event.specs.Lawful.{IsLawful}
use Rattle.mama_event.specs.LawfulLaws.{IsLawful-prefix, IsLawful-start}
use Rattle.mama_event.specs.ToBridge as bridge
use Rattle.mama_event.specs.ToTimers as timers
use Rattle.mama_event.specs.ToQueue as queue
use Rattle.mama_event.specs.Ports.{clients_of, publishers_of, queues_of}
use Rattle.mama_rules_services.specs.Bridge.{BridgePut, to_publisher, to_queue, to_timers, bridge_puts}
use Rattle.mama_rules_services.specs.Ports.{bridge_putter, timers_putter, queue_putter}
use Rattle.mama_rules_services.proofs.PutterPorts.{by_bridge_port, by_timers_port, by_queue_port}
use Rattle.mama_rules_queue.specs.Queue.{QueuePut}
use Rattle.mama_script.specs.Script.{ScriptData}
use Rattle.mama_script.specs.Tree.{IsScript, topic_of_part}
use Rattle.mama_script.specs.Within.{IsWithin}
use Rattle.mama_rules_rounds.specs.Client.{bridge_part, timers_part}
use Rattle.mama_rules_rounds.specs.Setting.{Setting}
use Rattle.mama_rules_rounds.specs.World.{World, bridge_turn, timers_turn, publisher_turn, queue_turn}
use Rattle.mama_rules_rounds.specs.Setting as world
use Rattle.mama_rules_rounds.specs.Stage.{Stage, client_step, publisher_step}
use Rattle.mama_rules_rounds.specs.Sections.{setting_of}
use Rattle.mama_rules_legal.specs.Edges.{all_steps, client_puts, put_on_bridge, put_on_timers, put_on_queue}
use Rattle.mama_laws_legal.proofs.Lists.{taken_first}
use Rattle.mama_laws_legal.proofs.Worlds.{Holds, bridge_turn_keeps, timers_turn_keeps, publisher_turn_keeps, queue_turn_keeps}
use Rattle.mama_laws_legal.proofs.Stages.{IsKeptByRounds, rounds_keep}
use Rattle.mama_laws_legal.proofs.Whole.{Running, drained, client_runs, publisher_runs, resting_at_start}
use Rattle.mama_laws_allowed.specs.Allowed.{ArePutsLawful, ClientPutsAreLawful, ClientPutsAreItsOwn}
use Rattle.mama_laws_lawful.specs.Streams as stream
use Rattle.mama_laws_lawful.specs.Laws as bridging
use Rattle.mama_laws_timers.specs.Streams as ticking
use Rattle.mama_laws_timers.specs.Laws as timing
use Rattle.mama_dispatch.specs.Coming.{LawfulMayCome}
use Rattle.mama_seats.specs.Server.{Server, first_may_come}
use Rattle.mama_seats.specs.Sender.{steps_in}
use Rattle.mama_seats.specs.Stand.{Stand}
use Rattle.mama_drive.specs.declared.held.Held.{Held}
use Rattle.mama_drive.specs.Held.{seen}
use Rattle.mama_drive.specs.Scene.{Scene, Moves, Advances, Stepped, Rounds, Plays, setting_in, world_in, stage_in, lefts, journal_in, waiting_in, AreMoments}
use Rattle.mama_drive.specs.Record.{read_in}
use Rattle.mama_drive.specs.Start.{started}
use Rattle.mama_drive.specs.Lawful.{comes_first, RunsLawfully, IsLawfulRun, LawfulRunsServe}
use Rattle.mama_drive.proofs.HeldLemmas.{settled}
use Rattle.mama_drive.proofs.StartLemmas.{starts, told_at_start, stands_length, senders_length}
use Rattle.mama_drive.proofs.RecordLemmas.{own_reads}

-- THE SAME SCENE

pub lawful_same : (a b : Scene) → b ≡ a → IsLawfulRun a → IsLawfulRun b
lawful_same a b is h = subst IsLawfulRun (sym is) h

-- once what was held is on its lanes
pub lawful_settled : (h : Held) (s before : Scene) → seen h s ≡ before → ((t : Scene) → seen h t ≡ t) → IsLawfulRun before → IsLawfulRun s
lawful_settled h s before same clear lawful = lawful_same before s (settled h s before before refl same clear) lawful

-- the mark that a record can be made changes nothing
pub ready_lawful : (s : Scene) → IsLawfulRun s → IsLawfulRun (record s { ready = true })
ready_lawful s h = record { client_count = h.client_count; sender_count = h.sender_count; heard = h.heard; runs = h.runs }

-- A TURN

turned_runs : (setting : Setting) (s : Stage) (w : World) → ((done : ℕ → List QueuePut) → Holds setting done s.world → Holds setting done w)
    → RunsLawfully setting s → RunsLawfully setting (record s { world = w })
turned_runs setting s w keeps r = record {
  total = r.total;
  allowed = r.allowed;
  running = record {
    done = r.running.done;
    steps = r.running.steps;
    publishers_len = r.running.publishers_len;
    own = r.running.own;
    world = keeps r.running.done r.running.world;
  };
}

moved_lawful : (a b : Scene) (w : World) → Moves a b w → ((done : ℕ → List QueuePut) → Holds (setting_in a) done (world_in a) → Holds (setting_in a) done w)
    → IsLawfulRun a → IsLawfulRun b
moved_lawful a b w moves keeps h =
    let shape : b.shape ≡ a.shape = ap (λ (s : Setting). s.shape) moves.setting in
    record {
      client_count = ap length moves.clients ∙ h.client_count ∙ ap clients_of (sym shape);
      sender_count = moves.sender_count ∙ h.sender_count ∙ ap publishers_of (sym shape);
      heard = moves.heard h.heard;
      runs = λ ms fit.
          let now : Stage = record (stage_in ms a) { world = w } in
          let is : stage_in ms b ≡ now =
          ap (λ (cs : List Stand). record { clients = lefts ms cs; publishers = map steps_in b.senders; world = world_in b }) moves.clients
          ∙ ap (λ l. record { clients = lefts ms a.clients; publishers = l; world = world_in b }) moves.steps
          ∙ ap (λ v. record { clients = lefts ms a.clients; publishers = map steps_in a.senders; world = v }) moves.now in
          subst (RunsLawfully (setting_in b)) (sym is)
          (subst (λ (t : Setting). RunsLawfully t now) (sym moves.setting)
          (turned_runs (setting_in a) (stage_in ms a) w keeps (h.runs ms (subst (AreMoments ms) moves.clients fit))));
    }

pub bridge_lawful : (a b : Scene) → Moves a b (bridge_turn (setting_in a) (world_in a)) → IsLawfulRun a → IsLawfulRun b
bridge_lawful a b moves h = moved_lawful a b _ moves (λ done. bridge_turn_keeps (setting_in a) done (world_in a)) h

pub timers_lawful : (a b : Scene) → Moves a b (timers_turn (setting_in a) (world_in a)) → IsLawfulRun a → IsLawfulRun b
timers_lawful a b moves h = moved_lawful a b _ moves (λ done. timers_turn_keeps (setting_in a) done (world_in a)) h

pub publisher_lawful : (p : ℕ) (a b : Scene) → p < length a.senders → Moves a b (publisher_turn (setting_in a) p (world_in a)) → IsLawfulRun a → IsLawfulRun b
publisher_lawful p a b within moves h =
    moved_lawful a b _ moves (λ done. publisher_turn_keeps (setting_in a) done p (world_in a) (subst (λ (n : ℕ). p < n) h.sender_count within)) h

-- a queue of this number is there
queue_there : (s : Scene) (q : ℕ) → IsLawfulRun s → q < length s.servers → q < queues_of s.shape
queue_there s q h within =
    subst (λ (n : ℕ). q < n) (sym (length-map s.servers journal_in) ∙ (h.runs (map read_in s.clients) (own_reads s.clients)).running.world.queues_len) within

pub queue_lawful : (q : ℕ) (a b : Scene) → q < length a.servers → Moves a b (queue_turn (setting_in a) q (world_in a)) → IsLawfulRun a → IsLawfulRun b
queue_lawful q a b within moves h = moved_lawful a b _ moves (λ done. queue_turn_keeps (setting_in a) done q (world_in a) (queue_there a q h within)) h

-- A STEP

advanced_lawful : (R : Setting → Stage → Stage → Type 0) (a b : Scene) → Advances R a b
    → ((total : ℕ → List QueuePut) (s after : Stage) → R (setting_in a) s after → Running (setting_in a) total s → Running (setting_in a) total after)
    → IsLawfulRun a → IsLawfulRun b
advanced_lawful R a b advances keeps h =
    let shape : b.shape ≡ a.shape = ap (λ (s : Setting). s.shape) advances.setting in
    record {
      client_count = advances.client_count ∙ h.client_count ∙ ap clients_of (sym shape);
      sender_count = advances.sender_count ∙ h.sender_count ∙ ap publishers_of (sym shape);
      heard = advances.heard h.heard;
      runs = λ ms fit.
          let r = h.runs ms (advances.moments ms fit) in
          subst (λ (t : Setting). RunsLawfully t (stage_in ms b)) (sym advances.setting) (record {
            total = r.total;
            allowed = r.allowed;
            running = keeps r.total (stage_in ms a) (stage_in ms b) (advances.stages ms fit) r.running;
          });
    }

pub client_lawful : (c : ℕ) (a b : Scene) → c < length a.clients → Advances (Stepped client_step c) a b → IsLawfulRun a → IsLawfulRun b
client_lawful c a b within advances h =
    advanced_lawful (Stepped client_step c) a b advances
    (λ total s after is running. subst (Running (setting_in a) total) (sym is) (client_runs (setting_in a) total c s (subst (λ (n : ℕ). c < n) h.client_count within) running)) h

pub sender_lawful : (p : ℕ) (a b : Scene) → p < length a.senders → Advances (Stepped publisher_step p) a b → IsLawfulRun a → IsLawfulRun b
sender_lawful p a b within advances h =
    advanced_lawful (Stepped publisher_step p) a b advances
    (λ total s after is running. subst (Running (setting_in a) total) (sym is) (publisher_runs (setting_in a) total p s (subst (λ (n : ℕ). p < n) h.sender_count within) running)) h

-- WHOLE ROUNDS

kept_by_rounds : (setting : Setting) (total : ℕ → List QueuePut) → IsKeptByRounds setting (Running setting total)
kept_by_rounds setting total = record {
  client = λ c s after small r is. drained setting total (client_step setting c s) after (client_runs setting total c s small r) is;
  publisher = λ p s after small r is. drained setting total (publisher_step setting p s) after (publisher_runs setting total p s small r) is;
}

pub played_lawful : (a b : Scene) → Plays a b → IsLawfulRun a → IsLawfulRun b
played_lawful a b plays h =
    advanced_lawful (Rounds plays.count) a b plays.rounds
    (λ total s after is running. rounds_keep (setting_in a) (Running (setting_in a) total) (kept_by_rounds (setting_in a) total) plays.count s after is running) h

-- THE START

pub started_lawful : ClientPutsAreLawful → ClientPutsAreItsOwn → (script : ScriptData) → IsScript script → IsWithin script → IsLawfulRun (started (setting_of script).objects script)
started_lawful lawful own script is within =
    let first = starts script in
    let s : Scene = started (setting_of script).objects script in
    record {
      client_count = stands_length (queues_of script.shape) 0 script.clients ∙ sym is.shaped.clients;
      sender_count = senders_length 0 script.publishers ∙ sym (length-map script.publishers topic_of_part) ∙ ap length (sym is.shaped.publishers);
      heard = told_at_start _ _ _;
      runs = λ ms fit.
          subst (λ (t : Setting). RunsLawfully t (stage_in ms s)) (sym first.setting)
          (subst (RunsLawfully (setting_of script)) (sym (first.stages ms fit)) (record {
            total = client_puts script ms;
            allowed = λ c small.
                subst (ArePutsLawful script.shape.bounds) (sym (own script ms c (subst (λ (n : ℕ). c < n) is.shaped.clients small)))
                (lawful script c (slice_index_or ms c []) is.shaped within);
            running = (resting_at_start script ms).running;
          }));
    }

-- WHAT WAITS FOR A QUEUE

-- what goes to a queue is the same by the words of rounds and by those of lawful streams
parts_agree : (k : ℕ) (outs : List BridgePut) → flat_map (world.queue_part k) outs ≡ flat_map (stream.queue_part k) outs
parts_agree k [] = refl
parts_agree k (to_publisher r note ∷ outs) = parts_agree k outs
parts_agree k (to_queue n note ∷ outs) = ap (λ (xs : List QueueNote). world.queue_part k (to_queue n note) ++ xs) (parts_agree k outs)
parts_agree k (to_timers note ∷ outs) = parts_agree k outs

-- what was taken of a client's puts begins what it puts in the end
begins : {V : Type 0} (part : QueuePut → List V) (taken waiting : List V) (done left total : List QueuePut) → taken ++ waiting ≡ flat_map part done → done ++ left ≡ total
    → taken ++ (waiting ++ flat_map part left) ≡ flat_map part total
begins part taken waiting done left total is steps =
    sym (append_assoc taken waiting (flat_map part left))
    ∙ ap (λ (xs : List _). xs ++ flat_map part left) is
    ∙ sym (flat_map-append part done left)
    ∙ ap (flat_map part) steps

module _ (setting : Setting) (st : Stage) (r : RunsLawfully setting st) where
  abbrev w : World
  w = st.world

  abbrev left : ℕ → List QueuePut
  left c = all_steps (slice_index_or st.clients c [])

  by_client : (c : ℕ) → c < clients_of setting.shape → put_on_bridge setting r.running.done w.publishers w.queues (bridge_putter setting.shape c) ≡ flat_map bridge_part (r.running.done c)
  by_client c small =
      by_bridge_port setting.shape (λ n who. n < clients_of setting.shape → put_on_bridge setting r.running.done w.publishers w.queues who ≡ flat_map bridge_part (r.running.done n))
      (λ d within here. refl) (λ p within here. absurd (omega (arith, here))) (λ q within here. absurd (omega (arith, here))) (λ n past here. absurd (omega (arith, past, here))) c small

  timed_by_client : (c : ℕ) → c < clients_of setting.shape → put_on_timers setting r.running.done w.queues w.bridge (timers_putter setting.shape c) ≡ flat_map timers_part (r.running.done c)
  timed_by_client c small =
      by_timers_port setting.shape (λ n who. n < clients_of setting.shape → put_on_timers setting r.running.done w.queues w.bridge who ≡ flat_map timers_part (r.running.done n))
      (λ d within here. refl) (λ q within here. absurd (omega (arith, here))) (λ here. absurd (omega (arith, here))) (λ n past here. absurd (omega (arith, past, here))) c small

  on_bridge : stream.ClientsAreLawful setting.shape w.bridge
  on_bridge = record {
    each = λ c small. IsLawful-prefix bridge.is_last (bridge.fits setting.shape.bounds) (by_port c w.bridge) (by_port c w.to_bridge ++ flat_map bridge_part (left c))
        (subst (IsLawful bridge.is_last (bridge.fits setting.shape.bounds))
        (sym (begins bridge_part (by_port c w.bridge) (by_port c w.to_bridge) (r.running.done c) (left c) (r.total c) (r.running.world.bridge c ∙ by_client c small) (r.running.steps c)))
        (r.allowed c small).to_bridge);
  }

  on_timers : ticking.ClientsAreLawful setting.shape w.timers
  on_timers = record {
    each = λ c small. IsLawful-prefix timers.is_last (timers.fits setting.shape.bounds) (by_port c w.timers) (by_port c w.to_timers ++ flat_map timers_part (left c))
        (subst (IsLawful timers.is_last (timers.fits setting.shape.bounds))
        (sym (begins timers_part (by_port c w.timers) (by_port c w.to_timers) (r.running.done c) (left c) (r.total c) (r.running.world.timers c ∙ timed_by_client c small) (r.running.steps c)))
        (r.allowed c small).to_timers);
  }

  -- what is put on a queue's lane may be put there
  put_lawfully : bridging.LawfulClientsGetLawfulStreams → timing.LawfulClientsGetLawfulStreams → (q port : ℕ)
      → IsLawful queue.is_last (queue.fits port) (put_on_queue setting.shape w.bridge w.timers q (queue_putter port))
  put_lawfully by_bridge by_timers q port =
      by_queue_port (λ n who. IsLawful queue.is_last (queue.fits n) (put_on_queue setting.shape w.bridge w.timers q who))
      (subst (IsLawful queue.is_last (queue.fits 0)) (sym (parts_agree q (bridge_puts setting.shape w.bridge))) ((by_bridge setting.shape w.bridge on_bridge).to_queues q))
      (by_timers setting.shape w.timers q on_timers)
      (λ n past. IsLawful-start queue.is_last (queue.fits n))
      port

  -- so what waits first there may come
  pub serves : LawfulMayCome → bridging.LawfulClientsGetLawfulStreams → timing.LawfulClientsGetLawfulStreams → (q : ℕ) → q < queues_of setting.shape → comes_first q w ≡ true
  serves may_come by_bridge by_timers q small = go (slice_index_or w.to_queues q []) refl
    where
      go : (lane : List (ℕ × QueueNote)) → slice_index_or w.to_queues q [] ≡ lane → first_may_come (slice_index_or w.queues q []) lane ≡ true
      go [] is = refl
      go (e ∷ rest) is =
          let journal : List (ℕ × QueueNote) = slice_index_or w.queues q [] in
          may_come journal e (λ port.
          IsLawful-prefix queue.is_last (queue.fits port) (by_port port (journal ++ e ∷ [])) (by_port port rest)
          (subst (IsLawful queue.is_last (queue.fits port))
          (sym (taken_first port journal e rest ∙ ap (λ (ws : List (ℕ × QueueNote)). by_port port journal ++ by_port port ws) (sym is) ∙ r.running.world.queues q small port))
          (put_lawfully by_bridge by_timers q port)))

pub lawful_serve : LawfulMayCome → bridging.LawfulClientsGetLawfulStreams → timing.LawfulClientsGetLawfulStreams → LawfulRunsServe
lawful_serve may_come by_bridge by_timers s q h within =
    serves (setting_in s) (stage_in (map read_in s.clients) s) (h.runs (map read_in s.clients) (own_reads s.clients)) may_come by_bridge by_timers q (queue_there s q h within)

-- the first event on the lane of a queue's seat
pub first_at : (s old : Scene) (q : ℕ) (x : Server) → s ≡ old → q < length s.servers → x ≡ get_or s.servers q x → comes_first q (world_in old) ≡ true → first_may_come x.journal x.lane ≡ true
first_at s old q x is within at comes =
    let journal : get_or (map journal_in s.servers) q [] ≡ x.journal = get_or-map journal_in s.servers q x [] within ∙ ap journal_in (sym at) in
    let lane : get_or (map waiting_in s.servers) q [] ≡ x.lane = get_or-map waiting_in s.servers q x [] within ∙ ap waiting_in (sym at) in
    sym (ap (λ (j : List (ℕ × QueueNote)). first_may_come j (get_or (map waiting_in s.servers) q [])) journal ∙ ap (first_may_come x.journal) lane)
    ∙ ap (λ (o : Scene). comes_first q (world_in o)) is ∙ comes
