-- In the record of a run in rounds every edge is whole.
use Rattle.std.specs.Prelude.{slice_index_or, slice_set, replicate}
use Rattle.std.specs.List.{flat_map, list_all}
use Rattle.std.proofs.Common.{◌≡◌, ℕ, zero, suc, ◌<◌, ◌==◌, Bool, true, false, cond, List, [], ◌∷◌, ◌++◌, length, map, refl, sym, ◌∙◌, ap, subst, arith, ⊎_elim, append-nil, append_assoc}
use Rattle.std.proofs.lemmas.Bool.{cases_eq, eq-eqb, ne_eqb, and_parts, false≢true}
use Rattle.std.proofs.lemmas.List.{length-map, length-set, length_push, get_or-set_same, get_or-set_other}
use Rattle.mama_journal.specs.Journal.{numbers_below}
use Rattle.mama_journal.specs.Lane.{by_port}
use Rattle.mama_event.specs.declared.publisher_entry.PublisherEntry.{PublisherEntry}
use Rattle.mama_event.specs.declared.publisher_entry.PublisherEntry.TheVariants.{Send, Done, Took}
use Rattle.mama_event.specs.declared.to_publisher.PublisherNote.{PublisherNote}
use Rattle.mama_event.specs.declared.to_queue.QueueNote.{QueueNote}
use Rattle.mama_event.specs.Ports.{clients_of, publishers_of, queues_of}
use Rattle.mama_event.specs.Publisher.{publisher_puts}
use Rattle.mama_rules_services.specs.Ports.{bridge_putter, timers_putter}
use Rattle.mama_rules_queue.specs.Queue.{QueuePut}
use Rattle.mama_script.specs.declared.publisher.PublisherLine.{PublisherLine}
use Rattle.mama_script.specs.declared.publisher.PublisherLine.TheVariants as line
use Rattle.mama_script.specs.declared.publisher.PublisherPart.{PublisherPart}
use Rattle.mama_script.specs.Script.{ScriptData}
use Rattle.mama_record.specs.RunData.{RunData}
use Rattle.mama_rules_rounds.specs.Client.{bridge_part, timers_part}
use Rattle.mama_rules_rounds.specs.Setting.{Setting, no_section}
use Rattle.mama_rules_rounds.specs.World.{World, publisher_did, is_empty, IsQuiet}
use Rattle.mama_rules_rounds.specs.Stage.{Stage, client_stepped, client_step, entries_done, publisher_stepped, publisher_step, IsStageDrained, IsOver}
use Rattle.mama_rules_rounds.specs.Sections.{publishers_from, setting_of}
use Rattle.mama_rules_rounds.specs.Round.{publisher_line_steps, publisher_steps, no_journals, start, record_of, IsRound}
use Rattle.mama_rules_legal.specs.Edges.{all_steps, client_puts, queue_puts, put_on_bridge, put_on_timers, put_on_queue, taken_in, taken_by, AreEdges}
use Rattle.mama_rules_legal.specs.Calls.{AreCalls, AreLists}
use Rattle.mama_laws_legal.specs.Laws.{RoundsAreWhole, RoundsAreShaped, RoundsTellCalls}
use Rattle.mama_laws_legal.proofs.Lists.{within, all_empty}
use Rattle.mama_laws_legal.proofs.Putters.{by_bridge_port, by_timers_port, by_queue_port}
use Rattle.mama_laws_legal.proofs.Worlds.{Holds, bridge_turn_keeps, timers_turn_keeps, publisher_turn_keeps, queue_turn_keeps, client_keeps, own_keeps}
use Rattle.mama_laws_legal.proofs.Stages.{IsKept, drain_keeps, IsKeptByRounds, rounds_keep}

-- an entry that a publisher makes of its own accord
abbrev pub is_own : PublisherEntry → Bool
is_own Send = true
is_own Done = true
is_own (Took n) = false

abbrev pub are_own : List (List PublisherEntry) → Bool
are_own steps = list_all (list_all is_own) steps

-- a run between two steps: what the clients put so far and have still to put, and what holds of every lane
pub record Running (setting : Setting) (total : ℕ → List QueuePut) (s : Stage) : Type 0 where
  pub done : ℕ → List QueuePut
  pub steps : (c : ℕ) → done c ++ all_steps (slice_index_or s.clients c []) ≡ total c
  pub publishers_len : length s.publishers ≡ length setting.publishers
  pub own : (p : ℕ) → are_own (slice_index_or s.publishers p []) ≡ true
  pub world : Holds setting done s.world

-- ---- a drain

kept : (setting : Setting) (done : ℕ → List QueuePut) → IsKept setting (Holds setting done)
kept setting done = record {
  bridge = bridge_turn_keeps setting done;
  timers = timers_turn_keeps setting done;
  publisher = publisher_turn_keeps setting done;
  queue = queue_turn_keeps setting done;
}

pub drained : (setting : Setting) (total : ℕ → List QueuePut) (s after : Stage) → Running setting total s → IsStageDrained setting s after → Running setting total after
drained setting total s after r is = record {
  done = r.done;
  steps = λ c. ap (λ (steps : List (List (List QueuePut))). r.done c ++ all_steps (slice_index_or steps c [])) is.clients ∙ r.steps c;
  publishers_len = ap length is.publishers ∙ r.publishers_len;
  own = λ p. ap (λ (steps : List (List (List PublisherEntry))). are_own (slice_index_or steps p [])) is.publishers ∙ r.own p;
  world = drain_keeps setting (Holds setting r.done) (kept setting r.done) s.world after.world is.world r.world;
}

-- ---- a client's step

pub client_runs : (setting : Setting) (total : ℕ → List QueuePut) (c : ℕ) (s : Stage) → c < clients_of setting.shape → Running setting total s → Running setting total (client_step setting c s)
client_runs setting total c s small r = go (slice_index_or s.clients c []) refl
  where
    go : (left : List (List QueuePut)) → slice_index_or s.clients c [] ≡ left → Running setting total (client_stepped setting c s left)
    go [] is = r
    go (step ∷ rest) is =
        let more : ℕ → List QueuePut = λ d. cond (c == d) (r.done d ++ step) (r.done d) in
        let here : more c ≡ r.done c ++ step = ap (λ (b : Bool). cond b (r.done c ++ step) (r.done c)) (eq-eqb c c refl) in
        let others : (d : ℕ) → (c ≡ d → ⊥) → more d ≡ r.done d = λ d apart. ap (λ (b : Bool). cond b (r.done d ++ step) (r.done d)) (ne_eqb c d apart) in
        record {
          done = more;
          steps = λ d. ⊎_elim
              (λ (same : c ≡ d). subst (λ (n : ℕ). more n ++ all_steps (slice_index_or (slice_set s.clients c rest) n []) ≡ total n) same
              (ap (λ (xs : List QueuePut). xs ++ all_steps (slice_index_or (slice_set s.clients c rest) c [])) here
              ∙ ap (λ (steps : List (List QueuePut)). (r.done c ++ step) ++ all_steps steps) (get_or-set_same s.clients c rest [] (within s.clients c step rest is))
              ∙ append_assoc (r.done c) step (all_steps rest)
              ∙ ap (λ (steps : List (List QueuePut)). r.done c ++ all_steps steps) (sym is)
              ∙ r.steps c))
              (λ apart. ap (λ (xs : List QueuePut). xs ++ all_steps (slice_index_or (slice_set s.clients c rest) d [])) (others d apart)
              ∙ ap (λ (steps : List (List QueuePut)). r.done d ++ all_steps steps) (get_or-set_other s.clients c d rest [] (λ same. apart (sym same)))
              ∙ r.steps d)
              (cases_eq c d);
          publishers_len = r.publishers_len;
          own = r.own;
          world = client_keeps setting r.done more c step s.world small here others r.world;
        }

-- ---- a publisher's step

takes_none : (e : PublisherEntry) → is_own e ≡ true → taken_in e ≡ []
takes_none Send h = refl
takes_none Done h = refl
takes_none (Took n) h = absurd (false≢true h)

entries_keep : (setting : Setting) (done : ℕ → List QueuePut) (p : ℕ) (w : World) (es : List PublisherEntry) → p < publishers_of setting.shape → p < length setting.publishers
    → list_all is_own es ≡ true → Holds setting done w → Holds setting done (entries_done setting p w es)
entries_keep setting done p w [] small inside own h = h
entries_keep setting done p w (e ∷ es) small inside own h =
    let parts = and_parts (is_own e) (list_all is_own es) own in
    entries_keep setting done p (publisher_did setting p w e) es small inside parts.1 (own_keeps setting done p w e small inside (takes_none e parts.0) h)

pub publisher_runs : (setting : Setting) (total : ℕ → List QueuePut) (p : ℕ) (s : Stage) → p < publishers_of setting.shape → Running setting total s → Running setting total (publisher_step setting p s)
publisher_runs setting total p s small r = go (slice_index_or s.publishers p []) refl
  where
    go : (left : List (List PublisherEntry)) → slice_index_or s.publishers p [] ≡ left → Running setting total (publisher_stepped setting p s left)
    go [] is = r
    go (step ∷ rest) is =
        let there : p < length s.publishers = within s.publishers p step rest is in
        let parts = and_parts (list_all is_own step) (are_own rest) (sym (ap are_own is) ∙ r.own p) in
        record {
          done = r.done;
          steps = r.steps;
          publishers_len = length-set s.publishers p rest ∙ r.publishers_len;
          own = λ n. ⊎_elim
              (λ (same : p ≡ n). subst (λ (m : ℕ). are_own (slice_index_or (slice_set s.publishers p rest) m []) ≡ true) same
              (ap are_own (get_or-set_same s.publishers p rest [] there) ∙ parts.1))
              (λ apart. ap are_own (get_or-set_other s.publishers p n rest [] (λ same. apart (sym same))) ∙ r.own n)
              (cases_eq p n);
          world = entries_keep setting r.done p s.world step small (subst (λ (n : ℕ). p < n) r.publishers_len there) parts.0 r.world;
        }

-- ---- the start

pub nothing_at : {X Y : Type 0} (xs : List X) (k : ℕ) → slice_index_or (map (λ (x : X). let none : List Y = [] in none) xs) k [] ≡ []
nothing_at [] k = refl
nothing_at (x ∷ xs) zero = refl
nothing_at (x ∷ xs) (suc k) = nothing_at xs k

own_pauses : (n : ℕ) (steps : List (List PublisherEntry)) → are_own steps ≡ true → are_own (replicate n [] ++ steps) ≡ true
own_pauses zero steps h = h
own_pauses (suc n) steps h = own_pauses n steps h

own_steps : (lines : List PublisherLine) → are_own (publisher_steps lines) ≡ true
own_steps [] = refl
own_steps (line.Update u ∷ lines) = own_steps lines
own_steps (line.Recap ∷ lines) = own_steps lines
own_steps (line.Pause n ∷ lines) =
    ap are_own (append_assoc (replicate n []) (flat_map publisher_line_steps lines) ((Done ∷ []) ∷ [])) ∙ own_pauses n (publisher_steps lines) (own_steps lines)

own_all : (sections : List PublisherPart) (p : ℕ) → are_own (slice_index_or (map (λ s. publisher_steps s.lines) sections) p []) ≡ true
own_all [] p = refl
own_all (s ∷ sections) zero = own_steps s.lines
own_all (s ∷ sections) (suc p) = own_all sections p

pub sections_len : (n : ℕ) (sections : List PublisherPart) → length (publishers_from n sections) ≡ length sections
sections_len n [] = refl
sections_len n (s ∷ sections) = ap suc (sections_len (suc n) sections)

numbers_len : (n : ℕ) → length (numbers_below n) ≡ n
numbers_len zero = refl
numbers_len (suc n) = length_push (numbers_below n) n ∙ omega (arith, numbers_len n)

at_start : (script : ScriptData) → Holds (setting_of script) (λ c. []) (no_journals script)
at_start script =
    let setting : Setting = setting_of script in
    let w : World = no_journals script in
    let queues_len : length w.queues ≡ queues_of script.shape = length-map (numbers_below (queues_of script.shape)) (λ q. []) ∙ numbers_len (queues_of script.shape) in
    record {
      publishers_len = length-map script.publishers (λ s. []) ∙ sym (sections_len 0 script.publishers);
      publisher_lanes = length-map script.publishers (λ s. []) ∙ sym (sections_len 0 script.publishers);
      queues_len = queues_len;
      queue_lanes = length-map (numbers_below (queues_of script.shape)) (λ q. []) ∙ numbers_len (queues_of script.shape);
      bridge = by_bridge_port script.shape (λ port who. [] ≡ put_on_bridge setting (λ c. []) w.publishers w.queues who)
          (λ c small. refl)
          (λ p small. sym (ap (publisher_puts (slice_index_or setting.publishers p no_section)) (nothing_at script.publishers p)))
          (λ q small. sym (ap (λ (j : List (ℕ × QueueNote)). flat_map bridge_part (queue_puts setting q j)) (nothing_at (numbers_below (queues_of script.shape)) q)))
          (λ port past. refl);
      timers = by_timers_port script.shape (λ port who. [] ≡ put_on_timers setting (λ c. []) w.queues [] who)
          (λ c small. refl)
          (λ q small. sym (ap (λ (j : List (ℕ × QueueNote)). flat_map timers_part (queue_puts setting q j)) (nothing_at (numbers_below (queues_of script.shape)) q)))
          refl
          (λ port past. refl);
      publishers = λ p inside. ap (λ (j : List PublisherEntry). taken_by j ++ slice_index_or w.to_publishers p []) (nothing_at script.publishers p) ∙ nothing_at script.publishers p;
      queues = λ q inside port. ap (λ (j : List (ℕ × QueueNote)). by_port port j ++ by_port port (slice_index_or w.to_queues q [])) (nothing_at (numbers_below (queues_of script.shape)) q)
          ∙ ap (by_port port) (nothing_at (numbers_below (queues_of script.shape)) q) ∙ by_queue_port (λ n who. [] ≡ put_on_queue script.shape [] [] q who) refl refl (λ n past. refl) port;
    }

all_lanes_empty : {X : Type 0} (Y : Type 0) (xs : List X) → list_all is_empty (map (λ (x : X). let none : List Y = [] in none) xs) ≡ true
all_lanes_empty Y [] = refl
all_lanes_empty Y (x ∷ xs) = all_lanes_empty Y xs

-- ---- the whole run

-- between two steps all is quiet
pub record Resting (setting : Setting) (total : ℕ → List QueuePut) (s : Stage) : Type 0 where
  pub running : Running setting total s
  pub quiet : IsQuiet s.world

kept_by_rounds : (setting : Setting) (total : ℕ → List QueuePut) → IsKeptByRounds setting (Resting setting total)
kept_by_rounds setting total = record {
  client = λ c s after small r is. record { running = drained setting total (client_step setting c s) after (client_runs setting total c s small r.running) is; quiet = is.world.quiet };
  publisher = λ p s after small r is. record { running = drained setting total (publisher_step setting p s) after (publisher_runs setting total p s small r.running) is; quiet = is.world.quiet };
}

pub resting_at_start : (script : ScriptData) (moments : List (List ℕ)) → Resting (setting_of script) (client_puts script moments) (start script moments)
resting_at_start script moments = record {
  running = record {
    done = λ c. [];
    steps = λ c. refl;
    publishers_len = length-map script.publishers (λ s. publisher_steps s.lines) ∙ sym (sections_len 0 script.publishers);
    own = own_all script.publishers;
    world = at_start script;
  };
  quiet = record {
    bridge = refl;
    timers = refl;
    publishers = all_lanes_empty PublisherNote script.publishers;
    queues = all_lanes_empty (ℕ × QueueNote) (numbers_below (queues_of script.shape));
  };
}

edges_at_end : (script : ScriptData) (moments : List (List ℕ)) (last : Stage) → Resting (setting_of script) (client_puts script moments) last → IsOver last
    → AreEdges script (record_of (setting_of script) moments last.world)
edges_at_end script moments last rest over =
    let setting : Setting = setting_of script in
    let w : World = last.world in
    let total : ℕ → List QueuePut = client_puts script moments in
    let r = rest.running in
    let all : (c : ℕ) → r.done c ≡ total c = λ c. sym (append-nil (r.done c)) ∙ ap (λ (steps : List (List QueuePut)). r.done c ++ all_steps steps) (sym (all_empty last.clients c over.clients)) ∙ r.steps c in
    let whole : r.done ≡ total = λ i c. all c i in
    record {
      bridge = λ port. sym (append-nil (by_port port w.bridge)) ∙ ap (λ lane. by_port port w.bridge ++ by_port port lane) (sym rest.quiet.bridge) ∙ r.world.bridge port
          ∙ ap (λ (done : ℕ → List QueuePut). put_on_bridge setting done w.publishers w.queues (bridge_putter script.shape port)) whole;
      timers = λ port. sym (append-nil (by_port port w.timers)) ∙ ap (λ lane. by_port port w.timers ++ by_port port lane) (sym rest.quiet.timers) ∙ r.world.timers port
          ∙ ap (λ (done : ℕ → List QueuePut). put_on_timers setting done w.queues w.bridge (timers_putter script.shape port)) whole;
      publishers = λ p inside. sym (append-nil (taken_by (slice_index_or w.publishers p [])))
          ∙ ap (λ lane. taken_by (slice_index_or w.publishers p []) ++ lane) (sym (all_empty w.to_publishers p rest.quiet.publishers))
          ∙ r.world.publishers p (subst (λ (n : ℕ). p < n) (sym (sections_len 0 script.publishers)) inside);
      queues = λ q inside port. sym (append-nil (by_port port (slice_index_or w.queues q [])))
          ∙ ap (λ lane. by_port port (slice_index_or w.queues q []) ++ by_port port lane) (sym (all_empty w.to_queues q rest.quiet.queues))
          ∙ r.world.queues q inside port;
    }

-- a run in rounds ends at rest
pub at_rest : (script : ScriptData) (run : RunData) (is : IsRound script run) → Resting (setting_of script) (client_puts script run.clients) is.last
at_rest script run is =
    let setting : Setting = setting_of script in
    let total : ℕ → List QueuePut = client_puts script run.clients in
    rounds_keep setting (Resting setting total) (kept_by_rounds setting total) is.count (start script run.clients) is.last is.rounds (resting_at_start script run.clients)

pub whole_edges : RoundsAreWhole
whole_edges script run is = subst (AreEdges script) (sym is.told) (edges_at_end script run.clients is.last (at_rest script run is) is.over)

pub shaped : RoundsAreShaped
shaped script run is =
    let world = (at_rest script run is).running.world in
    record {
      publishers = ap (λ (r : RunData). length r.publishers) is.told ∙ world.publishers_len ∙ sections_len 0 script.publishers;
      queues = ap (λ (r : RunData). length r.queues) is.told ∙ world.queues_len;
      moments = is.moments;
    }

pub calls_told : RoundsTellCalls
calls_told script run is = subst (AreCalls script) (sym is.told) (record { calls = refl; images = refl })

pub lists_told : (script : ScriptData) (run : RunData) → IsRound script run → AreLists script run
lists_told script run is = subst (AreLists script) (sym is.told) (record { groups = refl; watches = refl })
