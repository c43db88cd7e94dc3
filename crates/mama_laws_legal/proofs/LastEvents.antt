-- In the record of a run in rounds every port's stream has its last event.
use Rattle.std.specs.Prelude.{slice_index_or}
use Rattle.std.specs.List.{flat_map, list_any}
use Rattle.std.proofs.Common.{◌≡◌, ℕ, ◌+◌, ◌<◌, ◌≤◌, ◌==◌, Bool, true, false, ◌&&◌, ◌||◌, cond, List, [], ◌∷◌, ◌++◌, length, refl, sym, ◌∙◌, ap, subst, arith, ⊎_elim}
use Rattle.std.proofs.lemmas.Bool.{and_parts, and_from, or_left, or_right, or_cases, both_ways, cases_eq, eq-eqb, eqb-true, false_from_ne_true}
use Rattle.std.proofs.lemmas.List.Folds.{list_any-append}
use Rattle.mama_journal.specs.Journal.{all_below, count_of}
use Rattle.mama_journal.specs.Lane.{by_port}
use Rattle.mama_event.specs.declared.shape.Shape.{Shape}
use Rattle.mama_event.specs.declared.to_bridge.BridgeNote.{BridgeNote}
use Rattle.mama_event.specs.declared.to_bridge.BridgeNote.TheVariants as b
use Rattle.mama_event.specs.declared.to_timers.TimersNote.{TimersNote}
use Rattle.mama_event.specs.declared.to_timers.TimersNote.TheVariants as t
use Rattle.mama_event.specs.declared.to_publisher.PublisherNote.TheVariants.{Settle, Fin}
use Rattle.mama_event.specs.declared.to_queue.QueueNote.TheVariants as q
use Rattle.mama_event.specs.Ports.{clients_of, publishers_of, queues_of, bridge_ports, timers_port_of_bridge}
use Rattle.mama_event.specs.ToBridge as bridge
use Rattle.mama_event.specs.ToPublisher as publisher
use Rattle.mama_event.specs.ToTimers as timers
use Rattle.mama_event.specs.ToQueue as queue
use Rattle.mama_rules_services.specs.Bridge.{bridge_puts}
use Rattle.mama_rules_services.specs.Bridge as bridging
use Rattle.mama_rules_services.specs.Timers.{TimersEvent, timers_puts}
use Rattle.mama_rules_services.specs.Timers as timing
use Rattle.mama_rules_services.specs.Ports.{Putter, ByClient, ByQueue, ByBridge, timers_putter}
use Rattle.mama_rules_queue.specs.Queue.{QueuePut, is_fin}
use Rattle.mama_script.specs.declared.client.ClientLine.{ClientLine}
use Rattle.mama_script.specs.Script.{ScriptData}
use Rattle.mama_script.specs.Tree.{IsShaped}
use Rattle.mama_record.specs.RunData.{RunData}
use Rattle.mama_rules_rounds.specs.Client.{Standing, timers_part, bridge_part, after_line, line_steps, steps_from}
use Rattle.mama_rules_rounds.specs.Setting.{timer_part, queue_part}
use Rattle.mama_rules_rounds.specs.Sections.{setting_of}
use Rattle.mama_rules_legal.specs.Edges.{all_steps, client_puts, queue_puts, put_on_bridge, put_on_timers, AreEdges}
use Rattle.mama_rules_legal.specs.Last.{HaveLast}
use Rattle.mama_rules_legal.specs.Lines.{AreLines}
use Rattle.mama_laws_legal.proofs.Putters.{by_bridge_port, by_timers_port}
use Rattle.mama_laws_legal.proofs.Endings.{tail}
use Rattle.mama_laws_legal.proofs.Heard.{is_client_done, is_settled, putter_queue, part_of_steps, said_has, settled_client}
use Rattle.mama_laws_legal.proofs.AllSent.{count_publishers, below_from, said, settling_of_lines, told_end, ending_of_lines, steps_at, settled_of_lines}
use Rattle.mama_laws_legal.proofs.Turns.{any_flat, any_port, bridge_fin_timers, bridge_fin_queue, timers_fin, queue_bye, two_fins}

any_weaker : {X : Type 0} (f g : X → Bool) (xs : List X) → ((x : X) → f x ≡ true → g x ≡ true) → list_any f xs ≡ true → list_any g xs ≡ true
any_weaker f g [] more h = h
any_weaker f g (x ∷ xs) more h = ⊎_elim (λ here. or_left (g x) (list_any g xs) (more x here)) (λ later. or_right (g x) (list_any g xs) (any_weaker f g xs more later)) (or_cases (f x) (list_any f xs) h)

client_done_last : (n : BridgeNote) → is_client_done n ≡ true → bridge.is_last n ≡ true
client_done_last b.ClientDone is = refl
client_done_last _ is = absurd (both_ways false refl is)

settled_last : (n : BridgeNote) → is_settled n ≡ true → bridge.is_last n ≡ true
settled_last b.Settled is = refl
settled_last _ is = absurd (both_ways false refl is)

-- ---- the timers' ports

pub timers_client : (shape : Shape) (c : ℕ) → c < clients_of shape → timers_putter shape c ≡ ByClient c
timers_client shape c small = by_timers_port shape (λ port who. port ≡ c → who ≡ ByClient c)
    (λ d within same. ap ByClient same)
    (λ q within same. absurd (omega arith))
    (λ same. absurd (omega arith))
    (λ port past same. absurd (omega arith)) c refl

timers_queue : (shape : Shape) (q : ℕ) → q < queues_of shape → timers_putter shape (clients_of shape + q) ≡ ByQueue q
timers_queue shape q small = by_timers_port shape (λ port who. port ≡ clients_of shape + q → who ≡ ByQueue q)
    (λ d within same. absurd (omega arith))
    (λ k within same. let is : k ≡ q = omega arith in ap ByQueue is)
    (λ same. absurd (omega arith))
    (λ port past same. absurd (omega arith)) (clients_of shape + q) refl

timers_bridge : (shape : Shape) → timers_putter shape (clients_of shape + queues_of shape) ≡ ByBridge
timers_bridge shape = by_timers_port shape (λ port who. port ≡ clients_of shape + queues_of shape → who ≡ ByBridge)
    (λ d within same. absurd (omega arith))
    (λ k within same. absurd (omega arith))
    (λ same. refl)
    (λ port past same. absurd (omega arith)) (clients_of shape + queues_of shape) refl

timing_up : (shape : Shape) (k : ℕ) (n : TimersNote → Bool) (test : TimersEvent → Bool) → ((note : TimersNote) → n note ≡ true → test (timing.put_by (timers_putter shape k) note) ≡ true)
    → (journal : List (ℕ × TimersNote)) → list_any n (by_port k journal) ≡ true → list_any test (timing.heard shape journal) ≡ true
timing_up shape k n test means [] h = absurd (both_ways false refl h)
timing_up shape k n test means (e ∷ es) h = by_case (e.0 == k) refl h (timing_up shape k n test means es)
  where
    by_case : (c : Bool) → (e.0 == k) ≡ c → list_any n (cond c (e.1 ∷ by_port k es) (by_port k es)) ≡ true
        → (list_any n (by_port k es) ≡ true → list_any test (timing.heard shape es) ≡ true) → (test (timing.put_by (timers_putter shape e.0) e.1) || list_any test (timing.heard shape es)) ≡ true
    by_case true same h ih = ⊎_elim
        (λ here. or_left (test (timing.put_by (timers_putter shape e.0) e.1)) (list_any test (timing.heard shape es)) (ap (λ (m : ℕ). test (timing.put_by (timers_putter shape m) e.1)) (eqb-true e.0 k same) ∙ means e.1 here))
        (λ later. or_right (test (timing.put_by (timers_putter shape e.0) e.1)) (list_any test (timing.heard shape es)) (ih later))
        (or_cases (n e.1) (list_any n (by_port k es)) h)
    by_case false same h ih = or_right (test (timing.put_by (timers_putter shape e.0) e.1)) (list_any test (timing.heard shape es)) (ih h)

abbrev pub timers_done : TimersNote → Bool
timers_done t.ClientDone = true
timers_done _ = false

abbrev timers_fin_note : TimersNote → Bool
timers_fin_note t.Fin = true
timers_fin_note _ = false

timers_done_last : (n : TimersNote) → timers_done n ≡ true → timers.is_last n ≡ true
timers_done_last t.ClientDone is = refl
timers_done_last _ is = absurd (both_ways false refl is)

timers_fin_last : (n : TimersNote) → timers_fin_note n ≡ true → timers.is_last n ≡ true
timers_fin_last t.Fin is = refl
timers_fin_last _ is = absurd (both_ways false refl is)

steps_done : (queues c : ℕ) (s : Standing) (ls : List ClientLine) → list_any timers_done (flat_map timers_part (all_steps (steps_from queues c s ls))) ≡ true
steps_done queues c s [] = refl
steps_done queues c s (l ∷ ls) =
    let here : List TimersNote = flat_map timers_part (all_steps (line_steps queues c s l)) in
    let rest : List TimersNote = flat_map timers_part (all_steps (steps_from queues c (after_line s l) ls)) in
    ap (list_any timers_done) (part_of_steps timers_part (line_steps queues c s l) (steps_from queues c (after_line s l) ls)) ∙ list_any-append timers_done here rest
    ∙ or_right (list_any timers_done here) (list_any timers_done rest) (steps_done queues c (after_line s l) ls)

-- ---- a record whose edges are whole and whose lines were all done

module _ (script : ScriptData) (run : RunData) (shaped : IsShaped script) (someone : 0 < length script.clients) (edges : AreEdges script run) (lines : AreLines script run) where
  client_small : 0 < clients_of script.shape
  client_small = subst (λ (n : ℕ). 0 < n) (sym shaped.clients) someone

  -- on the timers' lane
  pub timers_of_client : (c : ℕ) → c < clients_of script.shape → list_any timers_done (by_port c run.timers) ≡ true
  timers_of_client c small =
      let steps = steps_at (queues_of script.shape) 0 run.clients script.clients c (subst (λ (n : ℕ). c < n) shaped.clients small) in
      ap (list_any timers_done) (edges.timers c ∙ ap (put_on_timers (setting_of script) (client_puts script run.clients) run.queues run.bridge) (timers_client script.shape c small))
      ∙ ap (λ (xs : List (List QueuePut)). list_any timers_done (flat_map timers_part (all_steps xs))) steps.same ∙ steps_done (queues_of script.shape) steps.number steps.standing steps.lines

  -- no ending comes before the first event
  not_at_first : bridging.has_ending script.shape [] ≡ false
  not_at_first = false_from_ne_true (bridging.has_ending script.shape []) (λ ending.
      let settling = (and_parts (bridging.is_settling script.shape []) (all_below (publishers_of script.shape) (λ r. list_any (bridging.settles r) [])) ending).0 in
      both_ways false refl (settled_client script.shape [] 0 client_small settling))

  timers_not_at_first : timing.has_ending script.shape [] ≡ false
  timers_not_at_first = false_from_ne_true (timing.has_ending script.shape []) (λ ending.
      both_ways false refl (and_parts (all_below (clients_of script.shape) (λ c. list_any (timing.ends_client c) [])) false ending).1)

  bridge_ended : bridging.has_ending script.shape (bridging.heard script.shape run.bridge) ≡ true
  bridge_ended = ending_of_lines script run shaped edges lines

  fin_to_timers : list_any timers_fin_note (by_port (clients_of script.shape + queues_of script.shape) run.timers) ≡ true
  fin_to_timers =
      ap (list_any timers_fin_note) (edges.timers (clients_of script.shape + queues_of script.shape) ∙ ap (put_on_timers (setting_of script) (client_puts script run.clients) run.queues run.bridge) (timers_bridge script.shape))
      ∙ any_flat timers_fin_note timer_part (bridge_puts script.shape run.bridge)
      ∙ bridge_fin_timers script.shape (λ out. list_any timers_fin_note (timer_part out)) (bridging.heard script.shape run.bridge) refl not_at_first bridge_ended

  pub timers_ended : timing.has_ending script.shape (timing.heard script.shape run.timers) ≡ true
  timers_ended = and_from (all_below (clients_of script.shape) (λ c. list_any (timing.ends_client c) (timing.heard script.shape run.timers))) (list_any timing.is_fin (timing.heard script.shape run.timers))
      (below_from (clients_of script.shape) (λ c. list_any (timing.ends_client c) (timing.heard script.shape run.timers))
      (λ c small. timing_up script.shape c timers_done (timing.ends_client c) (λ note says. ap (λ (who : Putter). timing.ends_client c (timing.put_by who note)) (timers_client script.shape c small) ∙ done c note says) run.timers (timers_of_client c small)))
      (timing_up script.shape (clients_of script.shape + queues_of script.shape) timers_fin_note timing.is_fin
      (λ note says. ap (λ (who : Putter). timing.is_fin (timing.put_by who note)) (timers_bridge script.shape) ∙ fin note says) run.timers fin_to_timers)
    where
      done : (c : ℕ) (note : TimersNote) → timers_done note ≡ true → timing.ends_client c (timing.from_client c note) ≡ true
      done c t.ClientDone says = eq-eqb c c refl
      done c _ says = absurd (both_ways false refl says)

      fin : (note : TimersNote) → timers_fin_note note ≡ true → timing.is_fin (timing.from_bridge note) ≡ true
      fin t.Fin says = refl
      fin _ says = absurd (both_ways false refl says)

  -- on the queues' lanes
  fin_of_bridge : (q : ℕ) → q < queues_of script.shape → list_any queue.is_last (by_port 0 (slice_index_or run.queues q [])) ≡ true
  fin_of_bridge k small =
      ap (list_any queue.is_last) (edges.queues k small 0) ∙ any_flat queue.is_last (queue_part k) (bridge_puts script.shape run.bridge)
      ∙ bridge_fin_queue script.shape (λ out. list_any queue.is_last (queue_part k out)) (bridging.heard script.shape run.bridge) k small (ap (λ (c : Bool). list_any queue.is_last (cond c (q.Fin ∷ []) [])) (eq-eqb k k refl)) not_at_first bridge_ended

  fin_of_timers : (q : ℕ) → q < queues_of script.shape → list_any queue.is_last (by_port 1 (slice_index_or run.queues q [])) ≡ true
  fin_of_timers q small =
      ap (list_any queue.is_last) (edges.queues q small 1) ∙ sym (any_port queue.is_last q (timers_puts script.shape run.timers))
      ∙ timers_fin script.shape (λ x. x.0 == q && queue.is_last x.1) (timing.heard script.shape run.timers) q small (and_from (q == q) true (eq-eqb q q refl) refl) timers_not_at_first timers_ended

  byes : (q : ℕ) → q < queues_of script.shape → 2 ≤ count_of is_fin (slice_index_or run.queues q [])
  byes q small = two_fins (slice_index_or run.queues q []) (fin_of_bridge q small) (fin_of_timers q small)

  pub all_last : HaveLast script run
  all_last = record {
    bridge = by_bridge_port script.shape (λ port who. port < bridge_ports script.shape → list_any bridge.is_last (by_port port run.bridge) ≡ true)
        (λ c small within. any_weaker is_client_done bridge.is_last (by_port c run.bridge) client_done_last (said_has is_client_done (by_port c run.bridge) (said script run shaped edges c small)))
        (λ p small within. any_weaker is_settled bridge.is_last (by_port (clients_of script.shape + p) run.bridge) settled_last (settled_of_lines script run shaped edges lines p small))
        (λ q small within. ap (list_any bridge.is_last) (edges.bridge (clients_of script.shape + publishers_of script.shape + q) ∙ ap (put_on_bridge (setting_of script) (client_puts script run.clients) run.publishers run.queues) (putter_queue script.shape q small))
        ∙ any_flat bridge.is_last bridge_part (queue_puts (setting_of script) q (slice_index_or run.queues q []))
        ∙ queue_bye (setting_of script) (λ out. list_any bridge.is_last (bridge_part out)) refl q (slice_index_or run.queues q []) (byes q small))
        (λ port past within. absurd (omega arith));
    timers = by_timers_port script.shape (λ port who. port ≤ timers_port_of_bridge script.shape → list_any timers.is_last (by_port port run.timers) ≡ true)
        (λ c small within. any_weaker timers_done timers.is_last (by_port c run.timers) timers_done_last (timers_of_client c small))
        (λ q small within. ap (list_any timers.is_last) (edges.timers (clients_of script.shape + q) ∙ ap (put_on_timers (setting_of script) (client_puts script run.clients) run.queues run.bridge) (timers_queue script.shape q small))
        ∙ any_flat timers.is_last timers_part (queue_puts (setting_of script) q (slice_index_or run.queues q []))
        ∙ queue_bye (setting_of script) (λ out. list_any timers.is_last (timers_part out)) refl q (slice_index_or run.queues q []) (byes q small))
        (λ within. any_weaker timers_fin_note timers.is_last (by_port (clients_of script.shape + queues_of script.shape) run.timers) timers_fin_last fin_to_timers)
        (λ port past within. absurd (omega arith));
    publishers = λ p inside.
        let told = told_end script run shaped edges p (subst (λ (n : ℕ). p < n) (sym (count_publishers script shaped)) inside) in
        ap (list_any publisher.is_last) (edges.publishers p inside ∙ told.whole
        ∙ ap (λ (c : Bool). told.front ++ tail c (bridging.has_ending script.shape (bridging.heard script.shape run.bridge))) (settling_of_lines script run shaped edges lines)
        ∙ ap (λ (c : Bool). told.front ++ tail true c) bridge_ended)
        ∙ list_any-append publisher.is_last told.front (Settle ∷ Fin ∷ []) ∙ or_right (list_any publisher.is_last told.front) true refl;
    queues = λ q small port within. ⊎_elim
        (λ (first : port ≡ 0). subst (λ (n : ℕ). list_any queue.is_last (by_port n (slice_index_or run.queues q [])) ≡ true) (sym first) (fin_of_bridge q small))
        (λ later. let second : port ≡ 1 = omega arith in subst (λ (n : ℕ). list_any queue.is_last (by_port n (slice_index_or run.queues q [])) ≡ true) (sym second) (fin_of_timers q small))
        (cases_eq port 0);
  }

-- there is a client
pub some_client : {n : ℕ} → 1 ≤ n → 0 < n
some_client some = omega arith
