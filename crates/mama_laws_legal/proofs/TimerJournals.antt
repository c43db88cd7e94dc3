-- In the record of a run in rounds the journals of queues have the streams of the timers.
use Rattle.std.specs.Prelude.{slice_index_or, filter, Option, None, Some, is_some}
use Rattle.std.specs.List.{flat_map, list_any}
use Rattle.std.specs.Option.{option_or}
use Rattle.std.proofs.Common.{◌≡◌, ℕ, ◌+◌, ◌<◌, ◌==◌, Bool, true, false, ◌&&◌, cond, List, [], ◌∷◌, ◌++◌, refl, sym, ◌∙◌, ap, subst, arith, ⊎_elim, append_assoc}
use Rattle.std.proofs.lemmas.Bool.{and_parts, or_left, or_right, or_cases, or_from, both_ways, eqb-true, eqb-false, eq-eqb, ne_eqb, false_from_ne_true}
use Rattle.std.proofs.lemmas.List.Folds.{list_any-append}
use Rattle.mama_journal.specs.Journal.{first_said, all_below}
use Rattle.mama_journal.specs.Lane.{by_port}
use Rattle.mama_event.specs.declared.ids.TimerId.{TimerId}
use Rattle.mama_event.specs.declared.ids.ObjectId.TheVariants.{Timer}
use Rattle.mama_event.specs.declared.order.Order.TheVariants as order
use Rattle.mama_event.specs.declared.shape.Shape.{Shape}
use Rattle.mama_event.specs.declared.to_timers.TimersNote.{TimersNote}
use Rattle.mama_event.specs.declared.to_timers.TimersNote.TheVariants as t
use Rattle.mama_event.specs.declared.to_queue.Make.TheVariants as make
use Rattle.mama_event.specs.declared.to_queue.QueueNote.{QueueNote}
use Rattle.mama_event.specs.declared.to_queue.QueueNote.TheVariants as q
use Rattle.mama_event.specs.Ports.{clients_of, queues_of}
use Rattle.mama_event.specs.Object.{same_timer}
use Rattle.mama_rules_services.specs.Bridge.{bridge_puts}
use Rattle.mama_rules_services.specs.Bridge as bridging
use Rattle.mama_rules_services.specs.Timers.{TimersEvent, arms, no_event, from_client, from_queue, from_bridge, put_by, heard, terms_in, arms_timer, disarms_timer, ends_client, is_fin, has_ending, is_live, timers_puts}
use Rattle.mama_rules_services.specs.Ports.{timers_putter, queue_putter}
use Rattle.mama_rules_queue.specs.Queue.{QueuePut}
use Rattle.mama_rules_queue.specs.Queue as queue
use Rattle.mama_script.specs.declared.client.ClientLine.{ClientLine}
use Rattle.mama_script.specs.declared.client.ClientLine.TheVariants as line
use Rattle.mama_script.specs.Script.{ScriptData}
use Rattle.mama_script.specs.Tree.{IsShaped}
use Rattle.mama_record.specs.RunData.{RunData}
use Rattle.mama_rules_rounds.specs.Client.{Standing, timers_part, line_steps, after_line, steps_from}
use Rattle.mama_rules_rounds.specs.Sections.{setting_of}
use Rattle.mama_rules_legal.specs.Edges.{all_steps, client_puts, put_on_timers, put_on_queue, AreEdges}
use Rattle.mama_rules_legal.specs.Streams.{is_of, WasAlive}
use Rattle.mama_rules_legal.specs.Lines.{AreLines}
use Rattle.mama_rules_legal.specs.Ticks.{ticks, timer_stream, arming_noted, arming_put, AreTimerStreams}
use Rattle.mama_laws_legal.specs.Laws.{IsOrderly}
use Rattle.mama_laws_legal.proofs.Lists.{by_port-append}
use Rattle.mama_laws_legal.proofs.Putters.{by_timers_port, by_queue_port}
use Rattle.mama_laws_legal.proofs.Heard.{SaidLast, no_pause, part_of_steps, below_at, nothing_after}
use Rattle.mama_laws_legal.proofs.AllSent.{steps_at}
use Rattle.mama_laws_legal.proofs.LastEvents.{timers_done, timers_client, timers_ended, some_client}
use Rattle.mama_laws_legal.proofs.Lives.{said_came}
use Rattle.mama_laws_legal.proofs.QueuesThere.{queues_there}
use Rattle.mama_laws_legal.proofs.Journals.{one_port, part_stream}
use Rattle.mama_laws_legal.proofs.NoTimers.{bridge_none}
use Rattle.mama_laws_legal.proofs.TimerLives.{is_word, ending_same}
use Rattle.mama_laws_legal.proofs.ObjectJournals.{said_by_port, said_in_parts, was_alive, dead_at_ending, journal_has}
use Rattle.mama_laws_legal.proofs.TimerStreams.{timers_streams}

-- ---- what each client said last to the service

line_not_done : (queues c : ℕ) (s : Standing) (l : ClientLine) → list_any timers_done (flat_map timers_part (all_steps (line_steps queues c s l))) ≡ false
line_not_done queues c s (line.Sub topic kind queue cache recaps faults plan) = refl
line_not_done queues c s (line.Timer queue interval plan) = refl
line_not_done queues c s (line.Inbox queue faults plan) = refl
line_not_done queues c s (line.Order (order.Stop x)) = refl
line_not_done queues c s (line.Order (order.Disarm x)) = refl
line_not_done queues c s (line.Order (order.Close x)) = refl
line_not_done queues c s (line.Order (order.Ask x topic fids)) = refl
line_not_done queues c s (line.Now m) = refl
line_not_done queues c s line.NowClock = refl
line_not_done queues c s (line.Pause n) = ap (list_any timers_done) (no_pause timers_part n)

steps_said : (queues c : ℕ) (s : Standing) (ls : List ClientLine) → SaidLast timers_done (flat_map timers_part (all_steps (steps_from queues c s ls)))
steps_said queues c s [] = record { front = []; last = t.ClientDone; whole = refl; is = refl; before = refl }
steps_said queues c s (l ∷ ls) =
    let ih = steps_said queues c (after_line s l) ls in
    let here : List TimersNote = flat_map timers_part (all_steps (line_steps queues c s l)) in
    record {
      front = here ++ ih.front;
      last = ih.last;
      whole = part_of_steps timers_part (line_steps queues c s l) (steps_from queues c (after_line s l) ls)
          ∙ ap (λ (ws : List TimersNote). here ++ ws) ih.whole ∙ sym (append_assoc here ih.front (ih.last ∷ []));
      is = ih.is;
      before = list_any-append timers_done here ih.front ∙ or_from (list_any timers_done here) (list_any timers_done ih.front) (line_not_done queues c s l) ih.before;
    }

said : (script : ScriptData) (run : RunData) → IsShaped script → AreEdges script run → (c : ℕ) → c < clients_of script.shape → SaidLast timers_done (by_port c run.timers)
said script run shaped edges c small =
    let steps = steps_at (queues_of script.shape) 0 run.clients script.clients c (subst (λ (n : ℕ). c < n) shaped.clients small) in
    subst (SaidLast timers_done) (sym (edges.timers c ∙ ap (put_on_timers (setting_of script) (client_puts script run.clients) run.queues run.bridge) (timers_client script.shape c small)))
    (subst (λ (xs : List (List QueuePut)). SaidLast timers_done (flat_map timers_part (all_steps xs))) (sym steps.same) (steps_said (queues_of script.shape) steps.number steps.standing steps.lines))

-- ---- who says what

done_client : (c d : ℕ) (note : TimersNote) → ends_client c (from_client d note) ≡ true → (d ≡ c) × (timers_done note ≡ true)
done_client c d (t.Arm timer queue interval tag) h = absurd (both_ways (ends_client c (from_client d (t.Arm timer queue interval tag))) (off (timer.client == d)) h)
  where
    off : (b : Bool) → ends_client c (cond b (arms timer queue interval tag) no_event) ≡ false
    off true = refl
    off false = refl
done_client c d t.ClientDone h = (eqb-true d c h, refl)
done_client c d _ h = absurd (both_ways false refl h)

done_queue : (c k : ℕ) (note : TimersNote) → ends_client c (from_queue k note) ≡ false
done_queue c k t.Bye = refl
done_queue c k _ = refl

done_bridge : (c : ℕ) (note : TimersNote) → ends_client c (from_bridge note) ≡ false
done_bridge c t.Fin = refl
done_bridge c _ = refl

who_ends : (shape : Shape) (c port : ℕ) (note : TimersNote) → ends_client c (put_by (timers_putter shape port) note) ≡ true → (port ≡ c) × (timers_done note ≡ true)
who_ends shape c port = by_timers_port shape (λ port who. (note : TimersNote) → ends_client c (put_by who note) ≡ true → (port ≡ c) × (timers_done note ≡ true))
    (λ d within note h. done_client c d note h)
    (λ k within note h. absurd (both_ways (ends_client c (from_queue k note)) (done_queue c k note) h))
    (λ note h. absurd (both_ways (ends_client c (from_bridge note)) (done_bridge c note) h))
    (λ n past note h. absurd (both_ways false refl h)) port

heard_down : (shape : Shape) (c : ℕ) (journal : List (ℕ × TimersNote)) → list_any (ends_client c) (heard shape journal) ≡ true → list_any timers_done (by_port c journal) ≡ true
heard_down shape c [] h = absurd (both_ways false refl h)
heard_down shape c (e ∷ es) h = ⊎_elim
    (λ here. let parts = who_ends shape c e.0 e.1 here in
    ap (λ (b : Bool). list_any timers_done (cond b (e.1 ∷ by_port c es) (by_port c es))) (eq-eqb e.0 c parts.0) ∙ or_left (timers_done e.1) (list_any timers_done (by_port c es)) parts.1)
    (λ later. either (e.0 == c) (heard_down shape c es later))
    (or_cases (ends_client c (put_by (timers_putter shape e.0) e.1)) (list_any (ends_client c) (heard shape es)) h)
  where
    either : (b : Bool) → list_any timers_done (by_port c es) ≡ true → list_any timers_done (cond b (e.1 ∷ by_port c es) (by_port c es)) ≡ true
    either true h = or_right (timers_done e.1) (list_any timers_done (by_port c es)) h
    either false h = h

-- ---- which arming the service heard of

either_way : {X : Type 0} (c : Bool) (x : X) → x ≡ cond c x x
either_way true x = refl
either_way false x = refl

arms_queue : (timer : TimerId) (k : ℕ) (note : TimersNote) → terms_in timer (from_queue k note) ≡ None
arms_queue timer k t.Bye = refl
arms_queue timer k _ = refl

arms_bridge : (timer : TimerId) (note : TimersNote) → terms_in timer (from_bridge note) ≡ None
arms_bridge timer t.Fin = refl
arms_bridge timer _ = refl

arms_client : (timer : TimerId) (d : ℕ) (note : TimersNote) → terms_in timer (from_client d note) ≡ cond (d == timer.client) (arming_noted timer note) None
arms_client timer d (t.Arm r queue interval tag) = by_case (r.client == d) refl (d == timer.client) refl
  where
    by_case : (a : Bool) → (r.client == d) ≡ a → (c : Bool) → (d == timer.client) ≡ c → terms_in timer (cond a (arms r queue interval tag) no_event) ≡ cond c (cond (same_timer r timer) (Some (queue, interval)) None) None
    by_case true own true here = refl
    by_case true own false other = ap (λ (x : Bool). cond {A = Option (ℕ × ℕ)} (x && r.number == timer.number) (Some (queue, interval)) None)
        (ne_eqb r.client timer.client (λ is. both_ways (d == timer.client) other (eq-eqb d timer.client (sym (eqb-true r.client d own) ∙ is))))
    by_case false own true here = sym (ap (λ (x : Bool). cond {A = Option (ℕ × ℕ)} (x && r.number == timer.number) (Some (queue, interval)) None)
        (ne_eqb r.client timer.client (λ is. eqb-false r.client d own (is ∙ sym (eqb-true d timer.client here)))))
    by_case false own false other = refl
arms_client timer d _ = either_way (d == timer.client) None

terms_by : (shape : Shape) (timer : TimerId) → timer.client < clients_of shape → (port : ℕ) (note : TimersNote) → terms_in timer (put_by (timers_putter shape port) note) ≡ cond (port == timer.client) (arming_noted timer note) None
terms_by shape timer small = by_timers_port shape (λ port who. (note : TimersNote) → terms_in timer (put_by who note) ≡ cond (port == timer.client) (arming_noted timer note) None)
    (λ d within note. arms_client timer d note)
    (λ k within note. arms_queue timer k note ∙ ap (λ (c : Bool). cond c (arming_noted timer note) None) (sym (ne_eqb (clients_of shape + k) timer.client (λ is. absurd (omega arith)))))
    (λ note. arms_bridge timer note ∙ ap (λ (c : Bool). cond c (arming_noted timer note) None) (sym (ne_eqb (clients_of shape + queues_of shape) timer.client (λ is. absurd (omega arith)))))
    (λ n past note. ap (λ (c : Bool). cond c (arming_noted timer note) None) (sym (ne_eqb n timer.client (λ is. absurd (omega arith)))))

arming_heard : (shape : Shape) (timer : TimerId) → timer.client < clients_of shape → (journal : List (ℕ × TimersNote)) → first_said (terms_in timer) (heard shape journal) ≡ first_said (arming_noted timer) (by_port timer.client journal)
arming_heard shape timer small journal = said_by_port (λ port note. put_by (timers_putter shape port) note) (terms_in timer) (arming_noted timer) timer.client (terms_by shape timer small) journal

arming_said : (timer : TimerId) (puts : List QueuePut) → first_said (arming_noted timer) (flat_map timers_part puts) ≡ first_said (arming_put timer) puts
arming_said timer puts = said_in_parts timers_part (arming_noted timer) (arming_put timer) one puts
  where
    keep : (o : Option (ℕ × ℕ)) → option_or o None ≡ o
    keep None = refl
    keep (Some x) = refl

    one : (put : QueuePut) → first_said (arming_noted timer) (timers_part put) ≡ arming_put timer put
    one (queue.to_bridge note) = refl
    one (queue.to_timers note) = keep (arming_noted timer note)

-- ---- what was armed was live

arms_from : (d : ℕ) (timer : TimerId) (port : ℕ) (shape : Shape) (note : TimersNote) → arms_timer timer (put_by (timers_putter shape port) note) ≡ true → port < clients_of shape
arms_from d timer port shape = by_timers_port shape (λ port who. (note : TimersNote) → arms_timer timer (put_by who note) ≡ true → port < clients_of shape)
    (λ c within note h. within)
    (λ k within note h. absurd (both_ways (is_some (terms_in timer (from_queue k note))) (ap is_some (arms_queue timer k note)) h))
    (λ note h. absurd (both_ways (is_some (terms_in timer (from_bridge note))) (ap is_some (arms_bridge timer note)) h))
    (λ n past note h. absurd (both_ways false refl h)) port

no_late_arm : (shape : Shape) (timer : TimerId) (before : List (ℕ × TimersNote)) (e : ℕ × TimersNote) (after : List (ℕ × TimersNote))
    → ((c : ℕ) → c < clients_of shape → SaidLast timers_done (by_port c (before ++ e ∷ after))) → has_ending shape (heard shape before) ≡ true → arms_timer timer (put_by (timers_putter shape e.0) e.1) ≡ false
no_late_arm shape timer before e after said ended = false_from_ne_true (arms_timer timer (put_by (timers_putter shape e.0) e.1)) (λ arming.
    let small : e.0 < clients_of shape = arms_from 0 timer e.0 shape e.1 arming in
    let last = said e.0 small in
    let all = (and_parts (all_below (clients_of shape) (λ c. list_any (ends_client c) (heard shape before))) (list_any is_fin (heard shape before)) ended).0 in
    let there : list_any timers_done (by_port e.0 before) ≡ true = heard_down shape e.0 before (below_at (clients_of shape) (λ c. list_any (ends_client c) (heard shape before)) e.0 small all) in
    let split : by_port e.0 before ++ e.1 ∷ by_port e.0 after ≡ last.front ++ last.last ∷ [] =
    ap (λ (b : Bool). by_port e.0 before ++ cond b (e.1 ∷ by_port e.0 after) (by_port e.0 after)) (sym (eq-eqb e.0 e.0 refl)) ∙ sym (by_port-append e.0 before (e ∷ after)) ∙ last.whole in
    both_ways (list_any timers_done (by_port e.0 before)) (nothing_after timers_done (by_port e.0 before) e.1 (by_port e.0 after) last.front last.last split last.before) there)

arms_no_word : (timer : TimerId) (e : TimersEvent) → arms_timer timer e ≡ true → is_word e ≡ false
arms_no_word timer (arms r queue interval tag) h = refl
arms_no_word timer _ h = absurd (both_ways false refl h)

was_armed : (shape : Shape) (timer : TimerId) (journal : List (ℕ × TimersNote))
    → ((before : List (ℕ × TimersNote)) (e : ℕ × TimersNote) (after : List (ℕ × TimersNote)) → journal ≡ before ++ e ∷ after → has_ending shape (heard shape before) ≡ true → arms_timer timer (put_by (timers_putter shape e.0) e.1) ≡ false)
    → list_any (arms_timer timer) (heard shape journal) ≡ true → WasAlive (is_live shape timer) (heard shape journal)
was_armed shape timer journal timely came =
    was_alive (λ port note. put_by (timers_putter shape port) note) (arms_timer timer) (disarms_timer timer) (has_ending shape) (λ es x armed. ending_same shape es x (arms_no_word timer x armed)) journal timely came

-- ---- from the service's puts to a queue's journal

part_of_timer : (timer : TimerId) (k : ℕ) (outs : List (ℕ × QueueNote)) → filter (is_of (Timer timer)) (by_port k outs) ≡ by_port k (timer_stream timer outs)
part_of_timer timer k [] = refl
part_of_timer timer k (x ∷ outs) = by_case (x.0 == k) refl (is_of (Timer timer) x.1) refl (part_of_timer timer k outs)
  where
    by_case : (c : Bool) → (x.0 == k) ≡ c → (d : Bool) → is_of (Timer timer) x.1 ≡ d → filter (is_of (Timer timer)) (by_port k outs) ≡ by_port k (timer_stream timer outs)
        → filter (is_of (Timer timer)) (cond c (x.1 ∷ by_port k outs) (by_port k outs)) ≡ by_port k (cond d (x ∷ timer_stream timer outs) (timer_stream timer outs))
    by_case true at true is ih = ap (λ (c : Bool). cond c (x.1 ∷ filter (is_of (Timer timer)) (by_port k outs)) (filter (is_of (Timer timer)) (by_port k outs))) is
        ∙ ap (λ (ws : List QueueNote). x.1 ∷ ws) ih ∙ ap (λ (c : Bool). cond c (x.1 ∷ by_port k (timer_stream timer outs)) (by_port k (timer_stream timer outs))) (sym at)
    by_case true at false is ih = ap (λ (c : Bool). cond c (x.1 ∷ filter (is_of (Timer timer)) (by_port k outs)) (filter (is_of (Timer timer)) (by_port k outs))) is ∙ ih
    by_case false at true is ih = ih ∙ ap (λ (c : Bool). cond c (x.1 ∷ by_port k (timer_stream timer outs)) (by_port k (timer_stream timer outs))) (sym at)
    by_case false at false is ih = ih

other_ports : (timer : TimerId) (shape : Shape) (run : RunData) (k : ℕ) (journal : List (ℕ × QueueNote)) (port : ℕ) → (port ≡ 1 → ⊥)
    → by_port port journal ≡ put_on_queue shape run.bridge run.timers k (queue_putter port) → filter (is_of (Timer timer)) (by_port port journal) ≡ []
other_ports timer shape run k journal port apart put = ap (filter (is_of (Timer timer))) put
    ∙ by_queue_port (λ n who. (n ≡ 1 → ⊥) → filter (is_of (Timer timer)) (put_on_queue shape run.bridge run.timers k who) ≡ [])
    (λ away. part_stream (Timer timer) k (bridge_puts shape run.bridge) ∙ ap (by_port k) (bridge_none timer shape (bridging.heard shape run.bridge)))
    (λ away. absurd (away refl)) (λ n past away. refl) port apart

pub timer_streams : (script : ScriptData) (run : RunData) → IsOrderly script → AreEdges script run → AreLines script run → AreTimerStreams script run
timer_streams script run orderly edges lines = record {
  each = λ timer terms small says.
      let shape : Shape = script.shape in
      let on = (queues_there script run orderly.within).timers timer terms says in
      let es : List TimersEvent = heard shape run.timers in
      let k : ℕ = terms.0 in
      let journal : List (ℕ × QueueNote) = slice_index_or run.queues k [] in
      let heard_terms : first_said (terms_in timer) es ≡ Some terms =
      arming_heard shape timer small run.timers
      ∙ ap (first_said (arming_noted timer)) (edges.timers timer.client ∙ ap (put_on_timers (setting_of script) (client_puts script run.clients) run.queues run.bridge) (timers_client shape timer.client small))
      ∙ arming_said timer (client_puts script run.clients timer.client) ∙ says in
      let was = was_armed shape timer run.timers
      (λ before e after whole ended. no_late_arm shape timer before e after (λ c less. subst (λ (j : List (ℕ × TimersNote)). SaidLast timers_done (by_port c j)) whole (said script run orderly.shaped edges c less)) ended)
      (said_came (terms_in timer) es terms heard_terms) in
      let dead : is_live shape timer es ≡ false = dead_at_ending (arms_timer timer) (disarms_timer timer) (has_ending shape) es (timers_ended script run orderly.shaped (some_client orderly.within.clients_some) edges lines) in
      journal_has (Timer timer) make.Timer (λ slot m. q.Tick slot timer m) (ticks shape timer es) k (timer_stream timer (timers_puts shape run.timers)) journal
      (one_port (Timer timer) 1 journal (λ port apart. other_ports timer shape run k journal port apart (edges.queues k on port))
      ∙ ap (filter (is_of (Timer timer))) (edges.queues k on 1) ∙ part_of_timer timer k (timers_puts shape run.timers))
      (timers_streams shape run.timers timer terms was dead heard_terms);
}
