-- In a run in rounds each publisher sends all its lines, and ends with Settle and Fin.
use Rattle.std.specs.Prelude.{slice_index_or, slice_set, not, Option, None, Some}
use Rattle.std.specs.List.{list_any, list_all}
use Rattle.std.proofs.Common.{◌≡◌, ℕ, ◌+◌, ◌<◌, Bool, true, false, ◌&&◌, cond, List, [], ◌∷◌, ◌++◌, length, refl, sym, ◌∙◌, ap, subst, ⊎_elim}
use Rattle.std.proofs.lemmas.Bool.{and_parts, or_left, or_right, or_from, cases_Bool, both_ways, cases_eq}
use Rattle.std.proofs.lemmas.List.{get_or-set_same, get_or-set_other}
use Rattle.std.proofs.lemmas.List.Concat.{flat_map-append}
use Rattle.std.proofs.lemmas.List.Folds.{list_any-append}
use Rattle.mama_journal.specs.Journal.{all_puts, turns}
use Rattle.mama_journal.specs.Lane.{by_port}
use Rattle.mama_msg.specs.Field.{FieldData}
use Rattle.mama_event.specs.declared.shape.Shape.{Shape}
use Rattle.mama_event.specs.declared.to_bridge.BridgeNote.{BridgeNote}
use Rattle.mama_event.specs.declared.to_publisher.PublisherNote.{PublisherNote}
use Rattle.mama_event.specs.declared.to_publisher.PublisherNote.TheVariants.{Want, Ask, Settle, Fin}
use Rattle.mama_event.specs.declared.to_timers.TimersNote.{TimersNote}
use Rattle.mama_event.specs.declared.to_queue.QueueNote.{QueueNote}
use Rattle.mama_event.specs.declared.publisher_entry.PublisherEntry.{PublisherEntry}
use Rattle.mama_event.specs.declared.publisher_entry.PublisherEntry.TheVariants.{Send, Done, Took}
use Rattle.mama_event.specs.Ports.{clients_of, publishers_of}
use Rattle.mama_event.specs.Publisher.{PublisherScript, SendLine, Update, Recap, publisher_puts, publisher_puts_at, sent_of, answer_of}
use Rattle.mama_rules_services.specs.Bridge.{BridgeEvent, bridge_reaction, answer, heard, is_settling, has_ending, ends_sends}
use Rattle.mama_rules_queue.specs.Queue.{QueuePut}
use Rattle.mama_rules_rounds.specs.Setting.{Setting, no_section}
use Rattle.mama_rules_rounds.specs.World.{World, publisher_did, bridge_took, bridge_turn, timers_took, timers_turn, publisher_took, publisher_turn, queue_took, queue_turn}
use Rattle.mama_rules_rounds.specs.Stage.{Stage, client_stepped, client_step, entries_done, publisher_stepped, publisher_step, IsStageDrained}
use Rattle.mama_rules_legal.specs.Edges.{all_steps, put_on_bridge, put_to_publisher, taken_by}
use Rattle.mama_rules_legal.specs.Lines.{is_done, takes_settle}
use Rattle.mama_laws_legal.proofs.Lists.{within}
use Rattle.mama_journal.specs.EntryLaws.{by_entries, all_puts-push}
use Rattle.mama_laws_legal.proofs.Worlds.{Holds, bridge_turn_keeps, timers_turn_keeps, publisher_turn_keeps, queue_turn_keeps}
use Rattle.mama_laws_legal.proofs.Stages.{IsKept, drain_keeps, IsKeptByRounds}
use Rattle.mama_laws_legal.proofs.Whole.{is_own, are_own, Running, drained, client_runs, publisher_runs}
use Rattle.mama_laws_legal.proofs.Endings.{is_ending, part, part_reaction, calm_answer, settling_stays, ending_settles}
use Rattle.mama_laws_legal.proofs.Heard.{is_sends_done, is_settled, putter_publisher, heard_down, who_ends_sends, settled_publisher}
use Rattle.mama_laws_legal.proofs.Entries.{Ordered, ordered_here, ordered_other, puts_from, puts_have}

-- ---- before settling has begun, no publisher is told to settle or to end

calm_before : (shape : Shape) (n : ℕ) → n < publishers_of shape → (es : List BridgeEvent) → is_settling shape es ≡ false → list_any is_ending (part n (all_puts (bridge_reaction shape) es)) ≡ false
calm_before shape n small es = by_entries (λ (xs : List BridgeEvent). is_settling shape xs ≡ false → list_any is_ending (part n (all_puts (bridge_reaction shape) xs)) ≡ false)
    (λ yet. refl)
    (λ xs e ih yet.
    let sofar = all_puts (bridge_reaction shape) xs in
    let more = part n (answer shape xs sofar e) in
    let before : is_settling shape xs ≡ false = not_yet xs e yet in
    let not_ended : has_ending shape (xs ++ e ∷ []) ≡ false = no_ending (xs ++ e ∷ []) yet in
    ap (λ outs. list_any is_ending (part n outs)) (all_puts-push (bridge_reaction shape) xs e)
    ∙ ap (list_any is_ending) (flat_map-append _ sofar (bridge_reaction shape xs sofar e))
    ∙ list_any-append is_ending (part n sofar) (part n (bridge_reaction shape xs sofar e))
    ∙ or_from (list_any is_ending (part n sofar)) (list_any is_ending (part n (bridge_reaction shape xs sofar e))) (ih before)
    (ap (list_any is_ending) (part_reaction n shape xs sofar e small)
    ∙ ap (λ (b : Bool). list_any is_ending (more ++ (cond (b && not (is_settling shape xs)) (Settle ∷ []) [] ++ cond (turns (has_ending shape) xs e) (Fin ∷ []) []))) yet
    ∙ ap (λ (b : Bool). list_any is_ending (more ++ cond (b && not (has_ending shape xs)) (Fin ∷ []) [])) not_ended
    ∙ list_any-append is_ending more [] ∙ or_from (list_any is_ending more) false (calm_answer n shape xs sofar e) refl)) es
  where
    not_yet : (xs : List BridgeEvent) (e : BridgeEvent) → is_settling shape (xs ++ e ∷ []) ≡ false → is_settling shape xs ≡ false
    not_yet xs e yet = ⊎_elim (λ is. absurd (both_ways (is_settling shape (xs ++ e ∷ [])) yet (settling_stays shape xs (e ∷ []) is))) (λ no. no) (cases_Bool (is_settling shape xs))

    no_ending : (xs : List BridgeEvent) → is_settling shape xs ≡ false → has_ending shape xs ≡ false
    no_ending xs yet = ⊎_elim (λ is. absurd (both_ways (is_settling shape xs) yet (ending_settles shape xs is))) (λ no. no) (cases_Bool (has_ending shape xs))

-- ---- what a publisher puts, by its entries

sent_no_done : (number : ℕ) (held : List FieldData) (seq : ℕ) (l : Option SendLine) → list_any is_sends_done (sent_of number held seq l) ≡ false
sent_no_done number held seq None = refl
sent_no_done number held seq (Some (Update body)) = refl
sent_no_done number held seq (Some Recap) = refl

answer_no_done : (number : ℕ) (held : List FieldData) (seq : ℕ) (n : PublisherNote) → list_any is_sends_done (answer_of number held seq n) ≡ false
answer_no_done number held seq (Want s k) = refl
answer_no_done number held seq (Ask i fids) = refl
answer_no_done number held seq Settle = refl
answer_no_done number held seq Fin = refl

done_says : (script : PublisherScript) (before : List PublisherEntry) (e : PublisherEntry) → list_any is_sends_done (publisher_puts_at script before e) ≡ true → is_done e ≡ true
done_says script before Send h = absurd (both_ways (list_any is_sends_done (publisher_puts_at script before Send)) (sent_no_done script.number _ _ _) h)
done_says script before Done h = refl
done_says script before (Took n) h = absurd (both_ways (list_any is_sends_done (publisher_puts_at script before (Took n))) (answer_no_done script.number _ _ n) h)

pub says_done : (script : PublisherScript) (journal : List PublisherEntry) → list_any is_done journal ≡ true → list_any is_sends_done (publisher_puts script journal) ≡ true
says_done script = puts_have (publisher_puts_at script) is_sends_done is_done have
  where
    have : (before : List PublisherEntry) (e : PublisherEntry) → is_done e ≡ true → list_any is_sends_done (publisher_puts_at script before e) ≡ true
    have before Done is = refl
    have before Send is = absurd (both_ways false refl is)
    have before (Took n) is = absurd (both_ways false refl is)

pub says_settled : (script : PublisherScript) (journal : List PublisherEntry) → list_any takes_settle journal ≡ true → list_any is_settled (publisher_puts script journal) ≡ true
says_settled script = puts_have (publisher_puts_at script) is_settled takes_settle have
  where
    have : (before : List PublisherEntry) (e : PublisherEntry) → takes_settle e ≡ true → list_any is_settled (publisher_puts_at script before e) ≡ true
    have before (Took Settle) is = refl
    have before _ is = absurd (both_ways false refl is)

-- ---- what is told to settle or to end has said that it is done

done_before : (setting : Setting) (done : ℕ → List QueuePut) (p : ℕ) (w : World) (n : PublisherNote) (rest : List PublisherNote) → p < publishers_of setting.shape → p < length setting.publishers
    → slice_index_or w.to_publishers p [] ≡ n ∷ rest → Holds setting done w → is_ending n ≡ true → list_any is_done (slice_index_or w.publishers p []) ≡ true
done_before setting done p w n rest small inside is h ending =
    let shape = setting.shape in
    let j : List PublisherEntry = slice_index_or w.publishers p [] in
    let section : PublisherScript = slice_index_or setting.publishers p no_section in
    let there : list_any is_ending (put_to_publisher shape w.bridge p) ≡ true =
    ap (list_any is_ending) (sym (h.publishers p inside) ∙ ap (λ (lane : List PublisherNote). taken_by j ++ lane) is) ∙ list_any-append is_ending (taken_by j) (n ∷ rest)
    ∙ or_right (list_any is_ending (taken_by j)) (list_any is_ending (n ∷ rest)) (or_left (is_ending n) (list_any is_ending rest) ending) in
    let settling : is_settling shape (heard shape w.bridge) ≡ true =
    ⊎_elim (λ yes. yes) (λ no. absurd (both_ways (list_any is_ending (put_to_publisher shape w.bridge p)) (calm_before shape p small (heard shape w.bridge) no) there)) (cases_Bool (is_settling shape (heard shape w.bridge))) in
    let came : list_any is_sends_done (by_port (clients_of shape + p) w.bridge) ≡ true =
    heard_down shape (clients_of shape + p) is_sends_done (ends_sends p) (who_ends_sends shape p) w.bridge (settled_publisher shape (heard shape w.bridge) p small settling) in
    let put : list_any is_sends_done (publisher_puts section j) ≡ true =
    sym (ap (list_any is_sends_done) (h.bridge (clients_of shape + p) ∙ ap (put_on_bridge setting done w.publishers w.queues) (putter_publisher shape p small)))
    ∙ list_any-append is_sends_done (by_port (clients_of shape + p) w.bridge) (by_port (clients_of shape + p) w.to_bridge)
    ∙ or_left (list_any is_sends_done (by_port (clients_of shape + p) w.bridge)) (list_any is_sends_done (by_port (clients_of shape + p) w.to_bridge)) came in
    puts_from (publisher_puts_at section) is_sends_done is_done (done_says section) j put

-- ---- turns

record Both (setting : Setting) (done : ℕ → List QueuePut) (p : ℕ) (left sends : List PublisherEntry) (w : World) : Type 0 where
  holds : Holds setting done w
  ordered : Ordered p left sends w.publishers

bridge_same : (setting : Setting) (w : World) → (bridge_turn setting w).publishers ≡ w.publishers
bridge_same setting w = go w.to_bridge
  where
    go : (lane : List (ℕ × BridgeNote)) → (bridge_took setting w lane).publishers ≡ w.publishers
    go [] = refl
    go (e ∷ rest) = refl

timers_same : (setting : Setting) (w : World) → (timers_turn setting w).publishers ≡ w.publishers
timers_same setting w = go w.to_timers
  where
    go : (lane : List (ℕ × TimersNote)) → (timers_took setting w lane).publishers ≡ w.publishers
    go [] = refl
    go (e ∷ rest) = refl

queue_same : (setting : Setting) (q : ℕ) (w : World) → (queue_turn setting q w).publishers ≡ w.publishers
queue_same setting q w = go (slice_index_or w.to_queues q [])
  where
    go : (lane : List (ℕ × QueueNote)) → (queue_took setting q w lane).publishers ≡ w.publishers
    go [] = refl
    go (e ∷ rest) = refl

publisher_ordered : (setting : Setting) (done : ℕ → List QueuePut) (p : ℕ) (left sends : List PublisherEntry) (r : ℕ) (w : World) → p < publishers_of setting.shape → p < length setting.publishers
    → Holds setting done w → Ordered p left sends w.publishers → Ordered p left sends (publisher_turn setting r w).publishers
publisher_ordered setting done p left sends r w small inside h o = go (slice_index_or w.to_publishers r []) refl
  where
    go : (lane : List PublisherNote) → slice_index_or w.to_publishers r [] ≡ lane → Ordered p left sends (publisher_took setting r w lane).publishers
    go [] is = o
    go (n ∷ rest) is = ⊎_elim
        (λ (same : p ≡ r). subst (λ (k : ℕ). Ordered p left sends (slice_set w.publishers k (slice_index_or w.publishers k [] ++ Took n ∷ []))) same
        (ordered_here p left sends w.publishers (Took n)
        (done_before setting done p w n rest small inside (ap (λ (k : ℕ). slice_index_or w.to_publishers k []) same ∙ is) h) o))
        (λ apart. ordered_other p r left sends w.publishers (slice_index_or w.publishers r [] ++ Took n ∷ []) apart o)
        (cases_eq p r)

kept_both : (setting : Setting) (done : ℕ → List QueuePut) (p : ℕ) (left sends : List PublisherEntry) → p < publishers_of setting.shape → p < length setting.publishers
    → IsKept setting (Both setting done p left sends)
kept_both setting done p left sends small inside = record {
  bridge = λ w h. record { holds = bridge_turn_keeps setting done w h.holds; ordered = subst (Ordered p left sends) (sym (bridge_same setting w)) h.ordered };
  timers = λ w h. record { holds = timers_turn_keeps setting done w h.holds; ordered = subst (Ordered p left sends) (sym (timers_same setting w)) h.ordered };
  publisher = λ r w less h. record { holds = publisher_turn_keeps setting done r w less h.holds; ordered = publisher_ordered setting done p left sends r w small inside h.holds h.ordered };
  queue = λ q w less h. record { holds = queue_turn_keeps setting done q w less h.holds; ordered = subst (Ordered p left sends) (sym (queue_same setting q w)) h.ordered };
}

-- ---- steps

-- a run between two steps, and one publisher in it
pub record Sending (setting : Setting) (total : ℕ → List QueuePut) (p : ℕ) (sends : List PublisherEntry) (s : Stage) : Type 0 where
  pub running : Running setting total s
  pub ordered : Ordered p (all_steps (slice_index_or s.publishers p [])) sends s.world.publishers

entries_here : (setting : Setting) (p : ℕ) (es left sends : List PublisherEntry) (w : World) → list_all is_own es ≡ true → Ordered p (es ++ left) sends w.publishers
    → Ordered p left sends (entries_done setting p w es).publishers
entries_here setting p [] left sends w own o = o
entries_here setting p (Send ∷ es) left sends w own o = entries_here setting p es left sends (publisher_did setting p w Send) own (ordered_here p (es ++ left) sends w.publishers Send (λ h. absurd (both_ways false refl h)) o)
entries_here setting p (Done ∷ es) left sends w own o = entries_here setting p es left sends (publisher_did setting p w Done) own (ordered_here p (es ++ left) sends w.publishers Done (λ h. absurd (both_ways false refl h)) o)
entries_here setting p (Took n ∷ es) left sends w own o = absurd (both_ways false refl own)

entries_other : (setting : Setting) (p r : ℕ) (es left sends : List PublisherEntry) (w : World) → (p ≡ r → ⊥) → Ordered p left sends w.publishers → Ordered p left sends (entries_done setting r w es).publishers
entries_other setting p r [] left sends w apart o = o
entries_other setting p r (e ∷ es) left sends w apart o =
    entries_other setting p r es left sends (publisher_did setting r w e) apart (ordered_other p r left sends w.publishers (slice_index_or w.publishers r [] ++ e ∷ []) apart o)

client_sending : (setting : Setting) (p c : ℕ) (sends : List PublisherEntry) (s : Stage) → Ordered p (all_steps (slice_index_or s.publishers p [])) sends s.world.publishers
    → Ordered p (all_steps (slice_index_or (client_step setting c s).publishers p [])) sends (client_step setting c s).world.publishers
client_sending setting p c sends s o = go (slice_index_or s.clients c [])
  where
    go : (left : List (List QueuePut)) → Ordered p (all_steps (slice_index_or (client_stepped setting c s left).publishers p [])) sends (client_stepped setting c s left).world.publishers
    go [] = o
    go (step ∷ rest) = o

publisher_sending : (setting : Setting) (total : ℕ → List QueuePut) (p r : ℕ) (sends : List PublisherEntry) (s : Stage) → Running setting total s → Ordered p (all_steps (slice_index_or s.publishers p [])) sends s.world.publishers
    → Ordered p (all_steps (slice_index_or (publisher_step setting r s).publishers p [])) sends (publisher_step setting r s).world.publishers
publisher_sending setting total p r sends s running o = go (slice_index_or s.publishers r []) refl
  where
    go : (left : List (List PublisherEntry)) → slice_index_or s.publishers r [] ≡ left
        → Ordered p (all_steps (slice_index_or (publisher_stepped setting r s left).publishers p [])) sends (publisher_stepped setting r s left).world.publishers
    go [] is = o
    go (step ∷ rest) is =
        let parts = and_parts (list_all is_own step) (are_own rest) (sym (ap are_own is) ∙ running.own r) in
        ⊎_elim
        (λ (same : r ≡ p). subst (λ (k : ℕ). Ordered p (all_steps (slice_index_or (slice_set s.publishers r rest) k [])) sends (entries_done setting r s.world step).publishers) same
        (subst (λ (steps : List (List PublisherEntry)). Ordered p (all_steps steps) sends (entries_done setting r s.world step).publishers) (sym (get_or-set_same s.publishers r rest [] (within s.publishers r step rest is)))
        (subst (λ (k : ℕ). Ordered p (all_steps rest) sends (entries_done setting k s.world step).publishers) (sym same)
        (entries_here setting p step (all_steps rest) sends s.world parts.0
        (subst (λ (steps : List (List PublisherEntry)). Ordered p (all_steps steps) sends s.world.publishers) (ap (λ (k : ℕ). slice_index_or s.publishers k []) (sym same) ∙ is) o)))))
        (λ apart. subst (λ (steps : List (List PublisherEntry)). Ordered p (all_steps steps) sends (entries_done setting r s.world step).publishers)
        (sym (get_or-set_other s.publishers r p rest [] (λ same. apart (sym same))))
        (entries_other setting p r step (all_steps (slice_index_or s.publishers p [])) sends s.world (λ same. apart (sym same)) o))
        (cases_eq r p)

sending_drained : (setting : Setting) (total : ℕ → List QueuePut) (p : ℕ) (sends : List PublisherEntry) (s after : Stage) → p < publishers_of setting.shape → p < length setting.publishers
    → Sending setting total p sends s → IsStageDrained setting s after → Sending setting total p sends after
sending_drained setting total p sends s after small inside r is =
    let left : List PublisherEntry = all_steps (slice_index_or s.publishers p []) in
    record {
      running = drained setting total s after r.running is;
      ordered = subst (λ (steps : List (List (List PublisherEntry))). Ordered p (all_steps (slice_index_or steps p [])) sends after.world.publishers) (sym is.publishers)
          (drain_keeps setting (Both setting r.running.done p left sends) (kept_both setting r.running.done p left sends small inside) s.world after.world is.world
          (record { holds = r.running.world; ordered = r.ordered })).ordered;
    }

pub sending_kept : (setting : Setting) (total : ℕ → List QueuePut) (p : ℕ) (sends : List PublisherEntry) → p < publishers_of setting.shape → p < length setting.publishers
    → IsKeptByRounds setting (Sending setting total p sends)
sending_kept setting total p sends small inside = record {
  client = λ c s after less r is. sending_drained setting total p sends (client_step setting c s) after small inside
      (record { running = client_runs setting total c s less r.running; ordered = client_sending setting p c sends s r.ordered }) is;
  publisher = λ k s after less r is. sending_drained setting total p sends (publisher_step setting k s) after small inside
      (record { running = publisher_runs setting total k s less r.running; ordered = publisher_sending setting total p k sends s r.running r.ordered }) is;
}
