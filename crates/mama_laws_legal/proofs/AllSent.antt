-- In the record of a run in rounds each line of the script was done.
use Rattle.std.specs.Prelude.{slice_index_or}
use Rattle.std.specs.List.{flat_map, list_any}
use Rattle.std.proofs.Common.{◌≡◌, ℕ, zero, suc, ◌+◌, ◌<◌, Bool, true, false, List, [], ◌∷◌, ◌++◌, length, map, refl, sym, ◌∙◌, ap, subst, arith, append-nil, append_assoc}
use Rattle.std.proofs.lemmas.Bool.{and_from, or_right, both_ways, false_from_ne_true}
use Rattle.std.proofs.lemmas.List.{length-map, map-append}
use Rattle.std.proofs.lemmas.List.Folds.{list_any-append}
use Rattle.mama_journal.specs.Journal.{all_puts, all_below}
use Rattle.mama_journal.specs.Lane.{by_port}
use Rattle.mama_event.specs.declared.shape.Shape.{Shape}
use Rattle.mama_event.specs.declared.to_bridge.BridgeNote.{BridgeNote}
use Rattle.mama_event.specs.declared.to_publisher.PublisherNote.{PublisherNote}
use Rattle.mama_event.specs.declared.to_publisher.PublisherNote.TheVariants.{Want, Ask, Settle, Fin}
use Rattle.mama_event.specs.declared.publisher_entry.PublisherEntry.{PublisherEntry}
use Rattle.mama_event.specs.declared.publisher_entry.PublisherEntry.TheVariants.{Send, Done, Took}
use Rattle.mama_event.specs.Ports.{clients_of, publishers_of, queues_of}
use Rattle.mama_event.specs.Publisher.{PublisherScript, SendLine, publisher_puts}
use Rattle.mama_rules_services.specs.Bridge.{BridgeEvent, bridge_puts, bridge_reaction, heard, put_by, is_settling, has_ending, ends_client, ends_sends, settles}
use Rattle.mama_rules_services.specs.Ports.{bridge_putter}
use Rattle.mama_rules_queue.specs.Queue.{QueuePut}
use Rattle.mama_script.specs.declared.client.ClientLine.{ClientLine}
use Rattle.mama_script.specs.Script.{ScriptData}
use Rattle.mama_script.specs.Tree.{IsShaped, topic_of_part}
use Rattle.mama_record.specs.RunData.{RunData}
use Rattle.mama_rules_rounds.specs.Client.{Standing, at_first, bridge_part, steps_from}
use Rattle.mama_rules_rounds.specs.Setting.{Setting, no_section}
use Rattle.mama_rules_rounds.specs.Sections.{all_client_steps, setting_of}
use Rattle.mama_rules_rounds.specs.Round.{publisher_steps, start, IsRound}
use Rattle.mama_rules_legal.specs.Edges.{all_steps, client_puts, put_on_bridge, put_to_publisher, taken_by, AreEdges}
use Rattle.mama_rules_legal.specs.Lines.{takes_settle, AreLines, is_done}
use Rattle.mama_laws_legal.specs.Laws.{RoundsDoAllLines}
use Rattle.mama_laws_legal.proofs.Lists.{all_empty}
use Rattle.mama_journal.specs.EntryLaws.{by_entries}
use Rattle.mama_laws_legal.proofs.Stages.{rounds_keep}
use Rattle.mama_laws_legal.proofs.Whole.{nothing_at, sections_len, resting_at_start, whole_edges}
use Rattle.mama_laws_legal.proofs.Endings.{is_joining, part, tail, Told, told_more, told_none}
use Rattle.mama_laws_legal.proofs.Heard.{is_client_done, is_sends_done, is_settled, putter_client, putter_publisher, hears_client, hears_sends, hears_settled, settled_publisher, SaidLast, steps_said, said_has, no_late_join}
use Rattle.mama_laws_legal.proofs.Entries.{own_by, in_order, sends_at, has_done_at_end, sent_out}
use Rattle.mama_laws_legal.proofs.Sends.{says_done, says_settled, Sending, sending_kept}

-- ---- what the rounds leave in a publisher's journal

sending_at_start : (script : ScriptData) (moments : List (List ℕ)) (p : ℕ) → p < length script.publishers
    → Sending (setting_of script) (client_puts script moments) p (all_steps (slice_index_or (map (λ s. publisher_steps s.lines) script.publishers) p [])) (start script moments)
sending_at_start script moments p small =
    let left : List PublisherEntry = all_steps (slice_index_or (map (λ s. publisher_steps s.lines) script.publishers) p []) in
    record {
      running = (resting_at_start script moments).running;
      ordered = record {
        inside = subst (λ (n : ℕ). p < n) (sym (length-map script.publishers (λ s. []))) small;
        own = ap (λ (j : List PublisherEntry). own_by j ++ left) (nothing_at script.publishers p);
        order = ap in_order (nothing_at script.publishers p);
      };
    }

-- how many publishers there are
pub count_publishers : (script : ScriptData) → IsShaped script → publishers_of script.shape ≡ length script.publishers
count_publishers script shaped = ap length shaped.publishers ∙ length-map script.publishers topic_of_part

lines_at : ScriptData → ℕ → List SendLine
lines_at script p = (slice_index_or (setting_of script).publishers p no_section).lines

record Sent (script : ScriptData) (p : ℕ) (journal : List PublisherEntry) : Type 0 where
  own : own_by journal ≡ map (λ l. Send) (slice_index_or (setting_of script).publishers p no_section).lines ++ Done ∷ []
  order : in_order journal ≡ true

sent : (script : ScriptData) (run : RunData) (p : ℕ) → IsShaped script → IsRound script run → p < length script.publishers → Sent script p (slice_index_or run.publishers p [])
sent script run p shaped is small =
    let setting : Setting = setting_of script in
    let total : ℕ → List QueuePut = client_puts script run.clients in
    let sends : List PublisherEntry = all_steps (slice_index_or (map (λ s. publisher_steps s.lines) script.publishers) p []) in
    let end : Sending setting total p sends is.last = rounds_keep setting (Sending setting total p sends)
    (sending_kept setting total p sends (subst (λ (n : ℕ). p < n) (sym (count_publishers script shaped)) small) (subst (λ (n : ℕ). p < n) (sym (sections_len 0 script.publishers)) small))
    is.count (start script run.clients) is.last is.rounds (sending_at_start script run.clients p small) in
    let journal : slice_index_or run.publishers p [] ≡ slice_index_or is.last.world.publishers p [] = ap (λ (r : RunData). slice_index_or r.publishers p []) is.told in
    record {
      own = ap own_by journal ∙ sym (append-nil (own_by (slice_index_or is.last.world.publishers p [])))
          ∙ ap (λ (steps : List (List PublisherEntry)). own_by (slice_index_or is.last.world.publishers p []) ++ all_steps steps) (sym (all_empty is.last.publishers p is.over.publishers))
          ∙ end.ordered.own ∙ sends_at 0 script.publishers p small;
      order = ap in_order journal ∙ end.ordered.order;
    }

-- ---- what each client said last

pub record AsSteps (queues : ℕ) (steps : List (List QueuePut)) : Type 0 where
  pub number : ℕ
  pub standing : Standing
  pub lines : List ClientLine
  pub same : steps ≡ steps_from queues number standing lines

pub steps_at : (queues n : ℕ) (moments : List (List ℕ)) (clients : List (List ClientLine)) (c : ℕ) → c < length clients → AsSteps queues (slice_index_or (all_client_steps queues n moments clients) c [])
steps_at queues n moments [] c small = absurd (omega arith)
steps_at queues n moments (lines ∷ rest) zero small = record { number = n; standing = at_first (slice_index_or moments n []); lines = lines; same = refl }
steps_at queues n moments (lines ∷ rest) (suc c) small = steps_at queues (suc n) moments rest c (omega arith)

pub said : (script : ScriptData) (run : RunData) → IsShaped script → AreEdges script run → (c : ℕ) → c < clients_of script.shape → SaidLast is_client_done (by_port c run.bridge)
said script run shaped edges c small =
    let steps = steps_at (queues_of script.shape) 0 run.clients script.clients c (subst (λ (n : ℕ). c < n) shaped.clients small) in
    subst (SaidLast is_client_done) (sym (edges.bridge c ∙ ap (put_on_bridge (setting_of script) (client_puts script run.clients) run.publishers run.queues) (putter_client script.shape c small)))
    (subst (λ (xs : List (List QueuePut)). SaidLast is_client_done (flat_map bridge_part (all_steps xs))) (sym steps.same) (steps_said (queues_of script.shape) steps.number steps.standing steps.lines))

-- ---- the ending comes

pub below_from : (n : ℕ) (f : ℕ → Bool) → ((k : ℕ) → k < n → f k ≡ true) → all_below n f ≡ true
below_from zero f each = refl
below_from (suc n) f each = and_from (all_below n f) (f n) (below_from n f (λ k small. each k (omega arith))) (each n (omega arith))

-- what a publisher put is what the bridge took by its port
put_by_publisher : (script : ScriptData) (run : RunData) → AreEdges script run → (p : ℕ) → p < publishers_of script.shape
    → by_port (clients_of script.shape + p) run.bridge ≡ publisher_puts (slice_index_or (setting_of script).publishers p no_section) (slice_index_or run.publishers p [])
put_by_publisher script run edges p small =
    edges.bridge (clients_of script.shape + p) ∙ ap (put_on_bridge (setting_of script) (client_puts script run.clients) run.publishers run.queues) (putter_publisher script.shape p small)

pub settling_came : (script : ScriptData) (run : RunData) → IsShaped script → IsRound script run → is_settling script.shape (heard script.shape run.bridge) ≡ true
settling_came script run shaped is =
    let shape : Shape = script.shape in
    let edges = whole_edges script run is in
    let section : ℕ → PublisherScript = λ p. slice_index_or (setting_of script).publishers p no_section in
    and_from (all_below (clients_of shape) (λ c. list_any (ends_client c) (heard shape run.bridge))) (all_below (publishers_of shape) (λ p. list_any (ends_sends p) (heard shape run.bridge)))
    (below_from (clients_of shape) (λ c. list_any (ends_client c) (heard shape run.bridge))
    (λ c small. hears_client shape c run.bridge small (said_has is_client_done (by_port c run.bridge) (said script run shaped edges c small))))
    (below_from (publishers_of shape) (λ p. list_any (ends_sends p) (heard shape run.bridge))
    (λ p small. hears_sends shape p run.bridge small (ap (list_any is_sends_done) (put_by_publisher script run edges p small)
    ∙ says_done (section p) (slice_index_or run.publishers p [])
    (has_done_at_end (section p).lines (slice_index_or run.publishers p []) (sent script run p shaped is (subst (λ (n : ℕ). p < n) (count_publishers script shaped) small)).own))))

-- what the bridge tells a publisher, where nothing is joined late
told_all : (shape : Shape) (p : ℕ) → p < publishers_of shape → (journal : List (ℕ × BridgeNote))
    → ((before : List (ℕ × BridgeNote)) (e : ℕ × BridgeNote) (after : List (ℕ × BridgeNote)) → journal ≡ before ++ e ∷ after → is_settling shape (heard shape before) ≡ true → is_joining (put_by (bridge_putter shape e.0) e.1) ≡ false)
    → Told shape p (heard shape journal) (part p (bridge_puts shape journal))
told_all shape p small journal = by_entries (λ (j : List (ℕ × BridgeNote)).
    ((before : List (ℕ × BridgeNote)) (e : ℕ × BridgeNote) (after : List (ℕ × BridgeNote)) → j ≡ before ++ e ∷ after → is_settling shape (heard shape before) ≡ true → is_joining (put_by (bridge_putter shape e.0) e.1) ≡ false)
    → Told shape p (heard shape j) (part p (bridge_puts shape j)))
    (λ timely. told_none shape p (false_from_ne_true (is_settling shape []) (λ settling. both_ways false refl (settled_publisher shape [] p small settling))))
    (λ j e ih timely. subst (λ (es : List BridgeEvent). Told shape p es (part p (all_puts (bridge_reaction shape) es))) (sym (map-append (λ (x : ℕ × BridgeNote). put_by (bridge_putter shape x.0) x.1) j (e ∷ [])))
    (told_more shape p (heard shape j) (put_by (bridge_putter shape e.0) e.1) small (timely j e [] refl)
    (ih (λ before x after same. timely before x (after ++ e ∷ []) (ap (λ (xs : List (ℕ × BridgeNote)). xs ++ e ∷ []) same ∙ append_assoc before (x ∷ after) (e ∷ [])))))) journal

pub told_end : (script : ScriptData) (run : RunData) → IsShaped script → AreEdges script run → (p : ℕ) → p < publishers_of script.shape
    → Told script.shape p (heard script.shape run.bridge) (put_to_publisher script.shape run.bridge p)
told_end script run shaped edges p small = told_all script.shape p small run.bridge
    (λ before e after same settling. no_late_join script.shape before e after
    (λ c less. subst (λ (j : List (ℕ × BridgeNote)). SaidLast is_client_done (by_port c j)) same (said script run shaped edges c less)) settling)

abbrev is_settle : PublisherNote → Bool
is_settle Settle = true
is_settle _ = false

settle_taken : (journal : List PublisherEntry) → list_any is_settle (taken_by journal) ≡ list_any takes_settle journal
settle_taken [] = refl
settle_taken (Send ∷ es) = settle_taken es
settle_taken (Done ∷ es) = settle_taken es
settle_taken (Took Settle ∷ es) = refl
settle_taken (Took Fin ∷ es) = settle_taken es
settle_taken (Took (Want s k) ∷ es) = settle_taken es
settle_taken (Took (Ask i fids) ∷ es) = settle_taken es

-- each publisher has said that it has settled
pub publisher_settled : (script : ScriptData) (run : RunData) → IsShaped script → IsRound script run → (p : ℕ) → p < publishers_of script.shape
    → list_any is_settled (by_port (clients_of script.shape + p) run.bridge) ≡ true
publisher_settled script run shaped is p small =
    let shape : Shape = script.shape in
    let edges = whole_edges script run is in
    let es : List BridgeEvent = heard shape run.bridge in
    let journal : List PublisherEntry = slice_index_or run.publishers p [] in
    let told = told_end script run shaped edges p small in
    let taken : taken_by journal ≡ told.front ++ tail true (has_ending shape es) =
    edges.publishers p (subst (λ (n : ℕ). p < n) (count_publishers script shaped) small) ∙ told.whole ∙ ap (λ (b : Bool). told.front ++ tail b (has_ending shape es)) (settling_came script run shaped is) in
    let settles : list_any takes_settle journal ≡ true =
    sym (settle_taken journal) ∙ ap (list_any is_settle) taken ∙ list_any-append is_settle told.front (tail true (has_ending shape es))
    ∙ or_right (list_any is_settle told.front) (list_any is_settle (tail true (has_ending shape es))) refl in
    ap (list_any is_settled) (put_by_publisher script run edges p small) ∙ says_settled (slice_index_or (setting_of script).publishers p no_section) journal settles

pub ending_came : (script : ScriptData) (run : RunData) → IsShaped script → IsRound script run → has_ending script.shape (heard script.shape run.bridge) ≡ true
ending_came script run shaped is =
    let es : List BridgeEvent = heard script.shape run.bridge in
    and_from (is_settling script.shape es) (all_below (publishers_of script.shape) (λ p. list_any (settles p) es)) (settling_came script run shaped is)
    (below_from (publishers_of script.shape) (λ p. list_any (settles p) es)
    (λ p small. hears_settled script.shape p run.bridge small (publisher_settled script run shaped is p small)))

pub lines_done : RoundsDoAllLines
lines_done script run shaped is =
    let shape : Shape = script.shape in
    let edges = whole_edges script run is in
    let es : List BridgeEvent = heard shape run.bridge in
    record {
      clients = is.moments;
      publishers = λ p small.
          let journal : List PublisherEntry = slice_index_or run.publishers p [] in
          let made = sent script run p shaped is small in
          let told = told_end script run shaped edges p (subst (λ (n : ℕ). p < n) (sym (count_publishers script shaped)) small) in
          sent_out (slice_index_or (setting_of script).publishers p no_section).lines journal told.front made.own made.order
          (edges.publishers p small ∙ told.whole ∙ ap (λ (b : Bool). told.front ++ tail b (has_ending shape es)) (settling_came script run shaped is)
          ∙ ap (λ (b : Bool). told.front ++ tail true b) (ending_came script run shaped is)) told.calm;
    }

-- ---- where every line was done and every edge is whole, the ending came

module _ (script : ScriptData) (run : RunData) (shaped : IsShaped script) (edges : AreEdges script run) (lines : AreLines script run) where
  abbrev journal_of : ℕ → List PublisherEntry
  journal_of p = slice_index_or run.publishers p []

  inside : (p : ℕ) → p < publishers_of script.shape → p < length script.publishers
  inside p small = subst (λ (n : ℕ). p < n) (count_publishers script shaped) small

  -- a test that passes the last part of a publisher's journal
  passes_end : (test : PublisherEntry → Bool) (p : ℕ) (small : p < publishers_of script.shape)
      → ((between : List PublisherEntry) → list_any test (Done ∷ (between ++ (Took Settle ∷ Took Fin ∷ []))) ≡ true) → list_any test (journal_of p) ≡ true
  passes_end test p small ends =
      let out = lines.publishers p (inside p small) in
      ap (list_any test) out.whole
      ∙ list_any-append test out.before (Done ∷ (out.between ++ (Took Settle ∷ Took Fin ∷ [])))
      ∙ or_right (list_any test out.before) (list_any test (Done ∷ (out.between ++ (Took Settle ∷ Took Fin ∷ [])))) (ends out.between)

  pub settling_of_lines : is_settling script.shape (heard script.shape run.bridge) ≡ true
  settling_of_lines =
      let shape : Shape = script.shape in
      and_from (all_below (clients_of shape) (λ c. list_any (ends_client c) (heard shape run.bridge))) (all_below (publishers_of shape) (λ p. list_any (ends_sends p) (heard shape run.bridge)))
      (below_from (clients_of shape) (λ c. list_any (ends_client c) (heard shape run.bridge))
      (λ c small. hears_client shape c run.bridge small (said_has is_client_done (by_port c run.bridge) (said script run shaped edges c small))))
      (below_from (publishers_of shape) (λ p. list_any (ends_sends p) (heard shape run.bridge))
      (λ p small. hears_sends shape p run.bridge small (ap (list_any is_sends_done) (put_by_publisher script run edges p small)
      ∙ says_done (slice_index_or (setting_of script).publishers p no_section) (journal_of p) (passes_end is_done p small (λ between. refl)))))

  pub settled_of_lines : (p : ℕ) → p < publishers_of script.shape → list_any is_settled (by_port (clients_of script.shape + p) run.bridge) ≡ true
  settled_of_lines p small =
      ap (list_any is_settled) (put_by_publisher script run edges p small)
      ∙ says_settled (slice_index_or (setting_of script).publishers p no_section) (journal_of p)
      (passes_end takes_settle p small (λ between. list_any-append takes_settle between (Took Settle ∷ Took Fin ∷ []) ∙ or_right (list_any takes_settle between) true refl))

  pub ending_of_lines : has_ending script.shape (heard script.shape run.bridge) ≡ true
  ending_of_lines =
      let es : List BridgeEvent = heard script.shape run.bridge in
      and_from (is_settling script.shape es) (all_below (publishers_of script.shape) (λ p. list_any (settles p) es)) settling_of_lines
      (below_from (publishers_of script.shape) (λ p. list_any (settles p) es) (λ p small. hears_settled script.shape p run.bridge small (settled_of_lines p small)))
