-- The topic that a client's lines join a subscription on is the one that its line names, and the watches of the subscription name
-- the first publisher of it.
use Rattle.std.specs.Prelude.{slice_get, slice_index, slice_index_or, filter, Option, None, Some, option_and_then, if◌then◌else◌}
use Rattle.std.specs.Option.{option_or}
use Rattle.std.specs.List.{AllByRecursion}
use Rattle.std.proofs.Common.{◌≡◌, ℕ, zero, suc, ◌+◌, ◌<◌, ◌==◌, ◌&&◌, Bool, true, false, List, [], ◌∷◌, ◌++◌, length, refl, sym, ◌∙◌, ap, arith, zero-add}
use Rattle.std.proofs.lemmas.Bool.{ne_eqb, eq-eqb, and_from}
use Rattle.std.proofs.lemmas.List.Concat.{flat_map-append}
use Rattle.mama_journal.specs.Journal.{first_said}
use Rattle.mama_event.specs.Object.{same_sub}
use Rattle.mama_event.specs.Ports.{queues_of}
use Rattle.mama_event.specs.declared.ids.SubId.{SubId}
use Rattle.mama_event.specs.declared.watch.WatchRow.{WatchRow}
use Rattle.mama_event.specs.declared.to_bridge.SubTerms.{SubTerms}
use Rattle.mama_rules_queue.specs.Queue.{QueuePut}
use Rattle.mama_script.specs.declared.client.ClientLine.{ClientLine}
use Rattle.mama_script.specs.declared.client.ClientLine.TheVariants as line
use Rattle.mama_script.specs.Script.{ScriptData}
use Rattle.mama_script.specs.Tree.{topic_in, topics_in, first_sender, sender_or_none, sender_of, HasSender, IsShaped}
use Rattle.mama_record.specs.RunData.{RunData}
use Rattle.mama_rules_rounds.specs.Client.{Planned, Standing, at_first, queue_named, after_line, line_steps, steps_from}
use Rattle.mama_rules_rounds.specs.Sections.{all_client_steps, watches_from, planned_in, setting_of}
use Rattle.mama_rules_rounds.specs.Setting.{Watched, is_on, rows_on}
use Rattle.mama_rules_legal.specs.Edges.{all_steps}
use Rattle.mama_rules_legal.specs.Streams.{terms_put, terms_of}
use Rattle.mama_laws_legal.proofs.Lives.{same_sub-is}
use Rattle.mama_laws_genuine.proofs.Elements.{all_map, all_filter, all_weaker}
use Rattle.mama_laws_genuine.proofs.Wishing.{OwnRow}
use Rattle.mama_laws_genuine.proofs.Joining.{JoinsNone, none_first, pauses, ordered, word_subs}

-- the topic of some terms
abbrev pub topic_of_terms : Option SubTerms → Option ℕ
topic_of_terms None = None
topic_of_terms (Some terms) = Some terms.topic

module _ (s : SubId) (queues c : ℕ) (own : c ≡ s.client) where
  abbrev id : ℕ → SubId
  id n = record { client = c; number = n }

  abbrev said : List QueuePut → Option ℕ
  said puts = topic_of_terms (first_said (terms_put s) puts)

  abbrev steps : Standing → List ClientLine → List QueuePut
  steps st ls = all_steps (steps_from queues c st ls)

  abbrev first_steps : Standing → ClientLine → List QueuePut
  first_steps st l = all_steps (line_steps queues c st l)

  -- what a line that joins nothing leaves is said by those behind it
  skips : (st : Standing) (l : ClientLine) (rest : List QueuePut) → JoinsNone s (first_steps st l) → said (first_steps st l ++ rest) ≡ said rest
  skips st l rest none = ap topic_of_terms (none_first s (first_steps st l) rest none)

  -- where the subscription has so many lines before it, as many are left out
  abbrev IsNext : Standing → List ClientLine → Option ℕ → Type 0
  IsNext st ls topic = (k : ℕ) → st.subs + k ≡ s.number → topic ≡ slice_get (topics_in ls) k

  own_sub : (n : ℕ) → n ≡ s.number → same_sub (id n) s ≡ true
  own_sub n is = and_from (c == s.client) (n == s.number) (eq-eqb c s.client own) (eq-eqb n s.number is)

  other_sub : (n : ℕ) → (n ≡ s.number → ⊥) → same_sub (id n) s ≡ false
  other_sub n apart = no_second (c == s.client) (n == s.number) (ne_eqb n s.number apart)
    where
      no_second : (a d : Bool) → d ≡ false → (a && d) ≡ false
      no_second true d h = h
      no_second false d h = refl

  same_place : (st : Standing) (l : ClientLine) (ls : List ClientLine) (rest : List QueuePut) → (after_line st l).subs ≡ st.subs → topic_in l ≡ []
      → JoinsNone s (first_steps st l) → IsNext (after_line st l) ls (said rest) → IsNext st (l ∷ ls) (said (first_steps st l ++ rest))
  same_place st l ls rest same no_topic none next k is =
      skips st l rest none ∙ next k (ap (λ (n : ℕ). n + k) same ∙ is) ∙ ap (λ (ts : List ℕ). slice_get (ts ++ topics_in ls) k) (sym no_topic)

  joined : (st : Standing) (l : ClientLine) (ls : List ClientLine) (rest : List QueuePut) → IsNext (after_line st l) ls (said rest)
      → IsNext st (l ∷ ls) (said (first_steps st l ++ rest))
  joined st (line.Sub topic kind queue cache recaps faults plan) ls rest next zero is =
      let terms : SubTerms = record { topic = topic; kind = kind; queue = queue_named queues st queue; cache = cache; recaps = recaps; faults = faults } in
      ap (λ (x : Bool). topic_of_terms (option_or (if x then Some terms else None) (first_said (terms_put s) rest))) (own_sub st.subs (omega arith))
  joined st (line.Sub topic kind queue cache recaps faults plan) ls rest next (suc k) is =
      let terms : SubTerms = record { topic = topic; kind = kind; queue = queue_named queues st queue; cache = cache; recaps = recaps; faults = faults } in
      ap (λ (x : Bool). topic_of_terms (option_or (if x then Some terms else None) (first_said (terms_put s) rest))) (other_sub st.subs (λ same. absurd (omega arith)))
      ∙ next k (omega arith)
  joined st (line.Timer queue interval plan) ls rest next k is = same_place st (line.Timer queue interval plan) ls rest (word_subs st queue) refl (refl, tt) next k is
  joined st (line.Inbox queue faults plan) ls rest next k is = same_place st (line.Inbox queue faults plan) ls rest (word_subs st queue) refl (refl, tt) next k is
  joined st (line.Order o) ls rest next k is = same_place st (line.Order o) ls rest refl refl (ordered s o, tt) next k is
  joined st (line.Now m) ls rest next k is = same_place st (line.Now m) ls rest refl refl (refl, tt) next k is
  joined st line.NowClock ls rest next k is = same_place st line.NowClock ls rest refl refl (refl, tt) next k is
  joined st (line.Pause n) ls rest next k is = same_place st (line.Pause n) ls rest refl refl (pauses s n) next k is

  -- the lines join the subscription on the topic of its line
  topic_said : (st : Standing) (ls : List ClientLine) → IsNext st ls (said (steps st ls))
  topic_said st [] k is = refl
  topic_said st (l ∷ ls) k is =
      ap said (flat_map-append (λ step. step) (line_steps queues c st l) (steps_from queues c (after_line st l) ls))
      ∙ joined st l ls (steps (after_line st l) ls) (topic_said (after_line st l) ls) k is

module _ (s : SubId) where
  abbrev topic_among : List (List ClientLine) → ℕ → Option ℕ
  topic_among clients k = option_and_then (λ (lines : List ClientLine). slice_get (topics_in lines) s.number) (slice_get clients k)

  client_said : (queues n : ℕ) (moments : List (List ℕ)) (clients : List (List ClientLine)) (k : ℕ) → n + k ≡ s.client
      → topic_of_terms (first_said (terms_put s) (all_steps (slice_index_or (all_client_steps queues n moments clients) k []))) ≡ topic_among clients k
  client_said queues n moments [] k is = refl
  client_said queues n moments (lines ∷ clients) zero is =
      topic_said s queues n (omega arith) (at_first (slice_index_or moments n [])) lines s.number (zero-add s.number)
  client_said queues n moments (lines ∷ clients) (suc k) is = client_said queues (suc n) moments clients k (omega arith)

  pub topic_named : (script : ScriptData) (run : RunData) (terms : SubTerms) → terms_of script run s ≡ Some terms → topic_among script.clients s.client ≡ Some terms.topic
  topic_named script run terms is = sym (client_said (queues_of script.shape) 0 run.clients script.clients s.client (zero-add s.client)) ∙ ap topic_of_terms is

-- ---- the first publisher of a topic

pub first_is : (wanted : ℕ) (topics : List ℕ) (n place : ℕ) → place < length topics → slice_index topics place ≡ wanted
    → ((k : ℕ) → k < place → slice_index topics k ≡ wanted → ⊥) → first_sender wanted n topics ≡ n + place
first_is wanted [] n place within is none = absurd (omega arith)
first_is wanted (topic ∷ topics) n zero within is none =
    let same : n ≡ n + 0 = omega arith in
    ap (λ (x : Bool). if x then n else first_sender wanted (suc n) topics) (eq-eqb topic wanted is) ∙ same
first_is wanted (topic ∷ topics) n (suc place) within is none =
    let moved : suc n + place ≡ n + suc place = omega arith in
    ap (λ (x : Bool). if x then n else first_sender wanted (suc n) topics) (ne_eqb topic wanted (λ same. none 0 (omega arith) same))
    ∙ first_is wanted topics (suc n) place (omega arith) is (λ k below same. none (suc k) (omega arith) same) ∙ moved

-- ---- the watches of a script

rows_numbered : (P : WatchRow → Type 0) (objects : List Planned) (n : ℕ) (rows : List WatchRow) → AllByRecursion P rows
    → AllByRecursion (λ (w : Watched). P w.row) (watches_from objects n rows)
rows_numbered P objects n [] all = tt
rows_numbered P objects n (row ∷ rows) all = (all.0, rows_numbered P objects (suc n) rows all.1)

-- what holds of each row holds of those on a queue
pub all_rows_on : (P : WatchRow → Type 0) (script : ScriptData) → AllByRecursion P script.watches → (q : ℕ) → AllByRecursion P (rows_on q (setting_of script).watches)
all_rows_on P script all q =
    let watches : List Watched = watches_from (planned_in script) 0 script.watches in
    all_map (λ (w : Watched). P w.row) P (λ (w : Watched). w.row) (λ w h. h) (filter (is_on q) watches)
    (all_filter (λ (w : Watched). P w.row) (is_on q) watches (rows_numbered P (planned_in script) 0 script.watches all))

-- each watch of a subscription on a topic that is first this publisher's names it
pub rows_own : (script : ScriptData) → IsShaped script → (run : RunData) (s : SubId) (terms : SubTerms) → terms_of script run s ≡ Some terms → (r : ℕ)
    → first_sender terms.topic 1 script.shape.publisher_topics ≡ r + 1 → AllByRecursion (OwnRow s (r + 1)) script.watches
rows_own script counted run s terms said r first =
    all_weaker (HasSender script) (OwnRow s (r + 1))
    (λ row is same. is ∙ ap (sender_of script) (same_sub-is row.sub s same)
    ∙ ap (sender_or_none script.shape.publisher_topics) (topic_named s script run terms said) ∙ first)
    script.watches counted.senders
