-- A client's lines join a subscription once.
use Rattle.std.specs.Prelude.{slice_index_or, replicate, Option, None, Some, if◌then◌else◌}
use Rattle.std.specs.List.{AllByRecursion}
use Rattle.std.specs.Option.{option_or}
use Rattle.std.proofs.Common.{◌≡◌, ℕ, zero, suc, ◌+◌, ◌<◌, ◌≤◌, ◌==◌, ◌%◌, ◌&&◌, Bool, true, false, List, [], ◌∷◌, ◌++◌, length, refl, sym, ◌∙◌, ap, subst, arith, ⊎_elim}
use Rattle.std.proofs.lemmas.Bool.{ne_eqb, eqb-true, and_parts, cases_lt, cases_eq}
use Rattle.std.proofs.lemmas.List.{get_or_past}
use Rattle.std.proofs.lemmas.List.Concat.{flat_map-append}
use Rattle.mama_journal.specs.Journal.{first_said}
use Rattle.mama_event.specs.Object.{same_sub}
use Rattle.mama_event.specs.declared.ids.SubId.{SubId}
use Rattle.mama_event.specs.declared.ids.ObjectId.TheVariants.{Sub}
use Rattle.mama_event.specs.declared.order.Order.{Order}
use Rattle.mama_event.specs.declared.order.Order.TheVariants as order
use Rattle.mama_event.specs.declared.to_bridge.SubTerms.{SubTerms}
use Rattle.mama_event.specs.declared.to_bridge.BridgeNote.{BridgeNote}
use Rattle.mama_event.specs.declared.to_bridge.BridgeNote.TheVariants as b
use Rattle.mama_rules_queue.specs.Queue.{QueuePut, to_bridge, to_timers, order_put}
use Rattle.mama_script.specs.declared.client.ClientLine.{ClientLine}
use Rattle.mama_script.specs.declared.client.ClientLine.TheVariants as line
use Rattle.mama_script.specs.declared.client.QueueWord.{QueueWord}
use Rattle.mama_script.specs.declared.client.QueueWord.TheVariants.{Number, Any}
use Rattle.mama_script.specs.Script.{ScriptData}
use Rattle.mama_event.specs.Ports.{queues_of}
use Rattle.mama_rules_rounds.specs.Client.{Standing, at_first, later_moments, queue_named, after_word, after_line, line_steps, steps_from}
use Rattle.mama_rules_rounds.specs.Sections.{all_client_steps}
use Rattle.mama_rules_legal.specs.Edges.{all_steps, client_puts}
use Rattle.mama_rules_legal.specs.Streams.{terms_put}

-- each client's steps are those of its lines, and there are no more

pub length-steps : (queues n : ℕ) (moments : List (List ℕ)) (clients : List (List ClientLine)) → length (all_client_steps queues n moments clients) ≡ length clients
length-steps queues n moments [] = refl
length-steps queues n moments (lines ∷ clients) = ap suc (length-steps queues (suc n) moments clients)

-- a word leaves the count of subscriptions
pub word_subs : (st : Standing) (word : QueueWord) → (after_word st word).subs ≡ st.subs
word_subs st (Number n) = refl
word_subs st Any = refl

module _ (s : SubId) where
  abbrev pub JoinsNone : List QueuePut → Type 0
  JoinsNone puts = AllByRecursion (λ (put : QueuePut). terms_put s put ≡ None) puts

  -- each put that joins the subscription joins it with the first terms
  abbrev Says : Option SubTerms → QueuePut → Type 0
  Says first put = (terms : SubTerms) → terms_put s put ≡ Some terms → first ≡ Some terms

  abbrev JoinsOnce : List QueuePut → Type 0
  JoinsOnce puts = AllByRecursion (Says (first_said (terms_put s) puts)) puts

  none_says : (first : Option SubTerms) (puts : List QueuePut) → JoinsNone puts → AllByRecursion (Says first) puts
  none_says first [] none = tt
  none_says first (put ∷ puts) none = (λ terms is. absurd (said_nothing terms (sym none.0 ∙ is)), none_says first puts none.1)
    where
      said_nothing : (terms : SubTerms) → None ≡ Some terms → ⊥
      said_nothing terms h = cc

  pub none_first : (front rest : List QueuePut) → JoinsNone front → first_said (terms_put s) (front ++ rest) ≡ first_said (terms_put s) rest
  none_first [] rest none = refl
  none_first (put ∷ front) rest none =
      ap (λ (o : Option SubTerms). option_or o (first_said (terms_put s) (front ++ rest))) none.0 ∙ none_first front rest none.1

  says_append : (first : Option SubTerms) (front rest : List QueuePut) → AllByRecursion (Says first) front → AllByRecursion (Says first) rest → AllByRecursion (Says first) (front ++ rest)
  says_append first [] rest one two = two
  says_append first (put ∷ front) rest one two = (one.0, says_append first front rest one.1 two)

  skipped : (front rest : List QueuePut) → JoinsNone front → JoinsOnce rest → JoinsOnce (front ++ rest)
  skipped front rest none once =
      subst (λ (first : Option SubTerms). AllByRecursion (Says first) (front ++ rest)) (sym (none_first front rest none))
      (says_append (first_said (terms_put s) rest) front rest (none_says (first_said (terms_put s) rest) front none) once)

  none_append : (front rest : List QueuePut) → JoinsNone front → JoinsNone rest → JoinsNone (front ++ rest)
  none_append [] rest one two = two
  none_append (put ∷ front) rest one two = (one.0, none_append front rest one.1 two)

  -- ---- lines

  pub pauses : (n : ℕ) → JoinsNone (all_steps (replicate n []))
  pauses zero = tt
  pauses (suc n) = pauses n

  pub ordered : (o : Order) → terms_put s (order_put o) ≡ None
  ordered (order.Stop sub) = refl
  ordered (order.Disarm timer) = refl
  ordered (order.Close inbox) = refl
  ordered (order.Ask inbox topic fids) = refl

  pub not_same : (terms : SubTerms) (c : Bool) → c ≡ false → (if c then Some terms else None) ≡ None
  not_same terms c other = ap (λ (x : Bool). if x then Some terms else None) other

  module _ (queues c : ℕ) where
    abbrev id : ℕ → SubId
    id n = record { client = c; number = n }

    abbrev steps : Standing → List ClientLine → List QueuePut
    steps st ls = all_steps (steps_from queues c st ls)

    abbrev own : Standing → ClientLine → List QueuePut
    own st l = all_steps (line_steps queues c st l)

    more : (st : Standing) (l : ClientLine) (ls : List ClientLine) → steps st (l ∷ ls) ≡ own st l ++ steps (after_line st l) ls
    more st l ls = flat_map-append (λ step. step) (line_steps queues c st l) (steps_from queues c (after_line st l) ls)

    abbrev Past : Standing → Type 0
    Past st = (n : ℕ) → st.subs ≤ n → same_sub (id n) s ≡ false

    later : (st : Standing) (l : ClientLine) (rest : List QueuePut) → (after_line st l).subs ≡ st.subs → JoinsNone (own st l) → Past st
        → (Past (after_line st l) → JoinsNone rest) → JoinsNone (own st l ++ rest)
    later st l rest same front past more = none_append (own st l) rest front (more (λ n above. past n (subst (λ (k : ℕ). k ≤ n) same above)))

    none_by : (st : Standing) (l : ClientLine) (rest : List QueuePut) → Past st → (Past (after_line st l) → JoinsNone rest) → JoinsNone (own st l ++ rest)
    none_by st (line.Sub topic kind queue cache recaps faults plan) rest past more =
        let terms : SubTerms = record { topic = topic; kind = kind; queue = queue_named queues st queue; cache = cache; recaps = recaps; faults = faults } in
        (not_same terms (same_sub (id st.subs) s) (past st.subs (omega arith)), more (λ n above. past n (omega arith)))
    none_by st (line.Timer queue interval plan) rest past more = later st (line.Timer queue interval plan) rest (word_subs st queue) (refl, tt) past more
    none_by st (line.Inbox queue faults plan) rest past more = later st (line.Inbox queue faults plan) rest (word_subs st queue) (refl, tt) past more
    none_by st (line.Order o) rest past more = later st (line.Order o) rest refl (ordered o, tt) past more
    none_by st (line.Now m) rest past more = later st (line.Now m) rest refl (refl, tt) past more
    none_by st line.NowClock rest past more = later st line.NowClock rest refl (refl, tt) past more
    none_by st (line.Pause n) rest past more = later st (line.Pause n) rest refl (pauses n) past more

    -- no line joins it, where the numbers that it could have are gone
    none : (st : Standing) (ls : List ClientLine) → Past st → JoinsNone (steps st ls)
    none st [] past = (refl, (refl, tt))
    none st (l ∷ ls) past = subst JoinsNone (sym (more st l ls)) (none_by st l (steps (after_line st l) ls) past (none (after_line st l) ls))

    gone_by : (k n : ℕ) → k ≡ s.number → suc k ≤ n → same_sub (id n) s ≡ false
    gone_by k n is above = and_second (c == s.client) (n == s.number) (ne_eqb n s.number (λ same. absurd (omega arith)))
      where
        and_second : (a d : Bool) → d ≡ false → (a && d) ≡ false
        and_second true d h = h
        and_second false d h = refl

    named : (n : ℕ) → same_sub (id n) s ≡ true → n ≡ s.number
    named n same = eqb-true n s.number (and_parts (c == s.client) (n == s.number) same).1

    first_one : (n : ℕ) (terms : SubTerms) (rest : List QueuePut) → JoinsNone rest → same_sub (id n) s ≡ true
        → JoinsOnce (to_bridge (b.Join (id n) terms (Sub (id n))) ∷ rest)
    first_one n terms rest gone same =
        let head : terms_put s (to_bridge (b.Join (id n) terms (Sub (id n)))) ≡ Some terms = ap (λ (x : Bool). if x then Some terms else None) same in
        let first : Option SubTerms = option_or (if same_sub (id n) s then Some terms else None) (first_said (terms_put s) rest) in
        let is : first ≡ Some terms = ap (λ (o : Option SubTerms). option_or o (first_said (terms_put s) rest)) head in
        (λ given said. is ∙ sym head ∙ said, none_says first rest gone)

    once_by : (st : Standing) (l : ClientLine) (rest : List QueuePut) → JoinsOnce rest → (Past (after_line st l) → JoinsNone rest) → JoinsOnce (own st l ++ rest)
    once_by st (line.Sub topic kind queue cache recaps faults plan) rest once gone =
        let l : ClientLine = line.Sub topic kind queue cache recaps faults plan in
        let terms : SubTerms = record { topic = topic; kind = kind; queue = queue_named queues st queue; cache = cache; recaps = recaps; faults = faults } in
        (elim (same_sub (id st.subs) s) as (λ x. same_sub (id st.subs) s ≡ x → JoinsOnce (own st l ++ rest)) [
          | true ↦ λ same. first_one st.subs terms rest (gone (λ n above. gone_by st.subs n (named st.subs same) above)) same
          | false ↦ λ other. skipped (own st l) rest (not_same terms (same_sub (id st.subs) s) other, tt) once
        ]) refl
    once_by st (line.Timer queue interval plan) rest once gone = skipped (own st (line.Timer queue interval plan)) rest (refl, tt) once
    once_by st (line.Inbox queue faults plan) rest once gone = skipped (own st (line.Inbox queue faults plan)) rest (refl, tt) once
    once_by st (line.Order o) rest once gone = skipped (own st (line.Order o)) rest (ordered o, tt) once
    once_by st (line.Now m) rest once gone = skipped (own st (line.Now m)) rest (refl, tt) once
    once_by st line.NowClock rest once gone = skipped (own st line.NowClock) rest (refl, tt) once
    once_by st (line.Pause n) rest once gone = skipped (own st (line.Pause n)) rest (pauses n) once

    once : (st : Standing) (ls : List ClientLine) → JoinsOnce (steps st ls)
    once st [] = none_says None (steps st []) (refl, (refl, tt))
    once st (l ∷ ls) = subst JoinsOnce (sym (more st l ls)) (once_by st l (steps (after_line st l) ls) (once (after_line st l) ls) (none (after_line st l) ls))

  -- ---- moments

  -- a client at the same place, to which its clock tells other moments
  abbrev moved : List ℕ → Standing → Standing
  moved moments st = record st { moments = moments }

  module _ (queues c : ℕ) where
    -- what is said of the subscription, whatever moments the clock tells
    abbrev said : Standing → List ClientLine → Option SubTerms
    said st ls = first_said (terms_put s) (all_steps (steps_from queues c st ls))

    paused : (n : ℕ) (st : Standing) (ls : List ClientLine) → said st (line.Pause n ∷ ls) ≡ said st ls
    paused n st ls =
        ap (λ (puts : List QueuePut). first_said (terms_put s) puts) (flat_map-append (λ step. step) (replicate n []) (steps_from queues c st ls))
        ∙ none_first (all_steps (replicate n [])) (all_steps (steps_from queues c st ls)) (pauses n)

    any_moments : (ls : List ClientLine) (st : Standing) (moments : List ℕ) → said (moved moments st) ls ≡ said st ls
    any_moments [] st moments = refl
    any_moments (line.Sub topic kind (Number k) cache recaps faults plan ∷ ls) st moments =
        ap (λ (o : Option SubTerms). option_or (if same_sub (record { client = c; number = st.subs }) s then Some (record { topic = topic; kind = kind; queue = k; cache = cache; recaps = recaps; faults = faults }) else None) o)
        (any_moments ls (record st { subs = suc st.subs }) moments)
    any_moments (line.Sub topic kind Any cache recaps faults plan ∷ ls) st moments =
        ap (λ (o : Option SubTerms). option_or (if same_sub (record { client = c; number = st.subs }) s then Some (record { topic = topic; kind = kind; queue = st.turns % queues; cache = cache; recaps = recaps; faults = faults }) else None) o)
        (any_moments ls (record st { subs = suc st.subs; turns = suc st.turns }) moments)
    any_moments (line.Timer (Number k) interval plan ∷ ls) st moments = any_moments ls (record st { timers = suc st.timers }) moments
    any_moments (line.Timer Any interval plan ∷ ls) st moments = any_moments ls (record st { timers = suc st.timers; turns = suc st.turns }) moments
    any_moments (line.Inbox (Number k) faults plan ∷ ls) st moments = any_moments ls (record st { inboxes = suc st.inboxes }) moments
    any_moments (line.Inbox Any faults plan ∷ ls) st moments = any_moments ls (record st { inboxes = suc st.inboxes; turns = suc st.turns }) moments
    any_moments (line.Order o ∷ ls) st moments = ap (λ (said : Option SubTerms). option_or (terms_put s (order_put o)) said) (any_moments ls st moments)
    any_moments (line.Now m ∷ ls) st moments = any_moments ls st moments
    any_moments (line.NowClock ∷ ls) st moments = any_moments ls st (later_moments moments) ∙ sym (any_moments ls st (later_moments st.moments))
    any_moments (line.Pause n ∷ ls) st moments = paused n (moved moments st) ls ∙ any_moments ls st moments ∙ sym (paused n st ls)

  any_clients : (queues n : ℕ) (moments : List (List ℕ)) (clients : List (List ClientLine)) (k : ℕ)
      → first_said (terms_put s) (all_steps (slice_index_or (all_client_steps queues n moments clients) k []))
      ≡ first_said (terms_put s) (all_steps (slice_index_or (all_client_steps queues n [] clients) k []))
  any_clients queues n moments [] k = refl
  any_clients queues n moments (lines ∷ clients) zero = any_moments queues n lines (at_first []) (slice_index_or moments n [])
  any_clients queues n moments (lines ∷ clients) (suc k) = any_clients queues (suc n) moments clients k

  -- the moments that clients read change no terms
  pub same_terms : (script : ScriptData) (moments : List (List ℕ)) (c : ℕ)
      → first_said (terms_put s) (client_puts script moments c) ≡ first_said (terms_put s) (client_puts script [] c)
  same_terms script moments c = any_clients (queues_of script.shape) 0 moments script.clients c

  -- ---- clients

  each_client : (P : List QueuePut → Type 0) (queues n : ℕ) (moments : List (List ℕ)) (clients : List (List ClientLine)) (k : ℕ) → P []
      → ((c : ℕ) (st : Standing) (ls : List ClientLine) → c ≡ n + k → P (all_steps (steps_from queues c st ls)))
      → P (all_steps (slice_index_or (all_client_steps queues n moments clients) k []))
  each_client P queues n moments [] k nothing each = nothing
  each_client P queues n moments (lines ∷ clients) zero nothing each = each n (at_first (slice_index_or moments n [])) lines (omega arith)
  each_client P queues n moments (lines ∷ clients) (suc k) nothing each =
      each_client P queues (suc n) moments clients k nothing (λ c st ls is. each c st ls (omega arith))

  -- the note joins the subscription on this topic alone
  abbrev pub Joins : ℕ → BridgeNote → Type 0
  Joins wanted (b.Join sub terms tag) = same_sub sub s ≡ true → terms.topic ≡ wanted
  Joins wanted _ = Unit {0}

  abbrev pub JoinPut : ℕ → QueuePut → Type 0
  JoinPut wanted (to_bridge note) = Joins wanted note
  JoinPut wanted (to_timers note) = Unit {0}

  abbrev topic_of : ℕ → Option SubTerms → ℕ
  topic_of other None = other
  topic_of other (Some terms) = terms.topic

  from_says : (terms : SubTerms) (put : QueuePut) → Says (Some terms) put → JoinPut terms.topic put
  from_says terms (to_bridge (b.Join sub given tag)) h = λ same. sym (ap (topic_of 0) (h given (ap (λ (x : Bool). if x then Some given else None) same)))
  from_says terms (to_bridge _) h = tt
  from_says terms (to_timers note) h = tt

  all_from_says : (terms : SubTerms) (puts : List QueuePut) → AllByRecursion (Says (Some terms)) puts → AllByRecursion (JoinPut terms.topic) puts
  all_from_says terms [] all = tt
  all_from_says terms (put ∷ puts) all = (from_says terms put all.0, all_from_says terms puts all.1)

  module _ (script : ScriptData) (moments : List (List ℕ)) where
    other_client : (c : ℕ) → (c ≡ s.client → ⊥) → JoinsNone (client_puts script moments c)
    other_client c other =
        each_client JoinsNone (queues_of script.shape) 0 moments script.clients c tt
        (λ d st ls is. none (queues_of script.shape) d st ls (λ n above. apart d n (λ same. other (sym (is_client d is) ∙ same))))
      where
        is_client : (d : ℕ) → d ≡ 0 + c → d ≡ c
        is_client d is = omega arith

        apart : (d n : ℕ) → (d ≡ s.client → ⊥) → same_sub (record { client = d; number = n }) s ≡ false
        apart d n differ = ap (λ (x : Bool). x && n == s.number) (ne_eqb d s.client differ)

    -- every client's puts join the subscription on the topic with which its own client first joins it
    pub joins_on : (terms : SubTerms) → first_said (terms_put s) (client_puts script moments s.client) ≡ Some terms
        → (c : ℕ) → AllByRecursion (JoinPut terms.topic) (client_puts script moments c)
    joins_on terms said c =
        ⊎_elim
        (λ same. all_from_says terms (client_puts script moments c)
        (subst (λ (first : Option SubTerms). AllByRecursion (Says first) (client_puts script moments c)) (ap (λ (d : ℕ). first_said (terms_put s) (client_puts script moments d)) same ∙ said)
        (each_client JoinsOnce (queues_of script.shape) 0 moments script.clients c tt (λ d st ls is. once (queues_of script.shape) d st ls))))
        (λ other. all_from_says terms (client_puts script moments c) (none_says (Some terms) (client_puts script moments c) (other_client c other)))
        (cases_eq c s.client)

    -- a subscription that lines join is a client's
    pub of_client : (terms : SubTerms) → first_said (terms_put s) (client_puts script moments s.client) ≡ Some terms → s.client < length script.clients
    of_client terms said =
        ⊎_elim (λ within. within)
        (λ past. absurd (nothing_said terms (ap (λ (steps : List (List QueuePut)). first_said (terms_put s) (all_steps steps))
        (sym (get_or_past (all_client_steps (queues_of script.shape) 0 moments script.clients) s.client []
        (subst (λ (n : ℕ). n ≤ s.client) (sym (length-steps (queues_of script.shape) 0 moments script.clients)) past))) ∙ said)))
        (cases_lt s.client (length script.clients))
      where
        nothing_said : (terms : SubTerms) → None ≡ Some terms → ⊥
        nothing_said terms h = cc
