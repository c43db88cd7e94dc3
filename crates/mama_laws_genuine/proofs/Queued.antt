-- An object of a script stands on the queue of the terms with which its line joins it.
use Rattle.std.specs.Prelude.{slice_index_or, Option, None, Some, if◌then◌else◌}
use Rattle.std.specs.List.{AllByRecursion}
use Rattle.std.specs.Option.{option_or}
use Rattle.std.proofs.Common.{◌≡◌, ℕ, zero, suc, ◌+◌, ◌≤◌, ◌==◌, Bool, true, false, List, [], ◌∷◌, ◌++◌, filter, refl, sym, ◌∙◌, ap, subst, arith}
use Rattle.std.proofs.lemmas.Bool.{eqb-true, and_parts}
use Rattle.std.proofs.lemmas.List.Concat.{flat_map-append}
use Rattle.mama_journal.specs.Journal.{first_said}
use Rattle.mama_event.specs.Object.{same_sub}
use Rattle.mama_event.specs.Ports.{queues_of}
use Rattle.mama_event.specs.declared.ids.SubId.{SubId}
use Rattle.mama_event.specs.declared.ids.ObjectId.{ObjectId}
use Rattle.mama_event.specs.declared.ids.ObjectId.TheVariants.{Sub}
use Rattle.mama_event.specs.declared.order.PlanRow.{PlanRow}
use Rattle.mama_event.specs.declared.to_bridge.SubTerms.{SubTerms}
use Rattle.mama_rules_queue.specs.Queue.{QueuePut}
use Rattle.mama_script.specs.declared.client.ClientLine.{ClientLine}
use Rattle.mama_script.specs.declared.client.ClientLine.TheVariants as line
use Rattle.mama_script.specs.Script.{ScriptData}
use Rattle.mama_rules_rounds.specs.Client.{Standing, Planned, at_first, queue_named, after_line, line_steps, steps_from, line_object, objects_from}
use Rattle.mama_rules_rounds.specs.Sections.{all_client_steps, objects_of, is_sub, is_timer, is_inbox, setting_of}
use Rattle.mama_rules_legal.specs.Edges.{all_steps}
use Rattle.mama_rules_legal.specs.Streams.{terms_put}
use Rattle.mama_laws_legal.proofs.Lives.{same_sub-itself}
use Rattle.mama_laws_genuine.specs.CalmLinks.{joined_terms}
use Rattle.mama_laws_genuine.proofs.Elements.{all_append, all_filter, all_weaker}
use Rattle.mama_laws_genuine.proofs.Joining.{JoinsNone, none_first, ordered, pauses, not_same, word_subs}

module _ (s : SubId) where
  abbrev client_in : ObjectId → ℕ
  client_in (Sub r) = r.client
  client_in _ = 0

  abbrev number_in : ObjectId → ℕ
  number_in (Sub r) = r.number
  number_in _ = 0

  abbrev some_queue : Option SubTerms → ℕ
  some_queue (Some terms) = terms.queue
  some_queue None = 0

  -- the object is the subscription only if it stands on the queue of these terms
  abbrev pub Stands : Option SubTerms → Planned → Type 0
  Stands said p = (terms : SubTerms) → p.object ≡ Sub s → said ≡ Some terms → p.queue ≡ terms.queue

  -- the object is the subscription only of this client, with this number or a higher one
  abbrev Above : ℕ → ℕ → Planned → Type 0
  Above c n p = p.object ≡ Sub s → (c ≡ s.client) × (n ≤ s.number)

  module _ (queues c : ℕ) where
    abbrev said : Standing → List ClientLine → Option SubTerms
    said st ls = first_said (terms_put s) (all_steps (steps_from queues c st ls))

    abbrev objects : Standing → List ClientLine → List Planned
    objects st ls = objects_from queues c st ls

    lower : (n m : ℕ) → n ≤ m → (ps : List Planned) → AllByRecursion (Above c m) ps → AllByRecursion (Above c n) ps
    lower n m low ps all = all_weaker (Above c m) (Above c n) (λ p h is. ((h is).0, at_least (h is).1)) ps all
      where
        at_least : m ≤ s.number → n ≤ s.number
        at_least h = omega (arith, low)

    own_number : (n : ℕ) → Sub (record { client = c; number = n }) ≡ Sub s → (c ≡ s.client) × (n ≤ s.number)
    own_number n is = (ap client_in is, same_number (ap number_in is))
      where
        same_number : n ≡ s.number → n ≤ s.number
        same_number h = omega arith

    above_by : (st : Standing) (l : ClientLine) (rest : List Planned) → AllByRecursion (Above c (after_line st l).subs) rest → AllByRecursion (Above c st.subs) (line_object queues c st l ++ rest)
    above_by st (line.Sub topic kind queue cache recaps faults plan) rest all = (own_number st.subs, lower st.subs (suc st.subs) (omega arith) rest all)
    above_by st (line.Timer queue interval plan) rest all = (λ is. absurd cc, subst (λ (n : ℕ). AllByRecursion (Above c n) rest) (word_subs st queue) all)
    above_by st (line.Inbox queue faults plan) rest all = (λ is. absurd cc, subst (λ (n : ℕ). AllByRecursion (Above c n) rest) (word_subs st queue) all)
    above_by st (line.Order o) rest all = all
    above_by st (line.Now m) rest all = all
    above_by st line.NowClock rest all = all
    above_by st (line.Pause n) rest all = all

    above : (st : Standing) (ls : List ClientLine) → AllByRecursion (Above c st.subs) (objects st ls)
    above st [] = tt
    above st (l ∷ ls) = above_by st l (objects (after_line st l) ls) (above (after_line st l) ls)

    -- ---- on the queue of its terms

    skipped : (st : Standing) (l : ClientLine) (ls : List ClientLine) → JoinsNone s (all_steps (line_steps queues c st l)) → said st (l ∷ ls) ≡ said (after_line st l) ls
    skipped st l ls none =
        ap (λ (puts : List QueuePut). first_said (terms_put s) puts) (flat_map-append (λ step. step) (line_steps queues c st l) (steps_from queues c (after_line st l) ls))
        ∙ none_first s (all_steps (line_steps queues c st l)) (all_steps (steps_from queues c (after_line st l) ls)) none

    later : (st : Standing) (l : ClientLine) (ls : List ClientLine) → JoinsNone s (all_steps (line_steps queues c st l))
        → AllByRecursion (Stands (said (after_line st l) ls)) (objects (after_line st l) ls) → AllByRecursion (Stands (said st (l ∷ ls))) (objects (after_line st l) ls)
    later st l ls none all = subst (λ (o : Option SubTerms). AllByRecursion (Stands o) (objects (after_line st l) ls)) (sym (skipped st l ls none)) all

    never : (o : Option SubTerms) (ps : List Planned) (n : ℕ) → s.number ≡ n → AllByRecursion (Above c (suc n)) ps → AllByRecursion (Stands o) ps
    never o ps n same all = all_weaker (Above c (suc n)) (Stands o) (λ p h terms is said. absurd (past (h is).1)) ps all
      where
        past : suc n ≤ s.number → ⊥
        past h = omega (arith, same)

    abbrev id : ℕ → SubId
    id n = record { client = c; number = n }

    first_is : (same : Bool) (terms : SubTerms) (more : Option SubTerms) → same ≡ true → Some terms ≡ option_or (if same then Some terms else None) more
    first_is true terms more h = refl
    first_is false terms more h = absurd cc

    same_by : (n : ℕ) → Sub (id n) ≡ Sub s → same_sub (id n) s ≡ true
    same_by n is = ap (λ (o : ObjectId). same_sub (id n) (record { client = client_in o; number = number_in o })) (sym is) ∙ same_sub-itself (id n)

    numbered : (n : ℕ) → same_sub (id n) s ≡ true → s.number ≡ n
    numbered n same = sym (eqb-true n s.number (and_parts (c == s.client) (n == s.number) same).1)

    -- the object of a line that joins
    own_stands : (n queue : ℕ) (plan : List PlanRow) (terms : SubTerms) → queue ≡ terms.queue → (more : Option SubTerms)
        → Stands (option_or (if same_sub (id n) s then Some terms else None) more) (record { object = Sub (id n); queue = queue; plan = plan })
    own_stands n queue plan terms on more = λ found is told. on ∙ ap some_queue (first_is (same_sub (id n) s) terms more (same_by n is) ∙ told)

    stands_by : (st : Standing) (l : ClientLine) (ls : List ClientLine) → AllByRecursion (Stands (said (after_line st l) ls)) (objects (after_line st l) ls)
        → AllByRecursion (Above c (after_line st l).subs) (objects (after_line st l) ls) → AllByRecursion (Stands (said st (l ∷ ls))) (line_object queues c st l ++ objects (after_line st l) ls)
    stands_by st (line.Sub topic kind queue cache recaps faults plan) ls all high =
        let l : ClientLine = line.Sub topic kind queue cache recaps faults plan in
        let terms : SubTerms = record { topic = topic; kind = kind; queue = queue_named queues st queue; cache = cache; recaps = recaps; faults = faults } in (
          own_stands st.subs (queue_named queues st queue) plan terms refl (said (after_line st l) ls),
          (elim (same_sub (id st.subs) s) as (λ x. same_sub (id st.subs) s ≡ x → AllByRecursion (Stands (said st (l ∷ ls))) (objects (after_line st l) ls)) [
            | true ↦ λ same. never (said st (l ∷ ls)) (objects (after_line st l) ls) st.subs (numbered st.subs same) high
            | false ↦ λ other. later st l ls (not_same s terms (same_sub (id st.subs) s) other, tt) all
          ]) refl,
        )
    stands_by st (line.Timer queue interval plan) ls all high = (λ terms is said. absurd cc, later st (line.Timer queue interval plan) ls (refl, tt) all)
    stands_by st (line.Inbox queue faults plan) ls all high = (λ terms is said. absurd cc, later st (line.Inbox queue faults plan) ls (refl, tt) all)
    stands_by st (line.Order o) ls all high = later st (line.Order o) ls (ordered s o, tt) all
    stands_by st (line.Now m) ls all high = later st (line.Now m) ls (refl, tt) all
    stands_by st line.NowClock ls all high = later st line.NowClock ls (refl, tt) all
    stands_by st (line.Pause n) ls all high = later st (line.Pause n) ls (pauses s n) all

    stands : (st : Standing) (ls : List ClientLine) → AllByRecursion (Stands (said st ls)) (objects st ls)
    stands st [] = tt
    stands st (l ∷ ls) = stands_by st l ls (stands (after_line st l) ls) (above (after_line st l) ls)

  -- ---- clients

  abbrev From : ℕ → Planned → Type 0
  From c p = p.object ≡ Sub s → c ≤ s.client

  from_client : (queues n : ℕ) (lines : List ClientLine) → AllByRecursion (From n) (objects_from queues n (at_first []) lines)
  from_client queues n lines = all_weaker (Above n 0) (From n) (λ p h is. at_least (h is).0) (objects_from queues n (at_first []) lines) (above queues n (at_first []) lines)
    where
      at_least : n ≡ s.client → n ≤ s.client
      at_least h = omega arith

  from_clients : (queues n : ℕ) (clients : List (List ClientLine)) → AllByRecursion (From n) (objects_of queues n clients)
  from_clients queues n [] = tt
  from_clients queues n (lines ∷ clients) =
      all_append (From n) (objects_from queues n (at_first []) lines) (objects_of queues (suc n) clients) (from_client queues n lines)
      (all_weaker (From (suc n)) (From n) (λ p h is. at_least (h is)) (objects_of queues (suc n) clients) (from_clients queues (suc n) clients))
    where
      at_least : suc n ≤ s.client → n ≤ s.client
      at_least h = omega arith

  all_stand : (queues n : ℕ) (clients : List (List ClientLine)) (k : ℕ) → s.client ≡ n + k
      → AllByRecursion (Stands (first_said (terms_put s) (all_steps (slice_index_or (all_client_steps queues n [] clients) k [])))) (objects_of queues n clients)
  all_stand queues n [] k same = tt
  all_stand queues n (lines ∷ clients) zero same =
      let o : Option SubTerms = said queues n (at_first []) lines in
      all_append (Stands o) (objects_from queues n (at_first []) lines) (objects_of queues (suc n) clients) (stands queues n (at_first []) lines)
      (all_weaker (From (suc n)) (Stands o) (λ p h terms is told. absurd (past (h is))) (objects_of queues (suc n) clients) (from_clients queues (suc n) clients))
    where
      past : suc n ≤ s.client → ⊥
      past h = omega (arith, same)
  all_stand queues n (lines ∷ clients) (suc k) same =
      let o : Option SubTerms = first_said (terms_put s) (all_steps (slice_index_or (all_client_steps queues (suc n) [] clients) k [])) in
      all_append (Stands o) (objects_from queues n (at_first []) lines) (objects_of queues (suc n) clients)
      (all_weaker (Above n 0) (Stands o) (λ p h terms is told. absurd (before (h is).0)) (objects_from queues n (at_first []) lines) (above queues n (at_first []) lines))
      (all_stand queues (suc n) clients k next)
    where
      before : n ≡ s.client → ⊥
      before h = omega (arith, same)

      next : s.client ≡ suc n + k
      next = omega (arith, same)

  pub on_its_queue : (script : ScriptData) → AllByRecursion (Stands (joined_terms script s)) (setting_of script).objects
  on_its_queue script =
      let P : Planned → Type 0 = Stands (joined_terms script s) in
      let all : AllByRecursion P (objects_of (queues_of script.shape) 0 script.clients) = all_stand (queues_of script.shape) 0 script.clients s.client (from_zero s.client) in
      let objects : List Planned = objects_of (queues_of script.shape) 0 script.clients in
      all_append P (filter is_sub objects ++ filter is_timer objects) (filter is_inbox objects)
      (all_append P (filter is_sub objects) (filter is_timer objects) (all_filter P is_sub objects all) (all_filter P is_timer objects all)) (all_filter P is_inbox objects all)
    where
      from_zero : (n : ℕ) → n ≡ 0 + n
      from_zero n = omega arith
