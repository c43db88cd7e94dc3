-- The members of the groups of an accepted script may join them: each is a market subscription on the group's queue, which no plan
-- stops.
use Rattle.std.specs.Prelude.{◌==◌, ◌%◌, filter, slice_get, slice_index_or, Option, None, Some, option_and_then, if◌then◌else◌}
use Rattle.std.specs.Option.{option_or}
use Rattle.std.specs.List.{AllByRecursion, AllZip, list_any, flat_map}
use Rattle.std.proofs.Common.{◌≡◌, ℕ, zero, suc, ◌+◌, ◌<◌, ◌≤◌, Bool, true, false, ◌&&◌, ◌||◌, List, [], ◌∷◌, ◌++◌, length, map, refl, ap, sym, subst, ◌∙◌, arith, zero-add, length-append, append_assoc}
use Rattle.std.proofs.lemmas.Bool.{and_parts, and_from, eqb-true, eq-eqb, ne_eqb}
use Rattle.std.proofs.lemmas.List.Concat.{flat_map-append}
use Rattle.std.proofs.lemmas.Option.{slice_get_past}
use Rattle.mama_journal.specs.Journal.{first_said}
use Rattle.mama_event.specs.Object.{same_sub, same_object}
use Rattle.mama_event.specs.Ports.{queues_of}
use Rattle.mama_event.specs.Plan.{planned}
use Rattle.mama_event.specs.declared.ids.SubId.{SubId}
use Rattle.mama_event.specs.declared.ids.ObjectId.{ObjectId}
use Rattle.mama_event.specs.declared.ids.ObjectId.TheVariants.{Sub, Timer, Inbox}
use Rattle.mama_event.specs.declared.market.SubKind.{SubKind}
use Rattle.mama_event.specs.declared.market.SubKind.TheVariants.{Market}
use Rattle.mama_event.specs.declared.market.SubKind.TheVariants as kinds
use Rattle.mama_event.specs.declared.order.Order.{Order}
use Rattle.mama_event.specs.declared.order.Order.TheVariants as order
use Rattle.mama_event.specs.declared.order.PlanRow.{PlanRow}
use Rattle.mama_event.specs.declared.group.GroupRow.{GroupRow}
use Rattle.mama_event.specs.declared.to_bridge.SubTerms.{SubTerms}
use Rattle.mama_link.specs.declared.faults.FaultRow.{FaultRow}
use Rattle.mama_words.specs.Id.{sub_word}
use Rattle.mama_words.specs.declared.id.IdWord.{IdWord}
use Rattle.mama_script.specs.declared.line.Line.TheVariants as lines
use Rattle.mama_script.specs.declared.client.ClientLine.{ClientLine}
use Rattle.mama_script.specs.declared.client.ClientLine.TheVariants as line
use Rattle.mama_script.specs.declared.client.QueueWord.{QueueWord}
use Rattle.mama_script.specs.declared.client.QueueWord.TheVariants.{Number, Any}
use Rattle.mama_script.specs.Script.{ScriptData}
use Rattle.mama_script.specs.Tree.{IsScript, plan_line, object_lines, step_lines, client_lines, publisher_lines, topic_line, strategy_lines, group_line, watch_line, last_lines, body_lines, lines_of, queue_name}
use Rattle.mama_script.specs.Placing as cast
use Rattle.mama_script.specs.Placing.{Roster, no_roster, with_sub, cast_of, no_cast, none_placed, misplaced_from, sub_in, is_market, is_market_on, group_queue, has_id}
use Rattle.mama_script.specs.Within.{IsWithin, HasMember}
use Rattle.mama_rules_queue.specs.Queue.{QueuePut, ends}
use Rattle.mama_record.specs.RunData.{RunData}
use Rattle.mama_rules_rounds.specs.Client.{Planned, Standing, at_first, queue_named, after_word, after_line, line_steps, steps_from, line_object, objects_from, client_objects}
use Rattle.mama_rules_rounds.specs.Setting.{Grouped, plan_in, rows_of}
use Rattle.mama_rules_rounds.specs.Sections.{all_client_steps, objects_of, is_sub, is_timer, is_inbox, by_kind, queue_in, queue_of, queue_of_members, planned_in, groups_from, setting_of}
use Rattle.mama_rules_rounds.specs.Told.{group_told}
use Rattle.mama_rules_legal.specs.Edges.{all_steps}
use Rattle.mama_rules_legal.specs.Streams.{terms_put, terms_of}
use Rattle.mama_laws_genuine.proofs.Elements.{all_append, all_filter, all_left, all_right}
use Rattle.mama_laws_genuine.proofs.Joining.{JoinsNone, none_first, pauses, ordered, of_client}
use Rattle.mama_script.proofs.Keeping.{script_within}
use Rattle.mama_laws_legal.specs.Laws.{IsOrderly}
use Rattle.mama_laws_callbacks.specs.Grouped.{IsTrueGroup}
use Rattle.mama_laws_callbacks.specs.Laws.{LegalGroupsAreTrue}
use Rattle.mama_laws_callbacks.proofs.Grouping.{MayJoin, groups_are_true}
use Rattle.mama_laws_callbacks.proofs.Placing.{StopsNot, all_stop_not, IsGroup, groups_behind, rostered_with, rostered, rosters_are}

-- ---- no plan stops it

-- no row of a plan ends the object
abbrev pub IsSpared : ObjectId → List PlanRow → Type 0
IsSpared o plan = AllByRecursion (λ (row : PlanRow). ends o row.order ≡ false) plan

abbrev pub IsSparing : ObjectId → Planned → Type 0
IsSparing o p = IsSpared o p.plan

module _ (s : SubId) where
  row_spared : (row : PlanRow) (o : Order) → StopsNot (sub_word s) (plan_line (record row { order = o })) → ends (Sub s) o ≡ false
  row_spared row (order.Stop x) h = h
  row_spared row (order.Disarm x) h = refl
  row_spared row (order.Close x) h = refl
  row_spared row (order.Ask x topic fids) h = refl

  plan_spared : (plan : List PlanRow) → AllByRecursion (StopsNot (sub_word s)) (map plan_line plan) → IsSpared (Sub s) plan
  plan_spared [] all = tt
  plan_spared (row ∷ plan) all = (row_spared row row.order all.0, plan_spared plan all.1)

  object_spared : (faults : List FaultRow) (plan : List PlanRow) → AllByRecursion (StopsNot (sub_word s)) (object_lines faults plan) → IsSpared (Sub s) plan
  object_spared [] plan all = plan_spared plan all
  object_spared (row ∷ faults) plan all = object_spared faults plan all.1

  line_spared : (queues c : ℕ) (st : Standing) (l : ClientLine) → AllByRecursion (StopsNot (sub_word s)) (step_lines l) → AllByRecursion (IsSparing (Sub s)) (line_object queues c st l)
  line_spared queues c st (line.Sub topic kind queue cache recaps faults plan) all = (object_spared faults plan all.1, tt)
  line_spared queues c st (line.Timer queue interval plan) all = (object_spared [] plan all.1, tt)
  line_spared queues c st (line.Inbox queue faults plan) all = (object_spared faults plan all.1, tt)
  line_spared queues c st (line.Order o) all = tt
  line_spared queues c st (line.Now m) all = tt
  line_spared queues c st line.NowClock all = tt
  line_spared queues c st (line.Pause rounds) all = tt

  lines_spared : (queues c : ℕ) (st : Standing) (ls : List ClientLine) → AllByRecursion (StopsNot (sub_word s)) (flat_map step_lines ls) → AllByRecursion (IsSparing (Sub s)) (objects_from queues c st ls)
  lines_spared queues c st [] all = tt
  lines_spared queues c st (l ∷ ls) all =
      all_append (IsSparing (Sub s)) (line_object queues c st l) (objects_from queues c (after_line st l) ls)
      (line_spared queues c st l (all_left (StopsNot (sub_word s)) (step_lines l) (flat_map step_lines ls) all))
      (lines_spared queues c (after_line st l) ls (all_right (StopsNot (sub_word s)) (step_lines l) (flat_map step_lines ls) all))

  clients_spared : (queues c : ℕ) (clients : List (List ClientLine)) → AllByRecursion (StopsNot (sub_word s)) (flat_map client_lines clients) → AllByRecursion (IsSparing (Sub s)) (objects_of queues c clients)
  clients_spared queues c [] all = tt
  clients_spared queues c (ls ∷ clients) all =
      all_append (IsSparing (Sub s)) (client_objects queues c ls) (objects_of queues (suc c) clients)
      (lines_spared queues c (at_first []) ls (all_left (StopsNot (sub_word s)) (flat_map step_lines ls) (flat_map client_lines clients) all.1))
      (clients_spared queues (suc c) clients (all_right (StopsNot (sub_word s)) (flat_map step_lines ls) (flat_map client_lines clients) all.1))

  kinds_spared : (ps : List Planned) → AllByRecursion (IsSparing (Sub s)) ps → AllByRecursion (IsSparing (Sub s)) (by_kind ps)
  kinds_spared ps all =
      all_append (IsSparing (Sub s)) (filter is_sub ps ++ filter is_timer ps) (filter is_inbox ps)
      (all_append (IsSparing (Sub s)) (filter is_sub ps) (filter is_timer ps) (all_filter (IsSparing (Sub s)) is_sub ps all) (all_filter (IsSparing (Sub s)) is_timer ps all))
      (all_filter (IsSparing (Sub s)) is_inbox ps all)

  said_spared : (o : ObjectId) (ps : List Planned) → AllByRecursion (IsSparing (Sub s)) ps → IsSpared (Sub s) (rows_of (first_said (plan_in o) ps))
  said_spared o [] all = tt
  said_spared o (p ∷ ps) all = either (same_object p.object o) all.0 (said_spared o ps all.1)
    where
      either : (b : Bool) → IsSpared (Sub s) p.plan → IsSpared (Sub s) (rows_of (first_said (plan_in o) ps)) → IsSpared (Sub s) (rows_of (option_or (if b then Some p.plan else None) (first_said (plan_in o) ps)))
      either true own rest = own
      either false own rest = rest

  orders_spared : (rows : List PlanRow) (call : ℕ) → IsSpared (Sub s) rows → list_any (ends (Sub s)) (planned rows call) ≡ false
  orders_spared [] call all = refl
  orders_spared (row ∷ rows) call all = either (row.call == call) (orders_spared rows call all.1)
    where
      either : (b : Bool) → list_any (ends (Sub s)) (planned rows call) ≡ false
          → list_any (ends (Sub s)) (map (λ (r : PlanRow). r.order) (if b then row ∷ filter (λ (r : PlanRow). r.call == call) rows else filter (λ (r : PlanRow). r.call == call) rows)) ≡ false
      either true rest = ap (λ (b : Bool). b || list_any (ends (Sub s)) (planned rows call)) all.0 ∙ rest
      either false rest = rest

-- ---- the terms with which it is joined, and the queue on which it is planned

-- what is said of a subscription: its kind and its queue
abbrev pub place_of : Option SubTerms → Option (SubKind × ℕ)
place_of None = None
place_of (Some terms) = Some (terms.kind, terms.queue)

abbrev pub queue_of_place : Option (SubKind × ℕ) → Option ℕ
queue_of_place None = None
queue_of_place (Some x) = Some x.1

-- a word names the same queue there
same_queue : (n : ℕ) → (n == 0) ≡ false → (st : Standing) (turns : ℕ) → st.turns ≡ turns → (queue : QueueWord) → queue_named n st queue ≡ cast.queue_named n turns (queue_name queue)
same_queue n some st turns same (Number q) = refl
same_queue n some st turns same Any = ap (λ (k : ℕ). k % n) same ∙ sym (ap (λ (b : Bool). if b then 0 else turns % n) some)

same_turns : (st : Standing) (turns : ℕ) → st.turns ≡ turns → (queue : QueueWord) → (after_word st queue).turns ≡ cast.turns_with turns (queue_name queue)
same_turns st turns same (Number q) = same
same_turns st turns same Any = let more : suc st.turns ≡ turns + 1 = omega (arith, same) in more

word_subs : (st : Standing) (queue : QueueWord) → (after_word st queue).subs ≡ st.subs
word_subs st (Number q) = refl
word_subs st Any = refl

at_end : {X : Type 0} (xs : List X) (x : X) → slice_get (xs ++ x ∷ []) (length xs) ≡ Some x
at_end [] x = refl
at_end (y ∷ xs) x = at_end xs x

in_front : {X : Type 0} (xs ys : List X) (k : ℕ) → k < length xs → slice_get (xs ++ ys) k ≡ slice_get xs k
in_front [] ys k within = absurd (omega arith)
in_front (x ∷ xs) ys zero within = refl
in_front (x ∷ xs) ys (suc k) within = in_front xs ys k (omega arith)

module _ (n : ℕ) where
  -- what a roster has it keeps
  kept_one : (r : Roster) (l : ClientLine) (k : ℕ) → k < length r.subs → (slice_get (rostered_with n r l).subs k ≡ slice_get r.subs k) × (k < length (rostered_with n r l).subs)
  kept_one r (line.Sub topic kind queue cache recaps faults plan) k within =
      let x : SubKind × ℕ = (kind, cast.queue_named n r.turns (queue_name queue)) in
      (in_front r.subs (x ∷ []) k within, omega (arith, within, length-append r.subs (x ∷ [])))
  kept_one r (line.Timer queue interval plan) k within = (refl, within)
  kept_one r (line.Inbox queue faults plan) k within = (refl, within)
  kept_one r (line.Order o) k within = (refl, within)
  kept_one r (line.Now m) k within = (refl, within)
  kept_one r line.NowClock k within = (refl, within)
  kept_one r (line.Pause rounds) k within = (refl, within)

  kept_all : (r : Roster) (ls : List ClientLine) (k : ℕ) → k < length r.subs → slice_get (rostered n r ls).subs k ≡ slice_get r.subs k
  kept_all r [] k within = refl
  kept_all r (l ∷ ls) k within = let one = kept_one r l k within in kept_all (rostered_with n r l) ls k one.1 ∙ one.0

module _ (n : ℕ) (some : (n == 0) ≡ false) (s : SubId) (c : ℕ) (own : c ≡ s.client) where
  abbrev id : ℕ → SubId
  id k = record { client = c; number = k }

  -- a roster stands where the client stands
  record StandsAs (st : Standing) (r : Roster) : Type 0 where
    subs : st.subs ≡ length r.subs
    turns : st.turns ≡ r.turns

  more_subs : (st : Standing) (r : Roster) (kind : SubKind) (queue : QueueWord) → StandsAs st r → StandsAs (record (after_word st queue) { subs = suc st.subs }) (with_sub n kind (queue_name queue) r)
  more_subs st r kind queue as_one =
      let x : SubKind × ℕ = (kind, cast.queue_named n r.turns (queue_name queue)) in
      record { subs = omega (arith, as_one.subs, length-append r.subs (x ∷ [])); turns = same_turns st r.turns as_one.turns queue }

  stands_more : (st : Standing) (r : Roster) (l : ClientLine) → StandsAs st r → StandsAs (after_line st l) (rostered_with n r l)
  stands_more st r (line.Sub topic kind queue cache recaps faults plan) as_one = record { subs = (more_subs st r kind queue as_one).subs; turns = (more_subs st r kind queue as_one).turns }
  stands_more st r (line.Timer queue interval plan) as_one = record { subs = word_subs st queue ∙ as_one.subs; turns = same_turns st r.turns as_one.turns queue }
  stands_more st r (line.Inbox queue faults plan) as_one = record { subs = word_subs st queue ∙ as_one.subs; turns = same_turns st r.turns as_one.turns queue }
  stands_more st r (line.Order o) as_one = record { subs = as_one.subs; turns = as_one.turns }
  stands_more st r (line.Now m) as_one = record { subs = as_one.subs; turns = as_one.turns }
  stands_more st r line.NowClock as_one = record { subs = as_one.subs; turns = as_one.turns }
  stands_more st r (line.Pause rounds) as_one = record { subs = as_one.subs; turns = as_one.turns }

  own_sub : (k : ℕ) → k ≡ s.number → same_sub (id k) s ≡ true
  own_sub k is = and_from (c == s.client) (k == s.number) (eq-eqb c s.client own) (eq-eqb k s.number is)

  other_sub : (k : ℕ) → (k ≡ s.number → ⊥) → same_sub (id k) s ≡ false
  other_sub k apart = no_second (c == s.client) (k == s.number) (ne_eqb k s.number apart)
    where
      no_second : (a d : Bool) → d ≡ false → (a && d) ≡ false
      no_second true d h = h
      no_second false d h = refl

  abbrev steps : Standing → List ClientLine → List QueuePut
  steps st ls = all_steps (steps_from n c st ls)

  abbrev first_steps : Standing → ClientLine → List QueuePut
  first_steps st l = all_steps (line_steps n c st l)

  -- the terms, and the planned queue, are those of the roster
  abbrev IsPlace : Standing → List ClientLine → Option (SubKind × ℕ) → Type 0
  IsPlace st ls place = (r : Roster) → StandsAs st r → st.subs ≤ s.number → place ≡ slice_get (rostered n r ls).subs s.number

  -- the line of the subscription itself
  here : (st : Standing) (kind : SubKind) (queue : QueueWord) (ls : List ClientLine) (r : Roster) → StandsAs st r → st.subs ≡ s.number
      → Some (kind, queue_named n st queue) ≡ slice_get (rostered n (with_sub n kind (queue_name queue) r) ls).subs s.number
  here st kind queue ls r as_one at =
      let x : SubKind × ℕ = (kind, cast.queue_named n r.turns (queue_name queue)) in
      let number : length r.subs ≡ s.number = sym as_one.subs ∙ at in
      ap (λ (q : ℕ). Some (kind, q)) (same_queue n some st r.turns as_one.turns queue)
      ∙ sym (at_end r.subs x) ∙ ap (λ (k : ℕ). slice_get (r.subs ++ x ∷ []) k) number
      ∙ sym (kept_all n (with_sub n kind (queue_name queue) r) ls s.number (omega (arith, number, length-append r.subs (x ∷ []))))

  skips : (st : Standing) (l : ClientLine) (rest : List QueuePut) → JoinsNone s (first_steps st l) → place_of (first_said (terms_put s) (first_steps st l ++ rest)) ≡ place_of (first_said (terms_put s) rest)
  skips st l rest none = ap place_of (none_first s (first_steps st l) rest none)

  joined : (st : Standing) (l : ClientLine) (ls : List ClientLine) (rest : List QueuePut) → IsPlace (after_line st l) ls (place_of (first_said (terms_put s) rest))
      → IsPlace st (l ∷ ls) (place_of (first_said (terms_put s) (first_steps st l ++ rest)))
  joined st (line.Sub topic kind queue cache recaps faults plan) ls rest next r as_one low = by_case (same_sub (id st.subs) s) refl
    where
      terms : SubTerms
      terms = record { topic = topic; kind = kind; queue = queue_named n st queue; cache = cache; recaps = recaps; faults = faults }

      by_case : (b : Bool) → same_sub (id st.subs) s ≡ b
          → place_of (option_or (if same_sub (id st.subs) s then Some terms else None) (first_said (terms_put s) rest)) ≡ slice_get (rostered n (with_sub n kind (queue_name queue) r) ls).subs s.number
      by_case true same =
          ap (λ (b : Bool). place_of (option_or (if b then Some terms else None) (first_said (terms_put s) rest))) same
          ∙ here st kind queue ls r as_one (eqb-true st.subs s.number (and_parts (c == s.client) (st.subs == s.number) same).1)
      by_case false other =
          ap (λ (b : Bool). place_of (option_or (if b then Some terms else None) (first_said (terms_put s) rest))) other
          ∙ next (with_sub n kind (queue_name queue) r) (stands_more st r (line.Sub topic kind queue cache recaps faults plan) as_one) (above low (apart other))
        where
          apart : same_sub (id st.subs) s ≡ false → st.subs ≡ s.number → ⊥
          apart h is = let bad : true ≡ false = sym (own_sub st.subs is) ∙ h in cc

          above : st.subs ≤ s.number → (st.subs ≡ s.number → ⊥) → suc st.subs ≤ s.number
          above le ne = omega (arith, le, ne)
  joined st (line.Timer queue interval plan) ls rest next r as_one low =
      skips st (line.Timer queue interval plan) rest (refl, tt) ∙ next (rostered_with n r (line.Timer queue interval plan)) (stands_more st r (line.Timer queue interval plan) as_one) (subst (λ (k : ℕ). k ≤ s.number) (sym (word_subs st queue)) low)
  joined st (line.Inbox queue faults plan) ls rest next r as_one low =
      skips st (line.Inbox queue faults plan) rest (refl, tt) ∙ next (rostered_with n r (line.Inbox queue faults plan)) (stands_more st r (line.Inbox queue faults plan) as_one) (subst (λ (k : ℕ). k ≤ s.number) (sym (word_subs st queue)) low)
  joined st (line.Order o) ls rest next r as_one low = skips st (line.Order o) rest (ordered s o, tt) ∙ next r (stands_more st r (line.Order o) as_one) low
  joined st (line.Now m) ls rest next r as_one low = skips st (line.Now m) rest (refl, tt) ∙ next r (stands_more st r (line.Now m) as_one) low
  joined st line.NowClock ls rest next r as_one low = skips st line.NowClock rest (refl, tt) ∙ next r (stands_more st r line.NowClock as_one) low
  joined st (line.Pause rounds) ls rest next r as_one low = skips st (line.Pause rounds) rest (pauses s rounds) ∙ next r (stands_more st r (line.Pause rounds) as_one) low

  -- the terms of the subscription
  terms_place : (st : Standing) (ls : List ClientLine) → IsPlace st ls (place_of (first_said (terms_put s) (steps st ls)))
  terms_place st [] r as_one low = sym (slice_get_past r.subs s.number (omega (arith, as_one.subs, low)))
  terms_place st (l ∷ ls) r as_one low =
      ap (λ (puts : List QueuePut). place_of (first_said (terms_put s) puts)) (flat_map-append (λ step. step) (line_steps n c st l) (steps_from n c (after_line st l) ls))
      ∙ joined st l ls (steps (after_line st l) ls) (terms_place (after_line st l) ls) r as_one low

  -- ---- the queue on which it is planned

  abbrev planned_queue : List Planned → Option ℕ
  planned_queue ps = first_said (queue_in (Sub s)) ps

  abbrev IsPlanned : Standing → List ClientLine → Option ℕ → Type 0
  IsPlanned st ls queue = (r : Roster) → StandsAs st r → st.subs ≤ s.number → queue ≡ queue_of_place (slice_get (rostered n r ls).subs s.number)

  planned_line : (st : Standing) (l : ClientLine) (ls : List ClientLine) (rest : List Planned) → IsPlanned (after_line st l) ls (planned_queue rest)
      → IsPlanned st (l ∷ ls) (planned_queue (line_object n c st l ++ rest))
  planned_line st (line.Sub topic kind queue cache recaps faults plan) ls rest next r as_one low = by_case (same_sub (id st.subs) s) refl
    where
      by_case : (b : Bool) → same_sub (id st.subs) s ≡ b
          → option_or (if same_sub (id st.subs) s then Some (queue_named n st queue) else None) (planned_queue rest) ≡ queue_of_place (slice_get (rostered n (with_sub n kind (queue_name queue) r) ls).subs s.number)
      by_case true same =
          ap (λ (b : Bool). option_or (if b then Some (queue_named n st queue) else None) (planned_queue rest)) same
          ∙ ap queue_of_place (here st kind queue ls r as_one (eqb-true st.subs s.number (and_parts (c == s.client) (st.subs == s.number) same).1))
      by_case false other =
          ap (λ (b : Bool). option_or (if b then Some (queue_named n st queue) else None) (planned_queue rest)) other
          ∙ next (with_sub n kind (queue_name queue) r) (stands_more st r (line.Sub topic kind queue cache recaps faults plan) as_one) (above low (apart other))
        where
          apart : same_sub (id st.subs) s ≡ false → st.subs ≡ s.number → ⊥
          apart h is = let bad : true ≡ false = sym (own_sub st.subs is) ∙ h in cc

          above : st.subs ≤ s.number → (st.subs ≡ s.number → ⊥) → suc st.subs ≤ s.number
          above le ne = omega (arith, le, ne)
  planned_line st (line.Timer queue interval plan) ls rest next r as_one low =
      next (rostered_with n r (line.Timer queue interval plan)) (stands_more st r (line.Timer queue interval plan) as_one) (subst (λ (k : ℕ). k ≤ s.number) (sym (word_subs st queue)) low)
  planned_line st (line.Inbox queue faults plan) ls rest next r as_one low =
      next (rostered_with n r (line.Inbox queue faults plan)) (stands_more st r (line.Inbox queue faults plan) as_one) (subst (λ (k : ℕ). k ≤ s.number) (sym (word_subs st queue)) low)
  planned_line st (line.Order o) ls rest next r as_one low = next r (stands_more st r (line.Order o) as_one) low
  planned_line st (line.Now m) ls rest next r as_one low = next r (stands_more st r (line.Now m) as_one) low
  planned_line st line.NowClock ls rest next r as_one low = next r (stands_more st r line.NowClock as_one) low
  planned_line st (line.Pause rounds) ls rest next r as_one low = next r (stands_more st r (line.Pause rounds) as_one) low

  queue_place : (st : Standing) (ls : List ClientLine) → IsPlanned st ls (planned_queue (objects_from n c st ls))
  queue_place st [] r as_one low = ap queue_of_place (sym (slice_get_past r.subs s.number (omega (arith, as_one.subs, low))))
  queue_place st (l ∷ ls) r as_one low = planned_line st l ls (objects_from n c (after_line st l) ls) (queue_place (after_line st l) ls) r as_one low

said_append : {E A : Type 0} (say : E → Option A) (xs ys : List E) → first_said say (xs ++ ys) ≡ option_or (first_said say xs) (first_said say ys)
said_append say [] ys = refl
said_append {E} {A} say (x ∷ xs) ys = ap (option_or (say x)) (said_append say xs ys) ∙ either (say x)
  where
    either : (o : Option A) → option_or o (option_or (first_said say xs) (first_said say ys)) ≡ option_or (option_or o (first_said say xs)) (first_said say ys)
    either None = refl
    either (Some y) = refl

or_none : {A : Type 0} (o : Option A) → option_or o None ≡ o
or_none None = refl
or_none (Some x) = refl

module _ (s : SubId) (n : ℕ) where
  -- the lines of another client plan it on none
  other_line : (c : ℕ) → (c == s.client) ≡ false → (st : Standing) (l : ClientLine) (rest : List Planned) → first_said (queue_in (Sub s)) rest ≡ None → first_said (queue_in (Sub s)) (line_object n c st l ++ rest) ≡ None
  other_line c other st (line.Sub topic kind queue cache recaps faults plan) rest none =
      ap (λ (b : Bool). option_or (if b && (st.subs == s.number) then Some (queue_named n st queue) else None) (first_said (queue_in (Sub s)) rest)) other ∙ none
  other_line c other st (line.Timer queue interval plan) rest none = none
  other_line c other st (line.Inbox queue faults plan) rest none = none
  other_line c other st (line.Order o) rest none = none
  other_line c other st (line.Now m) rest none = none
  other_line c other st line.NowClock rest none = none
  other_line c other st (line.Pause rounds) rest none = none

  other_lines : (c : ℕ) → (c == s.client) ≡ false → (st : Standing) (ls : List ClientLine) → first_said (queue_in (Sub s)) (objects_from n c st ls) ≡ None
  other_lines c other st [] = refl
  other_lines c other st (l ∷ ls) = other_line c other st l (objects_from n c (after_line st l) ls) (other_lines c other (after_line st l) ls)

  other_clients : (k : ℕ) → s.client < k → (clients : List (List ClientLine)) → first_said (queue_in (Sub s)) (objects_of n k clients) ≡ None
  other_clients k past [] = refl
  other_clients k past (ls ∷ clients) =
      said_append (queue_in (Sub s)) (client_objects n k ls) (objects_of n (suc k) clients)
      ∙ ap (λ (o : Option ℕ). option_or o (first_said (queue_in (Sub s)) (objects_of n (suc k) clients))) (other_lines k (ne_eqb k s.client (λ same. omega (arith, past, same))) (at_first []) ls)
      ∙ other_clients (suc k) (omega (arith, past)) clients

  -- what the others of a filter say
  no_timer : (p : Planned) (o : ObjectId) → is_timer (record p { object = o }) ≡ true → queue_in (Sub s) (record p { object = o }) ≡ None
  no_timer p (Sub t) h = absurd cc
  no_timer p (Timer t) h = refl
  no_timer p (Inbox i) h = refl

  no_inbox : (p : Planned) (o : ObjectId) → is_inbox (record p { object = o }) ≡ true → queue_in (Sub s) (record p { object = o }) ≡ None
  no_inbox p (Sub t) h = absurd cc
  no_inbox p (Timer t) h = refl
  no_inbox p (Inbox i) h = refl

  not_sub : (p : Planned) (o : ObjectId) → is_sub (record p { object = o }) ≡ false → queue_in (Sub s) (record p { object = o }) ≡ None
  not_sub p (Sub t) h = absurd cc
  not_sub p (Timer t) h = refl
  not_sub p (Inbox i) h = refl

  none_filtered : (test : Planned → Bool) → ((p : Planned) → test p ≡ true → queue_in (Sub s) p ≡ None) → (ps : List Planned) → first_said (queue_in (Sub s)) (filter test ps) ≡ None
  none_filtered test none [] = refl
  none_filtered test none (p ∷ ps) = either (test p) refl (none_filtered test none ps)
    where
      either : (b : Bool) → test p ≡ b → first_said (queue_in (Sub s)) (filter test ps) ≡ None → first_said (queue_in (Sub s)) (if b then p ∷ filter test ps else filter test ps) ≡ None
      either true is rest = ap (λ (o : Option ℕ). option_or o (first_said (queue_in (Sub s)) (filter test ps))) (none p is) ∙ rest
      either false is rest = rest

  subs_filtered : (ps : List Planned) → first_said (queue_in (Sub s)) (filter is_sub ps) ≡ first_said (queue_in (Sub s)) ps
  subs_filtered [] = refl
  subs_filtered (p ∷ ps) = either (is_sub p) refl (subs_filtered ps)
    where
      either : (b : Bool) → is_sub p ≡ b → first_said (queue_in (Sub s)) (filter is_sub ps) ≡ first_said (queue_in (Sub s)) ps
          → first_said (queue_in (Sub s)) (if b then p ∷ filter is_sub ps else filter is_sub ps) ≡ first_said (queue_in (Sub s)) (p ∷ ps)
      either true is rest = ap (option_or (queue_in (Sub s) p)) rest
      either false is rest = rest ∙ sym (ap (λ (o : Option ℕ). option_or o (first_said (queue_in (Sub s)) ps)) (not_sub p p.object is))

  kinds_said : (ps : List Planned) → first_said (queue_in (Sub s)) (by_kind ps) ≡ first_said (queue_in (Sub s)) ps
  kinds_said ps =
      said_append (queue_in (Sub s)) (filter is_sub ps ++ filter is_timer ps) (filter is_inbox ps)
      ∙ ap (option_or (first_said (queue_in (Sub s)) (filter is_sub ps ++ filter is_timer ps))) (none_filtered is_inbox (λ p is. no_inbox p p.object is) ps)
      ∙ or_none (first_said (queue_in (Sub s)) (filter is_sub ps ++ filter is_timer ps))
      ∙ said_append (queue_in (Sub s)) (filter is_sub ps) (filter is_timer ps)
      ∙ ap (option_or (first_said (queue_in (Sub s)) (filter is_sub ps))) (none_filtered is_timer (λ p is. no_timer p p.object is) ps)
      ∙ or_none (first_said (queue_in (Sub s)) (filter is_sub ps)) ∙ subs_filtered ps

module _ (script : ScriptData) where
  abbrev count : ℕ
  count = queues_of script.shape

  abbrev place_among : List (List ClientLine) → ℕ → ℕ → Option (SubKind × ℕ)
  place_among clients client number = option_and_then (λ (r : Roster). slice_get r.subs number) (slice_get (map (rostered count no_roster) clients) client)

  client_place : (some : (count == 0) ≡ false) (s : SubId) (k : ℕ) (moments : List (List ℕ)) (clients : List (List ClientLine)) (place : ℕ) → k + place ≡ s.client
      → place_of (first_said (terms_put s) (all_steps (slice_index_or (all_client_steps count k moments clients) place []))) ≡ place_among clients place s.number
  client_place some s k moments [] place is = refl
  client_place some s k moments (ls ∷ clients) zero is =
      terms_place count some s k (omega arith) (at_first (slice_index_or moments k [])) ls no_roster (record { subs = refl; turns = refl }) (omega arith)
  client_place some s k moments (ls ∷ clients) (suc place) is = client_place some s (suc k) moments clients place (omega arith)

  pub place_joined : IsWithin script → (run : RunData) (s : SubId) → place_of (terms_of script run s) ≡ sub_in (cast_of (lines_of script)) (sub_word s)
  place_joined within run s =
      client_place (ne_eqb count 0 (λ none. omega (arith, none, within.queues_some))) s 0 run.clients script.clients s.client (zero-add s.client)
      ∙ sym (ap (λ (rs : List Roster). option_and_then (λ (r : Roster). slice_get r.subs s.number) (slice_get rs s.client)) (rosters_are script))

  client_queue : (some : (count == 0) ≡ false) (s : SubId) (k : ℕ) (clients : List (List ClientLine)) (place : ℕ) → k + place ≡ s.client
      → first_said (queue_in (Sub s)) (objects_of count k clients) ≡ queue_of_place (place_among clients place s.number)
  client_queue some s k [] place is = refl
  client_queue some s k (ls ∷ clients) zero is =
      let own : Option ℕ = first_said (queue_in (Sub s)) (client_objects count k ls) in
      said_append (queue_in (Sub s)) (client_objects count k ls) (objects_of count (suc k) clients)
      ∙ ap (option_or own) (other_clients s count (suc k) (omega (arith, is)) clients) ∙ or_none own
      ∙ queue_place count some s k (omega arith) (at_first []) ls no_roster (record { subs = refl; turns = refl }) (omega arith)
  client_queue some s k (ls ∷ clients) (suc place) is =
      said_append (queue_in (Sub s)) (client_objects count k ls) (objects_of count (suc k) clients)
      ∙ ap (λ (o : Option ℕ). option_or o (first_said (queue_in (Sub s)) (objects_of count (suc k) clients)))
      (other_lines s count k (ne_eqb k s.client (λ same. omega (arith, is, same))) (at_first []) ls)
      ∙ client_queue some s (suc k) clients place (omega arith)

  pub queue_planned : IsWithin script → (s : SubId) → first_said (queue_in (Sub s)) (planned_in script) ≡ queue_of_place (sub_in (cast_of (lines_of script)) (sub_word s))
  queue_planned within s =
      kinds_said s count (objects_of count 0 script.clients)
      ∙ client_queue (ne_eqb count 0 (λ none. omega (arith, none, within.queues_some))) s 0 script.clients s.client (zero-add s.client)
      ∙ sym (ap (λ (rs : List Roster). queue_of_place (option_and_then (λ (r : Roster). slice_get r.subs s.number) (slice_get rs s.client))) (rosters_are script))

-- ---- the members of groups

some_place : (o : Option SubTerms) (x : SubKind × ℕ) → place_of o ≡ Some x → (terms : SubTerms) × (o ≡ Some terms) × (terms.kind ≡ x.0) × (terms.queue ≡ x.1)
some_place None x is = absurd cc
some_place (Some terms) x is = let same : (terms.kind, terms.queue) ≡ x = cc in (terms, refl, ap (λ (p : SubKind × ℕ). p.0) same, ap (λ (p : SubKind × ℕ). p.1) same)

market_is : (kind : SubKind) → is_market kind ≡ true → kind ≡ Market
market_is kinds.Market h = refl
market_is kinds.Snapshot h = absurd cc
market_is kinds.Basic h = absurd cc

-- a market subscription on a queue is there
market_place : (queue : ℕ) (o : Option (SubKind × ℕ)) → is_market_on queue o ≡ true → (x : SubKind × ℕ) × (o ≡ Some x) × (x.0 ≡ Market) × (x.1 ≡ queue)
market_place queue None h = absurd cc
market_place queue (Some x) h = let parts = and_parts (is_market x.0) (x.1 == queue) h in (x, refl, market_is x.0 parts.0, eqb-true x.1 queue parts.1)

module _ (script : ScriptData) (is : IsScript script) (within : IsWithin script) (run : RunData) where
  abbrev made : cast.Cast
  made = cast_of (lines_of script)

  abbrev IsOn : ℕ → SubId → Type 0
  IsOn queue s = (is_market_on queue (sub_in made (sub_word s)) ≡ true) × (has_id (sub_word s) made.stops ≡ false)

  client_parts : (s : SubId) → AllByRecursion (StopsNot (sub_word s)) (lines_of script) → AllByRecursion (StopsNot (sub_word s)) (flat_map client_lines script.clients)
  client_parts s all =
      let body = all_right (StopsNot (sub_word s)) (strategy_lines script.version script.shape.strategy) (body_lines script) all in
      let topics = all_right (StopsNot (sub_word s)) (map topic_line script.topics) (flat_map publisher_lines script.publishers ++ (flat_map client_lines script.clients ++ last_lines script.groups script.watches)) body.1 in
      let sections = all_right (StopsNot (sub_word s)) (flat_map publisher_lines script.publishers) (flat_map client_lines script.clients ++ last_lines script.groups script.watches) topics in
      all_left (StopsNot (sub_word s)) (flat_map client_lines script.clients) (last_lines script.groups script.watches) sections

  may_join : (queue : ℕ) (s : SubId) → IsOn queue s → MayJoin script run queue s
  may_join queue s on =
      let found = market_place queue (sub_in made (sub_word s)) on.0 in
      let place = some_place (terms_of script run s) found.0 (place_joined script within run s ∙ found.1) in
      record {
        terms = place.0;
        joined = place.1;
        client = subst (λ (k : ℕ). s.client < k) (sym is.shaped.clients) (of_client s script run.clients place.0 place.1);
        market = place.2 ∙ found.2;
        there = place.3 ∙ found.3;
        unstopped = λ o call. orders_spared s (rows_of (first_said (plan_in o) (planned_in script))) call
            (said_spared s o (planned_in script)
            (kinds_spared s (objects_of (queues_of script.shape) 0 script.clients)
            (clients_spared s (queues_of script.shape) 0 script.clients (client_parts s (all_stop_not (sub_word s) no_cast (lines_of script) on.1)))));
      }

  all_may : (queue : ℕ) (ss : List SubId) → AllByRecursion (λ (id : IdWord). (is_market_on queue (sub_in made id) ≡ true) × (has_id id made.stops ≡ false)) (map sub_word ss) → AllByRecursion (MayJoin script run queue) ss
  all_may queue [] all = tt
  all_may queue (s ∷ ss) all = (may_join queue s all.0, all_may queue ss all.1)

  -- the queue of the group is that of its first member
  group_on : (members : List SubId) → AllByRecursion (λ (id : IdWord). (is_market_on (group_queue made (map sub_word members)) (sub_in made id) ≡ true) × (has_id id made.stops ≡ false)) (map sub_word members)
      → AllByRecursion (MayJoin script run (queue_of_members (planned_in script) members)) members
  group_on [] all = tt
  group_on (s ∷ ss) all =
      let queue : ℕ = group_queue made (map sub_word (s ∷ ss)) in
      let found = market_place queue (sub_in made (sub_word s)) all.0.0 in
      subst (λ (q : ℕ). AllByRecursion (MayJoin script run q) (s ∷ ss))
      (sym (queue_said found.0.1 (queue_planned script within s ∙ ap queue_of_place found.1) ∙ found.3))
      (all_may queue (s ∷ ss) all)
    where
      queue_said : (k : ℕ) → first_said (queue_in (Sub s)) (planned_in script) ≡ Some k → queue_of (planned_in script) (Sub s) ≡ k
      queue_said k said = rw said refl

  abbrev AreMembers : Grouped → Type 0
  AreMembers g = AllByRecursion (MayJoin script run g.queue) g.members

  groups_on : (n : ℕ) (rows : List GroupRow) → AllByRecursion (IsGroup made) rows → AllByRecursion AreMembers (groups_from (planned_in script) n rows)
  groups_on n [] all = tt
  groups_on n (row ∷ rows) all = (group_on row.members all.0, groups_on (suc n) rows all.1)

  -- each member of each group of the script may join it
  pub members_may : AllByRecursion AreMembers (setting_of script).groups
  members_may =
      groups_on 0 script.groups
      (groups_behind made (strategy_lines script.version script.shape.strategy
      ++ (lines.Queues script.shape.bounds.queues ∷ (map topic_line script.topics ++ (flat_map publisher_lines script.publishers ++ flat_map client_lines script.clients))))
      none_placed 2 script.groups (map watch_line script.watches)
      (ap (misplaced_from made none_placed 2) (sym regrouped) ∙ is.accepted.placed))
    where
      regrouped : lines_of script ≡ (strategy_lines script.version script.shape.strategy
          ++ (lines.Queues script.shape.bounds.queues ∷ (map topic_line script.topics ++ (flat_map publisher_lines script.publishers ++ flat_map client_lines script.clients))))
          ++ (map group_line script.groups ++ map watch_line script.watches)
      regrouped = simp append_assoc

-- each group has a member
abbrev HasSome : Grouped → Type 0
HasSome g = 0 < length g.members

all_some : (objects : List Planned) (n : ℕ) (rows : List GroupRow) → AllByRecursion HasMember rows → AllByRecursion HasSome (groups_from objects n rows)
all_some objects n [] some = tt
all_some objects n (row ∷ rows) some = (some.0, all_some objects (suc n) rows some.1)

pub legal_groups_are_true : LegalGroupsAreTrue
legal_groups_are_true script run is legal =
    let within : IsWithin script = script_within script is in
    let orderly : IsOrderly script = record { shaped = is.shaped; within = within } in
    subst (λ told. AllZip (IsTrueGroup script run) (setting_of script).groups told) (sym legal.lists.groups)
    (each orderly (setting_of script).groups (members_may script is within run) (all_some (planned_in script) 0 script.groups within.members))
  where
    each : IsOrderly script → (gs : List Grouped) → AllByRecursion (λ (g : Grouped). AllByRecursion (MayJoin script run g.queue) g.members) gs → AllByRecursion HasSome gs → AllZip (IsTrueGroup script run) gs (map (group_told (setting_of script) run.queues) gs)
    each orderly [] may some = tt
    each orderly (g ∷ gs) may some = (
      record { number = refl; heard = refl; states = groups_are_true script run orderly legal g some.0 may.0 },
      each orderly gs may.1 some.1,
    )
