-- The objects of a script are declared, and so is whatever their plans order.
use Rattle.std.specs.Prelude.{slice_get, Option, None, Some, if◌then◌else◌}
use Rattle.std.specs.List.{AllByRecursion}
use Rattle.std.specs.Option.{option_or}
use Rattle.std.proofs.Common.{◌≡◌, ℕ, suc, ◌+◌, ◌≤◌, ◌==◌, Bool, true, false, List, [], ◌∷◌, ◌++◌, length, map, filter, refl, sym, subst, arith}
use Rattle.mama_journal.specs.Journal.{first_said}
use Rattle.mama_event.specs.Object.{same_object}
use Rattle.mama_event.specs.Ports.{queues_of}
use Rattle.mama_event.specs.Plan.{planned}
use Rattle.mama_event.specs.declared.ids.ObjectId.{ObjectId}
use Rattle.mama_event.specs.declared.order.PlanRow.{PlanRow}
use Rattle.mama_event.specs.declared.to_bridge.SubTerms.{SubTerms}
use Rattle.mama_event.specs.declared.to_bridge.InboxTerms.{InboxTerms}
use Rattle.mama_link.specs.declared.faults.FaultRow.{FaultRow}
use Rattle.mama_script.specs.declared.client.ClientLine.{ClientLine}
use Rattle.mama_script.specs.declared.client.ClientLine.TheVariants as line
use Rattle.mama_script.specs.Line.{IsLine}
use Rattle.mama_script.specs.Script.{ScriptData}
use Rattle.mama_script.specs.Tree.{IsScript, fault_line, plan_line, object_lines}
use Rattle.mama_script.specs.Within as within
use Rattle.mama_script.specs.Within.{IsWithin, IsClientWithin, IsStepWithin, IsStepNamed, AreStepsNamed, IsPlanWithin, AreOrdersWithin, ArePlanned, made_of}
use Rattle.mama_rules_rounds.specs.Client.{Planned, Standing, at_first, queue_named, after_line, line_object, objects_from}
use Rattle.mama_rules_rounds.specs.Setting.{plan_in, rows_of, orders_by}
use Rattle.mama_rules_rounds.specs.Sections.{objects_of, is_sub, is_timer, is_inbox, setting_of}
use Rattle.mama_log_line.specs.declared.names.TimerTerms.{TimerTerms}
use Rattle.mama_log_line.specs.Names.{ClientData, NamesData, no_data, turns_after, data_with, data_after, data_of, names_of}
use Rattle.mama_log_line.specs.Entering.{MayOrder}
use Rattle.mama_laws_genuine.proofs.Elements.{all_append, all_filter, all_map, all_right}
use Rattle.mama_laws_logged.proofs.Fits.{IsPlan}
use Rattle.mama_laws_logged.proofs.Accepted.{IsStepSound, clients_sound}
use Rattle.mama_laws_logged.proofs.Declared as declared
use Rattle.mama_laws_logged.proofs.Declared.{all_get, Grows, grows_not, all_grown, grows_more, IsKnown, known, may_order}
use Rattle.mama_laws_logged.proofs.Standing.{IsAt, starts, moved, sub_at, timer_at, inbox_at}

-- as many orders are planned for a call as rows are counted
planned_many : (plan : List PlanRow) (call : ℕ) → length (planned plan call) ≡ within.planned call plan
planned_many [] call = refl
planned_many (row ∷ rows) call = counted (row.call == call) (planned_many rows call)
  where
    counted : (b : Bool) → length (planned rows call) ≡ within.planned call rows
        → length (map (λ (r : PlanRow). r.order) (if b then row ∷ filter (λ (r : PlanRow). r.call == call) rows else filter (λ (r : PlanRow). r.call == call) rows))
        ≡ (if b then 1 else 0) + within.planned call rows
    counted true same = omega (arith, same)
    counted false same = omega (arith, same)

-- rows that a log may have the orders of
record IsRows (names : NamesData) (rows : List PlanRow) : Type 0 where
  pub orders : AllByRecursion (λ (row : PlanRow). MayOrder names row.order) rows
  pub few : (call : ℕ) → length (planned rows call) ≤ 8

module _ (script : ScriptData) (is : IsScript script) (inside : IsWithin script) where
  abbrev names : NamesData
  names = names_of script

  abbrev queues : ℕ
  queues = queues_of script.shape

  abbrev Within : ClientLine → Type 0
  Within l = IsStepWithin (length script.topics) script.shape.bounds.queues l

  abbrev Named : ClientLine → Type 0
  Named l = IsStepNamed (map made_of script.clients) l

  rows_may : (rows : List PlanRow) → AllByRecursion (IsLine script.version) (map plan_line rows) → AreOrdersWithin (length script.topics) rows → ArePlanned (map made_of script.clients) rows
      → AllByRecursion (λ (row : PlanRow). MayOrder names row.order) rows
  rows_may [] sound topics named = tt
  rows_may (row ∷ rows) sound topics named = (may_order script inside is row.order sound.0.2 topics.0 named.0, rows_may rows sound.1 topics.1 named.1)

  plan_may : (faults : List FaultRow) (plan : List PlanRow) → AllByRecursion (IsLine script.version) (object_lines faults plan) → IsPlanWithin (length script.topics) plan
      → ArePlanned (map made_of script.clients) plan → IsRows names plan
  plan_may faults plan sound fits named = record {
    orders = rows_may plan (all_right (IsLine script.version) (map fault_line faults) (map plan_line plan) sound) fits.orders named;
    few = λ call. subst (λ (n : ℕ). n ≤ 8) (sym (planned_many plan call)) (fits.calls call);
  }

  module _ (c : ℕ) (all : ClientData) (of : IsKnown names c all) where
    own : (st : Standing) (turns : ℕ) (d : ClientData) (l : ClientLine) → IsAt st turns d → Grows (data_with queues turns d l) all
        → IsStepSound script.version l → Within l → Named l → AllByRecursion (IsPlan names) (line_object queues c st l)
    own st turns d (line.Sub topic kind queue cache recaps faults plan) at grows sound fits named =
        let terms : SubTerms = record { topic = topic; kind = kind; queue = queue_named queues st queue; cache = cache; recaps = recaps; faults = faults } in
        let rows : IsRows names plan = plan_may faults plan sound.1 fits.2 named in
        (record { object = declared.is_sub names c all of st.subs terms (sub_at queues st turns d all at terms queue grows); orders = rows.orders; few = rows.few }, tt)
    own st turns d (line.Timer queue interval plan) at grows sound fits named =
        let terms : TimerTerms = record { queue = queue_named queues st queue; interval = interval } in
        let rows : IsRows names plan = plan_may [] plan sound.1 fits.2 named in
        (record { object = declared.is_timer names c all of st.timers terms (timer_at queues st turns d all at interval queue grows); orders = rows.orders; few = rows.few }, tt)
    own st turns d (line.Inbox queue faults plan) at grows sound fits named =
        let terms : InboxTerms = record { queue = queue_named queues st queue; faults = faults } in
        let rows : IsRows names plan = plan_may faults plan sound.1 fits.1 named in
        (record { object = declared.is_inbox names c all of st.inboxes terms (inbox_at queues st turns d all at faults queue grows); orders = rows.orders; few = rows.few }, tt)
    own st turns d (line.Order o) at grows sound fits named = tt
    own st turns d (line.Now m) at grows sound fits named = tt
    own st turns d line.NowClock at grows sound fits named = tt
    own st turns d (line.Pause n) at grows sound fits named = tt

    plans : (st : Standing) (turns : ℕ) (d : ClientData) (ls : List ClientLine) → IsAt st turns d → Grows (data_after queues turns d ls) all
        → AllByRecursion (IsStepSound script.version) ls → AllByRecursion Within ls → AllByRecursion Named ls → AllByRecursion (IsPlan names) (objects_from queues c st ls)
    plans st turns d [] at grows sound fits named = tt
    plans st turns d (l ∷ ls) at grows sound fits named =
        let e : ClientData = data_with queues turns d l in
        all_append (IsPlan names) (line_object queues c st l) (objects_from queues c (after_line st l) ls)
        (own st turns d l at (grows_more e (data_after queues (turns_after turns l) e ls) all (all_grown queues (turns_after turns l) e ls) grows) sound.0 fits.0 named.0)
        (plans (after_line st l) (turns_after turns l) e ls (moved queues st turns d l at) grows sound.1 fits.1 named.1)

  of_client : (c : ℕ) (lines : List ClientLine) → slice_get script.clients c ≡ Some lines
      → AllByRecursion (IsStepSound script.version) lines → AllByRecursion Within lines → AllByRecursion Named lines → AllByRecursion (IsPlan names) (objects_from queues c (at_first []) lines)
  of_client c lines at = plans c (data_of queues lines) (known script inside c lines at) (at_first []) 0 no_data lines (starts []) (grows_not (data_of queues lines))

  -- the clients from a number on
  all_plans : (n : ℕ) (clients : List (List ClientLine)) → ((k : ℕ) (lines : List ClientLine) → slice_get clients k ≡ Some lines → slice_get script.clients (n + k) ≡ Some lines)
      → AllByRecursion (IsPlan names) (objects_of queues n clients)
  all_plans n [] each = tt
  all_plans n (lines ∷ clients) each =
      all_append (IsPlan names) (objects_from queues n (at_first []) lines) (objects_of queues (suc n) clients)
      (of_client_at n lines (subst (λ (c : ℕ). slice_get script.clients c ≡ Some lines) (plus_none n) (each 0 lines refl)))
      (all_plans (suc n) clients (λ k ls at. subst (λ (c : ℕ). slice_get script.clients c ≡ Some ls) (plus_one n k) (each (suc k) ls at)))
    where
      plus_none : (n : ℕ) → n + 0 ≡ n
      plus_none n = omega arith

      plus_one : (n k : ℕ) → n + suc k ≡ suc n + k
      plus_one n k = omega arith

      of_client_at : (c : ℕ) (lines : List ClientLine) → slice_get script.clients c ≡ Some lines → AllByRecursion (IsPlan names) (objects_from queues c (at_first []) lines)
      of_client_at c lines at =
          of_client c lines at
          (all_get (AllByRecursion (IsStepSound script.version)) script.clients c lines (clients_sound script is) at)
          (all_get (IsClientWithin (length script.topics) script.shape.bounds.queues) script.clients c lines inside.clients at).steps
          (all_get (AreStepsNamed (map made_of script.clients)) script.clients c lines inside.named at)

  pub objects_fit : AllByRecursion (IsPlan (names_of script)) (setting_of script).objects
  objects_fit =
      let objects : List Planned = objects_of queues 0 script.clients in
      let fit : AllByRecursion (IsPlan names) objects = all_plans 0 script.clients (λ k lines at. subst (λ (c : ℕ). slice_get script.clients c ≡ Some lines) (from_none k) at) in
      all_append (IsPlan names) (filter is_sub objects ++ filter is_timer objects) (filter is_inbox objects)
      (all_append (IsPlan names) (filter is_sub objects) (filter is_timer objects) (all_filter (IsPlan names) is_sub objects fit) (all_filter (IsPlan names) is_timer objects fit))
      (all_filter (IsPlan names) is_inbox objects fit)
    where
      from_none : (k : ℕ) → k ≡ 0 + k
      from_none k = omega arith

  -- ---- the plan of an object

  first_rows : (b : Bool) (plan : List PlanRow) (rest : Option (List PlanRow)) → IsRows names plan → IsRows names (rows_of rest)
      → IsRows names (rows_of (option_or (if b then Some plan else None) rest))
  first_rows true plan rest one two = one
  first_rows false plan rest one two = two

  plan_found : (o : ObjectId) (objects : List Planned) → AllByRecursion (IsPlan names) objects → IsRows names (rows_of (first_said (plan_in o) objects))
  plan_found o [] all = record { orders = tt; few = λ call. omega arith }
  plan_found o (p ∷ objects) all =
      first_rows (same_object p.object o) p.plan (first_said (plan_in o) objects) (record { orders = all.0.orders; few = all.0.few }) (plan_found o objects all.1)

  pub orders_fit : (o : ObjectId) (call : ℕ)
      → AllByRecursion (MayOrder (names_of script)) (orders_by (setting_of script) o call) × (length (orders_by (setting_of script) o call) ≤ 8)
  orders_fit o call =
      let rows : List PlanRow = rows_of (first_said (plan_in o) (setting_of script).objects) in
      let found : IsRows names rows = plan_found o (setting_of script).objects objects_fit in (
        all_map (λ (row : PlanRow). MayOrder names row.order) (MayOrder names) (λ (row : PlanRow). row.order) (λ row may. may)
            (filter (λ (row : PlanRow). row.call == call) rows)
            (all_filter (λ (row : PlanRow). MayOrder names row.order) (λ (row : PlanRow). row.call == call) rows found.orders),
        found.few call,
      )
