-- The plans of an accepted script have few orders for each call.
use Rattle.std.specs.Prelude.{Some, None, if◌then◌else◌}
use Rattle.std.specs.Option.{option_or}
use Rattle.std.specs.List.{AllByRecursion}
use Rattle.std.proofs.Common.{◌≡◌, ℕ, suc, ◌+◌, ◌≤◌, ◌==◌, Bool, true, false, List, [], ◌∷◌, ◌++◌, map, filter, length, refl, ap, sym, ◌∙◌, subst, arith}
use Rattle.mama_journal.specs.Journal.{first_said}
use Rattle.mama_event.specs.declared.ids.ObjectId.{ObjectId}
use Rattle.mama_event.specs.declared.order.PlanRow.{PlanRow}
use Rattle.mama_event.specs.Object.{same_object}
use Rattle.mama_event.specs.Plan.{planned}
use Rattle.mama_script.specs.declared.client.ClientLine.{ClientLine}
use Rattle.mama_script.specs.declared.client.ClientLine.TheVariants as line
use Rattle.mama_script.specs.Script.{ScriptData}
use Rattle.mama_script.specs.Within.{IsPlanWithin, IsStepWithin, IsClientWithin, IsWithin}
use Rattle.mama_script.specs.Within as within
use Rattle.mama_rules_rounds.specs.Client.{Planned, Standing, line_object, after_line, objects_from, at_first, client_objects}
use Rattle.mama_rules_rounds.specs.Setting.{plan_in, rows_of}
use Rattle.mama_rules_rounds.specs.Sections.{is_sub, is_timer, is_inbox, objects_of, setting_of}
use Rattle.mama_plans.specs.Plans.{IsFew, AreFew}

-- the orders for a call are as many as are counted for it
counted : (call : ℕ) (rows : List PlanRow) → length (planned rows call) ≡ within.planned call rows
counted call [] = refl
counted call (r ∷ rows) = go (r.call == call) (counted call rows)
  where
    go : (b : Bool) → length (planned rows call) ≡ within.planned call rows
        → length (map (λ (x : PlanRow). x.order) (if b then r ∷ filter (λ x. x.call == call) rows else filter (λ x. x.call == call) rows)) ≡ (if b then 1 else 0) + within.planned call rows
    go true as_many = ap suc as_many ∙ (let e : suc (within.planned call rows) ≡ 1 + within.planned call rows = omega arith in e)
    go false as_many = as_many ∙ (let e : within.planned call rows ≡ 0 + within.planned call rows = omega arith in e)

plan_few : (topics : ℕ) (rows : List PlanRow) → IsPlanWithin topics rows → IsFew rows
plan_few topics rows h call = subst (λ (n : ℕ). n ≤ 8) (sym (counted call rows)) (h.calls call)

few_append : (ps qs : List Planned) → AreFew ps → AreFew qs → AreFew (ps ++ qs)
few_append [] qs few more = more
few_append (p ∷ ps) qs few more = (few.0, few_append ps qs few.1 more)

few_filter : (test : Planned → Bool) (ps : List Planned) → AreFew ps → AreFew (filter test ps)
few_filter test [] few = tt
few_filter test (p ∷ ps) few = go (test p) (few_filter test ps few.1)
  where
    go : (b : Bool) → AreFew (filter test ps) → AreFew (if b then p ∷ filter test ps else filter test ps)
    go true rest = (few.0, rest)
    go false rest = rest

line_few : (topics queues c : ℕ) (s : Standing) (l : ClientLine) → IsStepWithin topics queues l → AreFew (line_object queues c s l)
line_few topics queues c s (line.Sub topic kind queue cache recaps faults plan) h = (plan_few topics plan h.2, tt)
line_few topics queues c s (line.Timer queue interval plan) h = (plan_few topics plan h.2, tt)
line_few topics queues c s (line.Inbox queue faults plan) h = (plan_few topics plan h.1, tt)
line_few topics queues c s (line.Order o) h = tt
line_few topics queues c s (line.Now m) h = tt
line_few topics queues c s line.NowClock h = tt
line_few topics queues c s (line.Pause n) h = tt

lines_few : (topics queues c : ℕ) (s : Standing) (ls : List ClientLine) → AllByRecursion (IsStepWithin topics queues) ls → AreFew (objects_from queues c s ls)
lines_few topics queues c s [] h = tt
lines_few topics queues c s (l ∷ ls) h =
    few_append (line_object queues c s l) (objects_from queues c (after_line s l) ls) (line_few topics queues c s l h.0) (lines_few topics queues c (after_line s l) ls h.1)

clients_few : (topics queues c : ℕ) (cs : List (List ClientLine)) → AllByRecursion (IsClientWithin topics queues) cs → AreFew (objects_of queues c cs)
clients_few topics queues c [] h = tt
clients_few topics queues c (ls ∷ cs) h =
    few_append (client_objects queues c ls) (objects_of queues (suc c) cs) (lines_few topics queues c (at_first []) ls h.0.steps) (clients_few topics queues (suc c) cs h.1)

pub objects_few : (s : ScriptData) → IsWithin s → AreFew (setting_of s).objects
objects_few s h =
    let all : List Planned = objects_of s.shape.bounds.queues 0 s.clients in
    let few : AreFew all = clients_few (length s.topics) s.shape.bounds.queues 0 s.clients h.clients in
    few_append (filter is_sub all ++ filter is_timer all) (filter is_inbox all)
    (few_append (filter is_sub all) (filter is_timer all) (few_filter is_sub all few) (few_filter is_timer all few))
    (few_filter is_inbox all few)

-- so has the plan of each object
pub few_said : (o : ObjectId) (ps : List Planned) → AreFew ps → IsFew (rows_of (first_said (plan_in o) ps))
few_said o [] few = λ call. omega arith
few_said o (p ∷ ps) few = go (same_object p.object o) (few_said o ps few.1)
  where
    go : (b : Bool) → IsFew (rows_of (first_said (plan_in o) ps)) → IsFew (rows_of (option_or (if b then Some p.plan else None) (first_said (plan_in o) ps)))
    go true rest = few.0
    go false rest = rest
