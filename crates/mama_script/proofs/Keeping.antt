-- What fitting lines say of the script that has them.
use Rattle.std.proofs.Common.{◌≡◌, ℕ, ◌+◌, ◌<◌, ◌≤◌, Bool, true, false, cond, eqb, ltb, leb, List, [], ◌∷◌, ◌++◌, length, map, Option, Some, None, refl, sym, ap, subst, ◌∙◌, append_assoc, arith}
use Rattle.std.specs.Prelude.{◌==◌}
use Rattle.std.specs.List.{flat_map, AllByRecursion}
use Rattle.std.specs.Ordering.{nat_cmp}
use Rattle.std.specs.BTreeMap.{insert_entry}
use Rattle.std.proofs.lemmas.Bool.{ltb-false, leb-false, eqb-true, eqb-false}
use Rattle.mama_event.specs.declared.order.Order.{Order}
use Rattle.mama_event.specs.declared.order.Order.TheVariants as orders
use Rattle.mama_event.specs.declared.order.PlanRow.{PlanRow}
use Rattle.mama_event.specs.declared.group.GroupRow.{GroupRow}
use Rattle.mama_event.specs.declared.watch.WatchRow.{WatchRow}
use Rattle.mama_link.specs.declared.faults.FaultRow.{FaultRow}
use Rattle.mama_msg.specs.Message.{apply}
use Rattle.mama_words.specs.Order.{word_of}
use Rattle.mama_script.specs.declared.head.Place.TheVariants as places
use Rattle.mama_script.specs.declared.fault.Flaw.{Flaw}
use Rattle.mama_script.specs.declared.fault.Flaw.TheVariants.{Fault, Limit}
use Rattle.mama_script.specs.declared.line.Line.{Line}
use Rattle.mama_script.specs.declared.line.Line.TheVariants as lines
use Rattle.mama_script.specs.declared.publisher.PublisherLine.{PublisherLine}
use Rattle.mama_script.specs.declared.publisher.PublisherLine.TheVariants as sends
use Rattle.mama_script.specs.declared.publisher.PublisherPart.{PublisherPart}
use Rattle.mama_script.specs.declared.client.QueueWord.{QueueWord}
use Rattle.mama_script.specs.declared.client.QueueWord.TheVariants.{Number, Any}
use Rattle.mama_script.specs.declared.client.ClientLine.{ClientLine}
use Rattle.mama_script.specs.declared.client.ClientLine.TheVariants as steps
use Rattle.mama_script.specs.Script.{ScriptData}
use Rattle.mama_script.specs.declared.head.Head.TheVariants as heads
use Rattle.mama_script.specs.declared.head.Place.{Place}
use Rattle.mama_script.specs.Head.{allows, may_end}
use Rattle.mama_script.specs.Before.{Before, start, after, flaw_if, first_flaw, beside, topic_flaw, queue_flaw, order_flaw, object_flaw, number_at, after_queues, after_publisher, after_client, after_sub, after_timer, after_inbox, after_fault, after_at}
use Rattle.mama_script.specs.Reading.{version_of, FitFrom, AreAccepted}
use Rattle.mama_script.specs.Tree.{queue_name, plan_line, fault_line, object_lines, publisher_line, publisher_lines, step_lines, client_lines, topic_line, strategy_lines, last_lines, IsScript}
use Rattle.mama_words.specs.declared.version.Version.{Version}
use Rattle.mama_words.specs.declared.version.Version.TheVariants as version
use Rattle.mama_event.specs.declared.shape.Strategy.{Strategy}
use Rattle.mama_script.specs.Within.{IsQueueWithin, IsOrderWithin, AreOrdersWithin, planned, IsPlanWithin, IsStepWithin, subs_of, objects_of, subs_in, objects_in, all_subs, IsClientWithin, AreSendsWithin, IsPublisherWithin, IsWithin}
use Rattle.mama_script.proofs.Counts.{number_at-insert}
use Rattle.mama_script.proofs.Naming.{script_named}
use Rattle.mama_script.proofs.Listed.{unlisted, few_lists, lists_apart}

-- ---- tests that found nothing

pub flaw_none : (test : Bool) (f : Flaw) (rest : Option Flaw) → flaw_if test f rest ≡ None → (test ≡ false) × (rest ≡ None)
flaw_none true f rest e = absurd cc
flaw_none false f rest e = (refl, e)

pub first_none : (a b : Option Flaw) → first_flaw a b ≡ None → (a ≡ None) × (b ≡ None)
first_none None b e = (refl, e)
first_none (Some f) b e = absurd cc

pub topic_declared : (topic : ℕ) (b : Before) → topic_flaw topic b ≡ None → topic < b.topics
topic_declared topic b e = leb-false b.topics topic (flaw_none (leb b.topics topic) (Fault 9) None e).0

queue_declared : (q : QueueWord) (b : Before) → queue_flaw (queue_name q) b ≡ None → IsQueueWithin b.queues q
queue_declared (Number n) b e = leb-false b.queues n (flaw_none (leb b.queues n) (Fault 9) None e).0
queue_declared Any b e = tt

order_declared : (o : Order) (b : Before) → order_flaw (word_of o) b ≡ None → IsOrderWithin b.topics o
order_declared (orders.Stop id) b e = tt
order_declared (orders.Disarm id) b e = tt
order_declared (orders.Close id) b e = tt
order_declared (orders.Ask id topic fids) b e = topic_declared topic b e

pub object_below : (b : Before) → object_flaw b ≡ None → b.objects < 1024
object_below b e = leb-false 1024 b.objects (flaw_none (leb 1024 b.objects) (Limit 7) None e).0

-- ---- lines of a client's section, behind which the rest fits

record On (b : Before) (objects subs : ℕ) (rest : List Line) : Type 0 where
  next : Before
  topics : next.topics ≡ b.topics
  queues : next.queues ≡ b.queues
  clients : next.clients ≡ b.clients
  objects_are : next.objects ≡ b.objects + objects
  subs_are : next.subs ≡ b.subs + subs
  objects_few : b.objects ≤ 1024 → next.objects ≤ 1024
  subs_few : b.subs ≤ 10000 → next.subs ≤ 10000
  fits : FitFrom next rest

-- no lines, or lines that count nothing
abbrev level : (b c : Before) (rest : List Line) → c.topics ≡ b.topics → c.queues ≡ b.queues → c.clients ≡ b.clients → c.objects ≡ b.objects → c.subs ≡ b.subs → FitFrom c rest → On b 0 0 rest
level b c rest t q n o s fits = record {
  next = c;
  topics = t;
  queues = q;
  clients = n;
  objects_are = omega (arith, o);
  subs_are = omega (arith, s);
  objects_few = λ h. omega (arith, o, h);
  subs_few = λ h. omega (arith, s, h);
  fits = fits;
}

on_then : (b : Before) (n m i j : ℕ) (rest last : List Line) (x : On b n m rest) → On x.next i j last → On b (n + i) (m + j) last
on_then b n m i j rest last x y = record {
  next = y.next;
  topics = y.topics ∙ x.topics;
  queues = y.queues ∙ x.queues;
  clients = y.clients ∙ x.clients;
  objects_are = omega (arith, x.objects_are, y.objects_are);
  subs_are = omega (arith, x.subs_are, y.subs_are);
  objects_few = λ h. y.objects_few (x.objects_few h);
  subs_few = λ h. y.subs_few (x.subs_few h);
  fits = y.fits;
}

record FaultsOn (b : Before) (rest : List Line) : Type 0 where
  on : On b 0 0 rest
  calls : on.next.calls ≡ b.calls

faults_on : (b : Before) (rows : List FaultRow) (rest : List Line) → FitFrom b (map fault_line rows ++ rest) → FaultsOn b rest
faults_on b [] rest h = record { on = level b b rest refl refl refl refl refl h; calls = refl }
faults_on b (r ∷ rows) rest h =
    let more = faults_on (after_fault r.index b) rows rest h.1 in
    let x = more.on in
    record {
      on = record { next = x.next; topics = x.topics; queues = x.queues; clients = x.clients; objects_are = x.objects_are; subs_are = x.subs_are; objects_few = x.objects_few; subs_few = x.subs_few; fits = x.fits };
      calls = more.calls;
    }

record PlanOn (b : Before) (rows : List PlanRow) (rest : List Line) : Type 0 where
  on : On b 0 0 rest
  orders : AreOrdersWithin b.topics rows
  calls : (call : ℕ) → number_at call b.calls ≤ 8 → number_at call b.calls + planned call rows ≤ 8

plan_more : (call k n : ℕ) (calls : List (ℕ × ℕ)) (rows : List PlanRow) (same : Bool) → eqb k call ≡ same → n ≡ number_at k calls → n < 8
    → (number_at call (insert_entry nat_cmp calls k (n + 1)) ≤ 8 → number_at call (insert_entry nat_cmp calls k (n + 1)) + planned call rows ≤ 8) → number_at call calls ≤ 8
    → number_at call calls + (cond same 1 0 + planned call rows) ≤ 8
plan_more call k n calls rows true e is lt more few =
    let here : number_at call (insert_entry nat_cmp calls k (n + 1)) ≡ n + 1 = number_at-insert call calls k (n + 1) ∙ rw e refl in
    let same : n ≡ number_at call calls = is ∙ ap (λ (x : ℕ). number_at x calls) (eqb-true k call e) in
    let all : n + 1 + planned call rows ≤ 8 = rw here at (more (rw here (omega (arith, lt)))) in
    omega (arith, all, same)
plan_more call k n calls rows false e is lt more few =
    let here : number_at call (insert_entry nat_cmp calls k (n + 1)) ≡ number_at call calls = number_at-insert call calls k (n + 1) ∙ rw e refl in
    let all : number_at call calls + planned call rows ≤ 8 = rw here at (more (rw here few)) in
    omega (arith, all)

plan_on : (b : Before) (rows : List PlanRow) (rest : List Line) → FitFrom b (map plan_line rows ++ rest) → PlanOn b rows rest
plan_on b [] rest h = record { on = level b b rest refl refl refl refl refl h; orders = tt; calls = λ call few. omega (arith, few) }
plan_on b (r ∷ rows) rest h =
    let more = plan_on (after_at r.call b) rows rest h.1 in
    let x = more.on in
    let p = first_none (order_flaw (word_of r.order) b) (flaw_if (leb 8 (number_at r.call b.calls)) (Fault 11) None) h.0.sound in
    let lt = leb-false 8 (number_at r.call b.calls) (flaw_none (leb 8 (number_at r.call b.calls)) (Fault 11) None p.1).0 in
    record {
      on = record { next = x.next; topics = x.topics; queues = x.queues; clients = x.clients; objects_are = x.objects_are; subs_are = x.subs_are; objects_few = x.objects_few; subs_few = x.subs_few; fits = x.fits };
      orders = (order_declared r.order b p.0, more.orders);
      calls = λ call few. plan_more call r.call (number_at r.call b.calls) b.calls rows (eqb r.call call) refl refl lt (more.calls call) few;
    }

record ObjectOn (b : Before) (plan : List PlanRow) (rest : List Line) : Type 0 where
  on : On b 0 0 rest
  plan_is : IsPlanWithin b.topics plan

object_on : (b : Before) (faults : List FaultRow) (plan : List PlanRow) (rest : List Line) → b.calls ≡ [] → FitFrom b (object_lines faults plan ++ rest) → ObjectOn b plan rest
object_on b faults plan rest none h =
    let f = faults_on b faults (map plan_line plan ++ rest) (subst (λ (ls : List Line). FitFrom b ls) (append_assoc (map fault_line faults) (map plan_line plan) rest) h) in
    let p = plan_on f.on.next plan rest f.on.fits in
    let empty : f.on.next.calls ≡ [] = f.calls ∙ none in
    record {
      on = on_then b 0 0 0 0 (map plan_line plan ++ rest) rest f.on p.on;
      plan_is = record {
        orders = subst (λ (t : ℕ). AreOrdersWithin t plan) f.on.topics p.orders;
        calls = λ call.
            let zero_calls : number_at call f.on.next.calls ≡ 0 = ap (number_at call) empty in
            omega (arith, p.calls call (omega (arith, zero_calls)), zero_calls);
      };
    }

some_interval : (interval : ℕ) → (interval == 0) ≡ false → 1 ≤ interval
some_interval interval e = let ne = eqb-false interval 0 e in omega (arith, ne)

record StepOn (b : Before) (s : ClientLine) (rest : List Line) : Type 0 where
  on : On b (objects_of s) (subs_of s) rest
  step : IsStepWithin b.topics b.queues s

step_on : (b : Before) (s : ClientLine) (rest : List Line) → FitFrom b (step_lines s ++ rest) → StepOn b s rest
step_on b (steps.Sub topic kind queue cache recaps faults plan) rest h =
    let p = first_none (topic_flaw topic b) _ h.0.sound in
    let q = first_none (queue_flaw (queue_name queue) b) _ p.1 in
    let r = flaw_none (leb 10000 b.subs) (Limit 6) _ q.1 in
    let lt = leb-false 10000 b.subs r.0 in
    let o = object_on (after_sub topic b) faults plan rest refl h.1 in
    let x = o.on in
    record {
      on = record {
        next = x.next;
        topics = x.topics;
        queues = x.queues;
        clients = x.clients;
        objects_are = x.objects_are;
        subs_are = omega (arith, x.subs_are);
        objects_few = x.objects_few;
        subs_few = λ few. x.subs_few (omega (arith, lt));
        fits = x.fits;
      };
      step = (topic_declared topic b p.0, queue_declared queue b q.0, o.plan_is);
    }
step_on b (steps.Timer queue interval plan) rest h =
    let p = first_none (queue_flaw (queue_name queue) b) _ h.0.sound in
    let q = flaw_none (interval == 0) (Fault 12) (object_flaw b) p.1 in
    let lt = object_below b q.1 in
    let o = object_on (after_timer b) [] plan rest refl h.1 in
    let x = o.on in
    record {
      on = record {
        next = x.next;
        topics = x.topics;
        queues = x.queues;
        clients = x.clients;
        objects_are = omega (arith, x.objects_are);
        subs_are = x.subs_are;
        objects_few = λ few. x.objects_few (omega (arith, lt));
        subs_few = x.subs_few;
        fits = x.fits;
      };
      step = (queue_declared queue b p.0, some_interval interval q.0, o.plan_is);
    }
step_on b (steps.Inbox queue faults plan) rest h =
    let p = first_none (queue_flaw (queue_name queue) b) (object_flaw b) h.0.sound in
    let lt = object_below b p.1 in
    let o = object_on (after_inbox b) faults plan rest refl h.1 in
    let x = o.on in
    record {
      on = record {
        next = x.next;
        topics = x.topics;
        queues = x.queues;
        clients = x.clients;
        objects_are = omega (arith, x.objects_are);
        subs_are = x.subs_are;
        objects_few = λ few. x.objects_few (omega (arith, lt));
        subs_few = x.subs_few;
        fits = x.fits;
      };
      step = (queue_declared queue b p.0, o.plan_is);
    }
step_on b (steps.Order order) rest h = record { on = level b (after b (lines.Order (word_of order))) rest refl refl refl refl refl h.1; step = order_declared order b h.0.sound }
step_on b (steps.Now moment) rest h = record { on = level b (after b (lines.Now moment)) rest refl refl refl refl refl h.1; step = tt }
step_on b steps.NowClock rest h = record { on = level b (after b lines.NowClock) rest refl refl refl refl refl h.1; step = tt }
step_on b (steps.Pause rounds) rest h = record { on = level b (after b (lines.Pause rounds)) rest refl refl refl refl refl h.1; step = tt }

record StepsOn (b : Before) (ss : List ClientLine) (rest : List Line) : Type 0 where
  on : On b (objects_in ss) (subs_in ss) rest
  steps : AllByRecursion (IsStepWithin b.topics b.queues) ss

steps_on : (b : Before) (ss : List ClientLine) (rest : List Line) → FitFrom b (flat_map step_lines ss ++ rest) → StepsOn b ss rest
steps_on b [] rest h = record { on = level b b rest refl refl refl refl refl h; steps = tt }
steps_on b (s ∷ ss) rest h =
    let behind = flat_map step_lines ss ++ rest in
    let one = step_on b s behind (subst (λ (ls : List Line). FitFrom b ls) (append_assoc (step_lines s) (flat_map step_lines ss) rest) h) in
    let more = steps_on one.on.next ss rest one.on.fits in
    let topics : AllByRecursion (IsStepWithin b.topics one.on.next.queues) ss = subst (λ (t : ℕ). AllByRecursion (IsStepWithin t one.on.next.queues) ss) one.on.topics more.steps in
    record {
      on = on_then b (objects_of s) (subs_of s) (objects_in ss) (subs_in ss) behind rest one.on more.on;
      steps = (one.step, subst (λ (q : ℕ). AllByRecursion (IsStepWithin b.topics q) ss) one.on.queues topics);
    }

-- ---- clients

record ClientsOn (b : Before) (cs : List (List ClientLine)) : Type 0 where
  few : b.clients ≤ 64 → b.clients + length cs ≤ 64
  subs_few : b.subs ≤ 10000 → b.subs + all_subs cs ≤ 10000
  clients : AllByRecursion (IsClientWithin b.topics b.queues) cs

clients_on : (b : Before) (cs : List (List ClientLine)) (rest : List Line) → FitFrom b (flat_map client_lines cs ++ rest) → ClientsOn b cs
clients_on b [] rest h = record { few = λ h. omega (arith, h); subs_few = λ h. omega (arith, h); clients = tt }
clients_on b (c ∷ cs) rest h =
    let lt = leb-false 64 b.clients (flaw_none (leb 64 b.clients) (Limit 5) None h.0.sound).0 in
    let behind = flat_map client_lines cs ++ rest in
    let one = steps_on (after_client b) c behind (subst (λ (ls : List Line). FitFrom (after_client b) ls) (append_assoc (flat_map step_lines c) (flat_map client_lines cs) rest) h.1) in
    let x = one.on in
    let more = clients_on x.next cs rest x.fits in
    let topics : AllByRecursion (IsClientWithin b.topics x.next.queues) cs = subst (λ (t : ℕ). AllByRecursion (IsClientWithin t x.next.queues) cs) x.topics more.clients in
    record {
      few = λ few. omega (arith, more.few (omega (arith, x.clients, lt)), x.clients);
      subs_few = λ few. omega (arith, more.subs_few (x.subs_few few), x.subs_are);
      clients = (record { steps = one.steps; objects = omega (arith, x.objects_few (omega arith), x.objects_are) }, subst (λ (q : ℕ). AllByRecursion (IsClientWithin b.topics q) cs) x.queues topics);
    }

-- ---- publishers

record SendsOn (b : Before) (ls : List PublisherLine) (rest : List Line) : Type 0 where
  next : Before
  topics : next.topics ≡ b.topics
  queues : next.queues ≡ b.queues
  publishers : next.publishers ≡ b.publishers
  clients : next.clients ≡ b.clients
  subs : next.subs ≡ b.subs
  place : next.place ≡ places.Publisher
  sent : AreSendsWithin b.held ls
  fits : FitFrom next rest

sends_on : (b : Before) (ls : List PublisherLine) (rest : List Line) → b.place ≡ places.Publisher → FitFrom b (map publisher_line ls ++ rest) → SendsOn b ls rest
sends_on b [] rest at h = record { next = b; topics = refl; queues = refl; publishers = refl; clients = refl; subs = refl; place = at; sent = tt; fits = h }
sends_on b (sends.Update update ∷ ls) rest at h =
    let p = flaw_none (ltb 64 (length update)) (Limit 8) _ h.0.sound in
    let q = flaw_none (ltb 64 (length (apply b.held update))) (Limit 8) None p.1 in
    let x = sends_on (after b (lines.Update update)) ls rest at h.1 in
    record { next = x.next; topics = x.topics; queues = x.queues; publishers = x.publishers; clients = x.clients; subs = x.subs; place = x.place; sent = ((ltb-false 64 (length update) p.0, ltb-false 64 (length (apply b.held update)) q.0), x.sent); fits = x.fits }
sends_on b (sends.Recap ∷ ls) rest at h =
    let x = sends_on (after b lines.Recap) ls rest at h.1 in
    record { next = x.next; topics = x.topics; queues = x.queues; publishers = x.publishers; clients = x.clients; subs = x.subs; place = x.place; sent = (tt, x.sent); fits = x.fits }
sends_on b (sends.Pause rounds ∷ ls) rest at h =
    let x = sends_on (after b (lines.Pause rounds)) ls rest (ap beside at) h.1 in
    record { next = x.next; topics = x.topics; queues = x.queues; publishers = x.publishers; clients = x.clients; subs = x.subs; place = x.place; sent = (tt, x.sent); fits = x.fits }

record PublishersOn (b : Before) (ps : List PublisherPart) (rest : List Line) : Type 0 where
  next : Before
  topics : next.topics ≡ b.topics
  queues : next.queues ≡ b.queues
  clients : next.clients ≡ b.clients
  subs : next.subs ≡ b.subs
  ends : may_end b.place ≡ false → may_end next.place ≡ false
  few : b.publishers ≤ 1024 → b.publishers + length ps ≤ 1024
  publishers : AllByRecursion (IsPublisherWithin b.topics) ps
  fits : FitFrom next rest

publishers_on : (b : Before) (ps : List PublisherPart) (rest : List Line) → FitFrom b (flat_map publisher_lines ps ++ rest) → PublishersOn b ps rest
publishers_on b [] rest h = record { next = b; topics = refl; queues = refl; clients = refl; subs = refl; ends = λ h. h; few = λ h. omega (arith, h); publishers = tt; fits = h }
publishers_on b (p ∷ ps) rest h =
    let behind = flat_map publisher_lines ps ++ rest in
    let t = first_none (topic_flaw p.topic b) _ h.0.sound in
    let n = flaw_none (leb 1024 b.publishers) (Limit 4) _ t.1 in
    let l = flaw_none (ltb 64 (length p.base)) (Limit 8) None n.1 in
    let lt = leb-false 1024 b.publishers n.0 in
    let s = sends_on (after_publisher p.topic p.base b) p.lines behind refl (subst (λ (ls : List Line). FitFrom (after_publisher p.topic p.base b) ls) (append_assoc (map publisher_line p.lines) (flat_map publisher_lines ps) rest) h.1) in
    let more = publishers_on s.next ps rest s.fits in
    record {
      next = more.next;
      topics = more.topics ∙ s.topics;
      queues = more.queues ∙ s.queues;
      clients = more.clients ∙ s.clients;
      subs = more.subs ∙ s.subs;
      ends = λ h. more.ends (ap may_end s.place);
      few = λ few. omega (arith, more.few (omega (arith, s.publishers, lt)), s.publishers);
      publishers = (record { topic = topic_declared p.topic b t.0; base = ltb-false 64 (length p.base) l.0; sends = s.sent }, subst (λ (t : ℕ). AllByRecursion (IsPublisherWithin t) ps) s.topics more.publishers);
      fits = more.fits;
    }

-- ---- topics

record TopicsOn (b : Before) (names : List (List ℕ)) (rest : List Line) : Type 0 where
  next : Before
  topics : next.topics ≡ b.topics + length names
  few : b.topics ≤ 1024 → next.topics ≤ 1024
  queues : next.queues ≡ b.queues
  publishers : next.publishers ≡ b.publishers
  clients : next.clients ≡ b.clients
  subs : next.subs ≡ b.subs
  place : next.place ≡ b.place
  fits : FitFrom next rest

topics_on : (b : Before) (names : List (List ℕ)) (rest : List Line) → FitFrom b (map topic_line names ++ rest) → TopicsOn b names rest
topics_on b [] rest h = record { next = b; topics = omega arith; few = λ h. h; queues = refl; publishers = refl; clients = refl; subs = refl; place = refl; fits = h }
topics_on b (name ∷ names) rest h =
    let lt = leb-false 1024 b.topics (flaw_none (leb 1024 b.topics) (Limit 3) None h.0.sound).0 in
    let x = topics_on (after b (topic_line name)) names rest h.1 in
    record { next = x.next; topics = omega (arith, x.topics); few = λ few. x.few (omega (arith, lt)); queues = x.queues; publishers = x.publishers; clients = x.clients; subs = x.subs; place = x.place; fits = x.fits }

-- ---- the script

-- where a script may not end, neither groups nor watches may stand
never_group : (p : Place) → may_end p ≡ false → allows p heads.Group ≡ true → ⊥
never_group places.Strategy no_end h = cc
never_group places.Start no_end h = cc
never_group places.Topics no_end h = cc
never_group places.Publisher no_end h = cc
never_group places.Client no_end h = cc
never_group places.Linked no_end h = cc
never_group places.Planned no_end h = cc
never_group places.Groups no_end h = cc
never_group places.Watches no_end h = cc

never_watch : (p : Place) → may_end p ≡ false → allows p heads.Watch ≡ true → ⊥
never_watch places.Strategy no_end h = cc
never_watch places.Start no_end h = cc
never_watch places.Topics no_end h = cc
never_watch places.Publisher no_end h = cc
never_watch places.Client no_end h = cc
never_watch places.Linked no_end h = cc
never_watch places.Planned no_end h = cc
never_watch places.Groups no_end h = cc
never_watch places.Watches no_end h = cc

no_line : (b : Before) (groups : List GroupRow) (watches : List WatchRow) → may_end b.place ≡ false → FitFrom b (last_lines groups watches) → ⊥
no_line b [] [] ends h = let bad : true ≡ false = sym h ∙ ends in cc
no_line b [] (w ∷ ws) ends h = never_watch b.place ends h.0.place
no_line b (g ∷ gs) ws ends h = never_group b.place ends h.0.place

some_client : (b : Before) (cs : List (List ClientLine)) (groups : List GroupRow) (watches : List WatchRow) → may_end b.place ≡ false → FitFrom b (flat_map client_lines cs ++ last_lines groups watches) → 1 ≤ length cs
some_client b [] groups watches ends h = absurd (no_line b groups watches ends h)
some_client b (c ∷ cs) groups watches ends h = omega arith

-- in front of the queues
abbrev opened : Version → Before
opened v = record (start v) { place = places.Start }

body_fits : (v : Version) (told : Strategy) (queues : ℕ) (ls : List Line) → FitFrom (start (version_of (strategy_lines v told ++ lines.Queues queues ∷ ls))) (strategy_lines v told ++ lines.Queues queues ∷ ls) → FitFrom (opened v) (lines.Queues queues ∷ ls)
body_fits version.One told queues ls h = h
body_fits version.Two told queues ls h = h.1

-- what lines say of their sections, whatever stands behind those
pub record SectionsOn (queues : ℕ) (topics : List (List ℕ)) (publishers : List PublisherPart) (clients : List (List ClientLine)) (rest : List Line) : Type 0 where
  pub queues_some : 1 ≤ queues
  pub queues_few : queues ≤ 64
  pub topics_few : length topics ≤ 1024
  pub publishers_few : length publishers ≤ 1024
  pub clients_few : length clients ≤ 64
  pub subs_few : all_subs clients ≤ 10000
  pub publishers_are : AllByRecursion (IsPublisherWithin (length topics)) publishers
  pub clients_are : AllByRecursion (IsClientWithin (length topics) queues) clients
  pub before : Before
  pub no_end : may_end before.place ≡ false
  pub fits : FitFrom before (flat_map client_lines clients ++ rest)

-- the lines of sections, and what stands behind them
abbrev pub sections_of : Version → Strategy → ℕ → List (List ℕ) → List PublisherPart → List (List ClientLine) → List Line → List Line
sections_of v told queues topics publishers clients rest = strategy_lines v told ++ lines.Queues queues ∷ (map topic_line topics ++ (flat_map publisher_lines publishers ++ (flat_map client_lines clients ++ rest)))

pub sections_on : (v : Version) (told : Strategy) (queues : ℕ) (topics : List (List ℕ)) (publishers : List PublisherPart) (clients : List (List ClientLine)) (rest : List Line)
    → AreAccepted (sections_of v told queues topics publishers clients rest) → SectionsOn queues topics publishers clients rest
sections_on v told q topics publishers clients rest accepted =
    let b = after_queues q (opened v) in
    let behind_publishers = flat_map client_lines clients ++ rest in
    let behind_topics = flat_map publisher_lines publishers ++ behind_publishers in
    let fit = body_fits v told q (map topic_line topics ++ behind_topics) accepted.fit in
    let few = ltb-false 64 q (flaw_none (ltb 64 q) (Limit 2) None fit.0.sound).0 in
    let t = topics_on b topics behind_topics fit.1 in
    let p = publishers_on t.next publishers behind_publishers t.fits in
    let c = clients_on p.next clients rest p.fits in
    let topics_are : t.next.topics ≡ length topics = omega (arith, t.topics) in
    let zero_clients : p.next.clients ≡ 0 = p.clients ∙ t.clients in
    let zero_subs : p.next.subs ≡ 0 = p.subs ∙ t.subs in
    let by_topics : AllByRecursion (IsClientWithin (length topics) p.next.queues) clients = subst (λ (n : ℕ). AllByRecursion (IsClientWithin n p.next.queues) clients) (p.topics ∙ topics_are) c.clients in
    record {
      queues_some = fit.0.form.0;
      queues_few = few;
      topics_few = omega (arith, t.few (omega arith), topics_are);
      publishers_few = omega (arith, p.few (omega (arith, t.publishers)), t.publishers);
      clients_few = omega (arith, c.few (omega (arith, zero_clients)), zero_clients);
      subs_few = omega (arith, c.subs_few (omega (arith, zero_subs)), zero_subs);
      publishers_are = subst (λ (n : ℕ). AllByRecursion (IsPublisherWithin n) publishers) topics_are p.publishers;
      clients_are = subst (λ (n : ℕ). AllByRecursion (IsClientWithin (length topics) n) clients) (p.queues ∙ t.queues) by_topics;
      before = p.next;
      no_end = p.ends (ap may_end t.place);
      fits = p.fits;
    }

pub script_within : (s : ScriptData) → IsScript s → IsWithin s
script_within s is =
    let on = sections_on s.version s.shape.strategy s.shape.bounds.queues s.topics s.publishers s.clients (last_lines s.groups s.watches) is.accepted in
    let lists = few_lists s is in
    let apart = lists_apart s is in
    record {
      queues_some = on.queues_some;
      queues_few = on.queues_few;
      topics_few = on.topics_few;
      publishers_few = on.publishers_few;
      clients_some = some_client on.before s.clients s.groups s.watches on.no_end on.fits;
      clients_few = on.clients_few;
      subs_few = on.subs_few;
      publishers = on.publishers_are;
      clients = on.clients_are;
      named = script_named s is.accepted.named;
      groups_few = omega (arith, lists.groups, on.subs_few);
      watches_few = omega (arith, lists.watches, on.subs_few);
      unlisted = unlisted s is;
      members = apart.members;
      grouped = apart.grouped;
      watched = apart.subs;
      timed = apart.timers;
    }
