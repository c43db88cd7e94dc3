-- The lines of a client join, arm and open each object that is planned for it, on the queue where it is planned.
use Rattle.std.specs.Prelude.{◌%◌, filter, replicate, slice_index_or, if◌then◌else◌, Option, Some, None}
use Rattle.std.specs.List.{AllByRecursion}
use Rattle.std.specs.Option.{option_or}
use Rattle.std.proofs.Common.{◌≡◌, ℕ, zero, suc, ◌+◌, ◌<◌, ◌≤◌, ◌==◌, ◌&&◌, Bool, true, false, List, [], ◌∷◌, ◌++◌, length, refl, sym, ◌∙◌, ap, subst, arith}
use Rattle.std.proofs.lemmas.Bool.{ne_eqb}
use Rattle.std.proofs.lemmas.List.Concat.{flat_map-append}
use Rattle.mama_journal.specs.Journal.{first_said}
use Rattle.mama_event.specs.Object.{same_sub, same_timer, same_inbox}
use Rattle.mama_event.specs.declared.ids.SubId.{SubId}
use Rattle.mama_event.specs.declared.ids.TimerId.{TimerId}
use Rattle.mama_event.specs.declared.ids.InboxId.{InboxId}
use Rattle.mama_event.specs.declared.ids.ObjectId.{ObjectId}
use Rattle.mama_event.specs.declared.ids.ObjectId.TheVariants.{Sub, Timer, Inbox}
use Rattle.mama_event.specs.declared.order.Order.{Order}
use Rattle.mama_event.specs.declared.order.Order.TheVariants as order
use Rattle.mama_event.specs.declared.to_bridge.SubTerms.{SubTerms}
use Rattle.mama_event.specs.declared.to_bridge.InboxTerms.{InboxTerms}
use Rattle.mama_rules_queue.specs.Queue.{QueuePut, order_put}
use Rattle.mama_script.specs.declared.client.ClientLine.{ClientLine}
use Rattle.mama_script.specs.declared.client.ClientLine.TheVariants as line
use Rattle.mama_script.specs.declared.client.QueueWord.{QueueWord}
use Rattle.mama_script.specs.declared.client.QueueWord.TheVariants.{Number, Any}
use Rattle.mama_rules_rounds.specs.Client.{Standing, Planned, at_first, queue_named, after_word, after_line, line_steps, steps_from, line_object, objects_from, client_objects}
use Rattle.mama_rules_rounds.specs.Sections.{all_client_steps, objects_of, is_sub, is_timer, is_inbox, by_kind}
use Rattle.mama_rules_legal.specs.Edges.{all_steps}
use Rattle.mama_rules_legal.specs.Streams.{terms_put, inbox_terms_put}
use Rattle.mama_rules_legal.specs.Ticks.{arming_put}
use Rattle.mama_laws_legal.proofs.Lives.{same_sub-itself}
use Rattle.mama_laws_legal.proofs.Lives.{same_timer-itself}
use Rattle.mama_laws_legal.proofs.Lives.{same_inbox-itself}
use Rattle.mama_journal.specs.EntryLaws.{first_said-append}
use Rattle.mama_laws_genuine.proofs.Elements.{all_append, all_weaker}
use Rattle.mama_laws_callbacks.specs.Told.{Of}

-- with some terms an object is made on this queue
pub record IsMade {A : Type 0} (queue_of : A → ℕ) (queue : ℕ) (said : Option A) : Type 0 where
  pub terms : A
  pub is : said ≡ Some terms
  pub there : queue_of terms ≡ queue

-- it is this client's, with this number or a later one
record Later {A : Type 0} (queue_of : A → ℕ) (say : QueuePut → Option A) (c from owner number : ℕ) (puts : List QueuePut) (queue : ℕ) : Type 0 where
  pub client : owner ≡ c
  pub above : from ≤ number
  pub made : IsMade queue_of queue (first_said say puts)

abbrev pub queue_in : SubTerms → ℕ
queue_in terms = terms.queue

abbrev pub inbox_queue_in : InboxTerms → ℕ
inbox_queue_in terms = terms.queue

abbrev pub timer_queue_in : ℕ × ℕ → ℕ
timer_queue_in arming = arming.0

-- ---- how a line changes the standing

named_same : (queues : ℕ) (a b : Standing) (word : QueueWord) → a.turns ≡ b.turns → queue_named queues a word ≡ queue_named queues b word
named_same queues a b (Number n) same = refl
named_same queues a b Any same = ap (λ (t : ℕ). t % queues) same

word_turns : (a b : Standing) (word : QueueWord) → a.turns ≡ b.turns → (after_word a word).turns ≡ (after_word b word).turns
word_turns a b (Number n) same = same
word_turns a b Any same = ap suc same

line_turns : (a b : Standing) (l : ClientLine) → a.turns ≡ b.turns → (after_line a l).turns ≡ (after_line b l).turns
line_turns a b (line.Sub topic kind queue cache recaps faults plan) same = word_turns a b queue same
line_turns a b (line.Timer queue interval plan) same = word_turns a b queue same
line_turns a b (line.Inbox queue faults plan) same = word_turns a b queue same
line_turns a b (line.Order o) same = same
line_turns a b (line.Now m) same = same
line_turns a b line.NowClock same = same
line_turns a b (line.Pause n) same = same

-- how many objects of each kind a line makes
abbrev subs_by : ClientLine → ℕ
subs_by (line.Sub topic kind queue cache recaps faults plan) = 1
subs_by (line.Timer queue interval plan) = 0
subs_by (line.Inbox queue faults plan) = 0
subs_by (line.Order o) = 0
subs_by (line.Now m) = 0
subs_by line.NowClock = 0
subs_by (line.Pause n) = 0

abbrev timers_by : ClientLine → ℕ
timers_by (line.Sub topic kind queue cache recaps faults plan) = 0
timers_by (line.Timer queue interval plan) = 1
timers_by (line.Inbox queue faults plan) = 0
timers_by (line.Order o) = 0
timers_by (line.Now m) = 0
timers_by line.NowClock = 0
timers_by (line.Pause n) = 0

abbrev inboxes_by : ClientLine → ℕ
inboxes_by (line.Sub topic kind queue cache recaps faults plan) = 0
inboxes_by (line.Timer queue interval plan) = 0
inboxes_by (line.Inbox queue faults plan) = 1
inboxes_by (line.Order o) = 0
inboxes_by (line.Now m) = 0
inboxes_by line.NowClock = 0
inboxes_by (line.Pause n) = 0

-- the queue's word changes no number
record SameNumbers (a b : Standing) : Type 0 where
  pub subs : a.subs ≡ b.subs
  pub timers : a.timers ≡ b.timers
  pub inboxes : a.inboxes ≡ b.inboxes

word_numbers : (a : Standing) (word : QueueWord) → SameNumbers (after_word a word) a
word_numbers a (Number n) = record { subs = refl; timers = refl; inboxes = refl }
word_numbers a Any = record { subs = refl; timers = refl; inboxes = refl }

record Counts (a : Standing) (l : ClientLine) : Type 0 where
  pub subs : (after_line a l).subs ≡ a.subs + subs_by l
  pub timers : (after_line a l).timers ≡ a.timers + timers_by l
  pub inboxes : (after_line a l).inboxes ≡ a.inboxes + inboxes_by l

counts : (a : Standing) (l : ClientLine) → Counts a l
counts a (line.Sub topic kind queue cache recaps faults plan) =
    let w = word_numbers a queue in record { subs = omega arith; timers = w.timers ∙ omega arith; inboxes = w.inboxes ∙ omega arith }
counts a (line.Timer queue interval plan) =
    let w = word_numbers a queue in record { subs = w.subs ∙ omega arith; timers = omega arith; inboxes = w.inboxes ∙ omega arith }
counts a (line.Inbox queue faults plan) =
    let w = word_numbers a queue in record { subs = w.subs ∙ omega arith; timers = w.timers ∙ omega arith; inboxes = omega arith }
counts a (line.Order o) = record { subs = omega arith; timers = omega arith; inboxes = omega arith }
counts a (line.Now m) = record { subs = omega arith; timers = omega arith; inboxes = omega arith }
counts a line.NowClock = record { subs = omega arith; timers = omega arith; inboxes = omega arith }
counts a (line.Pause n) = record { subs = omega arith; timers = omega arith; inboxes = omega arith }

-- ---- a line makes no object of a later number

order_joins : (s : SubId) (o : Order) → terms_put s (order_put o) ≡ None
order_joins s (order.Stop sub) = refl
order_joins s (order.Disarm timer) = refl
order_joins s (order.Close inbox) = refl
order_joins s (order.Ask inbox topic fids) = refl

order_arms : (t : TimerId) (o : Order) → arming_put t (order_put o) ≡ None
order_arms t (order.Stop sub) = refl
order_arms t (order.Disarm timer) = refl
order_arms t (order.Close inbox) = refl
order_arms t (order.Ask inbox topic fids) = refl

order_opens : (i : InboxId) (o : Order) → inbox_terms_put i (order_put o) ≡ None
order_opens i (order.Stop sub) = refl
order_opens i (order.Disarm timer) = refl
order_opens i (order.Close inbox) = refl
order_opens i (order.Ask inbox topic fids) = refl

paused : {A : Type 0} (say : QueuePut → Option A) (n : ℕ) → first_said say (all_steps (replicate n (let none : List QueuePut = [] in none))) ≡ None
paused say zero = refl
paused say (suc n) = paused say n

alone : {A : Type 0} (o : Option A) → o ≡ None → option_or o None ≡ None
alone o none = ap (λ x. option_or x None) none

-- the number before is another
apart : {A : Type 0} (c owner before number : ℕ) (x : A) → before + 1 ≤ number → (if (c == owner) && (before == number) then Some x else None) ≡ None
apart {A = A} c owner before number x above =
    ap (λ (b : Bool). if (c == owner) && b then Some x else None) (ne_eqb before number (λ same. absurd (omega (arith, above, same)))) ∙ both (c == owner)
  where
    both : (b : Bool) → (if b && false then Some x else None) ≡ None
    both true = refl
    both false = refl

sub_before : (queues c : ℕ) (st : Standing) (s : SubId) (l : ClientLine) → st.subs + subs_by l ≤ s.number → first_said (terms_put s) (all_steps (line_steps queues c st l)) ≡ None
sub_before queues c st s (line.Sub topic kind queue cache recaps faults plan) above =
    let terms : SubTerms = record { topic = topic; kind = kind; queue = queue_named queues st queue; cache = cache; recaps = recaps; faults = faults } in
    alone (if (c == s.client) && (st.subs == s.number) then Some terms else None) (apart c s.client st.subs s.number terms above)
sub_before queues c st s (line.Timer queue interval plan) above = refl
sub_before queues c st s (line.Inbox queue faults plan) above = refl
sub_before queues c st s (line.Order o) above = alone (terms_put s (order_put o)) (order_joins s o)
sub_before queues c st s (line.Now m) above = refl
sub_before queues c st s line.NowClock above = refl
sub_before queues c st s (line.Pause n) above = paused (terms_put s) n

timer_before : (queues c : ℕ) (st : Standing) (t : TimerId) (l : ClientLine) → st.timers + timers_by l ≤ t.number → first_said (arming_put t) (all_steps (line_steps queues c st l)) ≡ None
timer_before queues c st t (line.Timer queue interval plan) above =
    let arming : ℕ × ℕ = (queue_named queues st queue, interval) in
    alone (if (c == t.client) && (st.timers == t.number) then Some arming else None) (apart c t.client st.timers t.number arming above)
timer_before queues c st t (line.Sub topic kind queue cache recaps faults plan) above = refl
timer_before queues c st t (line.Inbox queue faults plan) above = refl
timer_before queues c st t (line.Order o) above = alone (arming_put t (order_put o)) (order_arms t o)
timer_before queues c st t (line.Now m) above = refl
timer_before queues c st t line.NowClock above = refl
timer_before queues c st t (line.Pause n) above = paused (arming_put t) n

inbox_before : (queues c : ℕ) (st : Standing) (i : InboxId) (l : ClientLine) → st.inboxes + inboxes_by l ≤ i.number
    → first_said (inbox_terms_put i) (all_steps (line_steps queues c st l)) ≡ None
inbox_before queues c st i (line.Inbox queue faults plan) above =
    let terms : InboxTerms = record { queue = queue_named queues st queue; faults = faults } in
    alone (if (c == i.client) && (st.inboxes == i.number) then Some terms else None) (apart c i.client st.inboxes i.number terms above)
inbox_before queues c st i (line.Sub topic kind queue cache recaps faults plan) above = refl
inbox_before queues c st i (line.Timer queue interval plan) above = refl
inbox_before queues c st i (line.Order o) above = alone (inbox_terms_put i (order_put o)) (order_opens i o)
inbox_before queues c st i (line.Now m) above = refl
inbox_before queues c st i line.NowClock above = refl
inbox_before queues c st i (line.Pause n) above = paused (inbox_terms_put i) n

steps_more : (xs ys : List (List QueuePut)) → all_steps (xs ++ ys) ≡ all_steps xs ++ all_steps ys
steps_more xs ys = flat_map-append (λ (step : List QueuePut). step) xs ys

later_more : {A : Type 0} (queue_of : A → ℕ) (say : QueuePut → Option A) (c from more owner number : ℕ) (first puts : List QueuePut) (queue : ℕ)
    → first_said say first ≡ None → Later queue_of say c (from + more) owner number puts queue → Later queue_of say c from owner number (first ++ puts) queue
later_more {A = A} queue_of say c from more owner number first puts queue none later = record {
  client = later.client;
  above = omega (arith, later.above);
  made = record {
    terms = later.made.terms;
    is = first_said-append say first puts ∙ ap (λ (o : Option A). option_or o (first_said say puts)) none ∙ later.made.is;
    there = later.made.there;
  };
}

-- ---- the lines of a client

module _ (queues c : ℕ) where
  abbrev PlannedLater : ℕ → ℕ → ℕ → List QueuePut → Planned → Type 0
  PlannedLater subs timers inboxes puts p = Of
      (λ s. Later queue_in (terms_put s) c subs s.client s.number puts p.queue)
      (λ t. Later timer_queue_in (arming_put t) c timers t.client t.number puts p.queue)
      (λ i. Later inbox_queue_in (inbox_terms_put i) c inboxes i.client i.number puts p.queue) p.object

  -- the numbers of the standing at which objects are planned, and at which they are made
  record Alike (plain st : Standing) : Type 0 where
    pub numbers : SameNumbers plain st
    pub turns : plain.turns ≡ st.turns

  alike_after : (plain st : Standing) (l : ClientLine) → Alike plain st → Alike (after_line plain l) (after_line st l)
  alike_after plain st l like =
      let a = counts plain l in
      let b = counts st l in
      record {
        numbers = record {
          subs = a.subs ∙ ap (λ (n : ℕ). n + subs_by l) like.numbers.subs ∙ sym b.subs;
          timers = a.timers ∙ ap (λ (n : ℕ). n + timers_by l) like.numbers.timers ∙ sym b.timers;
          inboxes = a.inboxes ∙ ap (λ (n : ℕ). n + inboxes_by l) like.numbers.inboxes ∙ sym b.inboxes;
        };
        turns = line_turns plain st l like.turns;
      }

  after_more : (plain st : Standing) (l : ClientLine) (puts : List QueuePut) → Alike plain st → (p : Planned)
      → PlannedLater (plain.subs + subs_by l) (plain.timers + timers_by l) (plain.inboxes + inboxes_by l) puts p
      → PlannedLater plain.subs plain.timers plain.inboxes (all_steps (line_steps queues c st l) ++ puts) p
  after_more plain st l puts like p later = at p.object later
    where
      at : (o : ObjectId)
          → Of (λ s. Later queue_in (terms_put s) c (plain.subs + subs_by l) s.client s.number puts p.queue)
          (λ t. Later timer_queue_in (arming_put t) c (plain.timers + timers_by l) t.client t.number puts p.queue)
          (λ i. Later inbox_queue_in (inbox_terms_put i) c (plain.inboxes + inboxes_by l) i.client i.number puts p.queue) o
          → Of (λ s. Later queue_in (terms_put s) c plain.subs s.client s.number (all_steps (line_steps queues c st l) ++ puts) p.queue)
          (λ t. Later timer_queue_in (arming_put t) c plain.timers t.client t.number (all_steps (line_steps queues c st l) ++ puts) p.queue)
          (λ i. Later inbox_queue_in (inbox_terms_put i) c plain.inboxes i.client i.number (all_steps (line_steps queues c st l) ++ puts) p.queue) o
      at (Sub s) h = later_more queue_in (terms_put s) c plain.subs (subs_by l) s.client s.number (all_steps (line_steps queues c st l)) puts p.queue
          (sub_before queues c st s l (subst (λ (n : ℕ). n + subs_by l ≤ s.number) like.numbers.subs h.above)) h
      at (Timer t) h = later_more timer_queue_in (arming_put t) c plain.timers (timers_by l) t.client t.number (all_steps (line_steps queues c st l)) puts p.queue
          (timer_before queues c st t l (subst (λ (n : ℕ). n + timers_by l ≤ t.number) like.numbers.timers h.above)) h
      at (Inbox i) h = later_more inbox_queue_in (inbox_terms_put i) c plain.inboxes (inboxes_by l) i.client i.number (all_steps (line_steps queues c st l)) puts p.queue
          (inbox_before queues c st i l (subst (λ (n : ℕ). n + inboxes_by l ≤ i.number) like.numbers.inboxes h.above)) h

  own_line : (plain st : Standing) → Alike plain st → (l : ClientLine) (puts : List QueuePut)
      → AllByRecursion (PlannedLater plain.subs plain.timers plain.inboxes (all_steps (line_steps queues c st l) ++ puts)) (line_object queues c plain l)
  own_line plain st like (line.Sub topic kind queue cache recaps faults plan) puts =
      let own : SubId = record { client = c; number = plain.subs } in
      let terms : SubTerms = record { topic = topic; kind = kind; queue = queue_named queues st queue; cache = cache; recaps = recaps; faults = faults } in (
        record {
          client = refl;
          above = omega arith;
          made = record {
            terms = terms;
            is = ap (λ (n : ℕ). option_or (if same_sub (record { client = c; number = n }) own then Some terms else None) (first_said (terms_put own) puts)) (sym like.numbers.subs)
                ∙ ap (λ (b : Bool). option_or (if b then Some terms else None) (first_said (terms_put own) puts)) (same_sub-itself own);
            there = sym (named_same queues plain st queue like.turns);
          };
        },
        tt,
      )
  own_line plain st like (line.Timer queue interval plan) puts =
      let own : TimerId = record { client = c; number = plain.timers } in
      let arming : ℕ × ℕ = (queue_named queues st queue, interval) in (
        record {
          client = refl;
          above = omega arith;
          made = record {
            terms = arming;
            is = ap (λ (n : ℕ). option_or (if same_timer (record { client = c; number = n }) own then Some arming else None) (first_said (arming_put own) puts)) (sym like.numbers.timers)
                ∙ ap (λ (b : Bool). option_or (if b then Some arming else None) (first_said (arming_put own) puts)) (same_timer-itself own);
            there = sym (named_same queues plain st queue like.turns);
          };
        },
        tt,
      )
  own_line plain st like (line.Inbox queue faults plan) puts =
      let own : InboxId = record { client = c; number = plain.inboxes } in
      let terms : InboxTerms = record { queue = queue_named queues st queue; faults = faults } in (
        record {
          client = refl;
          above = omega arith;
          made = record {
            terms = terms;
            is = ap (λ (n : ℕ). option_or (if same_inbox (record { client = c; number = n }) own then Some terms else None) (first_said (inbox_terms_put own) puts)) (sym like.numbers.inboxes)
                ∙ ap (λ (b : Bool). option_or (if b then Some terms else None) (first_said (inbox_terms_put own) puts)) (same_inbox-itself own);
            there = sym (named_same queues plain st queue like.turns);
          };
        },
        tt,
      )
  own_line plain st like (line.Order o) puts = tt
  own_line plain st like (line.Now m) puts = tt
  own_line plain st like line.NowClock puts = tt
  own_line plain st like (line.Pause n) puts = tt

  made_from : (plain st : Standing) → Alike plain st → (lines : List ClientLine)
      → AllByRecursion (PlannedLater plain.subs plain.timers plain.inboxes (all_steps (steps_from queues c st lines))) (objects_from queues c plain lines)
  made_from plain st like [] = tt
  made_from plain st like (l ∷ ls) =
      let rest : List QueuePut = all_steps (steps_from queues c (after_line st l) ls) in
      let now : List QueuePut = all_steps (line_steps queues c st l) ++ rest in
      let later : List Planned = objects_from queues c (after_line plain l) ls in
      let n = counts plain l in
      subst (λ (puts : List QueuePut). AllByRecursion (PlannedLater plain.subs plain.timers plain.inboxes puts) (line_object queues c plain l ++ later))
      (sym (steps_more (line_steps queues c st l) (steps_from queues c (after_line st l) ls)))
      (all_append (PlannedLater plain.subs plain.timers plain.inboxes now) (line_object queues c plain l) later
      (own_line plain st like l rest)
      (all_weaker (PlannedLater (plain.subs + subs_by l) (plain.timers + timers_by l) (plain.inboxes + inboxes_by l) rest) (PlannedLater plain.subs plain.timers plain.inboxes now)
      (after_more plain st l rest like) later
      (subst (λ (k : ℕ). AllByRecursion (PlannedLater k (plain.timers + timers_by l) (plain.inboxes + inboxes_by l) rest) later) n.subs
      (subst (λ (k : ℕ). AllByRecursion (PlannedLater (after_line plain l).subs k (plain.inboxes + inboxes_by l) rest) later) n.timers
      (subst (λ (k : ℕ). AllByRecursion (PlannedLater (after_line plain l).subs (after_line plain l).timers k rest) later) n.inboxes
      (made_from (after_line plain l) (after_line st l) (alike_after plain st l like) ls))))))

-- ---- the lines of all clients

-- it is made by the lines of its client, which is one of so many from the number n on
pub record OfClient {A : Type 0} (queue_of : A → ℕ) (say : QueuePut → Option A) (n count owner : ℕ) (steps : List (List (List QueuePut))) (queue : ℕ) : Type 0 where
  pub place : ℕ
  pub within : place < count
  pub client : owner ≡ n + place
  pub made : IsMade queue_of queue (first_said say (all_steps (slice_index_or steps place [])))

abbrev pub PlannedOf : ℕ → List (List ℕ) → ℕ → List (List ClientLine) → ℕ → ObjectId → Type 0
PlannedOf queues moments n clients queue o = Of
    (λ s. OfClient queue_in (terms_put s) n (length clients) s.client (all_client_steps queues n moments clients) queue)
    (λ t. OfClient timer_queue_in (arming_put t) n (length clients) t.client (all_client_steps queues n moments clients) queue)
    (λ i. OfClient inbox_queue_in (inbox_terms_put i) n (length clients) i.client (all_client_steps queues n moments clients) queue) o

first_of : {A : Type 0} (queue_of : A → ℕ) (say : QueuePut → Option A) (n count owner number : ℕ) (steps : List (List QueuePut)) (rest : List (List (List QueuePut))) (queue : ℕ)
    → Later queue_of say n 0 owner number (all_steps steps) queue → OfClient queue_of say n (suc count) owner (steps ∷ rest) queue
first_of queue_of say n count owner number steps rest queue later = record { place = 0; within = omega arith; client = later.client ∙ omega arith; made = later.made }

later_of : {A : Type 0} (queue_of : A → ℕ) (say : QueuePut → Option A) (n count owner : ℕ) (steps : List (List QueuePut)) (rest : List (List (List QueuePut))) (queue : ℕ)
    → OfClient queue_of say (suc n) count owner rest queue → OfClient queue_of say n (suc count) owner (steps ∷ rest) queue
later_of queue_of say n count owner steps rest queue of = record { place = suc of.place; within = omega (arith, of.within); client = of.client ∙ omega arith; made = of.made }

all_filtered : {X : Type 0} (P : X → Type 0) (test : X → Bool) (xs : List X) → AllByRecursion P xs → AllByRecursion P (filter test xs)
all_filtered P test [] all = tt
all_filtered P test (x ∷ xs) all =
    elim (test x) as (λ (b : Bool). AllByRecursion P (if b then x ∷ filter test xs else filter test xs)) [
      | true ↦ (all.0, all_filtered P test xs all.1)
      | false ↦ all_filtered P test xs all.1
    ]

module _ (queues : ℕ) (moments : List (List ℕ)) where
  abbrev Of_planned : ℕ → List (List ClientLine) → Planned → Type 0
  Of_planned n clients p = PlannedOf queues moments n clients p.queue p.object

  first_client : (n : ℕ) (lines : List ClientLine) (rest : List (List ClientLine)) (p : Planned)
      → PlannedLater queues n 0 0 0 (all_steps (steps_from queues n (at_first (slice_index_or moments n [])) lines)) p → Of_planned n (lines ∷ rest) p
  first_client n lines rest p later = at p.object later
    where
      at : (o : ObjectId)
          → Of (λ s. Later queue_in (terms_put s) n 0 s.client s.number (all_steps (steps_from queues n (at_first (slice_index_or moments n [])) lines)) p.queue)
          (λ t. Later timer_queue_in (arming_put t) n 0 t.client t.number (all_steps (steps_from queues n (at_first (slice_index_or moments n [])) lines)) p.queue)
          (λ i. Later inbox_queue_in (inbox_terms_put i) n 0 i.client i.number (all_steps (steps_from queues n (at_first (slice_index_or moments n [])) lines)) p.queue) o
          → PlannedOf queues moments n (lines ∷ rest) p.queue o
      at (Sub s) h = first_of queue_in (terms_put s) n (length rest) s.client s.number (steps_from queues n (at_first (slice_index_or moments n [])) lines) (all_client_steps queues (suc n) moments rest) p.queue h
      at (Timer t) h = first_of timer_queue_in (arming_put t) n (length rest) t.client t.number (steps_from queues n (at_first (slice_index_or moments n [])) lines) (all_client_steps queues (suc n) moments rest) p.queue h
      at (Inbox i) h = first_of inbox_queue_in (inbox_terms_put i) n (length rest) i.client i.number (steps_from queues n (at_first (slice_index_or moments n [])) lines) (all_client_steps queues (suc n) moments rest) p.queue h

  later_client : (n : ℕ) (lines : List ClientLine) (rest : List (List ClientLine)) (p : Planned) → Of_planned (suc n) rest p → Of_planned n (lines ∷ rest) p
  later_client n lines rest p later = at p.object later
    where
      at : (o : ObjectId) → PlannedOf queues moments (suc n) rest p.queue o → PlannedOf queues moments n (lines ∷ rest) p.queue o
      at (Sub s) h = later_of queue_in (terms_put s) n (length rest) s.client (steps_from queues n (at_first (slice_index_or moments n [])) lines) (all_client_steps queues (suc n) moments rest) p.queue h
      at (Timer t) h = later_of timer_queue_in (arming_put t) n (length rest) t.client (steps_from queues n (at_first (slice_index_or moments n [])) lines) (all_client_steps queues (suc n) moments rest) p.queue h
      at (Inbox i) h = later_of inbox_queue_in (inbox_terms_put i) n (length rest) i.client (steps_from queues n (at_first (slice_index_or moments n [])) lines) (all_client_steps queues (suc n) moments rest) p.queue h

  all_made : (n : ℕ) (clients : List (List ClientLine)) → AllByRecursion (Of_planned n clients) (objects_of queues n clients)
  all_made n [] = tt
  all_made n (lines ∷ rest) =
      let alike : Alike queues n (at_first []) (at_first (slice_index_or moments n [])) = record { numbers = record { subs = refl; timers = refl; inboxes = refl }; turns = refl } in
      all_append (Of_planned n (lines ∷ rest)) (client_objects queues n lines) (objects_of queues (suc n) rest)
      (all_weaker (PlannedLater queues n 0 0 0 (all_steps (steps_from queues n (at_first (slice_index_or moments n [])) lines))) (Of_planned n (lines ∷ rest)) (first_client n lines rest)
      (client_objects queues n lines) (made_from queues n (at_first []) (at_first (slice_index_or moments n [])) alike lines))
      (all_weaker (Of_planned (suc n) rest) (Of_planned n (lines ∷ rest)) (later_client n lines rest) (objects_of queues (suc n) rest) (all_made (suc n) rest))

  -- so it is of each object of a script in the order of its record
  pub all_planned : (clients : List (List ClientLine)) → AllByRecursion (λ (p : Planned). PlannedOf queues moments 0 clients p.queue p.object) (by_kind (objects_of queues 0 clients))
  all_planned clients =
      let objects : List Planned = objects_of queues 0 clients in
      let all : AllByRecursion (Of_planned 0 clients) objects = all_made 0 clients in
      all_append (Of_planned 0 clients) (filter is_sub objects ++ filter is_timer objects) (filter is_inbox objects)
      (all_append (Of_planned 0 clients) (filter is_sub objects) (filter is_timer objects) (all_filtered (Of_planned 0 clients) is_sub objects all)
      (all_filtered (Of_planned 0 clients) is_timer objects all))
      (all_filtered (Of_planned 0 clients) is_inbox objects all)
