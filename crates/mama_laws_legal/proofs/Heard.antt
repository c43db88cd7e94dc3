-- What the bridge heard, and by which port it came.
use Rattle.std.specs.Prelude.{replicate}
use Rattle.std.specs.List.{flat_map, list_any}
use Rattle.std.proofs.Common.{◌≡◌, ℕ, zero, suc, ◌+◌, ◌<◌, ◌==◌, Bool, true, false, ◌||◌, cond, List, [], ◌∷◌, ◌++◌, refl, sym, ◌∙◌, ap, arith, ⊎_elim, append_assoc}
use Rattle.std.proofs.lemmas.Bool.{and_parts, or_left, or_right, or_cases, or_from, or_parts, both_ways, cases_eq, eqb-true, eq-eqb, false_from_ne_true}
use Rattle.std.proofs.lemmas.List.Concat.{flat_map-append}
use Rattle.std.proofs.lemmas.List.Folds.{list_any-append}
use Rattle.mama_journal.specs.Journal.{all_below}
use Rattle.mama_journal.specs.Lane.{by_port}
use Rattle.mama_event.specs.declared.shape.Shape.{Shape}
use Rattle.mama_event.specs.declared.order.Order.TheVariants as order
use Rattle.mama_event.specs.declared.to_bridge.BridgeNote.{BridgeNote}
use Rattle.mama_event.specs.declared.to_bridge.BridgeNote.TheVariants as b
use Rattle.mama_event.specs.Ports.{clients_of, publishers_of, queues_of}
use Rattle.mama_rules_services.specs.Bridge.{BridgeEvent, joins, no_event, opens, from_client, from_publisher, from_queue, put_by, heard, ends_client, ends_sends, settles, is_settling}
use Rattle.mama_rules_services.specs.Ports.{Putter, ByClient, ByPublisher, ByQueue, bridge_putter}
use Rattle.mama_rules_queue.specs.Queue.{QueuePut}
use Rattle.mama_script.specs.declared.client.ClientLine.{ClientLine}
use Rattle.mama_script.specs.declared.client.ClientLine.TheVariants as line
use Rattle.mama_rules_rounds.specs.Client.{Standing, bridge_part, line_steps, after_line, steps_from}
use Rattle.mama_rules_rounds.specs.World.{is_empty}
use Rattle.mama_rules_legal.specs.Edges.{all_steps}
use Rattle.mama_laws_legal.proofs.Lists.{by_port-append}
use Rattle.mama_laws_legal.proofs.Putters.{by_bridge_port}
use Rattle.mama_laws_legal.proofs.Endings.{is_joining}

-- ---- the last words of each actor

abbrev pub is_client_done : BridgeNote → Bool
is_client_done b.ClientDone = true
is_client_done _ = false

abbrev pub is_sends_done : BridgeNote → Bool
is_sends_done b.SendsDone = true
is_sends_done _ = false

abbrev pub is_settled : BridgeNote → Bool
is_settled b.Settled = true
is_settled _ = false

-- ---- ports

pub putter_client : (shape : Shape) (c : ℕ) → c < clients_of shape → bridge_putter shape c ≡ ByClient c
putter_client shape c small = by_bridge_port shape (λ port who. port ≡ c → who ≡ ByClient c)
    (λ d within same. ap ByClient same)
    (λ p within same. absurd (omega arith))
    (λ q within same. absurd (omega arith))
    (λ port past same. absurd (omega arith)) c refl

pub putter_publisher : (shape : Shape) (p : ℕ) → p < publishers_of shape → bridge_putter shape (clients_of shape + p) ≡ ByPublisher p
putter_publisher shape p small = by_bridge_port shape (λ port who. port ≡ clients_of shape + p → who ≡ ByPublisher p)
    (λ d within same. absurd (omega arith))
    (λ r within same. let is : r ≡ p = omega arith in ap ByPublisher is)
    (λ q within same. absurd (omega arith))
    (λ port past same. absurd (omega arith)) (clients_of shape + p) refl

pub putter_queue : (shape : Shape) (q : ℕ) → q < queues_of shape → bridge_putter shape (clients_of shape + publishers_of shape + q) ≡ ByQueue q
putter_queue shape q small = by_bridge_port shape (λ port who. port ≡ clients_of shape + publishers_of shape + q → who ≡ ByQueue q)
    (λ d within same. absurd (omega arith))
    (λ r within same. absurd (omega arith))
    (λ k within same. let is : k ≡ q = omega arith in ap ByQueue is)
    (λ port past same. absurd (omega arith)) (clients_of shape + publishers_of shape + q) refl

-- ---- what came by a port was heard, and the other way round

pub heard_up : (shape : Shape) (k : ℕ) (n : BridgeNote → Bool) (t : BridgeEvent → Bool) → ((note : BridgeNote) → n note ≡ true → t (put_by (bridge_putter shape k) note) ≡ true)
    → (journal : List (ℕ × BridgeNote)) → list_any n (by_port k journal) ≡ true → list_any t (heard shape journal) ≡ true
heard_up shape k n t means [] h = absurd (both_ways false refl h)
heard_up shape k n t means (e ∷ es) h = by_case (e.0 == k) refl h (heard_up shape k n t means es)
  where
    by_case : (b : Bool) → (e.0 == k) ≡ b → list_any n (cond b (e.1 ∷ by_port k es) (by_port k es)) ≡ true
        → (list_any n (by_port k es) ≡ true → list_any t (heard shape es) ≡ true) → (t (put_by (bridge_putter shape e.0) e.1) || list_any t (heard shape es)) ≡ true
    by_case true same h ih = ⊎_elim
        (λ here. or_left (t (put_by (bridge_putter shape e.0) e.1)) (list_any t (heard shape es)) (ap (λ (m : ℕ). t (put_by (bridge_putter shape m) e.1)) (eqb-true e.0 k same) ∙ means e.1 here))
        (λ later. or_right (t (put_by (bridge_putter shape e.0) e.1)) (list_any t (heard shape es)) (ih later))
        (or_cases (n e.1) (list_any n (by_port k es)) h)
    by_case false same h ih = or_right (t (put_by (bridge_putter shape e.0) e.1)) (list_any t (heard shape es)) (ih h)

pub heard_down : (shape : Shape) (k : ℕ) (n : BridgeNote → Bool) (t : BridgeEvent → Bool) → ((port : ℕ) (note : BridgeNote) → t (put_by (bridge_putter shape port) note) ≡ true → (port ≡ k) × (n note ≡ true))
    → (journal : List (ℕ × BridgeNote)) → list_any t (heard shape journal) ≡ true → list_any n (by_port k journal) ≡ true
heard_down shape k n t means [] h = absurd (both_ways false refl h)
heard_down shape k n t means (e ∷ es) h = ⊎_elim
    (λ here. let parts = means e.0 e.1 here in
    ap (λ (b : Bool). list_any n (cond b (e.1 ∷ by_port k es) (by_port k es))) (eq-eqb e.0 k parts.0) ∙ or_left (n e.1) (list_any n (by_port k es)) parts.1)
    (λ later. either (e.0 == k) (heard_down shape k n t means es later))
    (or_cases (t (put_by (bridge_putter shape e.0) e.1)) (list_any t (heard shape es)) h)
  where
    either : (b : Bool) → list_any n (by_port k es) ≡ true → list_any n (cond b (e.1 ∷ by_port k es) (by_port k es)) ≡ true
    either true h = or_right (n e.1) (list_any n (by_port k es)) h
    either false h = h

-- ---- who says what

cond_off : {X : Type 0} (t : X → Bool) (b : Bool) (x y : X) → t x ≡ false → t y ≡ false → t (cond b x y) ≡ false
cond_off t true x y h g = h
cond_off t false x y h g = g

sends_client : (p c : ℕ) (note : BridgeNote) → ends_sends p (from_client c note) ≡ false
sends_client p c (b.Join s terms tag) = cond_off (ends_sends p) (s.client == c) (joins s terms tag) no_event refl refl
sends_client p c (b.OpenInbox i terms tag) = cond_off (ends_sends p) (i.client == c) (opens i terms tag) no_event refl refl
sends_client p c _ = refl

sends_publisher : (p r : ℕ) (note : BridgeNote) → ends_sends p (from_publisher r note) ≡ true → (r ≡ p) × (is_sends_done note ≡ true)
sends_publisher p r b.SendsDone h = (eqb-true r p h, refl)
sends_publisher p r _ h = absurd (both_ways false refl h)

sends_queue : (p k : ℕ) (note : BridgeNote) → ends_sends p (from_queue k note) ≡ false
sends_queue p k b.Bye = refl
sends_queue p k _ = refl

pub who_ends_sends : (shape : Shape) (p port : ℕ) (note : BridgeNote) → ends_sends p (put_by (bridge_putter shape port) note) ≡ true → (port ≡ clients_of shape + p) × (is_sends_done note ≡ true)
who_ends_sends shape p port = by_bridge_port shape (λ port who. (note : BridgeNote) → ends_sends p (put_by who note) ≡ true → (port ≡ clients_of shape + p) × (is_sends_done note ≡ true))
    (λ c within note h. absurd (both_ways (ends_sends p (from_client c note)) (sends_client p c note) h))
    (λ r within note h. let parts = sends_publisher p r note h in (ap (λ (m : ℕ). clients_of shape + m) parts.0, parts.1))
    (λ q within note h. absurd (both_ways (ends_sends p (from_queue q note)) (sends_queue p q note) h))
    (λ n past note h. absurd (both_ways false refl h)) port

done_client : (c d : ℕ) (note : BridgeNote) → ends_client c (from_client d note) ≡ true → (d ≡ c) × (is_client_done note ≡ true)
done_client c d (b.Join s terms tag) h = absurd (both_ways (ends_client c (from_client d (b.Join s terms tag))) (cond_off (ends_client c) (s.client == d) (joins s terms tag) no_event refl refl) h)
done_client c d (b.OpenInbox i terms tag) h = absurd (both_ways (ends_client c (from_client d (b.OpenInbox i terms tag))) (cond_off (ends_client c) (i.client == d) (opens i terms tag) no_event refl refl) h)
done_client c d b.ClientDone h = (eqb-true d c h, refl)
done_client c d _ h = absurd (both_ways false refl h)

done_publisher : (c r : ℕ) (note : BridgeNote) → ends_client c (from_publisher r note) ≡ false
done_publisher c r b.Bye = refl
done_publisher c r _ = refl

done_queue : (c k : ℕ) (note : BridgeNote) → ends_client c (from_queue k note) ≡ false
done_queue c k b.Bye = refl
done_queue c k _ = refl

pub who_ends_client : (shape : Shape) (c port : ℕ) (note : BridgeNote) → ends_client c (put_by (bridge_putter shape port) note) ≡ true → (port ≡ c) × (is_client_done note ≡ true)
who_ends_client shape c port = by_bridge_port shape (λ port who. (note : BridgeNote) → ends_client c (put_by who note) ≡ true → (port ≡ c) × (is_client_done note ≡ true))
    (λ d within note h. done_client c d note h)
    (λ r within note h. absurd (both_ways (ends_client c (from_publisher r note)) (done_publisher c r note) h))
    (λ q within note h. absurd (both_ways (ends_client c (from_queue q note)) (done_queue c q note) h))
    (λ n past note h. absurd (both_ways false refl h)) port

joins_publisher : (r : ℕ) (note : BridgeNote) → is_joining (from_publisher r note) ≡ false
joins_publisher r b.Bye = refl
joins_publisher r _ = refl

joins_queue : (k : ℕ) (note : BridgeNote) → is_joining (from_queue k note) ≡ false
joins_queue k b.Bye = refl
joins_queue k _ = refl

pub who_joins : (shape : Shape) (port : ℕ) (note : BridgeNote) → is_joining (put_by (bridge_putter shape port) note) ≡ true → port < clients_of shape
who_joins shape port = by_bridge_port shape (λ port who. (note : BridgeNote) → is_joining (put_by who note) ≡ true → port < clients_of shape)
    (λ d within note h. within)
    (λ r within note h. absurd (both_ways (is_joining (from_publisher r note)) (joins_publisher r note) h))
    (λ q within note h. absurd (both_ways (is_joining (from_queue q note)) (joins_queue q note) h))
    (λ n past note h. absurd (both_ways false refl h)) port

-- the last words of a port are heard
pub hears_client : (shape : Shape) (c : ℕ) (journal : List (ℕ × BridgeNote)) → c < clients_of shape → list_any is_client_done (by_port c journal) ≡ true → list_any (ends_client c) (heard shape journal) ≡ true
hears_client shape c journal small = heard_up shape c is_client_done (ends_client c) (λ note is. ap (λ (who : Putter). ends_client c (put_by who note)) (putter_client shape c small) ∙ said note is) journal
  where
    said : (note : BridgeNote) → is_client_done note ≡ true → ends_client c (from_client c note) ≡ true
    said b.ClientDone is = eq-eqb c c refl
    said _ is = absurd (both_ways false refl is)

pub hears_sends : (shape : Shape) (p : ℕ) (journal : List (ℕ × BridgeNote)) → p < publishers_of shape → list_any is_sends_done (by_port (clients_of shape + p) journal) ≡ true → list_any (ends_sends p) (heard shape journal) ≡ true
hears_sends shape p journal small = heard_up shape (clients_of shape + p) is_sends_done (ends_sends p) (λ note is. ap (λ (who : Putter). ends_sends p (put_by who note)) (putter_publisher shape p small) ∙ said note is) journal
  where
    said : (note : BridgeNote) → is_sends_done note ≡ true → ends_sends p (from_publisher p note) ≡ true
    said b.SendsDone is = eq-eqb p p refl
    said _ is = absurd (both_ways false refl is)

pub hears_settled : (shape : Shape) (p : ℕ) (journal : List (ℕ × BridgeNote)) → p < publishers_of shape → list_any is_settled (by_port (clients_of shape + p) journal) ≡ true → list_any (settles p) (heard shape journal) ≡ true
hears_settled shape p journal small = heard_up shape (clients_of shape + p) is_settled (settles p) (λ note is. ap (λ (who : Putter). settles p (put_by who note)) (putter_publisher shape p small) ∙ said note is) journal
  where
    said : (note : BridgeNote) → is_settled note ≡ true → settles p (from_publisher p note) ≡ true
    said b.Settled is = eq-eqb p p refl
    said _ is = absurd (both_ways false refl is)

-- ---- what a client says last

-- a test passes at the last alone
pub record SaidLast {V : Type 0} (test : V → Bool) (xs : List V) : Type 0 where
  pub front : List V
  pub last : V
  pub whole : xs ≡ front ++ last ∷ []
  pub is : test last ≡ true
  pub before : list_any test front ≡ false

pub no_pause : {V : Type 0} (part : QueuePut → List V) (n : ℕ) → flat_map part (all_steps (replicate n [])) ≡ []
no_pause part zero = refl
no_pause part (suc n) = no_pause part n

line_not_done : (queues c : ℕ) (s : Standing) (l : ClientLine) → list_any is_client_done (flat_map bridge_part (all_steps (line_steps queues c s l))) ≡ false
line_not_done queues c s (line.Sub topic kind queue cache recaps faults plan) = refl
line_not_done queues c s (line.Timer queue interval plan) = refl
line_not_done queues c s (line.Inbox queue faults plan) = refl
line_not_done queues c s (line.Order (order.Stop x)) = refl
line_not_done queues c s (line.Order (order.Disarm x)) = refl
line_not_done queues c s (line.Order (order.Close x)) = refl
line_not_done queues c s (line.Order (order.Ask x topic fids)) = refl
line_not_done queues c s (line.Now m) = refl
line_not_done queues c s line.NowClock = refl
line_not_done queues c s (line.Pause n) = ap (list_any is_client_done) (no_pause bridge_part n)

pub part_of_steps : {V : Type 0} (part : QueuePut → List V) (xs ys : List (List QueuePut)) → flat_map part (all_steps (xs ++ ys)) ≡ flat_map part (all_steps xs) ++ flat_map part (all_steps ys)
part_of_steps part xs ys = ap (flat_map part) (flat_map-append (λ step. step) xs ys) ∙ flat_map-append part (all_steps xs) (all_steps ys)

pub steps_said : (queues c : ℕ) (s : Standing) (ls : List ClientLine) → SaidLast is_client_done (flat_map bridge_part (all_steps (steps_from queues c s ls)))
steps_said queues c s [] = record { front = []; last = b.ClientDone; whole = refl; is = refl; before = refl }
steps_said queues c s (l ∷ ls) =
    let ih = steps_said queues c (after_line s l) ls in
    let here : List BridgeNote = flat_map bridge_part (all_steps (line_steps queues c s l)) in
    record {
      front = here ++ ih.front;
      last = ih.last;
      whole = part_of_steps bridge_part (line_steps queues c s l) (steps_from queues c (after_line s l) ls)
          ∙ ap (λ (ws : List BridgeNote). here ++ ws) ih.whole ∙ sym (append_assoc here ih.front (ih.last ∷ []));
      is = ih.is;
      before = list_any-append is_client_done here ih.front ∙ or_from (list_any is_client_done here) (list_any is_client_done ih.front) (line_not_done queues c s l) ih.before;
    }

pub said_has : {V : Type 0} (test : V → Bool) (xs : List V) → SaidLast test xs → list_any test xs ≡ true
said_has test xs said = ap (list_any test) said.whole ∙ list_any-append test said.front (said.last ∷ []) ∙ or_right (list_any test said.front) (list_any test (said.last ∷ [])) (or_left (test said.last) false said.is)

-- nothing stands behind what is said last
abbrev pub first_of : {V : Type 0} → V → List V → V
first_of d [] = d
first_of d (x ∷ xs) = x

abbrev pub rest_of : {V : Type 0} → List V → List V
rest_of [] = []
rest_of (x ∷ xs) = xs

pub no_end : {V : Type 0} (cs : List V) (x : V) (bs : List V) → cs ++ x ∷ bs ≡ [] → ⊥
no_end [] x bs h = both_ways false refl (ap is_empty h)
no_end (a ∷ cs) x bs h = both_ways false refl (ap is_empty h)

pub nothing_after : {V : Type 0} (test : V → Bool) (cs : List V) (x : V) (bs ys : List V) (n : V) → cs ++ x ∷ bs ≡ ys ++ n ∷ [] → list_any test ys ≡ false → list_any test cs ≡ false
nothing_after test [] x bs ys n same none = refl
nothing_after test (a ∷ cs) x bs [] n same none = absurd (no_end cs x bs (ap rest_of same))
nothing_after test (a ∷ cs) x bs (y ∷ ys) n same none =
    let parts = or_parts (test y) (list_any test ys) none in
    or_from (test a) (list_any test cs) (ap test (ap (first_of a) same) ∙ parts.0) (nothing_after test cs x bs ys n (ap rest_of same) parts.1)

-- ---- once settling has begun nothing is joined, where each client's last words are its last

pub below_at : (n : ℕ) (f : ℕ → Bool) (k : ℕ) → k < n → all_below n f ≡ true → f k ≡ true
below_at zero f k small h = absurd (omega arith)
below_at (suc n) f k small h =
    let parts = and_parts (all_below n f) (f n) h in
    ⊎_elim (λ same. ap f same ∙ parts.1) (λ apart. below_at n f k (omega arith) parts.0) (cases_eq k n)

pub settled_client : (shape : Shape) (es : List BridgeEvent) (c : ℕ) → c < clients_of shape → is_settling shape es ≡ true → list_any (ends_client c) es ≡ true
settled_client shape es c small h =
    below_at (clients_of shape) (λ c. list_any (ends_client c) es) c small
    (and_parts (all_below (clients_of shape) (λ c. list_any (ends_client c) es)) (all_below (publishers_of shape) (λ r. list_any (ends_sends r) es)) h).0

pub settled_publisher : (shape : Shape) (es : List BridgeEvent) (p : ℕ) → p < publishers_of shape → is_settling shape es ≡ true → list_any (ends_sends p) es ≡ true
settled_publisher shape es p small h =
    below_at (publishers_of shape) (λ p. list_any (ends_sends p) es) p small
    (and_parts (all_below (clients_of shape) (λ c. list_any (ends_client c) es)) (all_below (publishers_of shape) (λ r. list_any (ends_sends r) es)) h).1

no_late : (t : BridgeEvent → Bool) → ((shape : Shape) (port : ℕ) (note : BridgeNote) → t (put_by (bridge_putter shape port) note) ≡ true → port < clients_of shape) → (shape : Shape) (before : List (ℕ × BridgeNote)) (e : ℕ × BridgeNote) (after : List (ℕ × BridgeNote))
    → ((c : ℕ) → c < clients_of shape → SaidLast is_client_done (by_port c (before ++ e ∷ after))) → is_settling shape (heard shape before) ≡ true → t (put_by (bridge_putter shape e.0) e.1) ≡ false
no_late t who shape before e after said settling = false_from_ne_true (t (put_by (bridge_putter shape e.0) e.1)) (λ joining.
    let small : e.0 < clients_of shape = who shape e.0 e.1 joining in
    let last = said e.0 small in
    let there : list_any is_client_done (by_port e.0 before) ≡ true =
    heard_down shape e.0 is_client_done (ends_client e.0) (λ port note. who_ends_client shape e.0 port note) before (settled_client shape (heard shape before) e.0 small settling) in
    let split : by_port e.0 before ++ e.1 ∷ by_port e.0 after ≡ last.front ++ last.last ∷ [] =
    ap (λ (b : Bool). by_port e.0 before ++ cond b (e.1 ∷ by_port e.0 after) (by_port e.0 after)) (sym (eq-eqb e.0 e.0 refl)) ∙ sym (by_port-append e.0 before (e ∷ after)) ∙ last.whole in
    both_ways (list_any is_client_done (by_port e.0 before)) (nothing_after is_client_done (by_port e.0 before) e.1 (by_port e.0 after) last.front last.last split last.before) there)

pub no_late_join : (shape : Shape) (before : List (ℕ × BridgeNote)) (e : ℕ × BridgeNote) (after : List (ℕ × BridgeNote))
    → ((c : ℕ) → c < clients_of shape → SaidLast is_client_done (by_port c (before ++ e ∷ after))) → is_settling shape (heard shape before) ≡ true → is_joining (put_by (bridge_putter shape e.0) e.1) ≡ false
no_late_join = no_late is_joining who_joins

-- ---- nor is an inbox opened

abbrev pub is_opening : BridgeEvent → Bool
is_opening (opens i terms tag) = true
is_opening _ = false

opens_publisher : (r : ℕ) (note : BridgeNote) → is_opening (from_publisher r note) ≡ false
opens_publisher r b.Bye = refl
opens_publisher r _ = refl

opens_queue : (k : ℕ) (note : BridgeNote) → is_opening (from_queue k note) ≡ false
opens_queue k b.Bye = refl
opens_queue k _ = refl

who_opens : (shape : Shape) (port : ℕ) (note : BridgeNote) → is_opening (put_by (bridge_putter shape port) note) ≡ true → port < clients_of shape
who_opens shape port = by_bridge_port shape (λ port who. (note : BridgeNote) → is_opening (put_by who note) ≡ true → port < clients_of shape)
    (λ d within note h. within)
    (λ r within note h. absurd (both_ways (is_opening (from_publisher r note)) (opens_publisher r note) h))
    (λ q within note h. absurd (both_ways (is_opening (from_queue q note)) (opens_queue q note) h))
    (λ n past note h. absurd (both_ways false refl h)) port

pub no_late_opening : (shape : Shape) (before : List (ℕ × BridgeNote)) (e : ℕ × BridgeNote) (after : List (ℕ × BridgeNote))
    → ((c : ℕ) → c < clients_of shape → SaidLast is_client_done (by_port c (before ++ e ∷ after))) → is_settling shape (heard shape before) ≡ true → is_opening (put_by (bridge_putter shape e.0) e.1) ≡ false
no_late_opening = no_late is_opening who_opens
